-- What the commands do to the pools on the files.
use Rattle.std.specs.Prelude.{◌≡◌, ◌⊎◌, ℕ, true, false, List}
use Rattle.pool_command.specs.Tables.{list_text, scrub_text, status_text}
use Rattle.pool_command.specs.declared.listing.VolumeRow.{VolumeRow}
use Rattle.pool_command.specs.declared.scrubbing.ScrubReport.{ScrubReport}
use Rattle.pool_command.specs.declared.status.PoolStatus.{PoolStatus}
use Rattle.pool_model.specs.View.{View, now_of}
use Rattle.pool_model.specs.declared.item.Change.{Change}
use Rattle.pool_model.specs.declared.refusal.Refusal.{Refusal}
use Rattle.pool_model.specs.declared.refusal.Refusal.TheVariants.{NoMemory}
use Rattle.pool_model.specs.declared.step.Step.{Step}
use Rattle.pool_model.specs.declared.step.Step.TheVariants.{Act, Read, Write}
use Rattle.pool_model.specs.declared.step.Reply.{Reply}
use Rattle.pool_model.specs.declared.step.Reply.TheVariants.{Bytes, Committed, Refused}
use Rattle.pool_steps.specs.declared.steps.PoolSteps.{Ghosts as StepGhosts}
use Rattle.pool_steps.specs.Goes.{Goes}
use Rattle.command_steps.specs.Changes.{Changes, Commits}
use Rattle.commands.specs.Rows.{AreRowsOf}
use Rattle.commands.specs.declared.pools.Pools.{Ghosts}
use Rattle.commands.specs.declared.stop.Stop.{Stop}
use Rattle.commands.specs.declared.stop.Stop.TheVariants as stop

-- the items of a command: writer 1's, with number 1
abbrev pub act : Change → Step
act change = Act (record { writer = 1; number = 1; change = change })

-- a write of these bytes, as a command's item
abbrev pub written : List ℕ → ℕ → List ℕ → Step
written volume offset bytes = Write (record { writer = 1; number = 1; volume = volume; offset = offset; bytes = bytes })

-- the text is the table of the volumes that the pool has now
pub record IsTableOf {P : Type 0} (steps : StepGhosts P) (pool : P) (text : List ℕ) : Type 0 where
  pub rows : List VolumeRow
  pub are : (v : View) → steps.represents pool v → AreRowsOf (now_of v) rows
  pub text_is : text ≡ list_text rows

-- the text is what is told of the pool
pub record IsStatusOf {P F : Type 0} (shows : P → F → PoolStatus → Type 0) (pool : P) (front : F) (text : List ℕ) : Type 0 where
  pub status : PoolStatus
  pub shown : shows pool front status
  pub text_is : text ≡ status_text status

module _ {S P F R : Type 0} (pools : Ghosts S P F R) where
  -- the pool on these files was opened, and left as it was
  pub record IsOpened (old : S) (files : List (List ℕ)) (pool last : P) (front : F) (new : S) : Type 0 where
    pub between : S
    pub opens : pools.opens old files pool front between
    pub closes : pools.closes between last front new

  module _ (steps : StepGhosts P) where
    -- its volumes were told
    pub record IsListed (old : S) (files : List (List ℕ)) (text : List ℕ) (new : S) : Type 0 where
      pub pool : P
      pub front : F
      pub opened : IsOpened old files pool pool front new
      pub table : IsTableOf steps pool text

    -- these bytes were read
    pub record IsRead (old : S) (files : List (List ℕ)) (name : List ℕ) (offset len : ℕ) (bytes : List ℕ) (new : S) : Type 0 where
      pub pool : P
      pub last : P
      pub front : F
      pub opened : IsOpened old files pool last front new
      pub goes : Goes steps.represents steps.answers_tell steps.links pool (Read name offset len) (Bytes bytes) last

    -- the read was refused
    pub record IsReadRefused (old : S) (files : List (List ℕ)) (name : List ℕ) (offset len : ℕ) (cause : Refusal) (new : S) : Type 0 where
      pub pool : P
      pub last : P
      pub front : F
      pub opened : IsOpened old files pool last front new
      pub reply : Reply
      pub goes : Goes steps.represents steps.answers_tell steps.links pool (Read name offset len) reply last
      pub why : (reply ≡ Refused cause) ⊎ (cause ≡ NoMemory)

    -- why a read is not done: the pool was not opened, or the read was refused
    abbrev pub IsNotRead : S → List (List ℕ) → List ℕ → ℕ → ℕ → S → Stop R → Type 0
    IsNotRead old files name offset len new (stop.Pools cause) = pools.refuses old files cause new
    IsNotRead old files name offset len new (stop.Pool cause) = IsReadRefused old files name offset len cause new
    IsNotRead old files name offset len new other = ⊥

  -- what it is was told
  pub record IsShown (old : S) (files : List (List ℕ)) (text : List ℕ) (new : S) : Type 0 where
    pub pool : P
    pub front : F
    pub opened : IsOpened old files pool pool front new
    pub told : IsStatusOf pools.shows pool front text

  module _ (steps : StepGhosts P) where
    -- The pool on these files was opened, and took the item: this was the last reply.
    pub record IsTried (old : S) (files : List (List ℕ)) (timestamp : ℕ) (item : Step) (reply : Reply) (last : P) (front : F) (new : S) : Type 0 where
      pub pool : P
      pub opened : IsOpened old files pool last front new
      pub changes : Changes steps timestamp pool item reply last

    -- it was committed, and no disk failed
    pub record IsChanged (old : S) (files : List (List ℕ)) (timestamp : ℕ) (item : Step) (new : S) : Type 0 where
      pub group : ℕ
      pub last : P
      pub front : F
      pub tried : IsTried old files timestamp item (Committed group) last front new
      pub whole : pools.has_lost last front ≡ false

    -- it was committed, but a disk failed
    pub record IsChangedWithout (old : S) (files : List (List ℕ)) (timestamp : ℕ) (item : Step) (new : S) : Type 0 where
      pub group : ℕ
      pub last : P
      pub front : F
      pub tried : IsTried old files timestamp item (Committed group) last front new
      pub lost : pools.has_lost last front ≡ true

    -- it was refused
    pub record IsRefusedBy (old : S) (files : List (List ℕ)) (timestamp : ℕ) (item : Step) (cause : Refusal) (new : S) : Type 0 where
      pub reply : Reply
      pub last : P
      pub front : F
      pub tried : IsTried old files timestamp item reply last front new
      pub why : (reply ≡ Refused cause) ⊎ (cause ≡ NoMemory)

    -- why a change is not done: the pool was not opened, the change was refused, or it was committed and
    -- a disk failed
    abbrev pub IsNotChanged : S → List (List ℕ) → ℕ → Step → S → Stop R → Type 0
    IsNotChanged old files timestamp item new (stop.Pools cause) = pools.refuses old files cause new
    IsNotChanged old files timestamp item new (stop.Pool cause) = IsRefusedBy old files timestamp item cause new
    IsNotChanged old files timestamp item new stop.DiskLost = IsChangedWithout old files timestamp item new
    IsNotChanged old files timestamp item new other = ⊥

    -- The pool on these files was scrubbed, which told this, and committed what it had: this was the last reply.
    pub record IsScrubTried (old : S) (files : List (List ℕ)) (timestamp : ℕ) (report : ScrubReport) (reply : Reply) (last : P) (front : F) (new : S) : Type 0 where
      pub between : S
      pub pool : P
      pub scrubs : pools.scrubs old files pool front report between
      pub commits : Commits steps timestamp pool reply last
      pub closes : pools.closes between last front new

    -- it was committed, no disk failed behind the look, and the report is the text
    pub record IsScrubbed (old : S) (files : List (List ℕ)) (timestamp : ℕ) (text : List ℕ) (new : S) : Type 0 where
      pub report : ScrubReport
      pub group : ℕ
      pub last : P
      pub front : F
      pub tried : IsScrubTried old files timestamp report (Committed group) last front new
      pub whole : pools.has_lost last front ≡ false
      pub text_is : text ≡ scrub_text report

    -- it was committed, but a disk failed
    pub record IsScrubbedWithout (old : S) (files : List (List ℕ)) (timestamp : ℕ) (new : S) : Type 0 where
      pub report : ScrubReport
      pub group : ℕ
      pub last : P
      pub front : F
      pub tried : IsScrubTried old files timestamp report (Committed group) last front new
      pub lost : pools.has_lost last front ≡ true

    -- it was refused
    pub record IsScrubRefusedBy (old : S) (files : List (List ℕ)) (timestamp : ℕ) (cause : Refusal) (new : S) : Type 0 where
      pub report : ScrubReport
      pub reply : Reply
      pub last : P
      pub front : F
      pub tried : IsScrubTried old files timestamp report reply last front new
      pub why : (reply ≡ Refused cause) ⊎ (cause ≡ NoMemory)

    -- why a scrub is not done: the pool was not scrubbed, the commit behind it was refused, or it was
    -- committed and a disk failed
    abbrev pub IsNotScrubbed : S → List (List ℕ) → ℕ → S → Stop R → Type 0
    IsNotScrubbed old files timestamp new (stop.Pools cause) = pools.refuses_scrub old files cause new
    IsNotScrubbed old files timestamp new (stop.Pool cause) = IsScrubRefusedBy old files timestamp cause new
    IsNotScrubbed old files timestamp new stop.DiskLost = IsScrubbedWithout old files timestamp new
    IsNotScrubbed old files timestamp new other = ⊥

  -- the pool was not opened; or memory ran out behind that, or a name is no text
  abbrev pub IsNotTold : S → List (List ℕ) → S → Stop R → Type 0
  IsNotTold old files new (stop.Pools cause) = pools.refuses old files cause new
  IsNotTold old files new (stop.Pool cause) = (pool : P) × (front : F) × IsOpened old files pool pool front new
  IsNotTold old files new other = ⊥
