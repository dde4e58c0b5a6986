-- What each command does, and why it doesn't.
use Rattle.std.specs.Prelude.{◌≡◌, ◌⊎◌, ℕ, List, [], Option, Result, Ok, Err}
use Rattle.pool_command.specs.declared.command.Command.{Command}
use Rattle.pool_command.specs.declared.command.Command.TheVariants.{Zpool, Zfs}
use Rattle.pool_command.specs.declared.command.ZpoolCommand.{ZpoolCommand}
use Rattle.pool_command.specs.declared.command.ZpoolCommand.TheVariants as zpool
use Rattle.pool_command.specs.declared.command.ZfsCommand.{ZfsCommand}
use Rattle.pool_command.specs.declared.command.ZfsCommand.TheVariants as zfs
use Rattle.pool_model.specs.declared.item.Change.TheVariants as change
use Rattle.pool_steps.specs.declared.steps.PoolSteps.{Ghosts as StepGhosts}
use Rattle.commands.specs.Does.{IsChanged, IsListed, IsNotChanged, IsNotRead, IsNotScrubbed, IsNotTold, IsRead, IsScrubbed, IsShown, act, written}
use Rattle.commands.specs.Input.{IsInput, IsNoInput}
use Rattle.commands.specs.Serves.{IsServed, IsServeStopped}
use Rattle.commands.specs.Streams.{IsFilled, IsNotFilled, IsReadCut, IsReadWhole}
use Rattle.commands.specs.declared.pools.Pools.{Ghosts}
use Rattle.commands.specs.declared.stop.Stop.{Stop}
use Rattle.commands.specs.declared.stop.Stop.TheVariants as stop

-- what it prints is printed at its end
abbrev pub IsPlain : Command → Type 0
IsPlain (Zfs (zfs.ReadAll name files)) = ⊥
IsPlain (Zfs (zfs.Serve name files)) = ⊥
IsPlain other = Unit {0}

-- it isn't there yet, and nothing is opened
abbrev pub IsNotThere : {S R : Type 0} → S → Stop R → S → Type 0
IsNotThere old stop.NotThere new = new ≡ old
IsNotThere old other new = ⊥

module _ {S P F R : Type 0} (pools : Ghosts S P F R) where
  -- the pool on these files was opened, and put away
  pub record IsExported (old : S) (files : List (List ℕ)) (new : S) : Type 0 where
    pub between : S
    pub pool : P
    pub front : F
    pub opens : pools.opens old files pool front between
    pub exports : pools.exports between pool front new

  -- it was opened, but not put away, for this cause
  pub record IsExportRefused (old : S) (files : List (List ℕ)) (cause : R) (new : S) : Type 0 where
    pub between : S
    pub pool : P
    pub front : F
    pub opens : pools.opens old files pool front between
    pub refuses : pools.refuses_export between pool front cause new

  -- why a pool is not put away: it was not opened, or the export was refused
  abbrev pub IsNotExported : S → List (List ℕ) → S → Stop R → Type 0
  IsNotExported old files new (stop.Pools cause) = pools.refuses old files cause new ⊎ IsExportRefused old files cause new
  IsNotExported old files new other = ⊥

  -- a pool is not made, for a cause of which this is true
  abbrev pub IsNotMade : S → S → Stop R → (R → Type 0) → Type 0
  IsNotMade old new (stop.Pools cause) why = why cause
  IsNotMade old new other why = ⊥

  module _ (steps : StepGhosts P) where
    -- why a line of `zpool` ends before its end
    abbrev pub StopsZpool : ZpoolCommand → ℕ → S → Stop R → S → Type 0
    StopsZpool (zpool.Create pool) timestamp old s new = IsNotMade old new s (λ cause. pools.refuses_new old pool cause new)
    StopsZpool (zpool.Add vdev) timestamp old s new = IsNotThere old s new
    StopsZpool (zpool.Status files) timestamp old s new = IsNotTold pools old files new s
    StopsZpool (zpool.Scrub files) timestamp old s new = IsNotScrubbed pools steps old files timestamp new s
    StopsZpool (zpool.Export files) timestamp old s new = IsNotExported old files new s

    -- what a line of `zpool` does, and prints
    abbrev pub DoesZpool : ZpoolCommand → ℕ → S → List ℕ → S → Type 0
    DoesZpool (zpool.Create pool) timestamp old printed new = (printed ≡ []) × pools.makes old pool new
    DoesZpool (zpool.Add vdev) timestamp old printed new = ⊥
    DoesZpool (zpool.Status files) timestamp old printed new = IsShown pools old files printed new
    DoesZpool (zpool.Scrub files) timestamp old printed new = IsScrubbed pools steps old files timestamp printed new
    DoesZpool (zpool.Export files) timestamp old printed new = (printed ≡ []) × IsExported old files new

    -- what a line of `zfs` does, and prints
    abbrev pub DoesZfs : ZfsCommand → ℕ → Option (List ℕ) → S → List ℕ → S → Type 0
    DoesZfs (zfs.Create size block_size name files) timestamp input old printed new =
        (printed ≡ []) × IsChanged pools steps old files timestamp (act (change.Create name size block_size)) new
    DoesZfs (zfs.Snapshot volume part files) timestamp input old printed new =
        (printed ≡ []) × IsChanged pools steps old files timestamp (act (change.Snapshot volume part)) new
    DoesZfs (zfs.Clone snapshot name files) timestamp input old printed new =
        (printed ≡ []) × IsChanged pools steps old files timestamp (act (change.Clone snapshot name)) new
    DoesZfs (zfs.Destroy name files) timestamp input old printed new =
        (printed ≡ []) × IsChanged pools steps old files timestamp (act (change.Destroy name)) new
    DoesZfs (zfs.List files) timestamp input old printed new = IsListed pools steps old files printed new
    DoesZfs (zfs.Write offset name files) timestamp input old printed new =
        (printed ≡ []) × ((bytes : List ℕ) × IsInput input bytes
        × IsChanged pools steps old files timestamp (written name offset bytes) new)
    DoesZfs (zfs.WriteAll name files) timestamp input old printed new = (printed ≡ []) × IsFilled pools steps old files name input new
    DoesZfs (zfs.Read offset len name files) timestamp input old printed new = IsRead pools steps old files name offset len printed new
    DoesZfs other timestamp input old printed new = ⊥

    -- why it ends before its end
    abbrev pub StopsZfs : ZfsCommand → ℕ → Option (List ℕ) → S → Stop R → S → Type 0
    StopsZfs (zfs.Create size block_size name files) timestamp input old s new =
        IsNotChanged pools steps old files timestamp (act (change.Create name size block_size)) new s
    StopsZfs (zfs.Snapshot volume part files) timestamp input old s new =
        IsNotChanged pools steps old files timestamp (act (change.Snapshot volume part)) new s
    StopsZfs (zfs.Clone snapshot name files) timestamp input old s new =
        IsNotChanged pools steps old files timestamp (act (change.Clone snapshot name)) new s
    StopsZfs (zfs.Destroy name files) timestamp input old s new =
        IsNotChanged pools steps old files timestamp (act (change.Destroy name)) new s
    StopsZfs (zfs.List files) timestamp input old s new = IsNotTold pools old files new s
    StopsZfs (zfs.Write offset name files) timestamp input old s new =
        (IsNoInput s × (new ≡ old)) ⊎ ((bytes : List ℕ) × IsInput input bytes
        × IsNotChanged pools steps old files timestamp (written name offset bytes) new s)
    StopsZfs (zfs.WriteAll name files) timestamp input old s new = IsNotFilled pools steps old files name input new s
    StopsZfs (zfs.Read offset len name files) timestamp input old s new = IsNotRead pools steps old files name offset len new s
    StopsZfs other timestamp input old s new = ⊥

    -- what a line does that prints at its end, and what it prints
    abbrev pub Does : Command → ℕ → Option (List ℕ) → S → List ℕ → S → Type 0
    Does (Zpool command) timestamp input old printed new = DoesZpool command timestamp old printed new
    Does (Zfs command) timestamp input old printed new = DoesZfs command timestamp input old printed new

    -- why a line ends before its end
    abbrev pub Stops : Command → ℕ → Option (List ℕ) → S → Stop R → S → Type 0
    Stops (Zpool command) timestamp input old s new = StopsZpool command timestamp old s new
    Stops (Zfs command) timestamp input old s new = StopsZfs command timestamp input old s new

    -- a line that prints as it goes on ended so: all of a volume is printed, or one is served
    abbrev pub Streams : Command → Option (List ℕ) → S → Option (List ℕ) → Option (List ℕ) → Result (Unit {0}) (Stop R) → S → Type 0
    Streams (Zfs (zfs.ReadAll name files)) input old before after (Ok done) new = IsReadWhole pools steps old files name before after new
    Streams (Zfs (zfs.ReadAll name files)) input old before after (Err s) new = IsReadCut pools steps old files name before after new s
    Streams (Zfs (zfs.Serve name files)) input old before after (Ok done) new = (left : Option (List ℕ)) × IsServed pools steps old files name input left before after new
    Streams (Zfs (zfs.Serve name files)) input old before after (Err s) new = (left : Option (List ℕ)) × IsServeStopped pools steps old files name input left before after new s
    Streams other input old before after ended new = ⊥
