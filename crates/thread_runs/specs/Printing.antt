-- How records are printed.
use Rattle.std.specs.Prelude.{◌≡◌, ℕ, zero, suc, List, [], ◌∷◌, ◌++◌, Option, codes}
use Rattle.std.specs.Io.KnownBytes.{Appends, Keeps}
use Rattle.pool_steps.specs.declared.steps.PoolSteps.{Ghosts}
use Rattle.schedule_lines.specs.declared.command.Command.{Command}
use Rattle.schedule_lines.specs.Grammar.{line_of_command}
use Rattle.schedule_lines.specs.Replies.{IsReplyText}
use Rattle.schedule_lines.specs.Steps.{AsksFor}
use Rattle.shared_pool.specs.declared.recorded.Entry.{Entry}
use Rattle.shared_pool.specs.History.{History, IsRecord, Tells}

-- the line that asks for a step, and in the line behind it the reply, as a comment
pub record IsEntryText (e : Entry) (text : List ℕ) : Type 0 where
  pub command : Command
  pub reply : List ℕ
  pub asks : AsksFor command e.step
  pub said : IsReplyText e.reply reply
  pub lines : text ≡ line_of_command command ++ (codes "\n# " ++ (reply ++ codes "\n"))

-- the output grows by the texts of the entries, in their order
abbrev pub WritesEntries : List Entry → Option (List ℕ) → Option (List ℕ) → Type 0
WritesEntries [] old new = Keeps old new
WritesEntries (e ∷ entries) old new = (between : Option (List ℕ)) × (text : List ℕ) × IsEntryText e text × Appends old between text × WritesEntries entries between new

module _ {C : Type 0} (g : Ghosts C) where
  -- the output grows by a record that replays and tells what the headline says, as it lay there at some moment
  pub record PrintsRecord (old new : Option (List ℕ)) : Type 0 where
    pub history : History C
    pub is_record : IsRecord g history
    pub tells : Tells g history
    pub written : WritesEntries history.entries old new

  -- it grows by so many of them, one behind the other
  abbrev pub PrintsSoMany : ℕ → Option (List ℕ) → Option (List ℕ) → Type 0
  PrintsSoMany zero old new = old ≡ new
  PrintsSoMany (suc count) old new = (between : Option (List ℕ)) × PrintsSoMany count old between × PrintsRecord between new

  -- the output grows by a number of such records, one behind the other, and by nothing else
  abbrev pub PrintsRecords : Option (List ℕ) → Option (List ℕ) → Type 0
  PrintsRecords old new = (count : ℕ) × PrintsSoMany count old new
