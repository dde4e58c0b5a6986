-- The lines that stand behind `threads`.
use Rattle.std.specs.Prelude.{◌≡◌, List, ◌++◌, Bool, true, false, not, if◌then◌else◌}
use Rattle.std.specs.List.{AllByRecursion, list_any}
use Rattle.schedule_lines.specs.declared.command.Command.{Command}
use Rattle.schedule_lines.specs.declared.command.Command.TheVariants.{Hold, Release, Write, Create, Snapshot, Clone, Destroy, Read}

-- a line of a writer
abbrev pub is_writers : Command → Bool
is_writers (Hold writer) = true
is_writers (Release writer) = true
is_writers (Write line) = true
is_writers (Create line) = true
is_writers (Snapshot line) = true
is_writers (Clone line) = true
is_writers (Destroy line) = true
is_writers _ = false

-- a line that reads what all accepted groups make
abbrev pub is_read : Command → Bool
is_read (Read line) = true
is_read _ = false

-- behind these commands this one may stand: a writer's where none of them reads, and one that reads
abbrev pub may_follow : List Command → Command → Bool
may_follow commands command = if is_writers command then not (list_any is_read commands) else is_read command

-- lines of writers, and then such as read
pub record AreThreadLines (commands : List Command) : Type 0 where
  pub writers : List Command
  pub reads : List Command
  pub parts : commands ≡ writers ++ reads
  pub written : AllByRecursion (λ command. is_writers command ≡ true) writers
  pub read : AllByRecursion (λ command. is_read command ≡ true) reads
