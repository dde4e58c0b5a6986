-- The lines of an input, and the commands among them.
use Rattle.std.specs.Prelude.{◌≡◌, ◌≢◌, ℕ, List, [], ◌∷◌, Option, Some, None}
use Rattle.std.specs.Io.BufRead.{first_piece, drop_through}
use Rattle.std.specs.Io.KnownBytes.{IsAtEnd}
use Rattle.schedule_lines.specs.declared.command.Line.{Line}
use Rattle.schedule_lines.specs.declared.command.Line.TheVariants.{Skipped, Threads, Command as CommandLine}
use Rattle.schedule_lines.specs.declared.command.Command.{Command}
use Rattle.schedule_lines.specs.Grammar.{Spells}

-- the bytes begin with these lines, and the rest is behind them. A line ends with a line feed or with the bytes.
abbrev pub AreLines : List ℕ → List Line → List ℕ → Type 0
AreLines bytes [] rest = bytes ≡ rest
AreLines bytes (line ∷ lines) rest = (bytes ≢ []) × Spells line (first_piece 10 bytes) × AreLines (drop_through 10 bytes) lines rest

-- the same of an input, from one state to a later one, where its bytes are known
abbrev pub ReadsLines : Option (List ℕ) → List Line → Option (List ℕ) → Type 0
ReadsLines None lines new = Unit {0}
ReadsLines (Some bytes) lines None = ⊥
ReadsLines (Some bytes) lines (Some rest) = AreLines bytes lines rest

-- those that ask for something
abbrev pub commands_of : List Line → List Command
commands_of [] = []
commands_of (Skipped ∷ lines) = commands_of lines
commands_of (Threads ∷ lines) = commands_of lines
commands_of (CommandLine command ∷ lines) = command ∷ commands_of lines

-- these commands are read
abbrev pub Reads : Option (List ℕ) → List Command → Option (List ℕ) → Type 0
Reads old commands new = (lines : List Line) × ReadsLines old lines new × (commands_of lines ≡ commands)

-- the commands are all that the input has
abbrev pub IsSchedule : Option (List ℕ) → List Command → Type 0
IsSchedule input commands = (end : Option (List ℕ)) × Reads input commands end × IsAtEnd end
