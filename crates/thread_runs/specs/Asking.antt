-- The steps that writers ask for.
use Rattle.std.specs.Prelude.{ℕ, List, [], ◌∷◌, nat_eq, Bool, true, false, if◌then◌else◌}
use Rattle.pool_model.specs.declared.step.Step.{Step}
use Rattle.pool_model.specs.declared.step.Step.TheVariants as step
use Rattle.thread_runs.specs.declared.writer_line.Ask.{Ask}
use Rattle.thread_runs.specs.declared.writer_line.Ask.TheVariants.{Hold, Release, Write, Act}
use Rattle.thread_runs.specs.declared.writer_line.WriterLine.{WriterLine}

-- the step that the writer of this number asks for
abbrev pub asked : ℕ → Ask → Step
asked writer Hold = step.Hold writer
asked writer Release = step.Release writer
asked writer (Write number volume offset bytes) = step.Write (record { writer = writer; number = number; volume = volume; offset = offset; bytes = bytes })
asked writer (Act number change) = step.Act (record { writer = writer; number = number; change = change })

-- the step that a line of a writer asks for
abbrev pub step_of : WriterLine → Step
step_of line = asked line.writer line.ask

-- ---- what a step is to threads

-- a writer asks for it
abbrev pub is_asked : Step → Bool
is_asked (step.Hold writer) = true
is_asked (step.Release writer) = true
is_asked (step.Write write) = true
is_asked (step.Act action) = true
is_asked _ = false

-- it reads what all accepted groups make
abbrev pub is_read : Step → Bool
is_read (step.Read name offset len) = true
is_read _ = false

-- it may stand behind lines of which so many read: a writer's where none does, and one that reads
abbrev pub may_follow : ℕ → Step → Bool
may_follow reads s = if is_asked s then nat_eq reads 0 else is_read s

-- the step, where it is so
abbrev pub only_if : Bool → Step → List Step
only_if is s = if is then s ∷ [] else []
