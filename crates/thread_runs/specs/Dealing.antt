-- Which thread sends which lines.
use Rattle.std.specs.Prelude.{◌≡◌, ℕ, ◌%◌, ◌<◌, ◌==◌, List, ◌∷◌, ◌++◌, length, map, filter, reverse, slice_index_or}
use Rattle.std.specs.declared.alloc.Global.{Global}
use Rattle.std.specs.declared.vec.Vec.{Vec}
use Rattle.thread_runs.specs.declared.seats.Role.{Role}
use Rattle.thread_runs.specs.declared.seats.Role.TheVariants.{Writers, Quiescer, Syncer}
use Rattle.thread_runs.specs.declared.writer_line.WriterLine.{WriterLine}

-- the lines that a thread sends, of so many: those of the writers whose number is the thread's modulo that many, in their order
abbrev pub lines_of : ℕ → ℕ → List WriterLine → List WriterLine
lines_of threads thread lines = filter (λ line. line.writer % threads == thread) lines

-- on each thread's stack its lines of these lie below what it has already: the last one first, so that the first comes on top
abbrev pub AreDealing : List (Vec WriterLine Global) → List WriterLine → List WriterLine → Type 0
AreDealing stacks left all = (thread : ℕ) (d : Vec WriterLine Global) → thread < length stacks →
    (slice_index_or stacks thread d).items ++ reverse (lines_of (length stacks) thread left) ≡ reverse (lines_of (length stacks) thread all)

-- each thread has its lines on a stack, the first one on top
abbrev pub AreDealt : List (Vec WriterLine Global) → List WriterLine → Type 0
AreDealt stacks lines = (thread : ℕ) (d : Vec WriterLine Global) → thread < length stacks → (slice_index_or stacks thread d).items ≡ reverse (lines_of (length stacks) thread lines)

-- the roles of so many threads of writers that send these lines, and of two more; the first thread's is the last
pub record AreCast (threads : ℕ) (lines : List WriterLine) (roles : List Role) : Type 0 where
  pub stacks : List (Vec WriterLine Global)
  pub count : length stacks ≡ threads
  pub dealt : AreDealt stacks lines
  pub cast : roles ≡ Syncer ∷ Quiescer ∷ reverse (map Writers stacks)
