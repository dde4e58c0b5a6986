-- Roles that have their lines.
use Rattle.std.proofs.Common.{◌≡◌, ℕ, List, ◌∷◌, ◌++◌, length, map, Vec, Global}
use Rattle.std.specs.Prelude.{reverse}
use Rattle.thread_runs.specs.declared.seats.Role.{Role}
use Rattle.thread_runs.specs.declared.seats.Role.TheVariants.{Writers, Quiescer, Syncer}
use Rattle.thread_runs.specs.declared.writer_line.WriterLine.{WriterLine}
use Rattle.thread_runs.specs.Dealing.{AreDealt}

-- roles, and stacks that have none yet
pub record AreCasting (threads : ℕ) (lines : List WriterLine) (left : List (Vec WriterLine Global)) (roles : List Role) : Type 0 where
  pub stacks : List (Vec WriterLine Global)
  pub count : length stacks ≡ threads
  pub dealt : AreDealt stacks lines
  pub cast : roles ++ reverse (map Writers left) ≡ Syncer ∷ Quiescer ∷ reverse (map Writers stacks)
