use Rattle.std.proofs.Common.{◌≤◌, length, drop}
use Rattle.std.specs.Prelude.{◌↔◌}
use Rattle.block_store.specs.Opened.{LieOn}
use Rattle.block_store.proofs.opening.lie_on.Given as goal

-- all lie as they should where those behind do
abbrev pub invariant-loop-shape : goal.invariant-loop-shape
invariant-loop-shape g l = (l.first ≤ length l.disks.starts) × (LieOn l.disks.starts 0 l.shapes ↔ LieOn l.disks.starts l.first (drop l.shape-index l.shapes))
