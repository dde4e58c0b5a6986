use Rattle.std.proofs.Common.{ℕ, ◌+◌, ◌≤◌, sym, ap, subst, ◌∙◌, arith}
use Rattle.block_store.specs.Config.{IsAllowedSize, sectors_of}
use Rattle.block_store.proofs.Making.{AreMeasured, measured_more}
use Rattle.block_store.proofs.create.least_sectors.Goals as goal

pub loop-disk-preserved : goal.loop-disk-preserved
loop-disk-preserved g c =
    let after : c.args.first ≤ c.loop-disk.disk = omega arith in
    let P : ℕ → Type 0 = λ n. AreMeasured c.args.disks.now.starts c.args.first (c.loop-disk.disk + 1) n in
    subst P (sym c.min-least.ensures)
    (measured_more _ _ _ _ _ c.loop-disk.invariant after (subst IsAllowedSize c.size-in-loop-disk.ensures (c.in_ok-sectors.ensures.value.0))
    (c.in_ok-sectors.ensures.value.1 ∙ ap sectors_of c.size-in-loop-disk.ensures))
