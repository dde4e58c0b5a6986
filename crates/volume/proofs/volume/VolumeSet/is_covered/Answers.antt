use Rattle.std.proofs.Common.{ap, subst, ◌*◌, ◌↔◌, ℕ, arith}
use Rattle.std.specs.Prelude.{IsTrue}
use Rattle.volume_rules.specs.Covering.{AreCovering}
use Rattle.volume.proofs.Covering.{covering_is}
use Rattle.volume.proofs.volume.VolumeSet.is_covered.Goals as goal

pub returns : goal.returns
returns c =
    let is = covering_is c.args.self.now c.args.changes.now.name.now c.args.changes.now.items.now.writes c.args.id
    (omega (arith, c.block_size-block_size.ensures.least, c.block_size-block_size.ensures.value)) in
    let said = rw (c.size.ensures.value, c.block_size-block_size.ensures.value) at c.covers_any.ensures in
    (λ t. is.0 (said.0 t), λ covered. said.1 (is.1 covered))
