use Rattle.std.proofs.Common.{◌∙◌, ap, replicate, sym}
use Rattle.volume_rules.specs.Overlay.{after_writes}
use Rattle.volume.specs.Volume.{part}
use Rattle.volume.proofs.Covering.{laid_over_zeros}
use Rattle.volume.proofs.volume.VolumeSet.laid_over.Goals as goal

pub returns-in_default-clause-value : goal.returns-in_default-clause-value
returns-in_default-clause-value c = λ volume named writable sized none.
    laid_over_zeros c.args.self.now volume c.args.changes.now.name.now c.args.changes.now.items.now.writes c.args.id c.in_ok-zeros.zeros.items c.laid.result.bytes.items c.requires.id named
    writable sized (c.requires.old c.in_default.is)
    (c.in_ok-zeros.ensures.items_if_clones_equal (λ y same. same) ∙ ap (λ n. replicate n 0) c.block_size.ensures.value) c.laid.ensures.value
    ∙ ap (part (after_writes volume c.args.changes.now.items.now.writes).bytes c.args.self.now.block_size) (sym c.laid.ensures.id)
