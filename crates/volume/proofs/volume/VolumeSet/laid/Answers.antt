use Rattle.std.proofs.Common.{◌≡◌, ◌*◌, length, sym, ap, ◌∙◌}
use Rattle.std.proofs.lemmas.List.{with_items_is}
use Rattle.pool_model.proofs.Places.{is_same}
use Rattle.volume_rules.specs.Overlay.{after_writes}
use Rattle.volume.proofs.Laying.{laid_block}
use Rattle.volume.proofs.volume.VolumeSet.laid.Goals as goal

pub returns-clause-value : goal.returns-clause-value
returns-clause-value c = λ volume named writable sized is.
    let size : length c.as_mut_slice.result.now ≡ c.args.self.now.block_size = ap length c.as_mut_slice.ensures.value ∙ c.requires.len in
    let whole : length c.lay_pending.new.buffer ≡ length c.as_mut_slice.result.now = c.lay_pending.auto.buffer in
    with_items_is c.args.under c.lay_pending.new.buffer (whole ∙ c.as_mut_slice.ensures.len)
    ∙ laid_block volume.bytes (after_writes volume c.args.changes.now.items.now.writes).bytes c.as_mut_slice.result.now c.lay_pending.new.buffer c.args.id
    (c.args.id * c.block_size.result) c.args.self.now.block_size (ap (λ n. c.args.id * n) c.block_size.ensures.value) size whole
    (c.as_mut_slice.ensures.value ∙ is)
    (c.lay_pending.ensures volume (is_same volume.name c.args.changes.now.name.now named) writable (sized ∙ sym c.size.ensures.value))
