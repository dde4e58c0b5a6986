use Rattle.std.proofs.Common.{take, sym, ◌∙◌}
use Rattle.volume_rules.specs.Overlay.{after_writes}
use Rattle.volume_rules.proofs.Overlays.{length_after_writes, lay_more, skip_more}
use Rattle.volume_rules.proofs.overlay.lay_over.Goals as goal
use Rattle.volume_rules.proofs.overlay.lay_over.Goals.{then-is, else-is}

pub loop-write-preserved : goal.loop-write-preserved
loop-write-preserved c = λ volume named writable size h.
    let so_far = take c.loop-write.write-index c.args.writes.now in
    let before = c.loop-write.invariant volume named writable size h in
    elim c.if-is.branch [
      | then-is w ↦ lay_more volume c.args.writes.now c.loop-write.write-index c.write-item.result c.args.name.now c.if-is.buffer w.lay_one.new.buffer c.args.offset c.loop-write-test.true c.write-item.is named writable (sym c.is.ensures ∙ w.if-is.true) w.buffer-is
          (w.lay_one.ensures (after_writes volume so_far).bytes (length_after_writes volume so_far ∙ size) before)
      | else-is w ↦ skip_more volume c.args.writes.now c.loop-write.write-index c.write-item.result c.args.name.now c.if-is.buffer c.loop-write.buffer c.args.offset c.loop-write-test.true c.write-item.is named (sym c.is.ensures ∙ w.if-is.false) w.buffer-is before
    ]
