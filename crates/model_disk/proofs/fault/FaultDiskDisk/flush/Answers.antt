use Rattle.std.proofs.Common.{◌≡◌, length, ◌∙◌}
use Rattle.model_disk.specs.Call.{flush_call}
use Rattle.model_disk.proofs.Fitting.{flush_fits, still_within}
use Rattle.model_disk.proofs.fault.FaultDiskDisk.flush.Goals as goal
use Rattle.model_disk.proofs.fault.FaultDiskDisk.flush.Goals.{then-is_due, else-is_due}

pub invariant_of-self-clause-within : goal.invariant_of-self-clause-within
invariant_of-self-clause-within g c =
    let start = g.D.Disk.start in
    let old = start c.args.self.now.inner in
    let now = start c.if-is_due.self.1.0 in
    let same : now ≡ old = elim c.if-is_due.branch [
      | then-is_due w ↦ λ j. start (w.self-is j).1.0
      | else-is_due w ↦ (λ j. start (w.self-is j).1.0) ∙ w.flush-answer.ensures.start
    ] in
    still_within now old (flush_call c.if-is_due.answer) c.args.self.now.log.calls c.note_flush.new.self.calls same
    c.note_flush.ensures.calls (flush_fits (length old) c.if-is_due.answer) c.args.self.now.within
