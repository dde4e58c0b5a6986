use Rattle.std.proofs.Common.{◌≡◌, length, ◌∙◌}
use Rattle.model_disk.specs.Call.{read_call}
use Rattle.model_disk.proofs.Fitting.{read_fits, still_within}
use Rattle.model_disk.proofs.fault.FaultDiskDisk.read.Goals as goal
use Rattle.model_disk.proofs.fault.FaultDiskDisk.read.Goals.{then-is_due, else-is_due}

pub invariant_of-self-clause-within : goal.invariant_of-self-clause-within
invariant_of-self-clause-within g c =
    let start = g.D.Disk.start in
    let old = start c.args.self.now.inner in
    let now = start c.if-is_due.self.1.0 in
    let same : now ≡ old = elim c.if-is_due.branch [
      | then-is_due w ↦ λ j. start (w.self-is j).1.0
      | else-is_due w ↦ (λ j. start (w.self-is j).1.0) ∙ w.read-answer.ensures.start
    ] in
    still_within now old (read_call c.if-is_due.answer c.args.at c.if-is_due.buffer) c.args.self.now.log.calls c.note_read.new.self.calls same
    c.note_read.ensures.calls (read_fits (length old) c.args.at c.if-is_due.buffer c.if-is_due.answer) c.args.self.now.within
