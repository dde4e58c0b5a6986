use Rattle.std.proofs.Common.{◌≤◌, length, map, arith}
use Rattle.std.proofs.lemmas.List.{length-map}
use Rattle.model_disk.proofs.HandedIn.{handed_next, handed_none}
use Rattle.model_disk.proofs.array.DiskArray.new.Goals as goal

pub loop-which-preserved : goal.loop-which-preserved
loop-which-preserved g c =
    handed_next g.D.Disk.calls c.args.disks.items c.loop-which.which-counter c.index.result.now c.loop-which.log.calls c.with-log.result.calls
    (grind (arith, c.loop-which-test.true, c.len-which-end.ensures)) c.index.ensures c.with-log.ensures.1 c.loop-which.invariant

pub returns-clause-fresh : goal.returns-clause-fresh
returns-clause-fresh g c =
    let all : length (map g.D.Disk.calls c.args.disks.items) ≤ c.loop-which.which-counter = grind (arith, length-map, c.loop-which-test.false, c.len-which-end.ensures) in
    handed_none (map g.D.Disk.calls c.args.disks.items) c.loop-which.which-counter c.loop-which.log.calls all c.loop-which.invariant
