use Rattle.std.proofs.Common.{◌≡◌, length, arith}
use Rattle.model_disk.proofs.HandedIn.{handed_last}
use Rattle.model_disk.proofs.array.DiskArray.push.Goals as goal

pub invariant_of-self-2 : goal.invariant_of-self-2
invariant_of-self-2 g c =
    let count : c.len.result ≡ length c.self.inside.disks.items = grind (arith, c.len.ensures) in
    handed_last g.D.Disk.calls c.self.inside.disks.items c.push.new.self.items c.args.disk c.len.result c.self.inside.log.calls c.with-log.result.calls
    c.in_ok-push.ensures.items count c.with-log.ensures.1 c.self.invariant
