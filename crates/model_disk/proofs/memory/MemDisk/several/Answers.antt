use Rattle.std.proofs.Common.{◌<◌, length, arith}
use Rattle.model_disk.proofs.NewDisks.{new_sizes, new_zeros, new_calls}
use Rattle.model_disk.proofs.memory.MemDisk.several.Goals as goal

pub returns-clause-sizes : goal.returns-clause-sizes
returns-clause-sizes c which below =
    let inside : which < length c.loop.disks.items = grind (arith, below, c.loop.invariant.0, c.loop-test.false) in
    new_sizes c.args.size c.loop.disks.items c.loop.invariant.1 which inside

pub returns-clause-zeros : goal.returns-clause-zeros
returns-clause-zeros c which below = new_zeros c.args.size c.loop.disks.items c.loop.invariant.1 which

pub returns-clause-fresh : goal.returns-clause-fresh
returns-clause-fresh c = new_calls c.args.size c.loop.disks.items c.loop.invariant.1
