use Rattle.std.proofs.Common.{◌-◌}
use Rattle.volume_device.proofs.Reading.{HasRead}
use Rattle.volume_device.proofs.device.Device.read.Given as goal

abbrev pub invariant-loop-done : goal.invariant-loop-done
invariant-loop-done g l = HasRead g.P.PoolSteps l.fn.self l.fn.offset l.len l.done l.bytes.items l.self

abbrev pub decreases-loop-done : goal.decreases-loop-done
decreases-loop-done g l = l.len - l.done
