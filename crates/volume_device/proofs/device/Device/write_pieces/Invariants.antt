use Rattle.std.proofs.Common.{length, ◌-◌}
use Rattle.volume_device.proofs.Looping.{HasWritten}
use Rattle.volume_device.proofs.device.Device.write_pieces.Given as goal

abbrev pub invariant-loop-done : goal.invariant-loop-done
invariant-loop-done g l = HasWritten g.P.PoolSteps l.fn.self l.fn.offset l.bytes l.done l.self

abbrev pub decreases-loop-done : goal.decreases-loop-done
decreases-loop-done g l = length l.bytes - l.done
