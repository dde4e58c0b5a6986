use Rattle.std.proofs.Common.{inr}
use Rattle.std.proofs.lemmas.Result.{on_ok_weaker}
use Rattle.volume_device.proofs.device.Device.settle.Goals as goal

pub returns-clause-settled : goal.returns-clause-settled
returns-clause-settled g c = on_ok_weaker c.flush.result (λ leads contents shows tell. let to = leads contents shows tell in (to.0, to.1, inr to.2)) c.flush.ensures.flushed
