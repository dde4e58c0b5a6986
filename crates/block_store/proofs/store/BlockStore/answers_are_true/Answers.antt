use Rattle.std.proofs.Common.{subst}
use Rattle.model_disk.specs.Joint.{AreHonestSince}
use Rattle.block_store.specs.Store.{Store}
use Rattle.block_store.proofs.store.BlockStore.answers_are_true.Goals as goal

pub returns : goal.returns
returns g c n = subst (λ (s : Store). AreHonestSince n s.disks.starts s.disks.calls) c.self.view_is (c.are_honest.ensures n)
