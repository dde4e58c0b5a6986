use Rattle.std.proofs.Common.{◌≡◌, ◌⊎◌, inl, inr}
use Rattle.block_store.specs.declared.gone.MetaslabAt.{MetaslabAt}
use Rattle.block_store.specs.Gone.{HasUnused}
use Rattle.block_store.proofs.GivenBack.{passed_on}
use Rattle.block_store.proofs.Giving.{has_shape, sized}
use Rattle.block_store.proofs.store.BlockStore.unused_after.Goals as goal

pub returns-in_err-give_back-clause-refused : goal.returns-in_err-give_back-clause-refused
returns-in_err-give_back-clause-refused g c =
    let at : MetaslabAt = record { shape = c.shape.result; vdev = c.args.vdev; metaslab = c.args.metaslab } in
    let has : HasUnused c.args.self.now.spaces at c.in_ok-free.free = has_shape c.args.self.now.spaces at c.in_ok-free.free c.in_ok-free.ensures c.shape.ensures.shape in
    passed_on _ _ _ c.from_residual-in_err-give_back.ensures.1 (elim c.in_err-give_back.ensures.refused [
      | inl memory ↦ inl memory
      | inr (bad, cannot) ↦ inr (bad, λ after group are. cannot c.args.self.now.spaces after group has are)
    ])

pub returns-clause-unused : goal.returns-clause-unused
returns-clause-unused g c =
    let at : MetaslabAt = record { shape = c.shape.result; vdev = c.args.vdev; metaslab = c.args.metaslab } in
    let has : HasUnused c.args.self.now.spaces at c.in_ok-free.free = has_shape c.args.self.now.spaces at c.in_ok-free.free c.in_ok-free.ensures c.shape.ensures.shape in
    λ after group are. (c.in_ok-give_back.ensures.given c.args.self.now.spaces after group are has).0
