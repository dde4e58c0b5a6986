use Rattle.std.proofs.Common.{◌≡◌, List, length, get_or, inl, inr, ap, arith, subst, ◌∙◌}
use Rattle.std.proofs.lemmas.Bool.{cases_lt}
use Rattle.std.proofs.lemmas.List.{get_or_read}
use Rattle.block_store.specs.Spaces.{VdevSpace, IsSpace}
use Rattle.block_store.specs.Store.{Store}
use Rattle.block_store.proofs.store.BlockStore.are_sized.Goals as goal

pub loop-space-preserved : goal.loop-space-preserved
loop-space-preserved g c k d less = elim (cases_lt k c.loop-space.space-index) [
  | inl before ↦ c.loop-space.invariant k d before
  | inr here ↦
      let same : c.deref-space-items.result.now ≡ c.args.self.now.spaces = c.deref-space-items.ensures.value ∙ ap (λ (s : Store). s.spaces) c.self.view_is in
      let at : c.loop-space.space-index ≡ k = omega (arith, less, here) in
      subst (λ i. IsSpace (get_or c.args.self.now.spaces i d)) at
      (subst (λ xs. IsSpace (get_or xs c.loop-space.space-index d)) same
      (subst IsSpace (get_or_read c.deref-space-items.result.now c.loop-space.space-index c.space-item.result c.loop-space-test.true c.space-item.is d) c.is_sized.ensures))
]

pub returns : goal.returns
returns g c k d less =
    let same : c.deref-space-items.result.now ≡ c.args.self.now.spaces = c.deref-space-items.ensures.value ∙ ap (λ (s : Store). s.spaces) c.self.view_is in
    c.loop-space.invariant k d (omega (arith, less, ap (λ (xs : List VdevSpace). length xs) same, c.loop-space-test.false))
