use Rattle.std.proofs.Common.{inr, refl, subst, rules, arith}
use Rattle.block_store.specs.Places.{IsPlaceFor}
use Rattle.block_store.proofs.store.BlockStore.take_in_place.Goals as goal
use Rattle.block_store.proofs.store.BlockStore.take_in_place.Goals.{then-sectors-eq0-via-then-sectors-eq0, then-sectors-eq0-via-else-sectors-eq0+then-not-is_place_for}

pub returns-then-sectors-eq0-clause-refused : goal.returns-then-sectors-eq0-clause-refused
returns-then-sectors-eq0-clause-refused g c = elim c.then-sectors-eq0.branch [
  | then-sectors-eq0-via-then-sectors-eq0 w ↦ inr (refl, λ free. absurd (omega (arith, free.filled_free.some, w.if-sectors-eq0.true)))
  | then-sectors-eq0-via-else-sectors-eq0+then-not-is_place_for w ↦ inr (
    refl,
    λ free.
        let yes = w.is_place_for.ensures.1
        (subst (λ n. IsPlaceFor c.args.self.now.spaces c.args.block.now.property.sectors n c.args.place) (search rules) free.place_for) in
        let no = w.if-not-is_place_for.true in
        absurd (cc),
  )
]

pub fill-requires-clause-place : goal.fill-requires-clause-place
fill-requires-clause-place g c =
    subst (λ n. IsPlaceFor c.args.self.now.spaces c.args.block.now.property.sectors n c.args.place) (search rules)
    (c.is_place_for.ensures.0 c.if-not-is_place_for.false)
