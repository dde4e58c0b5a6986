use Rattle.std.proofs.Common.{◌≡◌, ◌<◌, true, false, length, refl, subst, arith}
use Rattle.std.proofs.lemmas.List.{get_or_default}
use Rattle.std.proofs.lemmas.List.Elements.{AllWithin-more}
use Rattle.block_pointer.specs.declared.dva.Dva.{Dva}
use Rattle.block_store.specs.Places.{IsPlaceFor}
use Rattle.block_store.proofs.ReadingPointers.{all_contained}
use Rattle.block_store.proofs.store.BlockStore.are_places.Goals as goal

pub returns-then-not-is_place_for : goal.returns-then-not-is_place_for
returns-then-not-is_place_for g c =
    let below : c.loop-place.place-index < length c.args.places.now = omega arith in
    all_contained (λ place. IsPlaceFor c.args.self.now.spaces c.args.sectors (length c.args.places.now) place) false c.args.places.now (
      c.loop-place.place-index,
      below,
      λ d is_in.
          let no : false ≡ true = c.if-not-is_place_for.ensures.1
          (subst (λ (place : Dva). IsPlaceFor c.args.self.now.spaces c.args.sectors (length c.args.places.now) place) (get_or_default c.args.places.now c.loop-place.place-index d _ below) is_in) in
          absurd (cc),
    )

pub loop-place-preserved : goal.loop-place-preserved
loop-place-preserved g c =
    let below : c.loop-place.place-index < length c.args.places.now = omega arith in
    AllWithin-more (λ place. IsPlaceFor c.args.self.now.spaces c.args.sectors (length c.args.places.now) place) c.args.places.now 0 c.loop-place.place-index c.loop-place.invariant
    (λ d.
    subst (λ (place : Dva). IsPlaceFor c.args.self.now.spaces c.args.sectors (length c.args.places.now) place) (get_or_default c.args.places.now c.loop-place.place-index _ d below)
    (c.if-not-is_place_for.ensures.0 refl))

pub returns : goal.returns
returns g c =
    all_contained (λ place. IsPlaceFor c.args.self.now.spaces c.args.sectors (length c.args.places.now) place) true c.args.places.now (λ k d low below. c.loop-place.invariant k d low (omega arith))
