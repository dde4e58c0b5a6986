use Rattle.std.proofs.Common.{◌≡◌, List, IsTrue, false, sym, ap, subst, ◌∙◌}
use Rattle.block_store.specs.Spaces.{VdevSpace}
use Rattle.block_store.specs.Places.{IsPlaceIn}
use Rattle.block_store.specs.Shapes.{IsPlace}
use Rattle.block_store.specs.Store.{Store}
use Rattle.block_store.proofs.ReadingPlaces.{in_place, in_none}
use Rattle.block_store.proofs.store.BlockStore.is_place.Goals as goal

pub returns-in-Some : goal.returns-in-Some
returns-in-Some g c =
    let spaces : c.deref.result.now ≡ c.args.self.now.spaces = c.deref.ensures.value ∙ ap (λ (s : Store). s.spaces) c.self.view_is in
    let both = in_place c.deref.result.now c.args.sectors c.args.place c.in-Some.space.now c.in-Some.ensures.lookup.3.0 c.in-Some.ensures.lookup.1 in
    subst (λ (spaces : List VdevSpace). (IsTrue c.is_place.result → IsPlaceIn spaces c.args.sectors c.args.place) × (IsPlaceIn spaces c.args.sectors c.args.place → IsTrue c.is_place.result))
    spaces (
      λ is. both.0 (subst (λ shape. IsPlace shape c.args.sectors c.args.place) c.shape.ensures (c.is_place.ensures.0 is)),
      λ is_in. c.is_place.ensures.1 (subst (λ shape. IsPlace shape c.args.sectors c.args.place) (sym c.shape.ensures) (both.1 is_in)),
    )

pub returns-in-None : goal.returns-in-None
returns-in-None g c =
    let spaces : c.deref.result.now ≡ c.args.self.now.spaces = c.deref.ensures.value ∙ ap (λ (s : Store). s.spaces) c.self.view_is in
    subst (λ (spaces : List VdevSpace). (IsTrue false → IsPlaceIn spaces c.args.sectors c.args.place) × (IsPlaceIn spaces c.args.sectors c.args.place → IsTrue false))
    spaces (λ is. absurd (cc), λ is_in. absurd (in_none c.deref.result.now c.args.sectors c.args.place c.in-None.ensures.lookup.3 is_in))
