use Rattle.std.proofs.Common.{◌≡◌, List, IsTrue, false, sym, ap, ◌∙◌, subst}
use Rattle.block_store.specs.Spaces.{VdevSpace}
use Rattle.block_store.specs.Places.{IsPlaceFor}
use Rattle.block_store.specs.Shapes.{metaslab_of, IsPlace, IsInRegion}
use Rattle.block_store.specs.Store.{Store}
use Rattle.block_store.specs.declared.shape.VdevShape.{VdevShape}
use Rattle.block_store.proofs.ReadingPlaces.{in_place_for, in_none}
use Rattle.block_store.proofs.store.BlockStore.is_place_for.Goals as goal

pub returns-in-Some : goal.returns-in-Some
returns-in-Some g c =
    let spaces : c.deref.result.now ≡ c.args.self.now.spaces = c.deref.ensures.value ∙ ap (λ (s : Store). s.spaces) c.self.view_is in
    let both = in_place_for c.deref.result.now c.args.sectors c.args.copies c.args.place c.in-Some.space.now c.in-Some.ensures.lookup.3.0 c.in-Some.ensures.lookup.1 in
    let P : VdevShape → Type 0 = λ shape. IsPlace shape c.args.sectors c.args.place × IsInRegion shape c.args.copies (metaslab_of shape c.args.place) in
    subst (λ (spaces : List VdevSpace). (IsTrue c.is_place_for.result → IsPlaceFor spaces c.args.sectors c.args.copies c.args.place)
    × (IsPlaceFor spaces c.args.sectors c.args.copies c.args.place → IsTrue c.is_place_for.result))
    spaces (
      λ is. both.0 (subst P c.shape.ensures (c.is_place_for.ensures.0 is)),
      λ is_for. c.is_place_for.ensures.1 (subst P (sym c.shape.ensures) (both.1 is_for)),
    )

pub returns-in-None : goal.returns-in-None
returns-in-None g c =
    let spaces : c.deref.result.now ≡ c.args.self.now.spaces = c.deref.ensures.value ∙ ap (λ (s : Store). s.spaces) c.self.view_is in
    subst (λ (spaces : List VdevSpace). (IsTrue false → IsPlaceFor spaces c.args.sectors c.args.copies c.args.place)
    × (IsPlaceFor spaces c.args.sectors c.args.copies c.args.place → IsTrue false))
    spaces (λ is. absurd (cc), λ is_for. absurd (in_none c.deref.result.now c.args.sectors c.args.place c.in-None.ensures.lookup.3 is_for.is_in))
