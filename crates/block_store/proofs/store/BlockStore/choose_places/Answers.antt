use Rattle.std.proofs.Common.{◌≡◌, ◌+◌, List, [], ◌∷◌, length, sym, ap, ◌∙◌, subst}
use Rattle.std.proofs.lemmas.List.{length-append}
use Rattle.block_pointer.specs.declared.dva.Dva.{Dva}
use Rattle.block_store.specs.Places.{IsChosen, AreChosen}
use Rattle.block_store.specs.Store.{Store}
use Rattle.block_store.proofs.Choosing.{AreChosen-push, is_chosen}
use Rattle.block_store.proofs.store.BlockStore.choose_places.Goals as goal

pub loop-copy-preserved : goal.loop-copy-preserved
loop-copy-preserved g c =
    let before = c.loop-copy.invariant in
    let C : List Dva → Type 0 = λ taken. IsChosen c.loop-copy.self.spaces taken c.args.sectors c.args.copies c.in_ok-place.place in
    let took = c.in_ok-place.ensures.taken in
    let chosen : IsChosen c.loop-copy.self.spaces c.loop-copy.places.items c.args.sectors c.args.copies c.in_ok-place.place =
    subst C c.as_slice.ensures.value (is_chosen _ _ _ _ _ _ _ _ c.in-Some.ensures.some took) in
    let same : c.move_on.new.self ≡ c.take.new.self = c.move_on.ensures in
    let A : List Dva → Type 0 = λ places. AreChosen c.args.self.now.spaces [] c.args.sectors c.args.copies places c.take.new.self.spaces in
    let B : Store → Type 0 = λ s. AreChosen c.args.self.now.spaces [] c.args.sectors c.args.copies c.push.new.self.items s.spaces in (
      ap (λ (s : Store). s.disks) same ∙ c.take.ensures.disks ∙ before.0,
      ap (λ (s : Store). s.out) same ∙ c.take.ensures.out ∙ before.1,
      ap (λ (s : Store). s.spans) same ∙ c.take.ensures.spans ∙ before.2,
      ap (λ (s : Store). s.due) same ∙ c.take.ensures.due ∙ before.3,
      ap (λ (s : Store). s.stray) same ∙ c.take.ensures.stray ∙ before.4,
      ap length c.push.ensures.items ∙ length-append c.loop-copy.places.items (c.in_ok-place.place ∷ []) ∙ ap (λ n. n + 1) before.5,
      subst B (sym same) (subst A (sym c.push.ensures.items)
          (AreChosen-push c.args.self.now.spaces [] c.args.sectors c.args.copies c.loop-copy.places.items c.loop-copy.self.spaces c.in_ok-place.place c.take.new.self.spaces before.6 chosen took.taken)),
    )
