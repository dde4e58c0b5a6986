use Rattle.std.proofs.Common.{◌≡◌, ◌+◌, ◌∷◌, inl, inr, drop, get_or, List, [], refl, sym, subst, ◌∙◌}
use Rattle.std.proofs.lemmas.List.{drop_more}
use Rattle.block_pointer.specs.declared.dva.Dva.{Dva}
use Rattle.block_store.specs.Places.{planned}
use Rattle.block_store.specs.Releases.{CopyAt, copy_of_at, copies_of_at}
use Rattle.block_store.specs.Uses.{LiesOn, IsInUse}
use Rattle.block_store.proofs.GivenBack.{ReleasedUpTo, none_yet, more_are, part_of, stops_at, at_error, passed_on}
use Rattle.block_store.proofs.store.BlockStore.release_places.Goals as goal

-- what stands past the end of a list
abbrev none : Dva
none = record { vdev = 0; offset = 0; allocated = 0 }

pub loop-place-init : goal.loop-place-init
loop-place-init g c = (refl, refl, refl, refl, refl, none_yet c.args.self.now.spaces (copies_of_at c.args.block.now c.args.places.now) c.args.group)

pub loop-place-preserved : goal.loop-place-preserved
loop-place-preserved g c =
    let i = c.loop-place.place-index in
    let places : List Dva = c.args.places.now in
    let split : drop i places ≡ get_or places i none ∷ drop (i + 1) places = drop_more places i none c.loop-place-test.true in
    let before = c.loop-place.invariant in
    let copy : CopyAt = copy_of_at c.args.block.now (get_or places i none) in
    let is = c.release_place.ensures in (
      is.disks ∙ before.0,
      is.out ∙ before.1,
      is.spans ∙ before.2,
      is.due ∙ before.3,
      is.stray ∙ before.4,
      more_are c.args.self.now.spaces c.loop-place.self.spaces c.release_place.new.self.spaces (copies_of_at c.args.block.now places) (copy ∷ [])
          (copies_of_at c.args.block.now (drop (i + 1) places)) c.args.group
          (subst (λ them. ReleasedUpTo c.args.self.now.spaces (copies_of_at c.args.block.now places) (copies_of_at c.args.block.now them) c.args.group c.loop-place.self.spaces) split before.5)
          (c.release_place.new.self.spaces, c.in_ok-release_place.ensures.released, refl),
    )

pub returns-in_err-release_place-clause-some : goal.returns-in_err-release_place-clause-some
returns-in_err-release_place-clause-some g c =
    let i = c.loop-place.place-index in
    let block = c.args.block.now in
    let places : List Dva = c.args.places.now in
    let split : drop i places ≡ get_or places i none ∷ drop (i + 1) places = drop_more places i none c.loop-place-test.true in
    let copy : CopyAt = copy_of_at block (get_or places i none) in
    let same = c.in_err-release_place.ensures.err in
    at_error c.from_residual.result _
    (part_of c.args.self.now.spaces c.loop-place.self.spaces c.release_place.new.self.spaces (copies_of_at block places) (copy ∷ [])
    (copies_of_at block (drop (i + 1) places)) c.args.group
    (subst (λ them. ReleasedUpTo c.args.self.now.spaces (copies_of_at block places) (copies_of_at block them) c.args.group c.loop-place.self.spaces) split c.loop-place.invariant.5)
    (record { done = []; left = copy ∷ []; are = refl; released = same }))

pub returns-in_err-release_place-clause-refused : goal.returns-in_err-release_place-clause-refused
returns-in_err-release_place-clause-refused g c =
    let i = c.loop-place.place-index in
    let block = c.args.block.now in
    let places : List Dva = c.args.places.now in
    let split : drop i places ≡ get_or places i none ∷ drop (i + 1) places = drop_more places i none c.loop-place-test.true in
    let copy : CopyAt = copy_of_at block (get_or places i none) in
    let same = c.in_err-release_place.ensures.err in
    passed_on _ _ _ c.from_residual.ensures.1 (elim c.in_err-release_place.ensures.refused [
      | inl memory ↦ inl memory
      | inr (bad, not_in_use) ↦ inr (
        bad,
        stops_at c.args.self.now.spaces c.loop-place.self.spaces c.release_place.new.self.spaces (copies_of_at block places) (copy ∷ [])
            (copies_of_at block (drop (i + 1) places)) c.args.group
            (subst (λ them. ReleasedUpTo c.args.self.now.spaces (copies_of_at block places) (copies_of_at block them) c.args.group c.loop-place.self.spaces) split c.loop-place.invariant.5)
            (record {
              done = [];
              next = copy;
              left = [];
              are = refl;
              released = same;
              not_in_use = subst (λ xs. ¬ LiesOn IsInUse xs planned copy.sectors copy.place) (sym same) not_in_use;
            }),
      )
    ])
