use Rattle.std.proofs.Common.{◌≡◌, ◌+◌, [], ◌∷◌, drop, get_or, List, inl, inr, subst}
use Rattle.std.proofs.lemmas.List.{drop_more, drop_all}
use Rattle.block_pointer.specs.declared.dva.Dva.{Dva}
use Rattle.block_store.specs.Releases.{copies_of_at, copy_of_at}
use Rattle.block_store.proofs.Giving.{GivesUpTo, none_yet, more, all, stops}
use Rattle.block_store.proofs.GivenBack.{passed_on}
use Rattle.block_store.proofs.gone.give_places.Goals as goal

-- what stands past the end of a list
abbrev some_place : Dva
some_place = record { vdev = 0; offset = 0; allocated = 0 }

pub loop-place-init : goal.loop-place-init
loop-place-init c = none_yet c.args.at (copies_of_at c.args.block.now c.args.places.now) c.args.free.now

pub loop-place-preserved : goal.loop-place-preserved
loop-place-preserved c =
    let i = c.loop-place.place-index in
    let places : List Dva = c.args.places.now in
    let split : drop i places ≡ get_or places i some_place ∷ drop (i + 1) places = drop_more places i some_place c.loop-place-test.true in
    more c.args.at (copies_of_at c.args.block.now places) (copy_of_at c.args.block.now (get_or places i some_place) ∷ []) (copies_of_at c.args.block.now (drop (i + 1) places))
    c.args.free.now c.loop-place.free c.give_place.new.free
    (subst (λ them. GivesUpTo c.args.at (copies_of_at c.args.block.now places) (copies_of_at c.args.block.now them) c.args.free.now c.loop-place.free) split c.loop-place.invariant)
    c.in_ok-give_place.ensures.given c.give_place.ensures.sectors

pub returns-in_err-give_place-clause-refused : goal.returns-in_err-give_place-clause-refused
returns-in_err-give_place-clause-refused c =
    let i = c.loop-place.place-index in
    let places : List Dva = c.args.places.now in
    let split : drop i places ≡ get_or places i some_place ∷ drop (i + 1) places = drop_more places i some_place c.loop-place-test.true in
    passed_on _ _ _ c.from_residual.ensures.1 (elim c.in_err-give_place.ensures.refused [
      | inl memory ↦ inl memory
      | inr (bad, stop) ↦ inr (
        bad,
        stops c.args.at (copies_of_at c.args.block.now places) (copy_of_at c.args.block.now (get_or places i some_place) ∷ []) (copies_of_at c.args.block.now (drop (i + 1) places))
            c.args.free.now c.loop-place.free
            (subst (λ them. GivesUpTo c.args.at (copies_of_at c.args.block.now places) (copies_of_at c.args.block.now them) c.args.free.now c.loop-place.free) split c.loop-place.invariant)
            stop,
      )
    ])

pub returns-clause-given : goal.returns-clause-given
returns-clause-given c =
    all c.args.at (copies_of_at c.args.block.now c.args.places.now) c.args.free.now c.loop-place.free
    (subst (λ them. GivesUpTo c.args.at (copies_of_at c.args.block.now c.args.places.now) (copies_of_at c.args.block.now them) c.args.free.now c.loop-place.free)
    (drop_all c.loop-place.place-index c.args.places.now c.loop-place-test.false) c.loop-place.invariant)
