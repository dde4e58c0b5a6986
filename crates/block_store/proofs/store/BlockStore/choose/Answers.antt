use Rattle.block_store.proofs.Choosing.{chosen_elsewhere, chosen_apart, chosen_anywhere, no_place_left, IfNone-map, IfSome-map}
use Rattle.block_store.proofs.store.BlockStore.choose.Goals as goal

pub returns-in-Some-clause-some : goal.returns-in-Some-clause-some
returns-in-Some-clause-some g c = chosen_elsewhere c.args.self.now.spaces c.args.taken.now c.args.sectors c.args.copies c.in-Some.place.0 c.in-Some.place.1 c.in-Some.ensures.some

pub returns-in-Some-find_place-clause-some : goal.returns-in-Some-find_place-clause-some
returns-in-Some-find_place-clause-some g c =
    chosen_apart c.args.self.now.spaces c.args.taken.now c.args.sectors c.args.copies c.in-Some-find_place.place.0 c.in-Some-find_place.place.1 c.in-Some-find_place.ensures.some
    c.in_default.ensures.none

pub returns-clause-none : goal.returns-clause-none
returns-clause-none g c =
    IfNone-map c.find_place-3.result _ _ (λ none. no_place_left c.args.self.now.spaces c.args.sectors c.args.copies (λ v metaslab there. none v metaslab there tt)) c.find_place-3.ensures.none

pub returns-clause-some : goal.returns-clause-some
returns-clause-some g c =
    IfSome-map c.find_place-3.result _ _
    (λ at found. chosen_anywhere c.args.self.now.spaces c.args.taken.now c.args.sectors c.args.copies at.0 at.1 found c.in_default.ensures.none c.in_default-find_place.ensures.none)
    c.find_place-3.ensures.some
