use Rattle.std.proofs.Common.{◌≡◌, ◌⊎◌, List, subst, ◌∙◌}
use Rattle.std.specs.Prelude.{OnOk, IfErr}
use Rattle.block_pointer.specs.declared.dva.Dva.{Dva}
use Rattle.block_pointer.specs.Copies.{dvas}
use Rattle.block_store.specs.declared.refusal.Refusal.TheVariants.{NoMemory, BadPointer}
use Rattle.block_store.specs.Gone.{CannotGiveBack, GivesBack}
use Rattle.block_store.specs.Releases.{copies_of_at}
use Rattle.block_store.proofs.gone.give_block.Goals as goal

pub returns-clause-given : goal.returns-clause-given
returns-clause-given c =
    let places_are : c.as_slice.result.now ≡ dvas c.args.block.now.copies = c.as_slice.ensures.value ∙ c.places_of-places.ensures in
    subst (λ (places : List Dva). OnOk c.give_places.result (GivesBack c.args.at (copies_of_at c.args.block.now places) c.args.free.now c.give_places.new.free))
    places_are c.give_places.ensures.given

pub returns-clause-refused : goal.returns-clause-refused
returns-clause-refused c =
    let places_are : c.as_slice.result.now ≡ dvas c.args.block.now.copies = c.as_slice.ensures.value ∙ c.places_of-places.ensures in
    subst (λ (places : List Dva). IfErr c.give_places.result
    (λ refusal. (refusal ≡ NoMemory) ⊎ ((refusal ≡ BadPointer) × CannotGiveBack c.args.at (copies_of_at c.args.block.now places) c.args.free.now)))
    places_are c.give_places.ensures.refused
