use Rattle.std.proofs.Common.{◌≡◌, ◌<◌, ◌≤◌, true, false, sym, ◌∙◌}
use borrow.Author.Tests.{ltb-true, leb-true}
use Rattle.block_pointer.specs.Copies.{dvas}
use Rattle.block_store.proofs.ReadingPointers.{property_is, readable, in_places}
use Rattle.block_store.proofs.store.BlockStore.is_readable.Goals as goal
use Rattle.block_store.proofs.store.BlockStore.is_readable.Goals.{then-block-asked, else-block-asked, then-eq, else-eq}

pub returns-then-block-gt0 : goal.returns-then-block-gt0
returns-then-block-gt0 g c =
    let places : c.as_slice.result.now ≡ dvas c.args.block.now.copies = c.as_slice.ensures.value ∙ c.places_of-places.ensures in
    let some : (c.if-eq.value ≡ true) × (0 < c.args.block.now.property.sectors) = elim c.if-block-asked.branch [
      | then-block-asked w ↦ (w.if-block-asked.true, ltb-true 0 c.args.block.now.property.sectors (sym w.value-is ∙ c.if-block-gt0.true))
      | else-block-asked w ↦ absurd (let no : false ≡ true = sym w.if-block-asked.false ∙ sym w.value-is ∙ c.if-block-gt0.true in cc)
    ] in
    let asks : (c.args.block.now.property ≡ c.args.asked.property) × (c.args.block.now.birth ≤ c.args.asked.birth) = elim c.if-eq.branch [
      | then-eq w ↦ (
        property_is c.args.block.now.property c.args.asked.property (sym c.eq.ensures ∙ w.if-eq.true),
        leb-true c.args.block.now.birth c.args.asked.birth (sym w.value-is ∙ some.0),
      )
      | else-eq w ↦ absurd (let no : false ≡ true = sym w.if-eq.false ∙ sym w.value-is ∙ some.0 in cc)
    ] in (
      λ is. readable c.args.self.now.spaces c.args.asked c.args.block.now c.as_slice.result.now places asks.0 asks.1 some.1 (c.are_places.ensures.0 is),
      λ is. c.are_places.ensures.1 (in_places c.args.self.now.spaces c.args.asked c.args.block.now c.as_slice.result.now places is),
    )
