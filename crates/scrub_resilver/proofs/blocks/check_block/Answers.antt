use Rattle.std.proofs.Common.{◌≡◌, inl, inr, List, Contains, subst, ◌∙◌}
use Rattle.block_pointer.specs.Copies.{dvas}
use Rattle.block_pointer.specs.declared.dva.Dva.{Dva}
use Rattle.scrub_resilver.specs.Copies.{IsNoPlace}
use Rattle.scrub_resilver.proofs.Found.{block_checked, right_sectors}
use Rattle.scrub_resilver.proofs.Logs.{err_more, ok_more, reads_on}
use Rattle.scrub_resilver.proofs.blocks.check_block.Goals as goal

pub returns-clause-reads : goal.returns-clause-reads
returns-clause-reads g c = reads_on c.args.disks.now c.read_right.new.disks c.check_places.new.disks c.in_ok-read.ensures.reads c.check_places.ensures.reads

pub returns-clause-checked : goal.returns-clause-checked
returns-clause-checked g c =
    ok_more c.check_places.result _ _ (λ done (more, is, are). (
      more,
      is,
      block_checked c.args.shapes.now c.args.disks.now c.read_right.new.disks c.check_places.new.disks c.args.missing.now c.args.block.now c.in_ok-read.read
          c.in_ok-right.right c.as_slice.result.now more c.in_ok-read.ensures.reads c.check_places.ensures.reads c.in_ok-read.ensures.digest c.in_ok-read.ensures.chosen c.in_ok-read.ensures.none
          c.in_ok-right.ensures (c.as_slice.ensures.value ∙ c.places_of-places.ensures) are,
    )) c.check_places.ensures.checked

pub returns-clause-refused : goal.returns-clause-refused
returns-clause-refused g c =
    let same : c.as_slice.result.now ≡ dvas c.args.block.now.copies = c.as_slice.ensures.value ∙ c.places_of-places.ensures in
    let sectors = right_sectors c.args.block.now.property.sectors c.in_ok-read.read c.in_ok-right.right c.in_ok-right.ensures in
    err_more c.check_places.result _ _ (λ refusal why. elim why [
      | inl is ↦ inl is
      | inr (is, (place, held, none)) ↦ inr (
        is,
        (
          place,
          subst (λ (places : List Dva). Contains places place) same held,
          subst (λ n. IsNoPlace c.args.shapes.now n place) sectors none,
        ),
      )
    ]) c.check_places.ensures.refused
