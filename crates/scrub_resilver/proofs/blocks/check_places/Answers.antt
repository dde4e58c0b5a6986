use Rattle.std.proofs.Common.{inl, inr, ◌++◌, List, get_or, take, ap, sym, subst, ◌∙◌, append_assoc}
use Rattle.std.proofs.lemmas.List.{take_more}
use Rattle.block_pointer.specs.declared.dva.Dva.{Dva}
use Rattle.raidz_io.proofs.Calls.{OnlyReads-none}
use Rattle.scrub_resilver.specs.Checking.{ArePlacesChecked}
use Rattle.scrub_resilver.specs.declared.fault.Finding.{Finding}
use Rattle.scrub_resilver.proofs.Found.{one_more_place, place_around, places_around}
use Rattle.scrub_resilver.proofs.Logs.{err_at, held_at, reads_on, untouched_on}
use Rattle.scrub_resilver.proofs.blocks.check_places.Goals as goal

pub returns-in_err-check_place-clause-reads : goal.returns-in_err-check_place-clause-reads
returns-in_err-check_place-clause-reads g c =
    reads_on c.args.disks.now c.loop-place.disks c.check_place.new.disks c.loop-place.invariant.reads c.in_err-check_place.ensures.reads

pub returns-in_err-check_place-clause-refused : goal.returns-in_err-check_place-clause-refused
returns-in_err-check_place-clause-refused g c =
    err_at c.from_residual.result c.in_err-check_place.field-0.0 _ c.from_residual.ensures.1
    (elim c.in_err-check_place.ensures.refused [
      | inl is ↦ inl is
      | inr (is, none) ↦ inr (is, (_, held_at c.args.places.now c.loop-place.place-index (record { vdev = 0; offset = 0; allocated = 0 }) c.loop-place-test.true, none))
    ])

pub loop-place-preserved : goal.loop-place-preserved
loop-place-preserved g c =
    let place : Dva = get_or c.args.places.now c.loop-place.place-index (record { vdev = 0; offset = 0; allocated = 0 }) in
    let (before, so_far, are) = c.loop-place.invariant.so_far in
    let (more, is, at) = c.in_ok-check_place.ensures.checked in
    record {
      reads = reads_on c.args.disks.now c.loop-place.disks c.check_place.new.disks c.loop-place.invariant.reads c.in_ok-check_place.ensures.reads;
      untouched =
          untouched_on c.args.missing.now c.args.disks.now c.loop-place.disks c.check_place.new.disks c.loop-place.invariant.untouched c.in_ok-check_place.ensures.untouched;
      so_far = (
        before ++ more,
        is ∙ ap (λ (fs : List Finding). fs ++ more) so_far ∙ append_assoc c.args.found.now.items before more,
        subst (λ (places : List Dva). ArePlacesChecked c.args.shapes.now c.args.disks.now c.check_place.new.disks c.args.missing.now c.args.right.now.sectors
            c.args.right.now.is_known c.args.right.now.bytes.items places (before ++ more))
            (sym (take_more c.args.places.now c.loop-place.place-index (record { vdev = 0; offset = 0; allocated = 0 }) c.loop-place-test.true))
            (one_more_place c.args.shapes.now c.args.disks.now c.check_place.new.disks c.args.missing.now c.args.right.now.sectors c.args.right.now.is_known
            c.args.right.now.bytes.items (take c.loop-place.place-index c.args.places.now) place before more
            (places_around c.args.shapes.now c.args.disks.now c.args.disks.now c.loop-place.disks c.check_place.new.disks c.args.missing.now c.args.right.now.sectors
            c.args.right.now.is_known c.args.right.now.bytes.items (take c.loop-place.place-index c.args.places.now) before (OnlyReads-none c.args.disks.now)
            c.in_ok-check_place.ensures.reads are)
            (place_around c.args.shapes.now c.args.disks.now c.loop-place.disks c.check_place.new.disks c.check_place.new.disks c.args.missing.now c.args.right.now.sectors
            c.args.right.now.is_known c.args.right.now.bytes.items place more c.loop-place.invariant.reads (OnlyReads-none c.check_place.new.disks) at)),
      );
    }
