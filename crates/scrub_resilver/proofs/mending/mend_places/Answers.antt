use Rattle.scrub_resilver.proofs.Mended.{goes_on, one_more_place, repairs_none, repairs_on, right_repairs}
use Rattle.scrub_resilver.proofs.Turns.{own_repairs}
use Rattle.scrub_resilver.proofs.mending.mend_places.Goals as goal

pub loop-place-init : goal.loop-place-init
loop-place-init g c = record { mends = repairs_none _ _ _; own = repairs_none _ _ _; mended = tt }

pub returns-in_err-mend_place-clause-mends : goal.returns-in_err-mend_place-clause-mends
returns-in_err-mend_place-clause-mends g c =
    repairs_on _ _ c.args.disks.now c.loop-place.disks c.mend_place.new.disks c.loop-place.invariant.mends
    (right_repairs c.args.shapes.now c.args.block.now c.args.content.now c.args.places.now c.loop-place.place-index _
    c.args.missing.now c.loop-place.disks c.mend_place.new.disks c.requires.copies c.loop-place-test.true c.requires.digest c.in_err-mend_place.ensures.mends)

pub returns-in_err-mend_place-clause-own : goal.returns-in_err-mend_place-clause-own
returns-in_err-mend_place-clause-own g c =
    repairs_on _ _ c.args.disks.now c.loop-place.disks c.mend_place.new.disks c.loop-place.invariant.own
    (own_repairs c.args.shapes.now c.args.block.now c.args.content.now c.args.places.now c.loop-place.place-index _
    c.args.missing.now c.loop-place.disks c.mend_place.new.disks c.requires.copies c.loop-place-test.true c.in_err-mend_place.ensures.mends)

pub loop-place-preserved : goal.loop-place-preserved
loop-place-preserved g c = record {
  mends = repairs_on _ _ c.args.disks.now c.loop-place.disks c.mend_place.new.disks c.loop-place.invariant.mends
      (right_repairs c.args.shapes.now c.args.block.now c.args.content.now c.args.places.now c.loop-place.place-index _
      c.args.missing.now c.loop-place.disks c.mend_place.new.disks c.requires.copies c.loop-place-test.true c.requires.digest c.in_ok-mend_place.ensures.mends);
  own = repairs_on _ _ c.args.disks.now c.loop-place.disks c.mend_place.new.disks c.loop-place.invariant.own
      (own_repairs c.args.shapes.now c.args.block.now c.args.content.now c.args.places.now c.loop-place.place-index _
      c.args.missing.now c.loop-place.disks c.mend_place.new.disks c.requires.copies c.loop-place-test.true c.in_ok-mend_place.ensures.mends);
  mended = one_more_place c.args.shapes.now c.args.disks.now c.loop-place.disks c.mend_place.new.disks c.args.missing.now c.args.block.now c.args.content.now
      c.args.places.now c.loop-place.place-index _ c.loop-place-test.true
      (goes_on _ _ _ _ c.loop-place.invariant.mends) (goes_on _ _ _ _ c.in_ok-mend_place.ensures.mends) c.loop-place.invariant.mended c.in_ok-mend_place.ensures.mended;
}
