use Rattle.std.proofs.Common.{List, get_or, take, subst, sym}
use Rattle.std.proofs.lemmas.List.{take_more}
use Rattle.block_pointer.specs.declared.dva.Dva.{Dva}
use Rattle.raidz_io.proofs.Calls.{OnlyReads-none}
use Rattle.scrub_resilver.specs.Copies.{AreUnread, IsUnreadAt}
use Rattle.scrub_resilver.proofs.Logs.{held_at, reads_on, untouched_on, all_unread_around, unread_around, one_more_unread}
use Rattle.scrub_resilver.proofs.Chosen.{chosen_around}
use Rattle.scrub_resilver.proofs.right.read_first.Goals as goal

pub returns-in_err-read-clause-reads : goal.returns-in_err-read-clause-reads
returns-in_err-read-clause-reads g c =
    reads_on c.args.disks.now c.loop-place.disks c.read_copy.new.disks c.loop-place.invariant.reads c.in_err-read.ensures.reads

pub returns-in-Some-clause-reads : goal.returns-in-Some-clause-reads
returns-in-Some-clause-reads g c =
    reads_on c.args.disks.now c.loop-place.disks c.read_copy.new.disks c.loop-place.invariant.reads c.in_ok-read.ensures.reads

pub returns-in-Some-clause-chosen : goal.returns-in-Some-clause-chosen
returns-in-Some-clause-chosen g c = (
  get_or c.args.places.now c.loop-place.place-index (record { vdev = 0; offset = 0; allocated = 0 }),
  held_at c.args.places.now c.loop-place.place-index (record { vdev = 0; offset = 0; allocated = 0 }) c.loop-place-test.true,
  chosen_around c.args.shapes.now c.args.disks.now c.loop-place.disks c.read_copy.new.disks c.read_copy.new.disks c.args.block.now _ _
      c.loop-place.invariant.reads (OnlyReads-none c.read_copy.new.disks) (rw c.in-Some.is at c.in_ok-read.ensures.chosen),
)

pub loop-place-preserved : goal.loop-place-preserved
loop-place-preserved g c = record {
  reads = reads_on c.args.disks.now c.loop-place.disks c.read_copy.new.disks c.loop-place.invariant.reads c.in_ok-read.ensures.reads;
  untouched =
      untouched_on c.args.missing.now c.args.disks.now c.loop-place.disks c.read_copy.new.disks c.loop-place.invariant.untouched c.in_ok-read.ensures.untouched;
  unread =
      let place : Dva = get_or c.args.places.now c.loop-place.place-index (record { vdev = 0; offset = 0; allocated = 0 }) in
      let here : IsUnreadAt c.args.shapes.now c.loop-place.disks c.read_copy.new.disks c.args.missing.now c.args.block.now place =
      (rw c.in_default.is at c.in_ok-read.ensures.none) in
      subst (λ (places : List Dva). AreUnread c.args.shapes.now c.args.disks.now c.read_copy.new.disks c.args.missing.now c.args.block.now places)
      (sym (take_more c.args.places.now c.loop-place.place-index (record { vdev = 0; offset = 0; allocated = 0 }) c.loop-place-test.true))
      (one_more_unread c.args.shapes.now c.args.disks.now c.read_copy.new.disks c.args.missing.now c.args.block.now (take c.loop-place.place-index c.args.places.now) place
      (all_unread_around c.args.disks.now c.args.disks.now c.loop-place.disks c.read_copy.new.disks c.args.shapes.now c.args.missing.now c.args.block.now
      (take c.loop-place.place-index c.args.places.now)
      (OnlyReads-none c.args.disks.now) c.in_ok-read.ensures.reads c.loop-place.invariant.unread)
      (unread_around c.args.disks.now c.loop-place.disks c.read_copy.new.disks c.read_copy.new.disks c.args.shapes.now c.args.missing.now c.args.block.now place
      c.loop-place.invariant.reads (OnlyReads-none c.read_copy.new.disks) here));
}
