use Rattle.std.proofs.Common.{ℕ, inl, inr, List, ap, ◌∙◌}
use Rattle.sha2.specs.Sha256.{sha256}
use Rattle.scrub_resilver.proofs.Mended.{block_mended, ok_after, reads_go_on, reads_repair, repairs_on, unread_block}
use Rattle.scrub_resilver.proofs.Turns.{rewritten}
use Rattle.scrub_resilver.proofs.mending.mend_block.Goals as goal

pub returns-in_err-read-clause-mends : goal.returns-in_err-read-clause-mends
returns-in_err-read-clause-mends g c = reads_repair _ _ _ _ c.in_err-read.ensures.reads c.in_err-read.ensures.untouched

pub returns-in_default-clause-mends : goal.returns-in_default-clause-mends
returns-in_default-clause-mends g c = reads_repair _ _ _ _ c.in_ok-read.ensures.reads c.in_ok-read.ensures.untouched

pub returns-in_default-clause-mended : goal.returns-in_default-clause-mended
returns-in_default-clause-mended g c =
    unread_block c.args.shapes.now c.args.disks.now c.read_right.new.disks c.args.missing.now c.args.block.now (rw c.in_default.is at c.in_ok-read.ensures.none)

pub returns-clause-mends : goal.returns-clause-mends
returns-clause-mends g c =
    repairs_on _ _ c.args.disks.now c.read_right.new.disks c.mend_places.new.disks (reads_repair _ _ _ _ c.in_ok-read.ensures.reads c.in_ok-read.ensures.untouched)
    c.mend_places.ensures.mends

pub returns-clause-mended : goal.returns-clause-mended
returns-clause-mended g c =
    ok_after c.mend_places.result _ _
    (block_mended c.args.shapes.now c.args.disks.now c.read_right.new.disks c.mend_places.new.disks c.args.missing.now c.args.block.now c.as_slice-2.result.now c.as_slice.result.now
    (reads_go_on _ _ c.in_ok-read.ensures.reads)
    (c.as_slice.ensures.value ∙ c.places_of-places.ensures)
    (ap (λ (bytes : List ℕ). sha256 bytes) c.as_slice-2.ensures.value ∙ (rw c.in-Some.is at c.in_ok-read.ensures.digest)))
    c.mend_places.ensures.mended

pub returns-in_default-clause-turn : goal.returns-in_default-clause-turn
returns-in_default-clause-turn g c = inl (reads_repair _ _ _ _ c.in_ok-read.ensures.reads c.in_ok-read.ensures.untouched)

pub returns-clause-turn : goal.returns-clause-turn
returns-clause-turn g c =
    ok_after c.mend_places.result _ _
    (λ _. inr (rewritten c.args.shapes.now c.args.missing.now c.args.block.now c.as_slice-2.result.now c.in-Some.content.items
    c.args.disks.now c.read_right.new.disks c.mend_places.new.disks c.in_ok-read.ensures.reads c.in_ok-read.ensures.untouched c.as_slice-2.ensures.value
    (rw c.in-Some.is at c.in_ok-read.ensures.chosen) (rw c.in-Some.is at c.in_ok-read.ensures.digest) c.mend_places.ensures.own))
    c.mend_places.ensures.mended
