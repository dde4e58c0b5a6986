use Rattle.std.proofs.Common.{ℕ, ◌≡◌, inr, List, refl, subst, ◌∙◌}
use Rattle.raidz_io.proofs.Calls.{OnlyReads-none}
use Rattle.scrub_resilver.specs.Columns.{IsSpread}
use Rattle.scrub_resilver.proofs.Found.{copy_checked}
use Rattle.scrub_resilver.proofs.checking.check_place.Goals as goal

pub returns-in_default-clause-reads : goal.returns-in_default-clause-reads
returns-in_default-clause-reads g c = OnlyReads-none c.args.disks.now

pub returns-in_default-clause-refused : goal.returns-in_default-clause-refused
returns-in_default-clause-refused g c = inr (refl, c.in_default.ensures.only refl)

pub check_copy-requires-clause-on_disks : goal.check_copy-requires-clause-on_disks
check_copy-requires-clause-on_disks g c = (c.in-Some.ensures.fits c.args.disks.now.starts c.requires.room).1

pub check_copy-requires-clause-fits : goal.check_copy-requires-clause-fits
check_copy-requires-clause-fits g c = (c.in-Some.ensures.fits c.args.disks.now.starts c.requires.room).0

pub returns-clause-checked : goal.returns-clause-checked
returns-clause-checked g c =
    let same : c.in_ok-bytes.bytes.items ≡ c.args.right.now.bytes.items = c.in_ok-bytes.ensures.items ∙ c.as_slice.ensures.value in
    let is : IsSpread c.in-Some.extent c.args.right.now.bytes.items c.in_ok-it.it =
    subst (λ (b : List ℕ). IsSpread c.in-Some.extent b c.in_ok-it.it) same c.in_ok-it.ensures in
    let got = copy_checked c.args.disks.now c.check_copy.new.disks c.args.missing.now c.args.place.vdev c.in-Some.extent c.args.right.now.is_known
    c.args.right.now.bytes.items c.in_ok-it.it c.args.found.now.items c.check_copy.new.found.items is c.in_ok-check_copy.ensures.checked in
    (got.0, got.1, (c.in-Some.extent, c.in-Some.ensures.at, got.2))
