use Rattle.std.proofs.Common.{inl, inr, refl}
use Rattle.raidz_io.proofs.Calls.{OnlyReads-none}
use Rattle.scrub_resilver.proofs.right.read_copy.Goals as goal

pub returns-in_default-clause-refused : goal.returns-in_default-clause-refused
returns-in_default-clause-refused g c = inr (refl, c.in_default.ensures.only refl)

pub read_checked-requires-clause-on_disks : goal.read_checked-requires-clause-on_disks
read_checked-requires-clause-on_disks g c = (c.in-Some.ensures.fits c.args.disks.now.starts c.requires).1

pub returns-in-Err-DiskFault-clause-none : goal.returns-in-Err-DiskFault-clause-none
returns-in-Err-DiskFault-clause-none g c = (
  c.in-Some.extent,
  c.in-Some.ensures.at,
  record {
    before = c.args.disks.now;
    after = c.read_checked.new.disks;
    first = OnlyReads-none c.args.disks.now;
    later = OnlyReads-none c.read_checked.new.disks;
    cause = elim c.in-Err-DiskFault.ensures.refused [
      | inl is ↦ absurd (cc)
      | inr (inl (is, more)) ↦ inl more
      | inr (inr (is, none)) ↦ absurd (cc)
    ];
  },
)

pub returns-in-Err-BadDigest-clause-none : goal.returns-in-Err-BadDigest-clause-none
returns-in-Err-BadDigest-clause-none g c = (
  c.in-Some.extent,
  c.in-Some.ensures.at,
  record {
    before = c.args.disks.now;
    after = c.read_checked.new.disks;
    first = OnlyReads-none c.args.disks.now;
    later = OnlyReads-none c.read_checked.new.disks;
    cause = elim c.in-Err-BadDigest.ensures.refused [
      | inl is ↦ absurd (cc)
      | inr (inl (is, more)) ↦ absurd (cc)
      | inr (inr (is, none)) ↦ inr none
    ];
  },
)
