-- What holds of all blocks that are written beside others.
use Rattle.raidz_io.specs.Elsewhere.{StandsWhileKept, ApartExtentsShareNoByte, OtherVdevsShareNoByte, StandsWithMoreAbsent, StandsWhileOthersAreWritten, WritesAreApart, DoneWhileOthersAreWritten}

-- the laws by which blocks share no byte, and stand with their writes done as others are written or more disks are absent
pub record Laws : Type 0 where
  pub kept : StandsWhileKept
  pub apart_extents : ApartExtentsShareNoByte
  pub other_vdevs : OtherVdevsShareNoByte
  pub more_absent : StandsWithMoreAbsent
  pub others_written : StandsWhileOthersAreWritten
  pub writes_apart : WritesAreApart
  pub done_kept : DoneWhileOthersAreWritten
