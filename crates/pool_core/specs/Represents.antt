-- When a core represents a view.
use Rattle.pool_model.specs.View.{View}
use Rattle.pool_intake.specs.Follows.{Follows}
use Rattle.pool_commit.specs.Backs.{Backs}
use Rattle.pool_core.specs.State.{CoreState}

-- Its groups, holds and pending items are the view's, and it knows the names of NOW. Its disks are out as the view says,
-- and each kept group's root and what it leads to, each block taken with the bytes that it was written with, spell the group's pool. Of a
-- planned group what was written so far stands, and the calls that are left are the view's.
pub record Represents (s : CoreState) (v : View) : Type 0 where
  pub follows : Follows s.intake v
  pub backs : Backs s.commit v
