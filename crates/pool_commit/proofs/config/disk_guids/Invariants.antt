use Rattle.std.proofs.Common.{◌≡◌, suc}
use Rattle.pool_model.specs.View.{counted}
use Rattle.pool_commit.proofs.config.disk_guids.Given as goal

-- those so far
abbrev pub invariant-loop-child : goal.invariant-loop-child
invariant-loop-child l = l.guids.items ≡ counted (suc l.vdev) l.child
