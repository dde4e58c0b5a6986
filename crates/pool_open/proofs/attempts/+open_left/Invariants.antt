use Rattle.pool_open.proofs.Outs.{uses}
use Rattle.pool_open.proofs.attempts.+open_left.Given as goal

-- how many disks are in use
abbrev pub decreases-open_left : goal.decreases-open_left
decreases-open_left g l = uses l.out.items
