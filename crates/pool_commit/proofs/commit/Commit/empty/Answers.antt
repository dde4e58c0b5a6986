use Rattle.pool_commit.proofs.Reopened.{backs_empty, no_spans}
use Rattle.pool_commit.proofs.commit.Commit.empty.Goals as goal

pub returns-in-Ok-clause-backs : goal.returns-in-Ok-clause-backs
returns-in-Ok-clause-backs g c =
    backs_empty c.args.store c.args.stamp c.args.group c.in-Ok.last _ c.args.config.value c.in-Ok.ensures c.of_group.ensures c.requires.plans c.requires.empty c.requires.stamped

pub returns-in-Ok-clause-spans : goal.returns-in-Ok-clause-spans
returns-in-Ok-clause-spans g c =
    no_spans c.args.store c.args.stamp c.args.group c.in-Ok.last _ c.of_group.ensures (record { table = c.in-Ok.ensures.table; known = c.in-Ok.ensures.known })
