use Rattle.pool_commit.proofs.commit.Commit.answers_are_true.Goals as goal

pub returns : goal.returns
returns g c n = c.answers_are_true.ensures n
