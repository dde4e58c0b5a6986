use Rattle.pool_open.proofs.Retried.{undiminished_opens_claim_once as opened, unfailing_opens_claim_once as refused}
use Rattle.pool_open.proofs.laws.unfailing_opens_claim_once.Goals as goal

pub returns-clause-opened : goal.returns-clause-opened
returns-clause-opened c = opened

pub returns-clause-refused : goal.returns-clause-refused
returns-clause-refused c = refused
