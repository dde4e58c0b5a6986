use Rattle.std.proofs.Common.{arith}
use Rattle.pool_format.proofs.Words.{words_of}
use Rattle.pool_format.proofs.children.add_children.Goals as goal

pub returns-clause-words : goal.returns-clause-words
returns-clause-words c = (omega (arith, c.ranges.top_guid.fits), words_of c.args.guids.now (λ k below. omega (arith, c.type_inv.guids k)))

pub returns-in_err-push-clause-words : goal.returns-in_err-push-clause-words
returns-in_err-push-clause-words c = (omega (arith, c.ranges.top_guid.fits), words_of c.args.guids.now (λ k below. omega (arith, c.type_inv.guids k)))
