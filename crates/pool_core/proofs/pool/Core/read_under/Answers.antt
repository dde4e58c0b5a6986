use Rattle.std.proofs.Common.{List, ℕ, sym, subst}
use Rattle.pool_model.specs.Machine.{AreBytesOf}
use Rattle.pool_commit.specs.StateOf.{state_of as commit_state}
use Rattle.pool_core.proofs.ReadSteps.{under_refused}
use Rattle.pool_core.proofs.pool.Core.read_under.Goals as goal

pub returns-in-Ok-clause-bytes : goal.returns-in-Ok-clause-bytes
returns-in-Ok-clause-bytes g c v r =
    let p = c.in-Ok.ensures.bytes v r.backs in
    (p.0, λ tell. subst (λ (bytes : List ℕ). AreBytesOf (v.pools c.args.group) c.args.name.now c.args.offset c.args.len bytes) (sym c.new.ensures) (p.1 tell))

pub returns-in-Err-clause-refused : goal.returns-in-Err-clause-refused
returns-in-Err-clause-refused g c v r =
    under_refused v c.args.group c.args.name.now c.args.offset c.args.len c.args.missing.now (commit_state c.args.self.now.commit) (commit_state c.read_under-read.new.self)
    c.in-Err.refusal c.from.result c.from.ensures (c.in-Err.ensures.refused v r.backs)
