use Rattle.std.proofs.Common.{inl, inr, refl, sym, ◌∙◌}
use Rattle.std.proofs.lemmas.Result.{IfOk-weaker}
use Rattle.pool_create.specs.CoreStateOf.{state_of as core_state}
use Rattle.programs.specs.OnDisks.{GoesOn, KeepsClaim, state_of}
use Rattle.programs.proofs.pool_on_disks.PoolOnDisks.go_on.Goals as goal

pub returns-in-Some : goal.returns-in-Some
returns-in-Some c =
    let old = state_of c.args.self.now in
    let new = state_of c.stop_claim.new.self in
    IfOk-weaker c.stop_claim.result (λ outcome. KeepsClaim old c.in-Some.reached c.args.rewind outcome new)
    (λ outcome. GoesOn old (core_state c.args.opened.core) c.args.opened.uberblock c.args.rewind outcome new)
    (λ outcome keeps. inr (c.in-Some.reached, sym c.claim_stop.ensures ∙ c.in-Some.is, keeps)) c.stop_claim.ensures

pub returns-in-None : goal.returns-in-None
returns-in-None c = inl (sym c.claim_stop.ensures ∙ c.in-None.is, refl, refl)
