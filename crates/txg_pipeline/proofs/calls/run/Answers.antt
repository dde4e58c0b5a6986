use Rattle.std.proofs.Common.{[], ◌∷◌, ◌++◌, sym, ap, ◌∙◌, subst, append_assoc}
use Rattle.txg_pipeline.specs.Calls.{Runs, Ran}
use Rattle.txg_pipeline.proofs.Running.{runs_on, ran, on_err, append_none, drops_nothing}
use Rattle.txg_pipeline.proofs.calls.run.Goals as goal

pub returns-in_err-try_reserve-clause-front : goal.returns-in_err-try_reserve-clause-front
returns-in_err-try_reserve-clause-front c =
    let i = c.taking.invariant in
    on_err c.from_residual.result (i.0, c.in-Some.call ∷ c.pop_front.new.self.items, ap (λ xs. i.0 ++ xs) (sym c.in-Some.ensures.items) ∙ i.1, subst (λ xs. Ran c.args.pipeline.now i.0 c.args.answers.now.items c.taking.pipeline xs) (sym c.try_reserve.ensures.items) (ran _ _ _ _ _ i.2))

pub taking-preserved : goal.taking-preserved
taking-preserved c =
    let i = c.taking.invariant in (
      i.0 ++ c.in-Some.call ∷ [],
      append_assoc i.0 (c.in-Some.call ∷ []) c.pop_front.new.self.items ∙ (ap (λ xs. i.0 ++ xs) (sym c.in-Some.ensures.items) ∙ i.1),
      subst (λ xs. Runs c.args.pipeline.now (i.0 ++ c.in-Some.call ∷ []) c.args.answers.now.items c.call-answer.new.self xs) (sym (c.in_ok-push.ensures.items ∙ ap (λ xs. xs ++ c.call-answer.result ∷ []) c.try_reserve.ensures.items)) (runs_on _ _ _ _ _ _ _ _ i.2 c.call-answer.ensures),
    )

pub returns-clause-all : goal.returns-clause-all
returns-clause-all c =
    let i = c.taking.invariant in
    let none = drops_nothing c.taking.left.items (c.in_default.ensures.items ∙ c.pop_front.ensures.rest) in
    subst (λ xs. Ran c.args.pipeline.now xs c.args.answers.now.items c.taking.pipeline c.taking.answers.items) (sym (append_none i.0) ∙ (ap (λ xs. i.0 ++ xs) (sym none) ∙ i.1)) (ran _ _ _ _ _ i.2)
