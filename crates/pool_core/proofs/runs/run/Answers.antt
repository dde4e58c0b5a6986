use Rattle.std.proofs.Common.{[], ◌∷◌, ◌++◌, List, sym, ap, ◌∙◌, subst, append_assoc}
use Rattle.std.proofs.lemmas.List.{append-nil}
use Rattle.txg_pipeline.proofs.Running.{drops_nothing}
use Rattle.pool_model.specs.declared.step.Step.{Step}
use Rattle.pool_model.specs.declared.step.Reply.{Reply}
use Rattle.pool_core.specs.Runs.{RunsTo, Ran}
use Rattle.pool_core.specs.StateOf.{state_of}
use Rattle.pool_core.proofs.Running.{runs_none, runs_on, ran}
use Rattle.pool_core.proofs.runs.run.Goals as goal

pub taking-init : goal.taking-init
taking-init g c = ([], c.from_vec-left.ensures.items, runs_none (state_of c.args.core.now) c.args.replies.now.items)

pub returns-then-is_err-clause-front : goal.returns-then-is_err-clause-front
returns-then-is_err-clause-front g c =
    let i = c.taking.invariant in (
      i.0,
      c.in-Some.step ∷ c.pop_front.new.self.items,
      ap (λ (xs : List Step). i.0 ++ xs) (sym c.in-Some.ensures.items) ∙ i.1,
      subst (λ (xs : List Reply). Ran (state_of c.args.core.now) i.0 c.args.replies.now.items (state_of c.taking.core) xs) (sym c.try_reserve.ensures.items)
          (ran (state_of c.args.core.now) i.0 c.args.replies.now.items (state_of c.taking.core) c.taking.replies.items i.2),
    )

pub taking-preserved : goal.taking-preserved
taking-preserved g c =
    let i = c.taking.invariant in (
      i.0 ++ c.in-Some.step ∷ [],
      append_assoc i.0 (c.in-Some.step ∷ []) c.pop_front.new.self.items ∙ (ap (λ (xs : List Step). i.0 ++ xs) (sym c.in-Some.ensures.items) ∙ i.1),
      subst (λ (xs : List Reply). RunsTo (state_of c.args.core.now) (i.0 ++ c.in-Some.step ∷ []) c.args.replies.now.items (state_of c.step-reply.new.self) xs)
          (sym (c.in-Ok.ensures.items ∙ ap (λ (xs : List Reply). xs ++ c.step-reply.result ∷ []) c.try_reserve.ensures.items))
          (runs_on (state_of c.args.core.now) i.0 c.args.replies.now.items (state_of c.taking.core) c.taking.replies.items c.in-Some.step c.step-reply.result (state_of c.step-reply.new.self)
          i.2 c.step-reply.ensures.grew c.step-reply.ensures.goes c.step-reply.ensures.moves),
    )

pub returns-clause-all : goal.returns-clause-all
returns-clause-all g c =
    let i = c.taking.invariant in
    let none = drops_nothing c.taking.left.items (c.in_default.ensures.items ∙ c.pop_front.ensures.rest) in
    subst (λ (xs : List Step). Ran (state_of c.args.core.now) xs c.args.replies.now.items (state_of c.taking.core) c.taking.replies.items)
    (sym (append-nil i.0) ∙ (ap (λ (xs : List Step). i.0 ++ xs) (sym none) ∙ i.1))
    (ran (state_of c.args.core.now) i.0 c.args.replies.now.items (state_of c.taking.core) c.taking.replies.items i.2)
