use Rattle.std.proofs.Common.{◌≡◌, ◌⊎◌, Option, Some, None, true, false, true≢false, ap, sym, ◌∙◌, subst, suc, refl, ◌<◌, ◌^◌}
use Rattle.pool_model.specs.declared.refusal.Refusal.TheVariants as causes
use Rattle.pool_model.specs.declared.step.Step.TheVariants as steps
use Rattle.std.specs.Prelude.{is_some}
use Rattle.pool_model.specs.View.{Unplanned}
use Rattle.pool_model.specs.Machine.{taken}
use Rattle.volume_rules.specs.GoodChanges.{MakesGoodVolumes}
use Rattle.pool_model.specs.Pools.{Entry}
use Rattle.pool_commit.specs.declared.refusal.Refusal.TheVariants as refusals
use Rattle.pool_commit.specs.Reading.{IsLostForPlan}
use Rattle.pool_commit.specs.Room.{LacksRoom}
use Rattle.pool_commit.specs.StateOf.{state_of as commit_state}
use Rattle.pool_core.specs.StateOf.{state_of}
use Rattle.pool_core.proofs.Fronting.{refused}
use Rattle.pool_core.proofs.Phases.{plan_planned, backs_taken, plan_spares, plans, plan_refused, group_after, group_low, next_effects, takes_none}
use Rattle.std.proofs.Common.{inr}
use Rattle.pool_core.proofs.Telling.{tell_plan}
use Rattle.pool_core.proofs.pool.Core.plan_blocks.Goals as goal

pub returns-then-is_planned-clause-goes : goal.returns-then-is_planned-clause-goes
returns-then-is_planned-clause-goes g c timestamp v trusted r free tell plans_trust =
    refused (state_of c.args.self.now) v trusted (steps.Plan timestamp) causes.NotNow r
    (plan_planned v timestamp free (sym (c.is_planned.ensures.view v r.backs) ∙ c.if-is_planned.true))

pub returns-in-Err-clause-goes : goal.returns-in-Err-clause-goes
returns-in-Err-clause-goes g c timestamp v trusted r free tell plans_trust =
    let p = c.in-Err.ensures.refused v timestamp r.follows free (sym (c.is_planned.ensures.view v r.backs) ∙ c.if-is_planned.false) in
    takes_none (state_of c.args.self.now) c.begin_sync.new.self v trusted timestamp c.in-Err.cause r p.0 p.1

pub returns-in_default-clause-goes : goal.returns-in_default-clause-goes
returns-in_default-clause-goes g c timestamp v trusted r free tell plans_trust =
    let begun = c.in-Ok.ensures.begun v timestamp r.follows free (sym (c.is_planned.ensures.view v r.backs) ∙ c.if-is_planned.false) in
    let some : is_some c.syncing_items.result ≡ true = c.syncing_items.ensures.some (taken v Unplanned) begun.1 in
    absurd (true≢false (sym some ∙ ap is_some c.in_default.is))

pub returns-in-Ok-plan-clause-goes : goal.returns-in-Ok-plan-clause-goes
returns-in-Ok-plan-clause-goes g c timestamp v trusted r free tell plans_trust =
    let none = sym (c.is_planned.ensures.view v r.backs) ∙ c.if-is_planned.false in
    let begun = c.in-Ok.ensures.begun v timestamp r.follows free none in
    let low : v.committed < 2 ^ 62 = group_low c.args.self.now.intake v r.follows in
    let backed = backs_taken (commit_state c.args.self.now.commit) v r.backs none in
    let planned = c.in-Ok-plan.ensures.planned (taken v Unplanned) backed refl low (c.in-Some.ensures.items (taken v Unplanned) begun.1)
    (next_effects (taken v Unplanned) c.in-Some.items.now (c.in-Some.ensures.items (taken v Unplanned) begun.1) begun.1.effects) (tell_plan (state_of c.args.self.now) (record { intake = c.begin_sync.new.self; commit = commit_state c.plan.new.self }) c.in-Ok-plan.ensures.reads c.in-Ok-plan.ensures.from
    (tell (plans_trust tt))) in
    plans (state_of c.args.self.now) c.begin_sync.new.self (commit_state c.plan.new.self) v trusted timestamp c.saturating_add.result planned.0 begun.0 begun.1
    (let committed = c.committed_group.ensures (taken v Unplanned) begun.1 in let added = c.saturating_add.ensures in group_after c.committed_group.result v.committed c.saturating_add.result committed low added)
    planned.1 planned.2 c.in-Ok-plan.ensures.reads (plan_spares (state_of c.args.self.now) (commit_state c.plan.new.self) c.begin_sync.new.self v r c.in-Ok-plan.ensures.untouched)

pub returns-in-Err-plan-clause-goes : goal.returns-in-Err-plan-clause-goes
returns-in-Err-plan-clause-goes g c timestamp v trusted r free tell plans_trust =
    let none = sym (c.is_planned.ensures.view v r.backs) ∙ c.if-is_planned.false in
    let begun = c.in-Ok.ensures.begun v timestamp r.follows free none in
    let low : v.committed < 2 ^ 62 = group_low c.args.self.now.intake v r.follows in
    let backed = backs_taken (commit_state c.args.self.now.commit) v r.backs none in
    let items = c.in-Some.ensures.items (taken v Unplanned) begun.1 in
    let good = subst MakesGoodVolumes (sym items) (begun.1.good (suc v.committed)) in
    let why = c.in-Err-plan.ensures.refused (taken v Unplanned) backed refl low items good (next_effects (taken v Unplanned) c.in-Some.items.now items begun.1.effects) in
    let after = c.in-Err-plan.ensures.unplanned (taken v Unplanned) backed refl in
    plan_refused (state_of c.args.self.now) c.begin_sync.new.self (commit_state c.plan.new.self) v trusted timestamp c.in-Err-plan.refusal c.from.result c.from.ensures begun.0 begun.1 after c.in-Err-plan.ensures.reads
    (plan_spares (state_of c.args.self.now) (commit_state c.plan.new.self) c.begin_sync.new.self v r c.in-Err-plan.ensures.untouched)
    (λ e. tell_plan (state_of c.args.self.now) (record { intake = c.begin_sync.new.self; commit = commit_state c.plan.new.self }) c.in-Err-plan.ensures.reads c.in-Err-plan.ensures.from (tell e))
    (λ space. subst (λ (entry : Entry). LacksRoom (commit_state c.args.self.now.commit) entry) items (c.in-Err-plan.ensures.full space))
    (subst (λ (entry : Entry). (c.in-Err-plan.refusal ≡ refusals.NoMemory)
    ⊎ (IsLostForPlan (taken v Unplanned) (commit_state c.args.self.now.commit) (commit_state c.plan.new.self) entry c.in-Err-plan.refusal ⊎ (c.in-Err-plan.refusal ≡ refusals.NoSpace))) items why)

not_some : {A : Type 0} (o : Option A) → is_some o ≡ false → o ≡ None
not_some None e = refl
not_some (Some x) e = absurd (true≢false e)

pub plan-requires : goal.plan-requires
plan-requires g c = record { unplanned = not_some c.args.self.now.commit.planned (sym c.is_planned.ensures.planned ∙ c.if-is_planned.false) }

pub returns-in-Ok-plan-clause-moves : goal.returns-in-Ok-plan-clause-moves
returns-in-Ok-plan-clause-moves g c = inr (record { unplanned = not_some c.args.self.now.commit.planned (sym c.is_planned.ensures.planned ∙ c.if-is_planned.false); reads = c.in-Ok-plan.ensures.reads; from = c.in-Ok-plan.ensures.from; timed = c.in-Ok-plan.ensures.timed })

pub returns-in-Err-plan-clause-moves : goal.returns-in-Err-plan-clause-moves
returns-in-Err-plan-clause-moves g c = inr (record { unplanned = not_some c.args.self.now.commit.planned (sym c.is_planned.ensures.planned ∙ c.if-is_planned.false); reads = c.in-Err-plan.ensures.reads; from = c.in-Err-plan.ensures.from; timed = c.in-Err-plan.ensures.timed })
