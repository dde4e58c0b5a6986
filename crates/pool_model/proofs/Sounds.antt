-- A step of the machine is a step of its groups, holds and items, and keeps a view sound.
use Rattle.std.proofs.Common.{⊎_elim, inl, inr, ℕ, ◌≤◌, List, [], ◌∷◌, Some, None, refl, sym, ap, subst, arith, lit≤, Bool, ◌<◌}
use Rattle.pool_model.specs.declared.group.Stage.TheVariants.{Quiesced as QuiescedStage}
use Rattle.pool_model.specs.declared.step.Step.{Step}
use Rattle.pool_model.specs.declared.step.Step.TheVariants.{Hold, Plan}
use Rattle.pool_model.specs.declared.step.Reply.{Reply}
use Rattle.pool_model.specs.declared.step.Reply.TheVariants.{Refused}
use Rattle.pool_model.specs.declared.refusal.Refusal.{Refusal}
use Rattle.pool_model.specs.declared.refusal.Refusal.TheVariants.{Suspended, NotNow}
use Rattle.pool_model.specs.Flow.{Flow, TakesGroup, FlowStep, FlowRun}
use Rattle.pool_model.specs.View.{View, Vdev, Given, Idle, Unplanned, started, opened_as}
use Rattle.pool_model.specs.Flow.{flow_of}
use Rattle.pool_model.specs.Pools.{PlainPool}
use Rattle.pool_model.specs.Refusals.{greatest}
use Rattle.pool_model.specs.Machine.{StepOf, Run}
use Rattle.pool_model.specs.Sound.{IsSound}
use Rattle.pool_model.proofs.Moves.{IsPlanFault, MayStay, EachMove, by_move}
use Rattle.pool_model.proofs.SoundFlows.{sound_flow}

refused_flow : (f : Flow) (step : Step) (cause : Refusal) → MayStay step cause → FlowStep f step (Refused cause) f
refused_flow f (Plan timestamp) cause may = ⊎_elim (λ e. subst (λ c. FlowStep f (Plan timestamp) (Refused c) f) (sym e) refl) (λ e. subst (λ c. FlowStep f (Plan timestamp) (Refused c) f) (sym e) refl) may
refused_flow f (Hold writer) cause may = refl
refused_flow f step cause may = refl

-- a plan that is refused for another cause takes its group
plan_takes : (f : Flow) (timestamp : ℕ) (cause : Refusal) (g : Flow) → IsPlanFault cause → TakesGroup f g → FlowStep f (Plan timestamp) (Refused cause) g
plan_takes f timestamp Suspended g is t = absurd is
plan_takes f timestamp NotNow g is t = absurd is
plan_takes f timestamp cause g is t = t

flow_moves : EachMove (λ v given step reply w. FlowStep (flow_of v) step reply (flow_of w))
flow_moves = record {
  stays = λ v given step cause may e. refused_flow (flow_of v) step cause may;
  begun = λ v given t cause is. plan_takes (flow_of (record v { sync = Idle; waiting = Some QuiescedStage })) t cause (flow_of (record v { sync = Unplanned; waiting = None })) is (inr refl, refl);
  again = λ v given t cause is. plan_takes (flow_of (record v { sync = Unplanned })) t cause (flow_of (record v { sync = Unplanned })) is (inl refl, refl);
  failed = λ v given disk left e. refl;
  replanned = λ v given disk left e. refl;
  out_unplanned = λ v given disk e. refl;
  out_early = λ v given disk left. refl;
  out_late = λ v given disk left. refl;
  moved = λ v given phase left rest out e. refl;
  read = λ v given name offset len bytes a. refl;
  read_under = λ v given g name offset len bytes k a. refl;
  held = λ v given by n. (n, refl, refl);
  wrote = λ v given x g h n le. (h, n, le, refl);
  acted = λ v given a g h n le o. (h, n, le, o, refl);
  released = λ v given by. refl;
  closed = λ v given b. (refl, b, refl, refl);
  quiesced = λ v given e. (refl, e, refl, refl);
  planned = λ v given t calls. (refl, (inr refl, refl));
  replanned_group = λ v given t calls. (refl, (inl refl, refl));
  committed = λ v given left out e. (refl, refl, refl);
}

pub flow_step : (v : View) (given : Given) (step : Step) (reply : Reply) (w : View) → StepOf v given step reply w → FlowStep (flow_of v) step reply (flow_of w)
flow_step v given step reply w h = by_move (λ v given step reply w. FlowStep (flow_of v) step reply (flow_of w)) flow_moves v given step reply w h

pub flow_run : (v : View) (steps : List Step) (givens : List Given) (replies : List Reply) (w : View) → Run v steps givens replies w → FlowRun (flow_of v) steps replies (flow_of w)
flow_run v [] [] [] w r = ap flow_of r
flow_run v (step ∷ steps) (given ∷ givens) (reply ∷ replies) w r = (flow_of r.0, flow_step v given step reply r.0 r.1, flow_run r.0 steps givens replies w r.2)
flow_run v steps givens replies w r = absurd r

first_moves : EachMove (λ v given step reply w. v.first ≤ v.committed → w.first ≤ w.committed)
first_moves = record {
  stays = λ v given step cause may e s. s;
  begun = λ v given t cause is s. s;
  again = λ v given t cause is s. s;
  failed = λ v given disk left e s. s;
  replanned = λ v given disk left e s. s;
  out_unplanned = λ v given disk e s. s;
  out_early = λ v given disk left s. s;
  out_late = λ v given disk left s. s;
  moved = λ v given phase left rest out e s. s;
  read = λ v given name offset len bytes a s. s;
  read_under = λ v given g name offset len bytes k a s. s;
  held = λ v given by n s. s;
  wrote = λ v given x g h n le s. s;
  acted = λ v given a g h n le o s. s;
  released = λ v given by s. s;
  closed = λ v given b s. s;
  quiesced = λ v given e s. s;
  planned = λ v given t calls s. s;
  replanned_group = λ v given t calls s. s;
  committed = λ v given left out e s. omega arith;
}

pub sound_step : (v : View) (given : Given) (step : Step) (reply : Reply) (w : View) → IsSound v → StepOf v given step reply w → IsSound w
sound_step v given step reply w s h = record {
  first = by_move (λ v given step reply w. v.first ≤ v.committed → w.first ≤ w.committed) first_moves v given step reply w h s.first;
  flow = sound_flow (flow_of v) step reply (flow_of w) s.flow (flow_step v given step reply w h);
}

pub sound_start : (vdevs : List Vdev) → IsSound (started vdevs)
sound_start vdevs = record { first = omega arith; flow = record { holds = tt; beyond = λ group lt. refl; groups = lit≤ tt; numbers = λ writer. lit≤ tt } }

pub sound_opened : (vdevs : List Vdev) (out : ℕ → Bool) (stale : ℕ → ℕ → Bool) (group : ℕ) (pool : PlainPool) → group < greatest → IsSound (opened_as vdevs out stale group pool)
sound_opened vdevs out stale group pool below =
    record { first = omega arith; flow = record { holds = tt; beyond = λ other lt. refl; groups = omega (arith, below); numbers = λ writer. lit≤ tt } }
