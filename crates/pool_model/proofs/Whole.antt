-- The headline of a run.
use Rattle.std.proofs.Common.{List, [], ◌∷◌, ◌++◌, refl, sym, subst, arith}
use Rattle.pool_model.specs.declared.step.Step.{Step}
use Rattle.pool_model.specs.declared.step.Reply.{Reply}
use Rattle.pool_model.specs.View.{View, Given}
use Rattle.pool_model.specs.Machine.{StepOf, Run}
use Rattle.pool_model.specs.Flow.{flow_of}
use Rattle.pool_model.specs.Sound.{IsSound}
use Rattle.pool_model.specs.Headline.{pool_by, Headline}
use Rattle.pool_model.proofs.Sounds.{sound_step, flow_run}
use Rattle.pool_model.proofs.Falls.{once_in_order}
use Rattle.pool_model.proofs.Uptos.{upto_base}
use Rattle.pool_model.proofs.Committing.{told_pools, told_reads}
use Rattle.pool_model.proofs.Nows.{told_now}
use Rattle.pool_model.proofs.Counting.{told_moves, in_order, told_commits}
use Rattle.pool_model.proofs.Answered.{told_refusals, told_outs, told_slots}

pub sound_run : (v : View) (steps : List Step) (givens : List Given) (replies : List Reply) (w : View) → Run v steps givens replies w → IsSound v → IsSound w
sound_run v [] [] [] w r s = subst IsSound (sym r) s
sound_run v (step ∷ steps) (given ∷ givens) (reply ∷ replies) w r s = sound_run r.0 steps givens replies w r.2 (sound_step v given step reply r.0 s r.1)
sound_run v steps givens replies w r s = absurd r

pub headline : (v : View) (steps : List Step) (givens : List Given) (replies : List Reply) (w : View) → IsSound v → Run v steps givens replies w → Headline v steps givens replies w
headline v steps givens replies w s r = record {
  once = once_in_order (flow_of v) steps replies (flow_of w) s.flow (flow_run v steps givens replies w r);
  moves = told_moves v steps givens replies w r;
  in_order = in_order w;
  commit_order = (told_commits v steps givens replies w r).0;
  committed = (told_commits v steps givens replies w r).1;
  pools = told_pools v steps givens replies w r s;
  reads_under = told_reads v steps givens replies w r s (pool_by v w.ledger) (λ n. refl);
  reads_now = told_now v steps givens replies w r s v.committed (v.pools v.committed) v.ledger (record { below = omega arith; same = λ group. refl; made = upto_base v.committed (v.pools v.committed) v.ledger });
  refusals = told_refusals v steps givens replies w r;
  outs = told_outs v steps givens replies w r;
  slots = told_slots v steps givens replies w r;
  sound = sound_run v steps givens replies w r s;
}

pub run_snoc : (v : View) (steps : List Step) (givens : List Given) (replies : List Reply) (mid : View) (given : Given) (step : Step) (reply : Reply) (w : View) → Run v steps givens replies mid → StepOf mid given step reply w → Run v (steps ++ step ∷ []) (givens ++ given ∷ []) (replies ++ reply ∷ []) w
run_snoc v [] [] [] mid given step reply w r a = (w, subst (λ (x : View). StepOf x given step reply w) r a, refl)
run_snoc v (x ∷ steps) (g ∷ givens) (y ∷ replies) mid given step reply w r a = (r.0, r.1, run_snoc r.0 steps givens replies mid given step reply w r.2 a)
run_snoc v steps givens replies mid given step reply w r a = absurd r
