-- The moments of a run are those of its steps.
use Rattle.std.proofs.Common.{◌≡◌, inr, ⊎_elim, ◌<◌, ◌≤◌, List, [], ◌∷◌, ◌++◌, length, refl, sym, ap, subst, ◌∙◌, arith, append_assoc}
use Rattle.std.proofs.lemmas.List.{length-append}
use Rattle.model_disk.specs.Joint.{Disks, JointCall}
use Rattle.model_disk.specs.Runs.{IsMoment}
use Rattle.pool_create.specs.Calls.{GrewTo}
use Rattle.pool_create.specs.CoreRuns.{Chain}
use Rattle.pool_create.specs.CoreState.{CoreState, disks_of}
use Rattle.pool_model.specs.View.{Given, View}
use Rattle.pool_model.specs.declared.step.Reply.{Reply}
use Rattle.pool_model.specs.declared.step.Step.{Step}

-- of two ends of one list the shorter is an end of the longer
shorter_end : {X : Type 0} (more newer mid calls : List X) → more ++ mid ≡ newer ++ calls → length calls ≤ length mid
    → (front : List X) × (mid ≡ front ++ calls)
shorter_end [] newer mid calls same few = (newer, same)
shorter_end (x ∷ more) [] mid calls same few = absurd (omega (arith, few, ap length same, length-append more mid))
shorter_end (x ∷ more) (y ∷ newer) mid calls same few =
    let rest : more ++ mid ≡ newer ++ calls = cc in
    shorter_end more newer mid calls rest few

longer : (old new : Disks) → GrewTo old new → length old.calls ≤ length new.calls
longer old new grew = omega (arith, ap length grew.calls, length-append grew.newer old.calls)

-- a moment of both parts that isn't behind the first is one of the first
pub within_first : (old mid new : Disks) (calls : List JointCall) → GrewTo old mid → GrewTo mid new → IsMoment (length old.calls) new.calls calls
    → length calls ≤ length mid.calls → IsMoment (length old.calls) mid.calls calls
within_first old mid new calls grew later moment few =
    let front = shorter_end later.newer moment.newer mid.calls calls (sym later.calls ∙ moment.is) few in
    record {
      newer = front.0;
      is = front.1;
      since = inr (⊎_elim
          (λ whole. omega (arith, ap length whole, longer old mid grew, longer mid new later))
          (λ many. many)
          moment.since);
    }

-- and any other one of the second
pub within_second : (old mid new : Disks) (calls : List JointCall) → IsMoment (length old.calls) new.calls calls → length mid.calls < length calls
    → IsMoment (length mid.calls) new.calls calls
within_second old mid new calls moment more = record { newer = moment.newer; is = moment.is; since = inr (omega (arith, more)) }

grew_through : (old mid new : Disks) → GrewTo old mid → GrewTo mid new → GrewTo old new
grew_through old mid new grew later = record {
  starts = later.starts ∙ grew.starts;
  newer = later.newer ++ grew.newer;
  calls = later.calls ∙ ap (λ cs. later.newer ++ cs) grew.calls ∙ sym (append_assoc later.newer grew.newer old.calls);
}

pub chain_grew : (old : CoreState) (v : View) (steps : List Step) (givens : List Given) (replies : List Reply) (new : CoreState) (w : View)
    → Chain old v steps givens replies new w → GrewTo (disks_of old) (disks_of new)
chain_grew old v [] [] [] new w chain =
    subst (λ (s : CoreState). GrewTo (disks_of old) (disks_of s)) chain.0 (record { starts = refl; newer = []; calls = refl })
chain_grew old v (step ∷ steps) (given ∷ givens) (reply ∷ replies) new w chain =
    grew_through (disks_of old) (disks_of chain.0) (disks_of new) chain.2 (chain_grew chain.0 chain.1 steps givens replies new w chain.5)
chain_grew old v steps givens replies new w chain = absurd chain
