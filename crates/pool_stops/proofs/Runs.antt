-- Runs of a pool, of which no step puts a disk out.
use Rattle.std.proofs.Common.{◌≡◌, ⊎_elim, ℕ, Bool, true, false, List, [], ◌∷◌, Option, Some, None, refl, sym, subst, ◌∙◌, true≢false, arith}
use Rattle.std.specs.Prelude.{◌==◌, ◌||◌}
use Rattle.std.proofs.lemmas.Bool.Decides.{nat_tests}
use Rattle.block_store.specs.Store.{is_out}
use Rattle.uberblock_ring.specs.declared.uberblock.Uberblock.{Uberblock}
use Rattle.pool_create.specs.CommitPlanned.{Planned}
use Rattle.pool_create.specs.CommitState.{NoneIsOut, State}
use Rattle.pool_create.specs.CommitWriting.{WritesPlan}
use Rattle.pool_create.specs.CommitAbsence.{TakesOut}
use Rattle.pool_create.specs.Moves.{Moves}
use Rattle.pool_create.specs.CoreRuns.{Chain}
use Rattle.pool_create.specs.CoreState.{CoreState}
use Rattle.pool_create.specs.CoreSteps.{Link}
use Rattle.pool_create.proofs.CoreUntouched.{chain_keeps, keeps_no_spans}
use Rattle.pool_model.specs.View.{Given, View}
use Rattle.pool_model.specs.declared.step.Reply.{Reply}
use Rattle.pool_model.specs.declared.step.Step.{Step}
use Rattle.pool_model.specs.declared.step.Step.TheVariants.{Hold, Write, Act, Release, Close, Quiesce, Plan, Device, DiskOut, Read, ReadUnder}
use Rattle.pool_stops.specs.Running.{IsRunning, RunningPoolsStepOn, RunsStopWell, StepsOn}
use Rattle.pool_stops.proofs.Commits.{commits}
use Rattle.pool_stops.proofs.Steps.{MissesNone, PhaseLaws, goes_on, misses_none, plans_on, read_steps, stays}

-- ---- one step

-- with a plan, which is there afterwards or not
with_plan : (old new : CoreState) (v w : View) (given : Given) (reply : Reply) (plan : Planned) (later : Option Planned) (last : Uberblock) (before : List Uberblock) → PhaseLaws
    → IsRunning old v last before → Link old v Device given reply new w → MissesNone new.commit → WritesPlan old.commit new.commit → NoneIsOut new.commit → old.commit.planned ≡ Some plan
    → new.commit.planned ≡ later → StepsOn old v new w last before
with_plan old new v w given reply plan (Some after) last before laws runs link misses writes none is still =
    goes_on old new v w Device given reply plan after last before laws runs link misses writes none is still
with_plan old new v w given reply plan None last before laws runs link misses writes none is gone = ⊎_elim
    (λ dropped. absurd (true≢false (sym dropped.out ∙ none dropped.disk)))
    (λ shifted. commits old new v w given reply plan last before laws runs link misses writes none is gone shifted)
    (writes.ends plan is gone)

writes_on : (old new : CoreState) (v w : View) (given : Given) (reply : Reply) (planned : Option Planned) (last : Uberblock) (before : List Uberblock) → PhaseLaws
    → IsRunning old v last before → Link old v Device given reply new w → MissesNone new.commit → WritesPlan old.commit new.commit → NoneIsOut new.commit → old.commit.planned ≡ planned
    → StepsOn old v new w last before
writes_on old new v w given reply None last before laws runs link misses writes none is = stays old new v w Device given reply last before laws runs link misses (writes.idle is)
writes_on old new v w given reply (Some plan) last before laws runs link misses writes none is =
    with_plan old new v w given reply plan new.commit.planned last before laws runs link misses writes none is refl

-- a disk that is taken out is out
taken_is_out : (old new : State) (disk : ℕ) → TakesOut disk old new → NoneIsOut new → ⊥
taken_is_out old new disk takes none = true≢false (sym (takes.out.disks disk ∙ or_same (is_out old.store.out disk)) ∙ none disk)
  where
    same : (disk == disk) ≡ true
    same = grind (arith, nat_tests)

    or_same : (b : Bool) → (b || (disk == disk)) ≡ true
    or_same true = refl
    or_same false = same

steps_by : PhaseLaws → (old new : CoreState) (v w : View) (step : Step) (given : Given) (reply : Reply) (last : Uberblock) (before : List Uberblock) → IsRunning old v last before
    → Link old v step given reply new w → Moves step old.commit new.commit → NoneIsOut new.commit → MissesNone new.commit → StepsOn old v new w last before
steps_by laws old new v w (Hold x) given reply last before runs link moves none misses = stays old new v w (Hold x) given reply last before laws runs link misses moves
steps_by laws old new v w (Write x) given reply last before runs link moves none misses = stays old new v w (Write x) given reply last before laws runs link misses moves
steps_by laws old new v w (Act x) given reply last before runs link moves none misses = stays old new v w (Act x) given reply last before laws runs link misses moves
steps_by laws old new v w (Release x) given reply last before runs link moves none misses = stays old new v w (Release x) given reply last before laws runs link misses moves
steps_by laws old new v w Close given reply last before runs link moves none misses = stays old new v w Close given reply last before laws runs link misses moves
steps_by laws old new v w Quiesce given reply last before runs link moves none misses = stays old new v w Quiesce given reply last before laws runs link misses moves
steps_by laws old new v w (Plan t) given reply last before runs link moves none misses = ⊎_elim
    (λ same. stays old new v w (Plan t) given reply last before laws runs link misses same)
    (λ plans. plans_on t old new v w (Plan t) given reply last before laws runs link misses plans) moves
steps_by laws old new v w Device given reply last before runs link moves none misses = ⊎_elim
    (λ same. stays old new v w Device given reply last before laws runs link misses same)
    (λ writes. writes_on old new v w given reply old.commit.planned last before laws runs link misses writes none refl) moves
steps_by laws old new v w (DiskOut d) given reply last before runs link moves none misses = ⊎_elim
    (λ same. stays old new v w (DiskOut d) given reply last before laws runs link misses same)
    (λ takes. absurd (taken_is_out old.commit new.commit d takes none)) moves
steps_by laws old new v w (Read a b c) given reply last before runs link moves none misses =
    read_steps old new v w (Read a b c) given reply last before laws runs link misses moves.reads moves.rest
steps_by laws old new v w (ReadUnder g a b c) given reply last before runs link moves none misses =
    read_steps old new v w (ReadUnder g a b c) given reply last before laws runs link misses moves.reads moves.rest

pub steps_on : PhaseLaws → RunningPoolsStepOn
steps_on laws old new v w step given reply last before runs link moves none =
    steps_by laws old new v w step given reply last before runs link moves none (misses_none old new v w step given reply last before runs link moves none)

-- ---- disks that are out stay so

pub none_was_out : (step : Step) (old new : State) → Moves step old new → NoneIsOut new → NoneIsOut old
none_was_out step old new moves none = (keeps_no_spans step old new moves none).0

-- ---- a run

-- a chain of steps
pub record RunsTo (mid : CoreState) (between : View) : Type 0 where
  pub last : Uberblock
  pub earlier : List Uberblock
  pub runs : IsRunning mid between last earlier

pub none_before : (old : CoreState) (v : View) (steps : List Step) (givens : List Given) (replies : List Reply) (mid : CoreState) (between : View)
    → Chain old v steps givens replies mid between → NoneIsOut mid.commit → NoneIsOut old.commit
none_before old v steps givens replies mid between chain none = (chain_keeps old v steps givens replies mid between chain none).0.0

chain_runs : RunningPoolsStepOn → (old : CoreState) (v : View) (steps : List Step) (givens : List Given) (replies : List Reply) (mid : CoreState) (between : View)
    (last : Uberblock) (before : List Uberblock) → IsRunning old v last before → Chain old v steps givens replies mid between → NoneIsOut mid.commit → RunsTo mid between
chain_runs law old v [] [] [] mid between last before runs chain none = record {
  last = last;
  earlier = before;
  runs = subst (λ (p : CoreState × View). IsRunning p.0 p.1 last before) (λ i. (chain.0 i, chain.1 i)) runs;
}
chain_runs law old v (step ∷ steps) (given ∷ givens) (reply ∷ replies) mid between last before runs chain none =
    let one = law old chain.0 v chain.1 step given reply last before runs chain.3 chain.4
    (none_before chain.0 chain.1 steps givens replies mid between chain.5 none) in
    chain_runs law chain.0 chain.1 steps givens replies mid between one.later one.earlier one.runs chain.5 none
chain_runs law old v steps givens replies mid between last before runs chain none = absurd chain

pub runs_stop : RunningPoolsStepOn → RunsStopWell
runs_stop law old mid new v between w steps replies step reply last before runs end none =
    let was : NoneIsOut mid.commit = none_was_out step mid.commit new.commit end.moves none in
    let led = chain_runs law old v steps end.givens replies mid between last before runs end.before was in
    record {
      last = led.last;
      earlier = led.earlier;
      runs = led.runs;
      steps = law mid new between w step end.given reply led.last led.earlier led.runs end.link end.moves none;
    }
