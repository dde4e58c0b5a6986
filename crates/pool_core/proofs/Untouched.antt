-- Pools of which no disk missed a group: their steps leave it so.
use Rattle.std.proofs.Common.{◌≡◌, ◌⊎◌, ⊎_elim, ℕ, Bool, true, false, List, [], ◌∷◌, Option, Some, None, inl, inr, refl, sym, ap, subst, ◌∙◌, true≢false, arith}
use Rattle.std.specs.Prelude.{◌==◌, ◌||◌}
use Rattle.std.proofs.lemmas.Bool.Decides.{nat_tests}
use Rattle.block_store.specs.Store.{is_out}
use Rattle.meta_objset.specs.declared.stale_spans.StaleSpan.{StaleSpan}
use Rattle.pool_model.specs.Machine.{StepOf}
use Rattle.pool_model.specs.View.{Given, View}
use Rattle.pool_model.specs.declared.step.Reply.{Reply}
use Rattle.pool_model.specs.declared.step.Step.{Step}
use Rattle.pool_model.specs.declared.step.Step.TheVariants.{Hold, Write, Act, Release, Close, Quiesce, Plan, Device, DiskOut, Read, ReadUnder}
use Rattle.pool_model.proofs.Moves.{EachMove, by_move}
use Rattle.stale_disks.specs.Rules.{AreSpansAfter, guids_in}
use Rattle.stale_disks.proofs.NoSpans.{nothing_after}
use Rattle.vdev_label.specs.Plain.{config_view}
use Rattle.pool_commit.specs.Absence.{TakesOut}
use Rattle.pool_commit.specs.Progress.{IsShifted}
use Rattle.pool_commit.specs.Spans.{HasNoSpan, HasSpansAfter, HaveNoSpans, NoneIsStale}
use Rattle.pool_commit.specs.State.{NoneIsOut, State}
use Rattle.pool_commit.specs.Writing.{IsDropped, PlansFrom, WritesPlan}
use Rattle.pool_commit.specs.declared.kept.Kept.{Kept}
use Rattle.pool_commit.specs.declared.kept.KeptGroup.{KeptGroup}
use Rattle.pool_commit.specs.declared.kept.Planned.{Planned}
use Rattle.pool_core.specs.Moves.{Moves}
use Rattle.pool_core.specs.Represents.{Represents}
use Rattle.pool_core.specs.Runs.{Chain}
use Rattle.pool_core.specs.State.{CoreState}

-- ---- which groups disks missed

abbrev StaysStale : View → Given → Step → Reply → View → Type 0
StaysStale v given step reply w = w.stale ≡ v.stale

each_move : EachMove StaysStale
each_move = record {
  stays = λ v given step cause may none. refl;
  begun = λ v given timestamp cause is. refl;
  again = λ v given timestamp cause is. refl;
  failed = λ v given disk left is. refl;
  replanned = λ v given disk left is. refl;
  out_unplanned = λ v given disk is. refl;
  out_early = λ v given disk left. refl;
  out_late = λ v given disk left. refl;
  moved = λ v given phase left rest out outs. refl;
  read = λ v given name offset len bytes are. refl;
  read_under = λ v given group name offset len bytes kept are. refl;
  held = λ v given writer none. refl;
  wrote = λ v given w group one two three. refl;
  acted = λ v given a group one two three four. refl;
  released = λ v given writer. refl;
  closed = λ v given low. refl;
  quiesced = λ v given none. refl;
  planned = λ v given timestamp calls. refl;
  replanned_group = λ v given timestamp calls. refl;
  committed = λ v given left out outs. refl;
}

-- no step of the machine changes it
pub stale_stays : (v w : View) (given : Given) (step : Step) (reply : Reply) → StepOf v given step reply w → w.stale ≡ v.stale
stale_stays v w given step reply is = by_move StaysStale each_move v given step reply w is

-- so where none is stale none is behind a step
pub none_stale_on : (old new : CoreState) (v w : View) → w.stale ≡ v.stale → Represents old v → Represents new w → NoneIsStale old.commit → NoneIsStale new.commit
none_stale_on old new v w same before after none disk birth =
    sym (after.backs.stale disk birth) ∙ ap (λ (lacks : ℕ → ℕ → Bool). lacks disk birth) same ∙ before.backs.stale disk birth ∙ none disk birth

-- ---- tables of stale spans

of_some : {A : Type 0} (P : A → Type 0) (x y : A) → Some x ≡ Some y → P x → P y
of_some P x y same = subst P (let it : x ≡ y = cc in it)

none_some : {A : Type 0} (x : A) → ¬ (None ≡ Some x)
none_some x clash = cc

same_out : (old new : State) → new.store.out ≡ old.store.out → NoneIsOut new → NoneIsOut old
same_out old new same none disk = ap (λ (out : List Bool). is_out out disk) (sym same) ∙ none disk

-- what is kept and planned is the same
same_spans : (old new : State) → new.kept ≡ old.kept → new.planned ≡ old.planned → HaveNoSpans old → HaveNoSpans new
same_spans old new kept planned none = record {
  last = subst (λ (k : Kept). HasNoSpan k.last) (sym kept) none.last;
  before = λ it is. none.before it (ap (λ (k : Kept). k.before) (sym kept) ∙ is);
  earliest = λ it is. none.earliest it (ap (λ (k : Kept). k.earliest) (sym kept) ∙ is);
  planned = λ plan is. none.planned plan (sym planned ∙ is);
}

abbrev Keeps : State → State → Type 0
Keeps old new = NoneIsOut old × (HaveNoSpans old → HaveNoSpans new)

keeps_same : (old new : State) → new ≡ old → NoneIsOut new → Keeps old new
keeps_same old new same none =
    (same_out old new (ap (λ (s : State). s.store.out) same) none, same_spans old new (ap (λ (s : State). s.kept) same) (ap (λ (s : State). s.planned) same))

-- a group that is planned with no disk out has no span where the one before has none
planned_none : (last after : KeptGroup) (out : List Bool) (group : ℕ) → ((disk : ℕ) → is_out out disk ≡ false) → HasNoSpan last → HasSpansAfter last out group after → HasNoSpan after
planned_none last after out group none no_span spans =
    let guids : List ℕ = guids_in (config_view last.config.value) in
    let table : after.spans_under.value ≡ [] =
    nothing_after guids out group after.spans_under.value none
    (subst (λ (before : List StaleSpan). AreSpansAfter guids out group before after.spans_under.value) no_span.known spans.table) in
    record { table = table; known = spans.known ∙ table }

keeps_plan : (old new : State) → PlansFrom old new → NoneIsOut new → Keeps old new
keeps_plan old new from none =
    let was : NoneIsOut old = same_out old new from.out none in (
      was,
      λ no_spans. record {
        last = subst (λ (k : Kept). HasNoSpan k.last) (sym from.kept) no_spans.last;
        before = λ it is. no_spans.before it (ap (λ (k : Kept). k.before) (sym from.kept) ∙ is);
        earliest = λ it is. no_spans.earliest it (ap (λ (k : Kept). k.earliest) (sym from.kept) ∙ is);
        planned = λ plan is. planned_none old.kept.last plan.after old.store.out plan.uberblock.group was no_spans.last (from.spans plan is);
      },
    )

not_true : (b : Bool) → ¬ (b ≡ true) → b ≡ false
not_true true isnt = absurd (isnt refl)
not_true false isnt = refl

-- a plan goes on
keeps_going : (old new : State) (plan after : Planned) → new.kept ≡ old.kept → after.after ≡ plan.after → old.planned ≡ Some plan → new.planned ≡ Some after → HaveNoSpans old
    → HaveNoSpans new
keeps_going old new plan after kept leads is still no_spans = record {
  last = subst (λ (k : Kept). HasNoSpan k.last) (sym kept) no_spans.last;
  before = λ it at. no_spans.before it (ap (λ (k : Kept). k.before) (sym kept) ∙ at);
  earliest = λ it at. no_spans.earliest it (ap (λ (k : Kept). k.earliest) (sym kept) ∙ at);
  planned = λ other at.
      let same : Some after ≡ Some other = sym still ∙ at in
      of_some (λ (p : Planned). HasNoSpan p.after) after other same (subst HasNoSpan (sym leads) (no_spans.planned plan is));
}

-- its group is committed
keeps_shifted : (old new : State) (plan : Planned) → IsShifted old.kept plan.after new.kept → old.planned ≡ Some plan → new.planned ≡ None → HaveNoSpans old → HaveNoSpans new
keeps_shifted old new plan shifted is gone no_spans = record {
  last = subst HasNoSpan (sym shifted.last) (no_spans.planned plan is);
  before = λ it at. of_some HasNoSpan old.kept.last it (sym shifted.before ∙ at) no_spans.last;
  earliest = λ it at. no_spans.before it (sym shifted.earliest ∙ at);
  planned = λ other at. absurd (none_some other (sym gone ∙ at));
}

keeps_ended : (old new : State) (plan : Planned) → IsDropped old new ⊎ IsShifted old.kept plan.after new.kept → NoneIsOut new → old.planned ≡ Some plan → new.planned ≡ None → HaveNoSpans old
    → HaveNoSpans new
keeps_ended old new plan (inl dropped) none is gone no_spans = absurd (true≢false (sym dropped.out ∙ none dropped.disk))
keeps_ended old new plan (inr shifted) none is gone no_spans = keeps_shifted old new plan shifted is gone no_spans

keeps_written : (old new : State) (plan : Planned) (later : Option Planned) → WritesPlan old new → NoneIsOut new → old.planned ≡ Some plan → new.planned ≡ later → HaveNoSpans old
    → HaveNoSpans new
keeps_written old new plan (Some after) writes none is still no_spans =
    keeps_going old new plan after (writes.stays plan after is still) (writes.goes_on plan after is still).leads is still no_spans
keeps_written old new plan None writes none is gone no_spans = keeps_ended old new plan (writes.ends plan is gone) none is gone no_spans

keeps_device : (old new : State) (planned : Option Planned) → WritesPlan old new → NoneIsOut new → old.planned ≡ planned → HaveNoSpans old → HaveNoSpans new
keeps_device old new None writes none is no_spans =
    let same : new ≡ old = writes.idle is in
    same_spans old new (ap (λ (s : State). s.kept) same) (ap (λ (s : State). s.planned) same) no_spans
keeps_device old new (Some plan) writes none is no_spans = keeps_written old new plan new.planned writes none is refl no_spans

-- a disk that is taken out is out
taken_is_out : (old new : State) (disk : ℕ) → TakesOut disk old new → NoneIsOut new → ⊥
taken_is_out old new disk takes none = true≢false (sym (takes.out.disks disk ∙ or_same (is_out old.store.out disk)) ∙ none disk)
  where
    same : (disk == disk) ≡ true
    same = grind (arith, nat_tests)

    or_same : (b : Bool) → (b || (disk == disk)) ≡ true
    or_same true = refl
    or_same false = same

-- where none is out behind a step none was before, and no group gets a span
pub keeps_no_spans : (step : Step) (old new : State) → Moves step old new → NoneIsOut new → Keeps old new
keeps_no_spans (Hold x) old new moves none = keeps_same old new moves none
keeps_no_spans (Write x) old new moves none = keeps_same old new moves none
keeps_no_spans (Act x) old new moves none = keeps_same old new moves none
keeps_no_spans (Release x) old new moves none = keeps_same old new moves none
keeps_no_spans Close old new moves none = keeps_same old new moves none
keeps_no_spans Quiesce old new moves none = keeps_same old new moves none
keeps_no_spans (Plan t) old new moves none = ⊎_elim (λ same. keeps_same old new same none) (λ plans. keeps_plan old new plans.from none) moves
keeps_no_spans Device old new moves none = ⊎_elim
    (λ same. keeps_same old new same none)
    (λ writes. (
      λ disk. not_true (is_out old.store.out disk) (λ out. true≢false (sym (writes.out.still disk out) ∙ none disk)),
      keeps_device old new old.planned writes none refl,
    )) moves
keeps_no_spans (DiskOut d) old new moves none = ⊎_elim (λ same. keeps_same old new same none) (λ takes. absurd (taken_is_out old new d takes none)) moves
keeps_no_spans (Read a b c) old new moves none =
    (same_out old new (ap (λ (s : State). s.store.out) moves.rest) none, same_spans old new (ap (λ (s : State). s.kept) moves.rest) (ap (λ (s : State). s.planned) moves.rest))
keeps_no_spans (ReadUnder g a b c) old new moves none =
    (same_out old new (ap (λ (s : State). s.store.out) moves.rest) none, same_spans old new (ap (λ (s : State). s.kept) moves.rest) (ap (λ (s : State). s.planned) moves.rest))

-- so it is of a chain of steps
pub chain_keeps : (old : CoreState) (v : View) (steps : List Step) (givens : List Given) (replies : List Reply) (new : CoreState) (w : View)
    → Chain old v steps givens replies new w → NoneIsOut new.commit → Keeps old.commit new.commit × (w.stale ≡ v.stale)
chain_keeps old v [] [] [] new w chain none = (
  keeps_same old.commit new.commit (ap (λ (s : CoreState). s.commit) (sym chain.0)) none,
  ap (λ (x : View). x.stale) (sym chain.1),
)
chain_keeps old v (step ∷ steps) (given ∷ givens) (reply ∷ replies) new w chain none =
    let rest = chain_keeps chain.0 chain.1 steps givens replies new w chain.5 none in
    let one = keeps_no_spans step old.commit chain.0.commit chain.4 rest.0.0 in
    ((one.0, λ no_spans. rest.0.1 (one.1 no_spans)), rest.1 ∙ stale_stays v chain.1 given step reply chain.3.is_step)
chain_keeps old v steps givens replies new w chain none = absurd chain
