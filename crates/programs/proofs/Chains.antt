-- Commands that a core answers, as one chain of it.
use Rattle.std.proofs.Common.{◌≡◌, ℕ, List, [], ◌∷◌, ◌++◌, Bool, true, false, refl, sym, subst}
use Rattle.std.specs.List.{AllByRecursion}
use Rattle.pool_model.specs.declared.step.Step.{Step}
use Rattle.pool_model.specs.declared.step.Reply.{Reply}
use Rattle.pool_model.specs.View.{View, Given}
use Rattle.pool_model.proofs.Whole.{headline}
use Rattle.schedule_lines.specs.declared.command.Command.{Command}
use Rattle.pool_create.specs.Represents.{Represents}
use Rattle.pool_create.specs.CoreRuns.{Chain}
use Rattle.pool_create.specs.CoreState.{CoreState}
use Rattle.pool_create.proofs.CoreRunning.{run_of}
use Rattle.programs.specs.declared.outcome.Outcome.{Outcome}
use Rattle.programs.specs.Answers.{Leads, Goes as GoesOn, runs_on}
use Rattle.programs.specs.Outcomes.{IsOutcomeText, Replies}
use Rattle.programs.specs.Plays.{Plays}
use Rattle.programs.specs.Runs.{StepsTruly, AreSteps, AreParts, IsOneRun, IsStoppedRun}

-- a chain of the core, which is trusted
pub record IsChain (old : CoreState) (v : View) (steps : List Step) (replies : List Reply) (new : CoreState) : Type 0 where
  pub givens : List Given
  pub after : View
  pub trust : AllByRecursion (λ (given : Given). given.trusted ≡ true) givens
  pub chain : Chain old v steps givens replies new after
  pub represents : Represents new after

chain_one : (old : CoreState) (v : View) (step : Step) (reply : Reply) (new : CoreState) → Represents old v → StepsTruly old step reply new → IsChain old v (step ∷ []) (reply ∷ []) new
chain_one old v step reply new r truly =
    let goes = truly.2 v r in
    record {
      givens = goes.given ∷ [];
      after = goes.after;
      trust = (goes.trust refl, tt);
      chain = (new, goes.after, truly.0, goes.link, truly.1, (refl, refl));
      represents = goes.link.represents;
    }

joined : (old : CoreState) (v : View) (steps : List Step) (givens : List Given) (replies : List Reply) (mid : CoreState) (between : View) (others : List Step) (later : List Given) (answers : List Reply) (new : CoreState) (w : View)
    → Chain old v steps givens replies mid between → Chain mid between others later answers new w → Chain old v (steps ++ others) (givens ++ later) (replies ++ answers) new w
joined old v [] [] [] mid between others later answers new w first rest =
    subst (λ (p : CoreState × View). Chain p.0 p.1 others later answers new w) (λ i. (sym first.0 i, sym first.1 i)) rest
joined old v (step ∷ steps) (given ∷ givens) (reply ∷ replies) mid between others later answers new w first rest =
    (first.0, first.1, first.2, first.3, first.4, joined first.0 first.1 steps givens replies mid between others later answers new w first.5 rest)
joined old v steps givens replies mid between others later answers new w first rest = absurd first

all_joined : {A : Type 0} (P : A → Type 0) (xs ys : List A) → AllByRecursion P xs → AllByRecursion P ys → AllByRecursion P (xs ++ ys)
all_joined P [] ys h k = k
all_joined P (x ∷ xs) ys h k = (h.0, all_joined P xs ys h.1 k)

chain_joins : (old : CoreState) (v : View) (steps : List Step) (replies : List Reply) (mid : CoreState) (others : List Step) (answers : List Reply) (new : CoreState)
    → (first : IsChain old v steps replies mid) → IsChain mid first.after others answers new → IsChain old v (steps ++ others) (replies ++ answers) new
chain_joins old v steps replies mid others answers new first rest = record {
  givens = first.givens ++ rest.givens;
  after = rest.after;
  trust = all_joined (λ (given : Given). given.trusted ≡ true) first.givens rest.givens first.trust rest.trust;
  chain = joined old v steps first.givens replies mid first.after others rest.givens answers new rest.after first.chain rest.chain;
  represents = rest.represents;
}

-- ---- one command

module _ {M : Type 0} (state : M → CoreState) where
  abbrev Truly : M → Step → Reply → M → Type 0
  Truly old step reply new = StepsTruly (state old) step reply (state new)

  -- the steps that lead to the last reply
  pub leads_chain : (old : M) (v : View) (s : Step) (front : List Reply) (last : Reply) (new : M) → Represents (state old) v → Leads Truly old s front last new
      → (steps : List Step) × AreSteps s front steps × IsChain (state old) v steps (front ++ last ∷ []) (state new)
  leads_chain old v s [] last new r leads = (s ∷ [], refl, chain_one (state old) v s last (state new) r leads)
  leads_chain old v s (reply ∷ front) last new r leads =
      let one = chain_one (state old) v s reply (state leads.0) r leads.2 in
      let more = leads_chain leads.0 one.after leads.1 front last new one.represents leads.4 in (
        s ∷ more.0,
        (leads.1, more.0, leads.3, more.1, refl),
        chain_joins (state old) v (s ∷ []) (reply ∷ []) (state leads.0) more.0 (front ++ last ∷ []) (state new) one more.2,
      )

  command_chain : (old : M) (v : View) (b : Bool) (s : Step) (last : Reply) (new : M) → Represents (state old) v → GoesOn Truly b old s last new
      → (front : List Reply) × (steps : List Step) × AreSteps s front steps × IsChain (state old) v steps (front ++ last ∷ []) (state new)
  command_chain old v true s last new r goes = let led = leads_chain old v s goes.0 last new r goes.1 in (goes.0, led.0, led.1, led.2)
  command_chain old v false s last new r goes = let led = leads_chain old v s [] last new r goes in ([], led.0, led.1, led.2)

  -- ---- all commands

  pub plays_chain : (old : M) (v : View) (commands : List Command) (text : List ℕ) (new : M) → Represents (state old) v → Plays (Replies Truly) old commands text new
      → (steps : List Step) × (replies : List Reply) × AreParts commands steps replies text × IsChain (state old) v steps replies (state new)
  plays_chain old v [] text new r plays = (
    [],
    [],
    (refl, refl, plays.1),
    subst (λ (m : M). IsChain (state old) v [] [] (state m)) plays.0 (record { givens = []; after = v; trust = tt; chain = (refl, refl); represents = r }),
  )
  plays_chain old v (command ∷ commands) text new r plays =
      let last = plays.4.0 in
      let said = subst (λ (outcome : Outcome). IsOutcomeText outcome plays.2) plays.4.1 plays.5 in
      let one = command_chain old v (runs_on command) plays.4.2.0 last plays.0 r plays.4.2.2 in
      let rest = plays_chain plays.0 one.3.after commands plays.3 new one.3.represents plays.6 in (
        one.1 ++ rest.0,
        (one.0 ++ last ∷ []) ++ rest.1,
        (
          one.1,
          rest.0,
          one.0 ++ last ∷ [],
          rest.1,
          last,
          plays.2,
          plays.3,
          record { first = plays.4.2.0; front = one.0; begins = plays.4.2.1; follow = one.2; ends = refl },
          said,
          rest.2,
          refl,
          refl,
          plays.7,
        ),
        chain_joins (state old) v one.1 (one.0 ++ last ∷ []) (state plays.0) rest.0 rest.1 (state new) one.3 rest.3,
      )

  pub plays_run : (old : M) (v : View) (commands : List Command) (text : List ℕ) (new : M) → Represents (state old) v → Plays (Replies Truly) old commands text new → IsOneRun (state old) v commands text (state new)
  plays_run old v commands text new r plays =
      let all = plays_chain old v commands text new r plays in
      record {
        steps = all.0;
        givens = all.3.givens;
        replies = all.1;
        after = all.3.after;
        parts = all.2;
        trust = λ e. all.3.trust;
        chain = all.3.chain;
        headline = headline v all.0 all.3.givens all.1 all.3.after r.follows.sound (run_of (state old) v all.0 all.3.givens all.1 (state new) all.3.after all.3.chain);
        represents = all.3.represents;
      }

-- ---- a commit that is stopped

pub stopped_run : (old : CoreState) (v : View) (s : Step) (front : List Reply) (last : Reply) (new : CoreState) → Represents old v → Leads StepsTruly old s front last new → IsStoppedRun old v s new
stopped_run old v s front last new r leads =
    let all = leads_chain (λ (it : CoreState). it) old v s front last new r leads in
    record {
      steps = all.0;
      givens = all.2.givens;
      front = front;
      last = last;
      after = all.2.after;
      follow = all.1;
      trust = λ e. all.2.trust;
      chain = all.2.chain;
      headline = headline v all.0 all.2.givens (front ++ last ∷ []) all.2.after r.follows.sound (run_of old v all.0 all.2.givens (front ++ last ∷ []) new all.2.after all.2.chain);
      represents = all.2.represents;
    }
