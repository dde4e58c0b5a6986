-- Sessions with one step more.
use Rattle.std.proofs.Common.{◌≡◌, ◌⊎◌, inl, inr, ⊎_elim, ◌≤◌, ◌^◌, ℕ, List, [], ◌∷◌, ◌++◌, length, Bool, true, false, Option, Some, None, refl, sym, ap, ◌∙◌, ◌+◌, subst, arith, length-append}
use Rattle.std.specs.List.{last_or}
use Rattle.pool_model.specs.declared.step.Step.{Step}
use Rattle.pool_model.specs.declared.step.Reply.{Reply}
use Rattle.pool_model.specs.declared.step.Reply.TheVariants.{Refused}
use Rattle.pool_model.specs.View.{View, Given}
use Rattle.pool_model.proofs.Plans.{all_append}
use Rattle.pool_model.proofs.Whole.{run_snoc}
use Rattle.pool_steps.specs.Goes.{Goes, GoesFrom}
use Rattle.pool_steps.specs.declared.steps.PoolSteps.{Ghosts}
use Rattle.command_steps.specs.Due.{AreTaken, due_after, is_refused, next_of}
use Rattle.command_steps.specs.Sessions.{Chain, RunsOn, Session}

-- ---- what is due

pub none_behind : (t : ℕ) (reply : Reply) → due_after t [] reply ≡ next_of t reply
none_behind t (Refused cause) = refl
none_behind t reply = refl

pub goes_on : (t : ℕ) (step : Step) (behind : List Step) (reply : Reply) → is_refused reply ≡ false → due_after t (step ∷ behind) reply ≡ step ∷ behind
goes_on t step behind (Refused cause) e = absurd cc
goes_on t step behind reply e = refl

pub ends_there : (t : ℕ) (behind : List Step) (reply : Reply) → is_refused reply ≡ true → due_after t behind reply ≡ []
ends_there t behind (Refused cause) e = refl
ends_there t behind reply e = absurd cc

-- ---- the last reply

pub last_further : (o : Option Reply) (replies : List Reply) (last : Reply) → last_or None replies ≡ Some last → last_or o replies ≡ Some last
last_further o [] last e = absurd cc
last_further o (reply ∷ replies) last e = e

pub last_more : (o : Option Reply) (replies : List Reply) (last : Reply) → last_or o (replies ++ last ∷ []) ≡ Some last
last_more o [] last = refl
last_more o (reply ∷ replies) last = last_more (Some reply) replies last

-- ---- a step behind others

pub taken_more : (t : ℕ) (due steps : List Step) (replies : List Reply) (next : Step) (behind : List Step) (reply : Reply) → AreTaken t due steps replies (next ∷ behind)
    → AreTaken t due (steps ++ next ∷ []) (replies ++ reply ∷ []) (due_after t behind reply)
taken_more t due [] [] next behind reply taken = subst (λ (d : List Step). AreTaken t d (next ∷ []) (reply ∷ []) (due_after t behind reply)) taken (refl, refl)
taken_more t (s ∷ due) (x ∷ steps) (r ∷ replies) next behind reply taken = (taken.0, taken_more t (due_after t due r) steps replies next behind reply taken.1)
taken_more t [] (x ∷ steps) (r ∷ replies) next behind reply taken = absurd taken
taken_more t [] [] (r ∷ replies) next behind reply taken = absurd taken
taken_more t [] (x ∷ steps) [] next behind reply taken = absurd taken
taken_more t (s ∷ due) [] (r ∷ replies) next behind reply taken = absurd taken
taken_more t (s ∷ due) (x ∷ steps) [] next behind reply taken = absurd taken

pub chain_more : {C : Type 0} (g : Ghosts C) (old : C) (v : View) (steps : List Step) (givens : List Given) (replies : List Reply) (mid : C) (between : View) (step : Step) (given : Given) (reply : Reply) (new : C) (w : View)
    → Chain g old v steps givens replies mid between → g.links mid between step given reply new w
    → Chain g old v (steps ++ step ∷ []) (givens ++ given ∷ []) (replies ++ reply ∷ []) new w
chain_more {C} g old v [] [] [] mid between step given reply new w chain link = (
  new,
  w,
  subst (λ (p : C × View). g.links p.0 p.1 step given reply new w) (λ i. (sym chain.0 i, sym chain.1 i)) link,
  (refl, refl),
)
chain_more g old v (s ∷ steps) (x ∷ givens) (r ∷ replies) mid between step given reply new w chain link =
    (chain.0, chain.1, chain.2, chain_more g chain.0 chain.1 steps givens replies mid between step given reply new w chain.3 link)
chain_more g old v steps givens replies mid between step given reply new w chain link = absurd chain

module _ {C : Type 0} (g : Ghosts C) (t : ℕ) where
  abbrev pub OneGoes : C → View → Step → Reply → C → Type 0
  OneGoes = GoesFrom g.represents g.answers_tell g.links

  -- one step
  abbrev pub one_step : (old : C) (v : View) (step : Step) (behind : List Step) (reply : Reply) (new : C) → OneGoes old v step reply new → Session g t old v (step ∷ behind) reply (due_after t behind reply) new
  one_step old v step behind reply new one = record {
    steps = step ∷ [];
    givens = one.given ∷ [];
    replies = reply ∷ [];
    after = one.after;
    taken = (refl, refl);
    last_reply = refl;
    trusted = (one.trusted, tt);
    run = (one.after, one.is_step, refl);
    chain = (new, one.after, one.link, (refl, refl));
    represents_after = one.represents_after;
  }

  -- one in front of others
  abbrev pub step_first : (old : C) (v : View) (step : Step) (behind : List Step) (reply : Reply) (mid : C) (last : Reply) (left : List Step) (new : C) (one : OneGoes old v step reply mid)
      → Session g t mid one.after (due_after t behind reply) last left new → Session g t old v (step ∷ behind) last left new
  step_first old v step behind reply mid last left new one more = record {
    steps = step ∷ more.steps;
    givens = one.given ∷ more.givens;
    replies = reply ∷ more.replies;
    after = more.after;
    taken = (refl, more.taken);
    last_reply = last_further (Some reply) more.replies last more.last_reply;
    trusted = (one.trusted, more.trusted);
    run = (one.after, one.is_step, more.run);
    chain = (mid, one.after, one.link, more.chain);
    represents_after = more.represents_after;
  }

  -- one behind others
  abbrev pub step_last : (old : C) (v : View) (due : List Step) (last : Reply) (next : Step) (behind : List Step) (mid : C) (reply : Reply) (new : C) (s : Session g t old v due last (next ∷ behind) mid)
      → OneGoes mid s.after next reply new → Session g t old v due reply (due_after t behind reply) new
  step_last old v due last next behind mid reply new s one = record {
    steps = s.steps ++ next ∷ [];
    givens = s.givens ++ one.given ∷ [];
    replies = s.replies ++ reply ∷ [];
    after = one.after;
    taken = taken_more t due s.steps s.replies next behind reply s.taken;
    last_reply = last_more None s.replies reply;
    trusted = all_append (λ (given : Given). given.trusted ≡ true) s.givens (one.given ∷ []) s.trusted (one.trusted, tt);
    run = run_snoc v s.steps s.givens s.replies s.after one.given next reply one.after s.run one.is_step;
    chain = chain_more g old v s.steps s.givens s.replies mid s.after next one.given reply new one.after s.chain one.link;
    represents_after = one.represents_after;
  }

  -- ---- from each view

  abbrev pub EachGoes : C → Step → Reply → C → Type 0
  EachGoes = Goes g.represents g.answers_tell g.links

  abbrev pub CameFurther : Type 0
  CameFurther = (first mid last : C) → g.came_from first mid → g.came_from mid last → g.came_from first last

  abbrev pub PartsTell : Type 0
  PartsTell = (first mid last : C) → g.came_from first mid → g.came_from mid last → g.answers_tell first last → g.answers_tell first mid × g.answers_tell mid last

  -- a refused step is the last
  pub stops : (old : C) (step : Step) (behind : List Step) (reply : Reply) (new : C) (test : Bool) → test ≡ is_refused reply → test ≡ true → g.came_from old new → EachGoes old step reply new
      → RunsOn g t old (step ∷ behind) reply new
  stops old step behind reply new test tells refused follows goes = record {
    follows = follows;
    sessions = λ v represents tell. (due_after t behind reply, one_step old v step behind reply new (goes v represents tell), inl (ends_there t behind reply (sym tells ∙ refused)));
  }

  -- behind another one the next is due
  pub begins : CameFurther → PartsTell → (old : C) (step next : Step) (behind : List Step) (reply : Reply) (mid : C) (last : Reply) (new : C) (test : Bool) → test ≡ is_refused reply → test ≡ false → g.came_from old mid
      → EachGoes old step reply mid → RunsOn g t mid (next ∷ behind) last new → RunsOn g t old (step ∷ next ∷ behind) last new
  begins further parts old step next behind reply mid last new test tells accepted follows goes rest = record {
    follows = further old mid new follows rest.follows;
    sessions = λ v represents tell.
        let both = parts old mid new follows rest.follows tell in
        let one = goes v represents both.0 in
        let due = sym (goes_on t next behind reply (sym tells ∙ accepted)) in
        let more = (subst (λ (d : List Step). RunsOn g t mid d last new) due rest).sessions one.after one.represents_after both.1 in
        (more.0, step_first old v step (next ∷ behind) reply mid last more.0 new one more.1, ⊎_elim inl (λ (many : 2 ^ 64 ≤ length more.1.steps). inr (omega arith)) more.2);
  }

  -- as far as steps were taken: the reply to the last of them tells what is due
  pub record RunsUpTo (old : C) (step : Step) (last : Reply) (count : ℕ) (new : C) : Type 0 where
    pub follows : g.came_from old new
    pub sessions : (v : View) → g.represents old v → g.answers_tell old new → (s : Session g t old v (step ∷ []) last (due_after t [] last) new) × (length s.steps ≡ count)

  pub runs_one : (old : C) (step : Step) (reply : Reply) (new : C) → g.came_from old new → EachGoes old step reply new → RunsUpTo old step reply 1 new
  runs_one old step reply new follows goes = record { follows = follows; sessions = λ v represents tell. (one_step old v step [] reply new (goes v represents tell), refl) }

  pub runs_more : CameFurther → PartsTell → (old : C) (step : Step) (last : Reply) (count : ℕ) (mid : C) (next : Step) (reply : Reply) (new : C) → next_of t last ≡ next ∷ [] → g.came_from mid new
      → EachGoes mid next reply new → RunsUpTo old step last count mid → RunsUpTo old step reply (count + 1) new
  runs_more further parts old step last count mid next reply new is_next follows goes so_far = record {
    follows = further old mid new so_far.follows follows;
    sessions = λ v represents tell.
        let both = parts old mid new so_far.follows follows tell in
        let due = none_behind t last ∙ is_next in
        let s = subst (λ (left : List Step). (s : Session g t old v (step ∷ []) last left mid) × (length s.steps ≡ count)) due (so_far.sessions v represents both.0) in
        let one = goes (s.0).after (s.0).represents_after both.1 in
        (step_last old v (step ∷ []) last next [] mid reply new s.0 one, length-append (s.0).steps (next ∷ []) ∙ ap (λ (n : ℕ). n + 1) s.1);
  }

  -- nothing is due, or so many steps were taken
  pub runs_out : (old : C) (step : Step) (last : Reply) (count : ℕ) (new : C) → (next_of t last ≡ []) ⊎ (2 ^ 64 ≤ count) → RunsUpTo old step last count new → RunsOn g t old (step ∷ []) last new
  runs_out old step last count new ends so_far = record {
    follows = so_far.follows;
    sessions = λ v represents tell.
        let s = so_far.sessions v represents tell in
        (due_after t [] last, s.0, ⊎_elim (λ (none : next_of t last ≡ []). inl (none_behind t last ∙ none)) (λ (many : 2 ^ 64 ≤ count). inr (omega (arith, s.1))) ends);
  }
