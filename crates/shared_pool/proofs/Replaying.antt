-- A record with one step more, and one that begins anew.
use Rattle.std.proofs.Common.{◌≡◌, true, List, [], ◌∷◌, ◌++◌, refl, sym, subst}
use Rattle.std.specs.List.{AllByRecursion}
use Rattle.pool_model.specs.View.{View, Given}
use Rattle.pool_model.specs.Machine.{Run, StepOf}
use Rattle.pool_steps.specs.Goes.{Goes}
use Rattle.pool_steps.specs.declared.steps.PoolSteps.{Ghosts}
use Rattle.shared_pool.specs.declared.recorded.Entry.{Entry}
use Rattle.shared_pool.specs.Replay.{Chain, Replays}
use Rattle.shared_pool.specs.Weights.{steps_of, replies_of}

-- ---- one entry more

run_more : (v : View) (entries : List Entry) (givens : List Given) (mid : View) (e : Entry) (given : Given) (w : View)
    → Run v (steps_of entries) givens (replies_of entries) mid → StepOf mid given e.step e.reply w
    → Run v (steps_of (entries ++ e ∷ [])) (givens ++ given ∷ []) (replies_of (entries ++ e ∷ [])) w
run_more v [] [] mid e given w run step = (w, subst (λ (u : View). StepOf u given e.step e.reply w) run step, refl)
run_more v [] (x ∷ givens) mid e given w run step = absurd run
run_more v (x ∷ entries) [] mid e given w run step = absurd run
run_more v (x ∷ entries) (y ∷ givens) mid e given w run step = (run.0, run.1, run_more run.0 entries givens mid e given w run.2 step)

chain_more : {C : Type 0} (g : Ghosts C) (old : C) (v : View) (entries : List Entry) (givens : List Given) (mid : C) (between : View) (e : Entry) (given : Given) (new : C) (w : View)
    → Chain g old v entries givens mid between → g.links mid between e.step given e.reply new w
    → Chain g old v (entries ++ e ∷ []) (givens ++ given ∷ []) new w
chain_more {C} g old v [] [] mid between e given new w chain link = (
  new,
  w,
  subst (λ (p : C × View). g.links p.0 p.1 e.step given e.reply new w) (λ i. (sym chain.0 i, sym chain.1 i)) link,
  (refl, refl),
)
chain_more g old v [] (x ∷ givens) mid between e given new w chain link = absurd chain
chain_more g old v (x ∷ entries) [] mid between e given new w chain link = absurd chain
chain_more g old v (x ∷ entries) (y ∷ givens) mid between e given new w chain link =
    (chain.0, chain.1, chain.2, chain_more g chain.0 chain.1 entries givens mid between e given new w chain.3 link)

all_more : {A : Type 0} (P : A → Type 0) (xs : List A) (x : A) → AllByRecursion P xs → P x → AllByRecursion P (xs ++ x ∷ [])
all_more P [] x all p = (p, tt)
all_more P (y ∷ xs) x all p = (all.0, all_more P xs x all.1 p)

pub replays_more : {C : Type 0} (g : Ghosts C) (start : C) (entries : List Entry) (old new : C) (e : Entry)
    → Replays g start entries old → Goes g.represents g.answers_tell g.links old e.step e.reply new → g.answers_tell old new
    → Replays g start (entries ++ e ∷ []) new
replays_more g start entries old new e so_far goes tell =
    let one = goes so_far.after so_far.ends tell in
    record {
      before = so_far.before;
      givens = so_far.givens ++ one.given ∷ [];
      after = one.after;
      starts = so_far.starts;
      trusted = all_more (λ (given : Given). given.trusted ≡ true) so_far.givens one.given so_far.trusted one.trusted;
      run = run_more so_far.before entries so_far.givens so_far.after e one.given one.after so_far.run one.is_step;
      chain = chain_more g start so_far.before entries so_far.givens old so_far.after e one.given new one.after so_far.chain one.link;
      ends = one.represents_after;
    }

-- ---- none

pub replays_none : {C : Type 0} (g : Ghosts C) (core : C) (v : View) → g.represents core v → Replays g core [] core
replays_none g core v represents = record { before = v; givens = []; after = v; starts = represents; trusted = tt; run = refl; chain = (refl, refl); ends = represents }
