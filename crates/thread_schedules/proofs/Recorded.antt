-- Records of threads, as runs of the core that they began with.
use Rattle.std.proofs.Common.{◌≡◌, ℕ, zero, suc, List, [], ◌∷◌, true, Option, refl, ap, subst}
use Rattle.std.specs.List.{AllByRecursion}
use Rattle.pool_model.specs.View.{View, Given}
use Rattle.pool_model.specs.declared.step.Step.{Step}
use Rattle.pool_model.specs.declared.step.Reply.{Reply}
use Rattle.pool_create.specs.Calls.{GrewTo}
use Rattle.pool_create.specs.CoreRuns.{Chain}
use Rattle.pool_create.specs.CoreState.{CoreState, disks_of}
use Rattle.pool_create.specs.CoreSteps.{Link}
use Rattle.pool_create.specs.Moves.{Moves}
use Rattle.pool_create.specs.Represents.{Represents}
use Rattle.pool_steps.specs.declared.steps.PoolSteps.{Ghosts}
use Rattle.shared_pool.specs.declared.recorded.Entry.{Entry}
use Rattle.shared_pool.specs.History.{History}
use Rattle.shared_pool.specs.Replay.{Chain as RecordChain, Replays}
use Rattle.shared_pool.specs.Weights.{steps_of, replies_of}
use Rattle.thread_runs.specs.Printing.{PrintsRecord, PrintsRecords, PrintsSoMany as PrintsSoManyRecords}
use Rattle.thread_schedules.specs.Runs.{IsRecordedRun, PrintsRun, PrintsRuns, PrintsSoMany}

-- what a step did to the core
abbrev pub IsLinked : CoreState → View → Step → Given → Reply → CoreState → View → Type 0
IsLinked old v step given reply new w = GrewTo (disks_of old) (disks_of new) × Link old v step given reply new w × Moves step old.commit new.commit

module _ {C : Type 0} (g : Ghosts C) (show : C → CoreState) (shows : (c : C) (v : View) → g.represents c v → Represents (show c) v)
    (links : (old : C) (v : View) (step : Step) (given : Given) (reply : Reply) (new : C) (w : View) → g.links old v step given reply new w → IsLinked (show old) v step given reply (show new) w) where
  shown : (old : C) (v : View) (entries : List Entry) (givens : List Given) (new : C) (w : View) → RecordChain g old v entries givens new w
      → Chain (show old) v (steps_of entries) givens (replies_of entries) (show new) w
  shown old v [] [] new w chain = (ap show chain.0, chain.1)
  shown old v [] (x ∷ givens) new w chain = absurd chain
  shown old v (e ∷ entries) [] new w chain = absurd chain
  shown old v (e ∷ entries) (x ∷ givens) new w chain =
      let linked = links old v e.step x e.reply chain.0 chain.1 chain.2 in
      (show chain.0, chain.1, linked.0, linked.1, linked.2, shown chain.0 chain.1 entries givens new w chain.3)

  module _ (core : CoreState) (truly : (first last : C) (v : View) → Represents core v → g.answers_tell first last) where
    one_run : (old new : Option (List ℕ)) → PrintsRecord g old new → PrintsRun core old new
    one_run old new printed = record {
      entries = printed.history.entries;
      runs = λ v represents.
          let told = printed.tells (truly printed.history.origin printed.history.core v represents) in
          let r = told.0 in
          record {
            first = show printed.history.start;
            before = r.before;
            givens = r.givens;
            last = show printed.history.core;
            after = r.after;
            trust = λ yes. r.trusted;
            begins = shows printed.history.start r.before r.starts;
            chain = shown printed.history.start r.before printed.history.entries r.givens printed.history.core r.after r.chain;
            headline = told.1;
            represents = shows printed.history.core r.after r.ends;
          };
      written = printed.written;
    }

    so_many : (count : ℕ) (old new : Option (List ℕ)) → PrintsSoManyRecords g count old new → PrintsSoMany core count old new
    so_many zero old new printed = printed
    so_many (suc count) old new printed = (printed.0, so_many count old printed.0 printed.1, one_run printed.0 new printed.2)

    pub all_runs : (old new : Option (List ℕ)) → PrintsRecords g old new → PrintsRuns core old new
    all_runs old new printed = (printed.0, so_many printed.0 old new printed.1)
