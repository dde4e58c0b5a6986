-- What stays true of what lies under the lock.
use Rattle.std.proofs.Common.{◌≡◌, ◌+◌, ◌^◌, ◌<◌, ◌≤◌, ℕ, List, [], ◌∷◌, ◌++◌, length, sym, ap, ◌∙◌, subst, arith, length-append}
use Rattle.std.proofs.lemmas.List.Sums.{sum_by_push}
use Rattle.pool_model.specs.View.{View}
use Rattle.pool_model.specs.Sound.{IsSound}
use Rattle.pool_model.proofs.Whole.{headline}
use Rattle.pool_steps.specs.Goes.{Goes}
use Rattle.pool_steps.specs.declared.steps.PoolSteps.{Ghosts}
use Rattle.shared_pool.specs.declared.recorded.Entry.{Entry}
use Rattle.shared_pool.specs.History.{History, IsRecord, Tells}
use Rattle.shared_pool.specs.Replay.{Replays}
use Rattle.shared_pool.specs.Weights.{weight_of, writers_steps, steps_of, replies_of}
use Rattle.shared_pool.proofs.Replaying.{replays_more, replays_none}

abbrev pub history : {C : Type 0} → C → C → C → List Entry → ℕ → ℕ → ℕ → ℕ → History C
history core origin start entries sealed total begun calls =
    record { core = core; origin = origin; start = start; entries = entries; sealed = sealed; total = total; begun = begun; calls = calls }

-- an empty record
pub record_new : {C : Type 0} (g : Ghosts C) (core origin start : C) (entries : List Entry) (total begun calls : ℕ)
    → origin ≡ core → start ≡ core → entries ≡ [] → total ≡ 0 → begun ≡ calls → g.came_from core core
    → (g.answers_tell core core → (v : View) × g.represents core v) → IsRecord g (history core origin start entries 0 total begun calls)
record_new {C} g core origin start entries total begun calls from_core at_core none uncounted began same sound = record {
  sealed_before = subst (λ (p : C × C). g.came_from p.0 p.1) (λ i. (sym from_core i, sym at_core i)) same;
  since = subst (λ (s : C). g.came_from s core) (sym at_core) same;
  replays = λ tell.
      let v = sound (subst (λ (o : C). g.answers_tell o core) from_core tell) in
      subst (λ (p : C × List Entry). Replays g p.0 p.1 core) (λ i. (sym at_core i, sym none i)) (replays_none g core v.0 v.1);
  counts = omega (arith, ap writers_steps none, uncounted);
  called = omega (arith, ap (λ (es : List Entry). length es) none, began);
  fits = omega (arith, ap (λ (es : List Entry). length es) none);
  few = omega arith;
}

-- a record that begins anew at the present core
pub record_sealed : {C : Type 0} (g : Ghosts C) (core origin start next : C) (entries rest : List Entry) (sealed more total after begun calls begins called : ℕ)
    → next ≡ core → rest ≡ [] → sealed + more ≤ 2 ^ 62 → more ≡ writers_steps entries → after ≡ total → begins ≡ called → g.came_from core core
    → ((first mid last : C) → g.came_from first mid → g.came_from mid last → g.came_from first last)
    → IsRecord g (history core origin start entries sealed total begun calls) → IsRecord g (history core origin next rest (sealed + more) after begins called)
record_sealed {C} g core origin start next entries rest sealed more total after begun calls begins called at_core none few counted kept began same further before = record {
  sealed_before = subst (λ (s : C). g.came_from origin s) (sym at_core) (further origin start core before.sealed_before before.since);
  since = subst (λ (s : C). g.came_from s core) (sym at_core) same;
  replays = λ tell.
      let r = before.replays tell in
      subst (λ (p : C × List Entry). Replays g p.0 p.1 core) (λ i. (sym at_core i, sym none i)) (replays_none g core r.after r.ends);
  counts =
      let none_left : writers_steps rest ≡ 0 = ap writers_steps none in
      omega (arith, none_left, counted, kept, before.counts);
  called = omega (arith, ap (λ (es : List Entry). length es) none, began);
  fits = omega (arith, ap (λ (es : List Entry). length es) none);
  few = few;
}

-- a record with one entry more
pub record_more : {C : Type 0} (g : Ghosts C) (old new origin start : C) (entries more : List Entry) (e : Entry) (sealed total after begun calls called : ℕ)
    → length entries < 65536 → more ≡ entries ++ e ∷ [] → after ≡ total + weight_of e.step → called ≡ calls + 1 → g.came_from old new
    → Goes g.represents g.answers_tell g.links old e.step e.reply new
    → ((first mid last : C) → g.came_from first mid → g.came_from mid last → g.came_from first last)
    → ((first mid last : C) → g.came_from first mid → g.came_from mid last → g.answers_tell first last → g.answers_tell first mid × g.answers_tell mid last)
    → IsRecord g (history old origin start entries sealed total begun calls) → IsRecord g (history new origin start more sealed after begun called)
record_more g old new origin start entries more e sealed total after begun calls called room longer counted one_more went goes further parts before = record {
  sealed_before = before.sealed_before;
  since = further start old new before.since went;
  replays = λ tell.
      let true_parts = parts origin old new (further origin start old before.sealed_before before.since) went tell in
      subst (λ (es : List Entry). Replays g start es new) (sym longer) (replays_more g start entries old new e (before.replays true_parts.0) goes true_parts.1);
  counts =
      let pushed : writers_steps more ≡ writers_steps entries + weight_of e.step = ap writers_steps longer ∙ sum_by_push (λ (x : Entry). weight_of x.step) entries e in
      omega (arith, pushed, counted, before.counts);
  called =
      let pushed : length more ≡ length entries + 1 = ap (λ (es : List Entry). length es) longer ∙ length-append entries (e ∷ []) in
      omega (arith, pushed, one_more, before.called);
  fits =
      let pushed : length more ≡ length entries + 1 = ap (λ (es : List Entry). length es) longer ∙ length-append entries (e ∷ []) in
      omega (arith, pushed, room);
  few = before.few;
}

-- a record that replays tells the headline
pub record_tells : {C : Type 0} (g : Ghosts C) (h : History C) → ((core : C) (v : View) → g.represents core v → IsSound v) → IsRecord g h → Tells g h
record_tells g h sound r = λ tell.
    let one = r.replays tell in (one, headline one.before (steps_of h.entries) one.givens (replies_of h.entries) one.after (sound h.start one.before one.starts) one.run)
