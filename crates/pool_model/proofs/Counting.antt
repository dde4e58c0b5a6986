-- How a run moves groups, and how many it commits.
use Rattle.std.proofs.Common.{◌≡◌, ⊎_elim, inl, inr, subst, ℕ, suc, ◌+◌, ◌≤◌, List, [], ◌∷◌, Bool, true, false, true≢false, Some, None, refl, sym, ap, arith}
use Rattle.std.specs.Prelude.{cond, is_some, length}
use Rattle.pool_model.specs.declared.group.Stage.TheVariants.{Quiescing, Quiesced as QuiescedStage}
use Rattle.pool_model.specs.declared.refusal.Refusal.{Refusal}
use Rattle.pool_model.specs.declared.refusal.Refusal.TheVariants.{Suspended, NotNow}
use Rattle.pool_model.specs.declared.step.Step.{Step}
use Rattle.pool_model.specs.declared.step.Step.TheVariants.{Hold, Plan, Device}
use Rattle.pool_model.specs.declared.step.Reply.{Reply}
use Rattle.pool_model.specs.View.{View, Given, Idle, Unplanned, is_syncing, is_quiesced, waiting_group, open_group}
use Rattle.pool_model.specs.Machine.{StepOf, Run}
use Rattle.pool_model.specs.Accepted.{CountsFrom}
use Rattle.pool_model.specs.Groups.{Counters, taken_upto, counters_of, AreInOrder, TakesNext, MovesRefused, MovesBy, GroupsMove, commits}
use Rattle.pool_model.proofs.Moves.{IsPlanFault, MayStay, EachMove, by_move}

refused_moves : (c : Counters) (step : Step) (cause : Refusal) → MayStay step cause → MovesRefused c step cause c
refused_moves c (Plan timestamp) cause may = ⊎_elim (λ e. subst (λ x. MovesRefused c (Plan timestamp) x c) (sym e) refl) (λ e. subst (λ x. MovesRefused c (Plan timestamp) x c) (sym e) refl) may
refused_moves c Device Suspended may = inl refl
refused_moves c Device cause may = refl
refused_moves c (Hold writer) cause may = refl
refused_moves c step cause may = refl

-- a plan that is refused for another cause takes its group
plan_takes : (c : Counters) (timestamp : ℕ) (cause : Refusal) (d : Counters) → IsPlanFault cause → TakesNext c d → MovesRefused c (Plan timestamp) cause d
plan_takes c timestamp Suspended d is t = absurd is
plan_takes c timestamp NotNow d is t = absurd is
plan_takes c timestamp cause d is t = t

-- the waiting group is the one after those that were taken
waiting_taken : (v : View) → waiting_group v ≡ suc (taken_upto v)
waiting_taken v = elim (is_syncing v.sync) as (λ b. cond b (suc (suc v.committed)) (suc v.committed) ≡ suc (cond b (suc v.committed) v.committed)) [ true ↦ refl | false ↦ refl ]

-- the open group is the one after those that were closed
open_closed : (v : View) → open_group v ≡ suc (counters_of v).closed
open_closed v = let e = waiting_taken v in elim (is_some v.waiting) as (λ b. cond b (suc (waiting_group v)) (waiting_group v) ≡ suc (cond b (suc (taken_upto v)) (taken_upto v))) [ true ↦ ap suc e | false ↦ e ]

unplanned_low : (v : View) → suc v.committed ≤ (counters_of (record v { sync = Unplanned })).quiesced
unplanned_low v = elim (is_quiesced v.waiting) as (λ b. suc v.committed ≤ cond b (suc (suc v.committed)) (suc v.committed)) [ true ↦ omega arith | false ↦ omega arith ]

move_moves : EachMove (λ v given step reply w. MovesBy (counters_of v) step reply (counters_of w))
move_moves = record {
  stays = λ v given step cause may e. refused_moves (counters_of v) step cause may;
  begun = λ v given t cause is. plan_takes (counters_of (record v { sync = Idle; waiting = Some QuiescedStage })) t cause (counters_of (record v { sync = Unplanned; waiting = None })) is (record { quiesced = omega arith; unplanned = refl; taken = refl });
  again = λ v given t cause is. plan_takes (counters_of (record v { sync = Unplanned })) t cause (counters_of (record v { sync = Unplanned })) is (record { quiesced = unplanned_low v; unplanned = refl; taken = refl });
  failed = λ v given disk left e. inr (refl, refl);
  replanned = λ v given disk left e. (refl, refl);
  out_unplanned = λ v given disk e. inl refl;
  out_early = λ v given disk left. inr refl;
  out_late = λ v given disk left. inl refl;
  moved = λ v given phase left rest out e. (refl, refl);
  read = λ v given name offset len bytes a. refl;
  read_under = λ v given g name offset len bytes k a. refl;
  held = λ v given by n. (open_closed v, refl);
  wrote = λ v given x g h n le. refl;
  acted = λ v given a g h n le op. refl;
  released = λ v given by. refl;
  closed = λ v given b. (waiting_taken v, refl, ap (λ n. record (counters_of (record v { waiting = None })) { closed = n }) (sym (waiting_taken v)));
  quiesced = λ v given e. (waiting_taken v, waiting_taken v, ap (λ n. record (counters_of (record v { waiting = Some Quiescing })) { quiesced = n }) (sym (waiting_taken v)));
  planned = λ v given t calls. (refl, omega arith, refl, refl);
  replanned_group = λ v given t calls. (refl, unplanned_low v, refl, refl);
  committed = λ v given left out e. (refl, refl, refl, refl);
}

pub group_step : (v : View) (given : Given) (step : Step) (reply : Reply) (w : View) → StepOf v given step reply w → MovesBy (counters_of v) step reply (counters_of w)
group_step v given step reply w s = by_move (λ v given step reply w. MovesBy (counters_of v) step reply (counters_of w)) move_moves v given step reply w s

pub told_moves : (v : View) (steps : List Step) (givens : List Given) (replies : List Reply) (w : View) → Run v steps givens replies w → GroupsMove (counters_of v) steps replies (counters_of w)
told_moves v [] [] [] w r = ap counters_of r
told_moves v (step ∷ steps) (given ∷ givens) (reply ∷ replies) w r =
    (counters_of r.0, group_step v given step reply r.0 r.1, told_moves r.0 steps givens replies w r.2)
told_moves v steps givens replies w r = absurd r

in_order_by : (c : ℕ) (s q w : Bool) → (q ≡ true → w ≡ true) → AreInOrder (record { committed = c; taken = cond s (suc c) c; quiesced = cond q (suc (cond s (suc c) c)) (cond s (suc c) c); closed = cond w (suc (cond s (suc c) c)) (cond s (suc c) c); planned = false })
in_order_by c s q w h = record {
  one_synced = elim s as (λ s. (c ≤ cond s (suc c) c) × (cond s (suc c) c ≤ suc c)) [ true ↦ (omega arith, omega arith) | false ↦ (omega arith, omega arith) ];
  one_waits = elim w as (λ w. (cond s (suc c) c ≤ cond w (suc (cond s (suc c) c)) (cond s (suc c) c)) × (cond w (suc (cond s (suc c) c)) (cond s (suc c) c) ≤ suc (cond s (suc c) c))) [ true ↦ (omega arith, omega arith) | false ↦ (omega arith, omega arith) ];
  quiesced_first = (
    elim q as (λ q. cond s (suc c) c ≤ cond q (suc (cond s (suc c) c)) (cond s (suc c) c)) [ true ↦ omega arith | false ↦ omega arith ],
    below q w h (cond s (suc c) c),
  );
}
  where
    below : (q w : Bool) → (q ≡ true → w ≡ true) → (n : ℕ) → cond q (suc n) n ≤ cond w (suc n) n
    below true true h n = omega arith
    below true false h n = absurd (true≢false (sym (h refl)))
    below false true h n = omega arith
    below false false h n = omega arith

waits_quiesced : (v : View) → is_quiesced v.waiting ≡ true → is_some v.waiting ≡ true
waits_quiesced v = elim v.waiting as (λ o. is_quiesced o ≡ true → is_some o ≡ true) [ None ↦ λ e. e | Some s ↦ λ e. refl ]

pub in_order : (v : View) → AreInOrder (counters_of v)
in_order v = let h = in_order_by v.committed (is_syncing v.sync) (is_quiesced v.waiting) (is_some v.waiting) (waits_quiesced v) in record { one_synced = h.one_synced; one_waits = h.one_waits; quiesced_first = h.quiesced_first }

-- ---- commits

abbrev CommitsOn : View → Given → Step → Reply → View → Type 0
CommitsOn v given step reply w = (replies : List Reply) (last : ℕ) → CountsFrom (suc w.committed) (commits replies) → last ≡ w.committed + length (commits replies) → CountsFrom (suc v.committed) (commits (reply ∷ replies)) × (last ≡ v.committed + length (commits (reply ∷ replies)))

commit_moves : EachMove CommitsOn
commit_moves = record {
  stays = λ v given step cause may e replies last h k. (h, k);
  begun = λ v given t cause is replies last h k. (h, k);
  again = λ v given t cause is replies last h k. (h, k);
  failed = λ v given disk left e replies last h k. (h, k);
  replanned = λ v given disk left e replies last h k. (h, k);
  out_unplanned = λ v given disk e replies last h k. (h, k);
  out_early = λ v given disk left replies last h k. (h, k);
  out_late = λ v given disk left replies last h k. (h, k);
  moved = λ v given phase left rest out e replies last h k. (h, k);
  read = λ v given name offset len bytes a replies last h k. (h, k);
  read_under = λ v given g name offset len bytes e a replies last h k. (h, k);
  held = λ v given by n replies last h k. (h, k);
  wrote = λ v given x g e n le replies last h k. (h, k);
  acted = λ v given a g e n le op replies last h k. (h, k);
  released = λ v given by replies last h k. (h, k);
  closed = λ v given b replies last h k. (h, k);
  quiesced = λ v given e replies last h k. (h, k);
  planned = λ v given t calls replies last h k. (h, k);
  replanned_group = λ v given t calls replies last h k. (h, k);
  committed = λ v given left out e replies last h k. ((refl, h), omega arith);
}

pub told_commits : (v : View) (steps : List Step) (givens : List Given) (replies : List Reply) (w : View) → Run v steps givens replies w → CountsFrom (suc v.committed) (commits replies) × (w.committed ≡ v.committed + length (commits replies))
told_commits v [] [] [] w r = (tt, let e = ap (λ (x : View). x.committed) r in omega arith)
told_commits v (step ∷ steps) (given ∷ givens) (reply ∷ replies) w r =
    let t = told_commits r.0 steps givens replies w r.2 in
    by_move CommitsOn commit_moves v given step reply r.0 r.1 replies w.committed t.0 t.1
told_commits v steps givens replies w r = absurd r
