-- The first cause against a step of a pool that is not suspended, put together from the tests that the intake makes.
use Rattle.std.proofs.Common.{◌≡◌, ◌≢◌, ◌⊎◌, ⊎_elim, inl, inr, ℕ, ◌<◌, ◌≤◌, Bool, true, false, true≢false, List, [], ◌∷◌, Option, Some, None, refl, sym, ap, ◌∙◌, arith}
use Rattle.std.specs.Prelude.{is_some, is_none, not, nat_le, ◌==◌, ◌&&◌, ◌||◌, if◌then◌else◌}
use Rattle.std.proofs.lemmas.Bool.Decides.{nat_tests}
use Rattle.pool_model.specs.declared.group.Stage.TheVariants.{Quiescing}
use Rattle.pool_model.specs.declared.item.Action.{Action}
use Rattle.pool_model.specs.declared.item.Write.{Write}
use Rattle.pool_model.specs.declared.refusal.Refusal.TheVariants as causes
use Rattle.pool_model.specs.declared.refusal.Refusal.{Refusal as Cause}
use Rattle.pool_model.specs.declared.step.Step.TheVariants.{Hold, Write as WriteStep, Act, Release, Close, Quiesce, Plan}
use Rattle.pool_model.specs.declared.volume.PlainVolume.{PlainVolume}
use Rattle.pool_model.specs.Pools.{PlainPool, volume_at}
use Rattle.pool_model.specs.View.{View, is_syncing, is_planned, is_quiescing, is_quiesced, is_suspended, waiting_group, open_group, hold_group, is_held, now_of}
use Rattle.pool_model.specs.Flow.{flow_of}
use Rattle.pool_model.specs.Refusals.{greatest, first_cause, or_else, number_refusal, place_refusal, write_refusal, change_refusal, act_refusal, may_plan, refusal_of}
use Rattle.txg_pipeline.specs.declared.refusal.Refusal.{Refusal}
use Rattle.txg_pipeline.specs.declared.refusal.Refusal.TheVariants.{NoMemory, AlreadyHeld, NoHold, OutOfOrder, NotNow}
use Rattle.txg_pipeline.specs.Carries.{IsAdmitted, IsNotAdmitted}
use Rattle.txg_pipeline.specs.Calls.{cause_of}

-- a test that fails is passed over
passed : (b : Bool) (cause : Cause) (rest : List (Bool × Cause)) → b ≡ false → first_cause ((b, cause) ∷ rest) ≡ first_cause rest
passed b cause rest e = ap (λ t. if t then Some cause else first_cause rest) e

caught : (b : Bool) (cause : Cause) (rest : List (Bool × Cause)) → b ≡ true → first_cause ((b, cause) ∷ rest) ≡ Some cause
caught b cause rest e = ap (λ t. if t then Some cause else first_cause rest) e

-- two tests for one cause
either_caught : (a b : Bool) (cause : Cause) → (a ≡ true) ⊎ (b ≡ true) → first_cause ((a, cause) ∷ (b, cause) ∷ []) ≡ Some cause
either_caught true b cause h = refl
either_caught false b cause h = ⊎_elim (λ e. absurd (true≢false (sym e))) (caught b cause []) h

none_caught : (a b : Bool) (cause : Cause) → a ≡ false → b ≡ false → first_cause ((a, cause) ∷ (b, cause) ∷ []) ≡ None
none_caught a b cause e f = passed a cause ((b, cause) ∷ []) e ∙ passed b cause [] f

-- the test for a suspended pool comes first
running : (v : View) (rest : List (Bool × Cause)) → is_suspended v ≡ false → first_cause ((is_suspended v, causes.Suspended) ∷ rest) ≡ first_cause rest
running v rest u = passed (is_suspended v) causes.Suspended rest u

-- ---- holds

pub hold_free : (v : View) (writer : ℕ) → is_suspended v ≡ false → hold_group writer v.holds ≡ None → refusal_of v (Hold writer) ≡ None
hold_free v writer u n = running v ((is_some (hold_group writer v.holds), causes.AlreadyHeld) ∷ []) u ∙ passed (is_some (hold_group writer v.holds)) causes.AlreadyHeld [] (ap is_some n)

pub hold_held : (v : View) (writer : ℕ) → is_suspended v ≡ false → is_some (hold_group writer v.holds) ≡ true → refusal_of v (Hold writer) ≡ Some causes.AlreadyHeld
hold_held v writer u s = running v ((is_some (hold_group writer v.holds), causes.AlreadyHeld) ∷ []) u ∙ caught (is_some (hold_group writer v.holds)) causes.AlreadyHeld [] s

pub release_held : (v : View) (writer : ℕ) → is_some (hold_group writer v.holds) ≡ true → refusal_of v (Release writer) ≡ None
release_held v writer s = passed (is_none (hold_group writer v.holds)) causes.NoHold [] (some (hold_group writer v.holds) s)
  where
    some : (hold : Option ℕ) → is_some hold ≡ true → is_none hold ≡ false
    some None s = absurd (true≢false (sym s))
    some (Some group) s = refl

pub release_free : (v : View) (writer : ℕ) → hold_group writer v.holds ≡ None → refusal_of v (Release writer) ≡ Some causes.NoHold
release_free v writer n = caught (is_none (hold_group writer v.holds)) causes.NoHold [] (ap is_none n)

-- ---- groups

abbrev close_tests : View → List (Bool × Cause)
close_tests v = (is_some v.waiting, causes.NotNow) ∷ (nat_le greatest (open_group v), causes.NotNow) ∷ []

pub close_free : (v : View) → is_suspended v ≡ false → v.waiting ≡ None → open_group v < greatest → refusal_of v Close ≡ None
close_free v u n lt = running v (close_tests v) u ∙ none_caught (is_some v.waiting) (nat_le greatest (open_group v)) causes.NotNow (ap is_some n) (low (open_group v) lt)
  where
    low : (n : ℕ) → n < greatest → nat_le greatest n ≡ false
    low n h = grind (arith, nat_tests)

pub close_early : (v : View) → is_suspended v ≡ false → (is_some v.waiting ≡ true) ⊎ (greatest ≤ open_group v) → refusal_of v Close ≡ Some causes.NotNow
close_early v u h = running v (close_tests v) u ∙ either_caught (is_some v.waiting) (nat_le greatest (open_group v)) causes.NotNow (⊎_elim inl (λ le. inr (high greatest (open_group v) le)) h)
  where
    high : (m n : ℕ) → m ≤ n → nat_le m n ≡ true
    high m n h = grind (arith, nat_tests)

abbrev quiesce_tests : View → List (Bool × Cause)
quiesce_tests v = (not (is_quiescing v.waiting), causes.NotNow) ∷ (is_held (waiting_group v) v.holds, causes.NotNow) ∷ []

pub quiesce_free : (v : View) → is_suspended v ≡ false → v.waiting ≡ Some Quiescing → is_held (waiting_group v) v.holds ≡ false → refusal_of v Quiesce ≡ None
quiesce_free v u q h = running v (quiesce_tests v) u ∙ none_caught (not (is_quiescing v.waiting)) (is_held (waiting_group v) v.holds) causes.NotNow (ap (λ w. not (is_quiescing w)) q) h

pub quiesce_early : (v : View) → is_suspended v ≡ false → (is_quiescing v.waiting ≡ false) ⊎ (is_held (waiting_group v) v.holds ≡ true) → refusal_of v Quiesce ≡ Some causes.NotNow
quiesce_early v u h = running v (quiesce_tests v) u ∙ either_caught (not (is_quiescing v.waiting)) (is_held (waiting_group v) v.holds) causes.NotNow (⊎_elim (λ f. inl (ap not f)) inr h)

-- ---- plans

may : (a b c : Bool) → a ≡ false → (b ≡ true) ⊎ (c ≡ true) → not (not a && (b || c)) ≡ false
may true b c f h = absurd (true≢false f)
may false true c f h = refl
may false false c f h = ⊎_elim (λ x. absurd (true≢false (sym x))) (ap not) h

pub plan_free : (v : View) (timestamp : ℕ) → is_suspended v ≡ false → is_planned v.sync ≡ false → (is_syncing v.sync ≡ true) ⊎ (is_quiesced v.waiting ≡ true) → refusal_of v (Plan timestamp) ≡ None
plan_free v timestamp u p h = running v ((not (may_plan v), causes.NotNow) ∷ []) u ∙ passed (not (may_plan v)) causes.NotNow [] (may (is_planned v.sync) (is_syncing v.sync) (is_quiesced v.waiting) p h)

pub plan_early : (v : View) (timestamp : ℕ) → is_suspended v ≡ false → is_planned v.sync ≡ false → is_syncing v.sync ≡ false → is_quiesced v.waiting ≡ false → refusal_of v (Plan timestamp) ≡ Some causes.NotNow
plan_early v timestamp u p s q = running v ((not (may_plan v), causes.NotNow) ∷ []) u ∙ caught (not (may_plan v)) causes.NotNow [] (λ i. not (not (p i) && (s i || q i)))

-- ---- numbers

wrong_number : (expected number : ℕ) → (number ≢ expected) ⊎ (greatest < number) → number_refusal expected number ≡ Some (causes.OutOfOrder expected)
wrong_number expected number h = grind (arith, nat_tests, h)

right_number : (expected number : ℕ) → number ≡ expected → number ≤ greatest → number_refusal expected number ≡ None
right_number expected number e le = grind (arith, nat_tests, e, le)

-- ---- writes

write_cause : (v : View) (w : Write) → is_suspended v ≡ false → refusal_of v (WriteStep w) ≡ write_refusal w (v.next w.writer) (volume_at w.volume (now_of v)) (hold_group w.writer v.holds)
write_cause v w u = ap (λ o. or_else o (write_refusal w (v.next w.writer) (volume_at w.volume (now_of v)) (hold_group w.writer v.holds))) (running v [] u)

write_misnumbered : (w : Write) (expected : ℕ) (found : Option PlainVolume) (hold : Option ℕ) (cause : Cause) → is_some hold ≡ true → number_refusal expected w.number ≡ Some cause → write_refusal w expected found hold ≡ Some cause
write_misnumbered w expected found None cause s n = absurd (true≢false (sym s))
write_misnumbered w expected found (Some group) cause s n = ap (λ o. or_else o (place_refusal w group found)) n

-- a write that is not admitted
pub write_barred : (v : View) (w : Write) (cause : Refusal) → is_suspended v ≡ false → IsNotAdmitted (flow_of v) w.writer w.number cause → refusal_of v (WriteStep w) ≡ Some (cause_of cause)
write_barred v w NoHold u n = write_cause v w u ∙ ap (write_refusal w (v.next w.writer) (volume_at w.volume (now_of v))) n
write_barred v w (OutOfOrder expected) u n = write_cause v w u ∙ write_misnumbered w (v.next w.writer) _ _ _ n.0 (wrong_number _ _ n.2 ∙ ap (λ k. Some (causes.OutOfOrder k)) (sym n.1))
write_barred v w NoMemory u n = absurd n
write_barred v w AlreadyHeld u n = absurd n
write_barred v w NotNow u n = absurd n

-- one that is admitted is refused by the volume alone
pub write_placed : (v : View) (w : Write) (group : ℕ) → is_suspended v ≡ false → IsAdmitted (flow_of v) w.writer w.number group → refusal_of v (WriteStep w) ≡ place_refusal w group (volume_at w.volume (now_of v))
write_placed v w group u a =
    write_cause v w u
    ∙ (ap (write_refusal w (v.next w.writer) (volume_at w.volume (now_of v))) a.0
    ∙ ap (λ o. or_else o (place_refusal w group (volume_at w.volume (now_of v)))) (right_number _ _ a.1 a.2))

-- ---- actions

act_cause : (v : View) (a : Action) → is_suspended v ≡ false → refusal_of v (Act a) ≡ act_refusal a (v.next a.writer) (open_group v) (now_of v) (hold_group a.writer v.holds)
act_cause v a u = ap (λ o. or_else o (act_refusal a (v.next a.writer) (open_group v) (now_of v) (hold_group a.writer v.holds))) (running v [] u)

-- what is tested once the hold and the number are right
abbrev open_then : Action → ℕ → ℕ → PlainPool → Option Cause
open_then a group opened now = or_else (first_cause ((not (group == opened), causes.NotNow) ∷ [])) (change_refusal a.change now)

act_misnumbered : (a : Action) (expected opened : ℕ) (now : PlainPool) (hold : Option ℕ) (cause : Cause) → is_some hold ≡ true → number_refusal expected a.number ≡ Some cause → act_refusal a expected opened now hold ≡ Some cause
act_misnumbered a expected opened now None cause s n = absurd (true≢false (sym s))
act_misnumbered a expected opened now (Some group) cause s n = ap (λ o. or_else o (open_then a group opened now)) n

pub act_barred : (v : View) (a : Action) (cause : Refusal) → is_suspended v ≡ false → IsNotAdmitted (flow_of v) a.writer a.number cause → refusal_of v (Act a) ≡ Some (cause_of cause)
act_barred v a NoHold u n = act_cause v a u ∙ ap (act_refusal a (v.next a.writer) (open_group v) (now_of v)) n
act_barred v a (OutOfOrder expected) u n = act_cause v a u ∙ act_misnumbered a (v.next a.writer) _ _ _ _ n.0 (wrong_number _ _ n.2 ∙ ap (λ k. Some (causes.OutOfOrder k)) (sym n.1))
act_barred v a NoMemory u n = absurd n
act_barred v a AlreadyHeld u n = absurd n
act_barred v a NotNow u n = absurd n

act_admitted : (v : View) (a : Action) (group : ℕ) → is_suspended v ≡ false → IsAdmitted (flow_of v) a.writer a.number group → refusal_of v (Act a) ≡ open_then a group (open_group v) (now_of v)
act_admitted v a group u h =
    act_cause v a u
    ∙ (ap (act_refusal a (v.next a.writer) (open_group v) (now_of v)) h.0
    ∙ ap (λ o. or_else o (open_then a group (open_group v) (now_of v))) (right_number _ _ h.1 h.2))

-- an action under a hold of a group that is not open
pub act_late : (v : View) (a : Action) (group : ℕ) → is_suspended v ≡ false → IsAdmitted (flow_of v) a.writer a.number group → group ≢ open_group v → refusal_of v (Act a) ≡ Some causes.NotNow
act_late v a group u h ne = act_admitted v a group u h ∙ ap (λ b. or_else (first_cause ((not b, causes.NotNow) ∷ [])) (change_refusal a.change (now_of v))) (differ group (open_group v) ne)
  where
    differ : (m n : ℕ) → m ≢ n → (m == n) ≡ false
    differ m n h = grind (arith, nat_tests, h)

-- one of the open group is refused by the change alone
pub act_placed : (v : View) (a : Action) (group : ℕ) → is_suspended v ≡ false → IsAdmitted (flow_of v) a.writer a.number group → group ≡ open_group v → refusal_of v (Act a) ≡ change_refusal a.change (now_of v)
act_placed v a group u h e =
    act_admitted v a group u h
    ∙ ap (λ b. or_else (first_cause ((not b, causes.NotNow) ∷ [])) (change_refusal a.change (now_of v))) (agree group (open_group v) e)
  where
    agree : (m n : ℕ) → m ≡ n → (m == n) ≡ true
    agree m n h = grind (arith, nat_tests, h)

-- ---- changes

-- an action that nothing speaks against has a change that nothing speaks against
pub change_free : (v : View) (a : Action) → is_suspended v ≡ false → refusal_of v (Act a) ≡ None → change_refusal a.change (now_of v) ≡ None
change_free v a u e = held (hold_group a.writer v.holds) (sym (act_cause v a u) ∙ e)
  where
    last : (x y : Option Cause) → or_else x y ≡ None → y ≡ None
    last None y e = e
    last (Some cause) y e = absurd (cc)

    held : (hold : Option ℕ) → act_refusal a (v.next a.writer) (open_group v) (now_of v) hold ≡ None → change_refusal a.change (now_of v) ≡ None
    held None e = absurd (cc)
    held (Some group) e = last _ _ (last _ _ e)
