-- What a write that is accepted makes of NOW.
use Rattle.std.proofs.Common.{◌≡◌, ⊎_elim, ℕ, suc, ◌+◌, ◌≤◌, ◌<◌, List, [], ◌∷◌, ◌++◌, length, Bool, true, false, Option, Some, None, refl, sym, ap, ◌∙◌, subst, arith}
use Rattle.std.specs.Prelude.{cond, fold, not, nat_le, ◌==◌}
use Rattle.std.proofs.lemmas.Bool.Decides.{nat_tests}
use Rattle.std.proofs.lemmas.List.Sums.{fold_push}
use Rattle.pool_model.specs.declared.group.Holder.{Holder}
use Rattle.pool_model.specs.declared.item.Action.{Action}
use Rattle.pool_model.specs.declared.item.Item.TheVariants.{Write as WriteItem}
use Rattle.pool_model.specs.declared.item.Write.{Write}
use Rattle.pool_model.specs.declared.refusal.Refusal.{Refusal}
use Rattle.pool_model.specs.declared.refusal.Refusal.TheVariants.{Misaligned, NoSuchName, NotYet, OutOfRange, Suspended}
use Rattle.pool_model.specs.declared.step.Step.TheVariants as step
use Rattle.pool_model.specs.declared.step.Reply.{Reply}
use Rattle.pool_model.specs.declared.step.Reply.TheVariants as reply
use Rattle.pool_model.specs.declared.volume.PlainVolume.{PlainVolume}
use Rattle.pool_model.specs.Flow.{Flow, FlowStep, flow_of, added, ledger_accepted, opened}
use Rattle.pool_model.specs.Machine.{IsAnswered, IsRefused, LacksMemory, StepOf, MayAnswer, with_flow}
use Rattle.pool_model.specs.Pools.{Entry, PlainPool, applied, changed, is_snapshot, volume_at, written}
use Rattle.pool_model.specs.Refusals.{first_cause, greatest, is_aligned, is_in_range, number_refusal, or_else, place_refusal, refusal_of, write_refusal}
use Rattle.pool_model.specs.Sound.{IsSound}
use Rattle.pool_model.specs.View.{View, Given, hold_group, is_suspended, now_of}
use Rattle.volume_device.specs.Commits.{IsBetween}
use Rattle.volume_device.specs.Contents.{FitsIn}
use Rattle.volume_device.specs.Devices.{GoesOnFrom, holds_of}
use Rattle.volume_device.proofs.Nows.{OnlyNext, now_is, only_next}

-- ---- folds

only_written : (group : ℕ) (pool : PlainPool) (entry : Entry) → entry.actions ≡ [] → applied group pool entry ≡ fold written pool entry.writes
only_written group pool entry none = ap (λ (actions : List Action). fold (λ p a. changed group p a.change) (fold written pool entry.writes) actions) none

itself : (n : ℕ) → (n == n) ≡ true
itself n = grind (arith, nat_tests)

others : (n m : ℕ) → m < n → (n == m) ≡ false
others n m lt = grind (arith, nat_tests)

-- ---- no cause

or_else_none : (first second : Option Refusal) → or_else first second ≡ None → second ≡ None
or_else_none (Some cause) second e = absurd cc
or_else_none None second e = e

none_of_four : (a b c d : Bool) (first second third fourth : Refusal) → first_cause ((a, first) ∷ (b, second) ∷ (c, third) ∷ (d, fourth) ∷ []) ≡ None → (a ≡ false) × (d ≡ false)
none_of_four true b c d first second third fourth e = absurd cc
none_of_four false true c d first second third fourth e = absurd cc
none_of_four false false true d first second third fourth e = absurd cc
none_of_four false false false true first second third fourth e = absurd cc
none_of_four false false false false first second third fourth e = (refl, refl)

pub not_false : (b : Bool) → not b ≡ false → b ≡ true
not_false true e = refl
not_false false e = absurd cc

pub in_range : (offset len : ℕ) (volume : PlainVolume) → is_in_range offset len volume ≡ true → offset + len ≤ length volume.bytes
in_range offset len volume e = grind (arith, nat_tests, e)

-- where a write is not refused by its place it fits there
placed : (x : Write) (group : ℕ) (pool : PlainPool) (found : Option PlainVolume) → volume_at x.volume pool ≡ found → place_refusal x group found ≡ None → FitsIn pool x.volume x.offset (length x.bytes)
placed x group pool None there e = absurd cc
placed x group pool (Some volume) there e =
    let length_of = length x.bytes in
    let none = none_of_four (is_snapshot volume.kind) (nat_le group volume.group) (not (is_aligned x.offset length_of)) (not (is_in_range x.offset length_of volume)) NoSuchName NotYet Misaligned OutOfRange e in
    record { volume = volume; there = there; plain = none.0; within = in_range x.offset length_of volume (not_false (is_in_range x.offset length_of volume) none.1) }

-- a write that is not refused under this hold fits
fits : (v : View) (x : Write) (group : ℕ) → hold_group x.writer v.holds ≡ Some group → refusal_of v (step.Write x) ≡ None → FitsIn (now_of v) x.volume x.offset (length x.bytes)
fits v x group holds none =
    let judged = or_else_none (first_cause ((is_suspended v, Suspended) ∷ [])) (write_refusal x (v.next x.writer) (volume_at x.volume (now_of v)) (hold_group x.writer v.holds)) none in
    let here : write_refusal x (v.next x.writer) (volume_at x.volume (now_of v)) (Some group) ≡ None = subst (λ (h : Option ℕ). write_refusal x (v.next x.writer) (volume_at x.volume (now_of v)) h ≡ None) holds judged in
    placed x group (now_of v) (volume_at x.volume (now_of v)) refl (or_else_none (number_refusal (v.next x.writer) x.number) (place_refusal x group (volume_at x.volume (now_of v))) here)

-- ---- a write, accepted

abbrev pub write_of : ℕ → List ℕ → ℕ → List ℕ → Write
write_of number name offset bytes = record { writer = 1; number = number; volume = name; offset = offset; bytes = bytes }

pub record IsAccepted (v : View) (x : Write) (w : View) : Type 0 where
  pub fits : FitsIn (now_of v) x.volume x.offset (length x.bytes)
  pub now : now_of w ≡ written (now_of v) x
  pub safe : w.pools w.committed ≡ v.pools v.committed
  pub below : x.number ≤ greatest
  pub on : (pending : ℕ) → (pending ≡ 0 → ⊥) → GoesOnFrom w (suc x.number) pending true

one_hold : (group n : ℕ) (holds : List Holder) → holds ≡ holds_of n true → hold_group 1 holds ≡ Some group → group ≡ n
one_hold group n holds e h = let all : Some n ≡ Some group = subst (λ (l : List Holder). hold_group 1 l ≡ Some group) e h in cc

module _ (v : View) (number pending : ℕ) (name : List ℕ) (offset : ℕ) (bytes : List ℕ) (sound : IsSound v) (goes_on : GoesOnFrom v number pending true) (group : ℕ) (w : View)
    (flow : FlowStep (flow_of v) (step.Write (write_of number name offset bytes)) (reply.Receipt group) (flow_of w)) (all : w ≡ with_flow v (flow_of w)) where
  same_group : group ≡ suc v.committed
  same_group = one_hold group (suc v.committed) v.holds goes_on.holds flow.0

  committed : w.committed ≡ v.committed
  committed = ap (λ (f : Flow). f.committed) flow.3

  ledger : (n : ℕ) → w.ledger n ≡ ledger_accepted v.ledger group (WriteItem (write_of number name offset bytes)) n
  ledger n = ap (λ (f : Flow). f.ledger n) flow.3

  only_before : OnlyNext v.committed v.ledger
  only_before = only_next v number pending true sound goes_on

  entry : w.ledger (suc w.committed) ≡ added (v.ledger (suc v.committed)) (WriteItem (write_of number name offset bytes))
  entry =
      ap (λ n. w.ledger (suc n)) committed
      ∙ (ledger (suc v.committed)
      ∙ ap (λ b. cond b (added (v.ledger (suc v.committed)) (WriteItem (write_of number name offset bytes))) (v.ledger (suc v.committed))) (ap (λ n. suc v.committed == n) same_group ∙ itself (suc v.committed)))

  only_after : OnlyNext w.committed w.ledger
  only_after n lt =
      let e = committed in
      let same = same_group in
      let high : suc v.committed < n = omega arith in
      ledger n ∙ (ap (λ b. cond b (added (v.ledger n) (WriteItem (write_of number name offset bytes))) (v.ledger n)) (others n group (omega arith)) ∙ only_before n high)

  pools : w.pools w.committed ≡ v.pools v.committed
  pools = (λ i. (all i).pools (committed i))

  accepted : refusal_of v (step.Write (write_of number name offset bytes)) ≡ None → IsAccepted v (write_of number name offset bytes) w
  accepted none = record {
    fits = fits v (write_of number name offset bytes) group flow.0 none;
    now =
        now_is w only_after
        ∙ ((λ i. applied (suc (committed i)) (pools i) (entry i))
        ∙ (only_written (suc v.committed) (v.pools v.committed) (added (v.ledger (suc v.committed)) (WriteItem (write_of number name offset bytes))) goes_on.only_writes
        ∙ (fold_push written (v.pools v.committed) (v.ledger (suc v.committed)).writes (write_of number name offset bytes)
        ∙ ap (λ (p : PlainPool). written p (write_of number name offset bytes))
        (sym (now_is v only_before ∙ only_written (suc v.committed) (v.pools v.committed) (v.ledger (suc v.committed)) goes_on.only_writes)))));
    safe = pools;
    below = flow.2;
    on = λ more some. record {
      idle = ap (λ (u : View). u.sync) all ∙ goes_on.idle;
      none_waits = ap (λ (f : Flow). f.waiting) flow.3 ∙ goes_on.none_waits;
      holds = ap (λ (f : Flow). f.holds) flow.3 ∙ (goes_on.holds ∙ sym (ap (λ n. holds_of (suc n) true) committed));
      numbers = ap (λ (f : Flow). f.next 1) flow.3 ∙ ap suc (sym flow.1);
      only_writes = ap (λ (e : Entry). e.actions) entry ∙ goes_on.only_writes;
      counts = λ none. absurd (some none);
    };
  }

-- ---- the steps of a write

-- a write that got a receipt is accepted
pub wrote : (v : View) (given : Given) (number pending : ℕ) (name : List ℕ) (offset : ℕ) (bytes : List ℕ) (group : ℕ) (w : View) → IsSound v → GoesOnFrom v number pending true
    → StepOf v given (step.Write (write_of number name offset bytes)) (reply.Receipt group) w → IsAccepted v (write_of number name offset bytes) w
wrote v given number pending name offset bytes group w sound goes_on is = ⊎_elim
    (λ (x : IsRefused v given (step.Write (write_of number name offset bytes)) (reply.Receipt group) w). let e = x.answer in absurd cc)
    (λ more. ⊎_elim
    (λ (x : LacksMemory v given (step.Write (write_of number name offset bytes)) (reply.Receipt group) w). let e = x.answer in absurd cc)
    (λ (x : IsAnswered v given (step.Write (write_of number name offset bytes)) (reply.Receipt group) w). accepted v number pending name offset bytes sound goes_on group w x.answered.0 x.answered.1 x.none)
    more)
    is

abbrev pub IsNoReceipt : Reply → Type 0
IsNoReceipt (reply.Receipt group) = ⊥
IsNoReceipt r = Unit {0}

pub is_no_receipt : (r : Reply) → ((group : ℕ) → r ≡ reply.Receipt group → ⊥) → IsNoReceipt r
is_no_receipt (reply.Receipt group) not = absurd (not group refl)
is_no_receipt r not = tt

not_answered : (v : View) (given : Given) (x : Write) (r : Reply) (w : View) → IsNoReceipt r → MayAnswer v given (step.Write x) r w → w ≡ v
not_answered v given x (reply.Receipt group) w not a = absurd not
not_answered v given x r w not a = absurd a

-- one that got none has changed nothing
pub not_wrote : (v : View) (given : Given) (x : Write) (r : Reply) (w : View) → IsNoReceipt r → StepOf v given (step.Write x) r w → w ≡ v
not_wrote v given x r w not is = ⊎_elim
    (λ (y : IsRefused v given (step.Write x) r w). y.unchanged)
    (λ more. ⊎_elim
    (λ (y : LacksMemory v given (step.Write x) r w). y.leaves)
    (λ (y : IsAnswered v given (step.Write x) r w). not_answered v given x r w not y.answered)
    more)
    is

abbrev pub IsNoHold : Reply → Type 0
IsNoHold (reply.Held group) = ⊥
IsNoHold r = Unit {0}

pub is_no_hold : (r : Reply) → ((group : ℕ) → r ≡ reply.Held group → ⊥) → IsNoHold r
is_no_hold (reply.Held group) not = absurd (not group refl)
is_no_hold r not = tt

hold_not_answered : (v : View) (given : Given) (r : Reply) (w : View) → IsNoHold r → MayAnswer v given (step.Hold 1) r w → w ≡ v
hold_not_answered v given (reply.Held group) w not a = absurd not
hold_not_answered v given r w not a = absurd a

pub not_held : (v : View) (given : Given) (r : Reply) (w : View) → IsNoHold r → StepOf v given (step.Hold 1) r w → w ≡ v
not_held v given r w not is = ⊎_elim
    (λ (y : IsRefused v given (step.Hold 1) r w). y.unchanged)
    (λ more. ⊎_elim
    (λ (y : LacksMemory v given (step.Hold 1) r w). y.leaves)
    (λ (y : IsAnswered v given (step.Hold 1) r w). hold_not_answered v given r w not y.answered)
    more)
    is

-- a hold that is taken is of the open group
pub record IsHeld (v w : View) : Type 0 where
  pub same : IsBetween v w
  pub sync : w.sync ≡ v.sync
  pub waiting : w.waiting ≡ v.waiting
  pub holds : w.holds ≡ holds_of (suc w.committed) true

hold_answered : (v : View) (given : Given) (number pending group : ℕ) (w : View) → GoesOnFrom v number pending false → MayAnswer v given (step.Hold 1) (reply.Held group) w → IsHeld v w
hold_answered v given number pending group w goes_on a =
    let flow = a.0.2 in
    let committed = ap (λ (f : Flow). f.committed) flow in
    let top : opened (flow_of v) ≡ suc v.committed = rw (goes_on.idle, goes_on.none_waits) refl in record {
      same = record { committed = committed; pools = ap (λ (u : View). u.pools) a.1; ledger = ap (λ (f : Flow). f.ledger) flow; next = ap (λ (f : Flow). f.next) flow };
      sync = ap (λ (u : View). u.sync) a.1;
      waiting = ap (λ (f : Flow). f.waiting) flow;
      holds = ap (λ (f : Flow). f.holds) flow
          ∙ ((λ i. goes_on.holds i ++ record { writer = 1; group = (a.0.1 ∙ top) i } ∷ []) ∙ sym (ap (λ n. holds_of (suc n) true) committed));
    }

pub was_held : (v : View) (given : Given) (number pending group : ℕ) (w : View) → GoesOnFrom v number pending false → StepOf v given (step.Hold 1) (reply.Held group) w → IsHeld v w
was_held v given number pending group w goes_on is = ⊎_elim
    (λ (y : IsRefused v given (step.Hold 1) (reply.Held group) w). let e = y.answer in absurd cc)
    (λ more. ⊎_elim
    (λ (y : LacksMemory v given (step.Hold 1) (reply.Held group) w). let e = y.answer in absurd cc)
    (λ (y : IsAnswered v given (step.Hold 1) (reply.Held group) w). hold_answered v given number pending group w goes_on y.answered)
    more)
    is
