-- What NOW is where nothing is accepted above the group behind the committed one.
use Rattle.std.proofs.Common.{◌≡◌, ⊎_elim, ℕ, zero, suc, ◌<◌, ◌≤◌, Bool, true, false, refl, sym, ap, ◌∙◌, arith}
use Rattle.std.specs.Prelude.{cond, is_some}
use Rattle.std.proofs.lemmas.Bool.{cases_lt}
use Rattle.std.proofs.lemmas.Bool.Decides.{nat_tests}
use Rattle.pool_model.specs.Flow.{flow_of, opened}
use Rattle.pool_model.specs.Pools.{Entry, Ledger, PlainPool, applied, no_items, upto}
use Rattle.pool_model.specs.Sound.{IsSound}
use Rattle.pool_model.specs.View.{View, is_syncing, now_of, open_group, waiting_group}
use Rattle.command_steps.specs.Made.{IsAtRest}
use Rattle.volume_device.specs.Commits.{IsBetween, IsCommitted}
use Rattle.volume_device.specs.Devices.{GoesOnFrom, holds_of}

-- ---- what folding groups comes to

base : (c : ℕ) (pool : PlainPool) (ledger : Ledger) → upto c pool ledger c ≡ pool
base zero pool ledger = refl
base (suc c) pool ledger = grind (arith, nat_tests)

above : (c n : ℕ) (pool : PlainPool) (ledger : Ledger) → c ≤ n → upto c pool ledger (suc n) ≡ applied (suc n) (upto c pool ledger n) (ledger (suc n))
above c n pool ledger le = grind (arith, nat_tests, le)

next : (c : ℕ) (pool : PlainPool) (ledger : Ledger) → upto c pool ledger (suc c) ≡ applied (suc c) pool (ledger (suc c))
next c pool ledger = above c c pool ledger (omega arith) ∙ ap (λ p. applied (suc c) p (ledger (suc c))) (base c pool ledger)

-- nothing but the next group has items
abbrev pub OnlyNext : ℕ → Ledger → Type 0
OnlyNext c ledger = (group : ℕ) → suc c < group → ledger group ≡ no_items

far : (c n : ℕ) (pool : PlainPool) (ledger : Ledger) → OnlyNext c ledger → suc c ≤ n → upto c pool ledger n ≡ applied (suc c) pool (ledger (suc c))
far c zero pool ledger only le = absurd (omega arith)
far c (suc n) pool ledger only le = ⊎_elim
    (λ (lt : c < n).
    above c n pool ledger (omega arith)
    ∙ (ap (applied (suc n) (upto c pool ledger n)) (only (suc n) (omega arith)) ∙ far c n pool ledger only (omega arith)))
    (λ (ge : n ≤ c). let same : n ≡ c = omega arith in ap (λ m. upto c pool ledger (suc m)) same ∙ next c pool ledger)
    (cases_lt c n)

waiting_above : (v : View) → v.committed < waiting_group v
waiting_above v = elim (is_syncing v.sync) as (λ b. v.committed < cond b (suc (suc v.committed)) (suc v.committed)) [ true ↦ omega arith | false ↦ omega arith ]

open_above : (v : View) → suc v.committed ≤ open_group v
open_above v = let w = waiting_above v in elim (is_some v.waiting) as (λ b. suc v.committed ≤ cond b (suc (waiting_group v)) (waiting_group v)) [ true ↦ omega arith | false ↦ omega arith ]

-- ---- NOW

pub now_is : (v : View) → OnlyNext v.committed v.ledger → now_of v ≡ applied (suc v.committed) (v.pools v.committed) (v.ledger (suc v.committed))
now_is v only = far v.committed (open_group v) (v.pools v.committed) v.ledger only (open_above v)

-- at rest all is committed
pub now_at_rest : (v : View) → IsAtRest v → now_of v ≡ v.pools v.committed
now_at_rest v rests =
    let c = v.committed in
    rw (rests.idle, rests.none_waits) (next c (v.pools c) v.ledger ∙ ap (applied (suc c) (v.pools c)) rests.nothing)

module _ (v : View) (number pending : ℕ) (held : Bool) (sound : IsSound v) (on : GoesOnFrom v number pending held) where
  pub only_next : OnlyNext v.committed v.ledger
  only_next group lt = let top : opened (flow_of v) ≡ suc v.committed = rw (on.idle, on.none_waits) refl in sound.flow.beyond group (omega arith)

  -- where nothing is committed or accepted nothing changes
  pub now_between : (w : View) → IsBetween v w → now_of w ≡ now_of v
  now_between w same =
      now_is w (λ group lt. ap (λ l. l group) same.ledger ∙ only_next group (let e = same.committed in omega arith))
      ∙ ((λ i. applied (suc (same.committed i)) (same.pools i (same.committed i)) (same.ledger i (suc (same.committed i)))) ∙ sym (now_is v only_next))

  pub safe_between : (w : View) → IsBetween v w → w.pools w.committed ≡ v.pools v.committed
  safe_between w same = λ i. same.pools i (same.committed i)

  -- nothing that was written waits for a commit
  pub all_safe : pending ≡ 0 → now_of v ≡ v.pools v.committed
  all_safe none = now_is v only_next ∙ ap (applied (suc v.committed) (v.pools v.committed)) (on.counts none)

  pub on_between : (w : View) (holds : Bool) → IsBetween v w → w.sync ≡ v.sync → w.waiting ≡ v.waiting → w.holds ≡ holds_of (suc w.committed) holds → GoesOnFrom w number pending holds
  on_between w holds same sync waiting left = record {
    idle = sync ∙ on.idle;
    none_waits = waiting ∙ on.none_waits;
    holds = left;
    numbers = ap (λ f. f 1) same.next ∙ on.numbers;
    only_writes = ap (λ (e : Entry). e.actions) entry ∙ on.only_writes;
    counts = λ none. entry ∙ on.counts none;
  }
    where
      entry : w.ledger (suc w.committed) ≡ v.ledger (suc v.committed)
      entry = λ i. same.ledger i (suc (same.committed i))

  -- what was written is committed
  pub safe_committed : (w : View) → IsCommitted v w → w.pools w.committed ≡ now_of v
  safe_committed w made = ap w.pools made.committed ∙ (made.pool ∙ sym (now_is v only_next))

  none_next : (w : View) → IsCommitted v w → w.ledger (suc w.committed) ≡ no_items
  none_next w made = (λ i. made.ledger i (suc (made.committed i))) ∙ only_next (suc (suc v.committed)) (omega arith)

  pub now_committed : (w : View) → IsCommitted v w → now_of w ≡ now_of v
  now_committed w made =
      now_is w (λ group lt. ap (λ l. l group) made.ledger ∙ only_next group (let e = made.committed in omega arith))
      ∙ (ap (applied (suc w.committed) (w.pools w.committed)) (none_next w made) ∙ safe_committed w made)

  pub on_committed : (w : View) → IsCommitted v w → GoesOnFrom w number 0 false
  on_committed w made = record {
    idle = made.idle;
    none_waits = made.none_waits;
    holds = made.no_holds;
    numbers = ap (λ f. f 1) made.next ∙ on.numbers;
    only_writes = ap (λ (e : Entry). e.actions) (none_next w made);
    counts = λ none. none_next w made;
  }
