use Rattle.std.proofs.Common.{◌≡◌, Result, Ok, Err, ap, refl}
use Rattle.std.specs.Prelude.{IfErr, OnOk}
use Rattle.std.proofs.lemmas.Result.{IfErr-weaker}
use Rattle.block_store.specs.declared.refusal.Refusal.{Refusal as StoreRefusal}
use Rattle.block_store.specs.declared.refusal.Refusal.TheVariants as store
use Rattle.block_store.specs.Places.{filled as filled_marks}
use Rattle.block_store.specs.Store.{Spans}
use Rattle.block_store.proofs.Planning.{same_marks}
use Rattle.pool_commit.proofs.plan.give_back.Goals as goal

pub returns-then-lacks_memory-clause-gives : goal.returns-then-lacks_memory-clause-gives
returns-then-lacks_memory-clause-gives g c =
    let is = c.release-given.ensures in
    record {
      disks = is.disks;
      out = is.out;
      stale = ap (λ (s : Spans). s.stale) is.spans;
      due = is.due;
      shapes = is.shapes;
      filled_stays = is.filled;
      keeps = is.keeps;
      stores = is.stores;
      plans = is.plans;
      stays = is.stays;
      spares = is.spares;
    }

pub returns-clause-gives : goal.returns-clause-gives
returns-clause-gives g c =
    let is = c.release-given.ensures in
    record {
      disks = is.disks;
      out = is.out;
      stale = ap (λ (s : Spans). s.stale) is.spans;
      due = is.due;
      shapes = is.shapes;
      filled_stays = is.filled;
      keeps = is.keeps;
      stores = is.stores;
      plans = is.plans;
      stays = is.stays;
      spares = is.spares;
    }

-- where memory was not short, and nothing else can be wrong, all is well
all_well : (P : Type 0) (given : Result (Unit {0}) StoreRefusal) → ¬ (given ≡ Err store.NoMemory) → OnOk given P → IfErr given (λ refusal. refusal ≡ store.NoMemory) → P
all_well P (Ok unit) enough released only = released
all_well P (Err refusal) enough released only = absurd (enough (ap Err only))

pub returns-clause-released : goal.returns-clause-released
returns-clause-released g c = λ stored planned plans are distinct in_use.
    all_well _ c.release-given.result
    (λ is. let short = c.lacks_memory.ensures.1 is in let not_short = c.if-lacks_memory.false in absurd (cc))
    c.release-given.ensures.released
    (IfErr-weaker c.release-given.result _ _ (λ refusal known. known stored planned plans are distinct in_use) c.release-given.ensures.known)

pub returns-then-has_strays-clause-gives : goal.returns-then-has_strays-clause-gives
returns-then-has_strays-clause-gives g c = record {
  disks = refl;
  out = refl;
  stale = refl;
  due = refl;
  shapes = refl;
  filled_stays = same_marks _ filled_marks;
  keeps = λ stored holds. holds;
  stores = λ stored holds. holds;
  plans = λ stored later plans known. plans;
  stays = λ test block holds lies. lies;
  spares = λ test stored later block bytes plans known is_later other lies. lies;
}
