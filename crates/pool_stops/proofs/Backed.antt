-- Plans of states that back a view.
use Rattle.std.proofs.Common.{ℕ, zero, suc, ◌≡◌, Bool, false, List, [], ◌∷◌, ◌++◌, Option, Contains, sym, ap, subst, ◌∙◌, arith}
use Rattle.std.specs.List.{AllByRecursion}
use Rattle.block_store.specs.Store.{is_out}
use Rattle.pool_create.specs.Backs.{HasPlan, IsPlanOf}
use Rattle.pool_create.specs.CommitMaking.{behind_left, flushes_left, slots_left, writes_left}
use Rattle.pool_create.specs.CommitPlanned.{Planned}
use Rattle.disk_set.specs.declared.behind.SlotWrite.{SlotWrite}
use Rattle.pool_model.specs.Flow.{counted_on}
use Rattle.pool_model.specs.View.{DueCall}
use Rattle.pool_model.specs.declared.step.Phase.TheVariants.{BlocksFlush, SlotsFlush}
use Rattle.pool_stops.specs.Phases.{BackedPlansAreGood}
use Rattle.pool_stops.proofs.Holding.{due_writes_are_unfilled}

all_back : {A : Type 0} (P : A → Type 0) (xs ys : List A) → AllByRecursion P (xs ++ ys) → AllByRecursion P ys
all_back P [] ys all = all
all_back P (x ∷ xs) ys all = all_back P xs ys all.1

all_front : {A : Type 0} (P : A → Type 0) (xs ys : List A) → AllByRecursion P (xs ++ ys) → AllByRecursion P xs
all_front P [] ys all = tt
all_front P (x ∷ xs) ys all = (all.0, all_front P xs ys all.1)

-- the disk of a slot that is left is not out
slot_used : (out : List Bool) (counts : ℕ → ℕ) (slots : List SlotWrite) (write : SlotWrite)
    → AllByRecursion (λ (call : DueCall). is_out out call.disk ≡ false) (slots_left counts slots) → Contains slots write → is_out out write.disk ≡ false
slot_used out counts [] write all (k, within, is) = absurd (omega (arith, within))
slot_used out counts (first ∷ slots) write all (zero, within, is) = subst (λ (w : SlotWrite). is_out out w.disk ≡ false) is all.0
slot_used out counts (first ∷ slots) write all (suc k, within, is) =
    slot_used out (counted_on counts first.disk) slots write all.1 (k, omega (arith, within), is)

pub backed_plans_are_good : BackedPlansAreGood
backed_plans_are_good s v plan last backs is count lie claim group =
    let has : HasPlan s backs.blocks.planned plan v = subst (λ (o : Option Planned). IsPlanOf s backs.blocks.planned o v) is backs.blocks.plan in
    let P : DueCall → Type 0 = λ call. is_out s.store.out call.disk ≡ false in
    let writes : List DueCall = writes_left has.counts s.store.due in
    let flushes : List DueCall = flushes_left BlocksFlush plan.behind.flushes.items in
    let slots : List DueCall = slots_left has.slot_counts plan.behind.slots.items in
    let last_of_all : List DueCall = flushes_left SlotsFlush plan.behind.slot_flushes.items in
    let used : AllByRecursion P slots =
    all_front P slots last_of_all (all_back P flushes (slots ++ last_of_all) (all_back P writes (behind_left has.slot_counts plan.behind) has.in_use)) in
    record {
      lie = lie;
      count = count;
      unfilled = due_writes_are_unfilled s.store backs.blocks.stored backs.blocks.planned lie backs.blocks.plans;
      next = (ap (λ u. u.claim) has.uberblock.is ∙ sym claim, ap (λ u. u.group) has.uberblock.is ∙ ap suc (sym group));
      slots = λ write among. slot_used s.store.out has.slot_counts plan.behind.slots.items write used among;
    }
