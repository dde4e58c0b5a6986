-- Each step keeps a flow sound.
use Rattle.std.proofs.Common.{◌≡◌, ⊎_elim, inl, inr, ℕ, suc, ◌≤◌, List, [], ◌∷◌, ◌++◌, Bool, true, false, Some, None, refl, subst, arith}
use Rattle.std.specs.Prelude.{cond, find, filter, not, ◌==◌}
use Rattle.std.specs.List.{AllByRecursion}
use Rattle.std.specs.Option.{option_map}
use Rattle.std.proofs.lemmas.Bool.Decides.{nat_tests}
use Rattle.pool_model.specs.declared.group.Holder.{Holder}
use Rattle.pool_model.specs.declared.group.Stage.TheVariants.{Quiescing, Quiesced as QuiescedStage}
use Rattle.pool_model.specs.declared.item.Item.{Item}
use Rattle.pool_model.specs.declared.item.Item.TheVariants.{Write as WriteItem, Action as ActionItem}
use Rattle.pool_model.specs.declared.step.Step.{Step}
use Rattle.pool_model.specs.declared.step.Reply.{Reply}
use Rattle.pool_model.specs.View.{hold_group, is_held}
use Rattle.pool_model.specs.Refusals.{greatest}
use Rattle.pool_model.specs.Flow.{Flow, waiting_in, opened, with_accepted, FlowStep, FlowRun, Takes, IsSoundFlow}
use Rattle.pool_model.proofs.Flows.{EachFlow, by_flow}

pub all_snoc : {A : Type 0} (P : A → Type 0) (xs : List A) (x : A) → AllByRecursion P xs → P x → AllByRecursion P (xs ++ x ∷ [])
all_snoc P [] x h p = (p, tt)
all_snoc P (y ∷ ys) x h p = (h.0, all_snoc P ys x h.1 p)

pub all_filter : {A : Type 0} (P : A → Type 0) (t : A → Bool) (xs : List A) → AllByRecursion P xs → AllByRecursion P (filter t xs)
all_filter P t [] h = tt
all_filter P t (x ∷ xs) h = elim (t x) as (λ b. AllByRecursion P (cond b (x ∷ filter t xs) (filter t xs))) [ true ↦ (h.0, all_filter P t xs h.1) | false ↦ all_filter P t xs h.1 ]

pub all_map : {A : Type 0} (P Q : A → Type 0) → ((x : A) → P x → Q x) → (xs : List A) → AllByRecursion P xs → AllByRecursion Q xs
all_map P Q f [] h = tt
all_map P Q f (x ∷ xs) h = (f x h.0, all_map P Q f xs h.1)

-- a group that takes items isn't above the open one
pub takes_below : (v : Flow) (group : ℕ) → Takes v group → group ≤ opened v
takes_below v group t = ⊎_elim (λ e. omega arith) (λ q. below q.0 q.1) t
  where
    below : v.waiting ≡ Some Quiescing → group ≡ waiting_in v → group ≤ opened v
    below e f = rw e (omega arith)

here : (v : Flow) (writer group : ℕ) (h : Holder) (hs : List Holder) (b : Bool) → Takes v h.group → (hold_group writer hs ≡ Some group → Takes v group) → option_map (λ k. k.group) (cond b (Some h) (find (λ k. k.writer == writer) hs)) ≡ Some group → Takes v group
here v writer group h hs true t rest e = let same : h.group ≡ group = cc in subst (λ g. Takes v g) same t
here v writer group h hs false t rest e = rest e

-- a hold that the list has is of a group that takes items
pub taken_hold : (v : Flow) (writer group : ℕ) (hs : List Holder) → AllByRecursion (λ h. Takes v h.group) hs → hold_group writer hs ≡ Some group → Takes v group
taken_hold v writer group [] a e = absurd (cc)
taken_hold v writer group (h ∷ hs) a e = here v writer group h hs (h.writer == writer) a.0 (taken_hold v writer group hs a.1) e

-- where no hold is left in the quiescing group, each is of the open one
all_open : (v : Flow) (hs : List Holder) → is_held (waiting_in v) hs ≡ false → AllByRecursion (λ h. Takes (record v { waiting = Some Quiescing }) h.group) hs → AllByRecursion (λ h. h.group ≡ suc (waiting_in v)) hs
all_open v [] n a = tt
all_open v (h ∷ hs) n a = (⊎_elim (λ e. e) (λ q. absurd (let e = q.1 in grind (arith, nat_tests, e, n))) a.0, all_open v hs (grind (arith, nat_tests, n)) a.1)

not_quiescing : Some QuiescedStage ≡ Some Quiescing → ⊥
not_quiescing e = cc

-- no hold is in a quiesced group, so a hold is in the open one, which stays
from_quiesced : (v : Flow) → IsSoundFlow (record v { syncing = false; waiting = Some QuiescedStage }) → AllByRecursion (λ h. h.group ≡ suc (suc v.committed)) v.holds
from_quiesced v s = all_map (λ h. Takes (record v { syncing = false; waiting = Some QuiescedStage }) h.group) (λ h. h.group ≡ suc (suc v.committed)) (λ h t. ⊎_elim (λ e. e) (λ q. absurd (not_quiescing q.0)) t) v.holds s.holds

next_numbers : (v : Flow) (writer group : ℕ) (item : Item) → IsSoundFlow v → v.next writer ≤ greatest → (w : ℕ) → (with_accepted v writer group item).next w ≤ suc greatest
next_numbers v writer group item s le w = let old = s.numbers w in grind (arith, nat_tests, old, le)

pub sound_took : (v : Flow) (writer group : ℕ) (item : Item) → hold_group writer v.holds ≡ Some group → v.next writer ≤ greatest → IsSoundFlow v → IsSoundFlow (with_accepted v writer group item)
sound_took v writer group item h le s = record {
  holds = s.holds;
  beyond = λ g lt. let t = taken_hold v writer group v.holds s.holds h in let low = takes_below v group t in let e = s.beyond g lt in grind (arith, nat_tests, e, low, lt);
  groups = s.groups;
  numbers = next_numbers v writer group item s le;
}

sound_flows : EachFlow (λ v step reply w. IsSoundFlow v → IsSoundFlow w)
sound_flows = record {
  stays = λ v step cause s. s;
  begun = λ v t cause s. record { holds = all_map (λ h. h.group ≡ suc (suc v.committed)) (λ h. Takes (record v { syncing = true; waiting = None }) h.group) (λ h e. inl e) v.holds (from_quiesced v s); beyond = s.beyond; groups = s.groups; numbers = s.numbers };
  replanned = λ v disk s. s;
  out = λ v disk s. s;
  moved = λ v phase s. s;
  read = λ v name offset len bytes s. s;
  read_under = λ v group name offset len bytes s. s;
  held = λ v writer n s. record { holds = all_snoc (λ h. Takes v h.group) v.holds (record { writer = writer; group = opened v }) s.holds (inl refl); beyond = s.beyond; groups = s.groups; numbers = s.numbers };
  wrote = λ v w group h n le s. sound_took v w.writer group (WriteItem w) h (omega arith) s;
  acted = λ v a group h n le s. sound_took v a.writer group (ActionItem a) h (omega arith) s;
  released = λ v writer s. record { holds = all_filter (λ h. Takes v h.group) (λ h. not (h.writer == writer)) v.holds s.holds; beyond = s.beyond; groups = s.groups; numbers = s.numbers };
  closed = λ v below s. record { holds = all_map (λ h. Takes (record v { waiting = None }) h.group) (λ h. Takes (record v { waiting = Some Quiescing }) h.group) (λ h t. ⊎_elim (λ e. inr (refl, e)) (λ q. inr (refl, q.1)) t) v.holds s.holds; beyond = λ g lt. s.beyond g (omega arith); groups = omega arith; numbers = s.numbers };
  quiesced = λ v free s. record { holds = all_map (λ h. h.group ≡ suc (waiting_in v)) (λ h. Takes (record v { waiting = Some QuiescedStage }) h.group) (λ h e. inl e) v.holds (all_open v v.holds free s.holds); beyond = s.beyond; groups = s.groups; numbers = s.numbers };
  planned = λ v t s. record { holds = all_map (λ h. h.group ≡ suc (suc v.committed)) (λ h. Takes (record v { syncing = true; waiting = None }) h.group) (λ h e. inl e) v.holds (from_quiesced v s); beyond = s.beyond; groups = s.groups; numbers = s.numbers };
  replanned_group = λ v t s. s;
  committed = λ v s. record { holds = s.holds; beyond = s.beyond; groups = s.groups; numbers = s.numbers };
}

pub sound_flow : (v : Flow) (step : Step) (reply : Reply) (w : Flow) → IsSoundFlow v → FlowStep v step reply w → IsSoundFlow w
sound_flow v step reply w s h = by_flow (λ v step reply w. IsSoundFlow v → IsSoundFlow w) sound_flows v step reply w h s

pub flow_snoc : (f : Flow) (steps : List Step) (replies : List Reply) (mid : Flow) (step : Step) (reply : Reply) (g : Flow) → FlowRun f steps replies mid → FlowStep mid step reply g → FlowRun f (steps ++ step ∷ []) (replies ++ reply ∷ []) g
flow_snoc f [] [] mid step reply g r a = (g, subst (λ (x : Flow). FlowStep x step reply g) r a, refl)
flow_snoc f (x ∷ steps) (y ∷ replies) mid step reply g r a = (r.0, r.1, flow_snoc r.0 steps replies mid step reply g r.2 a)
flow_snoc f steps replies mid step reply g r a = absurd r
