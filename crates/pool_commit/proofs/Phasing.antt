-- What is left of a plan after the calls of each of its phases.
use Rattle.std.proofs.Common.{◌≡◌, ⊎_elim, inl, inr, ℕ, ◌<◌, List, [], ◌++◌, length, refl, sym, ap, ◌∙◌, subst, Contains, Global}
use Rattle.std.specs.Prelude.{◌==◌, filter, not}
use Rattle.std.specs.declared.collections.VecDeque.{VecDeque}
use Rattle.raidz_io.specs.Writes.{ColumnWrite}
use Rattle.block_store.specs.Store.{Store}
use Rattle.pool_model.specs.declared.step.Phase.TheVariants.{BlocksFlush, Slots, SlotsFlush}
use Rattle.pool_model.specs.View.{View, DueCall}
use Rattle.disk_set.specs.declared.behind.Behind.{Behind}
use Rattle.pool_commit.specs.declared.kept.Planned.{Planned}
use Rattle.disk_set.specs.declared.behind.SlotWrite.{SlotWrite}
use Rattle.pool_commit.specs.Backs.{left_calls}
use Rattle.pool_commit.specs.Making.{writes_left, behind_left, flushes_left, slots_left, FailedCall, FlushesMove, FlushesMoveBut, KeepsContent, SlotsMove, SlotsMoveBut}
use Rattle.pool_commit.specs.Progress.{LeftOut}
use Rattle.pool_commit.specs.State.{State}
use Rattle.pool_commit.proofs.Progressing.{StaysOn, LeavesRest, filtered_behind, kept_others, kept_slots, not_that, not_empty, in_none}
use Rattle.pool_commit.proofs.SlotWrites.{shows_still}

-- the plan with other flushes, slots, or flushes behind them
abbrev pub flushing : Planned → VecDeque ℕ Global → Planned
flushing plan flushes = record plan { behind = record plan.behind { flushes = flushes } }

abbrev pub slotting : Planned → VecDeque SlotWrite Global → Planned
slotting plan slots = record plan { behind = record plan.behind { slots = slots } }

abbrev pub ending : Planned → VecDeque ℕ Global → Planned
ending plan flushes = record plan { behind = record plan.behind { slot_flushes = flushes } }

-- a call failed, and these are left behind it
abbrev pub FailedSlots : Store → Store → List DueCall → List DueCall → ℕ → Type 0
FailedSlots old mid left rest disk = (failed : FailedCall old mid left Slots disk) × (failed.rest ≡ rest)

abbrev pub FailedEnd : Store → Store → List DueCall → List DueCall → ℕ → Type 0
FailedEnd old mid left rest disk = (failed : FailedCall old mid left SlotsFlush disk) × (failed.rest ≡ rest)

-- ---- writes of blocks

pub writes_stay : (old : State) (mid : Store) (plan : Planned) (v : View) → 0 < length old.store.due → StaysOn old mid plan plan v v.out
writes_stay old mid plan v some = record {
  after = refl;
  uberblock = refl;
  flushes = λ disk used before. ⊎_elim inl (λ flushed. absurd (not_empty old.store.due some flushed.0)) before;
  shown = λ write used label before. ⊎_elim inl (λ shows. absurd (not_empty old.store.due some shows.0)) before;
}

-- ---- flushes behind blocks

pub flushes_stay : (old : State) (mid : Store) (plan : Planned) (flushes : VecDeque ℕ Global) (v : View) → mid.due ≡ [] → mid.disks.starts ≡ old.store.disks.starts
    → FlushesMove old.store mid plan.behind.flushes.items flushes.items → KeepsContent old.store mid → StaysOn old mid plan (flushing plan flushes) v v.out
flushes_stay old mid plan flushes v none starts move keeps = record {
  after = refl;
  uberblock = refl;
  flushes = λ disk used before. ⊎_elim inl (λ flushed. inr (none, flushed.1, move.stays disk flushed.2)) before;
  shown = λ write used label before. ⊎_elim inl (λ shows. inr (none, shows_still old.store.disks mid.disks plan.uberblock write starts keeps shows.1)) before;
}

-- what is left, where no write is
pub none_due : (P : List DueCall → Type 0) (counts slot_counts : ℕ → ℕ) (store : Store) (behind : Behind) → store.due ≡ [] → P (behind_left slot_counts behind)
    → P (left_calls counts slot_counts store.due behind)
none_due P counts slot_counts store behind none holds = subst (λ (due : List ColumnWrite). P (writes_left counts due ++ behind_left slot_counts behind)) (sym none) holds

-- nor flush
pub none_to_flush : (P : List DueCall → Type 0) (counts slot_counts : ℕ → ℕ) (store : Store) (behind : Behind) → store.due ≡ [] → behind.flushes.items ≡ []
    → P (slots_left slot_counts behind.slots.items ++ flushes_left SlotsFlush behind.slot_flushes.items) → P (left_calls counts slot_counts store.due behind)
none_to_flush P counts slot_counts store behind none flushed holds =
    none_due P counts slot_counts store behind none
    (subst (λ (flushes : List ℕ). P (flushes_left BlocksFlush flushes ++ (slots_left slot_counts behind.slots.items ++ flushes_left SlotsFlush behind.slot_flushes.items))) (sym flushed) holds)

-- nor slot
pub none_to_show : (P : List DueCall → Type 0) (counts slot_counts : ℕ → ℕ) (store : Store) (behind : Behind) → store.due ≡ [] → behind.flushes.items ≡ []
    → behind.slots.items ≡ [] → P (flushes_left SlotsFlush behind.slot_flushes.items) → P (left_calls counts slot_counts store.due behind)
none_to_show P counts slot_counts store behind none flushed shown holds =
    none_to_flush P counts slot_counts store behind none flushed
    (subst (λ (slots : List SlotWrite). P (slots_left slot_counts slots ++ flushes_left SlotsFlush behind.slot_flushes.items)) (sym shown) holds)

-- ---- slots

pub slots_stay : (old : State) (mid : Store) (plan : Planned) (slots : VecDeque SlotWrite Global) (v : View) → mid.due ≡ [] → 0 < length plan.behind.slots.items
    → SlotsMove old.store mid plan.uberblock plan.behind.slots.items slots.items → StaysOn old mid plan (slotting plan slots) v v.out
slots_stay old mid plan slots v none some move = record {
  after = refl;
  uberblock = refl;
  flushes = λ disk used before. ⊎_elim inl (λ flushed. absurd (not_empty plan.behind.slots.items some flushed.1)) before;
  shown = λ write used label before. ⊎_elim inl (λ shows. inr (none, shows)) (move write label (⊎_elim inl (λ shows. inr shows.1) before));
}

-- a disk failed one: those of others stay
pub slots_left_out : (old : State) (mid : Store) (plan : Planned) (slots : VecDeque SlotWrite Global) (v : View) (disk : ℕ) (counts later : ℕ → ℕ) (front : List DueCall)
    → mid.due ≡ [] → plan.behind.flushes.items ≡ [] → 0 < length plan.behind.slots.items → front ≡ slots_left later slots.items
    → SlotsMoveBut disk old.store mid plan.uberblock plan.behind.slots.items slots.items
    → (behind : Behind) → LeftOut disk (slotting plan slots).behind behind
    → LeavesRest old mid plan (record (slotting plan slots) { behind = behind }) v disk (front ++ flushes_left SlotsFlush plan.behind.slot_flushes.items)
slots_left_out old mid plan slots v disk counts later front none flushed some is move behind (flushes, others, flushes_after) = record {
  counts = counts;
  slot_counts = later;
  others =
      none_to_flush (λ (calls : List DueCall). calls ≡ filter (λ (call : DueCall). not (call.disk == disk)) (front ++ flushes_left SlotsFlush plan.behind.slot_flushes.items))
      counts later mid behind none (ap (λ (deque : VecDeque ℕ Global). deque.items) flushes ∙ flushed)
      ((λ i. slots_left later (others i) ++ flushes_left SlotsFlush (flushes_after i)) ∙ filtered_behind disk later slots.items plan.behind.slot_flushes.items
      ∙ ap (λ (calls : List DueCall). filter (λ (call : DueCall). not (call.disk == disk)) (calls ++ flushes_left SlotsFlush plan.behind.slot_flushes.items)) (sym is));
  stays = record {
    after = refl;
    uberblock = refl;
    flushes = λ other used before. ⊎_elim
        (λ held. inl (subst (λ (xs : List ℕ). Contains xs other) (sym flushes_after) (kept_others disk plan.behind.slot_flushes.items other (not_that v disk other used) held)))
        (λ flushed. absurd (not_empty plan.behind.slots.items some flushed.1)) before;
    shown = λ write used label before. ⊎_elim
        (λ held. inl (subst (λ (xs : List SlotWrite). Contains xs write) (sym others) (kept_slots disk slots.items write (not_that v disk write.disk used) held)))
        (λ shows. inr (none, shows)) (move write label (not_that v disk write.disk used) (⊎_elim inl (λ shows. inr shows.1) before));
  };
}

-- ---- flushes behind slots

pub ends_stay : (old : State) (mid : Store) (plan : Planned) (flushes : VecDeque ℕ Global) (v : View) → mid.due ≡ [] → plan.behind.slots.items ≡ [] → mid.disks.starts ≡ old.store.disks.starts
    → FlushesMove old.store mid plan.behind.slot_flushes.items flushes.items → KeepsContent old.store mid → StaysOn old mid plan (ending plan flushes) v v.out
ends_stay old mid plan flushes v none shown starts move keeps = record {
  after = refl;
  uberblock = refl;
  flushes = λ disk used before. ⊎_elim
      (λ held. ⊎_elim inl (λ flushed. inr (none, shown, flushed)) (move.flushed disk held))
      (λ flushed. inr (none, shown, move.stays disk flushed.2)) before;
  shown = λ write used label before. ⊎_elim inl (λ shows. inr (none, shows_still old.store.disks mid.disks plan.uberblock write starts keeps shows.1)) before;
}

pub ends_left_out : (old : State) (mid : Store) (plan : Planned) (flushes : VecDeque ℕ Global) (v : View) (disk : ℕ) (counts slot_counts : ℕ → ℕ) (front : List DueCall)
    → mid.due ≡ [] → plan.behind.flushes.items ≡ [] → plan.behind.slots.items ≡ [] → front ≡ flushes_left SlotsFlush flushes.items → mid.disks.starts ≡ old.store.disks.starts
    → FlushesMoveBut disk old.store mid plan.behind.slot_flushes.items flushes.items → KeepsContent old.store mid
    → (behind : Behind) → LeftOut disk (ending plan flushes).behind behind
    → LeavesRest old mid plan (record (ending plan flushes) { behind = behind }) v disk front
ends_left_out old mid plan flushes v disk counts slot_counts front none flushed shown is starts move keeps behind (flushes_are, others, flushes_after) =
    let no_slots : behind.slots.items ≡ [] = others ∙ ap (filter (λ (write : SlotWrite). not (write.disk == disk))) shown in record {
      counts = counts;
      slot_counts = slot_counts;
      others =
          none_to_show (λ (calls : List DueCall). calls ≡ filter (λ (call : DueCall). not (call.disk == disk)) front)
          counts slot_counts mid behind none (ap (λ (deque : VecDeque ℕ Global). deque.items) flushes_are ∙ flushed) no_slots
          (ap (flushes_left SlotsFlush) flushes_after ∙ filtered_behind disk slot_counts [] flushes.items
          ∙ ap (filter (λ (call : DueCall). not (call.disk == disk))) (sym is));
      stays = record {
        after = refl;
        uberblock = refl;
        flushes = λ other used before. ⊎_elim
            (λ held. ⊎_elim
            (λ left. inl (subst (λ (xs : List ℕ). Contains xs other) (sym flushes_after) (kept_others disk flushes.items other (not_that v disk other used) left)))
            (λ flushed. inr (none, no_slots, flushed)) (move.flushed other (not_that v disk other used) held))
            (λ flushed. inr (none, no_slots, move.stays other flushed.2)) before;
        shown = λ write used label before. ⊎_elim
            (λ held. absurd (in_none plan.behind.slots.items write shown held))
            (λ shows. inr (none, shows_still old.store.disks mid.disks plan.uberblock write starts keeps shows.1)) before;
      };
    }
