-- What the steps of a plan write.
use Rattle.std.proofs.Common.{rules, true, false, ◌≡◌, ◌⊎◌, ⊎_elim, inl, inr, ℕ, suc, ◌<◌, Bool, List, [], ◌∷◌, ◌++◌, length, Some, None, refl, sym, ap, ◌∙◌, subst, Contains, Result, arith}
use Rattle.std.specs.Prelude.{◌==◌, ◌||◌}
use Rattle.std.proofs.lemmas.List.{append_assoc}
use Rattle.model_disk.specs.Joint.{Disks, on}
use Rattle.model_disk.specs.Runs.{Makes, no_write}
use Rattle.model_disk.specs.Call.{flush_call, write_call}
use Rattle.model_disk.proofs.RunLemmas.{Makes-flush, Makes-more, Makes-wider, Makes-write}
use Rattle.raidz_io.specs.Writes.{ColumnWrite}
use Rattle.block_store.specs.Places.{shapes_of, HaveMarks, IsNotFree}
use Rattle.block_store.specs.Places.{filled as filled_marks}
use Rattle.block_store.specs.Releases.{AreSettledInSome}
use Rattle.pool_commit.proofs.Accounting.{for_before, settled_not_free}
use Rattle.block_store.specs.Store.{Store, IsOutToo, is_out}
use Rattle.pool_model.specs.declared.step.Phase.{Phase}
use Rattle.pool_commit.specs.Spans.{HasSpansAfter}
use Rattle.pool_commit.specs.declared.device.Progress.{Progress}
use Rattle.pool_commit.specs.declared.device.Progress.TheVariants.{Moved, Done, Dropped}
use Rattle.disk_set.specs.declared.behind.Behind.{Behind}
use Rattle.pool_commit.specs.declared.kept.Planned.{Planned}
use Rattle.disk_set.specs.declared.behind.SlotWrite.{SlotWrite}
use Rattle.pool_commit.specs.Calls.{IsFlushed}
use Rattle.pool_commit.specs.Slots.{place_of}
use Rattle.uberblock_ring.specs.Slot.{slot_bytes}
use Rattle.uberblock_ring.specs.Uberblock.{Fits}
use Rattle.uberblock_ring.specs.declared.uberblock.Uberblock.{Uberblock}
use Rattle.pool_commit.specs.declared.kept.KeptGroup.{KeptGroup}
use Rattle.pool_commit.specs.Progress.{CarriesOn, DropsPlan, IsShifted, LeavesOut, with_plan}
use Rattle.pool_commit.specs.State.{State}
use Rattle.pool_commit.specs.Writing.{GoesOnWith, IsDueSlot, IsDueWrite, PlansFrom, StayOut, WritesPlan, in_use_of, may_write}

-- ---- disks that are out

pub none_goes_out : (old new : List Bool) → new ≡ old → StayOut old new
none_goes_out old new same = record { count = ap length same; still = λ disk out. ap (λ (them : List Bool). is_out them disk) same ∙ out }

-- one more is
is_itself : (disk : ℕ) → (disk == disk) ≡ true
is_itself disk = search rules

either_way : (b e : Bool) → e ≡ true → (b || e) ≡ true
either_way true e is = refl
either_way false e is = is

is_out_now : (old : List Bool) (disk : ℕ) (new : List Bool) → IsOutToo old disk new → is_out new disk ≡ true
is_out_now old disk new too = too.disks disk ∙ either_way (is_out old disk) (disk == disk) (is_itself disk)

pub one_goes_out : (old : List Bool) (disk : ℕ) (new : List Bool) → IsOutToo old disk new → StayOut old new
one_goes_out old disk new too = record {
  count = too.count;
  still = λ other out. too.disks other ∙ ap (λ (was : Bool). was || (other == disk)) out;
}

-- what the plan writes in one step, and what is left of it
pub record StepWrites (s : State) (plan later : Planned) (mid : Store) : Type 0 where
  pub makes : Makes (may_write (with_plan s plan) plan) s.store.disks mid.disks
  pub goes : GoesOnWith s.store plan mid later
  pub stale : mid.spans.stale ≡ s.store.spans.stale
  pub out : StayOut s.store.out mid.out

out_to : (old mid new : List Bool) → new ≡ mid → StayOut old mid → StayOut old new
out_to old mid new same out = subst (λ (them : List Bool). StayOut old them) (sym same) out

-- the same of disks that are the same
makes_to : (may : ℕ → ℕ → List ℕ → Type 0) (old mid new : Disks) → new ≡ mid → Makes may old mid → Makes may old new
makes_to may old mid new same makes = subst (λ (d : Disks). Makes may old d) (sym same) makes

-- of the one plan that there was
of_plan : (P : Planned → Type 0) (plan other : Planned) → Some plan ≡ Some other → P plan → P other
of_plan P plan other is holds = let same : plan ≡ other = cc in subst P same holds

with_one : (s : State) (plan : Planned) (A : Type 0) → (with_plan s plan).planned ≡ None → A
with_one s plan A none = absurd (let no : Some plan ≡ None = none in cc)

-- calls were made, and the plan carries on, or its group is committed
pub writes_on : (s : State) (mid : Store) (plan later : Planned) (phase : Phase) (progress : Progress) (new : State) → Fits plan.uberblock → StepWrites s plan later mid
    → CarriesOn (record s { store = mid }) later phase progress new → WritesPlan (with_plan s plan) new
writes_on s mid plan later phase (Moved moved) new fits step carries =
    let same : new ≡ record s { store = mid; planned = Some later } = carries.2 in
    subst (λ (t : State). WritesPlan (with_plan s plan) t) (sym same) (record {
      idle = λ none. with_one s plan (record s { store = mid; planned = Some later } ≡ with_plan s plan) none;
      fits = λ other is. of_plan (λ p. Fits p.uberblock) plan other is fits;
      makes = λ other is. of_plan (λ p. Makes (may_write (with_plan s plan) p) s.store.disks mid.disks) plan other is step.makes;
      goes_on = λ other after is still.
          of_plan (λ p. GoesOnWith s.store p mid after) plan other is (of_plan (λ p. GoesOnWith s.store plan mid p) later after still step.goes);
      stays = λ other after is still. refl;
      ends = λ other is none. absurd (let no : Some later ≡ None = none in cc);
      shapes = ap shapes_of step.goes.spaces;
      stamp = refl;
      stale = step.stale;
      out = step.out;
    })
writes_on s mid plan later phase Done new fits step carries =
    record {
      idle = λ none. with_one s plan (new ≡ with_plan s plan) none;
      fits = λ other is. of_plan (λ p. Fits p.uberblock) plan other is fits;
      makes = λ other is. of_plan (λ p. Makes (may_write (with_plan s plan) p) s.store.disks new.store.disks) plan other is
          (makes_to (may_write (with_plan s plan) plan) s.store.disks mid.disks new.store.disks carries.1.disks step.makes);
      goes_on = λ other after is still. absurd (let no : None ≡ Some after = sym carries.3 ∙ still in cc);
      stays = λ other after is still. absurd (let no : None ≡ Some after = sym carries.3 ∙ still in cc);
      ends = λ other is none. inr (of_plan (λ p. IsShifted s.kept p.after new.kept) plan other is
          (subst (λ (k : KeptGroup). IsShifted s.kept k new.kept) step.goes.leads carries.2));
      shapes = carries.1.shapes ∙ ap shapes_of step.goes.spaces;
      stamp = carries.4;
      stale = carries.1.stale ∙ step.stale;
      out = out_to s.store.out mid.out new.store.out carries.1.out step.out;
    }
writes_on s mid plan later phase (Dropped disk) new fits step carries = absurd carries

-- calls were made, the last one failed, and the plan is dropped
pub writes_dropped : (s : State) (mid : Store) (plan : Planned) (disk : ℕ) (new : State) → Fits plan.uberblock → Makes (may_write (with_plan s plan) plan) s.store.disks mid.disks
    → mid.spaces ≡ s.store.spaces → mid.spans.stale ≡ s.store.spans.stale → IsOutToo s.store.out disk mid.out → DropsPlan mid new.store → new.kept ≡ s.kept → new.planned ≡ None → new.stamp ≡ s.stamp → WritesPlan (with_plan s plan) new
writes_dropped s mid plan disk new fits makes spaces stale too drops kept none stamp =
    let out : StayOut s.store.out mid.out = one_goes_out s.store.out disk mid.out too in
    record {
      idle = λ without. with_one s plan (new ≡ with_plan s plan) without;
      fits = λ other is. of_plan (λ p. Fits p.uberblock) plan other is fits;
      makes = λ other is. of_plan (λ p. Makes (may_write (with_plan s plan) p) s.store.disks new.store.disks) plan other is
          (makes_to (may_write (with_plan s plan) plan) s.store.disks mid.disks new.store.disks drops.disks makes);
      goes_on = λ other after is still. absurd (let no : None ≡ Some after = sym none ∙ still in cc);
      stays = λ other after is still. absurd (let no : None ≡ Some after = sym none ∙ still in cc);
      ends = λ other is gone. inl (record { disk = disk; out = ap (λ them. is_out them disk) drops.out ∙ is_out_now s.store.out disk mid.out too; kept = kept });
      shapes = drops.shapes ∙ ap shapes_of spaces;
      stamp = stamp;
      stale = drops.stale ∙ stale;
      out = out_to s.store.out mid.out new.store.out drops.out out;
    }

-- one of which no flush before the slots is left has none of other calls
without : (old : Store) (plan : Planned) (mid : Store) (later : Planned) (behind : Behind) → behind.flushes ≡ later.behind.flushes → GoesOnWith old plan mid later
    → GoesOnWith old plan mid (record later { behind = behind })
without old plan mid later behind flushes goes =
    record {
      uberblock = goes.uberblock;
      leads = goes.leads;
      spaces = goes.spaces;
      written = goes.written;
      begun = λ none. ap (λ f. f.items) flushes ∙ goes.begun none;
      flushes = λ disk due. ⊎_elim (λ still. inl (subst (λ (them : List ℕ). Contains them disk) (sym (ap (λ f. f.items) flushes)) still)) inr (goes.flushes disk due);
    }

-- calls were made, the last one failed, and the commit goes on without its disk, or the plan is dropped
pub writes_without : (s : State) (mid : Store) (plan later : Planned) (disk : ℕ) (phase : Phase) (progress : Progress) (new : State) → Fits plan.uberblock
    → StepWrites s plan later mid → IsOutToo s.store.out disk mid.out → s.planned ≡ None → LeavesOut (record s { store = mid }) later disk phase progress new → WritesPlan (with_plan s plan) new
writes_without s mid plan later disk phase progress new fits step too none leaves =
    ⊎_elim
    (λ dropped. writes_dropped s mid plan disk new fits step.makes step.goes.spaces step.stale too dropped.2 dropped.3 (dropped.4 ∙ none) dropped.5)
    (λ left. writes_on s mid plan (record later { behind = left.1 }) phase progress new fits
    (record { makes = step.makes; goes = without s.store plan mid later left.1 left.2.0 step.goes; stale = step.stale; out = step.out }) left.3)
    leaves

-- ---- what each phase writes

-- blocks that are due
pub blocks_only : (s : State) (plan : Planned) (mid : Store) → Makes (IsDueWrite s.store.due) s.store.disks mid.disks
    → Makes (may_write (with_plan s plan) plan) s.store.disks mid.disks
blocks_only s plan mid = Makes-wider (IsDueWrite s.store.due) (may_write (with_plan s plan) plan) s.store.disks mid.disks (λ which at bytes is. inl is)

-- nothing
pub nothing_at_all : (s : State) (plan : Planned) (mid : Store) → Makes no_write s.store.disks mid.disks → Makes (may_write (with_plan s plan) plan) s.store.disks mid.disks
nothing_at_all s plan mid = Makes-wider no_write (may_write (with_plan s plan) plan) s.store.disks mid.disks (λ which at bytes is. absurd is)

-- slots, where no block is due and no flush before them
pub slots_only : (s : State) (plan : Planned) (mid : Store) → s.store.due ≡ [] → plan.behind.flushes.items ≡ []
    → Makes (IsDueSlot s.store.disks.starts plan.uberblock plan.behind.slots.items) s.store.disks mid.disks → Makes (may_write (with_plan s plan) plan) s.store.disks mid.disks
slots_only s plan mid due flushes =
    Makes-wider (IsDueSlot s.store.disks.starts plan.uberblock plan.behind.slots.items) (may_write (with_plan s plan) plan) s.store.disks mid.disks
    (λ which at bytes is. inr (due, flushes, is))

-- the flushes before the slots stay, whatever else is left
pub same_flushes : (old : Store) (plan : Planned) (mid : Store) (later : Planned) → mid.spaces ≡ old.spaces → (old.due ≡ [] → mid.due ≡ [])
    → later.uberblock ≡ plan.uberblock → later.after ≡ plan.after → later.behind.flushes.items ≡ plan.behind.flushes.items → GoesOnWith old plan mid later
same_flushes old plan mid later spaces written uberblock leads flushes =
    record {
      uberblock = uberblock;
      leads = leads;
      spaces = spaces;
      written = written;
      begun = λ none. flushes ∙ none;
      flushes = λ disk due. inl (subst (λ (them : List ℕ). Contains them disk) (sym flushes) due);
    }

-- ---- what is left

pub no_items : {A : Type 0} (items : List A) → 0 < length items → ¬ (items ≡ [])
no_items items some none = absurd (omega (arith, some, ap length none))

pub no_due : (store : Store) → 0 < length store.due → ¬ (store.due ≡ [])
no_due store some none = no_items store.due some none

-- a disk is to be flushed still, or was flushed where no block is due
pub flushed_now : (mid : Store) (rest : List ℕ) (disk : ℕ) → mid.due ≡ [] → Contains rest disk ⊎ IsFlushed mid.disks disk
    → Contains rest disk ⊎ ((mid.due ≡ []) × IsFlushed mid.disks disk)
flushed_now mid rest disk none done = ⊎_elim inl (λ flushed. inr (none, flushed)) done

-- ---- calls, one by one

-- some of the first list are gone from the second
pub record IsRestOf (A : Type 0) (all rest : List A) : Type 0 where
  pub front : List A
  pub is : all ≡ front ++ rest

pub rest_first : (A : Type 0) (all : List A) → IsRestOf A all all
rest_first A all = record { front = []; is = refl }

pub rest_next : (A : Type 0) (all rest later : List A) (it : A) → rest ≡ it ∷ later → IsRestOf A all rest → IsRestOf A all later
rest_next A all rest later it next so =
    record {
      front = so.front ++ it ∷ [];
      is = so.is ∙ ap (λ (them : List A). so.front ++ them) next ∙ sym (append_assoc so.front (it ∷ []) later);
    }

contains_behind : (A : Type 0) (front : List A) (it : A) (later : List A) → Contains (front ++ it ∷ later) it
contains_behind A [] it later = (0, omega arith, refl)
contains_behind A (x ∷ front) it later = let at = contains_behind A front it later in (suc at.0, omega (arith, at.1), at.2)

-- the first of the rest is one of all
pub rest_has : (A : Type 0) (all rest later : List A) (it : A) → rest ≡ it ∷ later → IsRestOf A all rest → Contains all it
rest_has A all rest later it next so =
    subst (λ (them : List A). Contains them it) (sym (so.is ∙ ap (λ (them : List A). so.front ++ them) next)) (contains_behind A so.front it later)

-- ---- one call more

pub write_next_makes : {T E : Type 0} (r : Result T E) (first old new : Store) (write : ColumnWrite) → old.due ≡ write ∷ new.due → new.disks.starts ≡ old.disks.starts
    → new.disks.calls ≡ on write.disk (write_call r write.offset write.bytes) ∷ old.disks.calls → IsRestOf ColumnWrite first.due old.due
    → Makes (IsDueWrite first.due) first.disks old.disks → Makes (IsDueWrite first.due) first.disks new.disks
write_next_makes r first old new write next starts calls rest makes =
    Makes-more (IsDueWrite first.due) first.disks old.disks new.disks makes
    (Makes-write r (IsDueWrite first.due) old.disks new.disks write.disk write.offset write.bytes starts calls
    (record { write = write; is_due = rest_has ColumnWrite first.due old.due new.due write next rest; disk = refl; place = refl; same = refl }))

pub flush_makes : {T E : Type 0} (r : Result T E) (first old new : Disks) (which : ℕ) → new.starts ≡ old.starts → new.calls ≡ on which (flush_call r) ∷ old.calls
    → Makes no_write first old → Makes no_write first new
flush_makes r first old new which starts calls makes = Makes-more no_write first old new makes (Makes-flush r no_write old new which starts calls)

pub slot_makes : {T E : Type 0} (r : Result T E) (first old new : Disks) (u : Uberblock) (all rest later : List SlotWrite) (write : SlotWrite) → rest ≡ write ∷ later
    → old.starts ≡ first.starts → new.starts ≡ old.starts
    → new.calls ≡ on write.disk (write_call r (place_of old.starts write u.group) (slot_bytes u)) ∷ old.calls → IsRestOf SlotWrite all rest
    → (write.disk < length first.starts) × (write.label < 4) → Makes (IsDueSlot first.starts u all) first old → Makes (IsDueSlot first.starts u all) first new
slot_makes r first old new u all rest later write next same starts calls so below makes =
    Makes-more (IsDueSlot first.starts u all) first old new makes
    (Makes-write r (IsDueSlot first.starts u all) old new write.disk (place_of old.starts write u.group) (slot_bytes u) starts calls
    (record {
      write = write;
      is_due = rest_has SlotWrite all rest later write next so;
      there = below.0;
      is_label = below.1;
      disk = refl;
      place = ap (λ them. place_of them write u.group) same;
      same = refl;
    }))

-- ---- plans

-- of a plan that was begun, and not made
pub from_begun : (s : State) (begun : Store) (group : ℕ) → s.planned ≡ None → begun.out ≡ s.store.out → begun.spans.stale ≡ s.store.spans.stale → shapes_of begun.spaces ≡ shapes_of s.store.spaces
    → AreSettledInSome group s.store.spaces begun.spaces → PlansFrom s (record s { store = begun })
from_begun s begun group none out stale shapes some = record {
  kept = refl;
  stamp = refl;
  out = out;
  stale = stale;
  shapes = shapes;
  filled = settled_not_free group s.store.spaces begun.spaces shapes some;
  flushes = λ plan is. absurd (let no : None ≡ Some plan = sym none ∙ is in cc);
  spans = λ plan is. absurd (let no : None ≡ Some plan = sym none ∙ is in cc);
}

-- of the same with other marks of what is planned
pub from_then : (s : State) (mid new : Store) → s.planned ≡ None → PlansFrom s (record s { store = mid }) → new.out ≡ mid.out → new.spans.stale ≡ mid.spans.stale → shapes_of new.spaces ≡ shapes_of mid.spaces
    → HaveMarks mid.spaces filled_marks new.spaces filled_marks → PlansFrom s (record s { store = new })
from_then s mid new none before out stale shapes stays = record {
  kept = refl;
  stamp = refl;
  out = out ∙ before.out;
  stale = stale ∙ before.stale;
  shapes = shapes ∙ before.shapes;
  filled = λ at used. before.filled at (for_before IsNotFree mid.spaces new.spaces filled_marks filled_marks at shapes stays used);
  flushes = λ plan is. absurd (let no : None ≡ Some plan = sym none ∙ is in cc);
  spans = λ plan is. absurd (let no : None ≡ Some plan = sym none ∙ is in cc);
}

-- of a plan that was made
pub from_made : (s : State) (new : Store) (plan : Planned) → PlansFrom s (record s { store = new }) → plan.behind.flushes.items ≡ in_use_of s
    → HasSpansAfter s.kept.last s.store.out plan.uberblock.group plan.after → PlansFrom s (record s { store = new; planned = Some plan })
from_made s new plan before flushes spans = record {
  kept = refl;
  stamp = refl;
  out = before.out;
  stale = before.stale;
  shapes = before.shapes;
  filled = before.filled;
  flushes = λ other is. of_plan (λ p. p.behind.flushes.items ≡ in_use_of s) plan other is flushes;
  spans = λ other is. of_plan (λ p. HasSpansAfter s.kept.last s.store.out p.uberblock.group p.after) plan other is spans;
}

-- of none
pub from_none : (s : State) → s.planned ≡ None → PlansFrom s s
from_none s none = record {
  kept = refl;
  stamp = refl;
  out = refl;
  stale = refl;
  shapes = refl;
  filled = λ at used. used;
  flushes = λ plan is. absurd (let no : None ≡ Some plan = sym none ∙ is in cc);
  spans = λ plan is. absurd (let no : None ≡ Some plan = sym none ∙ is in cc);
}
