-- A disk that comes back.
use Rattle.std.proofs.Common.{ℕ, zero, suc, ◌≡◌, ◌≢◌, ◌⊎◌, inl, inr, ◌+◌, ◌≤◌, ◌&&◌, ◌==◌, not, Bool, true, false, if◌then◌else◌, Option, Some, None, List, [], ◌∷◌, Contains, Result, Ok, Err, OnOk, refl, sym, ap, subst, ◌∙◌, arith}
use Rattle.std.specs.Prelude.{slice_index}
use Rattle.std.proofs.lemmas.Bool.{cases_eq, ne_eqb}
use Rattle.std.proofs.lemmas.List.Elements.{Contains-append_right}
use Rattle.disk_set.specs.declared.stale.GroupSpan.{GroupSpan}
use Rattle.model_disk.specs.declared.disk.DiskError.{DiskError}
use Rattle.model_disk.specs.Call.{read_call}
use Rattle.model_disk.specs.Contents.{touches}
use Rattle.model_disk.specs.Joint.{Disks, on, content}
use Rattle.model_disk.proofs.LawLemmas.{other_bytes_stay}
use Rattle.block_pointer.specs.declared.block.Block.{Block}
use Rattle.raidz_io.specs.Elsewhere.{StandsWithMoreAbsent}
use Rattle.raidz_io.specs.Stands.{ExtentStands}
use Rattle.raidz_io.proofs.Calls.{Contains-front, Contains-later, Contains-cases}
use Rattle.block_store.specs.Blocks.{Contents}
use Rattle.block_store.specs.Places.{IsCopy, filled}
use Rattle.block_store.specs.Plans.{Plans}
use Rattle.block_store.specs.Spaces.{VdevSpace}
use Rattle.block_store.specs.Store.{Store, Spans, ArePlaced, Holds, IsInUseToo, LacksOnly, MissedThese, Stores, is_in, is_out, is_stale, lost, missed, outs, outs_from, stale_from}
use Rattle.block_store.proofs.Kept.{IsKept}
use Rattle.block_store.proofs.Lost.{is_lost, lose_same, lost_cases}
use Rattle.block_store.proofs.Outs.{in_is_out, out_is_in}

-- ---- bytes that are read beside blocks

untouched_by_read : (buffer : List ℕ) (result : Result (Unit {0}) DiskError) (at i : ℕ) → touches (read_call result at buffer) i ≡ false
untouched_by_read buffer (Ok x) at i = refl
untouched_by_read buffer (Err e) at i = refl

-- a read changes no byte
pub looked : (old new : Store) (disk offset : ℕ) (buffer : List ℕ) (result : Result (Unit {0}) DiskError) → new.disks.starts ≡ old.disks.starts → new.spaces ≡ old.spaces
    → new.due ≡ old.due → new.disks.calls ≡ on disk (read_call result offset buffer) ∷ old.disks.calls
    → new.out ≡ old.out → new.spans ≡ old.spans → new.stray ≡ old.stray → IsKept old new
looked old new disk offset buffer result starts spaces due calls out spans stray = record {
  stray = stray;
  spaces = spaces;
  due = due;
  contents = λ other i for. other_bytes_stay old.disks new.disks disk (read_call result offset buffer) starts calls other i (inr (untouched_by_read buffer result offset i));
  more_out = λ other held. subst (λ flags. Contains (outs_from 0 flags) other) (sym out) held;
  more_lost = lose_same old new out spans;
  group = let same : new.spans.group ≡ old.spans.group = ap (λ (s : Spans). s.group) spans in omega (arith, same);
}

-- what follows of a call that answered
pub on_both : {T E : Type 0} (result : Result T E) {P Q R : Type 0} → OnOk result P → OnOk result Q → (P → Q → R) → OnOk result R
on_both (Ok x) one other both = both one other
on_both (Err e) one other both = tt

-- ---- the disks that missed a group, by their marks

grown : (test : Bool) (x : ℕ) (xs : List ℕ) (y : ℕ) → Contains xs y → Contains (if test then x ∷ xs else xs) y
grown true x xs y held = Contains-later x xs y held
grown false x xs y held = held

missed_from : (stale : List (Option GroupSpan)) (first birth disk : ℕ) → is_stale stale disk birth ≡ true → Contains (stale_from first stale birth) (first + disk)
missed_from [] first birth disk is = absurd (cc)
missed_from (span ∷ rest) first birth zero is =
    let behind : List ℕ = stale_from (suc first) rest birth in
    let here : first + 0 ≡ first = omega arith in
    subst (λ (xs : List ℕ). Contains xs (first + 0)) (sym (ap (λ (b : Bool). if b then first ∷ behind else behind) is))
    (subst (λ (d : ℕ). Contains (first ∷ behind) d) (sym here) (Contains-front first behind))
missed_from (span ∷ rest) first birth (suc disk) is =
    let next : first + suc disk ≡ suc first + disk = omega arith in
    grown (is_in span birth) first (stale_from (suc first) rest birth) (first + suc disk)
    (subst (λ (d : ℕ). Contains (stale_from (suc first) rest birth) d) (sym next) (missed_from rest (suc first) birth disk is))

from_missed : (stale : List (Option GroupSpan)) (first birth disk : ℕ) → Contains (stale_from first stale birth) disk
    → (k : ℕ) × (disk ≡ first + k) × (is_stale stale k birth ≡ true)
from_missed [] first birth disk (k, within, is) = absurd (omega arith)
from_missed (span ∷ stale) first birth disk held = cases (is_in span birth) refl (λ behind. from_missed stale (suc first) birth disk behind) held
  where
    next : (k : ℕ) × (disk ≡ suc first + k) × (is_stale stale k birth ≡ true) → (k : ℕ) × (disk ≡ first + k) × (is_stale (span ∷ stale) k birth ≡ true)
    next there = (suc there.0, omega (arith, there.1), there.2)

    cases : (is : Bool) → is_in span birth ≡ is
        → (Contains (stale_from (suc first) stale birth) disk → (k : ℕ) × (disk ≡ suc first + k) × (is_stale stale k birth ≡ true))
        → Contains (if is then first ∷ stale_from (suc first) stale birth else stale_from (suc first) stale birth) disk
        → (k : ℕ) × (disk ≡ first + k) × (is_stale (span ∷ stale) k birth ≡ true)
    cases true is later held = elim (Contains-cases first (stale_from (suc first) stale birth) disk held) [
      | inl same ↦ (0, omega (arith, same), is)
      | inr behind ↦ next (later behind)
    ]
    cases false is later held = next (later held)

into_missed : (store : Store) (birth disk : ℕ) → is_stale store.spans.stale disk birth ≡ true → Contains (missed store birth) disk
into_missed store birth disk is =
    let none : 0 + disk ≡ disk = omega arith in
    subst (λ (d : ℕ). Contains (missed store birth) d) none (missed_from store.spans.stale 0 birth disk is)

of_missed : (store : Store) (birth disk : ℕ) → Contains (missed store birth) disk → is_stale store.spans.stale disk birth ≡ true
of_missed store birth disk held =
    let there = from_missed store.spans.stale 0 birth disk held in
    let same : disk ≡ there.0 = omega (arith, there.1) in
    subst (λ k. is_stale store.spans.stale k birth ≡ true) (sym same) there.2

-- ---- what is lost behind it

missed_is_lost : (store : Store) (birth disk : ℕ) → is_stale store.spans.stale disk birth ≡ true → Contains (lost store birth) disk
missed_is_lost store birth disk is = Contains-append_right _ (missed store birth) disk (into_missed store birth disk is)

not_same : (a b : ℕ) → a ≢ b → not (a == b) ≡ true
not_same a b differ = ap not (ne_eqb a b differ)

both : (a b : Bool) → a ≡ true → b ≡ true → (a && b) ≡ true
both true true one other = refl
both true false one other = absurd (cc)
both false b one other = absurd (cc)

-- what another disk lacked it lacks still
others_lack : (old new : Store) (disk : ℕ) (these : Option GroupSpan) → IsInUseToo old.out disk new.out → MissedThese old.spans disk these new.spans
    → (birth other : ℕ) → other ≢ disk → Contains (lost old birth) other → Contains (lost new birth) other
others_lack old new disk these back spans birth other differ held = elim (lost_cases old birth other held) [
  | inl (out, since) ↦
      let still : is_out new.out other ≡ true =
      back.disks other ∙ both (is_out old.out other) (not (other == disk)) (in_is_out old other out) (not_same other disk differ) in
      is_lost new birth other (out_is_in new other still)
      (subst (λ (them : List ℕ). slice_index them other ≤ birth) (sym spans.since) since)
  | inr stale ↦ missed_is_lost new birth other (spans.others other birth differ ∙ of_missed old birth other stale)
]

-- of what is stored each disk lacks what it lacked
pub lacks_more : (old new : Store) (disk : ℕ) (these : Option GroupSpan) (stored : Contents) → IsInUseToo old.out disk new.out → MissedThese old.spans disk these new.spans
    → LacksOnly old disk these stored → (block : Block) (bytes : List ℕ) → stored block ≡ Some bytes → (other : ℕ) → Contains (lost old block.birth) other
    → Contains (lost new block.birth) other
lacks_more old new disk these stored back spans only block bytes known other held = elim (cases_eq other disk) [
  | inl same ↦
      let here : Contains (lost old block.birth) disk = subst (λ (d : ℕ). Contains (lost old block.birth) d) same held in
      subst (λ (d : ℕ). Contains (lost new block.birth) d) (sym same)
      (missed_is_lost new block.birth disk (spans.this block.birth ∙ only block bytes known here))
  | inr differ ↦ others_lack old new disk these back spans block.birth other differ held
]

-- so what is stored stands
pub holds_back : StandsWithMoreAbsent → (old new : Store) (disk : ℕ) (these : Option GroupSpan) → new.disks ≡ old.disks → new.spaces ≡ old.spaces
    → IsInUseToo old.out disk new.out → MissedThese old.spans disk these new.spans
    → (stored : Contents) → LacksOnly old disk these stored → Holds old stored → Holds new stored
holds_back more old new disk these disks spaces back spans stored only holds = record {
  blocks = holds.blocks;
  places = rw spaces holds.places;
  stand = λ block bytes i extent known copy.
      let copy_was : IsCopy old.spaces block i extent = rw (sym spaces) copy in
      more (content new.disks) (lost old block.birth) (lost new block.birth) extent bytes
      (lacks_more old new disk these stored back spans only block bytes known)
      (subst (λ (d : Disks). ExtentStands (content d) (lost old block.birth) extent bytes) (sym disks) (holds.stand block bytes i extent known copy_was));
}

pub stores_back : StandsWithMoreAbsent → (old new : Store) (disk : ℕ) (these : Option GroupSpan) → new.disks ≡ old.disks → new.spaces ≡ old.spaces
    → IsInUseToo old.out disk new.out → MissedThese old.spans disk these new.spans
    → (stored : Contents) → LacksOnly old disk these stored → Stores old stored → Stores new stored
stores_back more old new disk these disks spaces back spans stored only stores = record {
  held = holds_back more old new disk these disks spaces back spans stored only stores.held;
  placed = subst (λ (s : List VdevSpace). ArePlaced s filled stored) (sym spaces) stores.placed;
}

-- a plan that adds nothing goes on
pub plans_back : StandsWithMoreAbsent → (old new : Store) (disk : ℕ) (these : Option GroupSpan) → new.disks ≡ old.disks → new.spaces ≡ old.spaces
    → new.due ≡ old.due → new.stray ≡ old.stray → IsInUseToo old.out disk new.out → MissedThese old.spans disk these new.spans
    → (stored : Contents) → LacksOnly old disk these stored → Plans old stored stored → Plans new stored stored
plans_back more old new disk these disks spaces due stray back spans stored only plans =
    let nothing_new : (block : Block) (bytes : List ℕ) → stored block ≡ Some bytes → ¬ (stored block ≡ None) =
    λ block bytes known none. absurd (let no : Some bytes ≡ None = sym known ∙ none in cc) in
    record {
      held = holds_back more old new disk these disks spaces back spans stored only plans.held;
      stored_placed = rw spaces plans.stored_placed;
      kept = plans.kept;
      placed = rw spaces plans.placed;
      born = λ block bytes known fresh. absurd (nothing_new block bytes known fresh);
      in_use = λ block bytes known fresh. absurd (nothing_new block bytes known fresh);
      accounted = λ none. rw spaces (plans.accounted (sym stray ∙ none));
      fresh = rw spaces plans.fresh;
      beside = rw spaces plans.beside;
      writes_of = plans.writes_of;
      on_the_way = λ block bytes i extent known fresh copy. absurd (nothing_new block bytes known fresh);
      due = λ write later.
          let was = plans.due write (subst (λ writes. Contains writes write) due later) in
          absurd (nothing_new was.block was.bytes was.is_planned was.is_new);
    }
