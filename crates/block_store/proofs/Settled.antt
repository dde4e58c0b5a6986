-- What is due to a group becomes free.
use Rattle.std.proofs.Common.{Bool, true, ℕ, ◌≡◌, inl, inr, ◌+◌, ◌<◌, ◌≤◌, Some, List, [], length, refl, sym, ap, subst, ◌∙◌, arith}
use Rattle.std.specs.Prelude.{slice_set, Contains}
use Rattle.std.specs.List.{slice_get}
use Rattle.std.proofs.lemmas.Bool.{cases_eq}
use Rattle.std.proofs.lemmas.Option.{slice_get_within}
use Rattle.block_pointer.specs.declared.dva.Dva.{Dva}
use Rattle.raidz_io.proofs.Written.{same_some, slice_get_some}
use Rattle.metaslab.specs.Space.{Space, state}
use Rattle.metaslab.specs.State.{State, settled}
use Rattle.metaslab.specs.Spaces.{AreSettled, AreSettledInPart}
use Rattle.block_store.specs.declared.shape.VdevShape.{VdevShape}
use Rattle.block_store.specs.Blocks.{Contents}
use Rattle.block_store.specs.Spaces.{VdevSpace}
use Rattle.block_store.specs.Shapes.{metaslab_of, IsPlace}
use Rattle.block_store.specs.Places.{shapes_of, HaveMarks, EachSector, IsNotFree}
use Rattle.block_store.specs.Places.{filled as filled_marks, planned as planned_marks}
use Rattle.block_store.specs.Plans.{Plans}
use Rattle.block_store.specs.Releases.{AreSettledIn, AreSettledInSome, AreSpared}
use Rattle.block_store.specs.Store.{Store, Stores, ArePlaced}
use Rattle.block_store.specs.Uses.{LiesOn, IsSpared, SettlesTo}
use Rattle.block_store.proofs.Accounting.{none_new}
use Rattle.block_store.proofs.Beside.{none_beside}
use Rattle.block_store.proofs.GivenBack.{taken_of}
use Rattle.block_store.proofs.Lost.{LoseMore}
use Rattle.block_store.proofs.Planning.{holds_by, grows_by, no_contents, nothing}
use Rattle.block_store.proofs.Taking.{found_too, placed_too, slice_get-set_same, slice_get-set_other, places_too}
use Rattle.block_pointer.specs.Copies.{dvas}

pub in_part : (under : List ℕ) (group : ℕ) (old new : List Space) → AreSettled under group old new → AreSettledInPart under group old new
in_part under group old new are = record { count = are.count; each = λ m space later found found'. inr (are.each m space later found found') }

pub unsettled : (under : List ℕ) (group : ℕ) (spaces : List Space) → AreSettledInPart under group spaces spaces
unsettled under group spaces = record { count = refl; each = λ m space later found found'. inl (same_some later space (sym found' ∙ found)) }

-- the vdevs up to a number are settled, each as far as its memory went, and the others are as they were
pub record SettledUpTo (group : ℕ) (spaces after : List VdevSpace) (n : ℕ) (all : Bool) : Type 0 where
  pub count : length after ≡ length spaces
  pub shapes : shapes_of after ≡ shapes_of spaces
  pub pins : (v : ℕ) (space later : VdevSpace) → slice_get spaces v ≡ Some space → slice_get after v ≡ Some later → later.pins ≡ space.pins
  pub some : (v : ℕ) (space later : VdevSpace) → slice_get spaces v ≡ Some space → slice_get after v ≡ Some later → AreSettledInPart space.pins group space.kept later.kept
  pub settled_are : all ≡ true → (v : ℕ) (space later : VdevSpace) → v < n → slice_get spaces v ≡ Some space → slice_get after v ≡ Some later
      → AreSettled space.pins group space.kept later.kept
  pub free : (v : ℕ) (later : VdevSpace) → v < n → slice_get after v ≡ Some later → later.planned ≡ later.kept
  pub rest : (v : ℕ) → n ≤ v → slice_get after v ≡ slice_get spaces v

pub none_yet : (group : ℕ) (spaces : List VdevSpace) → SettledUpTo group spaces spaces 0 true
none_yet group spaces = record {
  count = refl;
  shapes = refl;
  pins = λ v space later found found'. ap (λ (s : VdevSpace). s.pins) (same_some later space (sym found' ∙ found));
  some = λ v space later found found'.
      let same : space ≡ later = same_some space later (sym found ∙ found') in
      subst (λ (s : VdevSpace). AreSettledInPart space.pins group space.kept s.kept) same (unsettled space.pins group space.kept);
  settled_are = λ all v space later below. absurd (omega (arith, below));
  free = λ v later below. absurd (omega (arith, below));
  rest = λ v from. refl;
}

-- one vdev more
pub one_more : (group : ℕ) (spaces mid : List VdevSpace) (n : ℕ) (all ok : Bool) (space new : VdevSpace) → SettledUpTo group spaces mid n all
    → slice_get mid n ≡ Some space → new ≡ record space { kept = new.kept; planned = new.kept } → AreSettledInPart space.pins group space.kept new.kept
    → (ok ≡ true → (all ≡ true) × AreSettled space.pins group space.kept new.kept)
    → length (slice_set mid n new) ≡ length mid → shapes_of (slice_set mid n new) ≡ shapes_of mid
    → SettledUpTo group spaces (slice_set mid n new) (n + 1) ok
one_more group spaces mid n all ok space new before found_mid is part whole count shapes =
    let found : slice_get spaces n ≡ Some space = sym (before.rest n (omega arith)) ∙ found_mid in
    record {
      count = count ∙ before.count;
      shapes = shapes ∙ before.shapes;
      pins = λ v old later found_old found_new. elim (cases_eq v n) [
        | inl here ↦
            let is_new : new ≡ later = slice_get-set_same mid n new later (ap (λ k. slice_get (slice_set mid n new) k) (sym here) ∙ found_new) in
            let is_old : space ≡ old = same_some space old (sym found ∙ ap (λ k. slice_get spaces k) (sym here) ∙ found_old) in
            ap (λ (s : VdevSpace). s.pins) (sym is_new) ∙ ap (λ (s : VdevSpace). s.pins) is ∙ ap (λ (s : VdevSpace). s.pins) is_old
        | inr other ↦ before.pins v old later found_old (sym (slice_get-set_other mid n v new (λ same. other (sym same))) ∙ found_new)
      ];
      some = λ v old later found_old found_new. elim (cases_eq v n) [
        | inl here ↦
            let is_new : new ≡ later = slice_get-set_same mid n new later (ap (λ k. slice_get (slice_set mid n new) k) (sym here) ∙ found_new) in
            let is_old : space ≡ old = same_some space old (sym found ∙ ap (λ k. slice_get spaces k) (sym here) ∙ found_old) in
            let P : VdevSpace → Type 0 = λ s. AreSettledInPart s.pins group s.kept later.kept in
            let Q : VdevSpace → Type 0 = λ s. AreSettledInPart space.pins group space.kept s.kept in
            subst P is_old (subst Q is_new part)
        | inr other ↦ before.some v old later found_old (sym (slice_get-set_other mid n v new (λ same. other (sym same))) ∙ found_new)
      ];
      settled_are = λ yes v old later below found_old found_new. elim (cases_eq v n) [
        | inl here ↦
            let is_new : new ≡ later = slice_get-set_same mid n new later (ap (λ k. slice_get (slice_set mid n new) k) (sym here) ∙ found_new) in
            let is_old : space ≡ old = same_some space old (sym found ∙ ap (λ k. slice_get spaces k) (sym here) ∙ found_old) in
            let P : VdevSpace → Type 0 = λ s. AreSettled s.pins group s.kept later.kept in
            let Q : VdevSpace → Type 0 = λ s. AreSettled space.pins group space.kept s.kept in
            subst P is_old (subst Q is_new (whole yes).1)
        | inr other ↦
            before.settled_are (whole yes).0 v old later (omega (arith, below, other)) found_old (sym (slice_get-set_other mid n v new (λ same. other (sym same))) ∙ found_new)
      ];
      free = λ v later below found_new. elim (cases_eq v n) [
        | inl here ↦
            let is_new : new ≡ later = slice_get-set_same mid n new later (ap (λ k. slice_get (slice_set mid n new) k) (sym here) ∙ found_new) in
            let P : VdevSpace → Type 0 = λ s. s.planned ≡ s.kept in
            subst P is_new (ap (λ (s : VdevSpace). s.planned) is)
        | inr other ↦ before.free v later (omega (arith, below, other)) (sym (slice_get-set_other mid n v new (λ same. other (sym same))) ∙ found_new)
      ];
      rest = λ v from. slice_get-set_other mid n v new (λ same. absurd (omega (arith, from, same))) ∙ before.rest v (omega (arith, from));
    }

pub all_settled : (group : ℕ) (spaces after : List VdevSpace) (n : ℕ) → length spaces ≤ n → SettledUpTo group spaces after n true → AreSettledIn group spaces after
all_settled group spaces after n enough are v space later found found' = (
  are.pins v space later found found',
  are.settled_are refl v space later (omega (arith, enough, slice_get_within spaces v space found)) found found',
)

pub some_settled : (group : ℕ) (spaces after : List VdevSpace) (n : ℕ) (all : Bool) → SettledUpTo group spaces after n all → AreSettledInSome group spaces after
some_settled group spaces after n all are v space later found found' = (are.pins v space later found found', are.some v space later found found')

pub none_planned : (group : ℕ) (spaces after : List VdevSpace) (n : ℕ) (all : Bool) → length spaces ≤ n → SettledUpTo group spaces after n all
    → HaveMarks after filled_marks after planned_marks
none_planned group spaces after n all enough are v space new found found' =
    let same : new ≡ space = same_some new space (sym found' ∙ found) in
    ap (λ (s : VdevSpace). s.planned) same ∙ are.free v space (omega (arith, enough, slice_get_within after v space found, are.count)) found

-- ---- what was stored

each_settled : (group : ℕ) (is later : State → Type 0) (pins : List ℕ) (old new : List Space) (shape : VdevShape) (place : Dva) → SettlesTo group is later
    → AreSettledInPart pins group old new → EachSector is old shape place → EachSector later new shape place
each_settled group is later pins old new shape place to part held =
    let within : metaslab_of shape place < length new = omega (arith, slice_get_within old (metaslab_of shape place) held.metaslab held.found, part.count) in
    let found = slice_get_some new (metaslab_of shape place) within in
    record {
      metaslab = found.0;
      found = found.1;
      each = λ s named. elim (part.each (metaslab_of shape place) held.metaslab found.0 held.found found.1) [
        | inl same ↦ subst (λ (m : Space). later (state m s)) (sym same) (to pins (state held.metaslab s) (held.each s named)).0
        | inr settles ↦ subst later (sym (settles.states s)) (to pins (state held.metaslab s) (held.each s named)).1
      ];
    }

pub lies_settled : (group : ℕ) (is later : State → Type 0) (spaces after : List VdevSpace) (sectors : ℕ) (place : Dva) → SettlesTo group is later
    → shapes_of after ≡ shapes_of spaces → AreSettledInSome group spaces after → LiesOn is spaces filled_marks sectors place → LiesOn later after filled_marks sectors place
lies_settled group is later spaces after sectors place to shapes are lies =
    let there = found_too spaces after place.vdev lies.space shapes lies.found in
    let part = (are place.vdev lies.space there.0 lies.found there.1).1 in
    let P : VdevShape → Type 0 = λ shape. IsPlace shape sectors place in
    let Q : VdevShape → Type 0 = λ shape. EachSector later (filled_marks there.0) shape place in
    record {
      some = lies.some;
      space = there.0;
      found = there.1;
      is_place = subst P (sym there.2) lies.is_place;
      each = subst Q (sym there.2) (each_settled group is later lies.space.pins (filled_marks lies.space) (filled_marks there.0) lies.space.shape place to part lies.each);
    }

-- what is spared isn't free, before or after
spared_stays : (group : ℕ) → SettlesTo group (IsSpared group) IsNotFree
spared_stays group pins state spared = (λ free. spared pins (ap (λ s. settled pins group s) free), spared pins)

pub begun_settled : (group : ℕ) (old new : Store) → new.disks ≡ old.disks → LoseMore old new → shapes_of new.spaces ≡ shapes_of old.spaces
    → AreSettledInSome group old.spaces new.spaces → HaveMarks new.spaces filled_marks new.spaces planned_marks → new.due ≡ []
    → (stored : Contents) → Stores old stored → AreSpared group old.spaces stored → Plans new stored stored
begun_settled group old new disks more_lost shapes some free none stored stores spared =
    let placed : ArePlaced new.spaces filled_marks stored = record {
      blocks = stores.placed.blocks;
      places = λ block bytes i place known at.
          taken_of new.spaces filled_marks block.property.sectors place
          (lies_settled group (IsSpared group) IsNotFree old.spaces new.spaces block.property.sectors place (spared_stays group) shapes some (spared block bytes known i place at));
      regions = λ block bytes known.
          places_too old.spaces new.spaces block.property.sectors (dvas block.copies) shapes (stores.placed.regions block bytes known);
      apart = stores.placed.apart;
    } in
    record {
      held = holds_by old new disks more_lost shapes stored stores.held;
      stored_placed = placed;
      kept = λ block bytes known. known;
      placed = placed_too new.spaces new.spaces filled_marks planned_marks stored (grows_by new.spaces new.spaces filled_marks planned_marks refl free) placed;
      born = λ block bytes known fresh. absurd (no_contents bytes (stored block) known fresh);
      in_use = λ block bytes known fresh. absurd (no_contents bytes (stored block) known fresh);
      accounted = λ strays. none_new new.spaces stored stored free;
      fresh = λ block bytes known fresh. absurd (no_contents bytes (stored block) known fresh);
      beside = none_beside new.spaces free;
      writes_of = λ block i. [];
      on_the_way = λ block bytes i extent known fresh copy. absurd (no_contents bytes (stored block) known fresh);
      due = λ write held. absurd (nothing write (subst (λ xs. Contains xs write) none held));
    }
