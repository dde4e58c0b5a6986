-- Sectors that are held for what groups lead to.
use Rattle.std.proofs.Common.{◌≡◌, ℕ, suc, ◌+◌, ◌≤◌, ◌&&◌, Bool, true, false, if◌then◌else◌, List, Option, Some, None, Contains, refl, sym, ap, ◌∙◌, subst, arith, inl, inr}
use Rattle.std.specs.Prelude.{nat_le}
use Rattle.std.specs.List.{list_all}
use Rattle.std.proofs.lemmas.Bool.{cases_eq}
use Rattle.std.proofs.lemmas.Bool.Decides.{nat_tests}
use Rattle.block_pointer.specs.declared.block.Block.{Block}
use Rattle.metaslab.specs.State.{State, Free, InUse, Released, is_due, is_in_use}
use Rattle.block_store.specs.declared.shape.VdevShape.{VdevShape}
use Rattle.block_store.specs.Blocks.{Contents}
use Rattle.block_store.specs.Places.{Marks, shapes_of, HaveMarks, EachSector}
use Rattle.block_store.specs.Shapes.{IsPlace}
use Rattle.block_store.specs.Spaces.{VdevSpace}
use Rattle.block_store.specs.Uses.{CopiesLieOn, Passes, IsInUse, IsSpared, SettlesTo}
use Rattle.block_store.proofs.Taking.{found_too}
use Rattle.dataset_snapshots.proofs.ChangedRows.{nothing_in}
use Rattle.pool_commit.specs.declared.kept.Kept.{Kept}
use Rattle.pool_commit.specs.declared.kept.KeptGroup.{KeptGroup}
use Rattle.pool_commit.specs.Backs.{KeptLeadsTo}
use Rattle.pool_commit.specs.Space.{is_held_for, AreHeld}
use Rattle.pool_commit.specs.State.{group_at}
use Rattle.pool_model.specs.Pools.{PlainPool}

-- ---- what holds of a block's sectors

pub weaker : (is later : State → Type 0) (spaces : List VdevSpace) (marks : Marks) (block : Block) → ((state : State) → is state → later state)
    → CopiesLieOn is spaces marks block → CopiesLieOn later spaces marks block
weaker is later spaces marks block implies lies i place at =
    let here = lies i place at in
    record {
      some = here.some;
      space = here.space;
      found = here.found;
      is_place = here.is_place;
      each = record { metaslab = here.each.metaslab; found = here.each.found; each = λ s named. implies _ (here.each.each s named) };
    }

-- the marks of each vdev are those that it had
pub by_marks : (is : State → Type 0) (spaces after : List VdevSpace) (marks later : Marks) (block : Block) → shapes_of after ≡ shapes_of spaces
    → HaveMarks spaces marks after later → CopiesLieOn is spaces marks block → CopiesLieOn is after later block
by_marks is spaces after marks later block shapes are lies i place at =
    let here = lies i place at in
    let there = found_too spaces after place.vdev here.space shapes here.found in
    let P : VdevShape → Type 0 = λ shape. IsPlace shape block.property.sectors place in
    let Q : VdevShape → Type 0 = λ shape. EachSector is (later there.0) shape place in
    let same : later there.0 ≡ marks here.space = are place.vdev here.space there.0 here.found there.1 in
    record {
      some = here.some;
      space = there.0;
      found = there.1;
      is_place = subst P (sym there.2) here.is_place;
      each = subst Q (sym there.2) (subst (λ m. EachSector is m here.space.shape place) (sym same) here.each);
    }

pub held_by_marks : (spaces after : List VdevSpace) (marks later : Marks) (last : ℕ) (reach : ℕ → List Block) → shapes_of after ≡ shapes_of spaces
    → HaveMarks spaces marks after later → AreHeld spaces marks last reach → AreHeld after later last reach
held_by_marks spaces after marks later last reach shapes are held group block among =
    by_marks (Passes (is_held_for group last)) spaces after marks later block shapes are (held group block among)

-- marks that were passed on are those of the first
pub marks_then : (spaces mid after : List VdevSpace) (marks later last : Marks) → shapes_of mid ≡ shapes_of spaces → HaveMarks spaces marks mid later
    → HaveMarks mid later after last → HaveMarks spaces marks after last
marks_then spaces mid after marks later last shapes first second v space new found found_new =
    let there = found_too spaces mid v space shapes found in
    second v there.0 new there.1 found_new ∙ first v space there.0 found there.1

-- ---- what is held

pub in_use_is_held : (group last : ℕ) (state : State) → Passes is_in_use state → Passes (is_held_for group last) state
in_use_is_held group last Free is = absurd (cc)
in_use_is_held group last InUse is = refl
in_use_is_held group last (Released by) is = absurd (cc)

-- of the last group it is in use
pub held_is_in_use : (last : ℕ) (state : State) → Passes (is_held_for last last) state → Passes is_in_use state
held_is_in_use last Free is = absurd (cc)
held_is_in_use last InUse is = refl
held_is_in_use last (Released by) is = absurd (grind (arith, nat_tests, is))

pub is_used : (state : State) → Passes is_in_use state → IsInUse state
is_used Free is = absurd (cc)
is_used InUse is = refl
is_used (Released by) is = absurd (cc)

pub used_is : (state : State) → IsInUse state → Passes is_in_use state
used_is state is = ap is_in_use is

-- it is held as one more group comes
pub held_on : (group last : ℕ) (state : State) → Passes (is_held_for group last) state → Passes (is_held_for group (suc last)) state
held_on group last Free is = is
held_on group last InUse is = refl
held_on group last (Released by) is = grind (arith, nat_tests, is)

pub released_is_held : (group last : ℕ) → group ≤ last → Passes (is_held_for group (suc last)) (Released (suc last))
released_is_held group last below = grind (arith, nat_tests, below)

both : (a b : Bool) → a ≡ false → (a && b) ≡ false
both false b is = refl
both true b is = absurd (cc)

-- what is held for one of the last three groups isn't due to the next
pub held_settles : (group last next : ℕ) → last ≤ group + 2 → next ≤ suc last → SettlesTo next (Passes (is_held_for group last)) (Passes (is_held_for group last))
held_settles group last next near below pins Free is = absurd (cc)
held_settles group last next near below pins InUse is = (refl, refl)
held_settles group last next near below pins (Released by) is =
    let late : nat_le (by + 3) next ≡ false = grind (arith, nat_tests, is, near, below) in
    let not_due : is_due pins next by ≡ false = both (nat_le (by + 3) next) (list_all (λ pin. nat_le by pin) pins) late in
    (is, ap (λ (due : Bool). is_held_for group last (if due then Free else Released by)) not_due ∙ is)

pub held_is_spared : (group last next : ℕ) → last ≤ group + 2 → next ≤ suc last → (state : State) → Passes (is_held_for group last) state → IsSpared next state
held_is_spared group last next near below state is pins free =
    let still = (held_settles group last next near below pins state is).1 in
    let clash : is_held_for group last Free ≡ true = ap (is_held_for group last) (sym free) ∙ still in
    absurd (cc)

-- ---- the groups that are kept

near_by : (kept : Kept) (group : ℕ) (there : KeptGroup) → group_at kept group ≡ Some there → (group ≤ kept.committed) × (kept.committed ≤ group + 2)
near_by kept group there at = elim (cases_eq group kept.committed) [
  | inl here ↦ (omega (arith, here), omega (arith, here))
  | inr other ↦ elim (cases_eq (suc group) kept.committed) [
    | inl here ↦ (omega (arith, here), omega (arith, here))
    | inr another ↦ elim (cases_eq (suc (suc group)) kept.committed) [
      | inl here ↦ (omega (arith, here), omega (arith, here))
      | inr far ↦ absurd (let none : group_at kept group ≡ None = grind (arith, nat_tests, other, another, far) in let clash : Some there ≡ None = sym at ∙ none in cc)
    ]
  ]
]

-- a group that leads to a block is one of the last three
pub near : (stored : Contents) (kept : Kept) (pool : Option PlainPool) (group : ℕ) (blocks : List Block) (block : Block)
    → KeptLeadsTo stored group (group_at kept group) pool blocks → Contains blocks block → (group ≤ kept.committed) × (kept.committed ≤ group + 2)
near stored kept pool group blocks block leads held = by_cases (group_at kept group) refl pool leads
  where
    by_cases : (found : Option KeptGroup) → group_at kept group ≡ found → (pool : Option PlainPool) → KeptLeadsTo stored group found pool blocks
        → (group ≤ kept.committed) × (kept.committed ≤ group + 2)
    by_cases (Some there) is pool leads = near_by kept group there is
    by_cases None is None leads = absurd (nothing_in block (subst (λ (list : List Block). Contains list block) leads held))
    by_cases None is (Some pool) leads = absurd leads
