-- Phases with other trees.
use Rattle.std.proofs.Common.{ℕ, ◌≡◌, ⊎_elim, inl, inr, Bool, true, false, List, length, Option, Some, None, refl, sym, true≢false}
use Rattle.std.specs.Prelude.{if◌then◌else◌}
use Rattle.model_disk.specs.Joint.{Disks, bytes_of, content}
use Rattle.model_disk.proofs.RunLemmas.{Makes-wider}
use Rattle.block_pointer.specs.declared.block.Block.{Block}
use Rattle.uberblock_ring.specs.declared.uberblock.Uberblock.{Uberblock}
use Rattle.pool_slots.specs.Commits.{AreAt, only_last}
use Rattle.pool_slots.specs.Phases.{AreInBlocks, free_writes}
use Rattle.pool_slots.specs.Possible.{IsPossible, LeadsOn, TreeStands, Trees}
use Rattle.pool_stops.specs.Filled.{all_picked}

-- ---- picked bytes

pub if_so : {A : Type 0} (test : Bool) (x y : A) → test ≡ true → (if test then x else y) ≡ x
if_so true x y is = refl
if_so false x y is = absurd (true≢false (sym is))

pub if_not : {A : Type 0} (test : Bool) (x y : A) → test ≡ false → (if test then x else y) ≡ y
if_not true x y is = absurd (true≢false is)
if_not false x y is = refl

pub is_so : (test : Bool) (x : Option ℕ) (value : ℕ) → (if test then x else None) ≡ Some value → (test ≡ true) × (x ≡ Some value)
is_so true x value is = (refl, is)
is_so false x value is = absurd (cc)

-- they stand where they were picked
pub picked_stand : (picks : ℕ → ℕ → Bool) (out : List Bool) (held : ℕ → ℕ → Option ℕ) (root : Block) → TreeStands (all_picked picks held) out held root
picked_stand picks out held root which i value used is = (is_so (picks which i) (held which i) value is).1

-- they are the same where the same are picked, and are held alike
pub same_picked : (picks : ℕ → ℕ → Bool) (held later : ℕ → ℕ → Option ℕ) → ((which i : ℕ) → picks which i ≡ true → later which i ≡ held which i)
    → all_picked picks held ≡ all_picked picks later
same_picked picks held later alike = λ j root which i. same_at (picks which i) (held which i) (later which i) (alike which i) j
  where
    same_at : (test : Bool) (x y : Option ℕ) → (test ≡ true → y ≡ x) → (if test then x else None) ≡ (if test then y else None)
    same_at true x y is = sym (is refl)
    same_at false x y is = refl

-- ---- fewer bytes

-- the first trees have all that the second have
abbrev pub HaveMore : Trees → Trees → Type 0
HaveMore trees fewer = (root : Block) (which i value : ℕ) → fewer root which i ≡ Some value → trees root which i ≡ Some value

leads_map : (size : ℕ) (held : ℕ → Option ℕ) (last : Uberblock) (Good Better : Uberblock → Type 0) → ((u : Uberblock) → Good u → Better u) → LeadsOn size held last Good
    → LeadsOn size held last Better
leads_map size held last Good Better more leads = record {
  only = λ label slot is u shows.
      let it = leads.only label slot is u shows in
      record { u = it.u; shows = it.shows; rank = ⊎_elim inl (λ good. inr (more it.u good)) it.rank };
  top = leads.top;
}

-- an uberblock is committed whatever trees stand
pub at_with : (trees others : Trees) (out : List Bool) (disks : Disks) (u : Uberblock) (before : List Uberblock) → ((v : Uberblock) → TreeStands others out (content disks) v.root)
    → AreAt trees out disks u before → AreAt others out disks u before
at_with trees others out disks u before stand at = record {
  there = at.there;
  fits = at.fits;
  settled = at.settled;
  leads = λ which used.
      leads_map (length (bytes_of disks.starts which)) (content disks which) u (IsPossible trees out (content disks) (only_last u before))
      (IsPossible others out (content disks) (only_last u before)) (λ v good. (good.0, stand v)) (at.leads which used);
}

at_fewer : (trees fewer : Trees) (out : List Bool) (disks : Disks) (u : Uberblock) (before : List Uberblock) → HaveMore trees fewer → AreAt trees out disks u before
    → AreAt fewer out disks u before
at_fewer trees fewer out disks u before more at = record {
  there = at.there;
  fits = at.fits;
  settled = at.settled;
  leads = λ which used.
      leads_map (length (bytes_of disks.starts which)) (content disks which) u (IsPossible trees out (content disks) (only_last u before))
      (IsPossible fewer out (content disks) (only_last u before))
      (λ v good. (good.0, λ disk i value in_use is. good.1 disk i value in_use (more v.root disk i value is))) (at.leads which used);
}

none_of : (o : Option ℕ) → ((value : ℕ) → ¬ (o ≡ Some value)) → o ≡ None
none_of None not = refl
none_of (Some value) not = absurd (not value refl)

some_not_none : (o : Option ℕ) (value : ℕ) → o ≡ Some value → ¬ (o ≡ None)
some_not_none o value is none = cc

-- the blocks phase, where there is less in the trees
pub blocks_fewer : (trees fewer : Trees) (out : List Bool) (disks : Disks) (last : Uberblock) (before : List Uberblock) → HaveMore trees fewer → AreInBlocks trees out disks last before
    → AreInBlocks fewer out disks last before
blocks_fewer trees fewer out disks last before more phase = record {
  settled = phase.settled;
  at = at_fewer trees fewer out phase.settled last before more phase.at;
  makes = Makes-wider (free_writes trees out phase.settled.starts last before) (free_writes fewer out phase.settled.starts last before) phase.settled disks
      (λ which at bytes free used i covered.
      let it = free used i covered in
      record {
        off_slots = it.off_slots;
        off_trees = λ u reach. none_of (fewer u.root which i) (λ value is. some_not_none (trees u.root which i) value (more u.root which i value is) (it.off_trees u reach));
      }) phase.makes;
}
