-- What the sectors of a pool's blocks are used for.
use Rattle.std.specs.Prelude.{ℕ, ◌≡◌, ◌≤◌, Bool, true, false, nat_lt, nat_le, ◌&&◌, Some, List, slice_get, Contains}
use Rattle.metaslab.specs.Space.{Space, state}
use Rattle.metaslab.specs.State.{State, Free, InUse, Released, is_in_use}
use Rattle.block_pointer.specs.declared.block.Block.{Block}
use Rattle.block_store.specs.Accounts.{SectorAt, IsUsed, HasSector}
use Rattle.block_store.specs.Blocks.{Contents, AreStored}
use Rattle.block_store.specs.Places.{Marks, shapes_of, filled, planned, HaveMarks}
use Rattle.block_store.specs.Plans.{Plans}
use Rattle.block_store.specs.Spaces.{VdevSpace}
use Rattle.block_store.specs.Store.{Store, Keeps, KeepsStored}
use Rattle.block_store.specs.Uses.{CopiesLieOn, Passes, IsInUse}

-- A sector of a block that a group leads to, as the last group is that one: it is in use, or a later group released it.
abbrev pub is_held_for : ℕ → ℕ → State → Bool
is_held_for group last Free = false
is_held_for group last InUse = true
is_held_for group last (Released by) = nat_lt group by && nat_le by last

-- so it is of all sectors of what each group leads to
abbrev pub AreHeld : List VdevSpace → Marks → ℕ → (ℕ → List Block) → Type 0
AreHeld spaces marks last reach =
    (group : ℕ) (block : Block) → Contains (reach group) block → CopiesLieOn (Passes (is_held_for group last)) spaces marks block

-- all sectors of these blocks are in use
abbrev pub AreInUse : List VdevSpace → Marks → List Block → Type 0
AreInUse spaces marks blocks = (block : Block) → Contains blocks block → CopiesLieOn (Passes is_in_use) spaces marks block

-- each sector that is in use is in one of these blocks
abbrev pub AreInBlocks : List VdevSpace → Marks → List Block → Type 0
AreInBlocks spaces marks blocks = (at : SectorAt) → IsUsed IsInUse spaces marks at
    → (block : Block) × Contains blocks block × HasSector spaces block at

-- each sector that was released was so by this group or an earlier one
abbrev pub WereReleasedBy : List VdevSpace → Marks → ℕ → Type 0
WereReleasedBy spaces marks last = (group : ℕ) (at : SectorAt) → IsUsed (λ state. state ≡ Released group) spaces marks at → group ≤ last

-- the metaslab is there, and this holds of what the sector is used for
pub record IsFor (is : State → Type 0) (spaces : List VdevSpace) (marks : Marks) (at : SectorAt) : Type 0 where
  pub space : VdevSpace
  pub found : slice_get spaces at.vdev ≡ Some space
  pub metaslab : Space
  pub there : slice_get (marks space) at.metaslab ≡ Some metaslab
  pub used : is (state metaslab at.sector)

-- Blocks were given back with that group, or the first of them: where they are stored, what is planned stays so, and what held of the
-- sectors of any other block that is planned holds still.
pub record GivesBack (old new : Store) (blocks : List Block) (group : ℕ) : Type 0 where
  pub disks : new.disks ≡ old.disks
  pub out : new.out ≡ old.out
  pub stale : new.spans.stale ≡ old.spans.stale
  pub due : new.due ≡ old.due
  pub shapes : shapes_of new.spaces ≡ shapes_of old.spaces
  pub filled_stays : HaveMarks old.spaces filled new.spaces filled
  pub keeps : Keeps old new
  pub stores : KeepsStored old new
  pub plans : (stored later : Contents) → Plans old stored later → AreStored stored blocks → Plans new stored later
  pub stays : (test : State → Bool) (block : Block) → Passes test (Released group) → CopiesLieOn (Passes test) old.spaces planned block
      → CopiesLieOn (Passes test) new.spaces planned block
  pub spares : (test : State → Bool) (stored later : Contents) (block : Block) (bytes : List ℕ) → Plans old stored later → AreStored stored blocks
      → later block ≡ Some bytes → ¬ Contains blocks block → CopiesLieOn (Passes test) old.spaces planned block
      → CopiesLieOn (Passes test) new.spaces planned block
