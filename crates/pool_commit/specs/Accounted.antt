-- What the sectors of a pool are used for: no room is lost, and none is used twice.
use Rattle.std.specs.Prelude.{ℕ, suc, ◌≡◌, ◌≢◌, ◌≤◌, ◌<◌, ◌⊎◌, Some, List, Contains, slice_get}
use Rattle.metaslab.specs.Space.{Space, state, sectors_of}
use Rattle.metaslab.specs.State.{State as SectorState, Free, Released, settled}
use Rattle.block_pointer.specs.declared.block.Block.{Block}
use Rattle.block_store.specs.Accounts.{SectorAt, HasSector}
use Rattle.block_store.specs.Blocks.{Contents}
use Rattle.block_store.specs.Places.{filled}
use Rattle.block_store.specs.Spaces.{VdevSpace}
use Rattle.block_store.specs.Store.{Stores}
use Rattle.dnode_tree.specs.Rewriting.{AreDistinct}
use Rattle.pool_model.specs.View.{View}
use Rattle.pool_commit.specs.Backs.{Backs, KeptLeadsTo, kept_pool}
use Rattle.pool_commit.specs.State.{State, group_at}

-- a plan of that group may not hand the sector out: it isn't free, nor does it become so as the plan begins
pub record IsWithheld (spaces : List VdevSpace) (group : ℕ) (at : SectorAt) : Type 0 where
  pub space : VdevSpace
  pub found : slice_get spaces at.vdev ≡ Some space
  pub metaslab : Space
  pub there : slice_get (filled space) at.metaslab ≡ Some metaslab
  pub not_free : settled space.pins group (state metaslab at.sector) ≢ Free

-- one of the last two committed groups released it, or one after a pinned group
pub record WasReleasedLate (pins : List ℕ) (committed : ℕ) (state : SectorState) : Type 0 where
  pub group : ℕ
  pub is_released : state ≡ Released group
  pub past : group ≤ committed
  pub late : (committed ≤ suc group) ⊎ ((pin : ℕ) × Contains pins pin × (pin < group))

-- Kept groups lead to blocks, each of them to none twice, and no sector of these may be handed out by the next plan. What it may not
-- hand out is in a block that the committed group leads to, or was released late.
pub record HasAllRoom (s : State) (v : View) : Type 0 where
  pub stored : Contents
  pub stores : Stores s.store stored
  pub reach : ℕ → List Block
  pub leads : (group : ℕ) → KeptLeadsTo stored group (group_at s.kept group) (kept_pool v group) (reach group)
  pub once : (group : ℕ) → AreDistinct (reach group)
  pub not_twice : (group : ℕ) (block : Block) (at : SectorAt) → Contains (reach group) block → HasSector s.store.spaces block at
      → IsWithheld s.store.spaces (suc v.committed) at
  pub not_lost : (at : SectorAt) → (kept : IsWithheld s.store.spaces (suc v.committed) at) → at.sector < sectors_of kept.metaslab
      → ((block : Block) × Contains (reach v.committed) block × HasSector s.store.spaces block at)
      ⊎ WasReleasedLate kept.space.pins v.committed (state kept.metaslab at.sector)

-- so it is as long as a view is backed
abbrev pub NoRoomIsLost : Type 0
NoRoomIsLost = (s : State) (v : View) → Backs s v → HasAllRoom s v
