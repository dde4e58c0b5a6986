-- Room for the blocks of a group that is to be planned.
use Rattle.std.specs.Prelude.{ℕ, suc, ◌≡◌, ◌⊎◌, ◌<◌, ◌^◌, List, [], Option, Some, None}
use Rattle.block_pointer.specs.declared.block.Block.{Block}
use Rattle.block_store.specs.declared.refusal.Refusal.{Refusal as StoreRefusal}
use Rattle.block_store.specs.declared.refusal.Refusal.TheVariants as store
use Rattle.block_store.specs.Places.{shapes_of, filled, planned, HaveMarks}
use Rattle.block_store.specs.Releases.{AreSettledIn}
use Rattle.block_store.specs.Store.{Store}
use Rattle.dataset_snapshots.specs.Creating.{stale_after}
use Rattle.dataset_snapshots.specs.Demands.{IsGroupRefused}
use Rattle.dataset_snapshots.specs.FirstGroup.{IsFirstRefused}
use Rattle.meta_objset.specs.declared.directory.DirectoryRow.{DirectoryRow}
use Rattle.meta_objset.specs.declared.stale_spans.StaleSpan.{StaleSpan}
use Rattle.pool_model.specs.Pools.{Entry}
use Rattle.stale_disks.specs.Rules.{AreSpansAfter, guids_in}
use Rattle.vdev_label.specs.Plain.{PlainVdev, config_view}
use Rattle.volume_rules.specs.Parting.{destroyed_by, made_by}
use Rattle.pool_commit.specs.State.{State}
use Rattle.pool_commit.specs.declared.kept.KeptGroup.{KeptGroup}

-- the store as a plan of that group begins: the same disks, of which nothing is in use but what is stored and what is not due yet
pub record IsBegun (group : ℕ) (old begun : Store) : Type 0 where
  pub disks : begun.disks ≡ old.disks
  pub out : begun.out ≡ old.out
  pub stale : begun.spans.stale ≡ old.spans.stale
  pub shapes : shapes_of begun.spaces ≡ shapes_of old.spaces
  pub settled : AreSettledIn group old.spaces begun.spaces
  pub free : HaveMarks begun.spaces filled begun.spaces planned

-- why the root after a group, its actions parted, with these stale spans where others come, is not planned: behind the last one by the directory that is kept, or as the first of a
-- pool of this configuration
abbrev pub IsNextRefused :
    Store → Store → Option Block → List DirectoryRow → List PlainVdev → ℕ → Option (List StaleSpan) → Entry → StoreRefusal → Type 0
IsNextRefused old new (Some root) rows vdevs group spans items refusal =
    IsGroupRefused old new root rows group spans (destroyed_by items) (made_by items) refusal
IsNextRefused old new None rows vdevs group spans items refusal =
    IsFirstRefused old new group vdevs (stale_after spans []) (made_by items) refusal

-- why the root of the next group is not planned, behind the last one: it has this table of stale spans, or none of its own, and is refused so
pub record IsGroupUnplanned (old new : Store) (last : KeptGroup) (group : ℕ) (items : Entry) (refusal : StoreRefusal) : Type 0 where
  pub spans : Option (List StaleSpan)
  pub are : AreSpansAfter (guids_in (config_view last.config.value)) old.out group last.spans.value (stale_after spans last.spans_under.value)
  pub why : IsNextRefused old new last.root last.directory.value (config_view last.config.value) group spans items refusal

-- why the root of the next group is not planned: memory ran out, or its root is refused so
abbrev pub IsGroupRefusedBehind : Store → Store → KeptGroup → ℕ → Entry → StoreRefusal → Type 0
IsGroupRefusedBehind old new last group items refusal = (refusal ≡ store.NoMemory) ⊎ IsGroupUnplanned old new last group items refusal

-- from where a plan was begun, the root after the items was refused
pub record IsPlanRefused (old : State) (new : Store) (items : Entry) (refusal : StoreRefusal) : Type 0 where
  pub begun : Store
  pub group : ℕ
  pub is_begun : IsBegun group old.store begun
  pub is_next : old.kept.committed < 2 ^ 62 → group ≡ suc old.kept.committed
  pub why : IsGroupRefusedBehind begun new old.kept.last group items refusal

-- There is no room for a block that the group makes of the committed root, behind what is stored and others of these blocks; or no
-- two numbers are left for the objects of what it makes, or the clones of a snapshot can't be counted any more.
abbrev pub LacksRoom : State → Entry → Type 0
LacksRoom s items = (after : Store) × IsPlanRefused s after items store.NoSpace
