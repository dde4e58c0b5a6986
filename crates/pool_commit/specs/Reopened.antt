-- A pool of which one group is kept: as it is opened, or made on disks.
use Rattle.std.specs.Prelude.{ℕ, ◌≡◌, ◌⊎◌, [], Some, None, List}
use Rattle.block_pointer.specs.declared.block.Block.{Block}
use Rattle.block_store.specs.Opened.{CannotTakeIn, MayBeOpened}
use Rattle.block_store.specs.Places.{shapes_of}
use Rattle.block_store.specs.Releases.{copies_of_all}
use Rattle.block_store.specs.Spaces.{VdevSpace}
use Rattle.block_store.specs.Store.{Store}
pub use Rattle.dataset_snapshots.specs.Contents.{AreContentsOf}
use Rattle.dataset_snapshots.specs.Pools.{SpellsPool}
use Rattle.dataset_snapshots.specs.declared.contents.RootContents.{RootContents}
use Rattle.meta_objset.specs.Reading.{HasConfig}
use Rattle.dataset_snapshots.specs.Loads.{AreApart, AreLoadedAs, AreSetsOf}
use Rattle.block_store.specs.Blocks.{Contents}
use Rattle.pool_model.specs.Pools.{PlainPool, no_volumes}
use Rattle.vdev_label.specs.Plain.{PlainVdev}
use Rattle.meta_objset.specs.declared.directory.DirectoryRow.{DirectoryRow}
use Rattle.vdev_label.specs.declared.label.Config.{Config}
use Rattle.volume_rules.specs.Index.{Knows}
use Rattle.volume_rules.specs.declared.index.NameIndex.{NameIndex}
use Rattle.pool_commit.specs.declared.kept.KeptGroup.{KeptGroup}
use Rattle.pool_commit.specs.declared.stamp.Stamp.{Stamp}
use Rattle.pool_commit.specs.Slots.{IsStampOf, LabelsLieAside}
use Rattle.pool_commit.specs.State.{State}

-- a group with this root, its directory, the names of its pool and its configuration
pub record IsGroupOf (root : Block) (directory : List DirectoryRow) (names : NameIndex) (config : Config) (kept : KeptGroup) : Type 0 where
  pub root_is : kept.root ≡ Some root
  pub names_are : kept.names.value ≡ names
  pub directory_is : kept.directory.value ≡ directory
  pub config_is : kept.config.value ≡ config

-- the maps were loaded, each of another metaslab, and then a block of the root could not be taken in
pub record IsBlockMisplaced (spaces : List VdevSpace) (contents : RootContents) : Type 0 where
  pub mid : List VdevSpace
  pub loaded : AreApart contents.maps.items → AreLoadedAs spaces contents.maps.items mid
  pub after : List VdevSpace
  pub cannot : CannotTakeIn mid (copies_of_all contents.blocks.items) after

-- what was read of a root has no place on these vdevs: its maps, or then one of its blocks
abbrev pub AreMisplaced : List VdevSpace → RootContents → Type 0
AreMisplaced spaces contents = (¬ AreSetsOf spaces contents.maps.items) ⊎ IsBlockMisplaced spaces contents

-- the root's table of the configuration has one that uberblocks of this stamp name
abbrev pub IsConfiguredUnder : Stamp → Contents → ℕ → Block → PlainPool → Type 0
IsConfiguredUnder stamp stored group root pool =
    (is : SpellsPool stored group root pool) × (its : List PlainVdev) × HasConfig (is.objects 2) its × IsStampOf its stamp.claim stamp

-- a group with no root, no rows, no spans, neither in a table nor known, and no volumes, and this configuration
pub record IsEmptyGroup (config : Config) (kept : KeptGroup) : Type 0 where
  pub root_is : kept.root ≡ None
  pub table : kept.spans_under.value ≡ []
  pub known : kept.spans.value ≡ []
  pub names : Knows kept.names.value no_volumes
  pub directory : kept.directory.value ≡ []
  pub config_is : kept.config.value ≡ config

-- this group is kept, and no other, and nothing is planned
pub record IsOfGroup (store : Store) (stamp : Stamp) (group : ℕ) (last : KeptGroup) (s : State) : Type 0 where
  pub store_is : s.store ≡ store
  pub stamp_is : s.stamp ≡ stamp
  pub unplanned : s.planned ≡ None
  pub committed : s.kept.committed ≡ group
  pub last_is : s.kept.last ≡ last
  pub before : s.kept.before ≡ None
  pub earliest : s.kept.earliest ≡ None

-- where a store may be opened its disks have room for labels, and no block lies on them
abbrev pub LabelsOfOpenedLie : Type 0
LabelsOfOpenedLie = (store : Store) → MayBeOpened store.disks.starts (shapes_of store.spaces) store.out → LabelsLieAside store.disks.starts store.spaces
