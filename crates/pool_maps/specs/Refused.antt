-- Why changes of the space maps are not planned.
use Rattle.std.specs.Prelude.{ℕ, ◌≡◌, ◌≢◌, ◌⊎◌, ◌≤◌, List, [], All, Contains}
use Rattle.block_pointer.specs.declared.block.Block.{Block}
use Rattle.block_store.specs.Steps.{OnlyReadsBlocks}
use Rattle.block_store.specs.Store.{Store}
use Rattle.block_store.specs.declared.refusal.Refusal.{Refusal}
use Rattle.block_store.specs.declared.refusal.Refusal.TheVariants.{NoMemory, NoSpace, BadPointer}
use Rattle.block_pointer.specs.declared.pointer.BlockPtr.TheVariants.{Hole}
use Rattle.dnode.specs.declared.object_set.ObjectSet.{ObjectSet}
use Rattle.dnode.specs.declared.object_set.ObjectSetKind.TheVariants.{Meta}
use Rattle.meta_objset.specs.Found.{AreMapRows, AreMapsFound, IsRowsRefused}
use Rattle.meta_objset.specs.SpaceMaps.{LacksMetaslab, maps_kind}
use Rattle.meta_objset.specs.declared.space_maps.MetaslabMap.{MetaslabMap}
use Rattle.meta_objset.specs.declared.space_maps.MetaslabPlace.{MetaslabPlace}
use Rattle.object_table.specs.Ends.{IsEndRefused}
use Rattle.objset.specs.declared.changes.ObjectChange.{ObjectChange}
use Rattle.space_map_objects.specs.declared.refusal.Refusal.{Refusal as MapRefusal}
use Rattle.space_map_objects.specs.declared.refusal.Refusal.TheVariants.{NoMemory as NoMapMemory, BadMap, Unread}
use Rattle.space_map_objects.specs.Maps.{map_kind}
use Rattle.pool_maps.specs.declared.steps.MapPlan.{MapPlan}
use Rattle.block_store.specs.Gone.{AreNotReleasable}
use Rattle.pool_maps.specs.Plans.{GoesOn, numbers_end}

-- what is answered where a map is not read
abbrev pub of_map : MapRefusal → Refusal
of_map NoMapMemory = NoMemory
of_map BadMap = BadPointer
of_map (Unread why) = why

-- an object of that number can't be changed: it is none, or another change is of it
abbrev pub IsTaken : List ObjectChange → ℕ → Type 0
IsTaken changes number = (number ≡ 0) ⊎ ((numbers_end ≤ number) ⊎ ¬ All (λ change. change.number ≢ number) changes)

-- the map that a row names was not read, or its object can't be changed
pub record IsRowRefused (old new : Store) (set : ObjectSet) (birth : ℕ) (plan : MapPlan) (place : MetaslabPlace) (refusal : Refusal)
    : Type 0 where
  pub row : MetaslabMap
  pub there : Contains plan.maps row
  pub metaslab : row.metaslab ≡ place
  pub why : IsEndRefused old new [] set birth map_kind row.object refusal
      ⊎ ((refusal ≡ BadPointer) × IsTaken plan.changes.items row.object)

-- no number is left for the first map of a metaslab, or another change is of that number
abbrev pub IsMakingRefused : MapPlan → MetaslabPlace → Refusal → Type 0
IsMakingRefused plan place refusal = LacksMetaslab plan.maps place
    × (((refusal ≡ NoSpace) × (numbers_end ≤ plan.next)) ⊎ ((refusal ≡ BadPointer) × IsTaken plan.changes.items plan.next))

-- why the map of one metaslab is not planned
abbrev pub IsMapRefused : Store → Store → ObjectSet → ℕ → List Block → MapPlan → MetaslabPlace → Refusal → Type 0
IsMapRefused old new set birth gone plan place refusal =
    ((refusal ≡ BadPointer) × AreNotReleasable old.spaces gone)
    ⊎ (IsRowRefused old new set birth plan place refusal ⊎ IsMakingRefused plan place refusal)

-- behind some metaslabs that were planned, one is refused
pub record IsSomeRefused (old new : Store) (set : ObjectSet) (birth : ℕ) (gone : List Block) (plan : MapPlan) (refusal : Refusal)
    : Type 0 where
  pub mid : Store
  pub before : OnlyReadsBlocks old mid []
  pub later : MapPlan
  pub goes_on : GoesOn plan later
  pub place : MetaslabPlace
  pub why : IsMapRefused mid new set birth gone later place refusal

-- behind all of them another change is of the maps' table
abbrev pub IsTableTaken : MapPlan → Type 0
IsTableTaken plan = (later : MapPlan) × GoesOn plan later × IsTaken later.changes.items 4

-- why no changes of the space maps are planned
pub record AreMapsRefused (old new : Store) (set : ObjectSet) (birth : ℕ) (gone : List Block) (changes : List ObjectChange)
    (next : ℕ) (refusal : Refusal) : Type 0 where
  pub plan : MapPlan
  pub changes_are : plan.changes.items ≡ changes
  pub next_is : plan.next ≡ next
  pub mid : Store
  pub before : OnlyReadsBlocks old mid []
  pub found : AreMapsFound old.spaces set birth plan.maps
  pub why : IsSomeRefused mid new set birth gone plan refusal
      ⊎ ((refusal ≡ BadPointer) × IsTableTaken plan)

-- the maps' table was not read, or behind it something was refused
abbrev pub IsPlanRefused : Store → Store → ObjectSet → ℕ → List Block → List ObjectChange → ℕ → Refusal → Type 0
IsPlanRefused old new set birth gone changes next refusal =
    IsRowsRefused old new [] set birth maps_kind 4 AreMapRows refusal
    ⊎ AreMapsRefused old new set birth gone changes next refusal

-- the meta object set of a pool that is still to be made: no object
abbrev pub no_set : ObjectSet
no_set = record {
  dnodes = record { object_type = 10; data_sectors = 32; highest = 0; pointer = Hole };
  kind = Meta;
  objects = 1;
}

-- why no first space maps are planned: a metaslab is refused, or behind all of them another change is of the maps' table
pub record AreFirstRefused (old new : Store) (changes : List ObjectChange) (next : ℕ) (refusal : Refusal) : Type 0 where
  pub plan : MapPlan
  pub changes_are : plan.changes.items ≡ changes
  pub next_is : plan.next ≡ next
  pub none : plan.maps ≡ []
  pub why : IsSomeRefused old new no_set 0 [] plan refusal ⊎ ((refusal ≡ BadPointer) × IsTableTaken plan)
