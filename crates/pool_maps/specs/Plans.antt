-- What a group's plan makes of the space maps.
use Rattle.std.specs.Prelude.{ℕ, ◌≡◌, ◌≢◌, ◌⊎◌, ◌+◌, ◌*◌, ◌^◌, ◌<◌, ◌≤◌, true, false, List, ◌∷◌, ◌++◌, Option, None, All, AllPairs, Contains}
use Rattle.block_pointer.specs.declared.block.Block.{Block}
use Rattle.block_store.specs.Maps.{LeavesUnused}
use Rattle.block_store.specs.Places.{filled, planned}
use Rattle.block_store.specs.Releases.{AreReleased, copies_of_all}
use Rattle.block_store.specs.Spaces.{VdevSpace}
use Rattle.meta_objset.specs.SpaceMaps.{AreSpaceMaps, IsWithMap, LacksMetaslab}
use Rattle.meta_objset.specs.declared.space_maps.MetaslabMap.{MetaslabMap}
use Rattle.meta_objset.specs.declared.space_maps.MetaslabPlace.{MetaslabPlace}
use Rattle.objset.specs.declared.changes.Change.{Change}
use Rattle.objset.specs.declared.changes.ObjectChange.{ObjectChange}
use Rattle.object_table.specs.Tables.{HasTable}
use Rattle.objset.specs.Changes.{IsGoodChange, MayChange, after_change, changed}
use Rattle.objset.specs.Objects.{Object}
use Rattle.space_map.specs.FreeRuns.{FreeRuns, AreFree}
use Rattle.space_map_objects.specs.Maps.{map_kind}
use Rattle.pool_maps.specs.declared.steps.MapPlan.{MapPlan}
use Rattle.pool_maps.specs.Reached.{AreThere}
use Rattle.pool_maps.specs.Maps.{AreMapsOf, AreShortMaps, AreRowsOf, HasMapPlace, IsMapped}

-- object numbers are below this one
abbrev pub numbers_end : ℕ
numbers_end = 32 * 128 ^ 5

-- the changes are of objects, each once, in the order of their numbers
pub record AreOrdered (changes : List ObjectChange) : Type 0 where
  pub order : AllPairs (λ change later. change.number < later.number) changes
  pub numbers : All (λ change. (0 < change.number) × (change.number < numbers_end)) changes
  pub good : All (λ change. IsGoodChange change.change) changes

-- each may be made of the object that is there
abbrev pub MayBeMade : (ℕ → Option Object) → List ObjectChange → Type 0
MayBeMade objects changes = All (λ change. MayChange change.change (objects change.number)) changes

-- the number of an object that has a map, or of one that may be made
abbrev pub IsMapNumber : List MetaslabMap → ℕ → ℕ → Type 0
IsMapNumber maps next number = ((row : MetaslabMap) × Contains maps row × (row.object ≡ number)) ⊎ (next ≤ number)

-- The changes are none of the maps or of their table, and make no object that a map may have. They may be made, and objects from the next
-- number on are not there.
pub record AreOfOthers (objects : ℕ → Option Object) (changes : List ObjectChange) (maps : List MetaslabMap) (next : ℕ) : Type 0 where
  pub tables : All (λ change. change.number ≢ 4) changes
  pub apart : All (λ change. ¬ IsMapNumber maps next change.number) changes
  pub may : MayBeMade objects changes
  pub unmade : (number : ℕ) → next ≤ number → objects number ≡ None
  pub behind : 4 < next
  pub within : next ≤ numbers_end

-- The change is of a map, or makes one, of a metaslab of which other sectors are unused with the plan, once these blocks are given back,
-- than the stored blocks leave unused.
pub record IsForMetaslab (spaces : List VdevSpace) (gone : List Block) (maps : List MetaslabMap) (next : ℕ) (change : ObjectChange)
    : Type 0 where
  pub place : MetaslabPlace
  pub there : HasMapPlace spaces place
  pub before : FreeRuns
  pub free : FreeRuns
  pub was : LeavesUnused spaces filled place.vdev place.index before
  pub is : (after : List VdevSpace) (group : ℕ) → AreReleased spaces (copies_of_all gone) group after
      → LeavesUnused after planned place.vdev place.index free
  pub differ : before.runs ≢ free.runs
  pub number : ((row : MetaslabMap) × Contains maps row × (row.metaslab ≡ place) × (row.object ≡ change.number)) ⊎ (next ≤ change.number)

-- each change is one of the others, is of the maps' table, or is of a map of such a metaslab
abbrev pub AreSparing : List VdevSpace → List Block → List MetaslabMap → ℕ → List ObjectChange → List ObjectChange → Type 0
AreSparing spaces gone maps next changes all = (change : ObjectChange) → Contains all change
    → Contains changes change ⊎ ((change.number ≡ 4) ⊎ IsForMetaslab spaces gone maps next change)

-- Behind the changes, once these blocks are given back, the space maps leave free what is unused with the plan; of each metaslab before
-- the meta regions there is a set of that.
abbrev pub MapAnew : (ℕ → Option Object) → List VdevSpace → List Block → List ObjectChange → Type 0
MapAnew objects spaces gone changes = (after : List VdevSpace) (group : ℕ) → AreReleased spaces (copies_of_all gone) group after
    → AreMapsOf (changed changes objects) after planned × AreThere after planned

-- objects that are no map, and not the maps' table, read as they would without the maps' changes
abbrev pub OthersStay : List MetaslabMap → ℕ → List ObjectChange → List ObjectChange → Type 0
OthersStay maps next changes all = (objects : ℕ → Option Object) (number : ℕ) → number ≢ 4 → ¬ IsMapNumber maps next number
    → changed all objects number ≡ changed changes objects number

-- the change leaves its object a space map's
abbrev pub LeavesMap : (ℕ → Option Object) → ObjectChange → Type 0
LeavesMap objects change = (bytes : List ℕ) × HasTable map_kind (after_change change.change (objects change.number)) bytes

-- each change is one of the others, is of the maps' table, or leaves a space map
abbrev pub LeaveMaps : (ℕ → Option Object) → List ObjectChange → List ObjectChange → Type 0
LeaveMaps objects changes all = (change : ObjectChange) → Contains all change
    → Contains changes change ⊎ ((change.number ≡ 4) ⊎ LeavesMap objects change)

-- ---- Only the crate's own functions say these.

-- one change came among the others
pub record IsPutIn (old : List ObjectChange) (change : ObjectChange) (new : List ObjectChange) : Type 0 where
  pub front : List ObjectChange
  pub back : List ObjectChange
  pub was : old ≡ front ++ back
  pub is : new ≡ front ++ change ∷ back
  pub apart : All (λ other. other.number ≢ change.number) old

-- what objects read as after the plan's changes
abbrev pub after_plan : MapPlan → (ℕ → Option Object) → ℕ → Option Object
after_plan plan objects number = changed plan.changes.items objects number

-- the rows are of the pool's metaslabs, and no map's object has a number that is still to be given
pub record IsSound (spaces : List VdevSpace) (plan : MapPlan) : Type 0 where
  pub order : AreSpaceMaps plan.maps
  pub rows : AreRowsOf spaces plan.maps
  pub below : All (λ map. map.object < plan.next) plan.maps
  pub behind : 4 < plan.next
  pub within : plan.next ≤ numbers_end

-- no change is of an object that is still to be made
abbrev pub AreBelow : MapPlan → Type 0
AreBelow plan = All (λ change. change.number < plan.next) plan.changes.items

-- further changes are of maps alone, rows came to those that there were, and numbers were given in order
pub record GoesOn (old new : MapPlan) : Type 0 where
  pub kept : (change : ObjectChange) → Contains old.changes.items change → Contains new.changes.items change
  pub only : (change : ObjectChange) → Contains new.changes.items change
      → Contains old.changes.items change ⊎ IsMapNumber old.maps old.next change.number
  pub others : (objects : ℕ → Option Object) (number : ℕ) → ¬ IsMapNumber old.maps old.next number
      → changed new.changes.items objects number ≡ changed old.changes.items objects number
  pub rows : (row : MetaslabMap) → Contains old.maps row → Contains new.maps row
  pub added : (row : MetaslabMap) → Contains new.maps row → Contains old.maps row ⊎ (old.next ≤ row.object)
  pub next : old.next ≤ new.next
  pub idle : new.grown ≡ false → (new.maps ≡ old.maps) × (old.grown ≡ false)

-- the plan went on, and the changes are of objects still, each once
pub record IsStep (spaces : List VdevSpace) (gone : List Block) (old new : MapPlan) : Type 0 where
  pub ordered : AreOrdered new.changes.items
  pub goes_on : GoesOn old new
  pub spare : (change : ObjectChange) → Contains new.changes.items change
      → Contains old.changes.items change ⊎ IsForMetaslab spaces gone old.maps old.next change
  pub sound : IsSound spaces old → IsSound spaces new
  pub below : IsSound spaces old → AreBelow old → AreBelow new

-- the metaslab's map leaves free what the stored blocks leave unused
abbrev pub IsMappedYet : (ℕ → Option Object) → List VdevSpace → MapPlan → MetaslabPlace → Type 0
IsMappedYet objects spaces plan place = (free : FreeRuns) → AreFree free → LeavesUnused spaces filled place.vdev place.index free
    → IsMapped (after_plan plan objects) plan.maps place free

-- Where the metaslab's map left free what the stored blocks leave unused, it leaves free what they do with the plan, once these blocks
-- are given back.
abbrev pub IsMappedAnew : (ℕ → Option Object) → List VdevSpace → List Block → MapPlan → MetaslabPlace → MapPlan → Type 0
IsMappedAnew objects spaces gone old place new = IsMappedYet objects spaces old place
    → (free : FreeRuns) (after : List VdevSpace) (group : ℕ) → AreReleased spaces (copies_of_all gone) group after → AreFree free
    → LeavesUnused after planned place.vdev place.index free → IsMapped (after_plan new objects) new.maps place free

-- no change so far is of the object of that metaslab's map
abbrev pub IsUntouched : MapPlan → MetaslabPlace → Type 0
IsUntouched plan place = (row : MetaslabMap) → Contains plan.maps row → row.metaslab ≡ place
    → All (λ change. change.number ≢ row.object) plan.changes.items

-- objects from the next number on are not there
abbrev pub AreUnmade : MapPlan → (ℕ → Option Object) → Type 0
AreUnmade plan objects = (number : ℕ) → plan.next ≤ number → objects number ≡ None

-- There is a set of what the stored blocks leave unused of the metaslab with the plan, once these blocks are given back.
pub record HasSetBehind (spaces : List VdevSpace) (gone : List Block) (place : MetaslabPlace) : Type 0 where
  pub free : FreeRuns
  pub are : AreFree free
  pub is : (after : List VdevSpace) (group : ℕ) → AreReleased spaces (copies_of_all gone) group after
      → LeavesUnused after planned place.vdev place.index free

-- the maps of these metaslabs were planned, and those of all others are as they were
pub record Advances (objects : ℕ → Option Object) (spaces : List VdevSpace) (gone : List Block) (are : MetaslabPlace → Type 0)
    (old new : MapPlan) : Type 0 where
  pub stay : (place : MetaslabPlace) (free : FreeRuns) → ¬ are place
      → IsMapped (after_plan old objects) old.maps place free → IsMapped (after_plan new objects) new.maps place free
  pub untouched : (place : MetaslabPlace) → ¬ are place → IsUntouched old place → IsUntouched new place
  pub anew : (place : MetaslabPlace) → are place → HasMapPlace spaces place → IsMappedAnew objects spaces gone old place new
  pub there : (place : MetaslabPlace) → are place → HasMapPlace spaces place → HasSetBehind spaces gone place
  pub may : ((place : MetaslabPlace) → are place → HasMapPlace spaces place → IsMappedYet objects spaces old place)
      → MayBeMade objects old.changes.items → MayBeMade objects new.changes.items
  pub leave : ((place : MetaslabPlace) → are place → HasMapPlace spaces place → IsMappedYet objects spaces old place)
      → (change : ObjectChange) → Contains new.changes.items change → Contains old.changes.items change ⊎ LeavesMap objects change
  pub short : ((place : MetaslabPlace) → are place → HasMapPlace spaces place → IsMappedYet objects spaces old place)
      → AreShortMaps (after_plan old objects) spaces old.maps → AreShortMaps (after_plan new objects) spaces new.maps

-- all metaslabs, those of a vdev, or one
abbrev pub AreAll : MetaslabPlace → Type 0
AreAll place = Unit {0}

-- the metaslabs of that vdev
abbrev pub AreIn : ℕ → MetaslabPlace → Type 0
AreIn vdev place = place.vdev ≡ vdev

-- that metaslab alone
abbrev pub IsThat : MetaslabPlace → MetaslabPlace → Type 0
IsThat that place = place ≡ that

-- of these metaslabs no map was planned yet
abbrev pub AreAhead : (ℕ → Option Object) → List VdevSpace → (MetaslabPlace → Type 0) → MapPlan → Type 0
AreAhead objects spaces are plan = (place : MetaslabPlace) → are place → HasMapPlace spaces place
    → IsMappedYet objects spaces plan place × IsUntouched plan place

-- the change of a map's object came among the others, and all else is as it was
pub record IsRewritten (old : MapPlan) (number : ℕ) (change : Change) (new : MapPlan) : Type 0 where
  pub put : IsPutIn old.changes.items (record { number = number; change = change }) new.changes.items
  pub maps : new.maps ≡ old.maps
  pub grown : new.grown ≡ old.grown
  pub next : new.next ≡ old.next

-- the change that makes a metaslab's first map came among the others, and the map got a row
pub record IsMade (old : MapPlan) (place : MetaslabPlace) (change : Change) (new : MapPlan) : Type 0 where
  pub put : IsPutIn old.changes.items (record { number = old.next; change = change }) new.changes.items
  pub lacks : LacksMetaslab old.maps place
  pub within : old.next < numbers_end
  pub maps : IsWithMap old.maps (record { metaslab = place; object = old.next }) new.maps
  pub order : AreSpaceMaps new.maps
  pub grown : new.grown ≡ true
  pub next : new.next ≡ old.next + 1
