-- What one change makes, and why it is not done.
use Rattle.std.proofs.Common.{◌≡◌, ◌⊎◌, ℕ, ◌+◌, List, [], Option, Some, None, Contains, inl, inr, ◌∙◌}
use Rattle.std.specs.Prelude.{IfSome}
use Rattle.block_store.specs.Losses.{IsForLoss}
use Rattle.block_store.specs.Store.{Store}
use Rattle.block_store.specs.declared.refusal.Refusal.{Refusal}
use Rattle.block_store.specs.declared.refusal.Refusal.TheVariants.{DiskFault, NoSpace}
use Rattle.dataset_destroys.specs.DatasetChanges.{DatasetChanges}
use Rattle.dnode_tree.specs.Writes.{IsForRoom}
use Rattle.meta_objset.specs.declared.directory.DirectoryRow.{DirectoryRow}
use Rattle.meta_objset.specs.Directory.{IsPlacedAmong, LacksName}
use Rattle.meta_objset.specs.Names.{IsNamed}
use Rattle.pool_model.specs.declared.item.Change.{Change}
use Rattle.pool_model.specs.Names.{name_of}
use Rattle.dataset_groups.specs.Demands.{HasChangePlaces, HasVolume, IsMaking, IsMakingRefused, IsNameThere, IsThereAlready, IsUnmade, MakesOne}
use Rattle.dataset_groups.specs.declared.datasets.GroupDatasets.{GroupDatasets}
use Rattle.dataset_groups.proofs.MakingDemands.{in_rows, not_there, one_made}

-- a row that has the name, with this object
abbrev pub HasRow : List DirectoryRow → List ℕ → ℕ → Type 0
HasRow rows name object = (row : DirectoryRow) × Contains rows row × IsNamed row.name name × (row.object ≡ object)

pub row_of : (rows : List DirectoryRow) (name : List ℕ) (found : Option ℕ) (object : ℕ) → found ≡ Some object → IfSome found (HasRow rows name) → HasRow rows name object
row_of rows name None object is there = let clash : None ≡ Some object = is in absurd cc
row_of rows name (Some other) object is (row, held, named, at) = let same : other ≡ object = cc in (row, held, named, at ∙ same)

pub is_row_there : (rows : List DirectoryRow) (name : List ℕ) (object : ℕ) → HasRow rows name object → IsThereAlready rows [] name
is_row_there rows name object has = inl (has.0, has.1, has.2)

pub for_room : (refusal : Refusal) → IsForLoss refusal → IsForRoom refusal ⊎ (refusal ≡ DiskFault)
for_room refusal (inl memory) = inl (inl memory)
for_room refusal (inr fault) = inr fault

pub for_clone : (refusal : Refusal) → IsForLoss refusal ⊎ (refusal ≡ NoSpace) → IsForRoom refusal ⊎ (refusal ≡ DiskFault)
for_clone refusal (inl loss) = for_room refusal loss
for_clone refusal (inr most) = inl (inr most)

-- a change makes something where its name isn't there, and what it needs is
pub is_making : (rows : List DirectoryRow) (change : Change) (padded : List ℕ) → IsNamed padded (name_of change) → LacksName rows padded → HasVolume rows [] change → IsMaking rows [] change
is_making rows change padded named lacks has = (λ there. not_there rows padded (name_of change) named lacks (in_rows rows (name_of change) there), has)

-- it makes nothing where its name is there
pub is_idle : (rows : List DirectoryRow) (change : Change) → IsNameThere rows (name_of change) → ¬ IsMaking rows [] change
is_idle rows change there making = making.0 (inl there)

-- what has the next number then
pub makes_one : (before after : Store) (old new : GroupDatasets) (group : ℕ) (change : Change) (padded : List ℕ) → IsNamed padded (name_of change) → IsMaking old.directory [] change
    → IsPlacedAmong old.directory (record { name = padded; object = old.next }) new.directory → new.next ≡ old.next + 2 → new.bounds ≡ old.bounds
    → HasChangePlaces before after group change
    → MakesOne before after group old new change
makes_one before after old new group change padded named making placed next bounds places = inr (making, one_made old new padded (name_of change) named placed next bounds, places)

-- or why nothing was made
pub not_made : (old new : Store) (changes : DatasetChanges) (group : ℕ) (rows : List DirectoryRow) (next end : ℕ) (change : Change) (refusal : Refusal) → IsMaking rows [] change
    → IsUnmade old new changes group rows next change refusal → IsMakingRefused old new changes group rows [] next end change refusal
not_made old new changes group rows next end change refusal making unmade = inr (inr (making, inr unmade))
