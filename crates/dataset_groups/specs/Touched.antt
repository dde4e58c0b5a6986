-- Which records and dead lists a group's changes are of.
use Rattle.std.specs.Prelude.{ℕ, ◌≡◌, ◌⊎◌, ◌+◌, ◌*◌, ◌<◌, ◌≤◌, List, Any, Contains, length}
use Rattle.dataset_destroys.specs.ChainTouched.{IsCloneTouched, IsSnapshotTouched, TouchesOnly}
use Rattle.dataset_destroys.specs.DatasetChanges.{DatasetChanges}
use Rattle.dataset_destroys.specs.ChainRefused.{HasKnown}
use Rattle.dataset_destroys.specs.States.{AreOfOneSet}
use Rattle.meta_objset.specs.Names.{IsNamed}
use Rattle.meta_objset.specs.declared.directory.DirectoryRow.{DirectoryRow}
use Rattle.meta_objset.specs.declared.record.DatasetRecord.{DatasetRecord}
use Rattle.pool_model.specs.declared.item.Action.{Action}
use Rattle.pool_model.specs.declared.item.Change.{Change}
use Rattle.pool_model.specs.declared.item.Change.TheVariants.{Clone, Create, Destroy, Snapshot}
use Rattle.dataset_groups.specs.Writing.{IsListOf}

-- one of the two numbers that each of so many datasets takes, from that on
abbrev pub IsNewNumber : ℕ → ℕ → ℕ → Type 0
IsNewNumber next count number = (next ≤ number) × (number < next + 2 * count)

-- records are changed of these heads alone, and dead lists that these records name
abbrev pub TouchesHeads : DatasetChanges → DatasetChanges → List ℕ → Type 0
TouchesHeads old new numbers = TouchesOnly old new (λ number. Contains numbers number) (IsListOf new numbers)

-- by this change a snapshot is taken of the volume that a row names, with this object
abbrev pub IsTakenBy : List DirectoryRow → ℕ → Change → Type 0
IsTakenBy rows number (Create name size block_size) = ⊥
IsTakenBy rows number (Snapshot volume part) =
    (row : DirectoryRow) × Contains rows row × IsNamed row.name volume × (row.object ≡ number)
IsTakenBy rows number (Clone snapshot name) = ⊥
IsTakenBy rows number (Destroy name) = ⊥

-- by this change a clone is made of the snapshot that a row names, with this object
abbrev pub IsClonedBy : List DirectoryRow → ℕ → Change → Type 0
IsClonedBy rows number (Create name size block_size) = ⊥
IsClonedBy rows number (Snapshot volume part) = ⊥
IsClonedBy rows number (Clone snapshot name) =
    (row : DirectoryRow) × Contains rows row × IsNamed row.name snapshot × (row.object ≡ number)
IsClonedBy rows number (Destroy name) = ⊥

-- a volume is made, with the two next numbers
abbrev pub TouchesNew : DatasetChanges → DatasetChanges → ℕ → Type 0
TouchesNew old new next = TouchesOnly old new (IsNewNumber next 1) (IsNewNumber next 1)

-- or a snapshot is taken of the volume that a row names: its record is changed, and that of the snapshot before it
abbrev pub TouchesTaken : DatasetChanges → DatasetChanges → List DirectoryRow → ℕ → List ℕ → Type 0
TouchesTaken old new rows next volume =
    (row : DirectoryRow) × Contains rows row × IsNamed row.name volume
    × IsSnapshotTouched old new row.object next (next + 1)

-- or a clone is made of the snapshot that a row names: its record is changed
abbrev pub TouchesCloned : DatasetChanges → DatasetChanges → List DirectoryRow → ℕ → List ℕ → Type 0
TouchesCloned old new rows next snapshot =
    (row : DirectoryRow) × Contains rows row × IsNamed row.name snapshot
    × IsCloneTouched old new row.object next (next + 1)

-- by one change; a destroy is none of those that are done here
abbrev pub TouchesChange : DatasetChanges → DatasetChanges → List DirectoryRow → ℕ → Change → Type 0
TouchesChange old new rows next (Create name size block_size) = TouchesNew old new next
TouchesChange old new rows next (Snapshot volume part) = TouchesTaken old new rows next volume
TouchesChange old new rows next (Clone snapshot name) = TouchesCloned old new rows next snapshot
TouchesChange old new rows next (Destroy name) = ⊥

-- one of the actions took a snapshot of the volume with this object
abbrev pub IsHeadTaken : List DirectoryRow → List Action → ℕ → Type 0
IsHeadTaken rows made number = Any (λ action. IsTakenBy rows number action.change) made

-- a record of such a volume, as it came so far, has this one before it
abbrev pub IsBeforeTaken : DatasetChanges → List DirectoryRow → List Action → ℕ → Type 0
IsBeforeTaken changes rows made number =
    (far : DatasetChanges) × AreOfOneSet changes far × (head : ℕ) × IsHeadTaken rows made head
    × ((r : DatasetRecord) × HasKnown far head r × (r.previous ≡ number))

-- of the snapshot with this object one of the actions made a clone
abbrev pub IsOriginTaken : List DirectoryRow → List Action → ℕ → Type 0
IsOriginTaken rows made number = Any (λ action. IsClonedBy rows number action.change) made

-- Records and dead lists are made, with the next numbers, of what these actions made; of each volume that a snapshot was taken of, under
-- these rows, the record is changed, and that of the snapshot before it; and that of each snapshot that a clone was made of.
abbrev pub TouchesMade : DatasetChanges → DatasetChanges → List DirectoryRow → ℕ → List Action → Type 0
TouchesMade old new rows next made =
    TouchesOnly old new
    (λ number. IsNewNumber next (length made) number
    ⊎ (IsHeadTaken rows made number ⊎ (IsBeforeTaken old rows made number ⊎ IsOriginTaken rows made number)))
    (IsNewNumber next (length made))
