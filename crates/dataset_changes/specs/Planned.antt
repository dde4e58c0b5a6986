-- The changes of objects that are planned, by the objects' numbers.
use Rattle.std.specs.Prelude.{ℕ, ◌≡◌, ◌≢◌, List, [], ◌∷◌, Option, Some, None, IfSome}
use Rattle.std.specs.BTreeMap.{BTreeMap, get}
use Rattle.std.specs.Ordering.{nat_cmp}
use Rattle.block_pointer.specs.declared.block.Block.{Block}
use Rattle.dead_list_objects.specs.Lists.{HasDeadList}
use Rattle.meta_objset.specs.Datasets.{HasRecord}
use Rattle.meta_objset.specs.declared.record.DatasetRecord.{DatasetRecord}
use Rattle.objset.specs.Changes.{IsGoodChange, MayChange, after_change}
use Rattle.objset.specs.Objects.{Object}
use Rattle.objset.specs.declared.changes.Change.{Change}
use Rattle.objset.specs.declared.changes.ObjectChange.{ObjectChange}
use Rattle.dataset_changes.specs.Over.{IsListNow, IsListOver, IsRecordNow, IsRecordOver}
use Rattle.dataset_changes.specs.declared.states.ListState.{ListState}
use Rattle.dataset_changes.specs.declared.states.ListState.TheVariants as lists
use Rattle.dataset_changes.specs.declared.states.RecordState.{RecordState}
use Rattle.dataset_changes.specs.declared.states.RecordState.TheVariants as records

-- what becomes of an object by a change, or by none
abbrev pub after_plan : Option Change → Option Object → Option Object
after_plan None object = object
after_plan (Some change) object = after_change change object

-- the change gives the object what became of its record
pub record ServesRecord (state : RecordState) (plan : Option Change) : Type 0 where
  pub good : IfSome plan IsGoodChange
  pub may : (object : Option Object) → IsRecordOver object (Some state) → IfSome plan (λ change. MayChange change object)
  pub now : (object : Option Object) → IsRecordOver object (Some state) → (r : DatasetRecord) → IsRecordNow object (Some state) r
      → HasRecord (after_plan plan object) r
  pub gone : (object : Option Object) → state ≡ records.Gone → after_plan plan object ≡ None
  pub changed : IfSome plan (λ change. (r : DatasetRecord) → state ≢ records.Read r)

-- or of its dead list
pub record ServesList (state : ListState) (plan : Option Change) : Type 0 where
  pub good : IfSome plan IsGoodChange
  pub may : (object : Option Object) → IsListOver object (Some state) → IfSome plan (λ change. MayChange change object)
  pub now : (object : Option Object) → IsListOver object (Some state) → (list : List Block) → IsListNow object (Some state) list
      → HasDeadList (after_plan plan object) list
  pub gone : (object : Option Object) → state ≡ lists.Gone → after_plan plan object ≡ None

-- where something became of an object there is a plan, of a change or of none; elsewhere there is none
abbrev pub IsPlanned : {X : Type 0} → (X → Option Change → Type 0) → Option X → Option (Option Change) → Type 0
IsPlanned Serves None plan = plan ≡ None
IsPlanned Serves (Some state) plan = (change : Option Change) × (plan ≡ Some change) × Serves state change

-- the records' plans
abbrev pub AreRecordPlans : BTreeMap ℕ RecordState → BTreeMap ℕ (Option Change) → Type 0
AreRecordPlans records plans = (number : ℕ) → IsPlanned ServesRecord (get nat_cmp records number) (get nat_cmp plans number)

-- the list's plan stands where there was none; where no list is the plan stays
abbrev pub IsListPlanned : Option ListState → Option (Option Change) → Option (Option Change) → Type 0
IsListPlanned None old new = new ≡ old
IsListPlanned (Some state) old new = (old ≡ None) × IsPlanned ServesList (Some state) new

-- each list's plan stands in the new map, where the old one had none; where no list is the old plan stays
abbrev pub AreListsPlanned : BTreeMap ℕ ListState → BTreeMap ℕ (Option Change) → BTreeMap ℕ (Option Change) → Type 0
AreListsPlanned lists old new = (number : ℕ) → IsListPlanned (get nat_cmp lists number) (get nat_cmp old number) (get nat_cmp new number)

-- the changes of these plans, in their order
abbrev pub change_of : ℕ → Option Change → List ObjectChange → List ObjectChange
change_of number None changes = changes
change_of number (Some change) changes = record { number = number; change = change } ∷ changes

-- the changes of all these plans, in their order; a plan of no change adds none
abbrev pub changes_of : List (ℕ × Option Change) → List ObjectChange
changes_of [] = []
changes_of (plan ∷ plans) = change_of plan.0 plan.1 (changes_of plans)
