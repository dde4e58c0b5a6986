-- One step after another, of the same set.
use Rattle.std.proofs.Common.{ℕ, ◌≡◌, ◌⊎◌, Bool, true, false, cond, [], List, Option, Some, None, All, inl, inr, ⊎_elim, sym, subst, ◌∙◌}
use Rattle.block_pointer.specs.Block.{FitsBlock}
use Rattle.block_pointer.specs.declared.block.Block.{Block}
use Rattle.block_store.specs.Blocks.{Contents}
use Rattle.block_store.specs.Store.{Store}
use Rattle.block_store.specs.declared.refusal.Refusal.{Refusal}
use Rattle.block_store.specs.declared.refusal.Refusal.TheVariants.{NoMemory, BadPointer}
use Rattle.dead_list_objects.specs.Lists.{HasDeadList, IsEndUnread, IsListRefused}
use Rattle.dead_list_objects.specs.declared.refusal.Refusal.{Refusal as ListRefusal}
use Rattle.dnode.specs.declared.object_set.ObjectSet.{ObjectSet}
use Rattle.objset.specs.Objects.{AreObjects, Object}
use Rattle.dataset_changes.specs.Fitting.{FitsListState}
use Rattle.dataset_changes.specs.Over.{IsForList, IsListNow, IsListOver}
use Rattle.dataset_changes.specs.Refused.{IsListEndUnread, IsListUnread, of_list}
use Rattle.dataset_changes.specs.States.{AreOfOneSet, HasListPut, birth_of, is_made_list, list_at, set_of}
use Rattle.dataset_changes.specs.declared.changes.DatasetChanges.{DatasetChanges}
use Rattle.dataset_changes.specs.declared.states.ListState.{ListState}
use Rattle.dataset_changes.specs.declared.states.ListState.TheVariants as lists

pub put_twice : (old mid new : DatasetChanges) (number : ℕ) (first second : Option ListState) → HasListPut old number first mid → HasListPut mid number second new → HasListPut old number second new
put_twice old mid new number first second one two = (two.0, λ other apart. two.1 other apart ∙ one.1 other apart)

module _ (before after : DatasetChanges) (one : AreOfOneSet before after) where
  pub same_objects : (stored : Contents) (objects : ℕ → Option Object) (own : List Block) (blocks : ℕ → List Block) → AreObjects stored (birth_of before) (set_of before) objects own blocks
      → AreObjects stored (birth_of after) (set_of after) objects own blocks
  same_objects stored objects own blocks are =
      subst (λ (set : ObjectSet). AreObjects stored (birth_of after) set objects own blocks) (sym one.0)
      (subst (λ (birth : ℕ). AreObjects stored birth (set_of before) objects own blocks) (sym one.1) are)

  module _ (old new : Store) (number : ℕ) (refusal : Refusal) where
    pub list_unread : (state : Option ListState) → state ≡ list_at before number
        → (refusal ≡ NoMemory)
        ⊎ (((why : ListRefusal) × (refusal ≡ of_list why) × IsListRefused old new [] (set_of after) (birth_of after) number why)
        ⊎ ((refusal ≡ BadPointer) × (state ≡ Some lists.Gone)))
        → IsListUnread old new before number refusal
    list_unread state is =
        ⊎_elim (λ memory. inl memory)
        (⊎_elim
        (λ refused. inr (inl (
          refused.0,
          refused.1,
          subst (λ (set : ObjectSet). IsListRefused old new [] set (birth_of before) number refused.0) one.0
              (subst (λ (birth : ℕ). IsListRefused old new [] (set_of after) birth number refused.0) one.1 refused.2),
        )))
        (λ gone. inr (inr (gone.0, inr (sym is ∙ gone.1)))))

    pub end_unread : ((why : ListRefusal) × (refusal ≡ of_list why) × IsEndUnread old new [] (set_of after) (birth_of after) number why) → IsListEndUnread old new before number refusal
    end_unread refused = inr (inl (
      refused.0,
      refused.1,
      subst (λ (set : ObjectSet). IsEndUnread old new [] set (birth_of before) number refused.0) one.0
          (subst (λ (birth : ℕ). IsEndUnread old new [] (set_of after) birth number refused.0) one.1 refused.2),
    ))

-- ---- a list that is known whole

pub whole_fits : (made : Bool) (list : List Block) (state : ListState) → state ≡ cond made (lists.Made list) (lists.Whole list) → All FitsBlock list → FitsListState state
whole_fits true list state is fits = subst (λ (s : ListState). FitsListState s) (sym is) fits
whole_fits false list state is fits = subst (λ (s : ListState). FitsListState s) (sym is) fits

for_list : (object : Option Object) (list : List Block) → HasDeadList object list → IsForList object
for_list object list there = (there.1.there, there.1.is, there.1.of_kind)

pub whole_over : (object : Option Object) (state : Option ListState) (list one : List Block) → IsListOver object state → IsListNow object state list
    → IsListOver object (Some (cond (is_made_list state) (lists.Made one) (lists.Whole one)))
whole_over object None list one over now = for_list object list now
whole_over object (Some (lists.Added end blocks)) list one over now = (over.2.table.there, over.2.table.is, over.2.table.of_kind)
whole_over object (Some (lists.Whole other)) list one over now = over
whole_over object (Some (lists.Made other)) list one over now = over
whole_over object (Some lists.Gone) list one over now = absurd now
