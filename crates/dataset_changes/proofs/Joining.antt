-- Lists that are read, and blocks that join them.
use Rattle.std.proofs.Common.{ℕ, ◌≡◌, ◌++◌, [], ◌∷◌, List, Option, Some, All, IsPermutation, inl, inr, refl, sym, subst, append_assoc}
use Rattle.std.specs.List.{AllByRecursion}
use Rattle.std.proofs.lemmas.List.{append-nil}
use Rattle.std.proofs.lemmas.List.Elements.{All-append, All-from_recursion}
use Rattle.std.proofs.lemmas.List.Sorted.{All-permutation, IsPermutation-append_left, IsPermutation-append_right, IsPermutation-refl, IsPermutation-sym, IsPermutation-trans}
use Rattle.block_pointer.specs.Block.{FitsBlock}
use Rattle.block_pointer.specs.declared.block.Block.{Block}
use Rattle.block_store.specs.Losses.{IsForLoss}
use Rattle.dead_list.specs.Rows.{FitsRow, SpellsList}
use Rattle.dead_list_objects.specs.Lists.{HasDeadList, IsForLossOf, dead_list_kind}
use Rattle.dead_list_objects.specs.declared.refusal.Refusal.{Refusal as ListRefusal}
use Rattle.object_table.specs.Ends.{IsEndOf}
use Rattle.object_table.specs.Tables.{HasTable}
use Rattle.object_table.specs.declared.ends.TableEnd.{TableEnd}
use Rattle.objset.specs.Objects.{Object}
use Rattle.dataset_changes.specs.Over.{IsListNow, IsListOver}
use Rattle.dataset_changes.specs.Refused.{of_list}
use Rattle.dataset_changes.specs.declared.states.ListState.TheVariants.{Added}

fit_rows : (blocks : List Block) → AllByRecursion FitsRow blocks → AllByRecursion FitsBlock blocks
fit_rows [] each = tt
fit_rows (b ∷ bs) each = (each.0.0, fit_rows bs each.1)

-- the blocks of rows may stand on disk, and those of two lists
pub fit_list : (bytes : List ℕ) (list : List Block) → SpellsList bytes list → All FitsBlock list
fit_list bytes list spelled =
    All-permutation FitsBlock spelled.0 list spelled.1 (All-from_recursion FitsBlock spelled.0 (fit_rows spelled.0 spelled.2.each))

pub fit_joined : (one two both : List Block) → All FitsBlock one → All FitsBlock two → IsPermutation (one ++ two) both → All FitsBlock both
fit_joined one two both fit_one fit_two joined = All-permutation FitsBlock (one ++ two) both joined (All-append FitsBlock one two fit_one fit_two)

-- a loss stays one
pub loss_of : (why : ListRefusal) → IsForLossOf why → IsForLoss (of_list why)
loss_of why (inl memory) = subst (λ (w : ListRefusal). IsForLoss (of_list w)) (sym memory) (inl refl)
loss_of why (inr lost) = subst (λ (w : ListRefusal). IsForLoss (of_list w)) (sym lost.1) lost.2

-- an object with a list has its end
pub added_none : (object : Option Object) (list blocks : List Block) (end : TableEnd) → ((rows : List ℕ) → HasTable dead_list_kind object rows → IsEndOf dead_list_kind object rows end)
    → blocks ≡ [] → HasDeadList object list → IsListOver object (Some (Added end blocks)) × IsListNow object (Some (Added end blocks)) list
added_none object list blocks end ends none there =
    let is = ends there.0 there.1 in
    let same : IsPermutation (list ++ blocks) list =
    subst (λ (b : List Block). IsPermutation (list ++ b) list) (sym none) (subst (λ (l : List Block). IsPermutation l list) (sym (append-nil list)) (IsPermutation-refl list)) in
    ((there.0, list, is, there.2), (there.0, list, is, there.2, same))

-- an object of which the end is known has a list
pub list_of_end : (object : Option Object) (list blocks : List Block) (end : TableEnd) → IsListNow object (Some (Added end blocks)) list → (old : List Block) × HasDeadList object old
list_of_end object list blocks end now = (now.1, (now.0, now.2.table, now.3))

-- the whole list with the blocks that join it is the one that there is now
pub whole_with_added : (object : Option Object) (end : TableEnd) (blocks whole found : List Block) → IsListOver object (Some (Added end blocks))
    → ((list : List Block) → HasDeadList object list → IsPermutation whole list) → IsPermutation (whole ++ blocks) found
    → IsListNow object (Some (Added end blocks)) found × ((list : List Block) → IsListNow object (Some (Added end blocks)) list → IsPermutation found list)
whole_with_added object end blocks whole found over one joined = (
  (
    over.0,
    over.1,
    over.2,
    over.3,
    IsPermutation-trans _ _ _ (IsPermutation-append_left blocks _ _ (IsPermutation-sym _ _ (one over.1 (over.0, over.2.table, over.3)))) joined,
  ),
  λ list now.
      IsPermutation-trans _ _ _ (IsPermutation-sym _ _ joined)
      (IsPermutation-trans _ _ _ (IsPermutation-append_left blocks _ _ (one now.1 (now.0, now.2.table, now.3))) now.4),
)

-- a list with more blocks
more_blocks : (front blocks added later list : List Block) → IsPermutation (front ++ blocks) list → IsPermutation (blocks ++ added) later → IsPermutation (front ++ later) (list ++ added)
more_blocks front blocks added later list so_far joined =
    IsPermutation-trans _ _ _ (IsPermutation-append_right front _ _ (IsPermutation-sym _ _ joined))
    (subst (λ (l : List Block). IsPermutation l (list ++ added)) (append_assoc front blocks added) (IsPermutation-append_left added _ _ so_far))

pub added_more : (object : Option Object) (list blocks added later : List Block) (end : TableEnd) → IsPermutation (blocks ++ added) later → IsListOver object (Some (Added end blocks))
    → IsListNow object (Some (Added end blocks)) list → IsListOver object (Some (Added end later)) × IsListNow object (Some (Added end later)) (list ++ added)
added_more object list blocks added later end joined over now =
    (over, (now.0, now.1, now.2, now.3, more_blocks now.1 blocks added later list now.4 joined))

pub more : (one added later list : List Block) → IsPermutation (one ++ added) later → IsPermutation one list → IsPermutation later (list ++ added)
more one added later list joined now = IsPermutation-trans _ _ _ (IsPermutation-sym _ _ joined) (IsPermutation-append_left added _ _ now)
