-- The changes that give objects their dead lists.
use Rattle.std.proofs.Common.{ℕ, ◌≡◌, ◌++◌, [], ◌∷◌, ◌<◌, length, List, Option, Some, None, IsPermutation, refl, sym, subst, arith}
use Rattle.std.proofs.lemmas.List.{append-nil}
use Rattle.std.proofs.lemmas.List.Sorted.{IsPermutation-append_right, IsPermutation-sym, IsPermutation-trans}
use Rattle.block_pointer.specs.declared.block.Block.{Block}
use Rattle.dead_list.specs.Rows.{SpellsList}
use Rattle.dead_list_objects.specs.Lists.{HasDeadList, dead_list_kind}
use Rattle.object_table.specs.Ends.{IsEndOf}
use Rattle.object_table.specs.Tables.{IsOfKind}
use Rattle.object_table.specs.declared.ends.TableEnd.{TableEnd}
use Rattle.objset.specs.Changes.{IsGoodChange, MayChange, after_change}
use Rattle.objset.specs.Objects.{Object}
use Rattle.objset.specs.declared.changes.Change.{Change}
use Rattle.objset.specs.declared.changes.Change.TheVariants.{Create, Put, Free, Replace}
use Rattle.dataset_changes.specs.Planned.{ServesList}
use Rattle.dataset_changes.specs.declared.states.ListState.TheVariants.{Added, Whole, Made}

-- the order of blocks says nothing
pub in_other_order : (object : Option Object) (one list : List Block) → HasDeadList object one → IsPermutation one list → HasDeadList object list
in_other_order object one list there same = (there.0, there.1, (there.2.0, IsPermutation-trans _ _ _ there.2.1 same, there.2.2))

pub none_added : (end : TableEnd) (blocks : List Block) → blocks ≡ [] → ServesList (Added end blocks) None
none_added end blocks none = record {
  good = tt;
  may = λ object over. tt;
  now = λ object over list now.
      in_other_order object now.1 list (now.0, now.2.table, now.3)
      (subst (λ (l : List Block). IsPermutation l list) (append-nil now.1) (subst (λ (b : List Block). IsPermutation (now.1 ++ b) list) none now.4));
  gone = λ object is. absurd cc;
}

pub some_added : (end : TableEnd) (blocks added : List Block) (change : Change) → IsPermutation blocks added → IsGoodChange change
    → ((object : Object) → IsOfKind dead_list_kind object → MayChange change (Some object))
    → ((object : Object) (rows : List ℕ) (list : List Block) → IsEndOf dead_list_kind (Some object) rows end → SpellsList rows list → HasDeadList (after_change change (Some object)) (list ++ added))
    → ServesList (Added end blocks) (Some change)
some_added end blocks added change same good may made = record {
  good = good;
  may = λ object over. subst (λ (o : Option Object). MayChange change o) (sym over.2.table.is) (may over.2.table.there over.2.table.of_kind);
  now = λ object over list now.
      let there = now.2.table.there in
      let is = now.2.table.is in
      let longer = made there now.0 now.1 (subst (λ (o : Option Object). IsEndOf dead_list_kind o now.0 end) is now.2) now.3 in
      subst (λ (o : Option Object). HasDeadList (after_change change o) list) (sym is)
      (in_other_order (after_change change (Some there)) (now.1 ++ added) list longer
      (IsPermutation-trans _ _ _ (IsPermutation-append_right now.1 _ _ (IsPermutation-sym _ _ same)) now.4));
  gone = λ object is. absurd cc;
}

pub whole_replaced : (one : List Block) (change : Change) → IsGoodChange change → ((object : Object) → IsOfKind dead_list_kind object → MayChange change (Some object))
    → ((object : Object) → IsOfKind dead_list_kind object → HasDeadList (after_change change (Some object)) one) → ServesList (Whole one) (Some change)
whole_replaced one change good may made = record {
  good = good;
  may = λ object over. subst (λ (o : Option Object). MayChange change o) (sym over.1) (may over.0 over.2);
  now = λ object over list same.
      subst (λ (o : Option Object). HasDeadList (after_change change o) list) (sym over.1)
      (in_other_order (after_change change (Some over.0)) one list (made over.0 over.2) same);
  gone = λ object is. absurd cc;
}

-- what makes an object where there is none may be done there
may_make : (change : Change) (there : Object) → after_change change None ≡ Some there → MayChange change None
may_make (Create object_type sectors writes) there is = refl
may_make (Put writes) there is = absurd cc
may_make Free there is = absurd cc
may_make (Replace writes) there is = absurd cc

pub list_created : (one : List Block) (change : Change) → IsGoodChange change → HasDeadList (after_change change None) one → ServesList (Made one) (Some change)
list_created one change good made = record {
  good = good;
  may = λ object over. subst (λ (o : Option Object). MayChange change o) (sym over) (may_make change made.1.there made.1.is);
  now = λ object over list same.
      subst (λ (o : Option Object). HasDeadList (after_change change o) list) (sym over) (in_other_order (after_change change None) one list made same);
  gone = λ object is. absurd cc;
}

pub some_left : (blocks : List Block) → (blocks ≡ [] → ⊥) → 0 < length blocks
some_left [] apart = absurd (apart refl)
some_left (b ∷ bs) apart = omega arith
