-- Dead lists of which one is given over to another.
use Rattle.std.proofs.Common.{◌≢◌, ◌++◌, ℕ, List, [], Option, Some, sym, subst}
use Rattle.std.specs.Prelude.{IsPermutation}
use Rattle.std.proofs.lemmas.List.Sorted.{IsPermutation-append_right, IsPermutation-refl, IsPermutation-sym, IsPermutation-trans}
use Rattle.block_pointer.specs.declared.block.Block.{Block}
use Rattle.dataset_chains.specs.Over.{AreOver, HasListNow, IsListNow}
use Rattle.dataset_chains.specs.States.{HasListPut, list_at, with_list}
use Rattle.dataset_chains.specs.DatasetChanges.{DatasetChanges}
use Rattle.dataset_chains.specs.ListState.{ListState}
use Rattle.dead_list.specs.Blocks.{IsSplit}
use Rattle.objset.specs.Objects.{Object}
use Rattle.dataset_destroys.proofs.RecordSteps.{list_put_at}
use Rattle.dataset_destroys.specs.Steps.{AreGivenOver}

-- a list that was put is there
put_has : (objects : ℕ → Option Object) (old new : DatasetChanges) (number : ℕ) (list : List Block) → HasListPut old number (Some (with_list (list_at old number) list)) new → HasListNow objects new number list
put_has objects old new number list put =
    subst (λ (state : Option ListState). IsListNow (objects number) state list) (sym put.0) ((list_put_at (objects number) (list_at old number) list list).1 (IsPermutation-refl list))

-- the others are the same
pub other_has : (objects : ℕ → Option Object) (old new : DatasetChanges) (number : ℕ) (state : Option ListState) (other : ℕ) (list : List Block) → HasListPut old number state new → other ≢ number
    → HasListNow objects old other list → HasListNow objects new other list
other_has objects old new number state other list put not has = subst (λ (now : Option ListState). IsListNow (objects other) now list) (sym (put.1 other not)) has

-- the second list is still there once the first was taken
pub still_there : (objects : ℕ → Option Object) (old first : DatasetChanges) (from into : ℕ) → from ≢ into → HasListPut old into (Some (with_list (list_at old into) [])) first → (own : List Block)
    → HasListNow objects old from own → HasListNow objects first from own
still_there objects old first from into apart one own has = other_has objects old first into (Some (with_list (list_at old into) [])) from own one apart has

module _ (objects : ℕ → Option Object) (old first second new : DatasetChanges) (from into : ℕ) (apart : from ≢ into)
    (one : HasListPut old into (Some (with_list (list_at old into) [])) first) (two : HasListPut first from (Some (with_list (list_at first from) [])) second) where
  -- where both were taken the first is empty
  pub emptied : HasListNow objects second into []
  emptied = other_has objects first second from (Some (with_list (list_at first from) [])) into [] two (λ e. apart (sym e)) (put_has objects old first into [] one)

  pub given_over : (since : ℕ) (dead own found_dead found_own gone older merged : List Block) → HasListPut second into (Some (with_list (list_at second into) merged)) new → AreOver objects new
      → IsPermutation found_dead dead → IsPermutation found_own own → IsSplit since found_dead gone older → IsPermutation (older ++ found_own) merged
      → AreGivenOver objects old new from into since dead own gone
  given_over since dead own found_dead found_own gone older merged put over same_dead same_own split joined = record {
    older = older;
    merged = merged;
    split = record {
      parts = IsPermutation-trans dead found_dead (gone ++ older) (IsPermutation-sym found_dead dead same_dead) split.parts;
      after_are = split.after_are;
      until_are = split.until_are;
    };
    joined = IsPermutation-trans (older ++ own) (older ++ found_own) merged (IsPermutation-append_right older own found_own (IsPermutation-sym found_own own same_own)) joined;
    over = over;
    has = put_has objects second new into merged put;
    left = other_has objects second new into (Some (with_list (list_at second into) merged)) from [] put apart (put_has objects first second from [] two);
    others = λ number list not_from not_into has.
        other_has objects second new into (Some (with_list (list_at second into) merged)) number list put not_into
        (other_has objects first second from (Some (with_list (list_at first from) [])) number list two not_from
        (other_has objects old first into (Some (with_list (list_at old into) [])) number list one not_into has));
  }
