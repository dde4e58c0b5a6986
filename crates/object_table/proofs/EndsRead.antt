-- Ends of tables that are read.
use Rattle.std.proofs.Common.{◌≡◌, ℕ, ◌*◌, List, Option, Some, sym, ap, subst, ◌∙◌}
use Rattle.block_store.specs.declared.refusal.Refusal.{Refusal}
use Rattle.block_store.specs.Spaces.{VdevSpace}
use Rattle.block_store.specs.Steps.{OnlyReadsBlocks}
use Rattle.block_store.specs.Store.{Store}
use Rattle.dnode.specs.declared.object_set.ObjectSet.{ObjectSet}
use Rattle.objset.specs.Found.{IsDataFound}
use Rattle.objset.specs.Objects.{Object}
use Rattle.object_table.specs.declared.ends.TableEnd.{TableEnd}
use Rattle.object_table.specs.declared.kind.TableKind.{TableKind}
use Rattle.object_table.specs.Ends.{AreEndsFound, AreEndsOfSome, AreEndsRefused, IsEndBlockRefused, IsEndOf}
use Rattle.object_table.specs.Found.{IsObjectFound}
use Rattle.object_table.specs.Tables.{HasTable, HasWholeBlocks}
use Rattle.object_table.proofs.SoundTables.{ends_of_table}
use Rattle.object_table.proofs.Tables.{spaces_stay}

there_is : (object : Option Object) (there other : Object) → object ≡ Some there → object ≡ Some other → there ≡ other
there_is object there other one two = let e : Some there ≡ Some other = sym one ∙ two in cc

-- the two blocks of an object with a table are those of some table
pub ends_at : (kind : TableKind) (object : Option Object) (rows : List ℕ) (there : Object) (first last : List ℕ) (highest : ℕ) (has : HasTable kind object rows) → object ≡ Some there
    → HasWholeBlocks there.array → there.highest ≡ highest → there.array 0 ≡ Some first → there.array highest ≡ Some last → AreEndsOfSome kind.rows highest has.table.spelled.count first last
ends_at kind object rows there first last highest has is whole at first_is last_is =
    let same : there ≡ has.there = there_is object there has.there is has.is in
    subst (λ n. AreEndsOfSome kind.rows n has.table.spelled.count first last) (ap (λ (o : Object). o.highest) (sym same) ∙ at)
    (ends_of_table kind object rows first last has (subst (λ (o : Object). HasWholeBlocks o.array) same whole) (subst (λ (o : Object). o.array 0 ≡ Some first) same first_is)
    (subst (λ (o : Object). o.array o.highest ≡ Some last) same (ap there.array at ∙ last_is)))

-- and with the number of rows that such a table has they are its end
pub end_is : (kind : TableKind) (object : Option Object) (rows : List ℕ) (there : Object) (end : TableEnd) (first last : List ℕ) (highest : ℕ) → HasTable kind object rows → object ≡ Some there
    → HasWholeBlocks there.array → there.highest ≡ highest → there.array 0 ≡ Some first → there.array highest ≡ Some last → end.first.items ≡ first → end.last.items ≡ last
    → ((count : ℕ) → AreEndsOfSome kind.rows highest count first last → end.rows ≡ count) → IsEndOf kind object rows end
end_is kind object rows there end first last highest has is whole at first_is last_is end_first end_last only =
    let same : there ≡ has.there = there_is object there has.there is has.is in
    let count : end.rows ≡ has.table.spelled.count = only has.table.spelled.count (ends_at kind object rows there first last highest has is whole at first_is last_is) in
    record {
      table = has;
      whole = subst (λ (o : Object). HasWholeBlocks o.array) same whole;
      count = has.table.spelled.are_rows ∙ ap (λ n. n * kind.rows.row_len) (sym count);
      first = subst (λ (o : Object). o.array 0 ≡ Some first) same first_is ∙ ap Some (sym end_first);
      last = subst (λ (o : Object). o.array o.highest ≡ Some last) same (ap there.array at ∙ last_is) ∙ ap Some (sym end_last);
    }

-- the two blocks, read behind the object's dnode
pub ends_read : (old mid : Store) (missing : List ℕ) (set : ObjectSet) (birth : ℕ) (kind : TableKind) (number highest id : ℕ) (first last : List ℕ) → IsObjectFound old.spaces set birth kind number highest
    → OnlyReadsBlocks old mid missing → id ≡ highest → IsDataFound mid.spaces set birth number 0 (Some first) → IsDataFound mid.spaces set birth number id (Some last)
    → AreEndsFound old.spaces set birth kind number highest first last
ends_read old mid missing set birth kind number highest id first last object reads at first_is last_is =
    let spaces = spaces_stay old mid missing reads in
    record {
      object = object;
      first_is = subst (λ (all : List VdevSpace). IsDataFound all set birth number 0 (Some first)) spaces first_is;
      last_is = subst (λ n. IsDataFound old.spaces set birth number n (Some last)) at
          (subst (λ (all : List VdevSpace). IsDataFound all set birth number id (Some last)) spaces last_is);
    }

-- or refused
pub ends_refused : (old mid new : Store) (missing : List ℕ) (set : ObjectSet) (birth : ℕ) (kind : TableKind) (number highest id : ℕ) (refusal : Refusal) → IsObjectFound old.spaces set birth kind number highest
    → OnlyReadsBlocks old mid missing → id ≡ highest → IsEndBlockRefused mid new missing set birth number id refusal → AreEndsRefused old new missing set birth kind number refusal
ends_refused old mid new missing set birth kind number highest id refusal object reads at why = record {
  highest = highest;
  object = object;
  mid = mid;
  before = reads;
  why = subst (λ n. IsEndBlockRefused mid new missing set birth number n refusal) at why;
}
