-- Datasets of which new ones take other numbers.
use Rattle.std.proofs.Common.{[], ◌≡◌, ◌<◌, ◌≤◌, ℕ, List, Option, Some, None, inl, inr, sym, ap, subst, ◌∙◌, arith}
use Rattle.block_pointer.specs.declared.block.Block.{Block}
use Rattle.block_store.specs.Blocks.{Contents}
use Rattle.block_store.specs.Spaces.{VdevSpace}
use Rattle.block_store.specs.Steps.{AnswersTell}
use Rattle.block_store.specs.Store.{Holds, Store}
use Rattle.dataset_groups.specs.Chains.{Reading, SpellsChains}
use Rattle.dataset_groups.specs.ChainTouched.{IsAtMostRead, TouchesOnly}
use Rattle.dataset_groups.specs.Over.{AreOver, IsRecordOver}
use Rattle.dataset_groups.specs.Results.{AreMixed}
use Rattle.dataset_groups.specs.States.{AreOfOneSet, list_at, record_at}
use Rattle.dataset_groups.specs.DatasetChanges.{DatasetChanges}
use Rattle.dataset_groups.specs.RecordState.{RecordState}
use Rattle.dataset_groups.specs.declared.datasets.GroupDatasets.{GroupDatasets}
use Rattle.dataset_groups.specs.Groups.{IsFresh, SpellsGroup}
use Rattle.dataset_groups.specs.declared.datasets.NumberBounds.{NumberBounds}
use Rattle.dataset_groups.specs.Names.{NamesPool}
use Rattle.dead_list.specs.Datasets.{Pool}
use Rattle.dnode.specs.declared.object_set.ObjectSet.{ObjectSet}
use Rattle.meta_objset.specs.declared.directory.DirectoryRow.{DirectoryRow}
use Rattle.objset.specs.Objects.{AreObjects, Object}
use Rattle.pool_model.specs.declared.item.Write.{Write}
use Rattle.pool_model.specs.Pools.{PlainPool}
use Rattle.dataset_snapshots.specs.declared.groups.Begun.{Begun}
use Rattle.dataset_snapshots.specs.Groups.{AreNumbersBehind, HasNumbers, HasRoomFor, IsBegunFrom}
use Rattle.dataset_snapshots.specs.Numbering.{AreUnused}
use Rattle.dataset_snapshots.specs.Opening.{AreBegun, IsBegunFound}
use Rattle.dataset_snapshots.specs.Pools.{SpellsPool}
use Rattle.dataset_snapshots.specs.Writing.{IsNone}

pub has_numbers : (set : ObjectSet) (datasets : GroupDatasets) → AreNumbersBehind set datasets → HasNumbers set datasets
has_numbers set datasets are = record { low = (let next = are.next in omega (arith, next)); behind = are.behind; which = inl are }

-- the datasets of what was begun, with others
abbrev pub numbered : Begun → GroupDatasets → Begun
numbered begun datasets = record { set = begun.set; datasets = datasets; written = begun.written }

-- ---- where records were read at most

-- the record of no object wasn't read
unread : (object : Option Object) (state : Option RecordState) → IsAtMostRead None state → IsRecordOver object state → object ≡ None → state ≡ None
unread object state (inl same) over none = same
unread object state (inr (was, (r, is))) over none =
    let has = subst (IsRecordOver object) is over in
    let clash : Some has.there ≡ None = sym has.is ∙ none in
    absurd cc

module _ (set : ObjectSet) (rows : List DirectoryRow) (datasets : GroupDatasets) (begun : AreBegun set rows datasets) where
  no_list : (number : ℕ) → list_at datasets.changes number ≡ None
  no_list number = elim (begun.read.lists number) [
    | inl same ↦ same ∙ (begun.untouched number).1
    | inr none ↦ absurd none
  ]

  no_record : (objects : ℕ → Option Object) → AreOver objects datasets.changes → (number : ℕ) → objects number ≡ None → record_at datasets.changes number ≡ None
  no_record objects over number none = elim (begun.read.records number) [
    | inl read ↦
        unread (objects number) (record_at datasets.changes number)
        (subst (λ (before : Option RecordState). IsAtMostRead before (record_at datasets.changes number)) (begun.untouched number).0 read) (over.records number) none
    | inr touched ↦ absurd touched
  ]

  pub fresh_here : (objects : ℕ → Option Object) → AreOver objects datasets.changes → (number : ℕ) → objects number ≡ None → IsFresh objects datasets.changes number
  fresh_here objects over number none = record { no_object = none; no_record = no_record objects over number none; no_list = no_list number }

-- ---- with other numbers

module _ (set : ObjectSet) (rows : List DirectoryRow) (old new : GroupDatasets) (begun : AreBegun set rows old) (directory : new.directory ≡ old.directory) (changes : new.changes ≡ old.changes)
    (numbers : HasNumbers set new) where
  begun_so : AreBegun set rows new
  begun_so = record {
    fresh = begun.fresh;
    untouched = begun.untouched;
    of_set = begun.of_set;
    one_set = subst (AreOfOneSet begun.fresh) (sym changes) begun.one_set;
    read = subst (λ (cs : DatasetChanges). TouchesOnly begun.fresh cs IsNone IsNone) (sym changes) begun.read;
    directory = directory ∙ begun.directory;
    numbers = numbers;
  }

  -- where no object has these numbers the group begins with the same datasets
  pub spells_so : (known : Contents) (group : ℕ) (objects : ℕ → Option Object) (pool : Pool) (readings : ℕ → Reading) (plain : PlainPool) → old.bounds.behind ≡ new.bounds.behind
      → old.next ≤ old.bounds.behind → ((number : ℕ) → new.next ≤ number → number < new.bounds.end → objects number ≡ None) → SpellsGroup known group objects old pool readings plain
      → SpellsGroup known group objects new pool readings plain
  spells_so known group objects pool readings plain same low unused spells = record {
    chains = subst (λ (cs : DatasetChanges). SpellsChains known group objects cs pool readings) (sym changes) spells.chains;
    names = subst (λ (list : List DirectoryRow). NamesPool pool readings list plain) (sym directory) spells.names;
    fresh = λ number from within. subst (λ (cs : DatasetChanges). IsFresh objects cs number) (sym changes) (elim within [
      | inl before ↦ fresh_here set rows old begun objects spells.chains.over number (unused number from before)
      | inr behind ↦ spells.fresh number (omega (arith, same, low, behind)) (inr (omega (arith, same, behind)))
    ]);
    unmixed = subst (λ (cs : DatasetChanges). ¬ AreMixed cs) (sym changes) spells.unmixed;
  }

pub found_so : (spaces : List VdevSpace) (birth : ℕ) (root : Block) (rows : List DirectoryRow) (destroyed : List (List ℕ)) (writes : List Write) (begun : Begun) (new : GroupDatasets)
    → new.directory ≡ begun.datasets.directory → new.changes ≡ begun.datasets.changes → HasNumbers begun.set new → IsBegunFound spaces birth root rows destroyed writes begun
    → IsBegunFound spaces birth root rows destroyed writes (numbered begun new)
found_so spaces birth root rows destroyed writes begun new directory changes numbers found = record {
  meta = found.meta;
  which = found.which;
  each = found.each;
  begins = begun_so begun.set rows begun.datasets new found.begins directory changes numbers;
}

module _ (first mid : Store) (birth : ℕ) (root : Block) (rows : List DirectoryRow) (destroyed : List (List ℕ)) (writes : List Write) (begun : Begun) (new : GroupDatasets)
    (begins : AreBegun begun.set rows begun.datasets) (behind : AreNumbersBehind begun.set begun.datasets) (directory : new.directory ≡ begun.datasets.directory)
    (changes : new.changes ≡ begun.datasets.changes) (numbers : HasNumbers begun.set new) (unused : AreUnused first mid begun.set root.birth new.next new.bounds.end) where
  pub from_so : (stored : Contents) (pool : PlainPool) (is : SpellsPool stored birth root pool) → Holds first stored → AnswersTell first mid []
      → IsBegunFrom stored birth root pool is destroyed writes begun → IsBegunFrom stored birth root pool is destroyed writes (numbered begun new)
  from_so stored pool is held tell from =
      let are = subst (λ (s : ObjectSet). AreObjects stored root.birth s is.objects is.own is.blocks) (sym from.set) is.are in
      record {
        set = from.set;
        born = ap (λ (cs : DatasetChanges). cs.birth) changes ∙ from.born;
        directory = directory ∙ from.directory;
        begins = λ group le.
            spells_so begun.set rows begun.datasets new begins directory changes numbers stored group is.objects (record is.datasets { group = group }) is.readings pool
            (behind.behind ∙ sym numbers.behind) (let next = behind.next in let first = behind.behind in omega (arith, next, first))
            (unused stored is.objects is.own is.blocks held are tell) (from.begins group le);
        written = from.written;
      }

-- what is destroyed leaves the numbers
pub numbers_left : (set : ObjectSet) (old new : GroupDatasets) → new.next ≡ old.next → new.bounds ≡ old.bounds → HasNumbers set old → HasNumbers set new
numbers_left set old new next bounds has =
    let end = ap (λ (b : NumberBounds). b.end) bounds in
    let behind = ap (λ (b : NumberBounds). b.behind) bounds in
    let low = has.low in
    record {
      low = omega (arith, low, next);
      behind = behind ∙ has.behind;
      which = elim has.which [
        | inl are ↦ inl (record { next = next ∙ are.next; end = end ∙ are.end; behind = behind ∙ are.behind })
        | inr before ↦ let first = before.0 in let last = before.1 in inr (omega (arith, first, next, end), omega (arith, last, end))
      ];
    }

pub room_left : (old new : GroupDatasets) (count : ℕ) → new.next ≡ old.next → new.bounds ≡ old.bounds → HasRoomFor old count → HasRoomFor new count
room_left old new count next bounds has =
    let end = ap (λ (b : NumberBounds). b.end) bounds in elim has [
      | inl behind ↦ inl (end ∙ behind)
      | inr room ↦ inr (omega (arith, room, next, end))
    ]
