-- What a group makes of the records, the dead lists and the directory, as changes of objects.
use Rattle.std.proofs.Common.{◌≡◌, ◌≢◌, ◌⊎◌, Bool, true, false, inl, inr, ℕ, ◌≤◌, List, ◌∷◌, ◌++◌, Option, Some, None, All, refl, sym, ap, subst, ◌∙◌, arith}
use Rattle.std.proofs.lemmas.Bool.{cases_eq}
use Rattle.std.proofs.lemmas.List.Elements.{All-cons, All-contains, All-weaker}
use Rattle.block_pointer.specs.declared.block.Block.{Block}
use Rattle.block_store.specs.Blocks.{Contents, Extends}
use Rattle.dataset_groups.proofs.ChainStands.{leaves}
use Rattle.dataset_groups.proofs.ChainStaying.{chains_stay}
use Rattle.dataset_groups.specs.Chains.{Reading}
use Rattle.dataset_groups.specs.ChainStanding.{HasChains}
use Rattle.dataset_groups.specs.Over.{AreOver, IsForList, IsForRecord, IsListOver, IsRecordOver}
use Rattle.dataset_groups.specs.Results.{AreChangesOf, IsRecordChanged}
use Rattle.dataset_groups.specs.States.{AreOfOneSet, IsNumber, birth_of, list_at, record_at, set_of}
use Rattle.dataset_groups.specs.DatasetChanges.{DatasetChanges}
use Rattle.dataset_groups.specs.ListState.{ListState}
use Rattle.dataset_groups.specs.ListState.TheVariants as lists
use Rattle.dataset_groups.specs.RecordState.{RecordState}
use Rattle.dataset_groups.specs.RecordState.TheVariants as records
use Rattle.dataset_groups.specs.declared.datasets.GroupDatasets.{GroupDatasets}
use Rattle.dataset_groups.specs.Groups.{SpellsGroup}
use Rattle.dataset_groups.specs.Names.{reach_by}
use Rattle.dataset_groups.specs.Writing.{AreWritten}
use Rattle.dead_list.specs.Datasets.{Pool}
use Rattle.dnode.specs.declared.object_set.ObjectSet.{ObjectSet}
use Rattle.meta_objset.specs.declared.directory.DirectoryRow.{DirectoryRow}
use Rattle.meta_objset.specs.declared.stale_spans.StaleSpan.{StaleSpan}
use Rattle.meta_objset.specs.Directory.{rows_bytes}
use Rattle.meta_objset.specs.Reading.{HasDirectory, HasStaleSpans, directory_kind}
use Rattle.meta_objset.specs.StaleSpans.{spans_bytes, spans_kind}
use Rattle.object_table.specs.declared.kind.TableKind.{TableKind}
use Rattle.object_table.specs.Tables.{HasTable}
use Rattle.objset.proofs.Numbers.{changed_left, passed, taken}
use Rattle.objset.specs.declared.changes.Change.{Change}
use Rattle.objset.specs.declared.changes.ObjectChange.{ObjectChange}
use Rattle.objset.specs.Changes.{MayChange, after_change, changed}
use Rattle.objset.specs.Objects.{AreObjects, Object}
use Rattle.pool_model.specs.declared.item.Write.{Write}
use Rattle.pool_model.specs.Pools.{PlainPool, all_destroyed}
use Rattle.dataset_snapshots.specs.declared.groups.Opened.{Opened}
use Rattle.dataset_snapshots.specs.Creating.{LeavesSpans}
use Rattle.dataset_snapshots.specs.Demands.{AreSpanChanges, HasDatasetChanges, WritesRows}
use Rattle.dataset_snapshots.specs.Groups.{AreOfDatasets, IsOfDatasets, IsOpened, IsOpenedFrom, SpellsAfter}
use Rattle.dataset_snapshots.specs.Pools.{SpellsPool}
use Rattle.dataset_snapshots.proofs.ChangedRows.{all_from}
use Rattle.dataset_snapshots.proofs.OtherObjects.{IsNeither, StaysForChains, chains_over, neither_of_type}

-- ---- where more is known

pub group_stays : (stored planned : Contents) (group : ℕ) (objects : ℕ → Option Object) (datasets : GroupDatasets) (pool : Pool) (readings : ℕ → Reading) (plain : PlainPool)
    → Extends stored planned → SpellsGroup stored group objects datasets pool readings plain → SpellsGroup planned group objects datasets pool readings plain
group_stays stored planned group objects datasets pool readings plain more spells = record {
  chains = chains_stay.more stored planned group objects datasets.changes pool readings more spells.chains;
  names = spells.names;
  fresh = spells.fresh;
  unmixed = spells.unmixed;
}

-- changes of one set are over the same objects
pub objects_still : (stored : Contents) (old new : DatasetChanges) (objects : ℕ → Option Object) (own : List Block) (blocks : ℕ → List Block) → AreOfOneSet old new
    → AreObjects stored (birth_of old) (set_of old) objects own blocks → AreObjects stored (birth_of new) (set_of new) objects own blocks
objects_still stored old new objects own blocks one are =
    subst (λ (n : ℕ). AreObjects stored n (set_of new) objects own blocks) (sym one.1) (subst (λ (set : ObjectSet). AreObjects stored (birth_of old) set objects own blocks) (sym one.0) are)

-- a group that is opened begins with these datasets, and writes to these heads
pub begun : (stored planned : Contents) (birth group : ℕ) (root : Block) (plain : PlainPool) (is : SpellsPool stored birth root plain) (destroyed : List (List ℕ)) (writes : List Write) (opened : Opened)
    → Extends stored planned → IsOpened writes opened → (from : IsOpenedFrom stored group birth root plain is destroyed writes opened)
    → AreObjects stored (birth_of opened.datasets.changes) (set_of opened.datasets.changes) is.objects is.own is.blocks
    × SpellsGroup planned group is.objects opened.datasets from.datasets is.readings (all_destroyed destroyed plain)
    × AreWritten stored root.birth from.datasets is.readings opened.datasets.directory writes opened.written.items
begun stored planned birth group root plain is destroyed writes opened more opens from = (
  subst (λ (n : ℕ). AreObjects stored n (set_of opened.datasets.changes) is.objects is.own is.blocks) (sym from.born)
      (subst (λ (set : ObjectSet). AreObjects stored root.birth set is.objects is.own is.blocks) (sym (opens.of_set ∙ from.set)) is.are),
  group_stays stored planned group is.objects opened.datasets from.datasets is.readings (all_destroyed destroyed plain) more from.begins,
  from.written,
)

-- ---- of which objects they are

abbrev IsKept : Option Object → Type 0
IsKept object = (object ≡ None) ⊎ (IsForRecord object ⊎ IsForList object)

of_record : (object : Option Object) (state : Option RecordState) → IsRecordOver object state → state ≢ None → IsKept object
of_record object None over some = absurd (some refl)
of_record object (Some (records.Read r)) over some = inr (inl (over.there, over.is, over.of_record))
of_record object (Some (records.Changed r)) over some = inr (inl over)
of_record object (Some (records.Made r)) over some = inl over
of_record object (Some records.Gone) over some = inr (inl over)

of_list : (object : Option Object) (state : Option ListState) → IsListOver object state → state ≢ None → IsKept object
of_list object None over some = absurd (some refl)
of_list object (Some (lists.Added end blocks)) over some = let table = over.2.table in inr (inr (table.there, table.is, table.of_kind))
of_list object (Some (lists.Whole list)) over some = inr (inr over)
of_list object (Some (lists.Made list)) over some = inl over
of_list object (Some lists.Gone) over some = inr (inr over)

module _ (objects : ℕ → Option Object) (changes : DatasetChanges) (made : List ObjectChange) (are : AreChangesOf changes made) where
  -- all are behind the tables
  behind_tables : (number : ℕ) → number ≤ 4 → All (λ change. change.number ≢ number) made
  behind_tables number low =
      All-weaker (λ (change : ObjectChange). IsNumber change.number) (λ change. change.number ≢ number) (λ change is same. let above = is.0 in omega (arith, above, same, low)) made are.numbers

  tables_left : (number : ℕ) → number ≤ 4 → changed made objects number ≡ objects number
  tables_left number low = changed_left made objects number (behind_tables number low)

  one_of_datasets : AreOver objects changes → (number : ℕ) → IsRecordChanged (record_at changes number) ⊎ (list_at changes number ≢ None) → IsKept (objects number)
  one_of_datasets over number (inl recorded) = of_record (objects number) (record_at changes number) (over.records number) recorded.0
  one_of_datasets over number (inr listed) = of_list (objects number) (list_at changes number) (over.lists number) listed

  pub are_of_datasets : AreOver objects changes → AreOfDatasets objects made
  are_of_datasets over =
      all_from (λ (change : ObjectChange). IsOfDatasets change.number (objects change.number)) made
      (λ change held.
      let number = All-contains (λ (c : ObjectChange). IsNumber c.number) made change are.numbers held in
      let touched = All-contains (λ (c : ObjectChange). IsRecordChanged (record_at changes c.number) ⊎ (list_at changes c.number ≢ None)) made change are.touched held in
      inr (inr (number.0, one_of_datasets over change.number touched)))

-- ---- with the stale spans and the directory in front

-- an object of another table is no record and no dead list
neither : (kind : TableKind) (object : Option Object) (bytes : List ℕ) → kind.object_type ≢ 201 → kind.object_type ≢ 202 → HasTable kind object bytes → IsNeither object
neither kind object bytes one two table =
    neither_of_type object kind.object_type one two (λ there is.
    let same : there ≡ table.there = let e : Some there ≡ Some table.there = sym is ∙ table.is in cc in
    ap (λ (o : Object). o.object_type) same ∙ table.of_kind.0)

-- the changes make the pool after the group, and these rows name it
abbrev pub IsLeft : Contents → ℕ → (ℕ → Option Object) → GroupDatasets → Pool → Option (List StaleSpan) → PlainPool → List ObjectChange → Type 0
IsLeft known group objects datasets pool spans plain changes =
    (then : SpellsAfter known group objects changes spans plain) × (then.rows ≡ datasets.directory) × (reach_by then.datasets then.rows ≡ reach_by pool datasets.directory)
    × AreOfDatasets objects changes

-- the changes may be made, and are those of datasets, which they make chains of
record Stand (known : Contents) (group : ℕ) (objects : ℕ → Option Object) (pool : Pool) (readings : ℕ → Reading) (changes : List ObjectChange) : Type 0 where
  may : All (λ change. MayChange change.change (objects change.number)) changes
  chains : HasChains known group (changed changes objects) pool readings
  own : AreOfDatasets objects changes

module _ (objects : ℕ → Option Object) (number : ℕ) (change : Change) (changes : List ObjectChange) where
  abbrev in_front : List ObjectChange
  in_front = record { number = number; change = change } ∷ changes

  now_at : (there : Object) → objects number ≡ Some there → changed in_front objects number ≡ after_change change (Some there)
  now_at there is = taken number number (after_change change (objects number)) (changed changes objects number) refl ∙ ap (after_change change) is

  others_at : (other : ℕ) → other ≢ number → changed in_front objects other ≡ changed changes objects other
  others_at other differ = passed number other (after_change change (objects other)) (changed changes objects other) (λ same. differ (sym same))

  -- what is no record and no dead list then and now comes in front
  stand_behind : (known : Contents) (group : ℕ) (pool : Pool) (readings : ℕ → Reading) → Stand known group objects pool readings changes → MayChange change (objects number)
      → IsOfDatasets number (objects number) → IsNeither (changed changes objects number) → IsNeither (changed in_front objects number) → Stand known group objects pool readings in_front
  stand_behind known group pool readings stand may own before now =
      let stays : (other : ℕ) → StaysForChains (changed changes objects other) (changed in_front objects other) = λ other. elim (cases_eq other number) [
        | inl e ↦ subst (λ (n : ℕ). StaysForChains (changed changes objects n) (changed in_front objects n)) (sym e) (inr (before, now))
        | inr ne ↦ inl (others_at other ne)
      ] in record {
        may = All-cons (λ (c : ObjectChange). MayChange c.change (objects c.number)) (record { number = number; change = change }) changes may stand.may;
        chains = chains_over known group (changed changes objects) (changed in_front objects) pool readings stays stand.chains;
        own = All-cons (λ (c : ObjectChange). IsOfDatasets c.number (objects c.number)) (record { number = number; change = change }) changes own stand.own;
      }

module _ (known : Contents) (group : ℕ) (objects : ℕ → Option Object) (rows : List DirectoryRow) (stale : List StaleSpan) (datasets : GroupDatasets) (pool : Pool) (readings : ℕ → Reading)
    (plain : PlainPool) (directory : HasDirectory (objects 1) rows) (spans_before : HasStaleSpans (objects 3) stale) (spells : SpellsGroup known group objects datasets pool readings plain)
    (made : List ObjectChange) (are : AreChangesOf datasets.changes made) where
  left : (number : ℕ) → number ≤ 4 → changed made objects number ≡ objects number
  left number low = tables_left objects datasets.changes made are number low

  stand_alone : Stand known group objects pool readings made
  stand_alone = record {
    may = (are.over objects spells.chains.over).may;
    chains = leaves known group objects datasets.changes pool readings made spells.chains are;
    own = are_of_datasets objects datasets.changes made are spells.chains.over;
  }

  -- with those of the stale spans, which change nothing else
  abbrev AreSpansLeft : Option (List StaleSpan) → List ObjectChange → Type 0
  AreSpansLeft spans changes =
      Stand known group objects pool readings changes × LeavesSpans spans (objects 3) (changed changes objects 3)
      × ((number : ℕ) → number ≢ 3 → number ≤ 4 → changed changes objects number ≡ objects number)

  spans_left : (spans : Option (List StaleSpan)) (of_spans : List ObjectChange) → AreSpanChanges spans of_spans → AreSpansLeft spans (of_spans ++ made)
  spans_left None of_spans none =
      subst (λ (front : List ObjectChange). AreSpansLeft None (front ++ made)) (sym none) (stand_alone, left 3 (omega arith), λ number other low. left number low)
  spans_left (Some spans) of_spans (change, writes, is) =
      let there : Object = spans_before.1.there in
      let now = subst (λ (object : Option Object). HasStaleSpans object spans) (sym (now_at objects 3 change made there spans_before.1.is)) (writes there spans_before.1.of_kind).1 in
      let before = subst (λ (object : Option Object). HasStaleSpans object stale) (sym (left 3 (omega arith))) spans_before in
      subst (λ (front : List ObjectChange). AreSpansLeft (Some spans) (front ++ made)) (sym is) (
        stand_behind objects 3 change made known group pool readings stand_alone (subst (MayChange change) (sym spans_before.1.is) (writes there spans_before.1.of_kind).0) (inr (inl refl))
            (neither spans_kind (changed made objects 3) (spans_bytes stale) (omega arith) (omega arith) before.1)
            (neither spans_kind (changed (in_front objects 3 change made) objects 3) (spans_bytes spans) (omega arith) (omega arith) now.1),
        now,
        λ number other low. others_at objects 3 change made number other ∙ left number low,
      )

  module _ (spans : Option (List StaleSpan)) (changes : List ObjectChange) (with_spans : AreSpansLeft spans changes) where
    left_alone : datasets.directory ≡ rows → IsLeft known group objects datasets pool spans plain changes
    left_alone same = (
      record {
        rows = datasets.directory;
        directory = subst (λ (object : Option Object). HasDirectory object datasets.directory) (sym (with_spans.2 1 (omega arith) (omega arith))) (subst (HasDirectory (objects 1)) (sym same) directory);
        may = with_spans.0.may;
        tables = record { config = with_spans.2 2 (omega arith) (omega arith); stale = with_spans.1 };
        datasets = pool;
        readings = readings;
        chains = with_spans.0.chains;
        names = spells.names;
      },
      refl,
      refl,
      with_spans.0.own,
    )

    left_behind : (change : Change) → WritesRows datasets.directory change → IsLeft known group objects datasets pool spans plain (record { number = 1; change = change } ∷ changes)
    left_behind change writes =
        let there : Object = directory.1.there in
        let now = subst (λ (object : Option Object). HasDirectory object datasets.directory) (sym (now_at objects 1 change changes there directory.1.is)) (writes there directory.1.of_kind).1 in
        let before = subst (λ (object : Option Object). HasDirectory object rows) (sym (with_spans.2 1 (omega arith) (omega arith))) directory in
        let rest = others_at objects 1 change changes in
        let stand = stand_behind objects 1 change changes known group pool readings with_spans.0 (subst (MayChange change) (sym directory.1.is) (writes there directory.1.of_kind).0) (inl refl)
        (neither directory_kind (changed changes objects 1) (rows_bytes rows) (omega arith) (omega arith) before.1)
        (neither directory_kind (changed (in_front objects 1 change changes) objects 1) (rows_bytes datasets.directory) (omega arith) (omega arith) now.1) in (
          record {
            rows = datasets.directory;
            directory = now;
            may = stand.may;
            tables = record {
              config = rest 2 (omega arith) ∙ with_spans.2 2 (omega arith) (omega arith);
              stale = subst (LeavesSpans spans (objects 3)) (sym (rest 3 (omega arith))) with_spans.1;
            };
            datasets = pool;
            readings = readings;
            chains = stand.chains;
            names = spells.names;
          },
          refl,
          refl,
          stand.own,
        )

pub left_by : (known : Contents) (group : ℕ) (objects : ℕ → Option Object) (rows : List DirectoryRow) (stale : List StaleSpan) (datasets : GroupDatasets) (pool : Pool) (readings : ℕ → Reading)
    (plain : PlainPool) (renamed : Bool) (spans : Option (List StaleSpan)) (changes : List ObjectChange) → HasDirectory (objects 1) rows → HasStaleSpans (objects 3) stale
    → SpellsGroup known group objects datasets pool readings plain → (renamed ≡ false → datasets.directory ≡ rows) → HasDatasetChanges datasets renamed spans changes
    → IsLeft known group objects datasets pool spans plain changes
left_by known group objects rows stale datasets pool readings plain false spans changes directory before spells same (of_spans, spans_are, made, are, alone, behind) =
    subst (IsLeft known group objects datasets pool spans plain) (sym (alone refl))
    (left_alone known group objects rows stale datasets pool readings plain directory before spells made are spans (of_spans ++ made)
    (spans_left known group objects rows stale datasets pool readings plain directory before spells made are spans of_spans spans_are) (same refl))
left_by known group objects rows stale datasets pool readings plain true spans changes directory before spells same (of_spans, spans_are, made, are, alone, behind) =
    let with_first = behind refl in
    subst (IsLeft known group objects datasets pool spans plain) (sym with_first.2)
    (left_behind known group objects rows stale datasets pool readings plain directory before spells made are spans (of_spans ++ made)
    (spans_left known group objects rows stale datasets pool readings plain directory before spells made are spans of_spans spans_are) with_first.0 with_first.1)
