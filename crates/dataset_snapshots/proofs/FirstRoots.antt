-- The first root of a pool, from the volumes that are made and the tables.
use Rattle.std.proofs.Common.{◌≡◌, ◌≢◌, ◌⊎◌, inl, inr, ℕ, ◌+◌, ◌*◌, ◌^◌, ◌<◌, ◌≤◌, List, [], ◌∷◌, ◌++◌, length, Option, Some, None, All, AllPairs, refl, sym, ap, ◌∙◌, subst, arith}
use Rattle.std.specs.Prelude.{fold}
use Rattle.std.proofs.lemmas.Bool.{cases_lt}
use Rattle.std.proofs.lemmas.List.Kept.{AllPairs-cons}
use Rattle.std.proofs.lemmas.List.Elements.{All-append, All-cons, All-contains, All-weaker}
use Rattle.block_pointer.specs.declared.block.Block.{Block}
use Rattle.block_store.proofs.Demands.{have_both}
use Rattle.block_store.specs.declared.refusal.Refusal.{Refusal}
use Rattle.block_store.specs.declared.refusal.Refusal.TheVariants.{NoMemory, BadPointer, DiskFault}
use Rattle.block_store.specs.Blocks.{Contents, Extends}
use Rattle.block_store.specs.Demands.{HavePlaces}
use Rattle.block_store.specs.Places.{shapes_of}
use Rattle.block_store.specs.Steps.{OnlyReadsAndPlans, OnlyReadsBlocks}
use Rattle.block_store.specs.Store.{Store}
use Rattle.dataset_groups.specs.Chains.{Reading}
use Rattle.dataset_groups.specs.ChainStanding.{HasChains}
use Rattle.dataset_groups.specs.States.{AreOfOneSet, AreUntouched, birth_of, set_of}
use Rattle.dataset_groups.specs.DatasetChanges.{DatasetChanges}
use Rattle.dataset_groups.specs.declared.datasets.GroupDatasets.{GroupDatasets}
use Rattle.dataset_groups.specs.Demands.{AreMade, HasMoreRows, IsActionRefused, MakesAll}
use Rattle.dataset_groups.specs.Groups.{SpellsGroup}
use Rattle.dataset_groups.specs.Leaving.{IsReachExchanged}
use Rattle.dataset_groups.specs.Names.{NamesPool}
use Rattle.dataset_groups.specs.NewVolumes.{numbers_end}
use Rattle.dataset_groups.specs.Touched.{TouchesMade}
use Rattle.dead_list.specs.Datasets.{Free, Pool, Snapshot}
use Rattle.dead_list.specs.Datasets.{nothing as no_dataset}
use Rattle.dead_list.specs.Sound.{Fits, IsSound}
use Rattle.dnode.specs.declared.object_set.ObjectSet.{ObjectSet}
use Rattle.dnode.specs.declared.object_set.ObjectSetKind.TheVariants as sets
use Rattle.dnode_tree.proofs.Exchanging.{count_by-append}
use Rattle.dnode_tree.specs.Writes.{IsForRoom}
use Rattle.meta_objset.specs.declared.directory.DirectoryRow.{DirectoryRow}
use Rattle.meta_objset.specs.declared.stale_spans.StaleSpan.{StaleSpan}
use Rattle.object_table.specs.declared.kind.TableKind.{TableKind}
use Rattle.object_table.specs.Tables.{HasTable}
use Rattle.objset.proofs.Numbers.{changed_left}
use Rattle.objset.specs.declared.changes.Change.{Change}
use Rattle.objset.specs.declared.changes.ObjectChange.{ObjectChange}
use Rattle.objset.specs.Changes.{MayChange, after_change, changed, copies_of}
use Rattle.objset.specs.Objects.{AreObjects, Object}
use Rattle.objset.specs.Within.{blocks_of_set}
use Rattle.pool_maps.specs.Plans.{AreSparing, OthersStay}
use Rattle.pool_maps.specs.Refused.{AreFirstRefused}
use Rattle.pool_model.specs.declared.item.Action.{Action}
use Rattle.pool_model.specs.declared.item.Write.{Write}
use Rattle.pool_model.specs.Pools.{Entry, PlainPool, applied, no_volumes, written}
use Rattle.pool_model.specs.Pools.{changed as pool_changed}
use Rattle.raidz_io.proofs.Written.{same_some}
use Rattle.vdev_label.specs.Plain.{PlainVdev}
use Rattle.volume.proofs.Made.{no_objects}
use Rattle.dataset_snapshots.specs.Demands.{AreMisnumbered, HasRootPlaces, IsRootRefused}
use Rattle.dataset_snapshots.specs.FirstGroup.{AreFirstActionsRefused, AreFirstGroupChanges, AreFirstPlaced, AreFirstVolumes, AreTableChanges, AreWithFirstMaps, HasFirstPlaces, IsFirstRefused, IsWithTables, empty_meta}
use Rattle.dataset_groups.proofs.Asking.{all_demands_in}
use Rattle.dataset_snapshots.proofs.BelowNext.{not_misnumbered}
use Rattle.dataset_snapshots.proofs.ChangedRows.{changed_or_not, nothing_in}
use Rattle.dataset_groups.proofs.Exchanges.{both_given, given_as}
use Rattle.dataset_snapshots.proofs.MoreChanges.{changed_behind, changed_front, may_make}
use Rattle.dataset_snapshots.proofs.OtherObjects.{IsNeither, StaysForChains, neither_of_none, neither_of_type}

abbrev pub nothing : ℕ → Option Object
nothing number = None

none_in : {X : Type 0} (P : X → Type 0) → All P []
none_in P k other within = absurd (omega (arith, within))

-- ---- nothing is made yet

-- where there are no volumes writes do nothing
pub nothing_written : (writes : List Write) → fold written no_volumes writes ≡ no_volumes
nothing_written [] = refl
nothing_written (write ∷ writes) = nothing_written writes

pub pool_first : (group : ℕ) (items : Entry) (actions : List Action) → actions ≡ items.actions
    → fold (λ p a. pool_changed group p a.change) no_volumes actions ≡ applied group no_volumes items
pool_first group items actions same =
    ap (fold (λ p a. pool_changed group p a.change) no_volumes) same ∙ ap (λ p. fold (λ p a. pool_changed group p a.change) p items.actions) (sym (nothing_written items.writes))

-- a pool of datasets without any
abbrev pub no_datasets : ℕ → Pool
no_datasets group = record { group = group; datasets = λ number. no_dataset; next = λ number. 0 }

abbrev pub no_readings : ℕ → Reading
no_readings number = record { array = []; block_size = 0 }

fits_none : (group : ℕ) → Fits group no_dataset no_dataset
fits_none group = record {
  made = omega arith;
  past = omega arith;
  born = λ block held. absurd (nothing_in block held);
  once = λ i j d before within. absurd (omega (arith, within));
  shared = λ block held early. absurd (nothing_in block held);
  dead = record {
    each = λ block held. absurd (nothing_in block held);
    from = λ block held. absurd (nothing_in block held);
    once = λ i j d before within. absurd (omega (arith, within));
  };
}

sound_none : (group : ℕ) → IsSound (no_datasets group)
sound_none group = record {
  none = refl;
  rank = λ m. 0;
  linked = λ m. inl refl;
  fits = λ m. fits_none group;
  one = λ m n block first second. absurd (nothing_in block first.0);
  followed = λ m kind. let wrong : Free ≡ Snapshot = kind in absurd cc;
}

-- they are those of no objects
pub chains_none : (stored : Contents) (group : ℕ) → HasChains stored group nothing (no_datasets group) no_readings
chains_none stored group = record {
  sound = sound_none group;
  now = refl;
  each = λ m some. absurd (some refl);
  none = λ m free. record { is = refl; none = λ r has. let clash : None ≡ Some has.there = has.is in absurd cc };
  apart = λ m k r s one two same. let clash : None ≡ Some one.there = one.is in absurd cc;
}

-- and no rows name them
pub names_none : (group : ℕ) (rows : List DirectoryRow) → rows ≡ [] → NamesPool (no_datasets group) no_readings rows no_volumes
names_none group rows none =
    subst (λ (these : List DirectoryRow). NamesPool (no_datasets group) no_readings these no_volumes) (sym none)
    (record {
      numbers = record { each = λ m some. absurd (some refl); once = λ i j d before within. absurd (omega (arith, within)) };
      volumes = tt;
      chains = record {
        chains = λ number name next kind called later. let wrong : Free ≡ Snapshot = kind in absurd cc;
        branches = λ number name origin off called before. absurd (off.0 refl);
        clones = λ volume origin held is. absurd (omega (arith, held.1));
      };
    })

-- the changes of none are over no objects
pub first_objects : (stored : Contents) (changes : DatasetChanges) → set_of changes ≡ empty_meta → AreObjects stored (birth_of changes) (set_of changes) nothing [] (λ number. [])
first_objects stored changes of_set = no_objects stored (birth_of changes) (set_of changes) (ap (λ (set : ObjectSet). set.dnodes.pointer) of_set)

-- what was made of none
module _ (old new : Store) (group : ℕ) (actions : List Action) (before : GroupDatasets) (no_rows : before.directory ≡ []) (next_is : before.next ≡ 5) (none : AreUntouched before.changes) where
  pub first_are : (datasets : GroupDatasets) → set_of before.changes ≡ empty_meta → AreOfOneSet before.changes datasets.changes → MakesAll old new group before datasets actions
      → AreFirstVolumes old new group actions datasets
  first_are datasets of_set one_set made = record {
    made = made.made;
    are = subst (λ (rows : List DirectoryRow). AreMade rows [] actions made.made) no_rows made.are;
    count = (let no_names = ap (λ (rows : List DirectoryRow). length rows) no_rows in omega (arith, made.names.rows, no_names));
    next = omega (arith, made.names.next, next_is);
    datasets_are = record {
      of_set = one_set.0 ∙ of_set;
      before = before.changes;
      none = none;
      rows = datasets.directory;
      kept = subst (λ (rows : List DirectoryRow). HasMoreRows rows 5 datasets.directory) no_rows (subst (λ n. HasMoreRows before.directory n datasets.directory) next_is made.names.kept);
      touched = subst (λ n. TouchesMade before.changes datasets.changes datasets.directory n made.made) next_is made.touched;
    };
    places = made.places;
  }

  -- or an action was refused
  pub first_actions_refused : (refusal : Refusal) → before.bounds.end ≡ numbers_end → (refusal ≡ NoMemory) ⊎ IsActionRefused old new before.changes group before.directory before.next before.bounds.end actions refusal
      → (refusal ≡ NoMemory) ⊎ AreFirstActionsRefused old new group actions refusal
  first_actions_refused refusal end_is (inl memory) = inl memory
  first_actions_refused refusal end_is (inr why) =
      inr (
        before.changes,
        none,
        subst (λ (rows : List DirectoryRow). IsActionRefused old new before.changes group rows 5 numbers_end actions refusal) no_rows
            (subst (λ n. IsActionRefused old new before.changes group before.directory n numbers_end actions refusal) next_is
            (subst (λ end. IsActionRefused old new before.changes group before.directory before.next end actions refusal) end_is why)),
      )

-- ---- the tables

abbrev Comes : ObjectChange → ObjectChange → Type 0
Comes change later = change.number < later.number

abbrev one : ℕ → Change → ObjectChange
one number change = record { number = number; change = change }

module _ (vdevs : List PlainVdev) (stale : List StaleSpan) (rows : List DirectoryRow) (tables : List ObjectChange) (are : AreTableChanges vdevs stale rows tables) where
  each_table : (P : ObjectChange → Type 0) → P (one 1 are.directory) → P (one 2 are.config) → P (one 3 are.spans) → All P tables
  each_table P first second third =
      subst (All P) (sym are.are)
      (All-cons P (one 1 are.directory) (one 2 are.config ∷ one 3 are.spans ∷ []) first
      (All-cons P (one 2 are.config) (one 3 are.spans ∷ []) second (All-cons P (one 3 are.spans) [] third (none_in P))))

  -- they may be made where there is nothing
  tables_may : All (λ change. MayChange change.change (nothing change.number)) tables
  tables_may =
      each_table (λ change. MayChange change.change (nothing change.number))
      (may_make are.directory are.has_directory.1.there are.has_directory.1.is)
      (may_make are.config are.has_config.1.there are.has_config.1.is)
      (may_make are.spans are.has_spans.1.there are.has_spans.1.is)

  tables_low : All (λ change. (0 < change.number) × (change.number ≤ 3)) tables
  tables_low = each_table (λ change. (0 < change.number) × (change.number ≤ 3)) (omega arith, omega arith) (omega arith, omega arith) (omega arith, omega arith)

  -- they stand in order in front of others
  pub in_front : (others : List ObjectChange) → All (λ change. (4 < change.number)) others → AllPairs (λ change later. change.number < later.number) others
      → AllPairs (λ change later. change.number < later.number) (tables ++ others)
  in_front others high order =
      let first = one 1 are.directory in
      let second = one 2 are.config in
      let third = one 3 are.spans in
      let behind : (n : ℕ) → n ≤ 4 → All (λ (later : ObjectChange). n < later.number) others = λ n low.
      All-weaker (λ (change : ObjectChange). 4 < change.number) (λ change. n < change.number) (λ change high. omega (arith, high, low)) others high in
      let three = AllPairs-cons Comes third others (behind 3 (omega arith)) order in
      let two = AllPairs-cons Comes second (third ∷ others) (All-cons (λ (later : ObjectChange). 2 < later.number) third others (omega arith) (behind 2 (omega arith))) three in
      let all = AllPairs-cons Comes first (second ∷ third ∷ others)
      (All-cons (λ (later : ObjectChange). 1 < later.number) second (third ∷ others) (omega arith)
      (All-cons (λ (later : ObjectChange). 1 < later.number) third others (omega arith) (behind 1 (omega arith)))) two in
      subst (λ (front : List ObjectChange). AllPairs Comes (front ++ others)) (sym are.are) all

-- ---- the tables and the objects of the datasets

-- an object of another table has no record and no dead list
pub neither_of_table : (kind : TableKind) (object : Option Object) (bytes : List ℕ) → kind.object_type ≢ 201 → kind.object_type ≢ 202 → HasTable kind object bytes → IsNeither object
neither_of_table kind object bytes one two table =
    neither_of_type object kind.object_type one two (λ there is. ap (λ (o : Object). o.object_type) (same_some there table.there (sym is ∙ table.is)) ∙ table.of_kind.0)

module _ (vdevs : List PlainVdev) (stale : List StaleSpan) (datasets : GroupDatasets) (changes : List ObjectChange) (all : IsWithTables vdevs stale datasets changes) where
  -- the changes may be made of nothing
  pub first_may : (stored : Contents) (group : ℕ) (pool : Pool) (readings : ℕ → Reading) (plain : PlainPool) → SpellsGroup stored group nothing datasets pool readings plain
      → All (λ change. MayChange change.change (nothing change.number)) changes
  first_may stored group pool readings plain spells =
      subst (All (λ (change : ObjectChange). MayChange change.change (nothing change.number))) (sym all.4)
      (All-append (λ (change : ObjectChange). MayChange change.change (nothing change.number)) all.0 all.1 (tables_may vdevs stale datasets.directory all.0 all.2)
      (all.3.over nothing spells.chains.over).may)

  of_datasets_apart : (number : ℕ) → number ≤ 4 → All (λ change. change.number ≢ number) all.1
  of_datasets_apart number low =
      All-weaker (λ (change : ObjectChange). (4 < change.number) × (change.number < 32 * 128 ^ 5)) (λ change. change.number ≢ number) (λ change high is. omega (arith, high.0, is, low)) all.1 all.3.numbers

  of_tables_apart : (number : ℕ) → 3 < number → All (λ change. change.number ≢ number) all.0
  of_tables_apart number high =
      All-weaker (λ (change : ObjectChange). (0 < change.number) × (change.number ≤ 3)) (λ change. change.number ≢ number) (λ change low is. omega (arith, low.1, is, high)) all.0
      (tables_low vdevs stale datasets.directory all.0 all.2)

  -- none is of the space maps' table
  pub lacks_maps : All (λ change. change.number ≢ 4) changes
  lacks_maps =
      subst (All (λ (change : ObjectChange). change.number ≢ 4)) (sym all.4)
      (All-append (λ (change : ObjectChange). change.number ≢ 4) all.0 all.1 (of_tables_apart 4 (omega arith)) (of_datasets_apart 4 (omega arith)))

  -- each object is that of a table or of a dataset
  table_is : (number : ℕ) → number ≤ 4 → changed changes nothing number ≡ changed all.0 nothing number
  table_is number low =
      ap (λ (cs : List ObjectChange). changed cs nothing number) all.4 ∙ changed_front all.0 all.1 nothing number (of_datasets_apart number low)

  dataset_is : (number : ℕ) → 3 < number → changed changes nothing number ≡ changed all.1 nothing number
  dataset_is number high =
      ap (λ (cs : List ObjectChange). changed cs nothing number) all.4 ∙ changed_behind all.0 all.1 nothing number (of_tables_apart number high)

  pub table_has : (Has : Option Object → Type 0) (number : ℕ) → number ≤ 4
      → Has (changed (one 1 all.2.directory ∷ one 2 all.2.config ∷ one 3 all.2.spans ∷ []) nothing number) → Has (changed changes nothing number)
  table_has Has number low has =
      subst Has (sym (table_is number low ∙ ap (λ (cs : List ObjectChange). changed cs nothing number) all.2.are)) has

  tables_neither : (number : ℕ) → IsNeither (changed all.0 nothing number)
  tables_neither number = elim (changed_or_not all.0 nothing number) [
    | inl none ↦ neither_of_none (changed all.0 nothing number) none.1
    | inr (change, held, at, now) ↦ subst IsNeither (sym now)
        (All-contains (λ (c : ObjectChange). IsNeither (after_change c.change None)) all.0 change
        (each_table vdevs stale datasets.directory all.0 all.2 (λ (c : ObjectChange). IsNeither (after_change c.change None))
        (neither_of_table _ _ _ (omega arith) (omega arith) all.2.has_directory.1)
        (neither_of_table _ _ _ (omega arith) (omega arith) all.2.has_config.1)
        (neither_of_table _ _ _ (omega arith) (omega arith) all.2.has_spans.1))
        held)
  ]

  -- no table is a record or a dead list
  pub tables_stay : (number : ℕ) → StaysForChains (changed all.1 nothing number) (changed changes nothing number)
  tables_stay number = elim (cases_lt 3 number) [
    | inl high ↦ inl (dataset_is number high)
    | inr low ↦ inr (
      neither_of_none (changed all.1 nothing number) (changed_left all.1 nothing number (of_datasets_apart number (omega (arith, low)))),
      subst IsNeither (sym (table_is number (omega (arith, low)))) (tables_neither number),
    )
  ]

-- ---- what is planned

-- the volumes' blocks first, and then the root with those of the set: nothing else is new, and nothing gave way
pub first_given : (planned mid later : Contents) (group : ℕ) (root : Block) (new_volumes new_set gone : List Block) → Extends planned mid → Extends mid later
    → IsReachExchanged group planned mid [] new_volumes []
    → IsReachExchanged group mid later (blocks_of_set empty_meta [] (λ number. [])) (root ∷ new_set) gone
    → IsReachExchanged group planned later [] (root ∷ new_set ++ new_volumes) []
first_given planned mid later group root new_volumes new_set gone first last one two =
    given_as group planned later ([] ++ blocks_of_set empty_meta [] (λ number. [])) (new_volumes ++ root ∷ new_set) ([] ++ gone) [] (root ∷ new_set ++ new_volumes) [] [] []
    (both_given group planned mid later [] new_volumes [] (blocks_of_set empty_meta [] (λ number. [])) (root ∷ new_set) gone first last one two)
    (λ test. omega arith)
    (λ test. omega (arith, count_by-append test new_volumes (root ∷ new_set), count_by-append test (root ∷ new_set) new_volumes))
    (λ test. omega (arith, two.before_are test))

-- ---- places and refusals

group_changes : (old mid : Store) (group : ℕ) (vdevs : List PlainVdev) (stale : List StaleSpan) (datasets : GroupDatasets) (actions : List Action) (changes : List ObjectChange)
    → (volumes : AreFirstVolumes old mid group actions datasets) → IsWithTables vdevs stale datasets changes → AreFirstGroupChanges vdevs stale volumes.made changes
group_changes old mid group vdevs stale datasets actions changes volumes all = record {
  rows = datasets.directory;
  count = volumes.count;
  tables = all.0;
  tables_are = all.2;
  datasets = datasets.changes;
  datasets_are = volumes.datasets_are;
  of_datasets = all.1;
  of_datasets_are = all.3;
  are = all.4;
}

module _ (old mid : Store) (group : ℕ) (vdevs : List PlainVdev) (stale : List StaleSpan) (items : Entry) (datasets : GroupDatasets) (changes : List ObjectChange) (next : ℕ) (steps : OnlyReadsAndPlans old mid [])
    (volumes : AreFirstVolumes old mid group items.actions datasets) (all : IsWithTables vdevs stale datasets changes) (next_is : next ≡ datasets.next) where
  placed_first : AreFirstPlaced old mid group vdevs stale items.actions changes next
  placed_first = record {
    made = volumes.made;
    made_are = volumes.are;
    before = steps;
    places = volumes.places;
    changes_are = group_changes old mid group vdevs stale datasets items.actions changes volumes all;
    next_is = next_is ∙ volumes.next;
  }

  pub first_has : (planned new : Store) (whole : List ObjectChange) → OnlyReadsBlocks mid planned [] → OthersStay [] next changes whole × AreSparing mid.spaces [] [] next changes whole
      → HasRootPlaces planned new empty_meta group whole → HasFirstPlaces old new group vdevs stale items
  first_has planned new whole reads (others, sparing) (of_root, root_asks, root_has) =
      let spaces_are : planned.spaces ≡ mid.spaces = ap (λ (s : Store). s.spaces) reads.rest in
      let numbered : next ≡ 5 + 2 * length volumes.made = next_is ∙ volumes.next in
      record {
        made = volumes.made;
        made_are = volumes.are;
        of_made = volumes.places.0;
        made_ask = volumes.places.1;
        changes = changes;
        changes_are = group_changes old mid group vdevs stale datasets items.actions changes volumes all;
        mid = mid.spaces;
        volumes = volumes.places.2;
        all = whole;
        with_maps = subst (λ n. AreWithFirstMaps mid.spaces n changes whole) numbered (record { others = others; sparing = sparing });
        of_root = of_root;
        root_asks = record {
          of_objects = root_asks.of_objects;
          are = all_demands_in old.spaces planned.spaces (ap shapes_of spaces_are ∙ steps.shapes) empty_meta group (copies_of sets.Meta) whole root_asks.of_objects root_asks.are;
          is = root_asks.is;
        };
        places = have_both old.spaces mid.spaces new.spaces volumes.places.0 of_root volumes.places.2 (subst (λ spaces. HavePlaces spaces of_root new.spaces) spaces_are root_has);
      }

  pub first_maps_refused : (new : Store) (refusal : Refusal) → (refusal ≡ NoMemory) ⊎ AreFirstRefused mid new changes next refusal → IsFirstRefused old new group vdevs stale items refusal
  first_maps_refused new refusal (inl memory) = inl memory
  first_maps_refused new refusal (inr why) = inr (inr (inr (inl (record { mid = mid; changes = changes; next = next; volumes = placed_first; why = why }))))

  pub first_set_refused : (planned new : Store) (whole : List ObjectChange) (refusal : Refusal) → OnlyReadsBlocks mid planned []
      → OthersStay [] next changes whole × AreSparing mid.spaces [] [] next changes whole → IsRootRefused planned new empty_meta group group whole refusal
      → IsFirstRefused old new group vdevs stale items refusal
  first_set_refused planned new whole refusal reads (others, sparing) why =
      inr (inr (inr (inr (record {
        mid = mid;
        changes = changes;
        next = next;
        volumes = placed_first;
        planned = planned;
        reads = reads;
        all = whole;
        with_maps = record { others = others; sparing = sparing };
        why = why;
      }))))

pub first_volumes_refused : (old new : Store) (group : ℕ) (vdevs : List PlainVdev) (stale : List StaleSpan) (items : Entry) (actions : List Action) (refusal : Refusal) → actions ≡ items.actions
    → (refusal ≡ NoMemory) ⊎ AreFirstActionsRefused old new group actions refusal → IsFirstRefused old new group vdevs stale items refusal
first_volumes_refused old new group vdevs stale items actions refusal same (inl memory) = inl memory
first_volumes_refused old new group vdevs stale items actions refusal same (inr why) =
    inr (inl (subst (λ (list : List Action). AreFirstActionsRefused old new group list refusal) same why))

-- what was made of sound datasets is of numbers below the next, and nothing has both a record and a dead list
pub first_datasets_known : (known : Contents) (group : ℕ) (datasets : GroupDatasets) (pool : Pool) (readings : ℕ → Reading) (plain : PlainPool) (refusal : Refusal)
    → datasets.bounds.behind ≤ datasets.next → SpellsGroup known group nothing datasets pool readings plain → (refusal ≡ NoMemory) ⊎ ((refusal ≡ BadPointer) × AreMisnumbered datasets.changes datasets.next)
    → IsForRoom refusal ⊎ (refusal ≡ DiskFault)
first_datasets_known known group datasets pool readings plain refusal behind spells (inl memory) = inl (inl memory)
first_datasets_known known group datasets pool readings plain refusal behind spells (inr why) =
    absurd (not_misnumbered known group nothing datasets pool readings plain datasets.next (omega arith) behind spells why.1)

-- or what becomes of the records and dead lists can't be
pub first_datasets_refused : (old mid : Store) (group : ℕ) (vdevs : List PlainVdev) (stale : List StaleSpan) (items : Entry) (datasets : GroupDatasets) (refusal : Refusal) → OnlyReadsAndPlans old mid []
    → AreFirstVolumes old mid group items.actions datasets → (refusal ≡ NoMemory) ⊎ ((refusal ≡ BadPointer) × AreMisnumbered datasets.changes datasets.next)
    → IsFirstRefused old mid group vdevs stale items refusal
first_datasets_refused old mid group vdevs stale items datasets refusal steps volumes (inl memory) = inl memory
first_datasets_refused old mid group vdevs stale items datasets refusal steps volumes (inr why) =
    inr (inr (inl (record {
      bad = why.0;
      planned = steps;
      made = volumes.made;
      made_are = volumes.are;
      datasets = datasets.changes;
      datasets_are = volumes.datasets_are;
      mis = subst (AreMisnumbered datasets.changes) volumes.next why.1;
    })))
