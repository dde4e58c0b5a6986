use Rattle.std.proofs.Common.{◌≡◌, ℕ, ◌↔◌, ◌<◌, List, [], All, Contains, sym, ap, subst, ◌∙◌}
use Rattle.std.specs.List.{AllZip}
use Rattle.std.specs.List.Sorted.{IsStrictlyIncreasing}
use Rattle.block_store.proofs.Steps.{reads_on}
use Rattle.block_store.specs.Spaces.{VdevSpace}
use Rattle.dataset_groups.specs.States.{set_of}
use Rattle.dataset_groups.specs.declared.datasets.GroupDatasets.{GroupDatasets}
use Rattle.dataset_groups.specs.declared.datasets.NumberBounds.{NumberBounds}
use Rattle.dataset_groups.specs.Names.{NamesPool}
use Rattle.dataset_groups.specs.Writing.{numbers_of}
use Rattle.dnode.specs.declared.object_set.ObjectSet.{ObjectSet}
use Rattle.dnode_tree.proofs.FurtherReads.{told_before, told_after}
use Rattle.dnode_tree.proofs.Refusing.{passed_on}
use Rattle.meta_objset.specs.declared.directory.DirectoryRow.{DirectoryRow}
use Rattle.object_table.proofs.Tables.{spaces_stay}
use Rattle.objset.specs.Objects.{AreObjects}
use Rattle.pool_model.specs.declared.item.Write.{Write}
use Rattle.dataset_snapshots.specs.Opening.{IsWrittenOf}
use Rattle.dataset_snapshots.specs.Pools.{SpellsDataset}
use Rattle.dataset_snapshots.specs.Writing.{HasRow, IsReadFrom, IsWrittenBut}
use Rattle.dataset_snapshots.proofs.Chained.{volumes_of}
use Rattle.dataset_snapshots.proofs.GroupDemands.{volume_unread}
use Rattle.dataset_snapshots.proofs.GroupsBegun.{numbers_within, set_unread, written_are}
use Rattle.dataset_snapshots.proofs.ChangedRows.{all_from}
use Rattle.dataset_snapshots.proofs.Renumbered.{has_numbers}
use Rattle.dataset_snapshots.proofs.groups.begin_group.Goals as goal

pub returns-in_err-set-clause-known : goal.returns-in_err-set-clause-known
returns-in_err-set-clause-known g c =
    passed_on _ _ _ c.from_residual-in_err-set.ensures.1 (λ stored pool held is same tell. c.in_err-set.ensures.known stored is.set held is.is_set is.kind tell)

pub read_written-requires-clause-rows : goal.read_written-requires-clause-rows
read_written-requires-clause-rows g c =
    let rows : List DirectoryRow = c.in_ok-directory.directory in
    subst (λ (rs : List DirectoryRow). All (λ object. (row : DirectoryRow) × HasRow rs object row) c.deref.result.now) (sym c.new-datasets.ensures.directory)
    (subst (All (λ object. (row : DirectoryRow) × HasRow rows object row)) (sym c.deref.ensures.value)
    (all_from (λ object. (row : DirectoryRow) × HasRow rows object row) c.in_ok-objects.objects.items
    (λ object held.
    let named = ((subst (λ (ws : List Write). (object : ℕ) → Contains c.in_ok-objects.objects.items object ↔ IsWrittenBut rows c.args.destroyed.now ws object) c.writes.ensures c.in_ok-objects.ensures.objects) object).0 held in
    let row = named.4.1.1 in
    (row.0, (row.1, row.3)))))

pub returns-in_err-written-clause-reads : goal.returns-in_err-written-clause-reads
returns-in_err-written-clause-reads g c = reads_on _ _ _ _ c.in_ok-set.ensures.reads c.in_err-written.ensures.reads

pub returns-in_err-written-clause-known : goal.returns-in_err-written-clause-known
returns-in_err-written-clause-known g c =
    let first = c.in_ok-set.ensures.reads in
    let second = c.in_err-written.ensures.reads in
    passed_on _ _ _ c.from_residual-in_err-written.ensures.1
    (λ stored pool held is same tell.
    let birth = c.args.root.now.birth in
    let set = c.in_ok-set.ensures.value stored is.set held is.is_set (told_before _ _ _ _ first second tell) in
    c.in_err-written.ensures.known stored is.objects is.own is.blocks pool.volumes (first.keeps stored held)
    (subst (λ (s : ObjectSet). AreObjects stored birth s is.objects is.own is.blocks) (sym (c.new-datasets.ensures.of_set.0 ∙ set)) is.are)
    (subst (λ (rows : List DirectoryRow). AllZip (SpellsDataset stored birth is.objects) rows pool.volumes) (sym (c.new-datasets.ensures.directory ∙ (c.in_ok-directory.ensures ∙ same))) (volumes_of is))
    (told_after _ _ _ _ first second tell))

pub returns-in_err-written-clause-refused : goal.returns-in_err-written-clause-refused
returns-in_err-written-clause-refused g c =
    let before : GroupDatasets = c.new-datasets.result in
    let set : ObjectSet = c.in_ok-set.set in
    let writes : List Write = c.args.items.now.writes in
    let objects : List ℕ = c.deref.result.now in
    let birth = c.args.root.now.birth in
    passed_on _ _ _ c.from_residual-in_err-written.ensures.1
    (volume_unread c.args.store.now c.read_meta.new.store c.read_written.new.store c.args.birth c.args.root.now before.directory c.args.kept.now c.args.destroyed.now writes set objects _ c.in_ok-set.ensures.reads
    c.in_ok-set.ensures.found (c.new-datasets.ensures.directory ∙ c.in_ok-directory.ensures)
    (subst (λ (rows : List DirectoryRow). (object : ℕ) → Contains objects object ↔ IsWrittenBut rows c.args.destroyed.now writes object) (sym c.new-datasets.ensures.directory)
    (subst (λ (all : List ℕ). (object : ℕ) → Contains all object ↔ IsWrittenBut c.in_ok-directory.directory c.args.destroyed.now writes object) (sym c.deref.ensures.value)
    (subst (λ (ws : List Write). (object : ℕ) → Contains c.in_ok-objects.objects.items object ↔ IsWrittenBut c.in_ok-directory.directory c.args.destroyed.now ws object) c.writes.ensures c.in_ok-objects.ensures.objects)))
    (set_unread c.read_meta.new.store c.read_written.new.store (set_of before.changes) set birth writes before.directory objects _ c.new-datasets.ensures.of_set.0 c.in_err-written.ensures.refused))

pub returns-clause-reads : goal.returns-clause-reads
returns-clause-reads g c = reads_on _ _ _ _ c.in_ok-set.ensures.reads c.in_ok-written.ensures.reads

pub returns-clause-begun : goal.returns-clause-begun
returns-clause-begun g c =
    let objects : List ℕ = c.in_ok-objects.objects.items in
    let writes : List Write = c.args.items.now.writes in
    let set_is = c.new-datasets.ensures.of_set.0 in
    let are : numbers_of c.in_ok-written.written.items ≡ objects = c.in_ok-written.ensures.numbers ∙ c.deref.ensures.value in
    record {
      set = c.in_ok-set.ensures.fits;
      once = subst IsStrictlyIncreasing (sym are) c.in_ok-objects.ensures.once;
      within = subst (λ (s : ObjectSet). All (λ number. number < s.objects) (numbers_of c.in_ok-written.written.items)) set_is
          (numbers_within c.read_meta.new.store.spaces (set_of c.new-datasets.result.changes) c.args.root.now.birth writes c.new-datasets.result.directory c.in_ok-written.written.items
          c.in_ok-written.ensures.found);
      each = c.in_ok-written.ensures.fits;
    }

pub returns-clause-value : goal.returns-clause-value
returns-clause-value g c = λ stored pool held is same tell.
    let first = c.in_ok-set.ensures.reads in
    let second = c.in_ok-written.ensures.reads in
    let kept = c.in_ok-written.ensures.kept in
    let birth = c.args.root.now.birth in
    let writes : List Write = c.args.items.now.writes in
    let objects : List ℕ = c.in_ok-objects.objects.items in
    let set = c.in_ok-set.ensures.value stored is.set held is.is_set (told_before _ _ _ _ first second tell) in
    let by_rows = c.in_ok-directory.ensures ∙ same in
    let are = subst (λ (s : ObjectSet). AreObjects stored birth s is.objects is.own is.blocks) (sym set) is.are in
    let read = c.in_ok-written.ensures.value stored is.objects is.own is.blocks (first.keeps stored held)
    (subst (λ (s : ObjectSet). AreObjects stored birth s is.objects is.own is.blocks) (sym c.new-datasets.ensures.of_set.0) are) (told_after _ _ _ _ first second tell) in
    record {
      set = set;
      born = kept.one_set.1 ∙ c.new-datasets.ensures.of_set.1;
      directory = kept.directory ∙ (c.new-datasets.ensures.directory ∙ by_rows);
      begins = λ group le.
          read.1 stored group (record is.datasets { group = group }) is.readings pool
          (c.new-datasets.ensures.value stored birth group is.objects is.own is.blocks is.datasets is.readings pool are is.chains le
          (subst (λ (rows : List DirectoryRow). NamesPool is.datasets is.readings rows pool) (sym by_rows) is.names));
      written = λ group left lt rows_left.
          written_are stored c.args.birth c.args.root.now pool is writes group lt c.args.destroyed.now left rows_left c.in_ok-written.written.items objects (c.in_ok-written.ensures.numbers ∙ c.deref.ensures.value)
          c.in_ok-objects.ensures.once
          (subst (λ (rows : List DirectoryRow). (object : ℕ) → Contains objects object ↔ IsWrittenBut rows c.args.destroyed.now writes object) by_rows
          (subst (λ (ws : List Write). (object : ℕ) → Contains objects object ↔ IsWrittenBut c.in_ok-directory.directory c.args.destroyed.now ws object) c.writes.ensures c.in_ok-objects.ensures.objects))
          (subst (λ (rows : List DirectoryRow). All (IsReadFrom stored birth is.objects writes rows) c.in_ok-written.written.items) (c.new-datasets.ensures.directory ∙ by_rows) read.0);
    }

pub returns-clause-numbers : goal.returns-clause-numbers
returns-clause-numbers g c =
    let kept = c.in_ok-written.ensures.kept in
    let new = c.new-datasets.ensures in
    record {
      next = kept.next ∙ new.next;
      end = ap (λ (b : NumberBounds). b.end) kept.bounds ∙ new.bounds.0;
      behind = ap (λ (b : NumberBounds). b.behind) kept.bounds ∙ new.bounds.1;
    }

pub returns-clause-found : goal.returns-clause-found
returns-clause-found g c =
    let kept = c.in_ok-written.ensures.kept in
    let by_rows = c.in_ok-directory.ensures in
    let birth = c.args.root.now.birth in
    let writes : List Write = c.args.items.now.writes in
    let are : numbers_of c.in_ok-written.written.items ≡ c.in_ok-objects.objects.items = c.in_ok-written.ensures.numbers ∙ c.deref.ensures.value in
    record {
      meta = c.in_ok-set.ensures.found;
      which = subst (λ (rows : List DirectoryRow). (object : ℕ) → Contains (numbers_of c.in_ok-written.written.items) object ↔ IsWrittenBut rows c.args.destroyed.now writes object) by_rows
          (subst (λ (objects : List ℕ). (object : ℕ) → Contains objects object ↔ IsWrittenBut c.in_ok-directory.directory c.args.destroyed.now writes object) (sym are)
          (subst (λ (ws : List Write). (object : ℕ) → Contains c.in_ok-objects.objects.items object ↔ IsWrittenBut c.in_ok-directory.directory c.args.destroyed.now ws object) c.writes.ensures
          c.in_ok-objects.ensures.objects));
      each = subst (λ (rows : List DirectoryRow). All (IsWrittenOf c.args.store.now.spaces c.in_ok-set.set birth writes rows) c.in_ok-written.written.items) (c.new-datasets.ensures.directory ∙ by_rows)
          (subst (λ (set : ObjectSet). All (IsWrittenOf c.args.store.now.spaces set birth writes c.new-datasets.result.directory) c.in_ok-written.written.items) c.new-datasets.ensures.of_set.0
          (subst (λ (spaces : List VdevSpace). All (IsWrittenOf spaces (set_of c.new-datasets.result.changes) birth writes c.new-datasets.result.directory) c.in_ok-written.written.items)
          (spaces_stay c.args.store.now c.read_meta.new.store [] c.in_ok-set.ensures.reads) c.in_ok-written.ensures.found));
      begins = record {
        fresh = c.new-datasets.result.changes;
        untouched = c.new-datasets.ensures.none;
        of_set = c.new-datasets.ensures.of_set.0;
        one_set = kept.one_set;
        read = kept.touched;
        directory = kept.directory ∙ (c.new-datasets.ensures.directory ∙ by_rows);
        numbers = has_numbers c.in_ok-set.set _ (returns-clause-numbers g c);
      };
    }
