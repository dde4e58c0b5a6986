use Rattle.std.proofs.Common.{◌+◌, ◌≤◌, inl, inr, ⊎_elim, List, refl, subst, length, map, take, drop, arith}
use Rattle.std.proofs.lemmas.List.{take_all}
use Rattle.std.proofs.lemmas.Slice.Zip.{AllZip-long}
use Rattle.block_store.proofs.Steps.{reads_on}
use Rattle.block_store.specs.declared.refusal.Refusal.TheVariants.{NoMemory}
use Rattle.dnode_tree.proofs.FurtherReads.{told_before, told_after}
use Rattle.dnode_tree.proofs.Refusing.{passed_on}
use Rattle.meta_objset.specs.declared.directory.DirectoryRow.{DirectoryRow}
use Rattle.pool_model.specs.declared.volume.PlainVolume.{PlainVolume}
use Rattle.volume_rules.specs.Index.{Knows}
use Rattle.dataset_snapshots.specs.declared.chaining.RowRecord.{RowRecord}
use Rattle.dataset_snapshots.specs.Chaining.{IsIndexIfChained}
use Rattle.dataset_snapshots.proofs.ChainIndexes.{index_there, no_index}
use Rattle.dataset_snapshots.proofs.FittingRecords.{chained_of_pool}
use Rattle.dataset_snapshots.proofs.NamedRows.{AreBareNamed, all_named, all_read, knows_next, named_next, next_volume, none_next, objects_next, objects_read, records_next, shape_is}
use Rattle.dataset_snapshots.proofs.ToldOrigins.{bare_of, bare_spelled, none_bare, told_is}
use Rattle.dataset_snapshots.proofs.WalkedRows.{at_row}
use Rattle.dataset_snapshots.proofs.naming.names_of.Goals as goal

pub returns-in_err-dataset-clause-reads : goal.returns-in_err-dataset-clause-reads
returns-in_err-dataset-clause-reads g c = reads_on _ _ _ _ c.loop-row.invariant.reads c.in_err-dataset.ensures.reads

pub returns-in_err-dataset-clause-refused : goal.returns-in_err-dataset-clause-refused
returns-in_err-dataset-clause-refused g c =
    passed_on _ _ _ c.from_residual.ensures.1 (⊎_elim (λ memory. inl memory) (λ why. inr (inl (record {
      first = take c.loop-row.row-index c.args.rows.now;
      row = _;
      rest = drop (c.loop-row.row-index + 1) c.args.rows.now;
      are = at_row c.args.rows.now c.loop-row.row-index _ _ c.loop-row-test.true refl;
      mid = c.loop-row.store;
      reads = c.loop-row.invariant.reads;
      why = why;
    }))) c.in_err-dataset.ensures.refused)

pub returns-in_err-dataset-clause-known : goal.returns-in_err-dataset-clause-known
returns-in_err-dataset-clause-known g c =
    let first = c.loop-row.invariant.reads in
    let rest = c.in_err-dataset.ensures.reads in
    passed_on _ _ _ c.from_residual.ensures.1 (λ stored objects own blocks volumes pool readings held are all chains names tell.
    let next = next_volume stored c.args.birth objects c.args.rows.now volumes c.loop-row.row-index _ _ c.requires.is.order all c.loop-row-test.true refl in
    c.in_err-dataset.ensures.known stored objects own blocks next.is.r (first.keeps stored held) are next.is.has (told_after _ _ _ _ first rest tell))

pub add_name-requires : goal.add_name-requires
add_name-requires g c = (c.requires.is.each c.loop-row.row-index _ c.loop-row-test.true).name

pub returns-in_err-add_name-clause-reads : goal.returns-in_err-add_name-clause-reads
returns-in_err-add_name-clause-reads g c = reads_on _ _ _ _ c.loop-row.invariant.reads c.in_ok-dataset.ensures.reads

pub returns-in_err-add_record-clause-reads : goal.returns-in_err-add_record-clause-reads
returns-in_err-add_record-clause-reads g c = reads_on _ _ _ _ c.loop-row.invariant.reads c.in_ok-dataset.ensures.reads

pub returns-in_err-add_record-clause-known : goal.returns-in_err-add_record-clause-known
returns-in_err-add_record-clause-known g c =
    passed_on _ NoMemory _ c.from_residual-in_err-add_record.ensures.1 (λ stored objects own blocks volumes pool readings held are all chains names tell. inl refl)

pub loop-row-preserved : goal.loop-row-preserved
loop-row-preserved g c =
    let first = c.loop-row.invariant.reads in
    let rest = c.in_ok-dataset.ensures.reads in
    record {
      reads = reads_on _ _ _ _ first rest;
      named = named_next c.args.store.now c.loop-row.store c.args.missing.now c.args.set.now c.args.birth c.args.rows.now c.loop-row.row-index _ _ c.loop-row.names _ c.in_ok-dataset.dataset.record
          c.shape_in.result first c.requires.is.order c.loop-row-test.true c.in_ok-dataset.ensures.found c.shape_in.ensures refl (c.requires.is.each c.loop-row.row-index _ c.loop-row-test.true).name
          c.loop-row.invariant.named c.in_ok-add_name.ensures;
      found = records_next c.args.store.now c.loop-row.store c.args.missing.now c.args.set.now c.args.birth c.args.rows.now c.loop-row.row-index _ _ c.loop-row.records.items _ c.in_ok-dataset.dataset.record
          first c.loop-row-test.true c.in_ok-dataset.ensures.found refl c.in_ok-add_record.ensures c.loop-row.invariant.found;
      value = λ stored objects own blocks volumes held are all bare tell.
          let next = next_volume stored c.args.birth objects c.args.rows.now volumes c.loop-row.row-index _ _ c.requires.is.order all c.loop-row-test.true refl in
          let same = c.in_ok-dataset.ensures.value stored objects own blocks next.is.r (first.keeps stored held) are next.is.has (told_after _ _ _ _ first rest tell) in
          let shape = shape_is next.volume next.is.r c.in_ok-dataset.dataset.record c.shape_in.result same c.shape_in.ensures next.is.is in
          let none = none_next volumes c.loop-row.row-index next.volume next.more bare in
          let so_far = c.loop-row.invariant.value stored objects own blocks volumes held are all bare (told_before _ _ _ _ first rest tell) in (
            knows_next stored c.args.birth objects c.args.rows.now _ volumes c.loop-row.row-index next.volume c.requires.is.order all next.more
                (c.in_ok-add_name.ensures (record { volumes = take c.loop-row.row-index volumes }) next.volume so_far.0 next.is.name next.new shape none),
            objects_next objects _ next.is.r c.in_ok-dataset.dataset.record c.loop-row.records.items _ c.in_ok-add_record.ensures same next.is.has so_far.1,
          );
    }

pub returns-in_default-clause-refused : goal.returns-in_default-clause-refused
returns-in_default-clause-refused g c =
    let records = c.loop-row.records.items in
    inr (inr (
      refl,
      (
        records,
        all_read c.args.store.now.spaces c.args.set.now c.args.birth c.args.rows.now c.loop-row.row-index records c.loop-row-test.false c.loop-row.invariant.found,
        no_index records c.in_ok-index.field-0 (subst (λ (them : List RowRecord). IsIndexIfChained them c.in_ok-index.field-0) c.deref.ensures.value c.in_ok-index.ensures) c.in_default.not-Some,
      ),
    ))

pub returns-in_default-clause-known : goal.returns-in_default-clause-known
returns-in_default-clause-known g c = λ stored objects own blocks volumes pool readings held are all chains names tell.
    let records = c.loop-row.records.items in
    let found = all_read c.args.store.now.spaces c.args.set.now c.args.birth c.args.rows.now c.loop-row.row-index records c.loop-row-test.false c.loop-row.invariant.found in
    let each = (c.loop-row.invariant.value stored objects own blocks (map bare_of volumes) held are (bare_spelled stored c.args.birth objects c.args.rows.now volumes all) (none_bare volumes) tell).1 in
    let chained = chained_of_pool stored c.args.birth objects pool readings chains c.args.rows.now (record { volumes = volumes }) names records
    (objects_read c.args.store.now.spaces c.args.set.now c.args.birth c.args.rows.now records found) each in
    absurd (no_index records c.in_ok-index.field-0 (subst (λ (them : List RowRecord). IsIndexIfChained them c.in_ok-index.field-0) c.deref.ensures.value c.in_ok-index.ensures) c.in_default.not-Some chained)

pub set_origins-requires : goal.set_origins-requires
set_origins-requires g c = λ i d low. (c.requires.is.each i d low).name

pub returns-in_err-set_origins-clause-reads : goal.returns-in_err-set_origins-clause-reads
returns-in_err-set_origins-clause-reads g c = c.loop-row.invariant.reads

pub returns-clause-reads : goal.returns-clause-reads
returns-clause-reads g c = c.loop-row.invariant.reads

pub returns-clause-value : goal.returns-clause-value
returns-clause-value g c = λ stored objects own blocks volumes pool readings held are all chains names tell.
    let rows = c.args.rows.now in
    let records = c.loop-row.records.items in
    let bare = map bare_of volumes in
    let spelled = bare_spelled stored c.args.birth objects rows volumes all in
    let found = all_read c.args.store.now.spaces c.args.set.now c.args.birth rows c.loop-row.row-index records c.loop-row-test.false c.loop-row.invariant.found in
    let past : length bare ≤ c.loop-row.row-index = omega (arith, AllZip-long _ _ _ spelled, c.loop-row-test.false) in
    let read = c.loop-row.invariant.value stored objects own blocks bare held are spelled (none_bare volumes) tell in
    let known = subst (λ (vs : List PlainVolume). Knows c.loop-row.names (record { volumes = vs })) (take_all c.loop-row.row-index bare past) read.0 in
    let indexed = (index_there records c.in_ok-index.field-0 c.in-Some.index
    (subst (λ (them : List RowRecord). IsIndexIfChained them c.in_ok-index.field-0) c.deref.ensures.value c.in_ok-index.ensures) c.in-Some.is).1 in
    let told = c.in_ok-set_origins.ensures records (record { volumes = bare }) indexed (none_bare volumes) known in
    let same = told_is stored c.args.birth objects pool readings chains rows (record { volumes = volumes }) names records
    (objects_read c.args.store.now.spaces c.args.set.now c.args.birth rows records found) read.1 c.requires.is.order told.0 told.1 in
    subst (λ (vs : List PlainVolume). Knows c.set_origins.new.names (record { volumes = vs })) same told.2

pub returns-clause-found : goal.returns-clause-found
returns-clause-found g c =
    let rows = c.args.rows.now in
    let records = c.loop-row.records.items in
    let found = all_read c.args.store.now.spaces c.args.set.now c.args.birth rows c.loop-row.row-index records c.loop-row-test.false c.loop-row.invariant.found in
    let bare = subst (λ (first : List DirectoryRow). AreBareNamed c.args.store.now.spaces c.args.set.now c.args.birth first c.loop-row.names) (take_all c.loop-row.row-index rows c.loop-row-test.false)
    c.loop-row.invariant.named in
    let indexed = (index_there records c.in_ok-index.field-0 c.in-Some.index
    (subst (λ (them : List RowRecord). IsIndexIfChained them c.in_ok-index.field-0) c.deref.ensures.value c.in_ok-index.ensures) c.in-Some.is).1 in
    all_named c.args.store.now.spaces c.args.set.now c.args.birth rows records bare.0 c.set_origins.new.names found bare.1
    (c.in_ok-set_origins.ensures records (record { volumes = bare.0 }) indexed bare.2 bare.3)

pub returns-clause-chains : goal.returns-clause-chains
returns-clause-chains g c =
    let records = c.loop-row.records.items in (
      records,
      all_read c.args.store.now.spaces c.args.set.now c.args.birth c.args.rows.now c.loop-row.row-index records c.loop-row-test.false c.loop-row.invariant.found,
      (index_there records c.in_ok-index.field-0 c.in-Some.index (subst (λ (them : List RowRecord). IsIndexIfChained them c.in_ok-index.field-0) c.deref.ensures.value c.in_ok-index.ensures)
          c.in-Some.is).0,
    )
