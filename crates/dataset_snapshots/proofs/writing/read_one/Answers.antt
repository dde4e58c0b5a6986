use Rattle.std.proofs.Common.{ℕ, refl, subst, sym}
use Rattle.block_store.proofs.Steps.{reads_on}
use Rattle.dataset_groups.specs.Over.{HasRecordNow}
use Rattle.dataset_groups.specs.States.{birth_of, set_of}
use Rattle.dataset_groups.specs.declared.datasets.GroupDatasets.{GroupDatasets}
use Rattle.dnode_tree.proofs.FurtherReads.{told_before, told_after}
use Rattle.dnode_tree.proofs.Refusing.{passed_on}
use Rattle.meta_objset.specs.Found.{IsRecordFound}
use Rattle.objset.specs.Objects.{AreObjects}
use Rattle.volume_rules.specs.Overlay.{after_writes}
use Rattle.volume.specs.Writing.{IsArrayWith}
use Rattle.dataset_snapshots.specs.Pools.{SpellsDataset}
use Rattle.dataset_snapshots.proofs.ChangedRows.{zip_has}
use Rattle.dataset_snapshots.proofs.HeadsRead.{blocks_refused, block_size_is, keeps_datasets, keeps_group, number_is, record_here, record_refused, volume_in, volume_spelled}
use Rattle.dataset_snapshots.proofs.writing.read_one.Goals as goal

pub returns-in_default-clause-known : goal.returns-in_default-clause-known
returns-in_default-clause-known g c = let row = c.requires.row in absurd (c.in_default.ensures.none row.0 row.1)

pub returns-in_default-clause-refused : goal.returns-in_default-clause-refused
returns-in_default-clause-refused g c = let row = c.requires.row in absurd (c.in_default.ensures.none row.0 row.1)

pub returns-in_err-record-clause-known : goal.returns-in_err-record-clause-known
returns-in_err-record-clause-known g c =
    passed_on _ _ _ c.from_residual.ensures.1
    (λ stored there own blocks volumes held are spelled tell over.
    let held_row = c.in-Some.ensures.held in
    let to = zip_has (SpellsDataset stored c.args.birth there) c.args.datasets.now.directory volumes _ spelled held_row.0 in
    let there_now : HasRecordNow there c.args.datasets.now.changes c.args.object to.1.r = record_here there c.args.datasets.now.changes c.in-Some.row.now.object c.args.object to.1.r held_row.1 c.requires.unread to.1.has in
    c.in_err-record.ensures.known stored there own blocks held
    (subst (λ (b : ℕ). AreObjects stored b (set_of c.args.datasets.now.changes) there own blocks) (sym c.requires.born) are) tell
    (number_is stored c.args.birth (set_of c.args.datasets.now.changes) there own blocks c.in-Some.row.now.object c.args.object to.1.r c.args.datasets.now.changes.fits are held_row.1 to.1.behind to.1.has) to.1.r there_now)

pub returns-in_err-record-clause-refused : goal.returns-in_err-record-clause-refused
returns-in_err-record-clause-refused g c =
    let held_row = c.in-Some.ensures.held in
    passed_on _ _ _ c.from_residual.ensures.1 (
      c.in-Some.row.now,
      held_row,
      record_refused c.args.store.now c.record.new.store c.args.datasets.now.changes c.args.birth c.args.items.now.writes c.in-Some.row.now c.args.object _ held_row.1 c.requires.born c.requires.unread
          c.in_err-record.ensures.refused,
    )

pub returns-in_err-blocks-clause-reads : goal.returns-in_err-blocks-clause-reads
returns-in_err-blocks-clause-reads g c = reads_on _ _ _ _ c.in_ok-record.ensures.reads c.in_err-blocks.ensures.reads

pub returns-in_err-blocks-clause-known : goal.returns-in_err-blocks-clause-known
returns-in_err-blocks-clause-known g c =
    let first = c.in_ok-record.ensures.reads in
    let second = c.in_err-blocks.ensures.reads in
    let held_row = c.in-Some.ensures.held in
    passed_on _ _ _ c.from_residual-in_err-blocks.ensures.1
    (λ stored there own blocks volumes held are spelled tell over.
    let to = zip_has (SpellsDataset stored c.args.birth there) c.args.datasets.now.directory volumes _ spelled held_row.0 in
    let there_now = record_here there c.args.datasets.now.changes c.in-Some.row.now.object c.args.object to.1.r held_row.1 c.requires.unread to.1.has in
    let value = c.in_ok-record.ensures.value stored there own blocks held
    (subst (λ (b : ℕ). AreObjects stored b (set_of c.args.datasets.now.changes) there own blocks) (sym c.requires.born) are) (told_before _ _ _ _ first second tell) over in
    c.in_err-blocks.ensures.known stored to.0.bytes (first.keeps stored held)
    (volume_spelled stored c.args.birth there c.in-Some.row.now to.0 c.in_ok-record.record c.new-volume.result to.1 (value.2 to.1.r there_now) c.new-volume.ensures.shape c.new-volume.ensures.block)
    (told_after _ _ _ _ first second tell))

pub returns-in_err-blocks-clause-refused : goal.returns-in_err-blocks-clause-refused
returns-in_err-blocks-clause-refused g c =
    let read = c.in_ok-record.ensures in
    let held_row = c.in-Some.ensures.held in
    passed_on _ _ _ c.from_residual-in_err-blocks.ensures.1 (
      c.in-Some.row.now,
      held_row,
      blocks_refused c.args.store.now c.record.new.store c.changed_blocks.new.store (set_of c.args.datasets.now.changes) c.args.birth c.args.items.now.writes c.in-Some.row.now c.new-volume.result _ read.reads
          (record {
            r = c.in_ok-record.record;
            of_record = subst (λ (b : ℕ). IsRecordFound c.args.store.now.spaces (set_of c.args.datasets.now.changes) b c.in-Some.row.now.object c.in_ok-record.record) c.requires.born
                (subst (λ (n : ℕ). IsRecordFound c.args.store.now.spaces (set_of c.args.datasets.now.changes) (birth_of c.args.datasets.now.changes) n c.in_ok-record.record) (sym held_row.1) (read.found c.requires.unread));
            is = (c.new-volume.ensures.shape, c.new-volume.ensures.block);
          })
          c.in_err-blocks.ensures.refused,
    )

pub returns-clause-reads : goal.returns-clause-reads
returns-clause-reads g c = reads_on _ _ _ _ c.in_ok-record.ensures.reads c.in_ok-blocks.ensures.reads

pub returns-clause-kept : goal.returns-clause-kept
returns-clause-kept g c =
    let old : GroupDatasets = c.args.datasets.now in
    keeps_datasets old (record { directory = old.directory; changes = c.record.new.self; next = old.next; bounds = old.bounds }) c.args.object c.in_ok-record.record refl refl refl c.in_ok-record.ensures.kept
    c.in_ok-record.ensures.lists c.in_ok-record.ensures.one_set

pub returns-clause-value : goal.returns-clause-value
returns-clause-value g c = λ stored there own blocks held are tell over.
    let old : GroupDatasets = c.args.datasets.now in
    let first = c.in_ok-record.ensures.reads in
    let second = c.in_ok-blocks.ensures.reads in
    let held_row = c.in-Some.ensures.held in
    let value = c.in_ok-record.ensures.value stored there own blocks held
    (subst (λ (b : ℕ). AreObjects stored b (set_of old.changes) there own blocks) (sym c.requires.born) are) (told_before _ _ _ _ first second tell) in
    let is = value over in (
      (
        c.in-Some.row.now,
        held_row,
        λ volume spelled.
            let there_now = record_here there old.changes c.in-Some.row.now.object c.args.object spelled.r held_row.1 c.requires.unread spelled.has in
            let same = is.2 spelled.r there_now in
            let shape = c.new-volume.ensures.shape in
            let block = c.new-volume.ensures.block in (
              volume_in stored c.args.birth there c.in-Some.row.now volume c.in_ok-record.record c.new-volume.result spelled same shape block,
              λ is_volume. subst (λ n. IsArrayWith volume.bytes n c.in_ok-blocks.blocks.items (after_writes volume c.args.items.now.writes).bytes)
                  (sym (block_size_is stored c.args.birth there c.in-Some.row.now volume c.in_ok-record.record c.new-volume.result spelled same shape block))
                  (c.in_ok-blocks.ensures.value stored volume (first.keeps stored held) spelled.name is_volume
                  (volume_spelled stored c.args.birth there c.in-Some.row.now volume c.in_ok-record.record c.new-volume.result spelled same shape block) (told_after _ _ _ _ first second tell)),
            ),
      ),
      keeps_group old (record { directory = old.directory; changes = c.record.new.self; next = old.next; bounds = old.bounds }) c.args.object c.in_ok-record.record refl refl refl c.in_ok-record.ensures.kept
          c.in_ok-record.ensures.lists there c.requires.unread value,
      is.0,
    )
