use Rattle.std.proofs.Common.{◌≡◌, ◌++◌, ◌∙◌, ⊎_elim, inl, inr, ℕ, All, Contains, List, refl, ap, sym, subst}
use Rattle.block_pointer.specs.declared.block.Block.{Block}
use Rattle.block_store.proofs.Steps.{reads_on}
use Rattle.dataset_changes.specs.Over.{HasListNow}
use Rattle.meta_objset.specs.declared.record.DatasetRecord.{DatasetRecord}
use Rattle.dataset_chains.specs.Refused.{HasKnown}
use Rattle.dead_list.specs.Blocks.{IsSplit}
use Rattle.dead_list.specs.Datasets.{group_before}
use Rattle.dnode_tree.proofs.FurtherReads.{told_before, told_after}
use Rattle.dnode_tree.proofs.Refusing.{caused_by_pointer, passed_on}
use Rattle.dataset_chains.proofs.Chained.{alone_kept, objects_on, one_set_on}
use Rattle.dataset_chains.proofs.FittingBlocks.{head_fits, left_misfit, no_misfit}
use Rattle.dataset_chains.proofs.Overwritten.{IsRewrite, is as is_after, made, spelled}
use Rattle.dataset_chains.proofs.ReadRecords.{head_read}
use Rattle.dataset_chains.proofs.RecordsNow.{list_stays}
use Rattle.dataset_chains.proofs.Refusing.{end_lost, lost_later}
use Rattle.dataset_chains.proofs.SameLists.{keeps_lists, same_list, was_read}
use Rattle.dataset_chains.proofs.Touching.{all_read, put_known, still_known, touches}
use Rattle.block_store.proofs.Causes.{caused_behind_reads}
use Rattle.dataset_chains.proofs.heads.overwrite.Goals as goal

pub returns-in_err-since-clause-reads : goal.returns-in_err-since-clause-reads
returns-in_err-since-clause-reads g c = reads_on _ _ _ _ c.record_of_kind.ensures.reads c.group_before.ensures.reads

pub returns-in_err-older-clause-reads : goal.returns-in_err-older-clause-reads
returns-in_err-older-clause-reads g c = reads_on _ _ _ _ c.record_of_kind.ensures.reads c.group_before.ensures.reads

pub returns-in_err-expect_rows-clause-reads : goal.returns-in_err-expect_rows-clause-reads
returns-in_err-expect_rows-clause-reads g c = reads_on _ _ _ _ c.record_of_kind.ensures.reads c.group_before.ensures.reads

pub returns-in_err-change_record-clause-reads : goal.returns-in_err-change_record-clause-reads
returns-in_err-change_record-clause-reads g c = reads_on _ _ _ _ c.record_of_kind.ensures.reads c.group_before.ensures.reads

pub returns-in_err-add_to_list-clause-reads : goal.returns-in_err-add_to_list-clause-reads
returns-in_err-add_to_list-clause-reads g c =
    reads_on _ _ _ _ (reads_on _ _ _ _ c.record_of_kind.ensures.reads c.group_before.ensures.reads) c.add_to_list.ensures.reads

pub returns-clause-reads : goal.returns-clause-reads
returns-clause-reads g c =
    reads_on _ _ _ _ (reads_on _ _ _ _ c.record_of_kind.ensures.reads c.group_before.ensures.reads) c.add_to_list.ensures.reads

pub returns-in_err-expect_rows-clause-refused : goal.returns-in_err-expect_rows-clause-refused
returns-in_err-expect_rows-clause-refused g c =
    passed_on _ _ _ c.from_residual-in_err-expect_rows.ensures.1
    (inl (left_misfit _ c.in_ok-older.older.items c.args.head.now.left.items _ c.deref-2.ensures.value
    (subst (λ (left : List Block). All (Contains left) c.in_ok-older.older.items) c.deref.ensures.value c.in_ok-older.ensures.within) c.in_err-expect_rows.ensures.refused))

pub returns-in_err-expect_rows-clause-known : goal.returns-in_err-expect_rows-clause-known
returns-in_err-expect_rows-clause-known g c =
    passed_on _ _ _ c.from_residual-in_err-expect_rows.ensures.1
    (λ stored known group objects own blocks pool readings held are tell spells head of_head.
    absurd (no_misfit _ c.in_ok-older.older.items c.args.head.now.left.items _ c.deref-2.ensures.value
    (subst (λ (left : List Block). All (Contains left) c.in_ok-older.older.items) c.deref.ensures.value c.in_ok-older.ensures.within) c.in_err-expect_rows.ensures.refused
    (pool.datasets c.args.head.now.number).blocks (head_fits known group objects c.args.changes.now pool readings c.args.head.now.number spells head) of_head))

pub returns-in_err-since-clause-refused : goal.returns-in_err-since-clause-refused
returns-in_err-since-clause-refused g c =
    passed_on _ _ _ c.from_residual-in_err-since.ensures.1
    (⊎_elim (λ memory. inr (inl memory)) (λ lost. inr (inr (inl (lost_later _ _ _ _ _ _ c.record_of_kind.ensures.reads c.record_of_kind.ensures.one_set lost)))) c.in_err-since.ensures.refused)

pub returns-in_err-since-clause-known : goal.returns-in_err-since-clause-known
returns-in_err-since-clause-known g c =
    passed_on _ _ _ c.from_residual-in_err-since.ensures.1
    (λ stored known group objects own blocks pool readings held are tell spells head of_head.
    let r1 = c.record_of_kind.ensures.reads in
    let r2 = c.group_before.ensures.reads in
    let first = c.in_ok-dataset.ensures.value stored known group objects own blocks pool readings held are (told_before _ _ _ _ r1 r2 tell) spells in
    let it = head_read known group objects pool readings c.record_of_kind.new.changes c.args.head.now.number c.in_ok-dataset.dataset first.0 first.1 head in
    c.in_err-since.ensures.known stored known group objects own blocks pool readings (r1.keeps stored held)
    (objects_on stored objects own blocks c.args.changes.now c.record_of_kind.new.changes c.record_of_kind.ensures.one_set are) (told_after _ _ _ _ r1 r2 tell) first.0 c.args.head.now.number it.before)

pub returns-in_err-add_to_list-clause-refused : goal.returns-in_err-add_to_list-clause-refused
returns-in_err-add_to_list-clause-refused g c =
    let one = one_set_on c.args.changes.now c.record_of_kind.new.changes c.group_before.new.changes c.record_of_kind.ensures.one_set c.group_before.ensures.one_set in
    let all = one_set_on c.args.changes.now c.group_before.new.changes c.change_record.new.self one c.change_record.ensures.one_set in
    passed_on _ _ _ c.from_residual-in_err-add_to_list.ensures.1
    (inr (inr (inr (inl (end_lost _ _ _ c.args.changes.now c.change_record.new.self _ (reads_on _ _ _ _ c.record_of_kind.ensures.reads c.group_before.ensures.reads) all c.in_ok-dataset.dataset.dead_list c.in_err-add_to_list.ensures.refused)))))

pub returns-in_err-add_to_list-clause-known : goal.returns-in_err-add_to_list-clause-known
returns-in_err-add_to_list-clause-known g c =
    passed_on _ _ _ c.from_residual-in_err-add_to_list.ensures.1
    (λ stored known group objects own blocks pool readings held are tell spells head of_head.
    let r1 = c.record_of_kind.ensures.reads in
    let r2 = c.group_before.ensures.reads in
    let r3 = c.add_to_list.ensures.reads in
    let r12 = reads_on _ _ _ _ r1 r2 in
    let h = c.args.head.now.number in
    let found = c.in_ok-dataset.dataset in
    let c0 = c.args.changes.now in
    let c1 = c.record_of_kind.new.changes in
    let c2 = c.group_before.new.changes in
    let c3 = c.change_record.new.self in
    let early = told_before _ _ _ _ r12 r3 tell in
    let first = c.in_ok-dataset.ensures.value stored known group objects own blocks pool readings held are (told_before _ _ _ _ r1 r2 early) spells in
    let are1 = objects_on stored objects own blocks c0 c1 c.record_of_kind.ensures.one_set are in
    let second = c.in_ok-since.ensures.value stored known group objects own blocks pool readings (r1.keeps stored held) are1 (told_after _ _ _ _ r1 r2 early) first.0 in
    let alone = alone_kept objects c1 c2 h found c.in_ok-dataset.ensures.known_as c.in_ok-since.ensures.stays first.1 in
    let it = head_read known group objects pool readings c2 h found second.0 alone head in
    let are3 = objects_on stored objects own blocks c1 c3 (one_set_on c1 c2 c3 c.group_before.ensures.one_set c.change_record.ensures.one_set) are1 in
    c.in_err-add_to_list.ensures.known stored objects own blocks (r12.keeps stored held) are3 (told_after _ _ _ _ r12 r3 tell) it.list_behind (pool.datasets h).dead
    (list_stays objects c2 c3 found.dead_list (pool.datasets h).dead (c.change_record.ensures.lists found.dead_list) it.dead))

pub returns-clause-value : goal.returns-clause-value
returns-clause-value g c = λ stored known later group objects own blocks pool readings r after entered reading held are tell more spells head writable entered_new set_is leads block_size size rewritten.
    let r1 = c.record_of_kind.ensures.reads in
    let r2 = c.group_before.ensures.reads in
    let r3 = c.add_to_list.ensures.reads in
    let r12 = reads_on _ _ _ _ r1 r2 in
    let h = c.args.head.now.number in
    let left = c.args.head.now.left.items in
    let b = c.args.head.now.object_set in
    let found = c.in_ok-dataset.dataset in
    let c0 = c.args.changes.now in
    let c1 = c.record_of_kind.new.changes in
    let c2 = c.group_before.new.changes in
    let c3 = c.change_record.new.self in
    let c4 = c.add_to_list.new.self in
    let early = told_before _ _ _ _ r12 r3 tell in
    let first = c.in_ok-dataset.ensures.value stored known group objects own blocks pool readings held are (told_before _ _ _ _ r1 r2 early) spells in
    let are1 = objects_on stored objects own blocks c0 c1 c.record_of_kind.ensures.one_set are in
    let second = c.in_ok-since.ensures.value stored known group objects own blocks pool readings (r1.keeps stored held) are1 (told_after _ _ _ _ r1 r2 early) first.0 in
    let alone = alone_kept objects c1 c2 h found c.in_ok-dataset.ensures.known_as c.in_ok-since.ensures.stays first.1 in
    let it = head_read known group objects pool readings c2 h found second.0 alone head in
    let are3 = objects_on stored objects own blocks c1 c3 (one_set_on c1 c2 c3 c.group_before.ensures.one_set c.change_record.ensures.one_set) are1 in
    let over3 = c.in_ok-change_record.ensures.over objects found second.0.over ((alone found).1 refl) in
    let third = c.in_ok-add_to_list.ensures.value stored objects own blocks (r12.keeps stored held) are3 (told_after _ _ _ _ r12 r3 tell) over3 (pool.datasets h).dead
    (list_stays objects c2 c3 found.dead_list (pool.datasets h).dead (c.change_record.ensures.lists found.dead_list) it.dead) in
    let parts = c.in_ok-older.ensures.parts in
    let gone = parts.0 in
    let older = c.in_ok-older.older.items in
    let since_is : group_before pool.datasets h ≡ c.in_ok-since.since = ap (λ (k : ℕ). (pool.datasets k).group) it.before ∙ second.1 in
    let split = subst (λ (since : ℕ). IsSplit since left gone older) (sym since_is) (subst (λ (blocks : List Block). IsSplit c.in_ok-since.since blocks gone older) c.deref.ensures.value parts.2) in
    let dead = subst (λ (blocks : List Block). HasListNow objects c4 found.dead_list ((pool.datasets h).dead ++ blocks)) c.deref-3.ensures.value third.1 in
    let rewrite : IsRewrite later group pool h (readings h) reading b left after entered =
    record { head = head; writable = writable; entered_new = entered_new; r = r; set_is = set_is; leads = leads; block_size = block_size; size = size; rewritten = rewritten } in (
      gone,
      parts.1,
      is_after known later group objects c2 c3 c4 pool readings h found b second.0 alone left after entered gone older reading rewrite,
      made known later group objects c2 c3 c4 pool readings h found b second.0 alone left after entered gone older reading rewrite split,
      spelled known later group objects c2 c3 c4 pool readings h found b second.0 alone left after entered gone older reading rewrite split
          more c.in_ok-change_record.ensures.put c.change_record.ensures.lists c.add_to_list.ensures.records c.in_ok-add_to_list.ensures.others third.0 dead,
      same_list objects c0 c4 h found (record found { object_set = b })
          (λ r was. was_read objects c0 c1 h found r c.in_ok-dataset.ensures.touched (first.0.over.records h) first.1 was)
          (still_known c3 c4 h (record found { object_set = b }) (c.add_to_list.ensures.records h) (put_known c2 c3 h (record found { object_set = b }) c.in_ok-change_record.ensures.put)) refl,
    )

pub returns-clause-touched : goal.returns-clause-touched
returns-clause-touched g c =
    let h = c.args.head.now.number in
    let found = c.in_ok-dataset.dataset in
    let written : DatasetRecord = record found { object_set = c.args.head.now.object_set } in
    let c0 = c.args.changes.now in
    let c1 = c.record_of_kind.new.changes in
    let c2 = c.group_before.new.changes in
    let c3 = c.change_record.new.self in
    let c4 = c.add_to_list.new.self in
    let known : HasKnown c4 h written = still_known c3 c4 h written (c.add_to_list.ensures.records h) (put_known c2 c3 h written c.in_ok-change_record.ensures.put) in
    touches c0 c2 c3 c4 h found.dead_list _ _ (λ one. (r : DatasetRecord) × HasKnown c4 h r × (r.dead_list ≡ one))
    (all_read c0 c1 c2 c.in_ok-dataset.ensures.touched c.in_ok-since.ensures.touched) (λ one. c.group_before.ensures.lists one ∙ c.record_of_kind.ensures.lists one)
    c.in_ok-change_record.ensures.put c.change_record.ensures.lists c.add_to_list.ensures.records c.in_ok-add_to_list.ensures.others.1 (written, known, refl)

pub returns-clause-kept : goal.returns-clause-kept
returns-clause-kept g c =
    let found = c.in_ok-dataset.dataset in
    let c0 = c.args.changes.now in
    let c1 = c.record_of_kind.new.changes in
    let c2 = c.group_before.new.changes in
    keeps_lists c0 c1 c2 c.change_record.new.self c.add_to_list.new.self c.args.head.now.number found (record found { object_set = c.args.head.now.object_set })
    (all_read c0 c1 c2 c.in_ok-dataset.ensures.touched c.in_ok-since.ensures.touched) c.in_ok-dataset.ensures.known_as c.in_ok-since.ensures.stays
    c.in_ok-change_record.ensures.put c.add_to_list.ensures.records refl

pub returns-in_err-dataset-clause-known : goal.returns-in_err-dataset-clause-known
returns-in_err-dataset-clause-known g c =
    passed_on _ _ _ c.from_residual.ensures.1
    (λ stored known group objects own blocks pool readings held are tell spells head of_head.
    c.in_err-dataset.ensures.known stored known group objects own blocks pool readings held are tell spells head)

pub returns-in_err-dataset-clause-caused : goal.returns-in_err-dataset-clause-caused
returns-in_err-dataset-clause-caused g c = passed_on _ _ _ c.from_residual.ensures.1 c.in_err-dataset.ensures.caused

pub returns-in_err-since-clause-caused : goal.returns-in_err-since-clause-caused
returns-in_err-since-clause-caused g c = passed_on _ _ _ c.from_residual-in_err-since.ensures.1 (caused_behind_reads _ _ _ _ _ c.record_of_kind.ensures.reads c.in_err-since.ensures.caused)

pub returns-in_err-expect_rows-clause-caused : goal.returns-in_err-expect_rows-clause-caused
returns-in_err-expect_rows-clause-caused g c = passed_on _ _ _ c.from_residual-in_err-expect_rows.ensures.1 (caused_by_pointer _ _ _ _ c.in_err-expect_rows.ensures.refused.0)

pub returns-in_err-add_to_list-clause-caused : goal.returns-in_err-add_to_list-clause-caused
returns-in_err-add_to_list-clause-caused g c = passed_on _ _ _ c.from_residual-in_err-add_to_list.ensures.1 (caused_behind_reads _ _ _ _ _ (reads_on _ _ _ _ c.record_of_kind.ensures.reads c.group_before.ensures.reads) c.in_err-add_to_list.ensures.caused)

pub returns-in_err-dataset-clause-refused : goal.returns-in_err-dataset-clause-refused
returns-in_err-dataset-clause-refused g c = passed_on _ _ _ c.from_residual.ensures.1 (inr c.in_err-dataset.ensures.refused)
