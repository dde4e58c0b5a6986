use Rattle.std.proofs.Common.{◌∙◌, ◌+◌, ◌++◌, List, inr, refl, ap, subst, take, drop, arith}
use Rattle.std.proofs.lemmas.List.{take_all}
use Rattle.block_store.proofs.Steps.{reads_on}
use Rattle.dataset_groups.specs.Names.{reach_by}
use Rattle.dnode_tree.proofs.FurtherReads.{told_before, told_after}
use Rattle.dnode_tree.proofs.Refusing.{passed_on}
use Rattle.meta_objset.specs.declared.directory.DirectoryRow.{DirectoryRow}
use Rattle.dataset_snapshots.specs.Reach.{AreRowsWalked}
use Rattle.dataset_snapshots.proofs.ChainWalks.{enough_left, next_walked}
use Rattle.dataset_snapshots.proofs.WalkedRows.{at_row, next_row, rows_few}
use Rattle.dataset_snapshots.proofs.walks.walk_rows.Goals as goal

pub returns-in_err-more-clause-reads : goal.returns-in_err-more-clause-reads
returns-in_err-more-clause-reads g c = reads_on _ _ _ _ c.loop-row.invariant.reads c.in_err-more.ensures.reads

pub returns-in_err-more-clause-refused : goal.returns-in_err-more-clause-refused
returns-in_err-more-clause-refused g c =
    passed_on _ _ _ c.from_residual.ensures.1 (inr (record {
      first = take c.loop-row.row-index c.args.rows.now;
      row = _;
      rest = drop (c.loop-row.row-index + 1) c.args.rows.now;
      are = at_row c.args.rows.now c.loop-row.row-index _ _ c.loop-row-test.true refl;
      found = c.loop-row.found.items;
      left = c.loop-row.left;
      walked = c.loop-row.invariant.walked;
      mid = c.loop-row.store;
      reads = c.loop-row.invariant.reads;
      why = c.in_err-more.ensures.refused;
    }))

pub returns-in_err-more-clause-known : goal.returns-in_err-more-clause-known
returns-in_err-more-clause-known g c =
    let first = c.loop-row.invariant.reads in
    let rest = c.in_err-more.ensures.reads in
    passed_on _ _ _ c.from_residual.ensures.1 (λ stored objects own blocks pool readings held are chains some long tell.
    let so_far = c.loop-row.invariant.value stored objects own blocks pool readings held are chains some (told_before _ _ _ _ first rest tell) in
    let few = rows_few _ _ _ _ _ _ _ c.loop-row.invariant.walked in
    c.in_err-more.ensures.known stored objects own blocks pool readings (first.keeps stored held) are chains (some c.loop-row.row-index _ c.loop-row-test.true)
    (enough_left pool c.args.rows.now c.loop-row.row-index _ _ c.loop-row.found.items c.args.left.now c.loop-row.left c.loop-row-test.true refl so_far few long)
    (told_after _ _ _ _ first rest tell))

pub returns-in_err-add-clause-reads : goal.returns-in_err-add-clause-reads
returns-in_err-add-clause-reads g c = reads_on _ _ _ _ c.loop-row.invariant.reads c.in_ok-more.ensures.reads

pub loop-row-preserved : goal.loop-row-preserved
loop-row-preserved g c =
    let first = c.loop-row.invariant.reads in
    let rest = c.in_ok-more.ensures.reads in
    record {
      reads = reads_on _ _ _ _ first rest;
      fewer = omega (arith, c.loop-row.invariant.fewer, c.in_ok-more.ensures.fewer);
      walked = next_row c.args.store.now c.loop-row.store c.args.missing.now c.args.set.now c.args.birth c.args.rows.now c.loop-row.row-index _ _ c.args.left.now c.loop-row.left
          c.walk_dataset.new.left c.loop-row.found.items c.in_ok-more.more.items c.add.new.found.items first c.loop-row-test.true c.in_ok-more.ensures.count refl
          c.loop-row.invariant.walked (c.in_ok-add.ensures ∙ ap (λ back. c.loop-row.found.items ++ back) c.deref.ensures.value);
      value = λ stored objects own blocks pool readings held are chains some tell.
          next_walked pool c.args.rows.now c.loop-row.row-index _ _ c.loop-row.found.items c.in_ok-more.more.items c.add.new.found.items c.loop-row-test.true refl
          (c.loop-row.invariant.value stored objects own blocks pool readings held are chains some (told_before _ _ _ _ first rest tell))
          (c.in_ok-more.ensures.blocks stored objects own blocks pool readings (first.keeps stored held) are chains (some c.loop-row.row-index _ c.loop-row-test.true)
          (told_after _ _ _ _ first rest tell))
          (c.in_ok-add.ensures ∙ ap (λ back. c.loop-row.found.items ++ back) c.deref.ensures.value);
    }

pub returns-clause-reads : goal.returns-clause-reads
returns-clause-reads g c = c.loop-row.invariant.reads

pub returns-clause-blocks : goal.returns-clause-blocks
returns-clause-blocks g c = λ stored objects own blocks pool readings held are chains some tell.
    c.loop-row.invariant.value stored objects own blocks pool readings held are chains some tell
    ∙ ap (reach_by pool) (take_all c.loop-row.row-index c.args.rows.now c.loop-row-test.false)

pub returns-clause-count : goal.returns-clause-count
returns-clause-count g c =
    subst (λ (rows : List DirectoryRow). AreRowsWalked c.args.store.now.spaces c.args.set.now c.args.birth rows c.args.left.now c.loop-row.left c.loop-row.found.items)
    (take_all c.loop-row.row-index c.args.rows.now c.loop-row-test.false) c.loop-row.invariant.walked
