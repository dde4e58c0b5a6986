use Rattle.std.proofs.Common.{◌∙◌, ℕ, inr, Contains, List, get_or, sym, subst, arith}
use Rattle.std.specs.List.{AllZip}
use Rattle.std.proofs.lemmas.List.{take_all}
use Rattle.std.proofs.lemmas.List.Elements.{Contains-get_or}
use Rattle.std.proofs.lemmas.List.Kept.{AllPairs-from_increasing}
use Rattle.block_store.proofs.Steps.{reads_on}
use Rattle.dataset_groups.specs.States.{set_of}
use Rattle.dataset_groups.specs.declared.datasets.GroupDatasets.{GroupDatasets}
use Rattle.dataset_groups.specs.declared.writing.WrittenHead.{WrittenHead}
use Rattle.dataset_groups.specs.Writing.{FitsHead}
use Rattle.dnode_tree.proofs.FurtherReads.{told_before, told_after}
use Rattle.dnode_tree.proofs.Refusing.{passed_on}
use Rattle.meta_objset.specs.declared.directory.DirectoryRow.{DirectoryRow}
use Rattle.dataset_snapshots.specs.Opening.{IsWrittenOf}
use Rattle.dataset_snapshots.specs.Pools.{SpellsDataset}
use Rattle.dataset_snapshots.specs.Writing.{IsReadFrom}
use Rattle.dataset_snapshots.proofs.HeadsRead.{found_first, from_kept, kept_on, objects_kept, rows_kept, unread_last}
use Rattle.dataset_snapshots.proofs.Pushing.{all_more, mapped_more}
use Rattle.dataset_snapshots.proofs.writing.read_written.Goals as goal

pub read_one-requires-clause-row : goal.read_one-requires-clause-row
read_one-requires-clause-row g c =
    let there = c.requires.rows c.loop-object.object-index 0 c.loop-object-test.true in
    (there.0, (subst (λ (rows : List DirectoryRow). Contains rows there.0) (sym c.loop-object.invariant.kept.directory) there.1.0, there.1.1))

pub read_one-requires-clause-born : goal.read_one-requires-clause-born
read_one-requires-clause-born g c = c.loop-object.invariant.kept.one_set.1 ∙ c.requires.born

pub read_one-requires-clause-unread : goal.read_one-requires-clause-unread
read_one-requires-clause-unread g c = c.loop-object.invariant.unread c.loop-object.object-index (omega arith) c.loop-object-test.true

pub returns-in_err-head-clause-reads : goal.returns-in_err-head-clause-reads
returns-in_err-head-clause-reads g c = reads_on _ _ _ _ c.loop-object.invariant.reads c.read_one.ensures.reads

pub returns-in_err-head-clause-known : goal.returns-in_err-head-clause-known
returns-in_err-head-clause-known g c =
    let first = c.loop-object.invariant.reads in
    let second = c.read_one.ensures.reads in
    let old : GroupDatasets = c.args.datasets.now in
    let mid : GroupDatasets = c.loop-object.datasets in
    let kept = c.loop-object.invariant.kept in
    passed_on _ _ _ c.from_residual.ensures.1
    (λ stored there own blocks volumes held are spelled tell.
    let so_far = c.loop-object.invariant.value stored there own blocks held are (told_before _ _ _ _ first second tell) in
    c.in_err-head.ensures.known stored there own blocks volumes (first.keeps stored held) (objects_kept old mid kept stored c.args.birth there own blocks are)
    (rows_kept old mid kept (λ (rows : List DirectoryRow). AllZip (SpellsDataset stored c.args.birth there) rows volumes) spelled) (told_after _ _ _ _ first second tell) so_far.2)

pub returns-in_err-head-clause-refused : goal.returns-in_err-head-clause-refused
returns-in_err-head-clause-refused g c =
    passed_on _ _ _ c.from_residual.ensures.1
    (inr (unread_last c.args.datasets.now c.loop-object.datasets c.loop-object.invariant.kept c.args.store.now c.loop-object.store c.args.birth c.args.items.now.writes c.loop-object.invariant.reads
    c.read_one.new.store c.args.objects.now (get_or c.args.objects.now c.loop-object.object-index 0) _ (Contains-get_or c.args.objects.now c.loop-object.object-index 0 c.loop-object-test.true)
    c.in_err-head.ensures.refused))

pub returns-in_err-push-clause-reads : goal.returns-in_err-push-clause-reads
returns-in_err-push-clause-reads g c = reads_on _ _ _ _ c.loop-object.invariant.reads c.read_one.ensures.reads

pub loop-object-preserved : goal.loop-object-preserved
loop-object-preserved g c =
    let so_far : List WrittenHead = c.loop-object.read.items in
    let one : WrittenHead = c.in_ok-head.head in
    let now : List WrittenHead = c.push.new.read.items in
    let first = c.loop-object.invariant.reads in
    let second = c.read_one.ensures.reads in
    let old : GroupDatasets = c.args.datasets.now in
    let mid : GroupDatasets = c.loop-object.datasets in
    let new : GroupDatasets = c.read_one.new.datasets in
    let kept = c.loop-object.invariant.kept in
    let index = c.loop-object.object-index in
    let objects : List ℕ = c.args.objects.now in
    record {
      reads = reads_on _ _ _ _ first second;
      kept = kept_on old mid new kept c.in_ok-head.ensures.kept;
      unread = λ j le lt.
          let above = AllPairs-from_increasing objects c.requires.once index j 0 (omega (arith, le)) lt in
          c.in_ok-head.ensures.others (get_or objects j 0) (λ same. omega (arith, same, above)) ∙ c.loop-object.invariant.unread j (omega (arith, le)) lt;
      numbers = mapped_more (λ (head : WrittenHead). head.number) so_far now one objects index 0 c.in_ok-push.ensures c.in_ok-head.ensures.number c.loop-object-test.true
          c.loop-object.invariant.numbers;
      fits = all_more FitsHead so_far now one c.in_ok-push.ensures c.loop-object.invariant.fits c.in_ok-head.ensures.fits;
      value = λ stored there own blocks held are tell.
          let before = c.loop-object.invariant.value stored there own blocks held are (told_before _ _ _ _ first second tell) in
          let more = c.in_ok-head.ensures.value stored there own blocks (first.keeps stored held) (objects_kept old mid kept stored c.args.birth there own blocks are)
          (told_after _ _ _ _ first second tell) before.2 in (
            all_more (IsReadFrom stored c.args.birth there c.args.items.now.writes old.directory) so_far now one c.in_ok-push.ensures before.0
                (from_kept old mid kept (λ (rows : List DirectoryRow). IsReadFrom stored c.args.birth there c.args.items.now.writes rows one) more.0),
            λ known group pool readings plain spells. more.1 known group pool readings plain (before.1 known group pool readings plain spells),
            more.2,
          );
      found = all_more (IsWrittenOf c.args.store.now.spaces (set_of old.changes) c.args.birth c.args.items.now.writes old.directory) so_far now one c.in_ok-push.ensures c.loop-object.invariant.found
          (found_first old mid kept c.args.store.now c.loop-object.store c.args.birth c.args.items.now.writes first one c.in_ok-head.ensures.found);
    }

pub returns-clause-kept : goal.returns-clause-kept
returns-clause-kept g c = c.loop-object.invariant.kept

pub returns-clause-numbers : goal.returns-clause-numbers
returns-clause-numbers g c = c.loop-object.invariant.numbers ∙ take_all c.loop-object.object-index c.args.objects.now c.loop-object-test.false

pub returns-clause-value : goal.returns-clause-value
returns-clause-value g c = λ stored there own blocks held are tell.
    let so_far = c.loop-object.invariant.value stored there own blocks held are tell in
    (so_far.0, so_far.1)

pub returns-clause-found : goal.returns-clause-found
returns-clause-found g c = c.loop-object.invariant.found
