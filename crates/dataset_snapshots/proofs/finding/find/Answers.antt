use Rattle.std.proofs.Common.{ℕ, Option, inl, inr, ⊎_elim, subst}
use Rattle.block_store.proofs.Steps.{reads_on}
use Rattle.dnode_tree.proofs.FurtherReads.{told_before, told_after}
use Rattle.dnode_tree.proofs.Refusing.{passed_on}
use Rattle.dataset_snapshots.specs.Finding.{IsNumberIn}
use Rattle.dataset_snapshots.proofs.Datasets.{are_of_root, dataset_found, dataset_there, nothing_there, record_there, rows_found}
use Rattle.dataset_snapshots.proofs.finding.find.Goals as goal

pub returns-in_err-set-clause-known : goal.returns-in_err-set-clause-known
returns-in_err-set-clause-known g c =
    passed_on _ _ _ c.from_residual.ensures.1 (λ stored pool held is tell. c.in_err-set.ensures.known stored is.set held is.is_set is.kind tell)

pub returns-in_err-number-clause-reads : goal.returns-in_err-number-clause-reads
returns-in_err-number-clause-reads g c = reads_on _ _ _ _ c.in_ok-set.ensures.reads c.in_err-number.ensures.reads

pub returns-in_err-number-clause-refused : goal.returns-in_err-number-clause-refused
returns-in_err-number-clause-refused g c =
    passed_on _ _ _ c.from_residual-in_err-number.ensures.1
    (⊎_elim (λ memory. inl memory) (λ why. inr (inr (inl (record {
      set = c.in_ok-set.set;
      meta = c.in_ok-set.ensures.found;
      mid = c.read_meta.new.store;
      before = c.in_ok-set.ensures.reads;
      why = why;
    })))) c.in_err-number.ensures.refused)

pub returns-in_err-number-clause-known : goal.returns-in_err-number-clause-known
returns-in_err-number-clause-known g c =
    let first = c.in_ok-set.ensures.reads in
    let second = c.in_err-number.ensures.reads in
    passed_on _ _ _ c.from_residual-in_err-number.ensures.1
    (λ stored pool held is tell.
    let are = are_of_root stored _ _ pool _ is (c.in_ok-set.ensures.value stored is.set held is.is_set (told_before _ _ _ _ first second tell)) in
    c.in_err-number.ensures.known stored is.objects is.own is.blocks is.rows (first.keeps stored held) are is.directory (told_after _ _ _ _ first second tell))

pub returns-in_default-clause-reads : goal.returns-in_default-clause-reads
returns-in_default-clause-reads g c = reads_on _ _ _ _ c.in_ok-set.ensures.reads c.in_ok-number.ensures.reads

pub returns-in_default-clause-value : goal.returns-in_default-clause-value
returns-in_default-clause-value g c = λ stored pool held is tell.
    let first = c.in_ok-set.ensures.reads in
    let second = c.in_ok-number.ensures.reads in
    let are = are_of_root stored _ _ pool _ is (c.in_ok-set.ensures.value stored is.set held is.is_set (told_before _ _ _ _ first second tell)) in
    let number = c.in_ok-number.ensures.value stored is.objects is.own is.blocks is.rows (first.keeps stored held) are is.directory (told_after _ _ _ _ first second tell) in
    nothing_there stored _ _ pool c.args.name.now is (subst (λ (found : Option ℕ). IsNumberIn is.rows c.args.name.now found) c.in_default.is number)

pub returns-in_err-dataset-clause-reads : goal.returns-in_err-dataset-clause-reads
returns-in_err-dataset-clause-reads g c =
    reads_on _ _ _ _ (reads_on _ _ _ _ c.in_ok-set.ensures.reads c.in_ok-number.ensures.reads) c.in_err-dataset.ensures.reads

pub returns-in_err-dataset-clause-refused : goal.returns-in_err-dataset-clause-refused
returns-in_err-dataset-clause-refused g c =
    let first = c.in_ok-set.ensures.reads in
    let rows = c.in_ok-number.ensures.found in
    passed_on _ _ _ c.from_residual-in_err-dataset.ensures.1
    (⊎_elim (λ memory. inl memory) (λ why. inr (inr (inr (record {
      set = c.in_ok-set.set;
      rows = rows.0;
      read = rows_found _ _ _ _ _ _ _ c.in_ok-set.ensures.found first rows.1;
      object = c.in-Some.object;
      is_row = subst (λ (found : Option ℕ). IsNumberIn rows.0 c.args.name.now found) c.in-Some.is rows.2;
      mid = c.object_of.new.store;
      before = reads_on _ _ _ _ first c.in_ok-number.ensures.reads;
      why = why;
    })))) c.in_err-dataset.ensures.refused)

pub returns-in_err-dataset-clause-known : goal.returns-in_err-dataset-clause-known
returns-in_err-dataset-clause-known g c =
    let first = c.in_ok-set.ensures.reads in
    let second = c.in_ok-number.ensures.reads in
    let both = reads_on _ _ _ _ first second in
    let third = c.in_err-dataset.ensures.reads in
    passed_on _ _ _ c.from_residual-in_err-dataset.ensures.1
    (λ stored pool held is tell.
    let before = told_before _ _ _ _ both third tell in
    let are = are_of_root stored _ _ pool _ is (c.in_ok-set.ensures.value stored is.set held is.is_set (told_before _ _ _ _ first second before)) in
    let number = c.in_ok-number.ensures.value stored is.objects is.own is.blocks is.rows (first.keeps stored held) are is.directory (told_after _ _ _ _ first second before) in
    let there = record_there stored _ _ pool c.args.name.now c.in-Some.object is (subst (λ (found : Option ℕ). IsNumberIn is.rows c.args.name.now found) c.in-Some.is number) in
    c.in_err-dataset.ensures.known stored is.objects is.own is.blocks there.0 (both.keeps stored held) are there.1 (told_after _ _ _ _ both third tell))

pub returns-clause-reads : goal.returns-clause-reads
returns-clause-reads g c =
    reads_on _ _ _ _ (reads_on _ _ _ _ c.in_ok-set.ensures.reads c.in_ok-number.ensures.reads) c.in_ok-dataset.ensures.reads

pub returns-clause-value : goal.returns-clause-value
returns-clause-value g c = λ stored pool held is tell.
    let first = c.in_ok-set.ensures.reads in
    let second = c.in_ok-number.ensures.reads in
    let both = reads_on _ _ _ _ first second in
    let third = c.in_ok-dataset.ensures.reads in
    let before = told_before _ _ _ _ both third tell in
    let are = are_of_root stored _ _ pool _ is (c.in_ok-set.ensures.value stored is.set held is.is_set (told_before _ _ _ _ first second before)) in
    let number = c.in_ok-number.ensures.value stored is.objects is.own is.blocks is.rows (first.keeps stored held) are is.directory (told_after _ _ _ _ first second before) in
    dataset_there stored _ _ pool c.args.name.now c.in_ok-dataset.dataset c.in-Some.object is (subst (λ (found : Option ℕ). IsNumberIn is.rows c.args.name.now found) c.in-Some.is number)
    c.in_ok-dataset.ensures.is
    (λ r has. c.in_ok-dataset.ensures.value stored is.objects is.own is.blocks r (both.keeps stored held) are has (told_after _ _ _ _ both third tell))

pub returns-clause-found : goal.returns-clause-found
returns-clause-found g c =
    let first = c.in_ok-set.ensures.reads in
    let rows = c.in_ok-number.ensures.found in
    let read = rows_found _ _ _ _ _ _ _ c.in_ok-set.ensures.found first rows.1 in
    dataset_found _ _ _ _ _ _ _ _ c.in-Some.object c.in_ok-dataset.dataset read
    (subst (λ (found : Option ℕ). IsNumberIn rows.0 c.args.name.now found) c.in-Some.is rows.2)
    (reads_on _ _ _ _ first c.in_ok-number.ensures.reads) c.in_ok-dataset.ensures.object c.in_ok-dataset.ensures.is c.in_ok-dataset.ensures.found
