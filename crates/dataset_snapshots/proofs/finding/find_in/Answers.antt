use Rattle.std.proofs.Common.{ℕ, Option, List, None, inl, inr, ⊎_elim, subst}
use Rattle.block_store.proofs.Steps.{reads_none, reads_on}
use Rattle.dnode_tree.proofs.FurtherReads.{told_before, told_after}
use Rattle.dnode_tree.proofs.Refusing.{passed_on}
use Rattle.meta_objset.specs.declared.directory.DirectoryRow.{DirectoryRow}
use Rattle.dataset_snapshots.specs.Finding.{IsNumberIn, IsRowOf}
use Rattle.dataset_snapshots.proofs.Datasets.{are_of_root, dataset_found_in, dataset_there, nothing_there, record_there}
use Rattle.dataset_snapshots.proofs.finding.find_in.Goals as goal

pub returns-in_default-clause-reads : goal.returns-in_default-clause-reads
returns-in_default-clause-reads g c = reads_none c.args.store.now c.args.missing.now

pub returns-in_default-clause-value : goal.returns-in_default-clause-value
returns-in_default-clause-value g c = λ stored pool held is same tell.
    let none = subst (λ (found : Option ℕ). IsNumberIn c.args.directory.now c.args.name.now found) c.in_default.is c.number_in.ensures in
    nothing_there stored _ _ pool c.args.name.now is (subst (λ (rows : List DirectoryRow). IsNumberIn rows c.args.name.now None) same none)

pub returns-in_default-clause-found : goal.returns-in_default-clause-found
returns-in_default-clause-found g c = subst (λ (found : Option ℕ). IsNumberIn c.args.directory.now c.args.name.now found) c.in_default.is c.number_in.ensures

pub returns-in_err-set-clause-refused : goal.returns-in_err-set-clause-refused
returns-in_err-set-clause-refused g c =
    let row = subst (λ (found : Option ℕ). IsNumberIn c.args.directory.now c.args.name.now found) c.in-Some.is c.number_in.ensures in
    passed_on _ _ _ c.from_residual.ensures.1 (inr (c.in-Some.object, row, inl c.in_err-set.ensures.refused))

pub returns-in_err-set-clause-known : goal.returns-in_err-set-clause-known
returns-in_err-set-clause-known g c =
    passed_on _ _ _ c.from_residual.ensures.1 (λ stored pool held is same tell. c.in_err-set.ensures.known stored is.set held is.is_set is.kind tell)

pub returns-in_err-dataset-clause-reads : goal.returns-in_err-dataset-clause-reads
returns-in_err-dataset-clause-reads g c = reads_on _ _ _ _ c.in_ok-set.ensures.reads c.in_err-dataset.ensures.reads

pub returns-in_err-dataset-clause-refused : goal.returns-in_err-dataset-clause-refused
returns-in_err-dataset-clause-refused g c =
    let row = subst (λ (found : Option ℕ). IsNumberIn c.args.directory.now c.args.name.now found) c.in-Some.is c.number_in.ensures in
    passed_on _ _ _ c.from_residual-in_err-dataset.ensures.1
    (⊎_elim (λ memory. inl memory) (λ why. inr (
      c.in-Some.object,
      row,
      inr (record {
        set = c.in_ok-set.set;
        meta = c.in_ok-set.ensures.found;
        mid = c.read_meta.new.store;
        before = c.in_ok-set.ensures.reads;
        why = why;
      }),
    )) c.in_err-dataset.ensures.refused)

pub returns-in_err-dataset-clause-known : goal.returns-in_err-dataset-clause-known
returns-in_err-dataset-clause-known g c =
    let first = c.in_ok-set.ensures.reads in
    let second = c.in_err-dataset.ensures.reads in
    let row = subst (λ (found : Option ℕ). IsNumberIn c.args.directory.now c.args.name.now found) c.in-Some.is c.number_in.ensures in
    passed_on _ _ _ c.from_residual-in_err-dataset.ensures.1
    (λ stored pool held is same tell.
    let are = are_of_root stored _ _ pool _ is (c.in_ok-set.ensures.value stored is.set held is.is_set (told_before _ _ _ _ first second tell)) in
    let there = record_there stored _ _ pool c.args.name.now c.in-Some.object is (subst (λ (rows : List DirectoryRow). IsRowOf rows c.args.name.now c.in-Some.object) same row) in
    c.in_err-dataset.ensures.known stored is.objects is.own is.blocks there.0 (first.keeps stored held) are there.1 (told_after _ _ _ _ first second tell))

pub returns-clause-reads : goal.returns-clause-reads
returns-clause-reads g c = reads_on _ _ _ _ c.in_ok-set.ensures.reads c.in_ok-dataset.ensures.reads

pub returns-clause-value : goal.returns-clause-value
returns-clause-value g c = λ stored pool held is same tell.
    let first = c.in_ok-set.ensures.reads in
    let second = c.in_ok-dataset.ensures.reads in
    let row = subst (λ (found : Option ℕ). IsNumberIn c.args.directory.now c.args.name.now found) c.in-Some.is c.number_in.ensures in
    let are = are_of_root stored _ _ pool _ is (c.in_ok-set.ensures.value stored is.set held is.is_set (told_before _ _ _ _ first second tell)) in
    dataset_there stored _ _ pool c.args.name.now c.in_ok-dataset.dataset c.in-Some.object is (subst (λ (rows : List DirectoryRow). IsRowOf rows c.args.name.now c.in-Some.object) same row)
    c.in_ok-dataset.ensures.is
    (λ r has. c.in_ok-dataset.ensures.value stored is.objects is.own is.blocks r (first.keeps stored held) are has (told_after _ _ _ _ first second tell))

pub returns-clause-found : goal.returns-clause-found
returns-clause-found g c =
    let row = subst (λ (found : Option ℕ). IsNumberIn c.args.directory.now c.args.name.now found) c.in-Some.is c.number_in.ensures in
    dataset_found_in _ _ _ _ _ _ _ _ c.in-Some.object c.in_ok-dataset.dataset row c.in_ok-set.ensures.found c.in_ok-set.ensures.reads c.in_ok-dataset.ensures.object c.in_ok-dataset.ensures.is
    c.in_ok-dataset.ensures.found

pub returns-clause-idle : goal.returns-clause-idle
returns-clause-idle g c = λ none. absurd (cc)
