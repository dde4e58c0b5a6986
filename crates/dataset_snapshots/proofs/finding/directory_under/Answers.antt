use Rattle.std.proofs.Common.{inl, inr, ⊎_elim}
use Rattle.std.proofs.lemmas.Result.{IfOk-weaker, IfErr-weaker}
use Rattle.block_store.proofs.Steps.{reads_on}
use Rattle.dnode_tree.proofs.FurtherReads.{told_before, told_after}
use Rattle.dnode_tree.proofs.Refusing.{passed_on}
use Rattle.dataset_snapshots.proofs.Datasets.{are_of_root, rows_found}
use Rattle.dataset_snapshots.proofs.finding.directory_under.Goals as goal

pub returns-in_err-set-clause-refused : goal.returns-in_err-set-clause-refused
returns-in_err-set-clause-refused g c = passed_on _ _ _ c.from_residual.ensures.1 (inr (inl c.in_err-set.ensures.refused))

pub returns-in_err-set-clause-known : goal.returns-in_err-set-clause-known
returns-in_err-set-clause-known g c =
    passed_on _ _ _ c.from_residual.ensures.1 (λ stored pool held is tell. c.in_err-set.ensures.known stored is.set held is.is_set is.kind tell)

pub returns-clause-reads : goal.returns-clause-reads
returns-clause-reads g c = reads_on _ _ _ _ c.in_ok-set.ensures.reads c.read_directory.ensures.reads

pub returns-clause-value : goal.returns-clause-value
returns-clause-value g c =
    let first = c.in_ok-set.ensures.reads in
    let second = c.read_directory.ensures.reads in
    IfOk-weaker c.read_directory.result _ _
    (λ directory one stored pool held is tell.
    let are = are_of_root stored _ _ pool _ is (c.in_ok-set.ensures.value stored is.set held is.is_set (told_before _ _ _ _ first second tell)) in
    one stored is.objects is.own is.blocks (first.keeps stored held) are (told_after _ _ _ _ first second tell) is.rows is.directory)
    c.read_directory.ensures.one

pub returns-clause-found : goal.returns-clause-found
returns-clause-found g c =
    IfOk-weaker c.read_directory.result _ _
    (λ directory found. (c.in_ok-set.set, rows_found _ _ _ _ _ _ _ c.in_ok-set.ensures.found c.in_ok-set.ensures.reads found))
    c.read_directory.ensures.found

pub returns-clause-refused : goal.returns-clause-refused
returns-clause-refused g c =
    IfErr-weaker c.read_directory.result _ _
    (λ refusal why. ⊎_elim (λ memory. inl memory) (λ rows. inr (inr (record {
      set = c.in_ok-set.set;
      meta = c.in_ok-set.ensures.found;
      mid = c.read_meta.new.store;
      before = c.in_ok-set.ensures.reads;
      why = rows;
    }))) why)
    c.read_directory.ensures.refused

pub returns-clause-known : goal.returns-clause-known
returns-clause-known g c =
    let first = c.in_ok-set.ensures.reads in
    let second = c.read_directory.ensures.reads in
    IfErr-weaker c.read_directory.result _ _
    (λ refusal known stored pool held is tell.
    let are = are_of_root stored _ _ pool _ is (c.in_ok-set.ensures.value stored is.set held is.is_set (told_before _ _ _ _ first second tell)) in
    ⊎_elim (λ loss. loss) (λ bad. absurd (bad.1 is.rows is.directory)) (known stored is.objects is.own is.blocks (first.keeps stored held) are (told_after _ _ _ _ first second tell)))
    c.read_directory.ensures.known
