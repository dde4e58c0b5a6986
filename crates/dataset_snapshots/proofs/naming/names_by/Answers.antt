use Rattle.std.proofs.Common.{◌≡◌, ◌∙◌, ◌⊎◌, List, inl, inr, ⊎_elim, sym, subst}
use Rattle.std.specs.Prelude.{Result, Ok, Err, IfOk, OnOk}
use Rattle.std.specs.List.{AllZip}
use Rattle.std.proofs.lemmas.Result.{IfOk-weaker, IfErr-weaker}
use Rattle.block_store.proofs.Steps.{reads_on}
use Rattle.block_store.specs.Spaces.{VdevSpace}
use Rattle.dataset_groups.specs.Names.{NamesPool}
use Rattle.dnode_tree.proofs.FurtherReads.{told_before, told_after}
use Rattle.dnode_tree.proofs.Refusing.{passed_on}
use Rattle.meta_objset.specs.declared.directory.DirectoryRow.{DirectoryRow}
use Rattle.object_table.proofs.Tables.{spaces_stay}
use Rattle.dataset_snapshots.specs.Contents.{AreChainsFound, AreUnchained, AreVolumesNamed, IsRowUnnamed}
use Rattle.dataset_snapshots.specs.Pools.{SpellsDataset}
use Rattle.dataset_snapshots.proofs.Chained.{volumes_of}
use Rattle.dataset_snapshots.proofs.Datasets.{are_of_root}
use Rattle.dataset_snapshots.proofs.naming.names_by.Goals as goal

ok_and : {T E : Type 0} (r : Result T E) (P Q : T → Type 0) (R : Type 0) → ((x : T) → P x → R → Q x) → IfOk r P → OnOk r R → IfOk r Q
ok_and (Ok x) P Q R both p more = both x p more
ok_and (Err e) P Q R both p more = tt

pub returns-in_err-set-clause-refused : goal.returns-in_err-set-clause-refused
returns-in_err-set-clause-refused g c = passed_on _ _ _ c.from_residual.ensures.1 (inr (inl c.in_err-set.ensures.refused))

pub returns-in_err-set-clause-known : goal.returns-in_err-set-clause-known
returns-in_err-set-clause-known g c =
    passed_on _ _ _ c.from_residual.ensures.1 (λ stored pool held is same tell. c.in_err-set.ensures.known stored is.set held is.is_set is.kind tell)

pub returns-clause-reads : goal.returns-clause-reads
returns-clause-reads g c = reads_on _ _ _ _ c.in_ok-set.ensures.reads c.names_of.ensures.reads

pub returns-clause-value : goal.returns-clause-value
returns-clause-value g c =
    let first = c.in_ok-set.ensures.reads in
    let rest = c.names_of.ensures.reads in
    IfOk-weaker c.names_of.result _ _
    (λ names told stored pool held is same tell.
    let are = are_of_root stored _ _ pool _ is (c.in_ok-set.ensures.value stored is.set held is.is_set (told_before _ _ _ _ first rest tell)) in
    let rows_are : c.rows.result.now ≡ is.rows = c.rows.ensures.value ∙ same in
    told stored is.objects is.own is.blocks pool.volumes is.datasets is.readings (first.keeps stored held) are
    (subst (λ (rows : List DirectoryRow). AllZip (SpellsDataset stored c.args.root.now.birth is.objects) rows pool.volumes) (sym rows_are) (volumes_of is)) is.chains
    (subst (λ (rows : List DirectoryRow). NamesPool is.datasets is.readings rows pool) (sym rows_are) is.names) (told_after _ _ _ _ first rest tell))
    c.names_of.ensures.value

-- by the rows of the directory, and the spaces before the root was read
pub returns-clause-found : goal.returns-clause-found
returns-clause-found g c =
    let set = c.in_ok-set.set in
    let birth = c.args.root.now.birth in
    let stay = spaces_stay _ _ _ c.in_ok-set.ensures.reads in
    ok_and c.names_of.result _ _ _
    (λ names found chains. record {
      set = set;
      meta = c.in_ok-set.ensures.found;
      volumes = subst (λ (rows : List DirectoryRow). AreVolumesNamed c.args.store.now.spaces set birth rows names) c.rows.ensures.value
          (subst (λ (spaces : List VdevSpace). AreVolumesNamed spaces set birth c.rows.result.now names) stay found);
      chains = subst (λ (rows : List DirectoryRow). AreChainsFound c.args.store.now.spaces set birth rows) c.rows.ensures.value
          (subst (λ (spaces : List VdevSpace). AreChainsFound spaces set birth c.rows.result.now) stay chains);
    })
    c.names_of.ensures.found c.names_of.ensures.chains

pub returns-clause-refused : goal.returns-clause-refused
returns-clause-refused g c =
    let set = c.in_ok-set.set in
    let mid = c.read_meta.new.store in
    let birth = c.args.root.now.birth in
    IfErr-weaker c.names_of.result _ _
    (λ refusal. ⊎_elim (λ memory. inl memory) (λ why. inr (inr (record {
      set = set;
      meta = c.in_ok-set.ensures.found;
      mid = mid;
      first = c.in_ok-set.ensures.reads;
      why = subst (λ (rows : List DirectoryRow). IsRowUnnamed mid c.names_of.new.store c.args.missing.now set birth rows refusal ⊎ AreUnchained mid.spaces set birth rows refusal)
          c.rows.ensures.value why;
    }))))
    c.names_of.ensures.refused

pub returns-clause-known : goal.returns-clause-known
returns-clause-known g c =
    let first = c.in_ok-set.ensures.reads in
    let rest = c.names_of.ensures.reads in
    IfErr-weaker c.names_of.result _ _
    (λ refusal known stored pool held is same tell.
    let are = are_of_root stored _ _ pool _ is (c.in_ok-set.ensures.value stored is.set held is.is_set (told_before _ _ _ _ first rest tell)) in
    let rows_are : c.rows.result.now ≡ is.rows = c.rows.ensures.value ∙ same in
    known stored is.objects is.own is.blocks pool.volumes is.datasets is.readings (first.keeps stored held) are
    (subst (λ (rows : List DirectoryRow). AllZip (SpellsDataset stored c.args.root.now.birth is.objects) rows pool.volumes) (sym rows_are) (volumes_of is)) is.chains
    (subst (λ (rows : List DirectoryRow). NamesPool is.datasets is.readings rows pool) (sym rows_are) is.names) (told_after _ _ _ _ first rest tell))
    c.names_of.ensures.known
