use Rattle.std.proofs.Common.{◌≡◌, ◌≢◌, ◌∙◌, ◌≤◌, All, List, inl, inr, ⊎_elim, ap, subst, length}
use Rattle.std.proofs.lemmas.Result.{IfOk-weaker, IfErr-weaker}
use Rattle.block_store.proofs.Steps.{reads_on}
use Rattle.block_store.specs.Spaces.{VdevSpace}
use Rattle.block_store.specs.Losses.{IsForLoss}
use Rattle.block_store.specs.Store.{Store}
use Rattle.dataset_groups.specs.Names.{reach_by}
use Rattle.dead_list.specs.Datasets.{Free}
use Rattle.dnode_tree.proofs.FurtherReads.{told_before, told_after}
use Rattle.dnode_tree.proofs.Refusing.{passed_on}
use Rattle.meta_objset.specs.declared.directory.DirectoryRow.{DirectoryRow}
use Rattle.dataset_snapshots.specs.Reach.{AreRowsWalked, IsRowUnwalked}
use Rattle.dataset_snapshots.proofs.walks.walk_volumes.Goals as goal

pub returns-in_err-directory-clause-refused : goal.returns-in_err-directory-clause-refused
returns-in_err-directory-clause-refused g c =
    passed_on _ _ _ c.from_residual.ensures.1 (⊎_elim (λ memory. inl memory) (λ why. inr (inl why)) c.in_err-directory.ensures.refused)

pub returns-in_err-directory-clause-known : goal.returns-in_err-directory-clause-known
returns-in_err-directory-clause-known g c =
    passed_on _ _ _ c.from_residual.ensures.1 (λ stored objects own blocks pool readings rows held are has chains some long tell.
    ⊎_elim (λ loss. loss) (λ bad. absurd (bad.1 rows has)) (c.in_err-directory.ensures.known stored objects own blocks held are tell))

pub returns-clause-reads : goal.returns-clause-reads
returns-clause-reads g c = reads_on _ _ _ _ c.in_ok-directory.ensures.reads c.walk_rows.ensures.reads

pub returns-clause-blocks : goal.returns-clause-blocks
returns-clause-blocks g c =
    let first = c.in_ok-directory.ensures.reads in
    let rest = c.walk_rows.ensures.reads in
    IfOk-weaker c.walk_rows.result _ _
    (λ found told stored objects own blocks pool readings rows held are has chains some tell.
    let rows_are : c.rows.result.now ≡ rows = c.rows.ensures.value ∙ c.in_ok-directory.ensures.one stored objects own blocks held are (told_before _ _ _ _ first rest tell) rows has in
    subst (λ (rs : List DirectoryRow). All (λ row. (pool.datasets row.object).kind ≢ Free) rs → found.items ≡ reach_by pool rs) rows_are
    (λ each. told stored objects own blocks pool readings (first.keeps stored held) are chains each (told_after _ _ _ _ first rest tell)) some)
    c.walk_rows.ensures.blocks

pub returns-clause-count : goal.returns-clause-count
returns-clause-count g c =
    IfOk-weaker c.walk_rows.result _ _
    (λ found walked. record {
      rows = c.in_ok-directory.directory;
      directory = c.in_ok-directory.ensures.found;
      walked = subst (λ (rows : List DirectoryRow). AreRowsWalked c.args.store.now.spaces c.args.set.now c.args.birth rows c.args.left.now c.walk_rows.new.left found.items) c.rows.ensures.value
          (subst (λ (spaces : List VdevSpace). AreRowsWalked spaces c.args.set.now c.args.birth c.rows.result.now c.args.left.now c.walk_rows.new.left found.items)
          (ap (λ (s : Store). s.spaces) c.in_ok-directory.ensures.reads.rest) walked);
    })
    c.walk_rows.ensures.count

pub returns-clause-refused : goal.returns-clause-refused
returns-clause-refused g c =
    IfErr-weaker c.walk_rows.result _ _
    (λ refusal. ⊎_elim (λ memory. inl memory) (λ why. inr (inr (record {
      rows = c.in_ok-directory.directory;
      directory = c.in_ok-directory.ensures.found;
      mid = c.read_directory.new.store;
      first = c.in_ok-directory.ensures.reads;
      why = subst (λ (rows : List DirectoryRow). IsRowUnwalked c.read_directory.new.store c.walk_rows.new.store c.args.missing.now c.args.set.now c.args.birth rows c.args.left.now c.walk_rows.new.left refusal)
          c.rows.ensures.value why;
    }))))
    c.walk_rows.ensures.refused

pub returns-clause-known : goal.returns-clause-known
returns-clause-known g c =
    let first = c.in_ok-directory.ensures.reads in
    let rest = c.walk_rows.ensures.reads in
    IfErr-weaker c.walk_rows.result _ _
    (λ refusal known stored objects own blocks pool readings rows held are has chains some long tell.
    let rows_are : c.rows.result.now ≡ rows = c.rows.ensures.value ∙ c.in_ok-directory.ensures.one stored objects own blocks held are (told_before _ _ _ _ first rest tell) rows has in
    subst (λ (rs : List DirectoryRow). All (λ row. (pool.datasets row.object).kind ≢ Free) rs → length (reach_by pool rs) ≤ c.args.left.now → IsForLoss refusal) rows_are
    (λ each enough. known stored objects own blocks pool readings (first.keeps stored held) are chains each enough (told_after _ _ _ _ first rest tell)) some long)
    c.walk_rows.ensures.known
