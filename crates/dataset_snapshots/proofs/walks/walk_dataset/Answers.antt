use Rattle.std.proofs.Common.{◌≡◌, ◌∙◌, List, inl, inr, ⊎_elim, sym, ap, subst, arith}
use Rattle.std.proofs.lemmas.Result.{IfOk-weaker, IfErr-weaker}
use Rattle.block_store.proofs.Steps.{reads_on}
use Rattle.block_store.specs.Losses.{IsForLoss}
use Rattle.block_store.specs.Spaces.{VdevSpace}
use Rattle.dnode_tree.proofs.FurtherReads.{told_before, told_after}
use Rattle.dnode_tree.proofs.Refusing.{passed_on}
use Rattle.meta_objset.specs.declared.record.DatasetRecord.{DatasetRecord}
use Rattle.object_table.proofs.Tables.{spaces_stay}
use Rattle.volume.specs.Younger.{IsYoungerVolumeWalked}
use Rattle.dataset_snapshots.specs.Reach.{IsGroupBefore}
use Rattle.dataset_snapshots.proofs.ChainWalks.{own_enough, own_walked}
use Rattle.dataset_snapshots.proofs.walks.walk_dataset.Goals as goal

pub returns-in_err-dataset-clause-refused : goal.returns-in_err-dataset-clause-refused
returns-in_err-dataset-clause-refused g c = passed_on _ _ _ c.from_residual.ensures.1 (⊎_elim (λ memory. inl memory) (λ why. inr (inl why)) c.in_err-dataset.ensures.refused)

pub returns-in_err-dataset-clause-known : goal.returns-in_err-dataset-clause-known
returns-in_err-dataset-clause-known g c =
    passed_on _ _ _ c.from_residual.ensures.1 (λ stored objects own blocks pool readings held are chains some long tell.
    let stands = chains.each c.args.object some in
    c.in_err-dataset.ensures.known stored objects own blocks stands.r held are stands.has tell)

pub returns-in_err-since-clause-reads : goal.returns-in_err-since-clause-reads
returns-in_err-since-clause-reads g c = reads_on _ _ _ _ c.in_ok-dataset.ensures.reads c.in_err-since.ensures.reads

pub returns-in_err-since-clause-refused : goal.returns-in_err-since-clause-refused
returns-in_err-since-clause-refused g c =
    passed_on _ _ _ c.from_residual-in_err-since.ensures.1 (⊎_elim (λ memory. inl memory) (λ (some, why). inr (inr (inl (record {
      dataset = c.in_ok-dataset.dataset;
      has = c.in_ok-dataset.ensures.found;
      some = some;
      mid = c.read_dataset.new.store;
      first = c.in_ok-dataset.ensures.reads;
      why = why;
    })))) c.in_err-since.ensures.refused)

pub returns-in_err-since-clause-known : goal.returns-in_err-since-clause-known
returns-in_err-since-clause-known g c =
    let first = c.in_ok-dataset.ensures.reads in
    let rest = c.in_err-since.ensures.reads in
    passed_on _ _ _ c.from_residual-in_err-since.ensures.1 (λ stored objects own blocks pool readings held are chains some long tell.
    let stands = chains.each c.args.object some in
    let is_record : c.in_ok-dataset.dataset.record ≡ stands.r =
    c.in_ok-dataset.ensures.value stored objects own blocks stands.r held are stands.has (told_before _ _ _ _ first rest tell) in
    c.in_err-since.ensures.known stored objects own blocks pool readings c.args.object (first.keeps stored held) are chains
    (stands.is.previous ∙ ap (λ (r : DatasetRecord). r.previous) (sym is_record)) (told_after _ _ _ _ first rest tell))

pub returns-clause-reads : goal.returns-clause-reads
returns-clause-reads g c = reads_on _ _ _ _ (reads_on _ _ _ _ c.in_ok-dataset.ensures.reads c.in_ok-since.ensures.reads) c.walk_younger.ensures.reads

pub returns-clause-blocks : goal.returns-clause-blocks
returns-clause-blocks g c =
    let first = c.in_ok-dataset.ensures.reads in
    let second = c.in_ok-since.ensures.reads in
    let both = reads_on _ _ _ _ first second in
    let rest = c.walk_younger.ensures.reads in
    IfOk-weaker c.walk_younger.result _ _
    (λ found told stored objects own blocks pool readings held are chains some tell.
    let before = told_before _ _ _ _ both rest tell in
    let stands = chains.each c.args.object some in
    let is_record : c.in_ok-dataset.dataset.record ≡ stands.r =
    c.in_ok-dataset.ensures.value stored objects own blocks stands.r held are stands.has (told_before _ _ _ _ first second before) in
    let since_is = c.in_ok-since.ensures.value stored objects own blocks pool readings c.args.object (first.keeps stored held) are chains
    (stands.is.previous ∙ ap (λ (r : DatasetRecord). r.previous) (sym is_record)) (told_after _ _ _ _ first second before) in
    own_walked stored c.args.birth objects pool readings c.args.object stands c.in_ok-dataset.dataset is_record c.in_ok-dataset.ensures.is c.in_ok-since.since since_is found.items
    (λ is. told stored c.args.birth _ (both.keeps stored held) is (omega arith) (told_after _ _ _ _ both rest tell)))
    c.walk_younger.ensures.blocks

pub returns-clause-count : goal.returns-clause-count
returns-clause-count g c =
    let first = c.in_ok-dataset.ensures.reads in
    let both = reads_on _ _ _ _ first c.in_ok-since.ensures.reads in
    IfOk-weaker c.walk_younger.result _ _
    (λ found walked. record {
      dataset = c.in_ok-dataset.dataset;
      has = c.in_ok-dataset.ensures.found;
      is = c.in_ok-dataset.ensures.is;
      since = c.in_ok-since.since;
      since_is = subst (λ (spaces : List VdevSpace). IsGroupBefore spaces c.args.set.now c.args.birth c.in_ok-dataset.dataset.record c.in_ok-since.since)
          (spaces_stay _ _ _ first) c.in_ok-since.ensures.found;
      walked = subst (λ (spaces : List VdevSpace). IsYoungerVolumeWalked c.in_ok-since.since spaces c.in_ok-dataset.dataset.volume c.args.birth c.args.left.now c.walk_younger.new.left found.items)
          (spaces_stay _ _ _ both) walked;
    })
    c.walk_younger.ensures.count

pub returns-clause-refused : goal.returns-clause-refused
returns-clause-refused g c =
    let first = c.in_ok-dataset.ensures.reads in
    IfErr-weaker c.walk_younger.result _ _
    (λ refusal why. inr (inr (inr (record {
      dataset = c.in_ok-dataset.dataset;
      has = c.in_ok-dataset.ensures.found;
      is = c.in_ok-dataset.ensures.is;
      since = c.in_ok-since.since;
      since_is = subst (λ (spaces : List VdevSpace). IsGroupBefore spaces c.args.set.now c.args.birth c.in_ok-dataset.dataset.record c.in_ok-since.since)
          (spaces_stay _ _ _ first) c.in_ok-since.ensures.found;
      mid = c.group_before.new.store;
      first = reads_on _ _ _ _ first c.in_ok-since.ensures.reads;
      why = why;
    }))))
    c.walk_younger.ensures.refused

pub returns-clause-known : goal.returns-clause-known
returns-clause-known g c =
    let first = c.in_ok-dataset.ensures.reads in
    let second = c.in_ok-since.ensures.reads in
    let both = reads_on _ _ _ _ first second in
    let rest = c.walk_younger.ensures.reads in
    IfErr-weaker c.walk_younger.result _ _
    (λ refusal known stored objects own blocks pool readings held are chains some long tell.
    let before = told_before _ _ _ _ both rest tell in
    let stands = chains.each c.args.object some in
    let is_record : c.in_ok-dataset.dataset.record ≡ stands.r =
    c.in_ok-dataset.ensures.value stored objects own blocks stands.r held are stands.has (told_before _ _ _ _ first second before) in
    let since_is = c.in_ok-since.ensures.value stored objects own blocks pool readings c.args.object (first.keeps stored held) are chains
    (stands.is.previous ∙ ap (λ (r : DatasetRecord). r.previous) (sym is_record)) (told_after _ _ _ _ first second before) in
    own_enough stored c.args.birth objects pool readings c.args.object stands c.in_ok-dataset.dataset is_record c.in_ok-dataset.ensures.is c.in_ok-since.since since_is c.args.left.now
    (IsForLoss refusal)
    (λ is once enough. known stored c.args.birth _ (both.keeps stored held) is (omega arith) once enough (told_after _ _ _ _ both rest tell)) chains.sound long)
    c.walk_younger.ensures.known
