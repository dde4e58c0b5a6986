use Rattle.std.proofs.Common.{◌+◌, ◌≤◌, inl, inr, ⊎_elim, sym, subst}
use Rattle.std.proofs.lemmas.Result.{IfOk-weaker, IfErr-weaker}
use Rattle.block_store.proofs.Steps.{reads_on}
use Rattle.dnode_tree.proofs.FurtherReads.{told_before, told_after}
use Rattle.dnode_tree.proofs.Refusing.{passed_on}
use Rattle.dataset_snapshots.proofs.FoundRanges.{data_refused, found_volume, is_not_none, not_there, volume_found}
use Rattle.dataset_snapshots.proofs.ranges.read_range.Goals as goal

pub returns-in_err-found-clause-refused : goal.returns-in_err-found-clause-refused
returns-in_err-found-clause-refused g c = passed_on _ _ _ c.from_residual.ensures.1 (⊎_elim (λ memory. inl memory) (λ why. inr (inl why)) c.in_err-found.ensures.refused)

pub returns-in_err-found-clause-known : goal.returns-in_err-found-clause-known
returns-in_err-found-clause-known g c =
    passed_on _ _ _ c.from_residual.ensures.1 (λ stored pool volume held is tell there within. c.in_err-found.ensures.known stored pool held is tell)

pub returns-in_default-clause-refused : goal.returns-in_default-clause-refused
returns-in_default-clause-refused g c = inr (not_there _ _ _ _ _ _ _ c.args.range.now.offset c.args.range.now.len c.in_ok-found.ensures.found c.in_default.is)

pub returns-in_default-clause-known : goal.returns-in_default-clause-known
returns-in_default-clause-known g c = λ stored pool volume held is tell there within.
    absurd (is_not_none stored _ _ _ volume there c.in_default.is (c.in_ok-found.ensures.value stored pool held is tell))

pub read_of-requires-clause-volume : goal.read_of-requires-clause-volume
read_of-requires-clause-volume g c = found_volume _ _ _ _ _ c.in-Some.dataset c.in_ok-found.ensures.found c.in-Some.is

pub returns-clause-reads : goal.returns-clause-reads
returns-clause-reads g c = reads_on _ _ _ _ c.in_ok-found.ensures.reads c.read_of.ensures.reads

pub returns-clause-value : goal.returns-clause-value
returns-clause-value g c =
    let first = c.in_ok-found.ensures.reads in
    let rest = c.read_of.ensures.reads in
    IfOk-weaker c.read_of.result _ _
    (λ bytes value stored pool volume held is tell there.
    let has = volume_found stored _ _ _ volume c.in-Some.dataset there c.in-Some.is (c.in_ok-found.ensures.value stored pool held is (told_before _ _ _ _ first rest tell)) in
    value stored volume.bytes (first.keeps stored held) has.1 (told_after _ _ _ _ first rest tell))
    c.read_of.ensures.value

pub returns-clause-refused : goal.returns-clause-refused
returns-clause-refused g c =
    IfErr-weaker c.read_of.result _ _
    (λ refusal why. data_refused _ _ _ _ _ _ _ _ c.in-Some.dataset _ _ refusal c.in_ok-found.ensures.reads c.in_ok-found.ensures.found c.in-Some.is why)
    c.read_of.ensures.refused

pub returns-clause-known : goal.returns-clause-known
returns-clause-known g c =
    let first = c.in_ok-found.ensures.reads in
    let rest = c.read_of.ensures.reads in
    IfErr-weaker c.read_of.result _ _
    (λ refusal known stored pool volume held is tell there within.
    let has = volume_found stored _ _ _ volume c.in-Some.dataset there c.in-Some.is (c.in_ok-found.ensures.value stored pool held is (told_before _ _ _ _ first rest tell)) in
    known stored volume.bytes (first.keeps stored held) has.1 (told_after _ _ _ _ first rest tell) (subst (λ n. c.args.range.now.offset + c.args.range.now.len ≤ n) (sym has.0.size) within))
    c.read_of.ensures.known
