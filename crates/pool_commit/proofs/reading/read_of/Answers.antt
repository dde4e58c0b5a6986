use Rattle.std.proofs.Common.{⊎_elim, inl, inr, sym, ap, ◌∙◌}
use Rattle.block_store.specs.Losses.{IsForLoss}
use Rattle.block_store.specs.Steps.{AnswersTell}
use Rattle.pool_model.specs.Refusals.{read_refusal}
use Rattle.pool_commit.specs.Causes.{of_store}
use Rattle.pool_commit.proofs.Directories.{rows_spelled}
use Rattle.pool_commit.proofs.Refusing.{no_fault_of_memory}
use Rattle.pool_commit.proofs.Unread.{by_kept_rows, read_refused, unread_of}
use Rattle.pool_commit.proofs.ReadCauses.{at_none, at_shape, has_no_cause, in_range, is_out_of_range, shape_within}
use Rattle.pool_commit.proofs.reading.read_of.Goals as goal

pub returns-in_default-clause-refused : goal.returns-in_default-clause-refused
returns-in_default-clause-refused g c = λ stored pool held spells.
    inr (inl (ap (read_refusal c.args.range.now.offset c.args.range.now.len) (at_none _ (sym (c.find.ensures pool (rw c.names.ensures spells.names)) ∙ c.in_default.is))))

pub returns-then-is_some-clause-refused : goal.returns-then-is_some-clause-refused
returns-then-is_some-clause-refused g c = λ stored pool held spells.
    let there = at_shape _ c.in-Some.shape (sym c.in-Some.is ∙ c.find.ensures pool (rw c.names.ensures spells.names)) in
    inr (inl (is_out_of_range c.args.range.now.offset c.args.range.now.len c.args.range.now.name.now pool c.in-Some.shape c.against_read.result there.0 c.against_read.ensures there.1
    there.2 (sym c.is_some.ensures ∙ c.if-is_some.true)))

pub read_range_in-requires : goal.read_range_in-requires
read_range_in-requires g c = record {
  few = (in_range c.args.range.now.offset c.args.range.now.len c.in-Some.shape c.against_read.result c.against_read.ensures (sym c.is_some.ensures ∙ c.if-is_some.false)).1;
}

pub returns-in-Ok-clause-bytes : goal.returns-in-Ok-clause-bytes
returns-in-Ok-clause-bytes g c = λ stored pool held spells.
    let by = rows_spelled stored c.args.birth c.args.kept.now pool c.in-Some-root.root c.directory.result.now spells c.in-Some-root.is c.directory.ensures in
    let there = at_shape _ c.in-Some.shape (sym c.in-Some.is ∙ c.find.ensures pool (rw c.names.ensures spells.names)) in (
      has_no_cause c.args.range.now.offset c.args.range.now.len c.args.range.now.name.now pool c.in-Some.shape c.against_read.result there.0 c.against_read.ensures there.1
          there.2 (sym c.is_some.ensures ∙ c.if-is_some.false),
      λ tell. (
        there.0,
        there.1,
        c.in-Ok.ensures.value stored pool there.0 held by.0 by.1 tell there.1,
      ),
    )

pub returns-in-Err-clause-refused : goal.returns-in-Err-clause-refused
returns-in-Err-clause-refused g c = λ stored pool held spells.
    let by = rows_spelled stored c.args.birth c.args.kept.now pool c.in-Some-root.root c.directory.result.now spells c.in-Some-root.is c.directory.ensures in
    let there = at_shape _ c.in-Some.shape (sym c.in-Some.is ∙ c.find.ensures pool (rw c.names.ensures spells.names)) in
    let none = has_no_cause c.args.range.now.offset c.args.range.now.len c.args.range.now.name.now pool c.in-Some.shape c.against_read.result there.0 c.against_read.ensures there.1
    there.2 (sym c.is_some.ensures ∙ c.if-is_some.false) in
    let within = (in_range c.args.range.now.offset c.args.range.now.len c.in-Some.shape c.against_read.result c.against_read.ensures (sym c.is_some.ensures ∙ c.if-is_some.false)).0 in
    let known : AnswersTell c.args.store.now c.read_range_in.new.store c.args.missing.now → IsForLoss c.in-Err.refusal =
    λ tell. c.in-Err.ensures.known stored pool there.0 held by.0 by.1 tell there.1 (shape_within _ _ c.in-Some.shape there.0 there.2 within) in
    ⊎_elim (λ memory. inl (c.from.ensures ∙ ap of_store memory))
    (λ why. read_refused c.args.store.now c.read_range_in.new.store c.args.kept.now c.args.birth c.in-Some-root.root c.args.range.now.name.now c.args.range.now.offset c.args.range.now.len
    c.args.missing.now pool c.in-Err.refusal c.from.result c.in-Some-root.is c.from.ensures none why known)
    (by_kept_rows c.args.store.now c.read_range_in.new.store c.args.missing.now c.args.birth c.in-Some-root.root c.directory.result.now c.args.kept.now.directory.value c.args.range.now.name.now
    c.args.range.now.offset c.args.range.now.len c.in-Err.refusal c.directory.ensures c.in-Err.ensures.refused)

pub returns-in-Err-clause-unread : goal.returns-in-Err-clause-unread
returns-in-Err-clause-unread g c = λ fault.
    unread_of c.args.store.now c.read_range_in.new.store c.args.kept.now c.args.birth c.in-Some-root.root c.args.range.now.name.now c.args.range.now.offset c.args.range.now.len
    c.args.missing.now c.in-Err.refusal c.from.result c.in-Some-root.is c.from.ensures
    (⊎_elim (λ memory. absurd (no_fault_of_memory c.from.result c.in-Err.refusal c.from.ensures fault memory)) (λ why. why) (by_kept_rows c.args.store.now c.read_range_in.new.store c.args.missing.now c.args.birth c.in-Some-root.root c.directory.result.now c.args.kept.now.directory.value c.args.range.now.name.now
    c.args.range.now.offset c.args.range.now.len c.in-Err.refusal c.directory.ensures c.in-Err.ensures.refused))
