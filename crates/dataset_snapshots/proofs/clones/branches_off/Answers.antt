use Rattle.std.proofs.Common.{◌∙◌, sym}
use Rattle.dataset_snapshots.proofs.CloneRows.{branches, is_first, is_next, lacks_previous, lacks_record, lacks_row, none_by, some_by}
use Rattle.dataset_snapshots.proofs.clones.branches_off.Goals as goal

pub returns-in_err-record-clause-none : goal.returns-in_err-record-clause-none
returns-in_err-record-clause-none c =
    none_by c.from_residual.result _ (λ _ rows all is indexed before held. lacks_record rows all c.args.records.now c.args.by_object.now c.args.row.now before is (sym c.in_err-record.ensures.value))

pub returns-then-record-eq0-clause-none : goal.returns-then-record-eq0-clause-none
returns-then-record-eq0-clause-none c = λ rows all is indexed before held.
    is_first rows all c.args.records.now c.args.by_object.now c.args.row.now before is c.in_ok-record.record.now (sym c.in_ok-record.ensures.value) c.if-record-eq0.true

pub returns-in_err-before-clause-none : goal.returns-in_err-before-clause-none
returns-in_err-before-clause-none c =
    none_by c.from_residual-in_err-before.result _
    (λ _ rows all is indexed before held.
    lacks_previous rows all c.args.records.now c.args.by_object.now c.args.row.now before is c.in_ok-record.record.now (sym c.in_ok-record.ensures.value) (sym c.in_err-before.ensures.value))

pub returns-then-before-row-clause-none : goal.returns-then-before-row-clause-none
returns-then-before-row-clause-none c = λ rows all is indexed before held.
    is_next rows all c.args.records.now c.args.by_object.now c.args.row.now before is c.in_ok-record.record.now (sym c.in_ok-record.ensures.value) c.in_ok-before.before.now
    (sym c.in_ok-before.ensures.value) c.if-before-row.true

pub returns-clause-some : goal.returns-clause-some
returns-clause-some c =
    some_by c.copied.result _
    (λ before found rows all is indexed.
    branches rows all c.args.records.now c.args.by_object.now c.args.row.now before is c.in_ok-record.record.now (sym c.in_ok-record.ensures.value) c.in_ok-before.before.now
    (sym c.in_ok-before.ensures.value) c.if-record-eq0.false c.if-before-row.false (sym c.get-3.ensures.value ∙ sym c.copied.ensures ∙ found) indexed)

pub returns-clause-none : goal.returns-clause-none
returns-clause-none c =
    none_by c.copied.result _
    (λ none rows all is indexed before held.
    lacks_row rows all c.args.records.now c.args.by_object.now c.args.row.now before is c.in_ok-record.record.now (sym c.in_ok-record.ensures.value) c.in_ok-before.before.now
    (sym c.in_ok-before.ensures.value) (sym c.get-3.ensures.value ∙ sym c.copied.ensures ∙ none) indexed held)
