use Rattle.std.proofs.Common.{inl, inr, refl}
use Rattle.dnode_tree.proofs.Refusing.{passed_on as refused_on}
use Rattle.dataset_chains.proofs.Passed.{found_alone, passed_none, passed_not, passed_on}
use Rattle.dataset_chains.proofs.ReadRecords.{before_there}
use Rattle.dataset_chains.proofs.Refusing.{lost_first}
use Rattle.dataset_chains.proofs.Touching.{none_read, passes, read_at_most}
use Rattle.dataset_chains.proofs.records.pass_next.Goals as goal

pub returns-then-before-eq0-clause-value : goal.returns-then-before-eq0-clause-value
returns-then-before-eq0-clause-value g c = λ stored objects own blocks held are tell over.
    (over, passed_none objects c.args.changes.now c.args.before c.args.from c.args.to c.if-before-eq0.true)

pub returns-in_err-dataset-clause-refused : goal.returns-in_err-dataset-clause-refused
returns-in_err-dataset-clause-refused g c =
    refused_on _ _ _ c.from_residual.ensures.1 (inr (lost_first _ _ _ _ _ c.in_err-dataset.ensures.refused))

pub returns-in_err-dataset-clause-known : goal.returns-in_err-dataset-clause-known
returns-in_err-dataset-clause-known g c =
    refused_on _ _ _ c.from_residual.ensures.1
    (λ stored known group objects own blocks pool readings held are tell spells number before.
    let has = before_there known group objects pool readings c.args.changes.now spells number c.args.before before c.if-before-eq0.false in
    c.in_err-dataset.ensures.known stored objects own blocks held are tell has.behind has.r has.has)

pub returns-in_ok-change_record-clause-value : goal.returns-in_ok-change_record-clause-value
returns-in_ok-change_record-clause-value g c = λ stored objects own blocks held are tell over.
    let old = c.args.changes.now in
    let mid = c.record.new.self in
    let found = c.in_ok-dataset.dataset in
    let value = c.in_ok-dataset.ensures.value stored objects own blocks held are tell over in (
      c.in_ok-change_record.ensures.over objects found value.0
          ((found_alone objects old mid c.args.before c.args.from c.args.to c.if-before-eq0.false found c.in_ok-dataset.ensures.kept value found).1 refl),
      passed_on objects old mid c.args.before c.args.from c.args.to c.if-before-eq0.false found c.in_ok-dataset.ensures.kept value
          c.change_record.new.self c.if-dataset-from.true c.in_ok-change_record.ensures.put,
    )

pub returns-else-dataset-from-clause-value : goal.returns-else-dataset-from-clause-value
returns-else-dataset-from-clause-value g c = λ stored objects own blocks held are tell over.
    let value = c.in_ok-dataset.ensures.value stored objects own blocks held are tell over in (
      value.0,
      passed_not objects c.args.changes.now c.record.new.self c.args.before c.args.from c.args.to c.if-before-eq0.false c.in_ok-dataset.dataset c.in_ok-dataset.ensures.kept value
          c.if-dataset-from.false,
    )

pub returns-then-before-eq0-clause-touched : goal.returns-then-before-eq0-clause-touched
returns-then-before-eq0-clause-touched g c = λ number. inl (none_read c.args.changes.now number)

pub returns-in_ok-change_record-clause-touched : goal.returns-in_ok-change_record-clause-touched
returns-in_ok-change_record-clause-touched g c =
    let old = c.args.changes.now in
    let mid = c.record.new.self in
    passes old mid c.change_record.new.self c.args.before _ c.if-before-eq0.false
    (read_at_most old mid c.args.before c.in_ok-dataset.dataset c.in_ok-dataset.ensures.kept) c.in_ok-change_record.ensures.put

pub returns-else-dataset-from-clause-touched : goal.returns-else-dataset-from-clause-touched
returns-else-dataset-from-clause-touched g c = λ number.
    inl (read_at_most c.args.changes.now c.record.new.self c.args.before c.in_ok-dataset.dataset c.in_ok-dataset.ensures.kept number)

pub returns-in_err-dataset-clause-caused : goal.returns-in_err-dataset-clause-caused
returns-in_err-dataset-clause-caused g c = refused_on _ _ _ c.from_residual.ensures.1 c.in_err-dataset.ensures.caused
