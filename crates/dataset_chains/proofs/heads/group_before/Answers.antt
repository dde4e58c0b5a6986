use Rattle.std.proofs.Common.{ℕ, None, inr}
use Rattle.dnode_tree.proofs.Refusing.{passed_on}
use Rattle.dataset_chains.proofs.ReadRecords.{before_there, group_of_read, read_on}
use Rattle.dataset_chains.proofs.RecordsNow.{read_kept}
use Rattle.dataset_chains.proofs.Refusing.{lost_first}
use Rattle.dataset_chains.proofs.Touching.{read_at_most}
use Rattle.dataset_chains.proofs.heads.group_before.Goals as goal

pub returns-in_err-before-clause-refused : goal.returns-in_err-before-clause-refused
returns-in_err-before-clause-refused g c =
    passed_on _ _ _ c.from_residual.ensures.1 (inr (lost_first _ _ _ _ _ c.in_err-before.ensures.refused))

pub returns-in_err-before-clause-known : goal.returns-in_err-before-clause-known
returns-in_err-before-clause-known g c =
    passed_on _ _ _ c.from_residual.ensures.1
    (λ stored known group objects own blocks pool readings held are tell spells number before.
    let has = before_there known group objects pool readings c.args.changes.now spells number c.args.dataset.now.previous before c.if-dataset-eq0.false in
    c.in_err-before.ensures.known stored objects own blocks held are tell has.behind has.r has.has)

pub returns-clause-value : goal.returns-clause-value
returns-clause-value g c = λ stored known group objects own blocks pool readings held are tell spells.
    let old = c.args.changes.now in
    let new = c.record.new.self in
    let found = c.in_ok-before.before in
    let n = c.args.dataset.now.previous in
    let value = c.in_ok-before.ensures.value stored objects own blocks held are tell spells.over in (
      read_on known group objects pool readings old new n found c.in_ok-before.ensures.kept c.record.ensures.lists value spells,
      group_of_read known group objects pool readings old new n found c.in_ok-before.ensures.kept c.record.ensures.lists value spells,
    )

pub returns-clause-stays : goal.returns-clause-stays
returns-clause-stays g c = read_kept (λ (number : ℕ). None) c.args.changes.now c.record.new.self c.args.dataset.now.previous c.in_ok-before.before c.in_ok-before.ensures.kept

pub returns-clause-touched : goal.returns-clause-touched
returns-clause-touched g c = read_at_most c.args.changes.now c.record.new.self c.args.dataset.now.previous c.in_ok-before.before c.in_ok-before.ensures.kept

pub returns-in_err-before-clause-caused : goal.returns-in_err-before-clause-caused
returns-in_err-before-clause-caused g c = passed_on _ _ _ c.from_residual.ensures.1 c.in_err-before.ensures.caused
