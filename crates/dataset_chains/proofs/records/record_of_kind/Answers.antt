use Rattle.std.proofs.Common.{◌≢◌, inl, inr, ap, sym, ◌∙◌, rules}
use Rattle.dnode_tree.proofs.Refusing.{passed_on}
use Rattle.dataset_chains.specs.Chains.{kind_of}
use Rattle.dataset_chains.proofs.ReadRecords.{one_kind, read_alone, read_on, some_kind}
use Rattle.dataset_chains.proofs.Refusing.{lost_first}
use Rattle.dataset_chains.proofs.Touching.{read_at_most}
use Rattle.dataset_chains.proofs.records.record_of_kind.Goals as goal

pub returns-in_err-dataset-clause-refused : goal.returns-in_err-dataset-clause-refused
returns-in_err-dataset-clause-refused g c =
    passed_on _ _ _ c.from_residual.ensures.1 (inr (inl (lost_first _ _ _ _ _ c.in_err-dataset.ensures.refused)))

pub returns-in_err-dataset-clause-known : goal.returns-in_err-dataset-clause-known
returns-in_err-dataset-clause-known g c =
    passed_on _ _ _ c.from_residual.ensures.1
    (λ stored known group objects own blocks pool readings held are tell spells kind.
    let has = spells.each c.args.number (λ free. some_kind c.args.kind (sym kind ∙ free)) in
    c.in_err-dataset.ensures.known stored objects own blocks held are tell has.behind has.r has.has)

pub returns-then-ne-clause-known : goal.returns-then-ne-clause-known
returns-then-ne-clause-known g c = λ stored known group objects own blocks pool readings held are tell spells kind.
    let found = c.in_ok-dataset.dataset in
    let ne : found.kind ≢ c.args.kind = search rules in
    let value = c.in_ok-dataset.ensures.value stored objects own blocks held are tell spells.over in
    let has = spells.each c.args.number (λ free. some_kind c.args.kind (sym kind ∙ free)) in
    absurd (ne (one_kind found.kind c.args.kind (sym (has.is.kind ∙ ap (λ r. kind_of r.kind) (value.2 has.r has.has)) ∙ kind)))

pub returns-clause-value : goal.returns-clause-value
returns-clause-value g c = λ stored known group objects own blocks pool readings held are tell spells.
    let value = c.in_ok-dataset.ensures.value stored objects own blocks held are tell spells.over in (
      read_on known group objects pool readings c.args.changes.now c.record.new.self c.args.number c.in_ok-dataset.dataset c.in_ok-dataset.ensures.kept c.record.ensures.lists value spells,
      read_alone known group objects pool readings c.args.changes.now c.record.new.self c.args.number c.in_ok-dataset.dataset c.in_ok-dataset.ensures.kept c.record.ensures.lists value,
    )

pub returns-clause-touched : goal.returns-clause-touched
returns-clause-touched g c = read_at_most c.args.changes.now c.record.new.self c.args.number c.in_ok-dataset.dataset c.in_ok-dataset.ensures.kept

pub returns-in_err-dataset-clause-caused : goal.returns-in_err-dataset-clause-caused
returns-in_err-dataset-clause-caused g c = passed_on _ _ _ c.from_residual.ensures.1 c.in_err-dataset.ensures.caused
