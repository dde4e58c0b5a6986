use Rattle.dataset_destroys.proofs.ReadSteps.{known_on, read_same, record_lost}
use Rattle.dataset_destroys.proofs.Refusing.{passed_on}
use Rattle.dataset_destroys.proofs.records.known_record.Goals as goal

pub returns-in_err-found-clause-refused : goal.returns-in_err-found-clause-refused
returns-in_err-found-clause-refused g c = passed_on _ _ _ c.from_residual.ensures.1 (record_lost _ _ _ c.args.number _ c.in_err-found.ensures.refused)

pub returns-in_err-found-clause-known : goal.returns-in_err-found-clause-known
returns-in_err-found-clause-known g c =
    passed_on _ _ _ c.from_residual.ensures.1 (λ stored objects told number r has.
    c.in_err-found.ensures.known stored objects told.own told.blocks told.held told.are told.tell number r has)

pub returns-clause-keeps : goal.returns-clause-keeps
returns-clause-keeps g c = known_on c.args.changes.now c.record.new.self c.args.number c.in_ok-found.found c.in_ok-found.ensures.kept

pub returns-clause-value : goal.returns-clause-value
returns-clause-value g c = λ stored objects told over.
    let there = c.in_ok-found.ensures.value stored objects told.own told.blocks told.held told.are told.tell over in
    read_same objects c.args.changes.now c.record.new.self c.args.number c.in_ok-found.found there.0 c.in_ok-found.ensures.lists c.in_ok-found.ensures.kept there.1 there.2

pub returns-in_err-found-clause-caused : goal.returns-in_err-found-clause-caused
returns-in_err-found-clause-caused g c = passed_on _ _ _ c.from_residual.ensures.1 c.in_err-found.ensures.caused
