use Rattle.dataset_destroys.proofs.RecordSteps.{taken_out}
use Rattle.dataset_destroys.proofs.records.take_out.Goals as goal

pub returns-clause-value : goal.returns-clause-value
returns-clause-value c = λ objects r over has.
    taken_out objects c.args.changes.now c.free_record.new.self c.args.number r over has (c.in_ok-free_record.ensures.over objects r over has) c.in_ok-free_record.ensures.put
