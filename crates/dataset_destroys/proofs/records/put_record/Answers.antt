use Rattle.dataset_destroys.proofs.RecordSteps.{put_now}
use Rattle.dataset_destroys.proofs.records.put_record.Goals as goal

pub returns-clause-value : goal.returns-clause-value
returns-clause-value c = λ objects r over has.
    put_now objects c.args.changes.now c.change_record.new.self c.args.number c.args.dataset.now (c.in_ok-change_record.ensures.over objects r over has) c.in_ok-change_record.ensures.put
