use Rattle.dataset_chains.proofs.RecordsNow.{one_record_now}
use Rattle.dataset_chains.proofs.laws.datasets_have_one_record.Goals as goal

pub returns : goal.returns
returns c = one_record_now
