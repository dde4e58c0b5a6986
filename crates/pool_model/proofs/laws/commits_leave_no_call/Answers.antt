use Rattle.pool_model.proofs.Leaving.{moves_leave, commits_leave}
use Rattle.pool_model.proofs.laws.commits_leave_no_call.Goals as goal

pub returns : goal.returns
returns c = record {
  moved = λ v given phase w left call step planned held in_use. moves_leave v given phase w left call step planned held in_use;
  committed = λ v given group w left call step planned held in_use. commits_leave v given group w left call step planned held in_use;
}
