use Rattle.pool_model.proofs.Answering.{hold_answered, write_answered, act_answered, release_answered, close_answered, quiesce_answered, plan_answered, out_answered}
use Rattle.pool_model.proofs.laws.steps_without_a_cause_may_be_answered.Goals as goal

pub returns : goal.returns
returns c = record {
  hold = hold_answered;
  write = write_answered;
  act = act_answered;
  release = release_answered;
  close = close_answered;
  quiesce = quiesce_answered;
  plan = plan_answered;
  out = out_answered;
}
