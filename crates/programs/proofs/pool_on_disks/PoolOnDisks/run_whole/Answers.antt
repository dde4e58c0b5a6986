use Rattle.std.proofs.Common.{◌≡◌, option_map, refl, ap}
use Rattle.pool_create.specs.CoreStateOf.{state_of as core_state}
use Rattle.programs.specs.Answers.{Answers}
use Rattle.programs.specs.Runs.{StepsTruly}
use Rattle.programs.proofs.StatesOf.{Shown, answers_shown}
use Rattle.programs.proofs.pool_on_disks.PoolOnDisks.run_whole.Goals as goal

pub returns-in-Some-2 : goal.returns-in-Some-2
returns-in-Some-2 g c =
    let answered : Answers (Shown core_state StepsTruly) c.in-Some.core c.args.command c.in-Some-2.reply c.answer.new.pool = rw c.in-Some-2.is at c.in_ok-answer-in-Some.ensures.ok in
    record {
      core = core_state c.in-Some.core;
      runs = ap (option_map core_state) c.in-Some.is;
      endless = c.requires.unset;
      later = core_state c.answer.new.pool;
      replies = (c.in-Some-2.reply, refl, answers_shown core_state StepsTruly c.in-Some.core c.answer.new.pool c.args.command c.in-Some-2.reply answered);
      same = refl;
    }
