use Rattle.schedule_lines.proofs.Splitting.{none_left}
use Rattle.schedule_lines.proofs.words.Words.is_done.Goals as goal

pub returns : goal.returns
returns c = none_left c.self.inside.rest c.is_none.result c.args.self.now c.is_none.ensures c.self.view_is
