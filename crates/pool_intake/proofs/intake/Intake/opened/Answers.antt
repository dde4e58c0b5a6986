use Rattle.pool_intake.proofs.Stepping.{follows_opened}
use Rattle.pool_intake.proofs.intake.Intake.opened.Goals as goal

pub returns : goal.returns
returns c vdevs out stale pool knows made = follows_opened c.new.result c.args.index vdevs out stale c.args.group pool c.requires c.new.ensures knows made
