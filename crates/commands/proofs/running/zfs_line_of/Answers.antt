use Rattle.std.proofs.Common.{refl}
use Rattle.commands.proofs.PlainLines.{plain_by}
use Rattle.commands.proofs.running.zfs_line_of.Goals as goal

pub returns-in_default : goal.returns-in_default
returns-in_default c = (refl, plain_by c.args.command c.in_default.not-ReadAll c.in_default.not-Serve)
