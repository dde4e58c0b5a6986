use Rattle.std.proofs.Common.{get_or, refl, arith}
use Rattle.schedule_lines.proofs.Alike.{all_alike, none_alike}
use Rattle.schedule_lines.proofs.steps.only_byte.Goals as goal

pub returns-then-count_in_front-bytes : goal.returns-then-count_in_front-bytes
returns-then-count_in_front-bytes c = all_alike (get_or c.args.bytes.now 0 0) c.args.bytes.now (omega (arith, c.count_in_front.ensures))

pub returns-else-count_in_front-bytes : goal.returns-else-count_in_front-bytes
returns-else-count_in_front-bytes c =
    none_alike (get_or c.args.bytes.now 0 0) c.args.bytes.now (omega arith) refl (λ e. omega (arith, c.count_in_front.ensures))
