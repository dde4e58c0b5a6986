use Rattle.std.proofs.Common.{[], length, refl, ap, arith}
use Rattle.vdev_label.proofs.Configs.{with_nothing}
use Rattle.vdev_label.proofs.config.whole_list.Goals as goal

pub returns-in-Err-BadLabel-clause-only : goal.returns-in-Err-BadLabel-clause-only
returns-in-Err-BadLabel-clause-only c = λ l spells.
    let none = c.in-Err-BadLabel.ensures.only l [] spells.0 (with_nothing c.args.bytes.now l spells) in
    absurd cc

pub returns-in-Err-BadLabel-clause-bad : goal.returns-in-Err-BadLabel-clause-bad
returns-in-Err-BadLabel-clause-bad c = (
  refl,
  λ l spells.
      let none = c.in-Err-BadLabel.ensures.only l [] spells.0 (with_nothing c.args.bytes.now l spells) in
      cc,
)

pub returns-then-len-bytes-clause-only : goal.returns-then-len-bytes-clause-only
returns-then-len-bytes-clause-only c = λ l spells.
    let found = c.in-Ok.ensures.only l [] spells.0 (with_nothing c.args.bytes.now l spells) in
    absurd (omega (arith, found.1, ap length spells.1))

pub returns-then-len-bytes-clause-bad : goal.returns-then-len-bytes-clause-bad
returns-then-len-bytes-clause-bad c = (
  refl,
  λ l spells.
      let found = c.in-Ok.ensures.only l [] spells.0 (with_nothing c.args.bytes.now l spells) in
      omega (arith, found.1, ap length spells.1),
)

pub returns-clause-only : goal.returns-clause-only
returns-clause-only c = λ l spells. (c.in-Ok.ensures.only l [] spells.0 (with_nothing c.args.bytes.now l spells)).0
