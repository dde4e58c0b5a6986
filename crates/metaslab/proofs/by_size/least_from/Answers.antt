use Rattle.std.proofs.Common.{◌≡◌, inl, inr, false}
use Rattle.std.proofs.lemmas.Bool.{cases_lt}
use Rattle.std.specs.Ordering.{is_gt}
use Rattle.metaslab.specs.Fits.{by_size}
use Rattle.metaslab.proofs.Sizes.{from_start, not_later}
use Rattle.metaslab.proofs.by_size.least_from.Goals as goal

pub returns-in_err-len-clause-none : goal.returns-in_err-len-clause-none
returns-in_err-len-clause-none c =
    let part = c.range.ensures.in_range tt in
    let steps = c.in_err-len.ensures.steps in
    rw c.from_residual.ensures (λ from long has. elim (cases_lt long c.args.sectors) [
      | inl below ↦ below
      | inr enough ↦ let none = part.5 steps.0 (long, from) (from_start c.args.sectors long from enough, tt) in absurd cc
    ])

pub returns-clause-least : goal.returns-clause-least
returns-clause-least c = λ from long has fits.
    let part = c.range.ensures.in_range tt in
    let found = c.in_ok-len.field-0.now in
    let first : is_gt (by_size (found.0, found.1) (long, from)) ≡ false = rw c.in_ok-len.ensures.steps at (part.2 (long, from) (from_start c.args.sectors long from fits, tt) has) in
    not_later found.0 found.1 long from first
