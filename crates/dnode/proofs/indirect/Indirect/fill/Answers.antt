use Rattle.std.proofs.Common.{◌≡◌, ◌+◌, ◌^◌, ◌<◌, ◌≤◌, length, ap, inl, inr, rules, arith}
use Rattle.std.proofs.lemmas.Bool.{cases_lt}
use Rattle.std.proofs.lemmas.List.Sums.{sum_by_more_le}
use Rattle.block_pointer.specs.declared.pointer.BlockPtr.TheVariants.{Hole}
use Rattle.dnode.specs.Indirect.{fill_of, total_fill}
use Rattle.dnode.proofs.indirect.Indirect.fill.Goals as goal

pub returns-in_err-fill-clause-none : goal.returns-in_err-fill-clause-none
returns-in_err-fill-clause-none c =
    let items = c.as_slice-pointer-items.result.now in
    let i = c.loop-pointer.pointer-index in
    let below : i < length items = omega arith in
    let is : items ≡ c.args.self.now = cc in
    let same : total_fill items ≡ total_fill c.args.self.now = ap total_fill is in
    let more = sum_by_more_le fill_of items i Hole below in
    let much : 2 ^ 64 ≤ total_fill c.args.self.now =
    elim (cases_lt (c.loop-pointer.fill + c.fill_of.result) (2 ^ 64)) [
      | inl few ↦ absurd (c.in_err-fill.ensures few)
      | inr many ↦ omega (arith, many, more, same, c.fill_of.ensures, c.loop-pointer.invariant.0)
    ] in
    (λ _. much, λ _. rw c.from_residual.ensures (search rules))
