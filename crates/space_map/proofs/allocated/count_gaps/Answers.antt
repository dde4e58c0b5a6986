use Rattle.std.proofs.Common.{◌+◌, ◌-◌, ◌<◌, length, arith}
use Rattle.std.proofs.lemmas.Bool.Decides.{nat_tests}
use Rattle.space_map.specs.declared.entry.Run.{Run}
use Rattle.space_map.proofs.Fitting.{ends_before}
use Rattle.space_map.proofs.GapCounts.{counted, gaps_few}
use Rattle.space_map.proofs.allocated.count_gaps.Goals as goal

-- what stands past the end of a list
abbrev none : Run
none = record { start = 0; len = 0 }

pub overflow_add-last : goal.overflow_add-last
overflow_add-last c =
    let rs = c.args.runs.now in
    let some : 0 < length rs = grind (arith, nat_tests) in
    omega (arith, ends_before 0 (c.args.sectors + 1) rs c.requires.apart (length rs - 1) none (omega arith), c.requires.few)

pub returns-clause-value : goal.returns-clause-value
returns-clause-value c =
    let rs = c.args.runs.now in
    let some : 0 < length rs = grind (arith, nat_tests) in
    counted c.args.sectors c.count_gap-front.result c.count_gap-back.result rs none some c.requires.apart c.count_gap-front.ensures.value c.count_gap-back.ensures.value

pub returns-clause-few : goal.returns-clause-few
returns-clause-few c =
    let rs = c.args.runs.now in
    let some : 0 < length rs = grind (arith, nat_tests) in
    omega (arith, counted c.args.sectors c.count_gap-front.result c.count_gap-back.result rs none some c.requires.apart c.count_gap-front.ensures.value c.count_gap-back.ensures.value, gaps_few 0 c.args.sectors rs c.requires.apart (omega arith))
