use Rattle.std.proofs.Common.{ℕ, ◌≡◌, ◌+◌, ◌-◌, get_or, leb, false, subst, sym, arith, rules}
use Rattle.std.proofs.lemmas.Bool.Decides.{nat_tests}
use Rattle.std.proofs.lemmas.List.Sorted.{IsPartitionedBy-leb, IsPartitionPoint-from_clause}
use Rattle.space_map.specs.declared.entry.Run.{Run}
use Rattle.space_map.specs.Sectors.{names}
use Rattle.space_map.proofs.RunLemmas.{starts_in_order, is_past, is_before}
use Rattle.metaslab.proofs.Wholes.{whole_at_index, none_has}
use Rattle.metaslab.proofs.free_runs.run_at.Goals as goal
use Rattle.metaslab.proofs.free_runs.run_at.Goals.{else-run-sector-via-then-run-sector+else-sector-run, else-run-sector-via-else-run-sector}

-- what stands past the end of a list
abbrev none : Run
none = record { start = 0; len = 0 }

pub returns-then-count-eq0-clause-none : goal.returns-then-count-eq0-clause-none
returns-then-count-eq0-clause-none c = λ to between.
    let rs = c.args.runs.now in
    let count = c.partition_point-count.result in
    let by = IsPartitionedBy-leb (λ (r : Run). r.start) rs c.args.sector (starts_in_order 0 to rs between) in
    let point = IsPartitionPoint-from_clause (λ (r : Run). leb r.start c.args.sector) rs count c.partition_point-count.ensures.partitioned by (λ a r f called. search rules) in
    let bound = c.partition_point-count.ensures.bound in
    none_has to rs count c.args.sector none between
    (λ k below. absurd (omega arith))
    (λ k from below. let test = point.1 k none from below in grind (arith, nat_tests))
    (omega arith)
    (λ k last. absurd (omega arith))

pub returns-then-sector-run-clause-whole : goal.returns-then-sector-run-clause-whole
returns-then-sector-run-clause-whole c = λ to between.
    let bound = c.partition_point-count.ensures.bound in
    let some = c.if-count-eq0.false in
    whole_at_index 0 to c.args.runs.now (c.partition_point-count.result - 1) none between (omega arith)

pub returns-clause-none : goal.returns-clause-none
returns-clause-none c = λ to between.
    let rs = c.args.runs.now in
    let count = c.partition_point-count.result in
    let by = IsPartitionedBy-leb (λ (r : Run). r.start) rs c.args.sector (starts_in_order 0 to rs between) in
    let point = IsPartitionPoint-from_clause (λ (r : Run). leb r.start c.args.sector) rs count c.partition_point-count.ensures.partitioned by (λ a r f called. search rules) in
    let bound = c.partition_point-count.ensures.bound in
    let last : names (get_or rs (count - 1) none) c.args.sector ≡ false =
    elim c.else-run-sector.branch [
      | else-run-sector-via-then-run-sector+else-sector-run w ↦ let low = w.if-run-sector.true in let high = w.if-sector-run.false in is_past (get_or rs (count - 1) none) c.args.sector (omega arith)
      | else-run-sector-via-else-run-sector w ↦ is_before (get_or rs (count - 1) none) c.args.sector w.if-run-sector.false
    ] in
    none_has to rs count c.args.sector none between
    (λ k below. let test = point.0 k none (omega arith) below in grind (arith, nat_tests))
    (λ k from below. let test = point.1 k none from below in grind (arith, nat_tests))
    (omega arith)
    (λ k at. let here : k ≡ count - 1 = omega arith in subst (λ (i : ℕ). names (get_or rs i none) c.args.sector ≡ false) (sym here) last)
