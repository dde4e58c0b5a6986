use Rattle.std.proofs.Common.{ℕ, ◌≡◌, ◌+◌, ◌-◌, ◌<◌, length, get_or, leb, false, subst, sym, arith, rules}
use Rattle.std.proofs.lemmas.Bool.Decides.{nat_tests}
use Rattle.std.proofs.lemmas.List.Sorted.{IsPartitionedBy-leb, IsPartitionPoint-from_clause}
use Rattle.space_map.specs.declared.entry.Run.{Run}
use Rattle.space_map.specs.Sectors.{names}
use Rattle.space_map.proofs.RunLemmas.{starts_in_order}
use Rattle.metaslab.proofs.Wholes.{whole_at_index, is_in_one, none_shares}
use Rattle.metaslab.proofs.sharing.shares_sector.Goals as goal

-- what stands past the end of a list
abbrev none : Run
none = record { start = 0; len = 0 }

pub returns-then-count-eq0-clause-no : goal.returns-then-count-eq0-clause-no
returns-then-count-eq0-clause-no c = λ is to between.
    let rs = c.args.runs.now in
    let run = c.args.run in
    let last = run.start + (run.len - 1) in
    let count = c.partition_point-count.result in
    let by = IsPartitionedBy-leb (λ (r : Run). r.start) rs last (starts_in_order 0 to rs between) in
    let point = IsPartitionPoint-from_clause (λ (r : Run). leb r.start last) rs count c.partition_point-count.ensures.partitioned by (λ a r f called. search rules) in
    let bound = c.partition_point-count.ensures.bound in
    let some = c.requires.some in
    none_shares to rs count run none between
    (λ k below. absurd (omega arith))
    (λ k from below. let test = point.1 k none from below in grind (arith, nat_tests))
    (omega arith)
    (λ k at. absurd (omega arith))

pub returns-clause-no : goal.returns-clause-no
returns-clause-no c = λ is to between.
    let rs = c.args.runs.now in
    let run = c.args.run in
    let last = run.start + (run.len - 1) in
    let count = c.partition_point-count.result in
    let by = IsPartitionedBy-leb (λ (r : Run). r.start) rs last (starts_in_order 0 to rs between) in
    let point = IsPartitionPoint-from_clause (λ (r : Run). leb r.start last) rs count c.partition_point-count.ensures.partitioned by (λ a r f called. search rules) in
    let bound = c.partition_point-count.ensures.bound in
    let some = c.requires.some in
    none_shares to rs count run none between
    (λ k below. let test = point.0 k none (omega arith) below in grind (arith, nat_tests))
    (λ k from below. let test = point.1 k none from below in grind (arith, nat_tests))
    (omega arith)
    (λ k at s of_run. let here : k ≡ count - 1 = omega arith in subst (λ (i : ℕ). names (get_or rs i none) s ≡ false) (sym here) (c.overlaps.ensures.no is s of_run))

pub returns-clause-yes : goal.returns-clause-yes
returns-clause-yes c = λ is to between.
    let rs = c.args.runs.now in
    let i = c.partition_point-count.result - 1 in
    let bound = c.partition_point-count.ensures.bound in
    let some = c.if-count-eq0.false in
    let below : i < length rs = omega arith in
    let whole = whole_at_index 0 to rs i none between below in
    let shared = c.overlaps.ensures.yes is whole.some c.requires.some in
    (shared.0, shared.1, is_in_one rs i shared.0 none below shared.2)
