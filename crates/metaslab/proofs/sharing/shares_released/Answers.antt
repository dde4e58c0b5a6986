use Rattle.std.proofs.Common.{ℕ, ◌≡◌, ◌+◌, ◌-◌, ◌<◌, length, get_or, leb, false, subst, sym, arith, rules}
use Rattle.std.proofs.lemmas.Bool.Decides.{nat_tests}
use Rattle.std.proofs.lemmas.List.Sorted.{IsPartitionedBy-leb, IsPartitionPoint-from_clause}
use Rattle.space_map.specs.Sectors.{names}
use Rattle.metaslab.specs.declared.settling.Release.{Release}
use Rattle.metaslab.proofs.Orders.{released_in_order, none_released, is_released}
use Rattle.metaslab.proofs.sharing.shares_released.Goals as goal

-- what stands past the end of a list
abbrev none : Release
none = record { group = 0; run = record { start = 0; len = 0 } }

pub returns-then-count-eq0-clause-no : goal.returns-then-count-eq0-clause-no
returns-then-count-eq0-clause-no c = λ is order each.
    let rs = c.args.released.now in
    let run = c.args.run in
    let last = run.start + (run.len - 1) in
    let count = c.partition_point-count.result in
    let by = IsPartitionedBy-leb (λ (r : Release). r.run.start) rs last (released_in_order 0 rs order) in
    let point = IsPartitionPoint-from_clause (λ (r : Release). leb r.run.start last) rs count c.partition_point-count.ensures.partitioned by (λ a r f called. search rules) in
    let bound = c.partition_point-count.ensures.bound in
    let some = c.requires.some in
    none_released rs count run none order each
    (λ k below. absurd (omega arith))
    (λ k from below. let test = point.1 k none from below in grind (arith, nat_tests))
    (omega arith)
    (λ k at. absurd (omega arith))

pub returns-clause-no : goal.returns-clause-no
returns-clause-no c = λ is order each.
    let rs = c.args.released.now in
    let run = c.args.run in
    let last = run.start + (run.len - 1) in
    let count = c.partition_point-count.result in
    let by = IsPartitionedBy-leb (λ (r : Release). r.run.start) rs last (released_in_order 0 rs order) in
    let point = IsPartitionPoint-from_clause (λ (r : Release). leb r.run.start last) rs count c.partition_point-count.ensures.partitioned by (λ a r f called. search rules) in
    let bound = c.partition_point-count.ensures.bound in
    let some = c.requires.some in
    none_released rs count run none order each
    (λ k below. let test = point.0 k none (omega arith) below in grind (arith, nat_tests))
    (λ k from below. let test = point.1 k none from below in grind (arith, nat_tests))
    (omega arith)
    (λ k at s of_run. let here : k ≡ count - 1 = omega arith in subst (λ (i : ℕ). names (get_or rs i none).run s ≡ false) (sym here) (c.overlaps.ensures.no is s of_run))

pub returns-clause-yes : goal.returns-clause-yes
returns-clause-yes c = λ is each.
    let rs = c.args.released.now in
    let i = c.partition_point-count.result - 1 in
    let bound = c.partition_point-count.ensures.bound in
    let some = c.if-count-eq0.false in
    let below : i < length rs = omega arith in
    let shared = c.overlaps.ensures.yes is (each i none below) c.requires.some in
    (shared.0, shared.1, is_released rs shared.0 i none below shared.2)
