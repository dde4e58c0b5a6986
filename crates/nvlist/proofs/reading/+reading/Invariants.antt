use Rattle.std.proofs.Common.{◌≡◌, ◌+◌, ◌-◌, ◌*◌, [], map}
use Rattle.nvlist.specs.Plain.{last_name}
use Rattle.nvlist.specs.Reading.{pairs_at, lists_at, list_at}
use Rattle.nvlist.specs.View.{list_view, pair_view, pairs_view}
use Rattle.nvlist.proofs.Loops.{with_lists, with_pairs}
use Rattle.nvlist.proofs.reading.+reading.Given as goal

-- a list above its pairs, a pair above its value, and a value above the lists in it
abbrev pub decreases-list_of : goal.decreases-list_of
decreases-list_of l = 6 * l.depth

abbrev pub decreases-lists_of : goal.decreases-lists_of
decreases-lists_of l = 6 * l.depth + 1

abbrev pub decreases-value_of_type : goal.decreases-value_of_type
decreases-value_of_type l = 6 * l.depth + 2

abbrev pub decreases-value_of : goal.decreases-value_of
decreases-value_of l = 6 * l.depth + 3

abbrev pub decreases-pair_of : goal.decreases-pair_of
decreases-pair_of l = 6 * l.depth + 4

abbrev pub decreases-pairs_of : goal.decreases-pairs_of
decreases-pairs_of l = 6 * l.depth + 5

abbrev pub invariant-lists_of-loop : goal.invariant-lists_of-loop
invariant-lists_of-loop l =
    with_lists (map list_view l.lists.items) (lists_at (list_at l.depth) (l.count - l.counter) l.rest) ≡ lists_at (list_at l.depth) l.count l.bytes

abbrev pub invariant-pairs_of-loop : goal.invariant-pairs_of-loop
invariant-pairs_of-loop l =
    with_pairs (map pair_view l.pairs.items) (pairs_at (list_at l.depth) (l.count - l.counter) (last_name (pairs_view l.pairs.items)) l.rest) ≡ pairs_at (list_at l.depth) l.count [] l.bytes
