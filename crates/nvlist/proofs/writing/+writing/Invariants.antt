use Rattle.std.proofs.Common.{◌≡◌, ◌++◌, List, ℕ, drop}
use Rattle.nvlist.specs.Grammar.{pairs_bytes, lists_bytes, FitsBehind, FitsLists}
use Rattle.nvlist.specs.View.{pairs_view, lists_view}
use Rattle.nvlist.proofs.writing.+writing.Given as goal

abbrev pub invariant-put_pairs-loop-pair : goal.invariant-put_pairs-loop-pair
invariant-put_pairs-loop-pair l =
    (l.out.items ++ pairs_bytes (pairs_view (drop l.pair-index l.pairs)) ≡ l.initial.out.items ++ pairs_bytes (pairs_view l.pairs)) × ((last : List ℕ) × FitsBehind last (pairs_view (drop l.pair-index l.pairs)))

abbrev pub invariant-put_lists-loop-list : goal.invariant-put_lists-loop-list
invariant-put_lists-loop-list l =
    (l.out.items ++ lists_bytes (lists_view (drop l.list-index l.lists)) ≡ l.initial.out.items ++ lists_bytes (lists_view l.lists)) × FitsLists (lists_view (drop l.list-index l.lists))
