use Rattle.std.proofs.Common.{◌≡◌, List, ◌∷◌, [], ◌++◌, Some, map, sym, ap, ◌∙◌}
use Rattle.std.proofs.lemmas.Result.{err_from_is_err_and}
use Rattle.std.proofs.lemmas.List.{map_push}
use Rattle.nvlist.specs.Plain.{PlainList, last_name}
use Rattle.nvlist.specs.Reading.{pairs_at, lists_at, list_at}
use Rattle.nvlist.specs.View.{PlainPair, list_view, pair_view, pairs_view, pairs_of}
use Rattle.nvlist.specs.declared.list.Pair.{Pair}
use Rattle.nvlist.proofs.Views.{list_view_rolled}
use Rattle.nvlist.proofs.Loops.{lists_go_on, lists_end, lists_done, pairs_go_on, pairs_end, pairs_done, last_name-push}
use Rattle.nvlist.proofs.reading.+reading.Goals as goal

pub lists_of-returns-in_err-list : goal.lists_of-returns-in_err-list
lists_of-returns-in_err-list t c =
    let p = err_from_is_err_and c.from_residual.result c.from_residual.ensures.1 in
    rw (p.1, p.2) (lists_end (list_at c.args.depth) c.in_err-list.field-0.0 (map list_view c.loop.lists.items) c.args.count c.loop.counter c.loop.rest.now (lists_at (list_at c.args.depth) c.args.count c.args.bytes.now) c.loop-test.true c.in_err-list.ensures c.loop.invariant)

pub lists_of-loop-preserved : goal.lists_of-loop-preserved
lists_of-loop-preserved t c =
    let l = c.in_ok-list.list in
    let e : map list_view c.push.new.self.items ≡ map list_view c.loop.lists.items ++ list_view l ∷ [] = rw c.in_ok-push.ensures.items (map_push list_view c.loop.lists.items l) in
    rw e (lists_go_on (list_at c.args.depth) (map list_view c.loop.lists.items) c.args.count c.loop.counter c.loop.rest.now (list_view l) c.in_ok-list.after.now (lists_at (list_at c.args.depth) c.args.count c.args.bytes.now) c.loop-test.true c.in_ok-list.ensures c.loop.invariant)

pub lists_of-returns : goal.lists_of-returns
lists_of-returns t c = lists_done (list_at c.args.depth) (map list_view c.loop.lists.items) c.args.count c.loop.counter c.loop.rest.now (lists_at (list_at c.args.depth) c.args.count c.args.bytes.now) c.loop-test.false c.loop.invariant

pub pairs_of-returns-in_err-pair : goal.pairs_of-returns-in_err-pair
pairs_of-returns-in_err-pair t c =
    let p = err_from_is_err_and c.from_residual.result c.from_residual.ensures.1 in
    let named : c.last_name.result.now ≡ last_name (pairs_view c.loop.pairs.items) = c.last_name.ensures ∙ ap (λ (ps : List Pair). last_name (pairs_view ps)) c.deref.ensures.value in
    let failed = rw named at c.in_err-pair.ensures in
    rw (p.1, p.2) (pairs_end (list_at c.args.depth) c.in_err-pair.field-0.0 (map pair_view c.loop.pairs.items) c.args.count c.loop.counter (last_name (pairs_view c.loop.pairs.items)) c.loop.rest.now (pairs_at (list_at c.args.depth) c.args.count [] c.args.bytes.now) c.loop-test.true failed c.loop.invariant)

pub pairs_of-loop-preserved : goal.pairs_of-loop-preserved
pairs_of-loop-preserved t c =
    let p = c.in_ok-pair.pair in
    let named : c.last_name.result.now ≡ last_name (pairs_view c.loop.pairs.items) = c.last_name.ensures ∙ ap (λ (ps : List Pair). last_name (pairs_view ps)) c.deref.ensures.value in
    let read = rw named at c.in_ok-pair.ensures in
    let e : map pair_view c.push.new.self.items ≡ map pair_view c.loop.pairs.items ++ pair_view p ∷ [] = rw c.in_ok-push.ensures.items (map_push pair_view c.loop.pairs.items p) in
    let last : last_name (pairs_view c.push.new.self.items) ≡ (pair_view p).0 = ap (λ (ps : List PlainPair). last_name (pairs_of ps)) e ∙ last_name-push [] (map pair_view c.loop.pairs.items) (pair_view p) in
    rw (last, e) (pairs_go_on (list_at c.args.depth) (map pair_view c.loop.pairs.items) c.args.count c.loop.counter (last_name (pairs_view c.loop.pairs.items)) c.loop.rest.now (pair_view p) c.in_ok-pair.after.now (pairs_at (list_at c.args.depth) c.args.count [] c.args.bytes.now) c.loop-test.true read c.loop.invariant)

pub pairs_of-returns : goal.pairs_of-returns
pairs_of-returns t c =
    let done = pairs_done (list_at c.args.depth) (map pair_view c.loop.pairs.items) c.args.count c.loop.counter (last_name (pairs_view c.loop.pairs.items)) c.loop.rest.now (pairs_at (list_at c.args.depth) c.args.count [] c.args.bytes.now) c.loop-test.false c.loop.invariant in
    done ∙ ap (λ (l : PlainList). Some (l, c.loop.rest.now)) (sym (list_view_rolled c.loop.pairs))
