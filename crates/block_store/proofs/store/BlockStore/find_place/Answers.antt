use Rattle.std.proofs.Common.{rules, ◌≡◌, length, subst}
use Rattle.block_store.proofs.Choosing.{IfNone-map, NoneBetween, none_at_all}
use Rattle.block_store.proofs.store.BlockStore.find_place.Goals as goal

pub returns-clause-none : goal.returns-clause-none
returns-clause-none g c =
    let count : c.len-count.result ≡ length c.args.self.now.spaces = search rules in
    let behind : NoneBetween c.args.self.now.spaces c.args.taken.now c.args.wanted c.min-start.result (length c.args.self.now.spaces) =
    subst (λ n. NoneBetween c.args.self.now.spaces c.args.taken.now c.args.wanted c.min-start.result n) count c.in_default.ensures.none in
    IfNone-map c.find_on-2.result _ _ (none_at_all c.args.self.now.spaces c.args.taken.now c.args.wanted c.min-start.result behind) c.find_on-2.ensures.none
