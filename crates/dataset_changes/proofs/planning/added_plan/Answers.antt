use Rattle.std.proofs.Common.{◌≡◌, ◌<◌, true, false, IsTrue, Bool, List, refl, length, All, IsPermutation, sym, subst, arith}
use Rattle.std.proofs.lemmas.List.Sorted.{All-permutation, length_permutation}
use Rattle.block_pointer.specs.Block.{FitsBlock}
use Rattle.block_pointer.specs.declared.block.Block.{Block}
use Rattle.dataset_changes.proofs.Serving.{none_added, some_added, some_left}
use Rattle.dataset_changes.proofs.planning.added_plan.Goals as goal

pub returns-then-is_empty-clause-serves : goal.returns-then-is_empty-clause-serves
returns-then-is_empty-clause-serves c =
    none_added c.args.end c.args.blocks (c.is_empty.ensures.0 (subst (λ (b : Bool). IsTrue b) (sym c.if-is_empty.true) refl))

pub extension-requires-clause-fit : goal.extension-requires-clause-fit
extension-requires-clause-fit c =
    subst (λ (blocks : List Block). All FitsBlock blocks) (sym c.deref.ensures.value) (All-permutation FitsBlock c.args.blocks c.in_ok-added.added.items c.in_ok-added.ensures c.requires)

pub extension-requires-clause-some : goal.extension-requires-clause-some
extension-requires-clause-some c =
    let some : 0 < length c.args.blocks = some_left c.args.blocks (λ none. let full : c.is_empty.result ≡ true = c.is_empty.ensures.1 none in let empty : c.is_empty.result ≡ false = c.if-is_empty.false in absurd cc) in
    let same : length c.in_ok-added.added.items ≡ length c.args.blocks = length_permutation c.args.blocks c.in_ok-added.added.items c.in_ok-added.ensures in
    subst (λ (blocks : List Block). 0 < length blocks) (sym c.deref.ensures.value) (omega arith)

pub returns-in-Ok-clause-serves : goal.returns-in-Ok-clause-serves
returns-in-Ok-clause-serves c =
    some_added c.args.end c.args.blocks c.deref.result.now c.in-Ok.change (subst (λ (blocks : List Block). IsPermutation c.args.blocks blocks) (sym c.deref.ensures.value) c.in_ok-added.ensures)
    c.in-Ok.ensures.good c.in-Ok.ensures.may c.in-Ok.ensures.made
