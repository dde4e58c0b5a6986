use Rattle.std.proofs.Common.{◌≡◌, ◌+◌, [], ◌∷◌, drop, get_or, List, inl, inr, subst}
use Rattle.std.proofs.lemmas.List.{drop_more, drop_all}
use Rattle.block_pointer.specs.declared.block.Block.{Block}
use Rattle.block_store.specs.Releases.{copies_of, copies_of_all}
use Rattle.block_store.proofs.Giving.{GivesUpTo, none_yet, more, all, stops}
use Rattle.block_store.proofs.GivenBack.{some_block, passed_on}
use Rattle.block_store.proofs.gone.give_back.Goals as goal

pub loop-block-init : goal.loop-block-init
loop-block-init c = none_yet c.args.at (copies_of_all c.args.gone.now) c.args.free.now

pub loop-block-preserved : goal.loop-block-preserved
loop-block-preserved c =
    let i = c.loop-block.block-index in
    let blocks : List Block = c.args.gone.now in
    let split : drop i blocks ≡ get_or blocks i some_block ∷ drop (i + 1) blocks = drop_more blocks i some_block c.loop-block-test.true in
    more c.args.at (copies_of_all blocks) (copies_of (get_or blocks i some_block)) (copies_of_all (drop (i + 1) blocks)) c.args.free.now c.loop-block.free c.give_block.new.free
    (subst (λ them. GivesUpTo c.args.at (copies_of_all blocks) (copies_of_all them) c.args.free.now c.loop-block.free) split c.loop-block.invariant)
    c.in_ok-give_block.ensures.given c.give_block.ensures.sectors

pub returns-in_err-give_block-clause-refused : goal.returns-in_err-give_block-clause-refused
returns-in_err-give_block-clause-refused c =
    let i = c.loop-block.block-index in
    let blocks : List Block = c.args.gone.now in
    let split : drop i blocks ≡ get_or blocks i some_block ∷ drop (i + 1) blocks = drop_more blocks i some_block c.loop-block-test.true in
    passed_on _ _ _ c.from_residual.ensures.1 (elim c.in_err-give_block.ensures.refused [
      | inl memory ↦ inl memory
      | inr (bad, stop) ↦ inr (
        bad,
        stops c.args.at (copies_of_all blocks) (copies_of (get_or blocks i some_block)) (copies_of_all (drop (i + 1) blocks)) c.args.free.now c.loop-block.free
            (subst (λ them. GivesUpTo c.args.at (copies_of_all blocks) (copies_of_all them) c.args.free.now c.loop-block.free) split c.loop-block.invariant)
            stop,
      )
    ])

pub returns-clause-given : goal.returns-clause-given
returns-clause-given c =
    all c.args.at (copies_of_all c.args.gone.now) c.args.free.now c.loop-block.free
    (subst (λ them. GivesUpTo c.args.at (copies_of_all c.args.gone.now) (copies_of_all them) c.args.free.now c.loop-block.free)
    (drop_all c.loop-block.block-index c.args.gone.now c.loop-block-test.false) c.loop-block.invariant)
