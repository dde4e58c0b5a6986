use Rattle.std.proofs.Common.{◌≡◌, ◌+◌, ◌∷◌, drop, get_or, List, inl, inr, refl, subst, ◌∙◌}
use Rattle.std.proofs.lemmas.List.{drop_more}
use Rattle.block_pointer.specs.declared.block.Block.{Block}
use Rattle.block_store.specs.Releases.{copies_of, copies_of_all}
use Rattle.block_store.proofs.GivenBack.{ReleasedUpTo, none_yet, more_are, part_of, stops_at, some_block, at_error, passed_on}
use Rattle.block_store.proofs.store.BlockStore.release_each.Goals as goal

pub loop-block-init : goal.loop-block-init
loop-block-init g c = (refl, refl, refl, refl, refl, none_yet c.args.self.now.spaces (copies_of_all c.args.blocks.now) c.args.group)

pub loop-block-preserved : goal.loop-block-preserved
loop-block-preserved g c =
    let i = c.loop-block.block-index in
    let blocks : List Block = c.args.blocks.now in
    let before = c.loop-block.invariant in
    let split : drop i blocks ≡ get_or blocks i some_block ∷ drop (i + 1) blocks = drop_more blocks i some_block c.loop-block-test.true in
    let is = c.release_block.ensures in (
      is.disks ∙ before.0,
      is.out ∙ before.1,
      is.spans ∙ before.2,
      is.due ∙ before.3,
      is.stray ∙ before.4,
      more_are c.args.self.now.spaces c.loop-block.self.spaces c.release_block.new.self.spaces (copies_of_all blocks) (copies_of (get_or blocks i some_block))
          (copies_of_all (drop (i + 1) blocks)) c.args.group
          (subst (λ them. ReleasedUpTo c.args.self.now.spaces (copies_of_all blocks) (copies_of_all them) c.args.group c.loop-block.self.spaces) split before.5)
          c.in_ok-release_block.ensures.released,
    )

pub returns-in_err-release_block-clause-some : goal.returns-in_err-release_block-clause-some
returns-in_err-release_block-clause-some g c =
    let i = c.loop-block.block-index in
    let blocks : List Block = c.args.blocks.now in
    let split : drop i blocks ≡ get_or blocks i some_block ∷ drop (i + 1) blocks = drop_more blocks i some_block c.loop-block-test.true in
    at_error c.from_residual.result _
    (part_of c.args.self.now.spaces c.loop-block.self.spaces c.release_block.new.self.spaces (copies_of_all blocks) (copies_of (get_or blocks i some_block))
    (copies_of_all (drop (i + 1) blocks)) c.args.group
    (subst (λ them. ReleasedUpTo c.args.self.now.spaces (copies_of_all blocks) (copies_of_all them) c.args.group c.loop-block.self.spaces) split c.loop-block.invariant.5)
    c.in_err-release_block.ensures.some)

pub returns-in_err-release_block-clause-refused : goal.returns-in_err-release_block-clause-refused
returns-in_err-release_block-clause-refused g c =
    let i = c.loop-block.block-index in
    let blocks : List Block = c.args.blocks.now in
    let split : drop i blocks ≡ get_or blocks i some_block ∷ drop (i + 1) blocks = drop_more blocks i some_block c.loop-block-test.true in
    passed_on _ _ _ c.from_residual.ensures.1 (elim c.in_err-release_block.ensures.refused [
      | inl memory ↦ inl memory
      | inr (bad, stop) ↦ inr (
        bad,
        stops_at c.args.self.now.spaces c.loop-block.self.spaces c.release_block.new.self.spaces (copies_of_all blocks)
            (copies_of (get_or blocks i some_block)) (copies_of_all (drop (i + 1) blocks)) c.args.group
            (subst (λ them. ReleasedUpTo c.args.self.now.spaces (copies_of_all blocks) (copies_of_all them) c.args.group c.loop-block.self.spaces) split c.loop-block.invariant.5)
            stop,
      )
    ])
