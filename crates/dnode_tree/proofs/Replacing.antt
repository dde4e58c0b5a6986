-- The blocks that a write names as replaced.
use Rattle.std.proofs.Common.{◌≡◌, ℕ, ◌<◌, ◌≤◌, List, Some, None, Contains, inl, inr, sym, ◌∙◌, arith}
use Rattle.std.proofs.lemmas.Bool.{cases_lt}
use Rattle.std.specs.List.{count_by}
use Rattle.block_pointer.specs.declared.block.Block.{Block}
use Rattle.block_store.specs.Blocks.{Contents}
use Rattle.dnode_tree.proofs.SameBlocks.{same_as, counted, found, once_counted, distinct_counted}
use Rattle.dnode_tree.proofs.Standing.{tree_blocks_known}
use Rattle.dnode_tree.specs.declared.writes.CopyCounts.{CopyCounts}
use Rattle.dnode_tree.specs.Freeing.{AreOnlyIn, ReplacedAreFreed}
use Rattle.dnode_tree.specs.Rewriting.{AreDistinct, IsExchanged}

module _ {copies : CopyCounts} (birth : ℕ) (planned later : Contents) (before after gone : List Block)
    (known : (block : Block) → Contains before block → (bytes : List ℕ) × (planned block ≡ Some bytes)) (distinct : AreDistinct before)
    (one : IsExchanged copies birth planned later before after gone) where
  -- what was added was not there before
  new : (block : Block) → 0 < count_by (same_as block) one.added → 0 < count_by (same_as block) before → ⊥
  new block more held =
      let there = known block (found block before held) in
      let clash : None ≡ Some there.0 = sym (one.fresh block (found block one.added more)) ∙ there.1 in
      cc

  few : (block : Block) → count_by (same_as block) before ≤ 1
  few block = once_counted block before distinct

  pub gone_are : AreOnlyIn before after gone
  gone_are = record {
    which = λ block. (
      λ held.
          let some : 0 < count_by (same_as block) gone = counted block gone held in
          let all : count_by (same_as block) before ≤ 1 = few block in
          let there : 0 < count_by (same_as block) before = omega (arith, some, one.before_are (same_as block)) in (
            found block before there,
            λ still.
                let more : 0 < count_by (same_as block) one.added = omega (arith, counted block after still, one.after_are (same_as block), one.before_are (same_as block), some, all) in
                new block more there,
          ),
      λ (held, after_not).
          let there : 0 < count_by (same_as block) before = counted block before held in
          let none : ¬ (0 < count_by (same_as block) after) = λ still. after_not (found block after still) in
          let some : 0 < count_by (same_as block) gone = omega (arith, there, none, one.before_are (same_as block), one.after_are (same_as block)) in
          found block gone some,
    );
    once = distinct_counted gone (λ block. let all : count_by (same_as block) before ≤ 1 = few block in omega (arith, all, one.before_are (same_as block)));
  }

  pub after_once : AreDistinct after
  after_once = distinct_counted after (λ block.
      let all : count_by (same_as block) before ≤ 1 = few block in
      let added : count_by (same_as block) one.added ≤ 1 = once_counted block one.added one.once in
      elim (cases_lt 0 (count_by (same_as block) one.added)) [
        | inl more ↦
            let none : ¬ (0 < count_by (same_as block) before) = new block more in
            omega (arith, one.after_are (same_as block), one.before_are (same_as block), added, none)
        | inr none ↦ omega (arith, one.after_are (same_as block), one.before_are (same_as block), all, none)
      ])

pub replaced_are_freed : ReplacedAreFreed
replaced_are_freed copies stored planned later bound birth node done array new_array blocks tree kept distinct rewritten =
    let known : (block : Block) → Contains blocks block → (bytes : List ℕ) × (planned block ≡ Some bytes) = λ block held.
    (let there = tree_blocks_known stored bound node array blocks tree block held in (there.1, kept block there.1 there.2)) in (
      gone_are birth planned later blocks rewritten.blocks done.replaced.items known distinct rewritten.exchanged,
      after_once birth planned later blocks rewritten.blocks done.replaced.items known distinct rewritten.exchanged,
    )
