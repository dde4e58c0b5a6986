-- Blocks of several objects that gave way, one object after the other.
use Rattle.std.proofs.Common.{◌≡◌, ℕ, List, [], ◌∷◌, ◌++◌, All, append_assoc, refl, sym, ap, ◌∙◌, subst}
use Rattle.std.proofs.lemmas.List.{append-nil}
use Rattle.std.proofs.lemmas.List.Elements.{All-head, All-tail}
use Rattle.block_pointer.specs.declared.block.Block.{Block}
use Rattle.block_store.specs.Blocks.{Contents, Extends}
use Rattle.dnode_tree.specs.declared.writes.CopyCounts.{CopyCounts}
use Rattle.dnode_tree.specs.Rewriting.{IsExchanged}
use Rattle.dnode_tree.proofs.Exchanging.{nothing_exchanged, front_gone}
use Rattle.objset.specs.declared.changes.ObjectChange.{ObjectChange}
use Rattle.objset.specs.Changes.{AreExchanged}

-- one more object at the end
pub exchanged_last : (copies : CopyCounts) (birth : ℕ) (planned mid later : Contents) (changes : List ObjectChange) (last : ObjectChange) (before after : ℕ → List Block) (gone last_gone : List Block)
    → AreExchanged copies birth planned mid changes before after gone → Extends mid later → IsExchanged copies birth mid later (before last.number) (after last.number) last_gone
    → AreExchanged copies birth planned later (changes ++ last ∷ []) before after (gone ++ last_gone)
exchanged_last copies birth planned mid later [] last before after gone last_gone so_far kept step = (
  later,
  last_gone,
  [],
  subst (λ contents. Extends contents later) so_far.0 kept,
  subst (λ contents. IsExchanged copies birth contents later (before last.number) (after last.number) last_gone) so_far.0 step,
  (refl, refl),
  ap (λ front. front ++ last_gone) so_far.1 ∙ sym (append-nil last_gone),
)
exchanged_last copies birth planned mid later (change ∷ changes) last before after gone last_gone so_far kept step = (
  so_far.0,
  so_far.1,
  so_far.2 ++ last_gone,
  so_far.3,
  so_far.4,
  exchanged_last copies birth so_far.0 mid later changes last before after so_far.2 last_gone so_far.5 kept step,
  ap (λ front. front ++ last_gone) so_far.6 ∙ append_assoc so_far.1 so_far.2 last_gone,
)

-- only the blocks of the changed objects matter
pub exchanged_as : (copies : CopyCounts) (birth : ℕ) (planned later : Contents) (changes : List ObjectChange) (before after other : ℕ → List Block) (gone : List Block)
    → All (λ change. other change.number ≡ after change.number) changes → AreExchanged copies birth planned later changes before after gone
    → AreExchanged copies birth planned later changes before other gone
exchanged_as copies birth planned later [] before after other gone same so_far = so_far
exchanged_as copies birth planned later (change ∷ changes) before after other gone same so_far = (
  so_far.0,
  so_far.1,
  so_far.2,
  so_far.3,
  subst (λ blocks. IsExchanged copies birth planned so_far.0 (before change.number) blocks so_far.1)
      (sym (All-head (λ (c : ObjectChange). other c.number ≡ after c.number) change changes same)) so_far.4,
  exchanged_as copies birth so_far.0 later changes before after other so_far.2 (All-tail (λ (c : ObjectChange). other c.number ≡ after c.number) change changes same) so_far.5,
  so_far.6,
)

-- all blocks of an object gave way to none
pub all_gone : (copies : CopyCounts) (birth : ℕ) (planned : Contents) (blocks : List Block) → IsExchanged copies birth planned planned blocks [] blocks
all_gone copies birth planned blocks =
    subst (λ gone. IsExchanged copies birth planned planned gone [] gone) (append-nil blocks)
    (front_gone {copies = copies} birth planned planned [] [] [] blocks (nothing_exchanged {copies = copies} birth planned []))

-- what was added to a list is this
pub appended : (old more new items : List Block) → new ≡ old ++ more → more ≡ items → new ≡ old ++ items
appended old more new items is same = is ∙ ap (λ blocks. old ++ blocks) same
