-- How many copies the blocks have that are known later and were not.
use Rattle.std.proofs.Common.{◌≡◌, ◌≢◌, ℕ, Bool, true, false, cond, List, [], ◌∷◌, length, Option, Some, None, Contains, refl, sym, ap, subst, ◌∙◌, inl, inr, arith}
use Rattle.std.specs.Prelude.{All, ◌==◌}
use Rattle.std.specs.List.{count_by}
use Rattle.std.proofs.lemmas.Bool.{cases_lt}
use Rattle.std.proofs.lemmas.List.Elements.{All-contains}
use Rattle.block_pointer.specs.declared.block.Block.{Block}
use Rattle.block_pointer.specs.Copies.{dvas}
use Rattle.block_store.specs.Blocks.{Contents, Adds}
use Rattle.dnode.specs.declared.object_set.ObjectSet.{ObjectSet}
use Rattle.dnode.specs.declared.object_set.ObjectSetKind.{ObjectSetKind}
use Rattle.dnode.specs.declared.object_set.ObjectSetKind.TheVariants.{Meta, Volume}
use Rattle.objset.specs.declared.node_writes.SetRewrite.{SetRewrite}
use Rattle.dnode_tree.proofs.SameBlocks.{same_as, counted, found}
use Rattle.dnode_tree.specs.declared.writes.CopyCounts.{CopyCounts}
use Rattle.dnode_tree.specs.Rewriting.{IsExchanged}
use Rattle.dnode_tree.specs.Writes.{copies_at}
use Rattle.objset.specs.declared.changes.Change.{Change}
use Rattle.objset.specs.declared.changes.ObjectChange.{ObjectChange}
use Rattle.objset.specs.declared.changes.SetCopies.{SetCopies}
use Rattle.objset.specs.Changes.{AreChanged, AreExchanged, copies_of, dnode_copies, object_copies}
use Rattle.objset.specs.Objects.{Object}
use Rattle.volume.specs.Placing.{IsSetPlanned}
use Rattle.dataset_groups.specs.Leaving.{AddsData, AddsMeta, IsReachExchanged}
use Rattle.dataset_groups.proofs.ListParts.{all_from}

-- ---- what is known later and was not

-- each block that is known now and was not is so
abbrev pub AddsAll : (Block → Type 0) → Contents → Contents → Type 0
AddsAll P planned later = (block : Block) (bytes : List ℕ) → later block ≡ Some bytes → planned block ≡ None → P block

-- nothing more is known
all_none : (P : Block → Type 0) (planned : Contents) → AddsAll P planned planned
all_none P planned block bytes is none = let clash : None ≡ Some bytes = sym none ∙ is in absurd cc

-- one step after the other
all_on : (P : Block → Type 0) (planned mid later : Contents) → AddsAll P planned mid → AddsAll P mid later → AddsAll P planned later
all_on P planned mid later first rest block bytes is none = by_mid (mid block) refl
  where
    by_mid : (known : Option (List ℕ)) → mid block ≡ known → P block
    by_mid None not_yet = rest block bytes is not_yet
    by_mid (Some sooner) there = first block sooner there none

-- one block more
all_of_block : (P : Block → Type 0) (planned later : Contents) (new : Block) (bytes : List ℕ) → Adds planned later new bytes → P new → AddsAll P planned later
all_of_block P planned later new bytes adds one block known is none = elim (adds.only block known is) [
  | inl this ↦ subst P (sym this.0) one
  | inr sooner ↦ let clash : None ≡ Some known = sym none ∙ sooner in absurd cc
]

-- those of a tree, by the copies of its levels
all_of_tree : (P : Block → Type 0) {copies : CopyCounts} (birth : ℕ) (planned later : Contents) (before after gone : List Block)
    → ((block : Block) → length (dvas block.copies) ≡ copies_at copies block.property.level → P block)
    → IsExchanged copies birth planned later before after gone → AddsAll P planned later
all_of_tree P birth planned later before after gone so one block bytes is none = elim (one.only block bytes is) [
  | inl added ↦ so block (one.copied block added)
  | inr sooner ↦ let clash : None ≡ Some bytes = sym none ∙ sooner in absurd cc
]

all_of_trees : (P : Block → Type 0) (copies : CopyCounts) (birth : ℕ) (planned later : Contents) (changes : List ObjectChange) (before after : ℕ → List Block) (gone : List Block)
    → ((block : Block) → length (dvas block.copies) ≡ copies_at copies block.property.level → P block)
    → AreExchanged copies birth planned later changes before after gone → AddsAll P planned later
all_of_trees P copies birth planned later [] before after gone so chain = subst (λ (c : Contents). AddsAll P planned c) (sym chain.0) (all_none P planned)
all_of_trees P copies birth planned later (change ∷ changes) before after gone so chain =
    all_on P planned chain.0 later
    (all_of_tree P birth planned chain.0 (before change.number) (after change.number) chain.1 so chain.4)
    (all_of_trees P copies birth chain.0 later changes before after chain.2 so chain.5)

-- those of a set
all_of_set : (P : Block → Type 0) (copies : SetCopies) (planned later : Contents) (birth : ℕ) (done : SetRewrite) (changes : List ObjectChange) (objects : ℕ → Option Object)
    (own : List Block) (before : ℕ → List Block)
    → ((block : Block) → length (dvas block.copies) ≡ copies_at (object_copies copies) block.property.level → P block)
    → ((block : Block) → length (dvas block.copies) ≡ copies_at (dnode_copies copies) block.property.level → P block)
    → AreChanged copies planned later birth done changes objects own before → AddsAll P planned later
all_of_set P copies planned later birth done changes objects own before of_objects of_dnodes changed =
    all_on P planned changed.mid later
    (all_of_trees P (object_copies copies) birth planned changed.mid changes before changed.after changed.gone of_objects changed.of_objects)
    (all_of_tree P birth changed.mid later own changed.own_after changed.own_gone of_dnodes changed.of_dnodes)

-- ---- data

pub adds_none : (planned : Contents) → AddsData planned planned
adds_none planned = all_none (λ (block : Block). length (dvas block.copies) ≢ 3) planned

pub adds_on : (planned mid later : Contents) → AddsData planned mid → AddsData mid later → AddsData planned later
adds_on planned mid later first rest = all_on (λ (block : Block). length (dvas block.copies) ≢ 3) planned mid later first rest

-- one or the other number of copies
one_of : (test : Bool) (count first other : ℕ) → first ≢ 3 → other ≢ 3 → count ≡ cond test first other → count ≢ 3
one_of true count first other one two is = omega (arith, one, is)
one_of false count first other one two is = omega (arith, two, is)

-- the blocks of a volume's set
pub adds_of_set : (planned later : Contents) (birth : ℕ) (set : ObjectSet) (change : Change) (objects : ℕ → Option Object) (own : List Block) (before : ℕ → List Block)
    (block : Block) (gone : List Block) → IsSetPlanned planned later birth set change objects own before block gone → AddsData planned later
adds_of_set planned later birth set change objects own before block gone is =
    adds_on planned is.mid later
    (all_of_set (λ (block : Block). length (dvas block.copies) ≢ 3) (copies_of Volume) planned is.mid birth is.rewrite _ _ own before
    (λ b count. one_of (b.property.level == 0) _ 1 2 (omega arith) (omega arith) count)
    (λ b count. one_of (b.property.level == 0) _ 2 2 (omega arith) (omega arith) count)
    is.objects_are)
    (all_of_block (λ (block : Block). length (dvas block.copies) ≢ 3) is.mid later block _ is.adds (let two = is.copies in omega (arith, two)))

-- ---- the meta object set

-- the same number of copies either way
same_copies : (test : Bool) (count : ℕ) → cond test count count ≡ count
same_copies true count = refl
same_copies false count = refl

-- its blocks, and its own
pub adds_of_root : (kind : ObjectSetKind) (planned mid later : Contents) (birth : ℕ) (done : SetRewrite) (changes : List ObjectChange) (objects : ℕ → Option Object)
    (own : List Block) (before : ℕ → List Block) (root : Block) (bytes : List ℕ) → kind ≡ Meta
    → AreChanged (copies_of kind) planned mid birth done changes objects own before → Adds mid later root bytes → length (dvas root.copies) ≡ 3 → AddsMeta planned later
adds_of_root kind planned mid later birth done changes objects own before root bytes meta changed adds three =
    all_on (λ (block : Block). length (dvas block.copies) ≡ 3) planned mid later
    (all_of_set (λ (block : Block). length (dvas block.copies) ≡ 3) (copies_of Meta) planned mid birth done changes objects own before
    (λ b count. count ∙ same_copies (b.property.level == 0) 3)
    (λ b count. count ∙ same_copies (b.property.level == 0) 3)
    (subst (λ (copies : SetCopies). AreChanged copies planned mid birth done changes objects own before) (ap copies_of meta) changed))
    (all_of_block (λ (block : Block). length (dvas block.copies) ≡ 3) mid later root bytes adds three)

-- ---- a reach

-- its blocks are so where those before were and those that are new are
pub reach_copied : (P : Block → Type 0) (birth : ℕ) (planned later : Contents) (before after gone : List Block) → IsReachExchanged birth planned later before after gone
    → ((block : Block) (bytes : List ℕ) → later block ≡ Some bytes → planned block ≡ None → P block) → All P before → All P after
reach_copied P birth planned later before after gone one new so_far =
    all_from P after (λ block held.
    elim (cases_lt 0 (count_by (same_as block) one.stayed)) [
      | inl stays ↦ All-contains P before block so_far (found block before (omega (arith, stays, one.before_are (same_as block))))
      | inr not ↦
          let added : Contains one.added block = found block one.added (omega (arith, not, counted block after held, one.after_are (same_as block))) in
          let there = one.known block added in
          new block there.0 there.1 (one.fresh block added)
    ])
