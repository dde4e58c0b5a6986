-- All blocks of a volume that a record leads to have a spelling, and blocks that are within it.
use Rattle.std.proofs.Common.{◌≡◌, ◌+◌, ◌*◌, ◌/◌, ◌%◌, ◌^◌, ◌<◌, ℕ, zero, suc, List, [], ◌∷◌, length, get_or, Option, Some, None, All, Any, Contains, sym, subst, ◌∙◌, arith}
use Rattle.std.specs.List.{flat_map, range_with_len}
use Rattle.std.proofs.lemmas.List.Elements.{All-append, All-cons, All-contains, All-from_recursion, All-get_or, All-nil}
use Rattle.block_pointer.specs.Block.{FitsBlock}
use Rattle.block_pointer.specs.Pointer.{Fits}
use Rattle.block_pointer.specs.declared.block.Block.{Block}
use Rattle.block_pointer.specs.declared.pointer.BlockPtr.{BlockPtr}
use Rattle.block_pointer.specs.declared.pointer.BlockPtr.TheVariants.{Hole, Block as At}
use Rattle.block_pointer.specs.declared.property.Property.{Property}
use Rattle.block_store.specs.Blocks.{Contents}
use Rattle.block_store.specs.declared.refusal.Refusal.{Refusal}
use Rattle.dnode.specs.Dnode.{FitsDnode}
use Rattle.dnode.specs.Indirect.{FitsPointer}
use Rattle.dnode.specs.declared.dnode.Dnode.{Dnode}
use Rattle.dnode.specs.declared.dnode.Dnode.TheVariants.{Free as NoObject, Object as Node}
use Rattle.dnode.specs.declared.node.ObjectNode.{ObjectNode}
use Rattle.dnode.specs.declared.object_set.ObjectSet.{ObjectSet}
use Rattle.objset.specs.Nodes.{IsNodeIn, birth_of}
use Rattle.dnode_tree.specs.Subtree.{IsSubtree, joined}
use Rattle.dnode_tree.specs.Tree.{IsTree, property_of}
use Rattle.meta_objset.specs.Record.{FitsRecord}
use Rattle.meta_objset.specs.declared.record.DatasetRecord.{DatasetRecord}
use Rattle.objset.specs.Objects.{AreObjects, IsObject, Object}
use Rattle.objset.specs.Within.{blocks_of_set}
use Rattle.dataset_changes.specs.declared.changes.DatasetChanges.{DatasetChanges}
use Rattle.dataset_changes.proofs.FittingRecords.{record_now_fits}
use Rattle.dead_list.specs.Datasets.{Free, Head, Pool}
use Rattle.dead_list.specs.Operations.{IsHead}
use Rattle.dataset_chains.specs.Chains.{HasDataset, LeadsTo, Reading, SpellsChains}
use Rattle.dataset_chains.specs.Refused.{IsBlockMisfit}

-- ---- of a tree

joined_fit : (parts : List (List Block)) → ((k : ℕ) → k < length parts → All FitsBlock (get_or parts k [])) → All FitsBlock (joined parts)
joined_fit [] each = All-nil FitsBlock
joined_fit (part ∷ parts) each =
    All-append FitsBlock part (joined parts) (each 0 (omega arith)) (joined_fit parts (λ k low. each (suc k) (omega (arith, low))))

pub subtree_fits : (stored : Contents) (property : ℕ → Property) (level first birth : ℕ) (pointer : BlockPtr) (array : ℕ → Option (List ℕ)) (blocks : List Block) → Fits pointer
    → IsSubtree stored property level first birth pointer array blocks → All FitsBlock blocks
subtree_fits stored property zero first birth Hole array blocks fits part = subst (λ all. All FitsBlock all) (sym part.1) (All-nil FitsBlock)
subtree_fits stored property zero first birth (At block) array blocks fits part =
    subst (λ all. All FitsBlock all) (sym part.3) (All-cons FitsBlock block [] fits (All-nil FitsBlock))
subtree_fits stored property (suc level) first birth Hole array blocks fits part = subst (λ all. All FitsBlock all) (sym part.1) (All-nil FitsBlock)
subtree_fits stored property (suc level) first birth (At block) array blocks fits part =
    let each : (k : ℕ) → k < 128 → Fits (get_or part.pointers k Hole) = λ k low.
    (All-get_or FitsPointer part.pointers k Hole (omega (arith, low, part.spelled.0.count)) (All-from_recursion FitsPointer part.pointers part.spelled.0.each)).0 in
    subst (λ all. All FitsBlock all) (sym part.blocks_are)
    (All-cons FitsBlock block (joined part.parts) fits
    (joined_fit part.parts
    (λ k low.
    let under : k < 128 = omega (arith, low, part.count) in
    subtree_fits stored property level (first + k * 128 ^ level) block.birth (get_or part.pointers k Hole) array (get_or part.parts k []) (each k under) (part.below k under))))

pub tree_fits : (stored : Contents) (birth : ℕ) (node : ObjectNode) (array : ℕ → Option (List ℕ)) (blocks : List Block) → Fits node.pointer → IsTree stored birth node array blocks → All FitsBlock blocks
tree_fits stored birth node array blocks fits tree = subtree_fits stored (property_of node) _ 0 birth node.pointer array blocks fits tree.root

-- ---- of a set

node_fits : (bytes : Option (List ℕ)) (place : ℕ) (dnode : Dnode) → IsNodeIn bytes place dnode → FitsDnode dnode
node_fits None place dnode is = subst (λ d. FitsDnode d) (sym is) tt
node_fits (Some bytes) place dnode is = is.0

object_fits : (stored : Contents) (birth : ℕ) (dnode : Dnode) (object : Option Object) (blocks : List Block) → FitsDnode dnode → IsObject stored birth dnode object blocks → All FitsBlock blocks
object_fits stored birth NoObject object blocks fits is = subst (λ all. All FitsBlock all) (sym is.1) (All-nil FitsBlock)
object_fits stored birth (Node node) None blocks fits is = absurd is
object_fits stored birth (Node node) (Some object) blocks fits is = tree_fits stored birth node object.array blocks fits.1 is.3

all_fit : (blocks : ℕ → List Block) → ((number : ℕ) → All FitsBlock (blocks number)) → (numbers : List ℕ) → All FitsBlock (flat_map blocks numbers)
all_fit blocks each [] = All-nil FitsBlock
all_fit blocks each (number ∷ numbers) = All-append FitsBlock (blocks number) (flat_map blocks numbers) (each number) (all_fit blocks each numbers)

pub set_fits : (stored : Contents) (birth : ℕ) (set : ObjectSet) (objects : ℕ → Option Object) (own : List Block) (blocks : ℕ → List Block) → Fits set.dnodes.pointer
    → AreObjects stored birth set objects own blocks → All FitsBlock (blocks_of_set set own blocks)
set_fits stored birth set objects own blocks fits are =
    All-append FitsBlock own (flat_map blocks (range_with_len 0 set.objects)) (tree_fits stored birth set.dnodes are.dnodes.array own fits are.dnodes.tree)
    (all_fit blocks
    (λ number.
    object_fits stored (birth_of are.dnodes.births number) (are.nodes number) (objects number) (blocks number) (node_fits (are.dnodes.array (number / 32)) (number % 32) (are.nodes number) (are.dnodes.each number))
    (are.each number))
    (range_with_len 0 set.objects))

-- ---- of a volume

pub volume_fits : (known : Contents) (group : ℕ) (r : DatasetRecord) (blocks : List Block) (reading : Reading) → LeadsTo known group r blocks reading → FitsRecord r → All FitsBlock blocks
volume_fits known group r blocks reading leads fits =
    let volume = leads.bytes in
    subst (λ all. All FitsBlock all) leads.blocks_are
    (All-cons FitsBlock r.object_set (blocks_of_set volume.set volume.has.own volume.has.blocks) fits.object_set
    (set_fits known r.object_set.birth volume.set volume.has.objects volume.has.own volume.has.blocks volume.is_set.spelled.0.0.1 volume.has.are))

-- ---- of a dataset

module _ (known : Contents) (group : ℕ) (objects : ℕ → Option Object) (changes : DatasetChanges) (pool : Pool) (readings : ℕ → Reading) (number : ℕ) where
  pub dataset_fits : HasDataset known group objects changes pool readings number → All FitsBlock (pool.datasets number).blocks
  dataset_fits has = volume_fits known group has.r (pool.datasets number).blocks (readings number) has.leads (record_now_fits objects changes number has.r has.has)

  pub head_fits : SpellsChains known group objects changes pool readings → IsHead pool.datasets number → All FitsBlock (pool.datasets number).blocks
  head_fits spells head = dataset_fits (spells.each number (λ free. let clash : Head ≡ Free = sym head ∙ free in cc))

-- one of some blocks is one of those that they are within
any_within : (P : Block → Type 0) (some all : List Block) → All (Contains all) some → Any P some → Any P all
any_within P some all within one =
    let there = All-contains (Contains all) some one.1 within (one.0, one.2, one.3) in (there.0, one.1, there.1, there.2, one.4)

module _ (some older left : List Block) (refusal : Refusal) (are : some ≡ older) (within : All (Contains left) older) (misfit : IsBlockMisfit some refusal) where
  pub left_misfit : IsBlockMisfit left refusal
  left_misfit = (misfit.0, any_within (λ block. ¬ FitsBlock block) some left (subst (λ (blocks : List Block). All (Contains left) blocks) (sym are) within) misfit.1)

  -- of blocks that fit none is a misfit
  pub no_misfit : (blocks : List Block) → All FitsBlock blocks → ((block : Block) → Contains left block → Contains blocks block) → ⊥
  no_misfit blocks fit of_head =
      let one = left_misfit.1 in
      one.4 (All-contains FitsBlock blocks one.1 fit (of_head one.1 (one.0, one.2, one.3)))
