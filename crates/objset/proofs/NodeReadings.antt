-- A set has one list of dnodes, and one list of blocks that they stand in.
use Rattle.std.proofs.Common.{◌≡◌, ℕ, ◌/◌, ◌%◌, ◌^◌, ◌<◌, List, refl, sym, subst, ◌∙◌}
use Rattle.block_pointer.specs.declared.block.Block.{Block}
use Rattle.block_store.specs.Blocks.{Contents}
use Rattle.dnode.specs.declared.dnode.Dnode.{Dnode}
use Rattle.dnode.specs.declared.object_set.ObjectSet.{ObjectSet}
use Rattle.dnode_tree.proofs.Ages.{same_bytes}
use Rattle.dnode_tree.proofs.Readings.{trees_read_as_one}
use Rattle.objset.proofs.Spellings.{cell_once, set_once}
use Rattle.objset.specs.Nodes.{HasNodes, IsNodeIn}
use Rattle.objset.specs.Sets.{IsSetBlock}

-- a block spells one set
pub set_block_once : (stored : Contents) (birth later : ℕ) (block : Block) (set other : ObjectSet) → IsSetBlock stored birth block set → IsSetBlock stored later block other → set ≡ other
set_block_once stored birth later block set other one two =
    let bytes = same_bytes (stored block) (stored block) one.bytes two.bytes refl one.known two.known in
    set_once two.bytes set other (one.spelled.0, sym bytes ∙ one.spelled.1) two.spelled

-- the dnodes of a set
pub nodes_read_as_one : (stored : Contents) (birth later : ℕ) (set : ObjectSet) (nodes others : ℕ → Dnode) (blocks more : List Block) → set.dnodes.highest < 128 ^ 5
    → HasNodes stored birth set nodes blocks → HasNodes stored later set others more → (nodes ≡ others) × (blocks ≡ more)
nodes_read_as_one stored birth later set nodes others blocks more room one two =
    let same = trees_read_as_one stored birth later set.dnodes one.array two.array blocks more room one.tree two.tree in
    let each : (number : ℕ) → nodes number ≡ others number = λ number.
    cell_once (two.array (number / 32)) (number % 32) (nodes number) (others number)
    (subst (λ array. IsNodeIn (array (number / 32)) (number % 32) (nodes number)) same.0 (one.each number)) (two.each number) in
    (λ i number. each number i, same.1)
