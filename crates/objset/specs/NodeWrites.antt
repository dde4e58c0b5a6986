-- Writes of dnodes.
use Rattle.std.specs.Prelude.{ℕ, ◌≡◌, ◌==◌, ◌*◌, ◌/◌, ◌^◌, ◌<◌, ◌≤◌, List, [], ◌∷◌, All, AllPairs, Any, map, if◌then◌else◌}
use Rattle.block_pointer.specs.declared.block.Block.{Block}
use Rattle.dnode.specs.declared.dnode.Dnode.{Dnode}
use Rattle.dnode.specs.declared.object_set.ObjectSet.{ObjectSet}
use Rattle.dnode.specs.Dnode.{FitsDnode}
use Rattle.block_store.specs.Blocks.{Contents, Extends}
use Rattle.block_store.specs.Demands.{Demand, HavePlaces, LackPlaces}
use Rattle.block_store.specs.Spaces.{VdevSpace}
use Rattle.dnode_tree.specs.declared.writes.BlockWrite.{BlockWrite}
use Rattle.dnode_tree.specs.declared.writes.CopyCounts.{CopyCounts}
use Rattle.dnode_tree.specs.Rewriting.{IsExchanged}
use Rattle.dnode_tree.specs.Spots.{demands_of}
use Rattle.dnode_tree.specs.Writes.{AreInOrder}
use Rattle.objset.specs.declared.node_writes.NodeWrite.{NodeWrite}
use Rattle.objset.specs.declared.node_writes.SetRewrite.{SetRewrite}
use Rattle.objset.specs.Nodes.{HasNodes}

-- the dnodes after writes
abbrev pub written_nodes : List NodeWrite → (ℕ → Dnode) → ℕ → Dnode
written_nodes [] nodes number = nodes number
written_nodes (write ∷ writes) nodes number = if write.number == number then write.node else written_nodes writes nodes number

-- the births of the blocks of dnodes after writes in a group: a block with a written dnode is new
abbrev pub births_written : List NodeWrite → ℕ → (ℕ → ℕ) → ℕ → ℕ
births_written [] birth births id = births id
births_written (write ∷ writes) birth births id = if write.number / 32 == id then birth else births_written writes birth births id

-- a dnode that may be written, with its number
pub record FitsWrite (write : NodeWrite) : Type 0 where
  pub some : 0 < write.number
  pub number : write.number < 32 * 128 ^ 5
  pub node : FitsDnode write.node

-- each number is written once, in ascending order, and none is 0
pub record AreNodeWrites (writes : List NodeWrite) : Type 0 where
  pub order : AllPairs (λ write later. write.number < later.number) writes
  pub each : All FitsWrite writes

-- The set has the kind that it had, as many dnodes as it needs, and no more blocks of dnodes.
pub record IsGrownSet (old new : ObjectSet) (writes : List NodeWrite) : Type 0 where
  pub kind : new.kind ≡ old.kind
  pub from : old.objects ≤ new.objects
  pub room : All (λ write. write.number < new.objects) writes
  pub least : (objects : ℕ) → old.objects ≤ objects → All (λ write. write.number < objects) writes → new.objects ≤ objects
  pub highest_from : old.dnodes.highest ≤ new.dnodes.highest
  pub highest_least : (highest : ℕ) → old.dnodes.highest ≤ highest → All (λ write. write.number / 32 ≤ highest) writes → new.dnodes.highest ≤ highest

-- The dnodes of the set are these now, and their blocks have these births. Of the blocks that they stood in some stayed, those that are
-- replaced gave way, and all others are new.
pub record AreNodesRewritten (copies : CopyCounts) (planned later : Contents) (birth : ℕ) (done : SetRewrite) (nodes : ℕ → Dnode) (births : ℕ → ℕ) (before : List Block) : Type 0 where
  pub kept : Extends planned later
  pub blocks : List Block
  pub dnodes : HasNodes later birth done.set nodes blocks
  pub births_are : (id : ℕ) → dnodes.births 0 id ≡ births id
  pub exchanged : IsExchanged copies birth planned later before blocks done.replaced.items

-- ---- places

-- the numbers of the dnodes that are written, in the order of the writes
abbrev pub numbers_of : List NodeWrite → List ℕ
numbers_of writes = map (λ write. write.number) writes

-- the blocks of dnodes that have one of these numbers, each once
pub record AreBlocksOf (numbers : List ℕ) (blocks : List BlockWrite) : Type 0 where
  pub order : AreInOrder blocks
  pub each : All (λ block. Any (λ number. number / 32 ≡ block.id) numbers) blocks
  pub all : All (λ number. Any (λ block. block.id ≡ number / 32) blocks) numbers

-- for the blocks of dnodes that have one of these numbers, each once, and those above them, these are asked
pub record AreNodeDemands (set : ObjectSet) (copies : CopyCounts) (numbers : List ℕ) (demands : List Demand) : Type 0 where
  pub blocks : List BlockWrite
  pub are : AreBlocksOf numbers blocks
  pub demands_are : demands ≡ demands_of set.dnodes copies blocks

-- for what they ask places were taken, and for nothing else
abbrev pub HaveNodePlaces : ObjectSet → CopyCounts → List ℕ → List VdevSpace → List VdevSpace → Type 0
HaveNodePlaces set copies numbers before after =
    (demands : List Demand) × AreNodeDemands set copies numbers demands × HavePlaces before demands after

-- so it is of the first of them, and then no free place was left for the next
abbrev pub LackNodePlaces : ObjectSet → CopyCounts → List ℕ → List VdevSpace → List VdevSpace → Type 0
LackNodePlaces set copies numbers before after =
    (demands : List Demand) × AreNodeDemands set copies numbers demands × LackPlaces before demands after
