-- An object set after dnodes were written.
use Rattle.std.proofs.Common.{◌≡◌, ◌≢◌, ℕ, ◌+◌, ◌*◌, ◌/◌, ◌<◌, ◌≤◌, List, All, sym, ◌∙◌, subst, arith}
use Rattle.std.specs.List.{Any}
use Rattle.std.proofs.lemmas.List.Elements.{All-weaker}
use Rattle.block_pointer.specs.declared.block.Block.{Block}
use Rattle.dnode.specs.declared.dnode.Dnode.{Dnode}
use Rattle.dnode.specs.declared.node.ObjectNode.{ObjectNode}
use Rattle.dnode.specs.declared.object_set.ObjectSet.{ObjectSet}
use Rattle.dnode.specs.Node.{FitsNode}
use Rattle.dnode.specs.ObjectSet.{FitsObjectSet}
use Rattle.block_store.specs.Blocks.{Contents}
use Rattle.dnode_tree.specs.declared.writes.BlockWrite.{BlockWrite}
use Rattle.dnode_tree.specs.declared.writes.CopyCounts.{CopyCounts}
use Rattle.dnode_tree.specs.declared.writes.Rewrite.{Rewrite}
use Rattle.dnode_tree.specs.Rewriting.{IsExchanged, IsGrown, IsRewritten}
use Rattle.dnode_tree.specs.Births.{HasBirths, births_after, height_of}
use Rattle.dnode_tree.specs.Tree.{IsTree}
use Rattle.dnode_tree.specs.Writes.{written}
use Rattle.objset.specs.declared.node_writes.NodeWrite.{NodeWrite}
use Rattle.objset.specs.declared.node_writes.SetRewrite.{SetRewrite}
use Rattle.objset.specs.Nodes.{AreNodesOf, HasNodes}
use Rattle.objset.specs.NodeWrites.{AreNodeWrites, FitsWrite, AreNodesRewritten, written_nodes, births_written}
use Rattle.objset.proofs.NodeLists.{nodes_others}
use Rattle.objset.proofs.NodeBirths.{blocks_born}

-- the object of the dnodes has a place for each of them
pub set_fits : (old : ObjectSet) (new : ObjectSet) (writes : List NodeWrite) (changed : List BlockWrite) → FitsObjectSet old → FitsNode new.dnodes → IsGrown old.dnodes new.dnodes changed
    → All (λ write. Any (λ block. block.id ≡ write.number / 32) changed) writes
    → old.objects ≤ new.objects → ((objects : ℕ) → old.objects ≤ objects → All (λ write. write.number < objects) writes → new.objects ≤ objects)
    → FitsObjectSet new
set_fits old new writes changed fits node grown reached from least = (
  node,
  record {
    object_type = grown.object_type ∙ fits.1.object_type;
    sectors = grown.data_sectors ∙ fits.1.sectors;
    some = omega (arith, fits.1.some, from);
    within = least (32 * (new.dnodes.highest + 1)) (omega (arith, fits.1.within, grown.from))
        (λ j other low.
        let (k, block, under, is, same) = reached j other low in
        let room : block.id ≤ new.dnodes.highest = subst (λ (b : BlockWrite). b.id ≤ new.dnodes.highest) is (grown.room k block under) in
        omega (arith, room, same));
  },
)

pub nodes_rewritten : {copies : CopyCounts} (old : ObjectSet) (stored planned later : Contents) (bound birth : ℕ) (nodes : ℕ → Dnode) (blocks : List Block) (writes : List NodeWrite) (changed : List BlockWrite)
    (rewrite : Rewrite) (done : SetRewrite) → AreNodeWrites writes → (has : HasNodes stored bound old nodes blocks) → done.set.dnodes ≡ rewrite.node → done.replaced.items ≡ rewrite.replaced.items
    → old.objects ≤ done.set.objects → All (λ write. write.number < done.set.objects) writes
    → IsRewritten copies planned later birth rewrite (written changed has.array) blocks
    → HasBirths later rewrite.node (births_after (height_of old.dnodes) changed birth has.births)
    → All (λ block. Any (λ write. write.number / 32 ≡ block.id) writes) changed → All (λ write. Any (λ block. block.id ≡ write.number / 32) changed) writes
    → AreNodesOf (written changed has.array) (written_nodes writes nodes)
    → AreNodesRewritten copies planned later birth done (written_nodes writes nodes) (births_written writes birth (has.births 0)) blocks
nodes_rewritten {copies = copies} old stored planned later bound birth nodes blocks writes changed rewrite done good has node_is replaced_is from room rewritten born only reached are = record {
  kept = rewritten.kept;
  blocks = rewritten.blocks;
  dnodes = record {
    array = written changed has.array;
    tree = subst (λ (node : ObjectNode). IsTree later birth node (written changed has.array) rewritten.blocks) (sym node_is) rewritten.tree;
    births = births_after (height_of old.dnodes) changed birth has.births;
    born = subst (λ (node : ObjectNode). HasBirths later node (births_after (height_of old.dnodes) changed birth has.births)) (sym node_is) born;
    each = are;
    first =
        nodes_others writes nodes 0 (All-weaker FitsWrite (λ (w : NodeWrite). w.number ≢ 0) (λ w fits is. omega (arith, fits.some, is)) writes good.each)
        ∙ has.first;
    behind = λ number past.
        nodes_others writes nodes number
        (All-weaker (λ (w : NodeWrite). w.number < done.set.objects) (λ (w : NodeWrite). w.number ≢ number) (λ w low is. omega (arith, low, is, past)) writes room)
        ∙ has.behind number (omega (arith, from, past));
  };
  births_are = blocks_born (height_of old.dnodes) changed writes birth has.births only reached;
  exchanged = subst (λ (gone : List Block). IsExchanged copies birth planned later blocks rewritten.blocks gone) (sym replaced_is) rewritten.exchanged;
}

-- no more blocks than the writes need
pub highest_least : (old new : ObjectNode) (writes : List NodeWrite) (changed : List BlockWrite) → IsGrown old new changed → All (λ block. Any (λ write. write.number / 32 ≡ block.id) writes) changed
    → (highest : ℕ) → old.highest ≤ highest → All (λ write. write.number / 32 ≤ highest) writes → new.highest ≤ highest
highest_least old new writes changed grown only highest from room =
    grown.least highest from (λ j other low.
    let (k, write, under, is, same) = only j other low in
    let there : write.number / 32 ≤ highest = subst (λ (w : NodeWrite). w.number / 32 ≤ highest) is (room k write under) in
    omega (arith, there, same))
