-- The blocks of dnodes after writes.
use Rattle.std.proofs.Common.{◌≡◌, ◌≢◌, ℕ, ◌+◌, ◌*◌, ◌/◌, ◌%◌, ◌<◌, inl, inr, List, [], ◌∷◌, ◌++◌, Option, Some, All, ◌==◌, if◌then◌else◌, refl, sym, ap, ◌∙◌, subst, arith}
use Rattle.std.proofs.lemmas.Bool.{ne_eqb, eq-eqb, cases_eq}
use Rattle.std.proofs.lemmas.List.Elements.{All-head, All-tail, All-weaker}
use Rattle.dnode.specs.declared.dnode.Dnode.{Dnode}
use Rattle.dnode_tree.specs.declared.writes.BlockWrite.{BlockWrite}
use Rattle.dnode_tree.specs.Writes.{written}
use Rattle.objset.specs.declared.node_writes.NodeWrite.{NodeWrite}
use Rattle.objset.specs.Nodes.{IsNodeIn, AreNodesOf}
use Rattle.objset.specs.NodeSlots.{HasSlots}
use Rattle.objset.specs.NodeWrites.{written_nodes}
use Rattle.objset.proofs.NodeLists.{front_misses, rest_misses}

-- the last of the blocks that are written, where no other has its id, and elsewhere
last_block : (blocks : List BlockWrite) (block : BlockWrite) (array : ℕ → Option (List ℕ)) → All (λ other. other.id ≢ block.id) blocks
    → written (blocks ++ block ∷ []) array block.id ≡ Some block.bytes.items
last_block [] block array others = ap (λ same. if same then Some block.bytes.items else array block.id) (eq-eqb block.id block.id refl)
last_block (other ∷ blocks) block array others =
    ap (λ same. if same then Some other.bytes.items else written (blocks ++ block ∷ []) array block.id)
    (ne_eqb other.id block.id (All-head (λ w. w.id ≢ block.id) other blocks others))
    ∙ last_block blocks block array (All-tail (λ w. w.id ≢ block.id) other blocks others)

other_blocks : (blocks : List BlockWrite) (block : BlockWrite) (array : ℕ → Option (List ℕ)) (id : ℕ) → block.id ≢ id → written (blocks ++ block ∷ []) array id ≡ written blocks array id
other_blocks [] block array id ne = ap (λ same. if same then Some block.bytes.items else array id) (ne_eqb block.id id ne)
other_blocks (other ∷ blocks) block array id ne = ap (λ found. if other.id == id then Some other.bytes.items else found) (other_blocks blocks block array id ne)

pub node_in_as : (found other : Option (List ℕ)) (place : ℕ) (node there : Dnode) → found ≡ other → node ≡ there → IsNodeIn other place there → IsNodeIn found place node
node_in_as found other place node there same is has =
    subst (λ o. IsNodeIn o place node) (sym same) (subst (λ d. IsNodeIn other place d) (sym is) has)

-- a further block is written, with the dnodes of the further writes
pub block_added : (blocks : List BlockWrite) (block : BlockWrite) (array : ℕ → Option (List ℕ)) (front run : List NodeWrite) (nodes : ℕ → Dnode)
    → All (λ other. other.id ≢ block.id) blocks → All (λ write. write.number / 32 ≢ block.id) front → All (λ write. write.number / 32 ≡ block.id) run
    → AreNodesOf (written blocks array) (written_nodes front nodes) → HasSlots block.bytes.items block.id (written_nodes run nodes)
    → AreNodesOf (written (blocks ++ block ∷ []) array) (written_nodes (front ++ run) nodes)
block_added blocks block array front run nodes other_ids others same are has number =
    elim (cases_eq (number / 32) block.id) [
      | inl here ↦
          let there : 32 * block.id + number % 32 ≡ number = omega (arith, here) in
          node_in_as (written (blocks ++ block ∷ []) array (number / 32)) (Some block.bytes.items) (number % 32) (written_nodes (front ++ run) nodes number)
          (written_nodes run nodes (32 * block.id + number % 32))
          (ap (λ id. written (blocks ++ block ∷ []) array id) here ∙ last_block blocks block array other_ids)
          (front_misses front run nodes number (All-weaker (λ w. w.number / 32 ≢ block.id) (λ w. w.number ≢ number) (λ w ne is. ne (ap (λ n. n / 32) is ∙ here)) front others)
          ∙ ap (λ n. written_nodes run nodes n) (sym there))
          (has (number % 32) (omega arith))
      | inr elsewhere ↦
          node_in_as (written (blocks ++ block ∷ []) array (number / 32)) (written blocks array (number / 32)) (number % 32) (written_nodes (front ++ run) nodes number)
          (written_nodes front nodes number)
          (other_blocks blocks block array (number / 32) (λ is. elsewhere (sym is)))
          (rest_misses front run nodes number (All-weaker (λ w. w.number / 32 ≡ block.id) (λ w. w.number ≢ number) (λ w there is. elsewhere (ap (λ n. n / 32) (sym is) ∙ there)) run same))
          (are number)
    ]

-- the dnodes that the block of that id has, or none where it is a hole
pub slots_of_block : (array : ℕ → Option (List ℕ)) (nodes : ℕ → Dnode) (id place : ℕ) → place < 32 → AreNodesOf array nodes → IsNodeIn (array id) place (nodes (32 * id + place))
slots_of_block array nodes id place low are =
    let at : (32 * id + place) / 32 ≡ id = omega arith in
    let of : (32 * id + place) % 32 ≡ place = omega arith in
    subst (λ i. IsNodeIn (array i) place (nodes (32 * id + place))) at
    (subst (λ p. IsNodeIn (array ((32 * id + place) / 32)) p (nodes (32 * id + place))) of (are (32 * id + place)))
