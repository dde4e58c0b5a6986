-- The blocks of the dnodes, one after the other.
use Rattle.std.proofs.Common.{All, ◌≡◌, ◌≢◌, ℕ, ◌+◌, ◌*◌, ◌<◌, ◌≤◌, List, [], ◌∷◌, ◌++◌, length, take, drop, get_or, Option, Some, None, Contains, refl, sym, ap, ◌∙◌, subst, arith, append-nil, true, false}
use Rattle.std.specs.Prelude.{not, ◌==◌}
use Rattle.std.specs.List.{flat_map}
use Rattle.std.proofs.lemmas.Bool.{ne_eqb, eq-eqb}
use Rattle.std.proofs.lemmas.List.{take_more, length-drop}
use Rattle.std.proofs.lemmas.List.Concat.{flat_map-append}
use Rattle.std.proofs.lemmas.List.Elements.{Contains-get_or, All-append}
use Rattle.std.proofs.lemmas.List.Sums.{count_by_more_no, count_by_more_yes, count_by-le-length, sum_by-take-drop}
use Rattle.block_pointer.specs.declared.block.Block.{Block}
use Rattle.block_store.specs.Blocks.{Contents}
use Rattle.block_store.specs.Spaces.{VdevSpace}
use Rattle.dnode.specs.declared.dnode.Dnode.{Dnode}
use Rattle.dnode.specs.declared.node.ObjectNode.{ObjectNode}
use Rattle.dnode_tree.proofs.Ids.{HaveIds, HasId, IsDataOf, at_id, id_at}
use Rattle.dnode_tree.specs.Within.{indirect_count}
use Rattle.objset.proofs.BlockLists.{slots_of_block}
use Rattle.objset.specs.declared.node_walks.FoundNode.{FoundNode}
use Rattle.objset.specs.Nodes.{IsNodeIn, AreNodesOf}
use Rattle.objset.specs.NodeSlots.{HasSlots}
use Rattle.objset.specs.NodesWithin.{IsNodeFrom, IsNodeOfOne}

-- ---- counts

is_above : (block : Block) → block.property.level ≢ 0 → not (block.property.level == 0) ≡ true
is_above block apart = ap not (ne_eqb block.property.level 0 apart)

is_data : (block : Block) → block.property.level ≡ 0 → not (block.property.level == 0) ≡ false
is_data block same = ap not (eq-eqb block.property.level 0 same)

pub no_more : (blocks : List Block) (k : ℕ) (block other : Block) → k < length blocks → block ≡ get_or blocks k other → block.property.level ≡ 0
    → indirect_count (take (k + 1) blocks) ≡ indirect_count (take k blocks)
no_more blocks k block other low is same =
    count_by_more_no (λ (b : Block). not (b.property.level == 0)) blocks k other low (ap (λ (b : Block). not (b.property.level == 0)) (sym is) ∙ is_data block same)

pub more : (blocks : List Block) (k : ℕ) (block other : Block) → k < length blocks → block ≡ get_or blocks k other → block.property.level ≢ 0
    → indirect_count (take (k + 1) blocks) ≡ indirect_count (take k blocks) + 1
more blocks k block other low is apart =
    count_by_more_yes (λ (b : Block). not (b.property.level == 0)) blocks k other low (ap (λ (b : Block). not (b.property.level == 0)) (sym is) ∙ is_above block apart)

pub within_all : (blocks : List Block) → indirect_count blocks ≤ length blocks
within_all blocks = count_by-le-length (λ (b : Block). not (b.property.level == 0)) blocks

-- where a block of dnodes comes, as many are left as there are behind it, and one for itself
pub still_one : (blocks : List Block) (k : ℕ) (block other : Block) → k < length blocks → block ≡ get_or blocks k other → block.property.level ≡ 0
    → indirect_count blocks + k < indirect_count (take k blocks) + length blocks
still_one blocks k block other low is same =
    let none = no_more blocks k block other low is same in
    let sum : indirect_count (take (k + 1) blocks) + indirect_count (drop (k + 1) blocks) ≡ indirect_count blocks = sum_by-take-drop _ blocks (k + 1) in
    let rest = within_all (drop (k + 1) blocks) in
    omega (arith, none, sum, rest, length-drop (k + 1) blocks, low)

-- ---- ids

data_id : (stored : Contents) (node : ObjectNode) (array : ℕ → Option (List ℕ)) (births : ℕ → ℕ → ℕ) (block : Block) (found : Option ℕ) → HasId stored node array births block found → block.property.level ≡ 0
    → (id : ℕ) × (found ≡ Some id) × IsDataOf stored node array births block id
data_id stored node array births block None has same = absurd (omega (arith, has, same))
data_id stored node array births block (Some id) has same = (id, refl, has)

above_id : (stored : Contents) (node : ObjectNode) (array : ℕ → Option (List ℕ)) (births : ℕ → ℕ → ℕ) (block : Block) (found : Option ℕ) → HasId stored node array births block found → block.property.level ≢ 0
    → found ≡ None
above_id stored node array births block None has apart = refl
above_id stored node array births block (Some id) has apart = absurd (apart (ap (λ p. p.level) has.property))

module _ (stored : Contents) (node : ObjectNode) (array : ℕ → Option (List ℕ)) (births : ℕ → ℕ → ℕ) (blocks : List Block) (ids : List (Option ℕ)) (k : ℕ) (block other : Block)
    (have : HaveIds stored node array births blocks ids) (low : k < length blocks) (is : block ≡ get_or blocks k other) where
  pub data_at : block.property.level ≡ 0 → (id : ℕ) × (get_or ids k None ≡ Some id) × IsDataOf stored node array births block id
  data_at same =
      data_id stored node array births block (get_or ids k None)
      (subst (λ b. HasId stored node array births b (get_or ids k None)) (sym is) (id_at stored node array births blocks ids k other have low).0) same

  above_at : block.property.level ≢ 0 → get_or ids k None ≡ None
  above_at apart =
      above_id stored node array births block (get_or ids k None)
      (subst (λ b. HasId stored node array births b (get_or ids k None)) (sym is) (id_at stored node array births blocks ids k other have low).0) apart

  module _ {X : Type 0} (f : ℕ → List X) where
    next : flat_map (at_id f) (take (k + 1) ids) ≡ flat_map (at_id f) (take k ids) ++ at_id f (get_or ids k None)
    next =
        ap (flat_map (at_id f)) (take_more ids k None (id_at stored node array births blocks ids k other have low).1)
        ∙ flat_map-append (at_id f) (take k ids) (get_or ids k None ∷ [])
        ∙ ap (λ back. flat_map (at_id f) (take k ids) ++ back) (append-nil (at_id f (get_or ids k None)))

    pub next_data : (same : block.property.level ≡ 0) (before later : List X) → before ≡ flat_map (at_id f) (take k ids) → later ≡ before ++ f (data_at same).0
        → later ≡ flat_map (at_id f) (take (k + 1) ids)
    next_data same before later before_is later_is =
        later_is ∙ ap (λ front. front ++ f (data_at same).0) before_is
        ∙ ap (λ id. flat_map (at_id f) (take k ids) ++ at_id f id) (sym (data_at same).1) ∙ sym next

    pub next_above : block.property.level ≢ 0 → (before : List X) → before ≡ flat_map (at_id f) (take k ids) → before ≡ flat_map (at_id f) (take (k + 1) ids)
    next_above apart before before_is =
        before_is ∙ sym (append-nil (flat_map (at_id f) (take k ids)))
        ∙ ap (λ id. flat_map (at_id f) (take k ids) ++ at_id f id) (sym (above_at apart)) ∙ sym next

pub slots_there : (array : ℕ → Option (List ℕ)) (nodes : ℕ → Dnode) (id : ℕ) (bytes : List ℕ) → array id ≡ Some bytes → AreNodesOf array nodes → HasSlots bytes id nodes
slots_there array nodes id bytes is are place low = subst (λ found. IsNodeIn found place (nodes (32 * id + place))) is (slots_of_block array nodes id place low are)

-- ---- where the objects are from

pub from_more : (spaces later : List VdevSpace) (items : List Block) (k : ℕ) (block other : Block) (before after added : List FoundNode) → later ≡ spaces → k < length items → block ≡ get_or items k other
    → All (IsNodeOfOne spaces items) before → after ≡ before ++ added → All (IsNodeFrom later block) added → All (IsNodeOfOne spaces items) after
from_more spaces later items k block other before after added same low is were after_is from =
    subst (All (IsNodeOfOne spaces items)) (sym after_is)
    (All-append (IsNodeOfOne spaces items) before added were (λ j it under. record {
      block = block;
      is_one = subst (λ b. Contains items b) (sym is) (Contains-get_or items k other low);
      from = subst (λ s. IsNodeFrom s block (get_or added j it)) same (from j it under);
    }))
