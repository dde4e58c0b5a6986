-- Walks for which enough blocks are left to be read.
use Rattle.std.proofs.Common.{◌≡◌, ℕ, ◌+◌, ◌<◌, ◌≤◌, List, [], ◌∷◌, ◌++◌, length, take, drop, get_or, refl, sym, ap, ◌∙◌, arith}
use Rattle.std.specs.Prelude.{not, ◌==◌}
use Rattle.std.proofs.lemmas.List.{take-append-drop}
use Rattle.std.proofs.lemmas.List.Concat.{flat_map-append}
use Rattle.block_pointer.specs.declared.block.Block.{Block}
use Rattle.block_store.specs.Reading.{Asks}
use Rattle.block_store.specs.declared.block.Asked.{Asked}
use Rattle.dnode.specs.declared.node.ObjectNode.{ObjectNode}
use Rattle.dnode_tree.proofs.Collecting.{joined-take_more}
use Rattle.dnode_tree.proofs.Counts.{indirect_counted}
use Rattle.dnode_tree.proofs.Exchanging.{count_by-append}
use Rattle.dnode_tree.specs.Subtree.{asked_of, joined}
use Rattle.dnode_tree.specs.Tree.{property_of}
use Rattle.dnode_tree.specs.Within.{indirect_count}

-- of the parts up to one of them and of that one no more blocks are counted than of all
pub counted_within : (parts : List (List Block)) (n : ℕ) → n < length parts
    → indirect_count (joined (take n parts)) + indirect_count (get_or parts n []) ≤ indirect_count (joined parts)
counted_within parts n low =
    let up_to : indirect_count (joined (take (n + 1) parts)) ≡ indirect_count (joined (take n parts)) + indirect_count (get_or parts n []) =
    ap indirect_count (sym (joined-take_more parts n low)) ∙ count_by-append (λ b. not (b.property.level == 0)) (joined (take n parts)) (get_or parts n []) in
    let whole : joined parts ≡ joined (take (n + 1) parts) ++ joined (drop (n + 1) parts) =
    ap joined (sym (take-append-drop (n + 1) parts)) ∙ flat_map-append (λ part. part) (take (n + 1) parts) (drop (n + 1) parts) in
    let sum : indirect_count (joined parts) ≡ indirect_count (joined (take (n + 1) parts)) + indirect_count (joined (drop (n + 1) parts)) =
    ap indirect_count whole ∙ count_by-append (λ b. not (b.property.level == 0)) (joined (take (n + 1) parts)) (joined (drop (n + 1) parts)) in
    omega (arith, up_to, sum)

-- the root of a part above the data is one that is read
pub root_counted : (node : ObjectNode) (level birth : ℕ) (block : Block) (blocks rest : List Block) → 0 < level → Asks (asked_of (property_of node level) birth) block → blocks ≡ block ∷ rest
    → indirect_count blocks ≡ indirect_count rest + 1
root_counted node level birth block blocks rest above asks are =
    let asked : Asked = asked_of (property_of node level) birth in
    let one : indirect_count (block ∷ []) ≡ indirect_count [] + 1 = indirect_counted node level birth block asked [] (block ∷ []) above refl asks.property refl in
    let sum : indirect_count blocks ≡ indirect_count (block ∷ []) + indirect_count rest = ap indirect_count are ∙ count_by-append (λ b. not (b.property.level == 0)) (block ∷ []) rest in
    omega (arith, one, sum)

-- behind the first parts as many are left as the next one has
pub still_enough : (node : ObjectNode) (level birth : ℕ) (block : Block) (blocks : List Block) (parts : List (List Block)) (n : ℕ) (earlier found : List Block) (all before now : ℕ)
    → 0 < level → Asks (asked_of (property_of node level) birth) block → blocks ≡ block ∷ joined parts → n < length parts
    → found ≡ earlier ++ joined (take n parts) → before + indirect_count earlier ≡ now + indirect_count found → all ≡ before + 1 → indirect_count blocks ≤ all
    → indirect_count (get_or parts n []) ≤ now
still_enough node level birth block blocks parts n earlier found all before now above asks are low found_is counts more enough =
    let root = root_counted node level birth block blocks (joined parts) above asks are in
    let part = counted_within parts n low in
    let added : indirect_count found ≡ indirect_count earlier + indirect_count (joined (take n parts)) =
    ap indirect_count found_is ∙ count_by-append (λ b. not (b.property.level == 0)) earlier (joined (take n parts)) in
    omega (arith, root, part, added)
