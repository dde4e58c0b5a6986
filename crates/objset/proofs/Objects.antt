-- The objects of a set, block after block.
use Rattle.std.proofs.Common.{◌≡◌, ℕ, zero, suc, ◌+◌, ◌-◌, ◌*◌, ◌/◌, ◌%◌, ◌<◌, ◌≤◌, List, [], ◌∷◌, ◌++◌, Option, Some, None, refl, sym, ap, ◌∙◌, subst, arith, append_assoc, append-nil}
use Rattle.std.specs.List.{flat_map, range_with_len}
use Rattle.std.proofs.lemmas.List.Concat.{flat_map-append}
use Rattle.dnode.specs.declared.dnode.Dnode.{Dnode}
use Rattle.dnode.specs.declared.dnode.Dnode.TheVariants.{Free, Object}
use Rattle.dnode.specs.declared.node.ObjectNode.{ObjectNode}
use Rattle.dnode.specs.Node.{FitsNode}
use Rattle.dnode.specs.Dnode.{FitsDnode}
use Rattle.dnode_tree.proofs.Ids.{range_split, nothing_in}
use Rattle.objset.specs.declared.node_walks.FoundNode.{FoundNode}
use Rattle.objset.specs.Nodes.{IsNodeIn, AreNodesOf, birth_of}
use Rattle.objset.specs.NodesWithin.{used, objects_from, objects_in}

pub node_fits : (bytes : List ℕ) (place : ℕ) (dnode : Dnode) (node : ObjectNode) → dnode ≡ Object node → IsNodeIn (Some bytes) place dnode → FitsNode node
node_fits bytes place dnode node is found = subst FitsDnode is found.0

pub used_object : (dnode : Dnode) (node : ObjectNode) (birth : ℕ) → dnode ≡ Object node → used dnode birth ≡ record { node = node; birth = birth } ∷ []
used_object dnode node birth is = ap (λ d. used d birth) is

pub used_free : (dnode : Dnode) (birth : ℕ) → dnode ≡ Free → used dnode birth ≡ []
used_free dnode birth is = ap (λ d. used d birth) is

pub objects_split : (nodes : ℕ → Dnode) (births : ℕ → ℕ → ℕ) (first n m : ℕ) → objects_from nodes births first (n + m) ≡ objects_from nodes births first n ++ objects_from nodes births (first + n) m
objects_split nodes births first n m =
    ap (flat_map (λ number. used (nodes number) (birth_of births number))) (range_split first n m)
    ∙ flat_map-append (λ number. used (nodes number) (birth_of births number)) (range_with_len first n) (range_with_len (first + n) m)

-- the dnode at the next place of a block
pub one_more : (nodes : ℕ → Dnode) (births : ℕ → ℕ → ℕ) (id place birth : ℕ) (dnode : Dnode) (earlier before later added : List FoundNode) → place < 32
    → births 0 id ≡ birth → dnode ≡ nodes (32 * id + place) → added ≡ used dnode birth → later ≡ before ++ added
    → before ≡ earlier ++ objects_from nodes births (32 * id) place → later ≡ earlier ++ objects_from nodes births (32 * id) (place + 1)
one_more nodes births id place birth dnode earlier before later added low born is added_is later_is before_is =
    let of : (32 * id + place) / 32 ≡ id = omega arith in
    let last : added ≡ used (nodes (32 * id + place)) (births 0 ((32 * id + place) / 32)) =
    added_is ∙ ap (λ d. used d birth) is ∙ ap (λ b. used (nodes (32 * id + place)) b) (sym born) ∙ ap (λ n. used (nodes (32 * id + place)) (births 0 n)) (sym of) in
    later_is
    ∙ ap (λ front. front ++ added) before_is
    ∙ append_assoc earlier (objects_from nodes births (32 * id) place) added
    ∙ ap (λ back. earlier ++ (objects_from nodes births (32 * id) place ++ back)) (last ∙ sym (append-nil (used (nodes (32 * id + place)) (births 0 ((32 * id + place) / 32)))))
    ∙ ap (λ back. earlier ++ back) (sym (objects_split nodes births (32 * id) place 1))

-- the same of a whole block
pub whole_block : (nodes : ℕ → Dnode) (births : ℕ → ℕ → ℕ) (id place : ℕ) (earlier found : List FoundNode) → place ≡ 32
    → found ≡ earlier ++ objects_from nodes births (32 * id) place → found ≡ earlier ++ objects_in nodes births id
unfolding objects_in
whole_block nodes births id place earlier found all is = is ∙ ap (λ n. earlier ++ objects_from nodes births (32 * id) n) all

-- ---- all blocks

-- a block that there is none of has no object
pub none_there : (array : ℕ → Option (List ℕ)) (nodes : ℕ → Dnode) (births : ℕ → ℕ → ℕ) (id : ℕ) → AreNodesOf array nodes → array id ≡ None → objects_in nodes births id ≡ []
unfolding objects_in
none_there array nodes births id are none =
    nothing_in (λ number. used (nodes number) (birth_of births number)) (32 * id) 32 (λ number from under.
    let of : number / 32 ≡ id = omega (arith, from, under) in
    let free : nodes number ≡ Free = subst (λ found. IsNodeIn found (number % 32) (nodes number)) (ap array of ∙ none) (are number) in
    used_free (nodes number) (birth_of births number) free)

-- the blocks of so many ids have the objects of 32 times as many numbers
pub blocks_have : (nodes : ℕ → Dnode) (births : ℕ → ℕ → ℕ) (first count : ℕ)
    → flat_map (objects_in nodes births) (range_with_len first count) ≡ objects_from nodes births (32 * first) (32 * count)
unfolding objects_in
blocks_have nodes births first zero = refl
blocks_have nodes births first (suc count) =
    let next : 32 * (first + 1) ≡ 32 * first + 32 = omega arith in
    let sum : 32 + 32 * count ≡ 32 * suc count = omega arith in
    ap (λ rest. objects_from nodes births (32 * first) 32 ++ rest)
    (blocks_have nodes births (first + 1) count ∙ ap (λ n. objects_from nodes births n (32 * count)) next)
    ∙ sym (objects_split nodes births (32 * first) 32 (32 * count))
    ∙ ap (λ n. objects_from nodes births (32 * first) n) sum

-- so many numbers or more, where those behind are free
behind_free : (nodes : ℕ → Dnode) (births : ℕ → ℕ → ℕ) (few more : ℕ) → few ≤ more → ((number : ℕ) → few ≤ number → nodes number ≡ Free)
    → objects_from nodes births 0 more ≡ objects_from nodes births 0 few
behind_free nodes births few more within free =
    let sum : more ≡ few + (more - few) = omega (arith, within) in
    ap (λ n. objects_from nodes births 0 n) sum
    ∙ objects_split nodes births 0 few (more - few)
    ∙ ap (λ back. objects_from nodes births 0 few ++ back)
    (nothing_in (λ number. used (nodes number) (birth_of births number)) (0 + few) (more - few)
    (λ number from under. used_free (nodes number) (birth_of births number) (free number (omega (arith, from)))))
    ∙ append-nil (objects_from nodes births 0 few)

pub as_many_objects : (nodes : ℕ → Dnode) (births : ℕ → ℕ → ℕ) (blocks objects : ℕ) → objects ≤ 32 * blocks → ((number : ℕ) → objects ≤ number → nodes number ≡ Free)
    → flat_map (objects_in nodes births) (range_with_len 0 blocks) ≡ objects_from nodes births 0 objects
as_many_objects nodes births blocks objects room free =
    let none : 32 * 0 ≡ 0 = omega arith in
    blocks_have nodes births 0 blocks
    ∙ ap (λ n. objects_from nodes births n (32 * blocks)) none
    ∙ behind_free nodes births objects (32 * blocks) room free
