-- How long the lists of a configuration are.
use Rattle.std.proofs.Common.{◌≡◌, ◌<◌, ◌≤◌, ◌+◌, ◌*◌, ◌^◌, ℕ, suc, List, [], ◌∷◌, ◌++◌, length, refl, arith}
use Rattle.std.specs.Int.{w32, to_be_bytes}
use Rattle.std.specs.Prelude.{codes}
use Rattle.std.specs.Prelude.{All, replicate}
use Rattle.std.proofs.lemmas.List.{length-append, length-replicate}
use Rattle.std.proofs.lemmas.List.Elements.{All-tail}
use Rattle.nvlist.specs.Grammar.{text_bytes, value_bytes, pairs_bytes, lists_bytes, spelling, padding_of}
use Rattle.nvlist.specs.Plain.{PlainList, PlainLists, next, number, text, list, lists, pair, no_pairs, pair_count, list_count, depth, lists_depth}
use Rattle.nvlist.specs.View.{lists_of}
use Rattle.vdev_label.proofs.Rooms.{number_length, pair_length, spelling_length}
use Rattle.vdev_label.specs.Pairs.{numbered, child_pairs, vdev_pairs, tree_pairs, label_pairs, state_number}
use Rattle.vdev_label.specs.Limits.{IsAllowedVdev}
use Rattle.vdev_label.specs.Plain.{PlainVdev, PlainLabel}
use Rattle.vdev_label.specs.Room.{IsSmallVdev}

lists_length : (first : PlainList) (others : PlainLists) → length (lists_bytes (next first others)) ≡ length (spelling first) + length (lists_bytes others)
lists_length first others = length-append (spelling first) (lists_bytes others)

-- a list of that many numbers: each pair has so many bytes
number_pair : (name : List ℕ) (n : ℕ) (others : PlainList) → length (pairs_bytes (pair name (number n) others)) ≡ length (text_bytes name) + 12 + length (pairs_bytes others)
number_pair name n others = omega (arith, pair_length name (number n) others, number_length n)

child_length : (id guid : ℕ) → length (spelling (child_pairs id guid)) ≡ 44
child_length id guid =
    let last = number_pair (codes "id") id no_pairs in
    omega (arith, spelling_length (child_pairs id guid), number_pair (codes "guid") guid (pair (codes "id") (number id) no_pairs), last)

children_length : (id : ℕ) (children : List ℕ) → length (lists_bytes (lists_of (numbered child_pairs id children))) ≡ 44 * length children
children_length id [] = refl
children_length id (guid ∷ children) =
    omega (arith, lists_length (child_pairs id guid) (lists_of (numbered child_pairs (suc id) children)), child_length id guid, children_length (suc id) children)

lists_value : (ls : PlainLists) → length (value_bytes (lists ls)) ≡ 8 + length (lists_bytes ls)
lists_value ls =
    omega (arith, length-append (to_be_bytes w32 20) (to_be_bytes w32 (list_count ls) ++ lists_bytes ls), length-append (to_be_bytes w32 (list_count ls)) (lists_bytes ls))

pub vdev_length : (id : ℕ) (v : PlainVdev) → length (spelling (vdev_pairs id v)) ≡ 212 + 44 * length v.children
vdev_length id v =
    let l9 = pair (codes "type") (text (codes "raidz")) no_pairs in
    let l8 = pair (codes "nparity") (number v.parity) l9 in
    let l7 = pair (codes "ms_shift") (number v.slab_shift) l8 in
    let l6 = pair (codes "meta_slabs") (number v.meta_slabs) l7 in
    let l5 = pair (codes "id") (number id) l6 in
    let l4 = pair (codes "guid") (number v.guid) l5 in
    let inner = lists_of (numbered child_pairs 0 v.children) in
    let l3 = pair (codes "children") (lists inner) l4 in
    let l2 = pair (codes "asize") (number v.child_sectors) l3 in
    omega (
      arith,
      spelling_length (vdev_pairs id v),
      number_pair (codes "ashift") 9 l2,
      number_pair (codes "asize") v.child_sectors l3,
      pair_length (codes "children") (lists inner) l4,
      lists_value inner,
      children_length 0 v.children,
      number_pair (codes "guid") v.guid l5,
      number_pair (codes "id") id l6,
      number_pair (codes "meta_slabs") v.meta_slabs l7,
      number_pair (codes "ms_shift") v.slab_shift l8,
      number_pair (codes "nparity") v.parity l9,
    )

list_value : (l : PlainList) → length (value_bytes (list l)) ≡ 8 + length (pairs_bytes l)
list_value l = omega (arith, length-append (to_be_bytes w32 19) (to_be_bytes w32 (pair_count l) ++ pairs_bytes l), length-append (to_be_bytes w32 (pair_count l)) (pairs_bytes l))

text_length : (t : List ℕ) → length t ≤ 27 → length (value_bytes (text t)) ≤ 40
text_length t few =
    let zeros : List ℕ = replicate (padding_of (length t)) 0 in
    let pad : length zeros ≡ padding_of (length t) = length-replicate {A = ℕ} (padding_of (length t)) 0 in
    omega (arith, length-append (to_be_bytes w32 9) (text_bytes t), length-append (to_be_bytes w32 (length t)) (t ++ zeros), length-append t zeros, pad, few)

vdevs_length : (id : ℕ) (vdevs : List PlainVdev) → All IsAllowedVdev vdevs → length (lists_bytes (lists_of (numbered vdev_pairs id vdevs))) ≤ 1620 * length vdevs
vdevs_length id [] all = omega arith
vdevs_length id (v ∷ vdevs) all =
    let others : All IsAllowedVdev vdevs = λ k d below. all (suc k) d (omega (arith, below)) in
    omega (arith, lists_length (vdev_pairs id v) (lists_of (numbered vdev_pairs (suc id) vdevs)), vdev_length id v, (all 0 v (omega arith)).children_to, vdevs_length (suc id) vdevs others)

small_length : (id : ℕ) (vdevs : List PlainVdev) → All IsSmallVdev vdevs → length (lists_bytes (lists_of (numbered vdev_pairs id vdevs))) ≤ 2883796 * length vdevs
small_length id [] all = omega arith
small_length id (v ∷ vdevs) all =
    omega (arith, lists_length (vdev_pairs id v) (lists_of (numbered vdev_pairs (suc id) vdevs)), vdev_length id v, (all 0 v (omega arith)).few, small_length (suc id) vdevs (All-tail IsSmallVdev v vdevs all))

pub tree_length : (vdevs : List PlainVdev) → length vdevs ≤ 8 → All IsSmallVdev vdevs → length (spelling (tree_pairs vdevs)) < 2 ^ 46
tree_length vdevs few all =
    let inner = lists_of (numbered vdev_pairs 0 vdevs) in
    omega (arith, spelling_length (tree_pairs vdevs), pair_length (codes "children") (lists inner) no_pairs, lists_value inner, small_length 0 vdevs all, few)

pub label_length : (l : PlainLabel) → length l.name ≤ 27 → length l.vdevs ≤ 8 → All IsAllowedVdev l.vdevs → length (spelling (label_pairs l)) ≤ 114648
label_length l few to all =
    let l9 = pair (codes "version") (number 1) no_pairs in
    let tree = tree_pairs l.vdevs in
    let inner = lists_of (numbered vdev_pairs 0 l.vdevs) in
    let l8 = pair (codes "vdev_tree") (list tree) l9 in
    let l7 = pair (codes "txg") (number l.group) l8 in
    let l6 = pair (codes "top_guid") (number l.top_guid) l7 in
    let l5 = pair (codes "state") (number (state_number l.state)) l6 in
    let l4 = pair (codes "pool_guid") (number l.pool_guid) l5 in
    let l3 = pair (codes "name") (text l.name) l4 in
    let l2 = pair (codes "guid") (number l.guid) l3 in
    omega (
      arith,
      spelling_length (label_pairs l),
      number_pair (codes "claim") l.claim l2,
      number_pair (codes "guid") l.guid l3,
      pair_length (codes "name") (text l.name) l4,
      text_length l.name few,
      number_pair (codes "pool_guid") l.pool_guid l5,
      number_pair (codes "state") (state_number l.state) l6,
      number_pair (codes "top_guid") l.top_guid l7,
      number_pair (codes "txg") l.group l8,
      pair_length (codes "vdev_tree") (list tree) l9,
      list_value tree,
      pair_length (codes "children") (lists inner) no_pairs,
      lists_value inner,
      vdevs_length 0 l.vdevs all,
      to,
      number_pair (codes "version") 1 no_pairs,
    )

-- ---- how deep they lie

children_depth : (id : ℕ) (children : List ℕ) → lists_depth (lists_of (numbered child_pairs id children)) ≤ 1
children_depth id [] = omega arith
children_depth id (guid ∷ children) = omega (arith, children_depth (suc id) children)

vdevs_depth : (id : ℕ) (vdevs : List PlainVdev) → lists_depth (lists_of (numbered vdev_pairs id vdevs)) ≤ 2
vdevs_depth id [] = omega arith
vdevs_depth id (v ∷ vdevs) = omega (arith, children_depth 0 v.children, vdevs_depth (suc id) vdevs)

pub tree_depth : (vdevs : List PlainVdev) → depth (tree_pairs vdevs) ≤ 6
tree_depth vdevs = omega (arith, vdevs_depth 0 vdevs)

pub label_depth : (l : PlainLabel) → depth (label_pairs l) ≤ 6
label_depth l = omega (arith, vdevs_depth 0 l.vdevs)
