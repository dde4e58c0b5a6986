-- Pairs are those of one label at most.
use Rattle.std.proofs.Common.{◌≡◌, ℕ, suc, List, [], ◌∷◌, Some, refl, ap}
use Rattle.std.specs.Prelude.{codes}
use Rattle.nvlist.specs.Find.{find}
use Rattle.nvlist.specs.Plain.{PlainList, PlainLists, number, text, list, lists}
use Rattle.nvlist.specs.View.{lists_of}
use Rattle.vdev_label.proofs.Numbered.{same_lists}
use Rattle.vdev_label.specs.Pairs.{numbered, child_pairs, vdev_pairs, tree_pairs, state_number, label_pairs}
use Rattle.vdev_label.specs.Plain.{PlainVdev, PlainLabel}
use Rattle.vdev_label.specs.declared.label.State.{State}
use Rattle.vdev_label.specs.declared.label.State.TheVariants.{Active, Exported}

same_number : (a b : ℕ) → Some (number a) ≡ Some (number b) → a ≡ b
same_number a b same = cc

same_words : (a b : List ℕ) → Some (text a) ≡ Some (text b) → a ≡ b
same_words a b same = cc

same_inner : (a b : PlainList) → Some (list a) ≡ Some (list b) → a ≡ b
same_inner a b same = cc

same_inners : (a b : PlainLists) → Some (lists a) ≡ Some (lists b) → a ≡ b
same_inners a b same = cc

same_head : {A : Type 0} (x y : A) (xs ys : List A) → x ∷ xs ≡ y ∷ ys → x ≡ y
same_head x y xs ys same = cc

same_tail : {A : Type 0} (x y : A) (xs ys : List A) → x ∷ xs ≡ y ∷ ys → xs ≡ ys
same_tail x y xs ys same = cc

numbered_same : {A : Type 0} (of : ℕ → A → PlainList) → ((id : ℕ) (x y : A) → of id x ≡ of id y → x ≡ y)
    → (n : ℕ) (xs ys : List A) → numbered of n xs ≡ numbered of n ys → xs ≡ ys
numbered_same of one n [] [] same = refl
numbered_same of one n [] (y ∷ ys) same = let no : [] ≡ of n y ∷ numbered of (suc n) ys = same in cc
numbered_same of one n (x ∷ xs) [] same = let no : of n x ∷ numbered of (suc n) xs ≡ [] = same in cc
numbered_same of one n (x ∷ xs) (y ∷ ys) same =
    let first = one n x y (same_head (of n x) (of n y) (numbered of (suc n) xs) (numbered of (suc n) ys) same) in
    let rest = numbered_same of one (suc n) xs ys (same_tail (of n x) (of n y) (numbered of (suc n) xs) (numbered of (suc n) ys) same) in
    λ i. first i ∷ rest i

child_same : (id x y : ℕ) → child_pairs id x ≡ child_pairs id y → x ≡ y
child_same id x y same = same_number x y (ap (find (codes "guid")) same)

vdev_same : (id : ℕ) (v w : PlainVdev) → vdev_pairs id v ≡ vdev_pairs id w → v ≡ w
vdev_same id v w same =
    let guid : v.guid ≡ w.guid = same_number v.guid w.guid (ap (find (codes "guid")) same) in
    let parity : v.parity ≡ w.parity = same_number v.parity w.parity (ap (find (codes "nparity")) same) in
    let child_sectors : v.child_sectors ≡ w.child_sectors = same_number v.child_sectors w.child_sectors (ap (find (codes "asize")) same) in
    let slab_shift : v.slab_shift ≡ w.slab_shift = same_number v.slab_shift w.slab_shift (ap (find (codes "ms_shift")) same) in
    let meta_slabs : v.meta_slabs ≡ w.meta_slabs = same_number v.meta_slabs w.meta_slabs (ap (find (codes "meta_slabs")) same) in
    let inner = same_inners (lists_of (numbered child_pairs 0 v.children)) (lists_of (numbered child_pairs 0 w.children)) (ap (find (codes "children")) same) in
    let children : v.children ≡ w.children = numbered_same child_pairs child_same 0 v.children w.children (same_lists _ _ inner) in
    λ i. record { guid = guid i; parity = parity i; child_sectors = child_sectors i; slab_shift = slab_shift i; meta_slabs = meta_slabs i; children = children i }

pub tree_same : (v w : List PlainVdev) → tree_pairs v ≡ tree_pairs w → v ≡ w
tree_same v w same =
    let inner = same_inners (lists_of (numbered vdev_pairs 0 v)) (lists_of (numbered vdev_pairs 0 w)) (ap (find (codes "children")) same) in
    numbered_same vdev_pairs vdev_same 0 v w (same_lists _ _ inner)

state_same : (s t : State) → state_number s ≡ state_number t → s ≡ t
state_same Active Active same = refl
state_same Active Exported same = cc
state_same Exported Active same = cc
state_same Exported Exported same = refl

pub label_same : (v w : PlainLabel) → label_pairs v ≡ label_pairs w → v ≡ w
label_same v w same =
    let claim : v.claim ≡ w.claim = same_number v.claim w.claim (ap (find (codes "claim")) same) in
    let guid : v.guid ≡ w.guid = same_number v.guid w.guid (ap (find (codes "guid")) same) in
    let name : v.name ≡ w.name = same_words v.name w.name (ap (find (codes "name")) same) in
    let pool_guid : v.pool_guid ≡ w.pool_guid = same_number v.pool_guid w.pool_guid (ap (find (codes "pool_guid")) same) in
    let state : v.state ≡ w.state = state_same v.state w.state (same_number _ _ (ap (find (codes "state")) same)) in
    let top_guid : v.top_guid ≡ w.top_guid = same_number v.top_guid w.top_guid (ap (find (codes "top_guid")) same) in
    let group : v.group ≡ w.group = same_number v.group w.group (ap (find (codes "txg")) same) in
    let vdevs : v.vdevs ≡ w.vdevs = tree_same v.vdevs w.vdevs (same_inner (tree_pairs v.vdevs) (tree_pairs w.vdevs) (ap (find (codes "vdev_tree")) same)) in
    λ i. record { claim = claim i; guid = guid i; name = name i; pool_guid = pool_guid i; state = state i; top_guid = top_guid i; group = group i; vdevs = vdevs i }
