-- Why several writes are refused, at the root and above it.
use Rattle.std.proofs.Common.{◌≡◌, ◌⊎◌, inl, inr, ℕ, zero, suc, ◌+◌, ◌-◌, ◌^◌, ◌<◌, ◌≤◌, List, [], ◌∷◌, take, drop, get_or, set, replicate, Contains, refl, ap, ◌∙◌, subst, arith}
use Rattle.std.proofs.lemmas.Bool.{cases_lt}
use Rattle.std.proofs.lemmas.List.{get_or-set_same, get_or-set_other}
use Rattle.block_pointer.specs.declared.pointer.BlockPtr.{BlockPtr}
use Rattle.block_pointer.specs.declared.pointer.BlockPtr.TheVariants.{Hole}
use Rattle.block_store.specs.declared.refusal.Refusal.{Refusal}
use Rattle.block_store.specs.declared.refusal.Refusal.TheVariants.{NoMemory, NoSpace, BadPointer}
use Rattle.block_store.specs.Spaces.{VdevSpace}
use Rattle.block_store.specs.Store.{Store}
use Rattle.block_store.proofs.Steps.{steps_none}
use Rattle.dnode.specs.Indirect.{fill_of}
use Rattle.dnode.specs.Levels.{levels_of}
use Rattle.dnode.specs.declared.node.ObjectNode.{ObjectNode}
use Rattle.dnode_tree.specs.declared.subtree.Parts.{Parts}
use Rattle.dnode_tree.specs.declared.subtree.Subtree.{Subtree}
use Rattle.dnode_tree.specs.declared.writes.BlockWrite.{BlockWrite}
use Rattle.dnode_tree.specs.Births.{height_of}
use Rattle.dnode_tree.specs.PartsRefused.{IsPartOverfull, IsPartRefused, ArePartsOverfull, ArePartsRefused, IsTreeOverfull}
use Rattle.dnode_tree.specs.Refused.{IsOverfull, HasOverfull, IsWriteRefused}
use Rattle.dnode_tree.specs.Tree.{property_of}
use Rattle.dnode_tree.specs.Ways.{root_of, IsRefused}
use Rattle.dnode_tree.specs.Writes.{IsForRoom, highest_with}
use Rattle.dnode_tree.proofs.Holes.{length_same, same_at}
use Rattle.dnode_tree.proofs.Overfull.{contains_taken, contains_left, full_at_hole, not_over, refused_at_hole}

-- ---- a higher root

module _ (node : ObjectNode) (level birth : ℕ) (root : BlockPtr) (pointers : List BlockPtr) (writes : List BlockWrite) (are : pointers ≡ set (replicate 128 Hole) 0 root) where
  abbrev parts : Parts
  parts = record { pointers = pointers; level = level; birth = birth }

  first_is : get_or pointers 0 Hole ≡ root
  first_is = ap (λ ps. get_or ps 0 Hole) are ∙ get_or-set_same (replicate 128 Hole) 0 root Hole (omega (arith, length_same 128 Hole))

  other_is : (k : ℕ) → 0 < k → get_or pointers k Hole ≡ Hole
  other_is k some =
      ap (λ ps. get_or ps k Hole) are ∙ get_or-set_other (replicate 128 Hole) 0 k root Hole (λ same. absurd (omega (arith, same, some))) ∙ same_at 128 k Hole

  pub raised_overfull : (spaces : List VdevSpace) → ArePartsOverfull spaces node parts 0 1 writes → IsOverfull level root
  raised_overfull spaces (inl (zero, over)) = subst (λ pointer. IsOverfull level pointer) first_is over
  raised_overfull spaces (inl (suc k, over)) = absurd (not_over level _ (other_is (suc k) (omega arith)) over)
  raised_overfull spaces (inr (k, from, low, there)) =
      absurd (full_at_hole spaces (property_of node) level birth _ _ (other_is k (omega (arith, from))) there.has)

  pub raised_refused : (old new : Store) (missing : List ℕ) (refusal : Refusal) → ArePartsRefused old new missing node parts 0 1 writes refusal
      → IsForRoom refusal ⊎ ((refusal ≡ BadPointer) × IsOverfull level root)
  raised_refused old new missing refusal (inl room) = inl room
  raised_refused old new missing refusal (inr (inl (k, from, low, there))) =
      inl (refused_at_hole there.mid new missing (property_of node) level birth _ _ refusal (other_is k (omega (arith, from))) there.why)
  raised_refused old new missing refusal (inr (inr (bad, over))) = inr (bad, raised_overfull old.spaces over)

-- ---- the whole tree

abbrev pub whole_tree : ObjectNode → ℕ → Subtree
whole_tree node birth = record { level = height_of node; pointer = node.pointer; birth = birth }

-- The tree has grown so far: what is left are some of the writes, and the fill count of its root can be, or one couldn't.
pub record IsGrowing (spaces : List VdevSpace) (node : ObjectNode) (birth level : ℕ) (pointer : BlockPtr) (writes rest : List BlockWrite) : Type 0 where
  pub left : (write : BlockWrite) → Contains rest write → Contains writes write
  pub full : (fill_of pointer ≤ 128 ^ level) ⊎ IsTreeOverfull spaces node (whole_tree node birth) writes

-- the root as it was
pub root_overfull : (spaces : List VdevSpace) (node : ObjectNode) (root : Subtree) (writes : List BlockWrite)
    → (fill_of node.pointer ≤ 128 ^ height_of node) ⊎ IsTreeOverfull spaces node root writes
root_overfull spaces node root writes = elim (cases_lt (128 ^ height_of node) (fill_of node.pointer)) [
  | inl over ↦ inr (inl over)
  | inr fits ↦ inl (omega (arith, fits))
]

part_of_more : (spaces : List VdevSpace) (node : ObjectNode) (root : Subtree) (first n : ℕ) (writes run : List BlockWrite) → run ≡ take n writes
    → IsPartOverfull spaces node root first run → IsPartOverfull spaces node root first writes
part_of_more spaces node root first n writes run run_is there = record {
  write = there.write;
  is_one = contains_taken writes n there.write (subst (λ ws. Contains ws there.write) run_is there.is_one);
  from = there.from;
  within = there.within;
  has = there.has;
}

pub growing_begins : (spaces : List VdevSpace) (node : ObjectNode) (birth level n : ℕ) (pointer : BlockPtr) (writes run rest : List BlockWrite) → level ≡ height_of node
    → run ≡ take n writes → rest ≡ drop n writes → (fill_of pointer ≤ 128 ^ height_of node) ⊎ IsTreeOverfull spaces node (whole_tree node birth) run
    → IsGrowing spaces node birth level pointer writes rest
growing_begins spaces node birth level n pointer writes run rest level_is run_is rest_is full = record {
  left = λ write held. contains_left writes n write (subst (λ ws. Contains ws write) rest_is held);
  full = elim full [
    | inl fits ↦ inl (omega (arith, fits, ap (λ l. 128 ^ l) level_is))
    | inr over ↦ elim over [ inl root ↦ inr (inl root) | inr there ↦ inr (inr (part_of_more spaces node (whole_tree node birth) 0 n writes run run_is there)) ]
  ];
}

pub growing_on : (spaces : List VdevSpace) (node : ObjectNode) (birth level n : ℕ) (pointer higher : BlockPtr) (writes rest others : List BlockWrite)
    → IsGrowing spaces node birth level pointer writes rest → others ≡ drop n rest → (fill_of higher ≤ 128 ^ (level + 1)) ⊎ IsOverfull level pointer
    → IsGrowing spaces node birth (level + 1) higher writes others
growing_on spaces node birth level n pointer higher writes rest others so_far others_are full = record {
  left = λ write held. so_far.left write (contains_left rest n write (subst (λ ws. Contains ws write) others_are held));
  full = elim full [
    | inl fits ↦ inl fits
    | inr over ↦ elim so_far.full [ inl fitted ↦ absurd (omega (arith, over, fitted)) | inr was ↦ inr was ]
  ];
}

module _ (old new : Store) (missing : List ℕ) (node : ObjectNode) (birth : ℕ) (writes : List BlockWrite) (Lack : Type 0) (refusal : Refusal) (lack : refusal ≡ NoSpace → Lack) where
  abbrev Why : Type 0
  Why = (refusal ≡ NoMemory) ⊎ (((refusal ≡ NoSpace) × Lack) ⊎ IsWriteRefused old new missing node birth writes refusal)

  for_room : IsForRoom refusal → Why
  for_room (inl memory) = inl memory
  for_room (inr space) = inr (inl (space, lack space))

  whole_place : (id : ℕ) → id - 0 ≡ id
  whole_place id = omega arith

  overfull_on_way : refusal ≡ BadPointer → (write : BlockWrite) → Contains writes write
      → HasOverfull old.spaces (property_of node) (root_of node birth) (write.id - 0) → Why
  overfull_on_way bad write held has = inr (inr (record {
    write = write;
    is_one = held;
    mid = old;
    before = steps_none old missing;
    why = inr (bad, inr (subst (λ id. HasOverfull old.spaces (property_of node) (root_of node birth) id) (whole_place write.id) has));
  }))

  pub put_root_refused : (n : ℕ) (run : List BlockWrite) → run ≡ take n writes → IsPartRefused old new missing node (whole_tree node birth) 0 run refusal → Why
  put_root_refused n run run_is (inl room) = for_room room
  put_root_refused n run run_is (inr (inl there)) = inr (inr (record {
    write = there.write;
    is_one = contains_taken writes n there.write (subst (λ ws. Contains ws there.write) run_is there.is_one);
    mid = there.mid;
    before = there.before;
    why = inl (subst (λ id. IsRefused there.mid new missing node birth id refusal) (whole_place there.write.id) there.why);
  }))
  put_root_refused n run run_is (inr (inr (bad, there))) =
      overfull_on_way bad there.write (contains_taken writes n there.write (subst (λ ws. Contains ws there.write) run_is there.is_one)) there.has

  -- a tree that grows has writes
  some_write : levels_of node.highest < levels_of (highest_with writes node.highest) → (write : BlockWrite) × Contains writes write
  some_write grows = find writes grows
    where
      find : (them : List BlockWrite) → levels_of node.highest < levels_of (highest_with them node.highest) → (write : BlockWrite) × Contains them write
      find [] grows = absurd (omega (arith, grows))
      find (write ∷ them) grows = (write, (0, omega arith, refl))

  pub put_raise_refused : (level : ℕ) (pointer : BlockPtr) (rest : List BlockWrite) → levels_of node.highest < levels_of (highest_with writes node.highest)
      → IsGrowing old.spaces node birth level pointer writes rest → IsForRoom refusal ⊎ ((refusal ≡ BadPointer) × IsOverfull level pointer) → Why
  put_raise_refused level pointer rest grows so_far (inl room) = for_room room
  put_raise_refused level pointer rest grows so_far (inr (bad, over)) = elim so_far.full [
    | inl fits ↦ absurd (omega (arith, over, fits))
    | inr was ↦ elim was [
      | inl root ↦
          let one = some_write grows in
          inr (inr (record { write = one.0; is_one = one.1; mid = old; before = steps_none old missing; why = inr (bad, inl root) }))
      | inr there ↦ overfull_on_way bad there.write there.is_one there.has
    ]
  ]
