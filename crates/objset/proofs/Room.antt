-- Want of room.
use Rattle.std.proofs.Common.{◌≡◌, List, ℕ, zero, suc, ◌≤◌, cond, inl, inr, refl, subst, arith}
use Rattle.std.proofs.Math.Dec.{eqb-suc-zero}
use Rattle.block_store.specs.Blocks.{count_of}
use Rattle.block_store.specs.Steps.{OnlyReadsAndPlans, HasNoRoomFor}
use Rattle.block_store.proofs.Steps.{no_room_on}
use Rattle.block_store.specs.Store.{Store}
use Rattle.dnode.specs.declared.node.ObjectNode.{ObjectNode}
use Rattle.dnode_tree.specs.Tree.{property_of}
use Rattle.dnode_tree.specs.Writes.{copies_at}
use Rattle.dnode_tree.specs.Writes.{HasNoRoom as HasNoRoomInTree}
use Rattle.objset.specs.declared.changes.SetCopies.{SetCopies}
use Rattle.objset.specs.Changes.{object_copies, dnode_copies, HasNoRoom}

pub no_room_for_object : (old new : Store) (missing : List ℕ) (node : ObjectNode) (copies : SetCopies) → node.data_sectors ≤ 256
    → HasNoRoomInTree old new missing node (object_copies copies) → HasNoRoom old new missing copies
no_room_for_object old new missing node copies small (level, none) = at_level level none
  where
    at_level : (level : ℕ) → HasNoRoomFor old new missing (property_of node level).sectors (copies_at (object_copies copies) level) → HasNoRoom old new missing copies
    at_level zero none = record { sectors = node.data_sectors; small = small; count = copies.data; which = inl refl; no_room = none }
    at_level (suc level) none = record {
      sectors = 32;
      small = omega arith;
      count = copies.other;
      which = inr (refl, refl);
      no_room = subst (λ test. HasNoRoomFor old new missing (cond test node.data_sectors 32) (cond test (count_of copies.data) (count_of copies.other))) (eqb-suc-zero level) none;
    }

pub no_room_for_dnodes : (old new : Store) (missing : List ℕ) (node : ObjectNode) (copies : SetCopies) → node.data_sectors ≡ 32
    → HasNoRoomInTree old new missing node (dnode_copies copies) → HasNoRoom old new missing copies
no_room_for_dnodes old new missing node copies size (level, none) = at_level level none
  where
    at_level : (level : ℕ) → HasNoRoomFor old new missing (property_of node level).sectors (copies_at (dnode_copies copies) level) → HasNoRoom old new missing copies
    at_level zero none = record { sectors = node.data_sectors; small = omega (arith, size); count = copies.other; which = inr (refl, size); no_room = none }
    at_level (suc level) none = record {
      sectors = 32;
      small = omega arith;
      count = copies.other;
      which = inr (refl, refl);
      no_room = subst (λ test. HasNoRoomFor old new missing (cond test node.data_sectors 32) (cond test (count_of copies.other) (count_of copies.other))) (eqb-suc-zero level) none;
    }

pub no_room_sooner : (old mid new : Store) (missing : List ℕ) (copies : SetCopies) → OnlyReadsAndPlans old mid missing → HasNoRoom mid new missing copies → HasNoRoom old new missing copies
no_room_sooner old mid new missing copies steps none =
    record { sectors = none.sectors; small = none.small; count = none.count; which = none.which; no_room = no_room_on old mid new missing _ _ steps none.no_room }
