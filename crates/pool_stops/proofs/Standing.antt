-- The phases of a commit, with what is filled as the tree of each root.
use Rattle.std.specs.Prelude.{if◌then◌else◌}
use Rattle.std.proofs.Common.{ℕ, ◌≡◌, ◌⊎◌, inl, inr, ◌+◌, ◌<◌, ◌≤◌, Bool, true, false, List, ◌∷◌, length, Option, Some, None, refl, sym, ap, subst, ◌∙◌, arith, true≢false}
use Rattle.model_disk.specs.Contents.{covers}
use Rattle.model_disk.specs.Joint.{Disks, bytes_of, content}
use Rattle.model_disk.specs.Runs.{IsOff, Makes}
use Rattle.model_disk.proofs.ContentsLemmas.{covers-outside}
use Rattle.model_disk.proofs.RunLemmas.{Makes-wider, off_content}
use Rattle.uberblock_ring.specs.Slot.{slot_number}
use Rattle.uberblock_ring.specs.Uberblock.{Fits}
use Rattle.uberblock_ring.specs.declared.uberblock.Uberblock.{Uberblock}
use Rattle.vdev_label.specs.Place.{label_at}
use Rattle.block_store.specs.Elsewhere.{IsForBlocks}
use Rattle.block_store.specs.Places.{IsLaidOut}
use Rattle.block_store.specs.Spaces.{VdevSpace}
use Rattle.pool_slots.specs.Commits.{AreAt, AreOffLabels}
use Rattle.pool_slots.specs.PhaseLaws.{BlocksBegin, BlocksEnd, BlocksGoOn, SlotsBegin, SlotsEnd, SlotsGoOn}
use Rattle.pool_slots.specs.Phases.{AreInBlocks, AreInSlots, free_writes, slot_writes}
use Rattle.pool_slots.specs.Possible.{Trees}
use Rattle.pool_slots.specs.Slots.{IsOffLabels, IsSlot, slot_at}
use Rattle.pool_slots.specs.Writes.{IsSlotWrite, in_use}
use Rattle.pool_slots.proofs.Places.{length-spelled, off_slot}
use Rattle.pool_slots.proofs.Writing.{slot_number_small}
use Rattle.pool_stops.specs.Filled.{all_picked, is_filled, is_for_blocks}
use Rattle.pool_stops.specs.Standing.{BlocksKeepWhatIsFilled, CommitsEndFilled, IsFilledNoMore, LieBesideLabels, SlotsBeginBehindBlocks, SlotsKeepWhatIsForBlocks, block_trees, filled_trees, unfilled_write}
use Rattle.pool_stops.proofs.Filled.{picked_are_for_blocks}
use Rattle.pool_stops.proofs.Trees.{HaveMore, at_with, blocks_fewer, if_not, is_so, picked_stand, same_picked}

-- ---- bytes for blocks lie beside labels

sides : (at n i : ℕ) → (i < at) ⊎ ((at + n ≤ i) ⊎ ((at ≤ i) × (i < at + n)))
sides at n i = grind arith

-- the disk is there
pub its_disk : (starts : List (List ℕ)) (spaces : List VdevSpace) (disk i : ℕ) → IsLaidOut starts spaces → IsForBlocks spaces disk i → disk < length starts
its_disk starts spaces disk i laid is = omega (arith, (laid.room is.v is.space is.found).disks, is.last)

off_labels : (starts : List (List ℕ)) (spaces : List VdevSpace) (disk i : ℕ) → LieBesideLabels starts spaces → IsForBlocks spaces disk i
    → IsOffLabels (length (bytes_of starts disk)) i
off_labels starts spaces disk i lie is label low = elim (sides (label_at (length (bytes_of starts disk)) label) 262144 i) [
  | inl before ↦ inl before
  | inr (inl after) ↦ inr after
  | inr (inr inside) ↦ absurd ((lie.labels disk (its_disk starts spaces disk i lie.laid is)).1 label low i inside.0 inside.1 is)
]

off_slot_writes : (starts : List (List ℕ)) (spaces : List VdevSpace) (u : Uberblock) (out : List Bool) (disk i : ℕ) → LieBesideLabels starts spaces → IsForBlocks spaces disk i
    → Fits u → IsOff (IsSlotWrite starts u (in_use out) disk) i
off_slot_writes starts spaces u out disk i lie is fits at bytes write =
    let size = length (bytes_of starts disk) in
    let slot : IsSlot write.label (slot_number u.group) = record { is_label = write.is_label; in_ring = slot_number_small u } in
    let apart = off_slot size i write.label (slot_number u.group) (off_labels starts spaces disk i lie is) slot in
    ap (λ (place : ℕ). covers place (length bytes) i) write.place
    ∙ ap (λ (n : ℕ). covers (slot_at size write.label (slot_number u.group)) n i) (ap length write.spells ∙ length-spelled u fits)
    ∙ covers-outside (slot_at size write.label (slot_number u.group)) 1024 i apart

-- picked bytes are off labels, where they are for blocks
pub picked_off : (picks : ℕ → ℕ → Bool) (held : ℕ → ℕ → Option ℕ) (starts : List (List ℕ)) (spaces : List VdevSpace) (out : List Bool) → LieBesideLabels starts spaces
    → ((disk i : ℕ) → picks disk i ≡ true → IsForBlocks spaces disk i) → AreOffLabels (all_picked picks held) out starts
picked_off picks held starts spaces out lie are root which i value used is =
    off_labels starts spaces which i lie (are which i (is_so (picks which i) (held which i) value is).0)

-- ---- the blocks phase

pub either : (test : Bool) → (test ≡ true) ⊎ (test ≡ false)
either true = inl refl
either false = inr refl

-- what may be written is free
free_to_write : (spaces : List VdevSpace) (disks : Disks) (out : List Bool) (starts : List (List ℕ)) (last : Uberblock) (before : List Uberblock) (which at : ℕ) (bytes : List ℕ)
    → LieBesideLabels starts spaces → unfilled_write spaces which at bytes → free_writes (filled_trees spaces disks) out starts last before which at bytes
free_to_write spaces disks out starts last before which at bytes lie is used i covered =
    let it = is i covered in
    record {
      off_slots = λ label slot is_slot. off_slot (length (bytes_of starts which)) i label slot (off_labels starts spaces which i lie it.0) is_slot;
      off_trees = λ u reach. if_not (is_filled spaces which i) (content disks which i) None it.1;
    }

-- and changes nothing that is filled
filled_stays : (spaces : List VdevSpace) (old new : Disks) → Makes (unfilled_write spaces) old new → filled_trees spaces old ≡ filled_trees spaces new
filled_stays spaces old new makes =
    same_picked (is_filled spaces) (content old) (content new) (λ which i holds. off_content (unfilled_write spaces) old new which i makes (λ at bytes write.
    elim (either (covers at (length bytes) i)) [
      | inl covered ↦ absurd (true≢false (sym holds ∙ (write i covered).1))
      | inr not ↦ not
    ]))

-- with less that is filled there is less in the trees
filled_less : (spaces later : List VdevSpace) (disks : Disks) → IsFilledNoMore spaces later → HaveMore (filled_trees spaces disks) (filled_trees later disks)
filled_less spaces later disks fewer root which i value is =
    let it = is_so (is_filled later which i) (content disks which i) value is in
    holds (is_filled spaces which i) (content disks which i) (fewer which i it.0) it.1
  where
    holds : (test : Bool) (x : Option ℕ) → test ≡ true → x ≡ Some value → (if test then x else None) ≡ Some value
    holds true x yes_it_is is' = is'
    holds false x yes_it_is is' = absurd (true≢false (sym yes_it_is))

pub blocks_keep : BlocksGoOn → BlocksKeepWhatIsFilled
blocks_keep law spaces later out old new last before lie fewer phase makes =
    let trees : Trees = filled_trees spaces old in
    let free : Makes (free_writes trees out old.starts last before) old new =
    Makes-wider (unfilled_write spaces) (free_writes trees out old.starts last before) old new
    (λ which at bytes is. free_to_write spaces old out old.starts last before which at bytes lie is) makes in
    let goes = law trees out old new last before phase free in (
      blocks_fewer (filled_trees spaces new) (filled_trees later new) out new last before (filled_less spaces later new fewer)
          (subst (λ (t : Trees). AreInBlocks t out new last before) (filled_stays spaces old new makes) goes.0),
      goes.1,
    )

-- ---- the slots phase

pub slots_begin : BlocksEnd → SlotsBegin → SlotsBeginBehindBlocks
slots_begin ends begins spaces out disks last before u lie phase settled next fits =
    let at : AreAt (filled_trees spaces disks) out disks last before = ends (filled_trees spaces disks) out disks last before phase settled in
    let trees : Trees = block_trees spaces disks in
    begins trees out disks last before u (record {
      at = at_with (filled_trees spaces disks) trees out disks last before (λ v. picked_stand (is_for_blocks spaces) out (content disks) v.root) at;
      next = next;
      fits = fits;
      tree = picked_stand (is_for_blocks spaces) out (content disks) u.root;
      labels = λ which there. (lie.labels which there).0;
      off_labels = picked_off (is_for_blocks spaces) (content disks) disks.starts spaces out lie (picked_are_for_blocks spaces);
    })

pub slots_keep : SlotsGoOn → SlotsKeepWhatIsForBlocks
slots_keep law spaces out old new last before u lie fits phase makes =
    let trees : Trees = block_trees spaces old in
    let wider : Makes (slot_writes out old.starts u) old new =
    Makes-wider (IsSlotWrite old.starts u (in_use out)) (slot_writes out old.starts u) old new (λ which at bytes is used. is) makes in
    let goes = law trees out old new last before u phase wider in
    let same : trees ≡ block_trees spaces new =
    same_picked (is_for_blocks spaces) (content old) (content new) (λ which i holds.
    off_content (IsSlotWrite old.starts u (in_use out)) old new which i makes (off_slot_writes old.starts spaces u out which i lie (picked_are_for_blocks spaces which i holds) fits)) in
    (subst (λ (t : Trees). AreInSlots t out new last before u) same goes.0, goes.1)

pub commits_end : SlotsEnd → BlocksBegin → CommitsEndFilled
commits_end ends begins spaces later out disks last before u within phase stand settled =
    let at : AreAt (block_trees spaces disks) out disks u (last ∷ before) = ends (block_trees spaces disks) out disks last before u phase stand settled in
    begins (filled_trees later disks) out disks u (last ∷ before)
    (at_with (block_trees spaces disks) (filled_trees later disks) out disks u (last ∷ before) (λ v. picked_stand (is_filled later) out (content disks) v.root) at)
