-- Phases that write one uberblock's slots.
use Rattle.std.proofs.Common.{◌≡◌, inl, inr, ◌≤◌, ◌∙◌, ℕ, ◌+◌, Bool, List, [], length, Option, Some, sym, ap, subst, arith}
use Rattle.uberblock_ring.specs.declared.uberblock.Uberblock.{Uberblock}
use Rattle.uberblock_ring.specs.Uberblock.{Fits}
use Rattle.uberblock_ring.specs.Slot.{slot_number}
use Rattle.model_disk.specs.Contents.{covers}
use Rattle.model_disk.specs.Joint.{Disks, bytes_of, content}
use Rattle.model_disk.specs.Runs.{IsOff, Makes}
use Rattle.model_disk.proofs.ContentsLemmas.{covers-outside}
use Rattle.model_disk.proofs.LawLemmas.{same_bytes}
use Rattle.model_disk.proofs.RunLemmas.{off_content}
use Rattle.pool_slots.specs.Slots.{AreThere, InUse, HaveLabels, spelled, slot_at, IsSlot, Shows}
use Rattle.pool_slots.specs.Possible.{Possible, IsInReach, Trees, TreeStands, IsPossible, Leads}
use Rattle.pool_slots.specs.Writes.{IsSlotWrite, in_use, SlotsStand}
use Rattle.pool_slots.specs.Commits.{AreOffLabels, only_last}
use Rattle.pool_slots.specs.Phases.{if_used, slot_writes}
use Rattle.pool_slots.proofs.Among.{first_in}
use Rattle.pool_slots.proofs.FreeWrites.{used_off}
use Rattle.pool_slots.proofs.OneDisk.{AreAllowed, IsWritten, IsSafe, leads_finished}
use Rattle.pool_slots.proofs.Phases.{IsPhase}
use Rattle.pool_slots.proofs.Places.{slots_apart, length-spelled, off_slot}
use Rattle.pool_slots.proofs.Same.{SameRank, same_rank}
use Rattle.pool_slots.proofs.Writing.{slot_number_small, off_slot_writes, whole_slot_writes}

-- two readings of one slot have the same rank
pub same_shown : (held : ℕ → Option ℕ) (place slot : ℕ) (u v : Uberblock) → Shows held place slot u → Shows held place slot v → SameRank u v
same_shown held place slot u v shows also =
    let len : length (spelled u) ≡ length (spelled v) = length-spelled u shows.fits ∙ sym (length-spelled v also.fits) in
    same_rank u v shows.fits also.fits (same_bytes (spelled u) (spelled v) len (λ i below. sym (shows.bytes i (omega (arith, below, len))) ∙ also.bytes i below))

-- a tree's byte is off the slots
pub off_tree : (trees : Trees) (out : List Bool) (starts : List (List ℕ)) (u v : Uberblock) (picks : ℕ → ℕ → Type 0) (which i value : ℕ) → AreOffLabels trees out starts → Fits u → InUse out which
    → trees v.root which i ≡ Some value → IsOff (IsSlotWrite starts u picks which) i
off_tree trees out starts u v picks which i value off_labels fits used is at bytes write =
    let size = length (bytes_of starts which) in
    let sides = off_slot size i write.label (slot_number u.group) (off_labels v.root which i value used is) (record { is_label = write.is_label; in_ring = slot_number_small u }) in
    ap (λ (place : ℕ). covers place (length bytes) i) write.place
    ∙ ap (λ (n : ℕ). covers (slot_at size write.label (slot_number u.group)) n i) (ap length write.spells ∙ length-spelled u fits)
    ∙ covers-outside (slot_at size write.label (slot_number u.group)) 1024 i sides

-- what is written to a slot is the uberblock
slot_written : (starts : List (List ℕ)) (u : Uberblock) (picks : ℕ → ℕ → Type 0) (which label slot : ℕ) (w : Uberblock) (Good : Uberblock → Type 0) → Fits u → 1048576 ≤ length (bytes_of starts which)
    → IsSlot label slot → Good u → IsSlotWrite starts u picks which (slot_at (length (bytes_of starts which)) label slot) (spelled w) → IsWritten slot w Good
slot_written starts u picks which label slot w Good fits room is good write =
    let size = length (bytes_of starts which) in
    let there : IsSlot write.label (slot_number u.group) = record { is_label = write.is_label; in_ring = slot_number_small u } in
    let same : slot ≡ slot_number u.group = elim (slots_apart size label slot write.label (slot_number u.group) (omega arith) is there) [
      | inl both ↦ both.1
      | inr sides ↦ elim sides [ inl before ↦ absurd (omega (arith, before, write.place)) | inr after ↦ absurd (omega (arith, after, write.place)) ]
    ] in
    record { v = u; fits = fits; number = same; same = write.spells; good = good }

-- a phase that writes one uberblock's slots, off the top of each disk
pub slot_phase : (trees : Trees) (out : List Bool) (disks : Disks) (p : Possible) (u : Uberblock) (picks : ℕ → ℕ → Type 0) → AreThere out disks.starts → HaveLabels disks.starts → Fits u
    → AreOffLabels trees out disks.starts → IsInReach p u → TreeStands trees out (content disks) u.root
    → ((which : ℕ) → InUse out which → IsSafe (IsSlotWrite disks.starts u picks which) (length (bytes_of disks.starts which)) (content disks which) p.last)
    → IsPhase trees out disks (IsSlotWrite disks.starts u picks) p
slot_phase trees out disks p u picks there room fits off_labels among stands safe =
    record {
      whole = λ which label slot used is. whole_slot_writes disks.starts u picks which label slot fits (room which (there which used)) is;
      off = λ v possible which i value used is. off_tree trees out disks.starts u v picks which i value off_labels fits used is;
      written = λ which label slot w used is fits' write.
          slot_written disks.starts u picks which label slot w (IsPossible trees out (content disks) p) fits (room which (there which used)) is (among, stands) write;
      safe = safe;
    }

-- ---- after the phase

pub tree_kept : (trees : Trees) (out : List Bool) (old new : Disks) (u v : Uberblock) (picks : ℕ → ℕ → Type 0) → Fits u → AreOffLabels trees out old.starts
    → Makes (if_used out (IsSlotWrite old.starts u picks)) old new → TreeStands trees out (content old) v.root → TreeStands trees out (content new) v.root
tree_kept trees out old new u v picks fits off_labels makes stands which i value used is =
    off_content (if_used out (IsSlotWrite old.starts u picks)) old new which i makes
    (used_off out (IsSlotWrite old.starts u picks) which i used (off_tree trees out old.starts u v picks which i value off_labels fits used is))
    ∙ stands which i value used is

pub finished : (trees : Trees) (out : List Bool) (old new : Disks) (u : Uberblock) (before : List Uberblock) (Old : Uberblock → Type 0) → AreThere out old.starts → HaveLabels old.starts → Fits u
    → AreOffLabels trees out old.starts → Makes (slot_writes out old.starts u) old new
    → SlotsStand (content new) old.starts u (in_use out) (length old.starts)
    → ((which : ℕ) → InUse out which → AreAllowed (length (bytes_of old.starts which)) (content old which) u Old)
    → ((w : Uberblock) → Old w → IsPossible trees out (content old) (only_last u before) w) → TreeStands trees out (content old) u.root
    → Leads trees out new.starts (content new) (only_last u before)
finished trees out old new u before Old there room fits off_labels makes stand below goods tree =
    let P : List (List ℕ) → Type 0 = λ starts. Leads trees out starts (content new) (only_last u before) in
    subst P (sym makes.starts) (λ which used.
    leads_finished (length (bytes_of old.starts which)) (content old which) (content new which) u Old (IsPossible trees out (content new) (only_last u before)) fits
    (inl (first_in u []), tree_kept trees out old new u u (in_use out) fits off_labels makes tree)
    (λ w it. let good = goods w it in (good.0, tree_kept trees out old new u w (in_use out) fits off_labels makes good.1))
    (below which used)
    (λ label slot is elsewhere i i_below.
    off_content (slot_writes out old.starts u) old new which (slot_at (length (bytes_of old.starts which)) label slot + i) makes
    (used_off out (IsSlotWrite old.starts u (in_use out)) which (slot_at (length (bytes_of old.starts which)) label slot + i) used
    (off_slot_writes old.starts u (in_use out) which label slot fits (room which (there which used)) is (λ label' is' picked both. elsewhere (sym both.1)) i i_below)))
    (λ label is i i_below. stand which label (there which used) is used i i_below)
    (slot_number_small u))
