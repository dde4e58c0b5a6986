-- The disks that are found have room for their vdevs.
use Rattle.std.proofs.Common.{ℕ, zero, suc, ◌≡◌, inl, inr, ◌+◌, ◌-◌, ◌*◌, ◌<◌, ◌≤◌, Bool, true, false, ◌&&◌, nat_le, if◌then◌else◌, List, [], ◌∷◌, ◌++◌, length, map, slice_get, Option, Some, None, is_none, All, Contains, refl, sym, ap, subst, ◌∙◌, arith, true≢false}
use Rattle.std.specs.Prelude.{◌/◌, ◌%◌, ◌^◌, option_map, replicate, unwrap_or}
use Rattle.std.proofs.lemmas.Bool.Decides.{nat_tests}
use Rattle.std.proofs.lemmas.List.{length-append, length-map, length-replicate}
use Rattle.std.proofs.lemmas.List.Elements.{All-tail, Contains-append_cases}
use Rattle.std.proofs.Math.Nat.{mul_comm}
use Rattle.std.proofs.lemmas.Option.{slice_get-map}
use Rattle.model_disk.specs.Joint.{Disks, bytes_of}
use Rattle.model_disk.specs.declared.disk.Disk as disk
use Rattle.raidz_io.proofs.Parts.{slice_get_back, slice_get_front}
use Rattle.raidz_io.proofs.Written.{slice_get_some}
use Rattle.block_store.specs.Config.{IsAllowedSize, sectors_of, size_of, used_bytes}
use Rattle.block_store.specs.Opened.{LieOn}
use Rattle.block_store.specs.Shapes.{metaslabs}
use Rattle.block_store.specs.declared.shape.VdevShape.{VdevShape}
use Rattle.vdev_label.specs.Limits.{IsAllowed, IsAllowedVdev, slabs}
use Rattle.vdev_label.specs.Plain.{PlainVdev, config_view}
use Rattle.pool_labels.specs.Choices.{AreAllMembers, AreMembers, IsMember}
use Rattle.pool_labels.specs.Scans.{IsScanOf, four_of, place_of, places_to}
use Rattle.pool_labels.specs.Sizes.{HasSectors, is_allowed_size}
use Rattle.pool_labels.specs.declared.scanned.Scan.{Scan}
use Rattle.pool_labels.proofs.Lists.{all_at, contains_at}
use Rattle.pool_members.specs.Arranged.{start_for}
use Rattle.pool_members.specs.declared.arranging.Child.{Child}
use Rattle.pool_create.specs.Children.{all_children, child_of}
use Rattle.pool_create.specs.Shapes.{AreShapesOf, IsShapeOf}
use Rattle.pool_create.proofs.OpenOnce.{FoundList, tail_members}
use Rattle.pool_slots.proofs.ReadRuns.{reads_made}
use Rattle.pool_stops.specs.Found.{FoundDisksMayBeOpened}
use Rattle.pool_stops.proofs.Scanned.{in_part}

-- ---- sizes

both_true : (a b : Bool) → a && b ≡ true → (a ≡ true) × (b ≡ true)
both_true true b is = (refl, is)
both_true false b is = absurd (true≢false (sym is))

le_of : (a b : ℕ) → nat_le a b ≡ true → a ≤ b
le_of a b is = grind (arith, nat_tests)

-- allowed by the scan, allowed by the store
allowed_so : (size : ℕ) → is_allowed_size size ≡ true → IsAllowedSize size
allowed_so size is =
    let both = both_true (nat_le 8388608 (size / 262144 * 262144)) (nat_le (size / 262144 * 262144) (2 ^ 43)) is in
    record { least = le_of 8388608 (size / 262144 * 262144) both.0; most = le_of (size / 262144 * 262144) (2 ^ 43) both.1 }

part_allowed : (allowed : Bool) (disk : ℕ) (x : ℕ × ℕ) → Contains (if allowed then four_of disk else []) x → allowed ≡ true
part_allowed true disk x has = refl
part_allowed false disk x has = absurd (omega (arith, has.1))

-- a disk of which labels were scanned is of an allowed size
place_allowed : (starts : List (List ℕ)) (n : ℕ) (x : ℕ × ℕ) → Contains (places_to starts n) x → IsAllowedSize (size_of starts x.0)
place_allowed starts zero x has = absurd (omega (arith, has.1))
place_allowed starts (suc n) x has =
    let flag : Bool = is_allowed_size (length (bytes_of starts n)) in
    elim (Contains-append_cases (places_to starts n) (if flag then four_of n else []) x has) [
      | inl before ↦ place_allowed starts n x before
      | inr there ↦
          subst (λ d. IsAllowedSize (size_of starts d)) (sym (in_part flag n x there)) (allowed_so (size_of starts n) (part_allowed flag n x there))
    ]

-- what stands for an absent disk is of one, and has its sectors
absent_allowed : (sectors : ℕ) → 7168 ≤ sectors → sectors ≤ 2 ^ 34 - 9216 → sectors % 512 ≡ 0 → IsAllowedSize ((sectors + 9216) * 512)
absent_allowed sectors from to whole =
    let same : used_bytes ((sectors + 9216) * 512) ≡ (sectors + 9216) * 512 = omega (arith, whole) in
    record { least = omega (arith, same, from); most = omega (arith, same, to, from) }

absent_room : (sectors : ℕ) → sectors % 512 ≡ 0 → sectors ≤ sectors_of ((sectors + 9216) * 512)
absent_room sectors whole =
    let same : used_bytes ((sectors + 9216) * 512) ≡ (sectors + 9216) * 512 = omega (arith, whole) in
    omega (arith, same)

-- ---- one child

-- its disk is of an allowed size, and has so many sectors
abbrev IsRoomy : ℕ → List ℕ → Type 0
IsRoomy sectors start = IsAllowedSize (length start) × (sectors ≤ sectors_of (length start))

has_room : (size sectors : ℕ) → IsAllowedSize size → HasSectors size sectors → sectors ≤ sectors_of size
has_room size sectors allowed room = omega (arith, allowed.least, room)

roomy : (old new : Disks) (scan : Scan) (v : PlainVdev) (guid : ℕ) (m : Option ℕ) → IsScanOf old new scan → IsAllowedVdev v → IsMember scan v.child_sectors guid m
    → IsRoomy v.child_sectors (start_for old.starts (child_of v.child_sectors m))
roomy old new scan v guid None read allowed member =
    let long : length (replicate ((v.child_sectors + 9216) * 512) 0) ≡ (v.child_sectors + 9216) * 512 = length-replicate ((v.child_sectors + 9216) * 512) 0 in (
      subst IsAllowedSize (sym long) (absent_allowed v.child_sectors allowed.sectors_from allowed.sectors_to allowed.whole),
      subst (λ n. v.child_sectors ≤ sectors_of n) (sym long) (absent_room v.child_sectors allowed.whole),
    )
roomy old new scan v guid (Some which) read allowed member =
    let scanned = read.disks which member.usable.d member.usable.at in
    let named : Contains (map place_of scan.labels.items) (place_of member.s) =
    contains_at (map place_of scan.labels.items) member.i (place_of member.s) (slice_get-map place_of scan.labels.items member.i ∙ ap (option_map place_of) member.at.at) in
    let place : Contains (places_to old.starts (length old.starts)) (place_of member.s) = subst (λ xs. Contains xs (place_of member.s)) read.places named in
    let size = subst (λ d. IsAllowedSize (size_of old.starts d)) member.disk (place_allowed old.starts (length old.starts) (place_of member.s) place) in
    (size, has_room (size_of old.starts which) v.child_sectors size (subst (λ n. HasSectors n v.child_sectors) scanned.size member.usable.room))

-- ---- all of them

slabs_are : (v : PlainVdev) (first : ℕ) (shape : VdevShape) → IsShapeOf v first shape → metaslabs shape ≡ slabs v
slabs_are v first shape is =
    let product : shape.vdev.geometry.children * shape.child_sectors ≡ v.child_sectors * length v.children =
    (λ i. is.children i * is.sectors i) ∙ mul_comm (length v.children) v.child_sectors in
    λ i. product i / 2 ^ is.shift i

lie_from : (old new : Disks) (scan : Scan) (starts : List (List ℕ)) (vdevs : List PlainVdev) (first : ℕ) (shapes : List VdevShape) (members : FoundList)
    → IsScanOf old new scan → All IsAllowedVdev vdevs → AreShapesOf vdevs first shapes → AreAllMembers scan vdevs members
    → length starts ≡ first + length (all_children vdevs members)
    → ((which : ℕ) (child : Child) → slice_get (all_children vdevs members) which ≡ Some child → bytes_of starts (first + which) ≡ start_for old.starts child)
    → LieOn starts first shapes
lie_from old new scan starts [] first [] members read allowed shaped are count each = omega (arith, count)
lie_from old new scan starts [] first (shape ∷ shapes) members read allowed shaped are count each = absurd shaped
lie_from old new scan starts (v ∷ vdevs) first [] members read allowed shaped are count each = absurd shaped
lie_from old new scan starts (v ∷ vdevs) first (shape ∷ shapes) [] read allowed shaped are count each = absurd (omega (arith, are.count))
lie_from old new scan starts (v ∷ vdevs) first (shape ∷ shapes) (found ∷ members) read allowed shaped are count each =
    let one : AreMembers scan v found.items = are.each 0 v found refl refl in
    let is : IsShapeOf v first shape = shaped.0 in
    let ok : IsAllowedVdev v = all_at IsAllowedVdev (v ∷ vdevs) 0 v allowed refl in
    let rest : List Child = all_children vdevs members in
    let mine : List Child = map (child_of v.child_sectors) found.items in
    let long : length mine ≡ length v.children = length-map found.items (child_of v.child_sectors) ∙ one.count in
    let whole : length (mine ++ rest) ≡ length v.children + length rest = length-append mine rest ∙ ap (λ n. n + length rest) long in
    let room : (disk : ℕ) → shape.vdev.first ≤ disk → disk < shape.vdev.first + shape.vdev.geometry.children → IsRoomy v.child_sectors (bytes_of starts disk) =
    λ disk from below.
    let j : ℕ = disk - first in
    let at : first + j ≡ disk = omega (arith, from, is.first_is) in
    let inside : j < length v.children = omega (arith, below, is.first_is, is.children, from) in
    let guid = slice_get_some v.children j inside in
    let m = slice_get_some found.items j (omega (arith, inside, one.count)) in
    let child : Child = child_of v.child_sectors m.0 in
    let there : slice_get (mine ++ rest) j ≡ Some child =
    slice_get_front mine rest j (omega (arith, inside, long)) ∙ slice_get-map (child_of v.child_sectors) found.items j ∙ ap (option_map (child_of v.child_sectors)) m.1 in
    let start : bytes_of starts disk ≡ start_for old.starts child = ap (bytes_of starts) (sym at) ∙ each j child there in
    subst (IsRoomy v.child_sectors) (sym start) (roomy old new scan v guid.0 m.0 read ok (one.each j guid.0 m.0 guid.1 m.1)) in
    let slabs_is : metaslabs shape ≡ slabs v = slabs_are v first shape is in
    let count' : length starts ≡ (first + length v.children) + length rest = omega (arith, count, whole) in
    let each' : (which : ℕ) (child : Child) → slice_get rest which ≡ Some child → bytes_of starts ((first + length v.children) + which) ≡ start_for old.starts child =
    λ which child at.
    let place : first + (length mine + which) ≡ (first + length v.children) + which = omega (arith, long) in
    ap (bytes_of starts) (sym place) ∙ each (length mine + which) child (slice_get_back mine rest which ∙ at) in
    let behind : LieOn starts (first + length v.children) shapes =
    lie_from old new scan starts vdevs (first + length v.children) shapes members read (All-tail IsAllowedVdev v vdevs allowed) shaped.1
    (tail_members scan v vdevs found members are) count' each' in (
      is.first_is,
      record {
        there = omega (arith, is.first_is, is.children, count, whole);
        sizes = λ disk from below. (room disk from below).0;
        sectors = λ disk from below. subst (λ n. n ≤ sectors_of (size_of starts disk)) (sym is.sectors) (room disk from below).1;
        regions = record { meta = omega (arith, is.meta, ok.meta); others = omega (arith, is.meta, slabs_is, ok.others) };
        few = omega (arith, slabs_is, ok.slabs_to);
      },
      subst (λ n. LieOn starts (first + n) shapes) (sym is.children) behind,
    )

many_shapes : (vdevs : List PlainVdev) (first : ℕ) (shapes : List VdevShape) → AreShapesOf vdevs first shapes → length shapes ≡ length vdevs
many_shapes [] first [] are = refl
many_shapes [] first (shape ∷ shapes) are = absurd are
many_shapes (v ∷ vdevs) first [] are = absurd are
many_shapes (v ∷ vdevs) first (shape ∷ shapes) are = ap suc (many_shapes vdevs (first + length v.children) shapes are.1)

module _ {D : Type 0} where
  pub found_disks_may_be_opened : (g : disk.Ghosts D) → FoundDisksMayBeOpened g
  found_disks_may_be_opened g disks rewind array shapes out ordered =
      let found = ordered.found in
      let laid = found.laid_out in
      let vdevs : List PlainVdev = config_view laid.chosen.l.config in
      let members : FoundList = laid.choice.members.items in
      let children : List Child = all_children vdevs members in
      let allowed : IsAllowed laid.chosen.l.pool_guid vdevs = laid.chosen.configured.fit.allowed in
      let reads = reads_made found.read.only in
      let after : map g.start found.after ≡ found.old.starts = sym found.array.0 ∙ reads.starts in
      let starts : array.starts ≡ map (start_for found.old.starts) children =
      ordered.starts ∙ found.arranged.same_start ∙ (λ i. map (start_for (after i)) (laid.laid_out.children i)) in
      let shaped : AreShapesOf vdevs 0 shapes = subst (AreShapesOf vdevs 0) (sym found.shapes_are) laid.laid_out.shapes in
      let count : length array.starts ≡ length children = ap length starts ∙ length-map children (start_for found.old.starts) in
      let each : (which : ℕ) (child : Child) → slice_get children which ≡ Some child → bytes_of array.starts (0 + which) ≡ start_for found.old.starts child =
      λ which child at.
      let zero_plus : 0 + which ≡ which = omega arith in
      ap (bytes_of array.starts) zero_plus ∙ ap (λ s. bytes_of s which) starts
      ∙ ap (λ o. unwrap_or o []) (slice_get-map (start_for found.old.starts) children which ∙ ap (option_map (start_for found.old.starts)) at) in
      let many : length shapes ≡ length vdevs = many_shapes vdevs 0 shapes shaped in
      record {
        some = omega (arith, many, allowed.vdevs_from);
        few = omega (arith, many, allowed.vdevs_to);
        lie = lie_from found.old found.new laid.scan array.starts vdevs 0 shapes members laid.read allowed.each shaped laid.chosen.members
            (omega (arith, count)) each;
        flags = ap length found.arranged.marked ∙ length-map found.layout.children.items (λ (c : Child). is_none c.disk)
            ∙ ap length laid.laid_out.children ∙ sym count;
      }
