-- Labels that show the configuration, at each moment.
use Rattle.std.proofs.Common.{ℕ, ◌≡◌, ◌⊎◌, ⊎_elim, inl, inr, ◌+◌, ◌*◌, ◌<◌, ◌≤◌, Bool, false, List, [], ◌++◌, length, get_or, slice_get, Option, Some, None, All, refl, sym, ap, subst, ◌∙◌, arith}
use Rattle.std.proofs.lemmas.Option.{slice_get-get_or}
use Rattle.model_disk.specs.Call.{Call}
use Rattle.model_disk.specs.Contents.{MayLeave, byte_at, covers, is_dirty}
use Rattle.model_disk.specs.Joint.{Disks, JointCall, bytes_of, calls_on, content}
use Rattle.model_disk.specs.Runs.{EachSince, IsOff, Makes, WritesOnly, no_write}
use Rattle.model_disk.proofs.LawLemmas.{same_bytes, untouched_since}
use Rattle.model_disk.proofs.RunLemmas.{Makes-none, calls_on-append, each_of_run, off_untouched, writes_on}
use Rattle.block_store.specs.Elsewhere.{IsForBlocks}
use Rattle.block_store.specs.Spaces.{VdevSpace}
use Rattle.sha2.specs.Sha256.{sha256}
use Rattle.uberblock_ring.specs.Slot.{slot_number}
use Rattle.uberblock_ring.specs.Uberblock.{Fits}
use Rattle.uberblock_ring.specs.declared.uberblock.Uberblock.{Uberblock}
use Rattle.vdev_label.specs.Config.{config_bytes}
use Rattle.vdev_label.specs.Place.{label_at}
use Rattle.vdev_label.specs.Plain.{PlainLabel}
use Rattle.pool_create.specs.Backs.{Backs}
use Rattle.pool_create.specs.CommitState.{State}
use Rattle.pool_create.specs.CommitWriting.{IsDueSlot, WritesPlan, may_write}
use Rattle.pool_create.specs.CommitPlanned.{Planned}
use Rattle.disk_set.specs.declared.behind.SlotWrite.{SlotWrite}
use Rattle.pool_create.specs.Moves.{Moves}
use Rattle.pool_model.specs.View.{View}
use Rattle.pool_model.specs.declared.step.Step.{Step}
use Rattle.pool_model.specs.declared.step.Step.TheVariants.{Hold, Write, Act, Release, Close, Quiesce, Plan, Device, DiskOut, Read, ReadUnder}
use Rattle.pool_create.specs.OpenStops.{fresh}
use Rattle.pool_slots.specs.Labels.{IsLabelShown, area_place, inscribed}
use Rattle.pool_slots.specs.Possible.{held_by}
use Rattle.pool_slots.specs.Slots.{InUse, IsSlot, slot_at, spelled}
use Rattle.pool_slots.specs.Writes.{IsSlotWrite}
use Rattle.pool_slots.proofs.LabelAreas.{area_len, same_areas}
use Rattle.pool_slots.proofs.Places.{apart_covers, labels_apart, length-spelled}
use Rattle.pool_slots.proofs.Writing.{slot_number_small}
use Rattle.pool_stops.specs.Configured.{HeldLabelsAreLeft, HeldLabelsStayHeld, HoldConfigured, IsFlushedLabel, LeftDisksAreConfigured, StepsStayConfigured}
use Rattle.pool_stops.specs.Running.{IsWhole}
use Rattle.pool_stops.specs.Standing.{LieBesideLabels, unfilled_write}
use Rattle.pool_stops.proofs.Holding.{due_writes_are_unfilled}
use Rattle.pool_stops.proofs.Phases.{no_writes}
use Rattle.pool_stops.proofs.Standing.{either, its_disk}
use Rattle.pool_stops.proofs.Steps.{used_below}

-- a label shows one thing
pub shown_once : (size number : ℕ) (held : ℕ → Option ℕ) (l m : PlainLabel) → IsLabelShown size held number l → IsLabelShown size held number m → l ≡ m
shown_once size number held l m one other =
    same_areas l m one.valid other.valid
    (same_bytes (inscribed l) (inscribed m) (area_len l one.valid ∙ sym (area_len m other.valid))
    (λ i below. let inside : i < 114688 = omega (arith, below, area_len m other.valid) in sym (one.bytes i inside) ∙ other.bytes i inside))

-- ---- what a run doesn't write

-- calls that write nothing there leave a byte as it was, and no less safe
pub kept_byte : (may : ℕ → ℕ → List ℕ → Type 0) (start : List ℕ) (made calls : List JointCall) (which i : ℕ)
    → All (λ (it : JointCall). WritesOnly (may it.which) it.call) made → IsOff (may which) i
    → (byte_at start (calls_on which (made ++ calls)) i ≡ byte_at start (calls_on which calls) i)
    × (is_dirty (calls_on which calls) i ≡ false → is_dirty (calls_on which (made ++ calls)) i ≡ false)
kept_byte may start made calls which i are off =
    let joined : calls_on which (made ++ calls) ≡ calls_on which made ++ calls_on which calls = calls_on-append which made calls in
    let since =
    untouched_since start (calls_on which made) (calls_on which calls) i
    (off_untouched (may which) (calls_on which made) i (writes_on may which made are) off) in (
      ap (λ (them : List Call). byte_at start them i) joined ∙ since.0,
      λ clean. ap (λ (them : List Call). is_dirty them i) joined ∙ since.1 clean,
    )

-- a label is held through a run that writes no byte of it
pub label_held : (may : ℕ → ℕ → List ℕ → Type 0) (old new : Disks) (which number : ℕ) (l : PlainLabel) → Makes may old new
    → ((i : ℕ) → i < 114688 → IsOff (may which) (area_place (length (bytes_of old.starts which)) number + i))
    → IsFlushedLabel old.starts old.calls which number l
    → EachSince (length old.calls) (λ calls. IsFlushedLabel old.starts calls which number l) new.calls
label_held may old new which number l makes off it =
    let start : List ℕ = bytes_of old.starts which in
    let place : ℕ = area_place (length start) number in
    each_of_run may (λ (calls : List JointCall). IsFlushedLabel old.starts calls which number l) old new
    (λ made are. record {
      shown = record {
        is_label = it.shown.is_label;
        valid = it.shown.valid;
        bytes = λ i below. (kept_byte may start made old.calls which (place + i) are (off i below)).0 ∙ it.shown.bytes i below;
      };
      clean = λ i below. (kept_byte may start made old.calls which (place + i) are (off i below)).1 (it.clean i below);
    }) makes

-- so are all of them
pub all_held : (may : ℕ → ℕ → List ℕ → Type 0) (out : List Bool) (old new : Disks) (digest : List ℕ) → Makes may old new
    → ((which number : ℕ) → InUse out which → number < 4 → (i : ℕ) → i < 114688
    → IsOff (may which) (area_place (length (bytes_of old.starts which)) number + i))
    → HoldConfigured out old.starts digest old.calls → EachSince (length old.calls) (HoldConfigured out old.starts digest) new.calls
all_held may out old new digest makes off hold earlier moment which number used low =
    let it = hold which number used low in
    (it.0, label_held may old new which number it.0 makes (off which number used low) it.1 earlier moment, it.2)

-- ---- what is left

-- a stop leaves a label that is flushed
pub label_left : (starts : List (List ℕ)) (calls : List JointCall) (which number : ℕ) (l : PlainLabel) (image : List ℕ)
    → MayLeave (bytes_of starts which) (calls_on which calls) image → IsFlushedLabel starts calls which number l
    → IsLabelShown (length image) (slice_get image) number l
label_left starts calls which number l image left it = record {
  is_label = it.shown.is_label;
  valid = it.shown.valid;
  bytes = λ i below.
      let place : ℕ = area_place (length (bytes_of starts which)) number + i in
      let value : ℕ = get_or (inscribed l) i 0 in
      let is : slice_get (inscribed l) i ≡ Some value = slice_get-get_or (inscribed l) i 0 (omega (arith, below, area_len l it.shown.valid)) in
      subst (λ (size : ℕ). slice_get image (area_place size number + i) ≡ slice_get (inscribed l) i) (sym left.size)
      (left.kept place value (it.clean i below) (it.shown.bytes i below ∙ is) ∙ sym is);
}

pub held_labels_are_left : HeldLabelsAreLeft
held_labels_are_left out starts digest calls there hold images left which used =
    let it = hold which 0 used (omega arith) in
    record {
      number = 0;
      label = it.0;
      shown = label_left starts calls which 0 it.0 (bytes_of images which) (left.each which (there which used)) it.1;
      config = it.2;
    }

-- what images show is flushed on disks that hold them
pub flushed_on : (images : List (List ℕ)) (which number : ℕ) (l : PlainLabel) → IsLabelShown (length (bytes_of images which)) (held_by images which) number l
    → IsFlushedLabel images [] which number l
flushed_on images which number l shown = record {
  shown = record { is_label = shown.is_label; valid = shown.valid; bytes = λ i below. shown.bytes i below };
  clean = λ i below. refl;
}

pub held_labels_stay_held : HeldLabelsStayHeld
held_labels_stay_held out starts digest calls images there hold left =
    let anew : HoldConfigured out images digest [] = λ which number used low.
    let it = hold which number used low in
    let shown = label_left starts calls which number it.0 (bytes_of images which) (left.each which (there which used)) it.1 in
    (it.0, flushed_on images which number it.0 shown, it.2) in (
      anew,
      λ which used four.
          let size : ℕ = length (bytes_of images which) in
          let held : ℕ → Option ℕ = content (fresh images) which in
          let config : (number : ℕ) → (low : number < 4) → sha256 (config_bytes (four.label number).vdevs) ≡ digest =
          λ number low.
          let it = anew which number used low in
          let same : it.0 ≡ four.label number = shown_once size number held it.0 (four.label number) it.1.shown (four.shown number low) in
          ap (λ (l : PlainLabel). sha256 (config_bytes l.vdevs)) (sym same) ∙ it.2 in
          four.apart 0 1 (omega arith) (omega arith) (config 0 (omega arith) ∙ sym (config 1 (omega arith))),
    )

pub left_disks_are_configured : LeftDisksAreConfigured
left_disks_are_configured out starts digest calls images p there leaves left same u reach others also which used =
    let it = leaves images left which used in
    let below : which < length images = omega (arith, there which used, left.count) in
    let flushed = flushed_on images which it.number it.label it.shown in
    record {
      number = it.number;
      label = it.label;
      shown = label_left images [] which it.number it.label (bytes_of others which) (also.each which below) flushed;
      config = it.config ∙ sym (same u reach);
    }

-- ---- bytes of labels that a plan doesn't write

area_in_label : (size number i : ℕ) → i < 114688
    → (label_at size number ≤ area_place size number + i) × (area_place size number + i < label_at size number + 262144)
unfolding area_place
area_in_label size number i below = (omega arith, omega (arith, below))

-- blocks lie beside labels
off_blocks : (starts : List (List ℕ)) (spaces : List VdevSpace) (which number i : ℕ) → LieBesideLabels starts spaces → number < 4 → i < 114688
    → IsOff (unfilled_write spaces which) (area_place (length (bytes_of starts which)) number + i)
off_blocks starts spaces which number i lie low below at bytes write =
    let size : ℕ = length (bytes_of starts which) in
    let place : ℕ = area_place size number + i in
    let inside = area_in_label size number i below in
    elim (either (covers at (length bytes) place)) [
      | inl covered ↦
          let is : IsForBlocks spaces which place = (write place covered).0 in
          absurd ((lie.labels which (its_disk starts spaces which place lie.laid is)).1 number low place inside.0 inside.1 is)
      | inr not ↦ not
    ]

ordered : (i j : ℕ) → (i < j) ⊎ ((j < i) ⊎ (i ≡ j))
ordered i j = grind arith

pub area_off_slot : (size number label slot : ℕ) → 4 * 262144 ≤ size → number < 4 → IsSlot label slot
    → (slot_at size label slot + 1024 ≤ area_place size number) ⊎ (area_place size number + 114688 ≤ slot_at size label slot)
unfolding area_place slot_at
area_off_slot size number label slot room low is = elim (ordered number label) [
  | inl below ↦ inr (omega (arith, labels_apart size number label room below is.is_label))
  | inr (inl above) ↦ inl (omega (arith, labels_apart size label number room above low, is.in_ring))
  | inr (inr same) ↦ inr (omega (arith, ap (label_at size) same))
]

-- a slot that is due, as a slot of any label
due_slot : (starts : List (List ℕ)) (u : Uberblock) (slots : List SlotWrite) (which at : ℕ) (bytes : List ℕ) → IsDueSlot starts u slots which at bytes
    → IsSlotWrite starts u (λ disk label. Unit {0}) which at bytes
unfolding slot_at spelled
due_slot starts u slots which at bytes due = record {
  label = due.write.label;
  is_label = due.is_label;
  picked = tt;
  place = due.place ∙ ap (λ (n : ℕ). slot_at (length (bytes_of starts n)) due.write.label (slot_number u.group)) (sym due.disk);
  spells = due.same;
}

pub off_slots : (starts : List (List ℕ)) (u : Uberblock) (picks : ℕ → ℕ → Type 0) (which number i : ℕ) → Fits u
    → 1048576 ≤ length (bytes_of starts which) → number < 4 → i < 114688
    → IsOff (IsSlotWrite starts u picks which) (area_place (length (bytes_of starts which)) number + i)
off_slots starts u picks which number i fits room low below at bytes write =
    let size : ℕ = length (bytes_of starts which) in
    let slot : ℕ = slot_at size write.label (slot_number u.group) in
    let area : ℕ = area_place size number in
    let is : IsSlot write.label (slot_number u.group) = record { is_label = write.is_label; in_ring = slot_number_small u } in
    ap (λ (n : ℕ). covers n (length bytes) (area + i)) write.place
    ∙ ap (λ (n : ℕ). covers slot n (area + i)) (ap length write.spells ∙ length-spelled u fits)
    ∙ apart_covers slot 1024 area 114688 (area_off_slot size number write.label (slot_number u.group) (omega (arith, room)) low is) i below

pub off_plan : (s : State) (v : View) (plan : Planned) (which number i : ℕ) → IsWhole s → Backs s v → Fits plan.uberblock → InUse s.store.out which → number < 4
    → i < 114688 → IsOff (may_write s plan which) (area_place (length (bytes_of s.store.disks.starts which)) number + i)
off_plan s v plan which number i whole backs fits used low below at bytes write =
    let starts : List (List ℕ) = s.store.disks.starts in
    let there : which < length starts = omega (arith, used_below s.store.out which used, whole.count) in
    ⊎_elim
    (λ block.
    off_blocks starts s.store.spaces which number i whole.lie low below at bytes
    (due_writes_are_unfilled s.store backs.blocks.stored backs.blocks.planned whole.lie backs.blocks.plans which at bytes block))
    (λ slot.
    off_slots starts plan.uberblock (λ disk label. Unit {0}) which number i fits (whole.lie.labels which there).0 low below at bytes
    (due_slot starts plan.uberblock plan.behind.slots.items which at bytes slot.2)) write

-- ---- steps

pub unmoved : (old new : State) → new ≡ old → Makes no_write old.store.disks new.store.disks
unmoved old new same = subst (λ (s : State). Makes no_write old.store.disks s.store.disks) (sym same) (Makes-none no_write old.store.disks)

pub uncalled : (old new : State) → new.store.disks ≡ old.store.disks → Makes no_write old.store.disks new.store.disks
uncalled old new same = subst (λ (d : Disks). Makes no_write old.store.disks d) (sym same) (Makes-none no_write old.store.disks)

-- it writes nothing, or its plan
abbrev pub WritesAtMost : State → State → Type 0
WritesAtMost old new = Makes no_write old.store.disks new.store.disks ⊎ ((plan : Planned) × (old.planned ≡ Some plan) × WritesPlan old new)

by_plan : (old new : State) (planned : Option Planned) → old.planned ≡ planned → WritesPlan old new → WritesAtMost old new
by_plan old new None is writes = inl (unmoved old new (writes.idle is))
by_plan old new (Some plan) is writes = inr (plan, is, writes)

pub writes_at_most : (step : Step) (old new : State) → Moves step old new → WritesAtMost old new
writes_at_most (Hold x) old new moves = inl (unmoved old new moves)
writes_at_most (Write x) old new moves = inl (unmoved old new moves)
writes_at_most (Act x) old new moves = inl (unmoved old new moves)
writes_at_most (Release x) old new moves = inl (unmoved old new moves)
writes_at_most Close old new moves = inl (unmoved old new moves)
writes_at_most Quiesce old new moves = inl (unmoved old new moves)
writes_at_most (Plan t) old new moves =
    inl (⊎_elim (λ same. unmoved old new same) (λ plans. no_writes no_write old.store.disks new.store.disks plans.reads) moves)
writes_at_most Device old new moves = ⊎_elim (λ same. inl (unmoved old new same)) (λ writes. by_plan old new old.planned refl writes) moves
writes_at_most (DiskOut d) old new moves = inl (⊎_elim (λ same. unmoved old new same) (λ takes. uncalled old new takes.disks) moves)
writes_at_most (Read a b c) old new moves = inl (no_writes no_write old.store.disks new.store.disks moves.reads)
writes_at_most (ReadUnder g a b c) old new moves = inl (no_writes no_write old.store.disks new.store.disks moves.reads)

pub same_starts : (step : Step) (old new : State) → Moves step old new → new.store.disks.starts ≡ old.store.disks.starts
same_starts step old new moves = ⊎_elim (λ none. none.starts) (λ (plan, is, writes). (writes.makes plan is).starts) (writes_at_most step old new moves)

pub steps_stay_configured : StepsStayConfigured
steps_stay_configured old new v step digest whole backs moves hold = ⊎_elim
    (λ none.
    all_held no_write old.store.out old.store.disks new.store.disks digest none (λ which number used low i below at bytes write. absurd write) hold)
    (λ (plan, is, writes).
    all_held (may_write old plan) old.store.out old.store.disks new.store.disks digest (writes.makes plan is)
    (λ which number used low i below. off_plan old v plan which number i whole backs (writes.fits plan is) used low below) hold)
    (writes_at_most step old new moves)
