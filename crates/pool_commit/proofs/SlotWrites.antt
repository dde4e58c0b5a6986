-- Writes of slots, and what stays in the other slots.
use Rattle.std.proofs.Common.{◌≡◌, ◌≢◌, ◌⊎◌, ⊎_elim, inl, inr, ℕ, zero, suc, ◌+◌, ◌*◌, ◌≤◌, ◌<◌, true, false, List, ◌∷◌, length, refl, sym, ap, ◌∙◌, subst, arith, Contains}
use Rattle.std.proofs.Common.{Result, Ok, Err, is_ok}
use Rattle.model_disk.proofs.LawLemmas.{written_bytes_stand, other_bytes_stay}
use Rattle.model_disk.specs.Call.{is_failed, write_call, flush_call}
use Rattle.model_disk.specs.Contents.{covers, touches}
use Rattle.model_disk.specs.Joint.{Disks, on, bytes_of, content}
use Rattle.block_store.specs.Plans.{KeepsPlans}
use Rattle.block_store.specs.Store.{Store}
use Rattle.pool_model.specs.declared.step.Phase.TheVariants.{Slots}
use Rattle.pool_model.specs.View.{DueCall}
use Rattle.pool_slots.proofs.Places.{labels_apart, apart_covers, length-spelled}
use Rattle.pool_slots.specs.Slots.{spelled}
use Rattle.uberblock_ring.specs.Place.{slot_at}
use Rattle.uberblock_ring.specs.Slot.{slot_bytes, slot_number}
use Rattle.uberblock_ring.specs.Uberblock.{Fits}
use Rattle.uberblock_ring.specs.declared.uberblock.Uberblock.{Uberblock}
use Rattle.disk_set.specs.declared.behind.SlotWrite.{SlotWrite}
use Rattle.pool_commit.specs.Making.{KeepsContent, SlotsMove, SlotsMoveBut}
use Rattle.pool_commit.specs.Slots.{place_of, ShowsIn}
use Rattle.pool_commit.proofs.Made.{MadeOne}

pub cases_in : {X : Type 0} (x : X) (xs : List X) (y : X) → Contains (x ∷ xs) y → (y ≡ x) ⊎ Contains xs y
cases_in x xs y (zero, within, is) = inl (sym is)
cases_in x xs y (suc k, within, is) = inr (k, omega arith, is)

pub there_first : {X : Type 0} (x : X) (xs : List X) → Contains (x ∷ xs) x
there_first x xs = (0, omega arith, refl)

pub there_later : {X : Type 0} (x : X) (xs : List X) (y : X) → Contains xs y → Contains (x ∷ xs) y
there_later x xs y held = (suc held.0, omega (arith, held.1), held.2)

-- ---- the call

abbrev pub due_slot : SlotWrite → ℕ → DueCall
due_slot write number = record { disk = write.disk; phase = Slots; number = number }

pub slot_made : {T E : Type 0} (result : Result T E) (mid new : Store) (write : SlotWrite) (number at : ℕ) (bytes : List ℕ) → is_ok result ≡ true
    → new.disks.starts ≡ mid.disks.starts → new.spaces ≡ mid.spaces → new.spans.stale ≡ mid.spans.stale → KeepsPlans mid new
    → new.disks.calls ≡ on write.disk (write_call result at bytes) ∷ mid.disks.calls
    → MadeOne mid new (due_slot write number) (write_call result at bytes) × (is_failed (write_call result at bytes) ≡ false)
slot_made (Ok x) mid new write number at bytes ok starts spaces stale plans calls =
    (record { starts = starts; calls = calls; spaces = spaces; stale = stale; plans = plans; is_due = refl; fault = refl; no_read = refl }, refl)
slot_made (Err x) mid new write number at bytes ok starts spaces stale plans calls = absurd (cc)

pub slot_lost : {T E : Type 0} (result : Result T E) (mid new : Store) (write : SlotWrite) (number at : ℕ) (bytes : List ℕ) → is_ok result ≡ false
    → new.disks.starts ≡ mid.disks.starts → new.spaces ≡ mid.spaces → new.spans.stale ≡ mid.spans.stale → KeepsPlans mid new
    → new.disks.calls ≡ on write.disk (write_call result at bytes) ∷ mid.disks.calls
    → MadeOne mid new (due_slot write number) (write_call result at bytes) × (is_failed (write_call result at bytes) ≡ true)
slot_lost (Err x) mid new write number at bytes ok starts spaces stale plans calls =
    (record { starts = starts; calls = calls; spaces = spaces; stale = stale; plans = plans; is_due = refl; fault = refl; no_read = refl }, refl)
slot_lost (Ok x) mid new write number at bytes ok starts spaces stale plans calls = absurd (cc)

-- ---- flushes change no byte

flush_touches : {T E : Type 0} (result : Result T E) (i : ℕ) → touches (flush_call result) i ≡ false
flush_touches (Ok x) i = refl
flush_touches (Err x) i = refl

pub flush_keeps : {T E : Type 0} (result : Result T E) (old mid new : Store) (disk : ℕ) → new.disks.starts ≡ mid.disks.starts
    → new.disks.calls ≡ on disk (flush_call result) ∷ mid.disks.calls → KeepsContent old mid → KeepsContent old new
flush_keeps result old mid new disk starts calls keeps which i =
    other_bytes_stay mid.disks new.disks disk (flush_call result) starts calls which i (inr (flush_touches result i)) ∙ keeps which i

-- ---- other slots

compared : (i j : ℕ) → (i < j) ⊎ ((j < i) ⊎ (i ≡ j))
compared i j = grind arith

length-slot : (u : Uberblock) → Fits u → length (slot_bytes u) ≡ 1024
unfolding spelled
length-slot u fits = length-spelled u fits

-- slots of one number in two labels share no byte
sides : (size label other slot : ℕ) → 4 * 262144 ≤ size → label < 4 → other < 4 → slot < 128 → label ≢ other
    → (slot_at size label slot + 1024 ≤ slot_at size other slot) ⊎ (slot_at size other slot + 1024 ≤ slot_at size label slot)
sides size label other slot room is is' in_ring apart = elim (compared label other) [
  | inl below ↦ inl (omega (arith, labels_apart size label other room below is', in_ring))
  | inr (inl above) ↦ inr (omega (arith, labels_apart size other label room above is, in_ring))
  | inr (inr same) ↦ absurd (apart same)
]

write_touches : {T E : Type 0} (result : Result T E) (at : ℕ) (bytes : List ℕ) (i : ℕ) → covers at (length bytes) i ≡ false → touches (write_call result at bytes) i ≡ false
write_touches (Ok x) at bytes i off = off
write_touches (Err x) at bytes i off = off

-- one slot was written, or its write failed: another one, on another disk or in another label, shows what it showed
another_stays : {T E : Type 0} (result : Result T E) (old new : Disks) (u : Uberblock) (write other : SlotWrite) → Fits u
    → (1048576 ≤ length (bytes_of old.starts write.disk)) → write.label < 4 → other.label < 4
    → new.starts ≡ old.starts → new.calls ≡ on write.disk (write_call result (place_of old.starts write u.group) (slot_bytes u)) ∷ old.calls
    → (other.disk ≢ write.disk) ⊎ ((other.disk ≡ write.disk) × (write.label ≢ other.label)) → ShowsIn old u other → ShowsIn new u other
another_stays result old new u write other fits room is is' starts calls (inl apart) shows i below =
    ap (λ (them : List (List ℕ)). content new other.disk (place_of them other u.group + i)) starts
    ∙ other_bytes_stay old new write.disk (write_call result (place_of old.starts write u.group) (slot_bytes u)) starts calls other.disk
    (place_of old.starts other u.group + i) (inl apart) ∙ shows i below
another_stays result old new u write other fits room is is' starts calls (inr (same, labels)) shows i below =
    let slot = slot_number u.group in
    let size = length (bytes_of old.starts write.disk) in
    let n : length (slot_bytes u) ≡ 1024 = length-slot u fits in
    let place : place_of old.starts other u.group ≡ slot_at size other.label slot = ap (λ (d : ℕ). slot_at (length (bytes_of old.starts d)) other.label slot) same in
    let off : covers (place_of old.starts write u.group) (length (slot_bytes u)) (place_of old.starts other u.group + i) ≡ false =
    ap (λ (m : ℕ). covers (place_of old.starts write u.group) m (place_of old.starts other u.group + i)) n
    ∙ ap (λ (p : ℕ). covers (slot_at size write.label slot) 1024 (p + i)) place
    ∙ apart_covers (slot_at size write.label slot) 1024 (slot_at size other.label slot) 1024
    (sides size write.label other.label slot (omega (arith, room)) is is' (omega arith) labels) i (omega (arith, n, below)) in
    ap (λ (them : List (List ℕ)). content new other.disk (place_of them other u.group + i)) starts
    ∙ other_bytes_stay old new write.disk (write_call result (place_of old.starts write u.group) (slot_bytes u)) starts calls other.disk
    (place_of old.starts other u.group + i) (inr (write_touches result (place_of old.starts write u.group) (slot_bytes u) (place_of old.starts other u.group + i) off)) ∙ shows i below

-- the slot that was written shows the uberblock
shows_now : {T E : Type 0} (result : Result T E) (old new : Disks) (u : Uberblock) (write : SlotWrite) → is_ok result ≡ true → new.starts ≡ old.starts
    → new.calls ≡ on write.disk (write_call result (place_of old.starts write u.group) (slot_bytes u)) ∷ old.calls → ShowsIn new u write
shows_now (Ok x) old new u write ok starts calls i below =
    ap (λ (them : List (List ℕ)). content new write.disk (place_of them write u.group + i)) starts
    ∙ written_bytes_stand old new write.disk (place_of old.starts write u.group) (slot_bytes u) starts calls i below
shows_now (Err x) old new u write ok starts calls i below = absurd (let no : false ≡ true = ok in cc)

same_write : (write other : SlotWrite) → other.disk ≡ write.disk → other.label ≡ write.label → write ≡ other
same_write write other disks labels = λ i. record { disk = sym disks i; label = sym labels i }

same_or_not : (i j : ℕ) → (i ≡ j) ⊎ (i ≢ j)
same_or_not i j = grind arith

-- the other slot is the same, or is on another disk, or in another label
apart_or_same : (write other : SlotWrite) → (write ≡ other) ⊎ ((other.disk ≢ write.disk) ⊎ ((other.disk ≡ write.disk) × (write.label ≢ other.label)))
apart_or_same write other = elim (same_or_not other.disk write.disk) [
  | inl disks ↦ elim (same_or_not write.label other.label) [
    | inl labels ↦ inl (same_write write other disks (sym labels))
    | inr labels ↦ inr (inr (disks, labels))
  ]
  | inr apart ↦ inr (inl apart)
]

pub none_moved : (store : Store) (u : Uberblock) (slots : List SlotWrite) → SlotsMove store store u slots slots
none_moved store u slots write label is = is

-- one slot is written
pub one_moved : {T E : Type 0} (result : Result T E) (old mid new : Store) (u : Uberblock) (slots rest : List SlotWrite) (write : SlotWrite) → Fits u
    → (1048576 ≤ length (bytes_of mid.disks.starts write.disk)) → write.label < 4 → is_ok result ≡ true → new.disks.starts ≡ mid.disks.starts
    → new.disks.calls ≡ on write.disk (write_call result (place_of mid.disks.starts write u.group) (slot_bytes u)) ∷ mid.disks.calls
    → SlotsMove old mid u slots (write ∷ rest) → SlotsMove old new u slots rest
one_moved result old mid new u slots rest write fits room is ok starts calls move other label before =
    let now : ShowsIn new.disks u write = shows_now result mid.disks new.disks u write ok starts calls in
    ⊎_elim
    (λ left. ⊎_elim (λ (same : other ≡ write). inr (subst (λ (w : SlotWrite). ShowsIn new.disks u w) (sym same) now)) inl (cases_in write rest other left))
    (λ shows. ⊎_elim (λ (same : write ≡ other). inr (subst (λ (w : SlotWrite). ShowsIn new.disks u w) same now))
    (λ apart. inr (another_stays result mid.disks new.disks u write other fits room is label starts calls apart shows)) (apart_or_same write other))
    (move other label before)

-- the write of one fails: those on other disks stay
pub one_moved_but : {T E : Type 0} (result : Result T E) (old mid new : Store) (u : Uberblock) (slots rest : List SlotWrite) (write : SlotWrite) → Fits u
    → (1048576 ≤ length (bytes_of mid.disks.starts write.disk)) → write.label < 4 → new.disks.starts ≡ mid.disks.starts
    → new.disks.calls ≡ on write.disk (write_call result (place_of mid.disks.starts write u.group) (slot_bytes u)) ∷ mid.disks.calls
    → SlotsMove old mid u slots (write ∷ rest) → SlotsMoveBut write.disk old new u slots rest
one_moved_but result old mid new u slots rest write fits room is starts calls move other label apart before =
    ⊎_elim
    (λ left. ⊎_elim (λ (same : other ≡ write). absurd (apart (ap (λ (w : SlotWrite). w.disk) same))) inl (cases_in write rest other left))
    (λ shows. inr (another_stays result mid.disks new.disks u write other fits room is label starts calls (inl apart) shows))
    (move other label before)

-- bytes that stay show what they showed
pub shows_still : (old new : Disks) (u : Uberblock) (write : SlotWrite) → new.starts ≡ old.starts → ((disk i : ℕ) → content new disk i ≡ content old disk i)
    → ShowsIn old u write → ShowsIn new u write
shows_still old new u write starts same shows i below =
    ap (λ (them : List (List ℕ)). content new write.disk (place_of them write u.group + i)) starts
    ∙ same write.disk (place_of old.starts write u.group + i) ∙ shows i below
