-- What writes and flushes leave.
use Rattle.std.proofs.Common.{◌≡◌, ◌⊎◌, inl, inr, ◌<◌, ◌≤◌, ◌∙◌, ℕ, ◌+◌, ◌%◌, Bool, List, ◌∷◌, length, get_or, Option, None, Result, Ok, Err, OnOk, false, refl, sym, ap, subst, arith}
use Rattle.uberblock_ring.specs.declared.uberblock.Uberblock.{Uberblock}
use Rattle.uberblock_ring.specs.Uberblock.{Fits}
use Rattle.uberblock_ring.specs.Slot.{slot_number}
use Rattle.model_disk.specs.Call.{Call, Wrote, Flushed, write_call, flush_call}
use Rattle.model_disk.specs.Contents.{covers}
use Rattle.model_disk.specs.Joint.{JointCall, Disks, on, bytes_of, calls_on, content}
use Rattle.model_disk.specs.Runs.{IsOff, IsWholeIn, IsSettled, Makes, no_write}
use Rattle.model_disk.proofs.JointLemmas.{calls_on-same, calls_on-other}
use Rattle.model_disk.proofs.LawLemmas.{written_bytes_stand}
use Rattle.model_disk.proofs.RunLemmas.{off_content, Makes-write, Makes-flush}
use Rattle.pool_slots.specs.Slots.{InUse, HaveLabels, MakesOn, is_disk, spelled, slot_at, IsSlot}
use Rattle.pool_slots.specs.Writes.{IsSlotWrite, InHalf, InTurn, first_half_of, in_use, in_half_of, on_disk, SlotStands, SlotsStand}
use Rattle.pool_slots.specs.declared.found.Found.{Found}
use Rattle.pool_slots.proofs.Places.{slots_apart, apart_covers, length-spelled, same_or_not}
use Rattle.pool_slots.proofs.Phases.{MakesOn-more, MakesOn-wider, settled_later}

-- ---- one call

alone_one : (old new : Disks) (which : ℕ) (call : Call) → new.calls ≡ on which call ∷ old.calls → (other : ℕ) → ¬ is_disk which other
    → calls_on other new.calls ≡ calls_on other old.calls
alone_one old new which call calls other apart = ap (calls_on other) calls ∙ calls_on-other which other call old.calls apart

pub MakesOn-write : {T E : Type 0} (r : Result T E) (may : ℕ → ℕ → List ℕ → Type 0) (old new : Disks) (which at : ℕ) (bytes : List ℕ) → new.starts ≡ old.starts
    → new.calls ≡ on which (write_call r at bytes) ∷ old.calls → may which at bytes → MakesOn (is_disk which) may old new
MakesOn-write r may old new which at bytes starts calls is =
    record { makes = Makes-write r may old new which at bytes starts calls is; alone = alone_one old new which (write_call r at bytes) calls }

pub on_used : (out : List Bool) (which : ℕ) → InUse out which → (other : ℕ) → is_disk which other → InUse out other
on_used out which used other same = let P : ℕ → Type 0 = InUse out in subst P (sym same) used

-- ---- flushes

pub flush_makes : {T E : Type 0} (r : Result T E) (out : List Bool) (old new : Disks) (which : ℕ) → InUse out which → new.starts ≡ old.starts
    → new.calls ≡ on which (flush_call r) ∷ old.calls → MakesOn (InUse out) no_write old new
flush_makes r out old new which used starts calls =
    let one : MakesOn (is_disk which) no_write old new =
    record { makes = Makes-flush r no_write old new which starts calls; alone = alone_one old new which (flush_call r) calls } in
    MakesOn-wider (is_disk which) (InUse out) no_write no_write old new (on_used out which used) (λ w at bytes it. it) one

pub flush_settles : (old new : Disks) (which : ℕ) → new.calls ≡ on which Flushed ∷ old.calls → IsSettled (calls_on which new.calls)
flush_settles old new which calls =
    let P : List JointCall → Type 0 = λ them. IsSettled (calls_on which them) in
    let R : List Call → Type 0 = IsSettled in
    subst P (sym calls) (subst R (sym (calls_on-same which Flushed old.calls)) (λ i. refl))

pub flush_gives : {T E : Type 0} (r : Result T E) (out : List Bool) (old new : Disks) (which : ℕ) → new.calls ≡ on which (flush_call r) ∷ old.calls
    → OnOk r (InUse out which → IsSettled (calls_on which new.calls))
flush_gives (Ok x) out old new which calls = λ used. flush_settles old new which calls
flush_gives (Err e) out old new which calls = tt

-- the disks in use below this number are settled
abbrev pub AreSettledBelow : List Bool → List JointCall → ℕ → Type 0
AreSettledBelow out calls count = (which : ℕ) → InUse out which → which < count → IsSettled (calls_on which calls)

pub settled_next : (out : List Bool) (old new : Disks) (which : ℕ) → Makes no_write old new → (InUse out which → IsSettled (calls_on which new.calls))
    → AreSettledBelow out old.calls which → AreSettledBelow out new.calls (which + 1)
settled_next out old new which makes one before d used below =
    elim (same_or_not d which) [
      | inl same ↦
          let P : ℕ → Type 0 = λ w. IsSettled (calls_on w new.calls) in
          let Q : ℕ → Type 0 = InUse out in
          subst P (sym same) (one (subst Q same used))
      | inr apart ↦ settled_later old new d makes (before d used (omega (arith, below, apart)))
    ]

-- ---- slots

pub slot_number_small : (u : Uberblock) → slot_number u.group < 128
slot_number_small u = omega arith

-- the place of a write of slots, with all that is known of it
slot_write_off : (starts : List (List ℕ)) (u : Uberblock) (d label slot label' i : ℕ) → 1048576 ≤ length (bytes_of starts d) → IsSlot label slot → label' < 4
    → ¬ ((label' ≡ label) × (slot_number u.group ≡ slot)) → i < 1024
    → covers (slot_at (length (bytes_of starts d)) label' (slot_number u.group)) 1024 (slot_at (length (bytes_of starts d)) label slot + i) ≡ false
slot_write_off starts u d label slot label' i room is is' apart below =
    let size = length (bytes_of starts d) in
    let there : IsSlot label' (slot_number u.group) = record { is_label = is'; in_ring = slot_number_small u } in
    elim (slots_apart size label' (slot_number u.group) label slot (omega arith) there is) [
      | inl same ↦ absurd (apart same)
      | inr sides ↦ apart_covers (slot_at size label' (slot_number u.group)) 1024 (slot_at size label slot) 1024 sides i below
    ]

pub off_slot_writes : (starts : List (List ℕ)) (u : Uberblock) (picks : ℕ → ℕ → Type 0) (d label slot : ℕ) → Fits u → 1048576 ≤ length (bytes_of starts d) → IsSlot label slot
    → ((label' : ℕ) → label' < 4 → picks d label' → ¬ ((label' ≡ label) × (slot_number u.group ≡ slot)))
    → (i : ℕ) → i < 1024 → IsOff (IsSlotWrite starts u picks d) (slot_at (length (bytes_of starts d)) label slot + i)
off_slot_writes starts u picks d label slot fits room is apart i below at bytes write =
    let e : covers at (length bytes) (slot_at (length (bytes_of starts d)) label slot + i) ≡ covers (slot_at (length (bytes_of starts d)) write.label (slot_number u.group)) 1024 (slot_at (length (bytes_of starts d)) label slot + i) =
    ap (λ (place : ℕ). covers place (length bytes) (slot_at (length (bytes_of starts d)) label slot + i)) write.place
    ∙ ap (λ (n : ℕ). covers (slot_at (length (bytes_of starts d)) write.label (slot_number u.group)) n (slot_at (length (bytes_of starts d)) label slot + i)) (ap length write.spells ∙ length-spelled u fits) in
    e ∙ slot_write_off starts u d label slot write.label i room is write.is_label (apart write.label write.is_label write.picked) below

pub whole_slot_writes : (starts : List (List ℕ)) (u : Uberblock) (picks : ℕ → ℕ → Type 0) (d label slot : ℕ) → Fits u → 1048576 ≤ length (bytes_of starts d) → IsSlot label slot
    → IsWholeIn (IsSlotWrite starts u picks d) (slot_at (length (bytes_of starts d)) label slot) 1024
whole_slot_writes starts u picks d label slot fits room is to written write =
    let size = length (bytes_of starts d) in
    let there : IsSlot write.label (slot_number u.group) = record { is_label = write.is_label; in_ring = slot_number_small u } in
    let len : length written ≡ 1024 = ap length write.spells ∙ length-spelled u fits in
    elim (slots_apart size write.label (slot_number u.group) label slot (omega arith) there is) [
      | inl same ↦ inl (write.place ∙ ap (λ (l : ℕ). slot_at size l (slot_number u.group)) same.0 ∙ ap (λ (s : ℕ). slot_at size label s) same.1, len)
      | inr sides ↦ inr (λ i below.
          ap (λ (place : ℕ). covers place (length written) (slot_at size label slot + i)) write.place
          ∙ ap (λ (n : ℕ). covers (slot_at size write.label (slot_number u.group)) n (slot_at size label slot + i)) len
          ∙ apart_covers (slot_at size write.label (slot_number u.group)) 1024 (slot_at size label slot) 1024 sides i below)
    ]

-- an uberblock's slot in a label that isn't picked stays
pub stays_through : (starts : List (List ℕ)) (u : Uberblock) (picks : ℕ → ℕ → Type 0) (old new : Disks) (d label : ℕ) → HaveLabels starts → Fits u → d < length starts → label < 4
    → Makes (IsSlotWrite starts u picks) old new → ¬ picks d label → SlotStands (content old) starts u d label → SlotStands (content new) starts u d label
stays_through starts u picks old new d label room fits below is makes unpicked stands i inside =
    let there : IsSlot label (slot_number u.group) = record { is_label = is; in_ring = slot_number_small u } in
    off_content (IsSlotWrite starts u picks) old new d (slot_at (length (bytes_of starts d)) label (slot_number u.group) + i) makes
    (off_slot_writes starts u picks d label (slot_number u.group) fits (room d below) there
    (λ label' is' picked same. let P : ℕ → Type 0 = λ l. picks d l in unpicked (subst P same.0 picked)) i (omega (arith, length-spelled u fits)))
    ∙ stands i inside

pub stands_written : (starts : List (List ℕ)) (u : Uberblock) (old new : Disks) (which label : ℕ) → new.starts ≡ old.starts
    → new.calls ≡ on which (Wrote (slot_at (length (bytes_of starts which)) label (slot_number u.group)) (spelled u)) ∷ old.calls
    → SlotStands (content new) starts u which label
stands_written starts u old new which label same calls = written_bytes_stand old new which (slot_at (length (bytes_of starts which)) label (slot_number u.group)) (spelled u) same calls

-- one write of a slot
abbrev pub just : ℕ → ℕ → ℕ → ℕ → Type 0
just disk label which other = (which ≡ disk) × (other ≡ label)

pub makes_slot : {T E : Type 0} (r : Result T E) (starts : List (List ℕ)) (u : Uberblock) (picks : ℕ → ℕ → Type 0) (old new : Disks) (which label : ℕ) → label < 4 → picks which label → new.starts ≡ old.starts
    → new.calls ≡ on which (write_call r (slot_at (length (bytes_of starts which)) label (slot_number u.group)) (spelled u)) ∷ old.calls
    → MakesOn (is_disk which) (IsSlotWrite starts u picks) old new
makes_slot r starts u picks old new which label is picked same calls =
    MakesOn-write r (IsSlotWrite starts u picks) old new which (slot_at (length (bytes_of starts which)) label (slot_number u.group)) (spelled u) same calls
    (record { label = label; is_label = is; picked = picked; place = refl; spells = refl })

pub slot_writes_more : (starts : List (List ℕ)) (u : Uberblock) (picks also : ℕ → ℕ → Type 0) → ((which label : ℕ) → picks which label → also which label)
    → (which at : ℕ) (bytes : List ℕ) → IsSlotWrite starts u picks which at bytes → IsSlotWrite starts u also which at bytes
slot_writes_more starts u picks also more which at bytes write =
    record { label = write.label; is_label = write.is_label; picked = more which write.label write.picked; place = write.place; spells = write.spells }

pub more_picked : (used others : ℕ → Type 0) (starts : List (List ℕ)) (u : Uberblock) (picks also : ℕ → ℕ → Type 0) (old new : Disks) → ((which : ℕ) → used which → others which)
    → ((which label : ℕ) → picks which label → also which label) → MakesOn used (IsSlotWrite starts u picks) old new → MakesOn others (IsSlotWrite starts u also) old new
more_picked used others starts u picks also old new wider more makes =
    MakesOn-wider used others (IsSlotWrite starts u picks) (IsSlotWrite starts u also) old new wider (slot_writes_more starts u picks also more) makes

-- the two writes of a half
pub half_stands : {E : Type 0} (r : Result (Unit {0}) E) (starts : List (List ℕ)) (u : Uberblock) (old mid new : Disks) (which half : ℕ) → HaveLabels starts → Fits u → which < length starts → half < 2
    → mid.starts ≡ old.starts → new.starts ≡ mid.starts
    → mid.calls ≡ on which (Wrote (slot_at (length (bytes_of starts which)) half (slot_number u.group)) (spelled u)) ∷ old.calls
    → new.calls ≡ on which (write_call r (slot_at (length (bytes_of starts which)) (half + 2) (slot_number u.group)) (spelled u)) ∷ mid.calls
    → OnOk r (SlotsStand (content new) starts u (in_half_of which half) (length starts))
half_stands (Err e) starts u old mid new which half room fits below is same same' calls calls' = tt
half_stands {E} (Ok x) starts u old mid new which half room fits below is same same' calls calls' = λ d label inside is_label picked.
    let P : ℕ → Type 0 = λ w. SlotStands (content new) starts u w label in
    let first : SlotStands (content mid) starts u which half = stands_written starts u old mid which half same calls in
    let ok : Result (Unit {0}) E = Ok tt in
    let makes : MakesOn (is_disk which) (IsSlotWrite starts u (just which (half + 2))) mid new = makes_slot ok starts u (just which (half + 2)) mid new which (half + 2) (omega arith) (refl, refl) same' calls' in
    let kept : SlotStands (content new) starts u which half = stays_through starts u (just which (half + 2)) mid new which half room fits below (omega arith) makes.makes (λ it. absurd (omega (arith, it.1))) first in
    let second : SlotStands (content new) starts u which (half + 2) = stands_written starts u mid new which (half + 2) same' calls' in
    let Q : ℕ → Type 0 = λ l. SlotStands (content new) starts u which l in
    subst P (sym picked.0) (elim picked.1 [ inl lower ↦ subst Q (sym lower) kept | inr upper ↦ subst Q (sym upper) second ])

pub half_makes : {T E F : Type 0} (r : Result T E) (r' : Result T F) (u : Uberblock) (old mid new : Disks) (which half : ℕ) → half < 2
    → mid.starts ≡ old.starts → new.starts ≡ mid.starts
    → mid.calls ≡ on which (write_call r (slot_at (length (bytes_of old.starts which)) half (slot_number u.group)) (spelled u)) ∷ old.calls
    → new.calls ≡ on which (write_call r' (slot_at (length (bytes_of mid.starts which)) (half + 2) (slot_number u.group)) (spelled u)) ∷ mid.calls
    → MakesOn (is_disk which) (IsSlotWrite old.starts u (in_half_of which half)) old new
half_makes r r' u old mid new which half is same same' calls calls' =
    let P : List (List ℕ) → Type 0 = λ starts. new.calls ≡ on which (write_call r' (slot_at (length (bytes_of starts which)) (half + 2) (slot_number u.group)) (spelled u)) ∷ mid.calls in
    MakesOn-more (is_disk which) (IsSlotWrite old.starts u (in_half_of which half)) old mid new
    (makes_slot r old.starts u (in_half_of which half) old mid which half (omega arith) (refl, inl refl) same calls)
    (makes_slot r' old.starts u (in_half_of which half) mid new which (half + 2) (omega arith) (refl, inr refl) same' (subst P same calls'))

pub label_half : (label : ℕ) → label < 4 → InHalf 0 label ⊎ InHalf 1 label
label_half label is = grind arith

pub not_both : (label : ℕ) → InHalf 0 label → InHalf 1 label → ⊥
not_both label (inl a) (inl b) = omega arith
not_both label (inl a) (inr b) = omega arith
not_both label (inr a) (inl b) = omega arith
not_both label (inr a) (inr b) = omega arith

-- the same writes, of disks that began as these
pub same_starts : (used : ℕ → Type 0) (starts others : List (List ℕ)) (u : Uberblock) (picks : ℕ → ℕ → Type 0) (old new : Disks) → others ≡ starts
    → MakesOn used (IsSlotWrite others u picks) old new → MakesOn used (IsSlotWrite starts u picks) old new
same_starts used starts others u picks old new same makes =
    let P : List (List ℕ) → Type 0 = λ s. MakesOn used (IsSlotWrite s u picks) old new in
    subst P same makes

pub first_half : (out : List Bool) (old mid : Disks) (u : Uberblock) (which : ℕ) → InUse out which
    → MakesOn (is_disk which) (IsSlotWrite old.starts u (in_half_of which 0)) old mid → MakesOn (InUse out) (IsSlotWrite old.starts u (on_disk which (in_use out))) old mid
first_half out old mid u which used makes =
    more_picked (is_disk which) (InUse out) old.starts u (in_half_of which 0) (on_disk which (in_use out)) old mid (on_used out which used)
    (λ w l it. (it.0, on_used out which used w it.0)) makes

both_stand : (old mid new : Disks) (out : List Bool) (u : Uberblock) (which : ℕ) → HaveLabels old.starts → Fits u → which < length old.starts → mid.starts ≡ old.starts
    → SlotsStand (content mid) old.starts u (in_half_of which 0) (length old.starts)
    → MakesOn (is_disk which) (IsSlotWrite mid.starts u (in_half_of which 1)) mid new → SlotsStand (content new) mid.starts u (in_half_of which 1) (length mid.starts)
    → SlotsStand (content new) old.starts u (on_disk which (in_use out)) (length old.starts)
both_stand old mid new out u which room fits inside same stand makes' stand' d label below is picked =
    let m1 = same_starts (is_disk which) old.starts mid.starts u (in_half_of which 1) mid new same makes' in
    let Q : List (List ℕ) → Type 0 = λ s. SlotsStand (content new) s u (in_half_of which 1) (length s) in
    let h1 = subst Q same stand' in
    let R : ℕ → Type 0 = λ w. SlotStands (content new) old.starts u w label in
    subst R (sym picked.0) (elim (label_half label is) [
      | inl even ↦ stays_through old.starts u (in_half_of which 1) mid new which label room fits inside is m1.makes (λ it. not_both label even it.1) (stand which label inside is (refl, even))
      | inr odd ↦ h1 which label inside is (refl, odd)
    ])

-- ---- disk by disk

pub record AreMade (first new : Disks) (used : ℕ → Type 0) (u : Uberblock) (picks : ℕ → ℕ → Type 0) (count : ℕ) : Type 0 where
  pub makes : MakesOn used (IsSlotWrite first.starts u picks) first new
  pub stand : SlotsStand (content new) first.starts u picks count

pub made_more : (first loop new : Disks) (used : ℕ → Type 0) (u : Uberblock) (picks : ℕ → ℕ → Type 0) (which : ℕ) → MakesOn used (IsSlotWrite first.starts u picks) first loop
    → MakesOn used (IsSlotWrite loop.starts u (on_disk which picks)) loop new → MakesOn used (IsSlotWrite first.starts u picks) first new
made_more first loop new used u picks which before makes =
    MakesOn-more used (IsSlotWrite first.starts u picks) first loop new before
    (more_picked used used first.starts u (on_disk which picks) picks loop new (λ w it. it) (λ w l it. it.1)
    (same_starts used first.starts loop.starts u (on_disk which picks) loop new before.makes.starts makes))

-- what is picked on one more disk
pub made_next : (first loop new : Disks) (used : ℕ → Type 0) (u : Uberblock) (picks : ℕ → ℕ → Type 0) (which : ℕ) → HaveLabels first.starts → Fits u → which < length first.starts
    → AreMade first loop used u picks which
    → MakesOn used (IsSlotWrite loop.starts u (on_disk which picks)) loop new → SlotsStand (content new) loop.starts u (on_disk which picks) (length loop.starts)
    → AreMade first new used u picks (which + 1)
made_next first loop new used u picks which room fits inside before makes stand =
    let s0 : loop.starts ≡ first.starts = before.makes.makes.starts in
    let m0 = same_starts used first.starts loop.starts u (on_disk which picks) loop new s0 makes in
    let P : List (List ℕ) → Type 0 = λ s. SlotsStand (content new) s u (on_disk which picks) (length s) in
    let h0 = subst P s0 stand in
    record {
      makes = made_more first loop new used u picks which before.makes makes;
      stand = λ d label below is picked.
          elim (same_or_not d which) [
            | inl same ↦ h0 d label (omega (arith, same, inside)) is (same, picked)
            | inr apart ↦
                let there : d < length first.starts = omega (arith, below, inside) in
                stays_through first.starts u (on_disk which picks) loop new d label room fits there is m0.makes (λ it. apart it.0) (before.stand d label (omega (arith, below, apart)) is picked)
          ];
    }

-- ---- the half whose turn it is

pub turn_made : (out : List Bool) (all : List (Option Found)) (turn which half : ℕ) (old new : Disks) (u : Uberblock) → InUse out which
    → half ≡ (first_half_of (get_or all which None) + turn) % 2 → MakesOn (is_disk which) (IsSlotWrite old.starts u (in_half_of which half)) old new
    → MakesOn (InUse out) (IsSlotWrite old.starts u (on_disk which (InTurn out all turn))) old new
turn_made out all turn which half old new u used same makes =
    more_picked (is_disk which) (InUse out) old.starts u (in_half_of which half) (on_disk which (InTurn out all turn)) old new (on_used out which used)
    (λ w l it.
    let P : ℕ → Type 0 = λ d. InHalf ((first_half_of (get_or all d None) + turn) % 2) l in
    let Q : ℕ → Type 0 = λ h. InHalf h l in
    (it.0, record { used = on_used out which used w it.0; half = subst P (sym it.0) (subst Q same it.1) })) makes

pub turn_stands : {T E : Type 0} (r : Result T E) (out : List Bool) (all : List (Option Found)) (turn which half : ℕ) (old new : Disks) (u : Uberblock)
    → half ≡ (first_half_of (get_or all which None) + turn) % 2 → OnOk r (SlotsStand (content new) old.starts u (in_half_of which half) (length old.starts))
    → OnOk r (SlotsStand (content new) old.starts u (on_disk which (InTurn out all turn)) (length old.starts))
turn_stands (Err e) out all turn which half old new u same stand = tt
turn_stands (Ok x) out all turn which half old new u same stand = λ d label below is picked.
    let P : ℕ → Type 0 = λ w. InHalf ((first_half_of (get_or all w None) + turn) % 2) label in
    let Q : ℕ → Type 0 = λ h. InHalf h label in
    stand d label below is (picked.0, subst Q (sym same) (subst P picked.0 picked.1.half))
