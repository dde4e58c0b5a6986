-- Writes of labels: what they leave.
use Rattle.std.proofs.Common.{◌≡◌, ◌⊎◌, inl, inr, ◌<◌, ◌≤◌, ◌∙◌, ℕ, ◌+◌, ◌*◌, Bool, true, false, List, ◌∷◌, length, slice_get, get_or, Option, Some, None, Result, Ok, Err, OnOk, refl, sym, ap, subst, arith}
use Rattle.std.proofs.lemmas.Option.{slice_get-get_or}
use Rattle.std.proofs.lemmas.Bool.{cases_lt}
use Rattle.uberblock_ring.specs.declared.uberblock.Uberblock.{Uberblock}
use Rattle.uberblock_ring.specs.Uberblock.{Fits}
use Rattle.uberblock_ring.specs.Slot.{slot_number}
use Rattle.model_disk.specs.Call.{write_call}
use Rattle.model_disk.specs.Contents.{covers}
use Rattle.model_disk.specs.Joint.{Disks, on, bytes_of, content}
use Rattle.model_disk.specs.Runs.{IsOff, Makes, no_write}
use Rattle.model_disk.proofs.ContentsLemmas.{covers-outside}
use Rattle.model_disk.proofs.LawLemmas.{written_bytes_stand}
use Rattle.model_disk.proofs.RunLemmas.{off_content}
use Rattle.vdev_label.specs.Place.{label_at}
use Rattle.pool_slots.specs.Commits.{AreOffLabels}
use Rattle.pool_slots.specs.Labels.{AreWhole, AreasOn, AreasStand, InAreaTurn, IsAreaWrite, IsPicked, area_place, copies, of_disk, of_label, turn_of}
use Rattle.pool_slots.specs.Phases.{IsRelabel}
use Rattle.pool_slots.specs.Possible.{Possible, Trees, Leads}
use Rattle.pool_slots.specs.Slots.{AreThere, InUse, HaveLabels, IsSlot, MakesOn, is_disk, slot_at}
use Rattle.pool_slots.specs.Writes.{IsSlotWrite}
use Rattle.pool_slots.specs.declared.labeled.Area.{Area}
use Rattle.pool_slots.specs.declared.labeled.Pick.{Pick}
use Rattle.pool_slots.proofs.Phases.{IsPhase, MakesOn-more, MakesOn-wider, none_same}
use Rattle.pool_slots.proofs.Places.{apart_covers, labels_apart, length-spelled}
use Rattle.pool_slots.proofs.Writing.{MakesOn-write, on_used, slot_number_small}

-- ---- where areas lie

ordered : (i j : ℕ) → (i < j) ⊎ ((j < i) ⊎ (i ≡ j))
ordered i j = grind arith

pub areas_apart : (size n m : ℕ) → 4 * 262144 ≤ size → n < 4 → m < 4 → ¬ (n ≡ m) → (area_place size n + 114688 ≤ area_place size m) ⊎ (area_place size m + 114688 ≤ area_place size n)
unfolding area_place
areas_apart size n m room is is' other =
    elim (ordered n m) [
      | inl below ↦ inl (omega (arith, labels_apart size n m room below is'))
      | inr (inl above) ↦ inr (omega (arith, labels_apart size m n room above is))
      | inr (inr same) ↦ absurd (other same)
    ]

pub area_off_slot : (size number label slot : ℕ) → 4 * 262144 ≤ size → number < 4 → IsSlot label slot
    → (area_place size number + 114688 ≤ slot_at size label slot) ⊎ (slot_at size label slot + 1024 ≤ area_place size number)
unfolding area_place slot_at
area_off_slot size number label slot room is is' =
    elim (ordered number label) [
      | inl below ↦ inl (omega (arith, labels_apart size number label room below is'.is_label))
      | inr (inl above) ↦ inr (omega (arith, labels_apart size label number room above is, is'.in_ring))
      | inr (inr same) ↦ inl (omega (arith, ap (label_at size) same))
    ]

pub area_in_label : (size number : ℕ) → (label_at size number ≤ area_place size number) × (area_place size number + 114688 ≤ label_at size number + 262144)
unfolding area_place
area_in_label size number = (omega arith, omega arith)

-- ---- where a label that is written anew lies

pub relabel_covers : (starts : List (List ℕ)) (d at i : ℕ) (bytes : List ℕ) (it : IsRelabel starts d at bytes)
    → covers at (length bytes) i ≡ covers (area_place (length (bytes_of starts d)) it.number) 114688 i
relabel_covers starts d at i bytes it =
    ap (λ (place : ℕ). covers place (length bytes) i) it.place ∙ ap (λ (n : ℕ). covers (area_place (length (bytes_of starts d)) it.number) n i) it.whole

pub relabel_off_area : (starts : List (List ℕ)) (d at number i : ℕ) (bytes : List ℕ) (it : IsRelabel starts d at bytes) → 1048576 ≤ length (bytes_of starts d) → number < 4 → ¬ (it.number ≡ number)
    → i < 114688 → covers at (length bytes) (area_place (length (bytes_of starts d)) number + i) ≡ false
relabel_off_area starts d at number i bytes it room is other below =
    let size = length (bytes_of starts d) in
    relabel_covers starts d at (area_place size number + i) bytes it
    ∙ apart_covers (area_place size it.number) 114688 (area_place size number) 114688 (areas_apart size it.number number (omega (arith, room)) it.is_label is other) i below

pub relabel_off_slot : (starts : List (List ℕ)) (d at label slot i : ℕ) (bytes : List ℕ) (it : IsRelabel starts d at bytes) → 1048576 ≤ length (bytes_of starts d) → IsSlot label slot → i < 1024
    → covers at (length bytes) (slot_at (length (bytes_of starts d)) label slot + i) ≡ false
relabel_off_slot starts d at label slot i bytes it room is below =
    let size = length (bytes_of starts d) in
    relabel_covers starts d at (slot_at size label slot + i) bytes it
    ∙ apart_covers (area_place size it.number) 114688 (slot_at size label slot) 1024 (area_off_slot size it.number label slot (omega (arith, room)) it.is_label is) i below

abbrev pub area_relabels : (starts : List (List ℕ)) (picks : ℕ → ℕ → List ℕ → Type 0) (which at : ℕ) (bytes : List ℕ) → AreWhole picks → IsAreaWrite starts picks which at bytes
    → IsRelabel starts which at bytes
area_relabels starts picks which at bytes whole it = record { number = it.number; is_label = it.is_label; place = it.place; whole = whole which it.number bytes it.picked }

-- ---- what a write of a label has no byte of

pub off_area_writes : (starts : List (List ℕ)) (picks : ℕ → ℕ → List ℕ → Type 0) (d number : ℕ) → AreWhole picks → 1048576 ≤ length (bytes_of starts d) → number < 4
    → ((n : ℕ) (b : List ℕ) → picks d n b → ¬ (n ≡ number)) → (i : ℕ) → i < 114688 → IsOff (IsAreaWrite starts picks d) (area_place (length (bytes_of starts d)) number + i)
off_area_writes starts picks d number whole room is apart i below at bytes write =
    relabel_off_area starts d at number i bytes (area_relabels starts picks d at bytes whole write) room is (apart write.number bytes write.picked) below

pub off_slot_of_areas : (starts : List (List ℕ)) (picks : ℕ → ℕ → List ℕ → Type 0) (d label slot : ℕ) → AreWhole picks → 1048576 ≤ length (bytes_of starts d) → IsSlot label slot
    → (i : ℕ) → i < 1024 → IsOff (IsAreaWrite starts picks d) (slot_at (length (bytes_of starts d)) label slot + i)
off_slot_of_areas starts picks d label slot whole room is i below at bytes write =
    relabel_off_slot starts d at label slot i bytes (area_relabels starts picks d at bytes whole write) room is below

-- a tree's byte is in no label
pub off_tree_of_areas : (trees : Trees) (out : List Bool) (starts : List (List ℕ)) (picks : ℕ → ℕ → List ℕ → Type 0) (v : Uberblock) (d i value : ℕ) → AreWhole picks
    → AreOffLabels trees out starts → InUse out d → trees v.root d i ≡ Some value → IsOff (IsAreaWrite starts picks d) i
off_tree_of_areas trees out starts picks v d i value whole off used is at bytes write =
    let size = length (bytes_of starts d) in
    let in_label = area_in_label size write.number in
    let sides : (i < area_place size write.number) ⊎ (area_place size write.number + 114688 ≤ i) =
    elim (off v.root d i value used is write.number write.is_label) [ inl before ↦ inl (omega (arith, before, in_label.0)) | inr after ↦ inr (omega (arith, after, in_label.1)) ] in
    relabel_covers starts d at i bytes (area_relabels starts picks d at bytes whole write) ∙ covers-outside (area_place size write.number) 114688 i sides

-- a write of a slot has no byte of a label's area
pub off_area_of_slots : (starts : List (List ℕ)) (u : Uberblock) (picks : ℕ → ℕ → Type 0) (d number : ℕ) → Fits u → 1048576 ≤ length (bytes_of starts d) → number < 4
    → (i : ℕ) → i < 114688 → IsOff (IsSlotWrite starts u picks d) (area_place (length (bytes_of starts d)) number + i)
off_area_of_slots starts u picks d number fits room is i below at bytes write =
    let size = length (bytes_of starts d) in
    let there : IsSlot write.label (slot_number u.group) = record { is_label = write.is_label; in_ring = slot_number_small u } in
    let sides = area_off_slot size number write.label (slot_number u.group) (omega (arith, room)) is there in
    ap (λ (place : ℕ). covers place (length bytes) (area_place size number + i)) write.place
    ∙ ap (λ (n : ℕ). covers (slot_at size write.label (slot_number u.group)) n (area_place size number + i)) (ap length write.spells ∙ length-spelled u fits)
    ∙ apart_covers (slot_at size write.label (slot_number u.group)) 1024 (area_place size number) 114688 (elim sides [ inl before ↦ inr before | inr after ↦ inl after ]) i below

-- ---- a phase that writes labels

pub area_phase : (trees : Trees) (out : List Bool) (disks : Disks) (p : Possible) (picks : ℕ → ℕ → List ℕ → Type 0) → AreThere out disks.starts → HaveLabels disks.starts
    → AreWhole picks → AreOffLabels trees out disks.starts → Leads trees out disks.starts (content disks) p → IsPhase trees out disks (IsAreaWrite disks.starts picks) p
area_phase trees out disks p picks there room whole off_labels leads =
    record {
      whole = λ which label slot used is to written write. inr (λ i inside. off_slot_of_areas disks.starts picks which label slot whole (room which (there which used)) is i inside to written write);
      off = λ v possible which i value used is. off_tree_of_areas trees out disks.starts picks v which i value whole off_labels used is;
      written = λ which label slot w used is fits write. absurd (omega (arith, length-spelled w fits, whole which write.number _ write.picked));
      safe = λ which used.
          let top = (leads which used).top in
          record { top = top; off = λ i inside. off_slot_of_areas disks.starts picks which top.label top.slot whole (room which (there which used)) top.is_slot i inside };
    }

-- ---- what stands

pub makes_area : {T E : Type 0} (r : Result T E) (starts : List (List ℕ)) (picks : ℕ → ℕ → List ℕ → Type 0) (old new : Disks) (which number : ℕ) (bytes : List ℕ) → number < 4
    → picks which number bytes → new.starts ≡ old.starts → new.calls ≡ on which (write_call r (area_place (length (bytes_of starts which)) number) bytes) ∷ old.calls
    → MakesOn (is_disk which) (IsAreaWrite starts picks) old new
makes_area r starts picks old new which number bytes is picked same calls =
    MakesOn-write r (IsAreaWrite starts picks) old new which (area_place (length (bytes_of starts which)) number) bytes same calls
    (record { number = number; is_label = is; picked = picked; place = refl })

-- more labels are picked, on more disks
pub wider : (used others : ℕ → Type 0) (starts : List (List ℕ)) (picks also : ℕ → ℕ → List ℕ → Type 0) (old new : Disks) → ((which : ℕ) → used which → others which)
    → ((which number : ℕ) (bytes : List ℕ) → picks which number bytes → also which number bytes) → MakesOn used (IsAreaWrite starts picks) old new → MakesOn others (IsAreaWrite starts also) old new
wider used others starts picks also old new wide more makes =
    MakesOn-wider used others (IsAreaWrite starts picks) (IsAreaWrite starts also) old new wide
    (λ which at bytes write. record { number = write.number; is_label = write.is_label; picked = more which write.number bytes write.picked; place = write.place }) makes

pub stand_flushed : (wrote new : Disks) (starts : List (List ℕ)) (picks : ℕ → ℕ → List ℕ → Type 0) → Makes no_write wrote new → AreasStand (content wrote) starts picks
    → AreasStand (content new) starts picks
stand_flushed wrote new starts picks flush stand which number bytes is picked i below = none_same wrote new which _ flush ∙ stand which number bytes is picked i below

-- ---- label by label, and disk by disk

-- of what is picked, that of one index, which is a label's number or a disk's
abbrev pub at_index : (ℕ → ℕ → ℕ) → ℕ → (ℕ → ℕ → List ℕ → Type 0) → ℕ → ℕ → List ℕ → Type 0
at_index index k picks which number bytes = (index which number ≡ k) × picks which number bytes

-- and that of the indices below it
abbrev pub below_index : (ℕ → ℕ → ℕ) → ℕ → (ℕ → ℕ → List ℕ → Type 0) → ℕ → ℕ → List ℕ → Type 0
below_index index k picks which number bytes = (index which number < k) × picks which number bytes

abbrev pub by_disk : ℕ → ℕ → ℕ
by_disk which number = which

abbrev pub by_label : ℕ → ℕ → ℕ
by_label which number = number

less_or_same : (n k : ℕ) → n < k + 1 → (n < k) ⊎ (n ≡ k)
less_or_same n k below = elim (cases_lt n k) [ inl less ↦ inl less | inr more ↦ inr (omega (arith, below, more)) ]

pub made_next : (index : ℕ → ℕ → ℕ) (k : ℕ) (used : ℕ → Type 0) (picks : ℕ → ℕ → List ℕ → Type 0) (first loop new : Disks) → MakesOn used (IsAreaWrite first.starts picks) first loop
    → MakesOn used (IsAreaWrite loop.starts (at_index index k picks)) loop new → MakesOn used (IsAreaWrite first.starts picks) first new
made_next index k used picks first loop new before makes =
    let P : List (List ℕ) → Type 0 = λ starts. MakesOn used (IsAreaWrite starts (at_index index k picks)) loop new in
    MakesOn-more used (IsAreaWrite first.starts picks) first loop new before
    (wider used used first.starts (at_index index k picks) picks loop new (λ w it. it) (λ w n b it. it.1) (subst P before.makes.starts makes))

pub stand_next : (index : ℕ → ℕ → ℕ) (k : ℕ) (used : ℕ → Type 0) (picks : ℕ → ℕ → List ℕ → Type 0) (first loop new : Disks) → AreWhole picks
    → ((which number : ℕ) (bytes : List ℕ) → picks which number bytes → 1048576 ≤ length (bytes_of first.starts which)) → MakesOn used (IsAreaWrite first.starts picks) first loop
    → AreasStand (content loop) first.starts (below_index index k picks) → MakesOn used (IsAreaWrite loop.starts (at_index index k picks)) loop new
    → AreasStand (content new) loop.starts (at_index index k picks) → AreasStand (content new) first.starts (below_index index (k + 1) picks)
stand_next index k used picks first loop new whole room before stood makes stand which number bytes is picked =
    let now = at_index index k picks in
    let P : List (List ℕ) → Type 0 = λ starts. Makes (IsAreaWrite starts now) loop new in
    let Q : List (List ℕ) → Type 0 = λ starts. AreasStand (content new) starts now in
    elim (less_or_same (index which number) k picked.0) [
      | inl less ↦ λ i below.
          off_content (IsAreaWrite first.starts now) loop new which (area_place (length (bytes_of first.starts which)) number + i) (subst P before.makes.starts makes.makes)
          (off_area_writes first.starts now which number (λ w n b it. whole w n b it.1) (room which number bytes picked.1) is
          (λ n b it same. omega (arith, less, it.0, ap (index which) same)) i below)
          ∙ stood which number bytes is (less, picked.1) i below
      | inr same ↦ subst Q before.makes.starts stand which number bytes is (same, picked.1)
    ]

-- ---- the labels of one disk

pub area_stands : {E : Type 0} (r : Result (Unit {0}) E) (old new : Disks) (which number : ℕ) (area : List ℕ) (pick : Pick) → length area ≡ 114688 → new.starts ≡ old.starts
    → new.calls ≡ on which (write_call r (area_place (length (bytes_of old.starts which)) number) area) ∷ old.calls
    → OnOk r (AreasStand (content new) old.starts (of_label number (copies which area pick)))
area_stands (Err e) old new which number area pick long same calls = tt
area_stands (Ok x) old new which number area pick long same calls = λ d n b is picked i below.
    let P : ℕ → ℕ → Type 0 = λ w m. content new w (area_place (length (bytes_of old.starts w)) m + i) ≡ slice_get area i in
    let here : P which number = written_bytes_stand old new which (area_place (length (bytes_of old.starts which)) number) area same calls i (omega (arith, below, long)) in
    subst (λ w. P w n) (sym picked.1.0) (subst (λ m. P which m) (sym picked.0) here) ∙ ap (λ (them : List ℕ). slice_get them i) (sym picked.1.2)

-- where it has room for them
pub copies_room : (starts : List (List ℕ)) (disk : ℕ) (area : List ℕ) (pick : Pick) → 1048576 ≤ length (bytes_of starts disk)
    → (which number : ℕ) (bytes : List ℕ) → copies disk area pick which number bytes → 1048576 ≤ length (bytes_of starts which)
copies_room starts disk area pick room which number bytes it = let P : ℕ → Type 0 = λ w. 1048576 ≤ length (bytes_of starts w) in subst P (sym it.0) room

pub copies_whole : (disk : ℕ) (area : List ℕ) (pick : Pick) → length area ≡ 114688 → AreWhole (copies disk area pick)
copies_whole disk area pick long which number bytes it = ap length it.2 ∙ long

-- ---- the disks of a claim

none_some : (area : Area) → Some None ≡ Some (Some area) → ⊥
none_some area e = cc

same_area : (a b : Area) → Some (Some a) ≡ Some (Some b) → a ≡ b
same_area a b e = cc

area_at : (areas : List (Option Area)) (which : ℕ) (o d : Option Area) → which < length areas → d ≡ get_or areas which d → d ≡ o → slice_get areas which ≡ Some o
area_at areas which o d inside is at = slice_get-get_or areas which d inside ∙ ap (λ (x : Option Area). Some x) (sym is ∙ at)

-- it is some label's turn
some_turn : (first : Bool) (area : Area) → (number : ℕ) × IsPicked (turn_of first area) number
some_turn true area = (area.first, refl)
some_turn false area = (area.first + 1, λ same. absurd (omega (arith, same)))

-- what is picked on a disk has its turn by the disk's area
pub is_turn : (areas : List (Option Area)) (first : Bool) (which : ℕ) (area : Area) → slice_get areas which ≡ Some (Some area) → (number : ℕ) (bytes : List ℕ) → InAreaTurn areas first which number bytes
    → IsPicked (turn_of first area) number
is_turn areas first which area has number bytes it =
    let P : Area → Type 0 = λ a. IsPicked (turn_of first a) number in
    subst P (same_area it.area area (sym it.has ∙ has)) it.turn

-- ---- what is planned

-- it is for disks in use
pub planned_used : (out : List Bool) (areas : List (Option Area)) (first : Bool) → AreasOn out areas → (which number : ℕ) (bytes : List ℕ) → InAreaTurn areas first which number bytes → InUse out which
planned_used out areas first on which number bytes it = (on which).1 (it.area, it.has)

-- a disk that is out has none
pub none_planned : (out : List Bool) (areas : List (Option Area)) (first : Bool) (disk : ℕ) → AreasOn out areas → ¬ InUse out disk
    → (which number : ℕ) (bytes : List ℕ) → ¬ of_disk disk (InAreaTurn areas first) which number bytes
none_planned out areas first disk on unused which number bytes it =
    let P : ℕ → Type 0 = InUse out in unused (subst P it.0 (planned_used out areas first on which number bytes it.1))

pub none_claimed : (starts : List (List ℕ)) (areas : List (Option Area)) (first : Bool) (disk : ℕ) (d : Option Area) → length areas ≡ length starts
    → disk < length starts → d ≡ get_or areas disk d → d ≡ None → (which number : ℕ) (bytes : List ℕ) → ¬ of_disk disk (InAreaTurn areas first) which number bytes
none_claimed starts areas first disk d count below read none which number bytes it =
    let P : ℕ → Type 0 = λ w. slice_get areas w ≡ Some (Some it.1.area) in
    none_some it.1.area (sym (area_at areas disk None d (omega (arith, below, count)) read none) ∙ subst P it.0 it.1.has)

-- this area is planned for these labels of a disk, and no other for any
pub record Suits (areas : List (Option Area)) (first : Bool) (disk : ℕ) (area : List ℕ) (pick : Pick) : Type 0 where
  pub long : length area ≡ 114688
  pub to_plan : (which number : ℕ) (bytes : List ℕ) → copies disk area pick which number bytes → of_disk disk (InAreaTurn areas first) which number bytes
  pub of_plan : (which number : ℕ) (bytes : List ℕ) → of_disk disk (InAreaTurn areas first) which number bytes → copies disk area pick which number bytes

pub claim_suits : (starts : List (List ℕ)) (areas : List (Option Area)) (first : Bool) (disk : ℕ) (area : Area) (d : Option Area) (pick : Pick) (items : List ℕ)
    → AreWhole (InAreaTurn areas first) → length areas ≡ length starts → disk < length starts → d ≡ get_or areas disk d → d ≡ Some area → pick ≡ turn_of first area
    → items ≡ area.bytes.items → Suits areas first disk items pick
claim_suits starts areas first disk area d pick items whole count below read some picked same =
    let has = area_at areas disk (Some area) d (omega (arith, below, count)) read some in
    let turn = some_turn first area in
    record {
      long = whole disk turn.0 items (record { area = area; has = has; turn = turn.1; same = same });
      to_plan = λ which number bytes it.
          let P : ℕ → Type 0 = λ w. slice_get areas w ≡ Some (Some area) in
          let Q : Pick → Type 0 = λ p. IsPicked p number in
          (it.0, record { area = area; has = subst P (sym it.0) has; turn = subst Q picked it.1; same = it.2 ∙ same });
      of_plan = λ which number bytes it.
          let P : ℕ → Type 0 = λ w. slice_get areas w ≡ Some (Some it.1.area) in
          let one : it.1.area ≡ area = same_area it.1.area area (sym (subst P it.0 it.1.has) ∙ has) in
          let Q : Pick → Type 0 = λ p. IsPicked p number in
          let R : Area → Type 0 = λ a. IsPicked (turn_of first a) number in
          (it.0, subst Q (sym picked) (subst R one it.1.turn), it.1.same ∙ ap (λ (a : Area). a.bytes.items) one ∙ sym same);
    }

-- so that it is written to them
pub suits_makes : (out : List Bool) (areas : List (Option Area)) (first : Bool) (disk : ℕ) (area : List ℕ) (pick : Pick) (old new : Disks) → Suits areas first disk area pick → InUse out disk
    → MakesOn (is_disk disk) (IsAreaWrite old.starts (copies disk area pick)) old new → MakesOn (InUse out) (IsAreaWrite old.starts (of_disk disk (InAreaTurn areas first))) old new
suits_makes out areas first disk area pick old new suits used makes =
    wider (is_disk disk) (InUse out) old.starts (copies disk area pick) (of_disk disk (InAreaTurn areas first)) old new (on_used out disk used) suits.to_plan makes

pub suits_stand : {T E : Type 0} (r : Result T E) (areas : List (Option Area)) (first : Bool) (disk : ℕ) (area : List ℕ) (pick : Pick) (held : ℕ → ℕ → Option ℕ) (starts : List (List ℕ)) → Suits areas first disk area pick
    → OnOk r (AreasStand held starts (copies disk area pick)) → OnOk r (AreasStand held starts (of_disk disk (InAreaTurn areas first)))
suits_stand (Ok x) areas first disk area pick held starts suits stand = λ which number bytes is it. stand which number bytes is (suits.of_plan which number bytes it)
suits_stand (Err e) areas first disk area pick held starts suits stand = tt
