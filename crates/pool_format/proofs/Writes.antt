-- What writes and flushes of labels leave.
use Rattle.std.proofs.Common.{◌≡◌, inl, inr, ◌<◌, ◌≤◌, ◌∙◌, ℕ, ◌+◌, ◌*◌, List, ◌∷◌, length, map, slice_get, Option, Some, Result, refl, sym, ap, subst, arith}
use Rattle.std.proofs.lemmas.Bool.{cases_lt}
use Rattle.std.proofs.lemmas.Option.{slice_get-map}
use Rattle.std.specs.Prelude.{option_map}
use Rattle.model_disk.specs.Call.{Call, write_call, flush_call}
use Rattle.model_disk.specs.Contents.{byte_at}
use Rattle.model_disk.specs.Joint.{Disks, on, bytes_of, calls_on, content}
use Rattle.model_disk.specs.Runs.{AreSettledBelow, IsSettled, Makes, no_write}
use Rattle.model_disk.proofs.JointLemmas.{calls_on-other}
use Rattle.model_disk.proofs.RunLemmas.{Makes-flush, Makes-more, Makes-wider}
use Rattle.vdev_label.specs.Area.{area_of}
use Rattle.vdev_label.specs.Place.{area_at}
use Rattle.vdev_label.specs.Plain.{PlainLabel}
use Rattle.vdev_label.specs.Reads.{KeepsElsewhere, place_of}
use Rattle.pool_slots.specs.Labels.{IsLabelShown, IsValid, area_place}
use Rattle.pool_slots.specs.Slots.{MakesOn, is_disk}
use Rattle.pool_slots.proofs.LabelAreas.{area_len, area_place_is, inscribed_is}
use Rattle.pool_slots.proofs.LabelScans.{label_same}
use Rattle.pool_slots.proofs.Phases.{MakesOn-more, none_same}
use Rattle.pool_slots.proofs.Places.{labels_apart}
use Rattle.pool_slots.proofs.Writing.{MakesOn-write}
use Rattle.pool_format.specs.Labels.{AllShow, IsLabelWrite, label_on, of_child}
use Rattle.pool_format.specs.declared.children.Child.{Child}

-- ---- one label

pub area_makes : {T E : Type 0} (r : Result T E) (old new : Disks) (which number : ℕ) (l : PlainLabel) → number < 4 → new.starts ≡ old.starts
    → new.calls ≡ on which (write_call r (place_of old which number) (area_of l)) ∷ old.calls → MakesOn (is_disk which) (label_on old.starts which l) old new
area_makes r old new which number l is starts calls =
    MakesOn-write r (label_on old.starts which l) old new which (place_of old which number) (area_of l) starts calls
    (refl, record { number = number; is_label = is; place = area_place_is (length (bytes_of old.starts which)) number; spells = inscribed_is l })

pub stands_shown : (size number : ℕ) (held : ℕ → Option ℕ) (l : PlainLabel) → number < 4 → IsValid l
    → ((i : ℕ) → i < length (area_of l) → held (area_at size number + i) ≡ slice_get (area_of l) i) → IsLabelShown size held number l
stands_shown size number held l is valid stands =
    record {
      is_label = is;
      valid = valid;
      bytes = λ i below.
          let R : ℕ → Type 0 = λ place. held (place + i) ≡ slice_get (area_of l) i in
          let len : length (area_of l) ≡ 114688 = ap length (inscribed_is l) ∙ area_len l valid in
          subst R (area_place_is size number) (stands i (omega (arith, below, len))) ∙ ap (λ (them : List ℕ). slice_get them i) (inscribed_is l);
    }

areas_below : (size n m : ℕ) → 4 * 262144 ≤ size → n < m → m < 4 → area_place size n + 114688 ≤ area_at size m
unfolding area_place
areas_below size n m room below last = omega (arith, labels_apart size n m room below last)

-- a label that was written before another
label_kept : (old new : Disks) (which n m : ℕ) (l : PlainLabel) → 1048576 ≤ length (bytes_of old.starts which) → n < m → m < 4 → KeepsElsewhere old new which m
    → IsLabelShown (length (bytes_of old.starts which)) (content old which) n l → IsLabelShown (length (bytes_of old.starts which)) (content new which) n l
label_kept old new which n m l room below last keeps shown =
    let size = length (bytes_of old.starts which) in
    let apart = areas_below size n m (omega (arith, room)) below last in
    record { is_label = shown.is_label; valid = shown.valid; bytes = λ i inside. keeps which (area_place size n + i) (inr (inl (omega (arith, apart, inside)))) ∙ shown.bytes i inside }

pub makes_first : (old loop new : Disks) (used : ℕ → Type 0) (which : ℕ) (l : PlainLabel) → MakesOn used (label_on old.starts which l) old loop → MakesOn used (label_on loop.starts which l) loop new
    → MakesOn used (label_on old.starts which l) old new
makes_first old loop new used which l before makes =
    let P : List (List ℕ) → Type 0 = λ starts. MakesOn used (label_on starts which l) loop new in
    MakesOn-more used (label_on old.starts which l) old loop new before (subst P before.makes.starts makes)

-- the labels of a disk, one more of them
pub label_next : (first loop new : Disks) (which number n : ℕ) (l : PlainLabel) → loop.starts ≡ first.starts → 1048576 ≤ length (bytes_of first.starts which) → number < 4
    → KeepsElsewhere loop new which number → ((k : ℕ) → k < number → IsLabelShown (length (bytes_of first.starts which)) (content loop which) k l)
    → IsLabelShown (length (bytes_of loop.starts which)) (content new which) number l → n < number + 1 → IsLabelShown (length (bytes_of first.starts which)) (content new which) n l
label_next first loop new which number n l starts room is keeps before here below =
    let P : List (List ℕ) → Type 0 = λ them. IsLabelShown (length (bytes_of them which)) (content new which) n l in
    let Q : List (List ℕ) → Type 0 = λ them. IsLabelShown (length (bytes_of them which)) (content loop which) n l in
    let R : List (List ℕ) → Type 0 = λ them. 1048576 ≤ length (bytes_of them which) in
    subst P starts (elim (cases_lt n number) [
      | inl less ↦ label_kept loop new which n number l (subst R (sym starts) room) less is keeps (subst Q (sym starts) (before n less))
      | inr last ↦
          let same : number ≡ n = omega (arith, last, below) in
          let S : ℕ → Type 0 = λ k. IsLabelShown (length (bytes_of loop.starts which)) (content new which) k l in
          subst S same here
    ])

-- ---- a flush

pub flush_makes : {T E : Type 0} (r : Result T E) (old new : Disks) (which : ℕ) → new.starts ≡ old.starts → new.calls ≡ on which (flush_call r) ∷ old.calls → MakesOn (is_disk which) no_write old new
flush_makes r old new which starts calls =
    record {
      makes = Makes-flush r no_write old new which starts calls;
      alone = λ other apart. ap (calls_on other) calls ∙ calls_on-other which other (flush_call r) old.calls apart;
    }

pub shown_later : (old new : Disks) (size which : ℕ) (l : PlainLabel) → Makes no_write old new → AllShow size (content old which) l → AllShow size (content new which) l
shown_later old new size which l makes all number is = label_same size number (content old which) (content new which) l (λ i. none_same old new which i makes) (all number is)

-- ---- a disk after others

-- the disks below this number are labeled
abbrev pub LabeledBelow : List (List ℕ) → (ℕ → ℕ → Option ℕ) → List PlainLabel → ℕ → Type 0
LabeledBelow starts held labels n = (which : ℕ) (l : PlainLabel) → which < n → slice_get labels which ≡ Some l → AllShow (length (bytes_of starts which)) (held which) l

content_alone : (old new : Disks) (which i : ℕ) → new.starts ≡ old.starts → calls_on which new.calls ≡ calls_on which old.calls → content new which i ≡ content old which i
content_alone old new which i starts calls =
    ap (λ (them : List (List ℕ)). byte_at (bytes_of them which) (calls_on which new.calls) i) starts ∙ ap (λ (made : List Call). byte_at (bytes_of old.starts which) made i) calls

pub child_at : (l : PlainLabel) (children : List Child) (which : ℕ) (child : Child) → slice_get children which ≡ Some child → slice_get (map (of_child l) children) which ≡ Some (of_child l child)
child_at l children which child at = slice_get-map (of_child l) children which ∙ ap (option_map (of_child l)) at

pub disk_makes : (first loop new : Disks) (which : ℕ) (labels : List PlainLabel) (l : PlainLabel) → slice_get labels which ≡ Some l → Makes (IsLabelWrite first.starts labels) first loop
    → MakesOn (is_disk which) (label_on loop.starts which l) loop new → Makes (IsLabelWrite first.starts labels) first new
disk_makes first loop new which labels l at before makes =
    let P : List (List ℕ) → Type 0 = λ starts. Makes (label_on starts which l) loop new in
    Makes-more (IsLabelWrite first.starts labels) first loop new before
    (Makes-wider (label_on first.starts which l) (IsLabelWrite first.starts labels) loop new
    (λ w place bytes it. let Q : ℕ → Type 0 = λ k. slice_get labels k ≡ Some l in record { l = l; is = subst Q (sym it.0) at; area = it.1 })
    (subst P before.starts makes.makes))

same_label : (a b : PlainLabel) → Some a ≡ Some b → a ≡ b
same_label a b e = cc

pub disk_shown : (first loop new : Disks) (which : ℕ) (labels : List PlainLabel) (l : PlainLabel) → slice_get labels which ≡ Some l → loop.starts ≡ first.starts
    → MakesOn (is_disk which) (label_on loop.starts which l) loop new → LabeledBelow first.starts (content loop) labels which → AllShow (length (bytes_of loop.starts which)) (content new which) l
    → LabeledBelow first.starts (content new) labels (which + 1)
disk_shown first loop new which labels l at starts makes before here k m below has number is =
    elim (cases_lt k which) [
      | inl less ↦
          let calls = makes.alone k (λ same. omega (arith, less, same)) in
          label_same (length (bytes_of first.starts k)) number (content loop k) (content new k) m (λ i. content_alone loop new k i makes.makes.starts calls) (before k m less has number is)
      | inr last ↦
          let same : k ≡ which = omega (arith, last, below) in
          let P : ℕ → Type 0 = λ w. slice_get labels w ≡ Some m in
          let equal : l ≡ m = same_label l m (sym at ∙ subst P same has) in
          let Q : PlainLabel → Type 0 = λ it. IsLabelShown (length (bytes_of loop.starts which)) (content new which) number it in
          let R : List (List ℕ) → Type 0 = λ them. IsLabelShown (length (bytes_of them which)) (content new which) number m in
          let S : ℕ → Type 0 = λ w. IsLabelShown (length (bytes_of first.starts w)) (content new w) number m in
          subst S (sym same) (subst R starts (subst Q equal (here number is)))
    ]

pub disk_settled : (loop new : Disks) (which : ℕ) (may : ℕ → ℕ → List ℕ → Type 0) → MakesOn (is_disk which) may loop new → AreSettledBelow which loop.calls → IsSettled (calls_on which new.calls)
    → AreSettledBelow (which + 1) new.calls
disk_settled loop new which may makes before here k below =
    elim (cases_lt k which) [
      | inl less ↦ let R : List Call → Type 0 = IsSettled in subst R (sym (makes.alone k (λ same. omega (arith, less, same)))) (before k less)
      | inr last ↦
          let same : k ≡ which = omega (arith, last, below) in
          let P : ℕ → Type 0 = λ w. IsSettled (calls_on w new.calls) in
          subst P (sym same) here
    ]
