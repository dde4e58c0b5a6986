-- Where areas lie, and writes of them.
use Rattle.std.proofs.Common.{◌≡◌, ◌⊎◌, inl, inr, ◌<◌, ◌≤◌, ◌∙◌, ℕ, ◌+◌, ◌*◌, List, ◌∷◌, Bool, length, slice_get, get_or, Option, Some, None, Result, Ok, Err, OnOk, false, refl, sym, ap, subst, arith}
use Rattle.std.specs.Prelude.{Vec}
use Rattle.std.specs.declared.alloc.Global.{Global}
use Rattle.std.proofs.lemmas.Option.{slice_get-get_or}
use Rattle.model_disk.specs.Call.{Wrote, write_call}
use Rattle.model_disk.specs.Contents.{covers}
use Rattle.model_disk.specs.Joint.{Disks, on, bytes_of, content}
use Rattle.model_disk.specs.Runs.{IsOff}
use Rattle.model_disk.proofs.LawLemmas.{written_bytes_stand}
use Rattle.model_disk.proofs.RunLemmas.{off_content}
use Rattle.pool_slots.specs.Labels.{area_place}
use Rattle.pool_slots.specs.Slots.{InUse, MakesOn, is_disk}
use Rattle.pool_slots.specs.Writes.{InHalf}
use Rattle.pool_slots.proofs.Phases.{MakesOn-more, MakesOn-wider}
use Rattle.pool_slots.proofs.Places.{apart_covers, labels_apart}
use Rattle.pool_slots.proofs.Writing.{MakesOn-write}
use Rattle.pool_export.specs.Writes.{AreWhole, AreaStands, Areas, IsAreaOf, IsAreaWrite, IsCopy, IsUsedWrite, StandsOn, copy_on, on_one}

-- ---- where areas lie

ordered : (i j : ℕ) → (i < j) ⊎ ((j < i) ⊎ (i ≡ j))
ordered i j = grind arith

areas_apart : (size n m : ℕ) → 4 * 262144 ≤ size → n < 4 → m < 4 → ¬ (n ≡ m) → (area_place size n + 114688 ≤ area_place size m) ⊎ (area_place size m + 114688 ≤ area_place size n)
unfolding area_place
areas_apart size n m room is is' other =
    elim (ordered n m) [
      | inl below ↦ inl (omega (arith, labels_apart size n m room below is'))
      | inr (inl above) ↦ inr (omega (arith, labels_apart size m n room above is))
      | inr (inr same) ↦ absurd (other same)
    ]

copy_covers : (starts : List (List ℕ)) (picks : ℕ → Type 0) (area : List ℕ) (which at i : ℕ) (bytes : List ℕ) → length area ≡ 114688 → (copy : IsCopy starts picks area which at bytes)
    → covers at (length bytes) i ≡ covers (area_place (length (bytes_of starts which)) copy.number) 114688 i
copy_covers starts picks area which at i bytes whole copy =
    ap (λ (place : ℕ). covers place (length bytes) i) copy.place
    ∙ ap (λ (n : ℕ). covers (area_place (length (bytes_of starts which)) copy.number) n i) (ap length copy.same ∙ whole)

off_copy : (starts : List (List ℕ)) (picks : ℕ → Type 0) (area : List ℕ) (which number at i : ℕ) (bytes : List ℕ) → length area ≡ 114688 → 1048576 ≤ length (bytes_of starts which) → number < 4
    → ((n : ℕ) → picks n → ¬ (n ≡ number)) → i < 114688 → IsCopy starts picks area which at bytes → covers at (length bytes) (area_place (length (bytes_of starts which)) number + i) ≡ false
off_copy starts picks area which number at i bytes whole room is apart below copy =
    let size = length (bytes_of starts which) in
    copy_covers starts picks area which at (area_place size number + i) bytes whole copy
    ∙ apart_covers (area_place size copy.number) 114688 (area_place size number) 114688
    (areas_apart size copy.number number (omega (arith, room)) copy.is_label is (apart copy.number copy.picked)) i below

-- a label that isn't picked has no byte of a write
pub off_area_writes : (starts : List (List ℕ)) (areas : Areas) (picks : ℕ → Type 0) (which number : ℕ) → AreWhole areas → 1048576 ≤ length (bytes_of starts which) → number < 4
    → ((n : ℕ) → picks n → ¬ (n ≡ number)) → (i : ℕ) → i < 114688 → IsOff (IsAreaWrite starts areas picks which) (area_place (length (bytes_of starts which)) number + i)
off_area_writes starts areas picks which number whole room is apart i below at bytes write =
    off_copy starts picks write.area.items which number at i bytes (whole which write.area write.has) room is apart below write.copy

-- ---- two labels

-- one label alone
abbrev pub just : ℕ → ℕ → Type 0
just number n = n ≡ number

pub copy_made : {T E : Type 0} (r : Result T E) (starts : List (List ℕ)) (picks : ℕ → Type 0) (area : List ℕ) (old new : Disks) (which number : ℕ) → number < 4 → picks number
    → new.starts ≡ old.starts → new.calls ≡ on which (write_call r (area_place (length (bytes_of starts which)) number) area) ∷ old.calls
    → MakesOn (is_disk which) (copy_on which starts picks area) old new
copy_made r starts picks area old new which number is picked same calls =
    MakesOn-write r (copy_on which starts picks area) old new which (area_place (length (bytes_of starts which)) number) area same calls
    (refl, record { number = number; is_label = is; picked = picked; place = refl; same = refl })

area_stands : (old new : Disks) (which size number : ℕ) (area : List ℕ) → length area ≡ 114688 → new.starts ≡ old.starts → new.calls ≡ on which (Wrote (area_place size number) area) ∷ old.calls
    → (i : ℕ) → i < 114688 → content new which (area_place size number + i) ≡ slice_get area i
area_stands old new which size number area whole starts calls i below =
    written_bytes_stand old new which (area_place size number) area starts calls i (omega (arith, below, whole))

-- what the first of two writes left stands behind the second
first_stays : {T E : Type 0} (r : Result T E) (starts : List (List ℕ)) (area : List ℕ) (mid new : Disks) (which first second : ℕ) → length area ≡ 114688 → 1048576 ≤ length (bytes_of starts which)
    → first < 4 → second < 4 → ¬ (second ≡ first) → new.starts ≡ mid.starts → new.calls ≡ on which (write_call r (area_place (length (bytes_of starts which)) second) area) ∷ mid.calls
    → (i : ℕ) → i < 114688 → content mid which (area_place (length (bytes_of starts which)) first + i) ≡ slice_get area i
    → content new which (area_place (length (bytes_of starts which)) first + i) ≡ slice_get area i
first_stays r starts area mid new which first second whole room is also apart same calls i below stands =
    let made = copy_made r starts (just second) area mid new which second also refl same calls in
    off_content (copy_on which starts (just second) area) mid new which (area_place (length (bytes_of starts which)) first + i) made.makes
    (λ at bytes write. off_copy starts (just second) area which first at i bytes whole room is (λ n picked equal. apart (sym picked ∙ equal)) below write.1)
    ∙ stands

pub both_stand : {E : Type 0} (r : Result (Unit {0}) E) (old mid new : Disks) (which half : ℕ) (area : List ℕ) → half < 2 → length area ≡ 114688 → 1048576 ≤ length (bytes_of old.starts which)
    → mid.starts ≡ old.starts → mid.calls ≡ on which (Wrote (area_place (length (bytes_of old.starts which)) half) area) ∷ old.calls
    → new.starts ≡ mid.starts → new.calls ≡ on which (write_call r (area_place (length (bytes_of mid.starts which)) (half + 2)) area) ∷ mid.calls
    → OnOk r (AreaStands (content new which) (length (bytes_of old.starts which)) (InHalf half) area)
both_stand (Err e) old mid new which half area small whole room starts calls starts' calls' = tt
both_stand {E} (Ok x) old mid new which half area small whole room starts calls starts' calls' =
    let size = length (bytes_of old.starts which) in
    let ok : Result (Unit {0}) E = Ok x in
    let P : List (List ℕ) → Type 0 = λ them. new.calls ≡ on which (Wrote (area_place (length (bytes_of them which)) (half + 2)) area) ∷ mid.calls in
    let later = subst P starts calls' in
    λ number is picked i below. elim picked [
      | inl first ↦
          let Q : ℕ → Type 0 = λ n. content new which (area_place size n + i) ≡ slice_get area i in
          subst Q (sym first)
          (first_stays ok old.starts area mid new which half (half + 2) whole room (omega (arith, small)) (omega (arith, small)) (λ same. omega (arith, same)) starts' later i below
          (area_stands old mid which size half area whole starts calls i below))
      | inr second ↦
          let Q : ℕ → Type 0 = λ n. content new which (area_place size n + i) ≡ slice_get area i in
          subst Q (sym second) (area_stands mid new which size (half + 2) area whole starts' later i below)
    ]

pub both_made : {T E : Type 0} (r : Result T E) (old mid new : Disks) (which half : ℕ) (area : List ℕ) → half < 2 → MakesOn (is_disk which) (copy_on which old.starts (InHalf half) area) old mid
    → new.starts ≡ mid.starts → new.calls ≡ on which (write_call r (area_place (length (bytes_of mid.starts which)) (half + 2)) area) ∷ mid.calls
    → MakesOn (is_disk which) (copy_on which old.starts (InHalf half) area) old new
both_made r old mid new which half area small first starts calls =
    let P : List (List ℕ) → Type 0 = λ them. new.calls ≡ on which (write_call r (area_place (length (bytes_of them which)) (half + 2)) area) ∷ mid.calls in
    MakesOn-more (is_disk which) (copy_on which old.starts (InHalf half) area) old mid new first
    (copy_made r old.starts (InHalf half) area mid new which (half + 2) (omega (arith, small)) (inr refl) starts (subst P first.makes.starts calls))

-- ---- a disk that may have an area

pub area_at : (areas : Areas) (which : ℕ) (o d : Option (Vec ℕ Global)) → which < length areas → d ≡ get_or areas which d → d ≡ o → slice_get areas which ≡ Some o
area_at areas which o d inside is at = slice_get-get_or areas which d inside ∙ ap (λ (x : Option (Vec ℕ Global)). Some x) (sym is ∙ at)

none_some : (area : Vec ℕ Global) → Some None ≡ Some (Some area) → ⊥
none_some area e = cc

same_area : (a b : Vec ℕ Global) → Some (Some a) ≡ Some (Some b) → a ≡ b
same_area a b e = cc

pub area_made : (out : List Bool) (starts : List (List ℕ)) (areas : Areas) (picks : ℕ → Type 0) (which : ℕ) (area : Vec ℕ Global) (old new : Disks) → InUse out which → IsAreaOf areas which area
    → MakesOn (is_disk which) (copy_on which starts picks area.items) old new → MakesOn (on_one which (InUse out)) (IsUsedWrite out starts areas picks) old new
area_made out starts areas picks which area old new used has makes =
    let U : ℕ → Type 0 = InUse out in
    MakesOn-wider (is_disk which) (on_one which U) (copy_on which starts picks area.items) (IsUsedWrite out starts areas picks) old new
    (λ w same. (same, subst U (sym same) used))
    (λ w at bytes write.
    let Q : ℕ → Type 0 = λ d. IsAreaOf areas d area in
    record { used = subst U (sym write.0) used; write = record { area = area; has = subst Q (sym write.0) has; copy = write.1 } }) makes

pub stands_on : (held : ℕ → ℕ → Option ℕ) (starts : List (List ℕ)) (areas : Areas) (picks : ℕ → Type 0) (which : ℕ) (area : Vec ℕ Global) → IsAreaOf areas which area
    → AreaStands (held which) (length (bytes_of starts which)) picks area.items → StandsOn which held starts areas picks
stands_on held starts areas picks which area has stands it at =
    let P : Vec ℕ Global → Type 0 = λ a. AreaStands (held which) (length (bytes_of starts which)) picks a.items in
    subst P (same_area area it (sym has ∙ at)) stands

pub stands_nowhere : (held : ℕ → ℕ → Option ℕ) (starts : List (List ℕ)) (areas : Areas) (picks : ℕ → Type 0) (which : ℕ) → slice_get areas which ≡ Some None → StandsOn which held starts areas picks
stands_nowhere held starts areas picks which none it at = absurd (none_some it (sym none ∙ at))
