-- Where no vdev lacks more disks than it has parities, those that are found are enough, and one is there.
use Rattle.std.proofs.Common.{ℕ, zero, suc, ◌≡◌, ◌+◌, ◌<◌, ◌≤◌, Bool, true, false, if◌then◌else◌, List, [], ◌∷◌, length, map, slice_get, Option, Some, is_none, refl, sym, ap, subst, ◌∙◌, arith}
use Rattle.std.specs.Prelude.{Vec, option_map}
use Rattle.std.specs.declared.alloc.Global.{Global}
use Rattle.std.proofs.lemmas.List.{length-map}
use Rattle.std.proofs.lemmas.List.Sums.{sum_by-append}
use Rattle.std.proofs.lemmas.Option.{slice_get-map, slice_get_within}
use Rattle.raidz_io.proofs.Parts.{slice_get_back, slice_get_front}
use Rattle.block_store.specs.Opened.{LieOn}
use Rattle.block_store.specs.Store.{is_out}
use Rattle.block_store.specs.declared.shape.VdevShape.{VdevShape}
use Rattle.vdev_label.specs.Plain.{PlainVdev}
use Rattle.pool_labels.specs.Choices.{AreAllMembers, AreEnough, absent_count}
use Rattle.pool_labels.specs.declared.scanned.Scan.{Scan}
use Rattle.pool_members.specs.declared.arranging.Child.{Child}
use Rattle.pool_create.specs.Children.{all_children, child_of}
use Rattle.pool_create.specs.Shapes.{AreShapesOf}
use Rattle.pool_create.specs.Words.{vdevs_in}
use Rattle.pool_create.proofs.OpenOnce.{FoundList, tail_members}
use Rattle.pool_model.specs.View.{is_tolerable, lost_in}
use Rattle.pool_stops.specs.Handed.{away_in}
use Rattle.pool_stops.proofs.FoundDisks.{IsOneThere}
use Rattle.pool_stops.proofs.Handed.{place_of_used}
use Rattle.pool_stops.proofs.Holding.{get_in_use}
use Rattle.pool_stops.proofs.Lost.{bears_at, both_are}

-- ---- how many are lost

-- counted from the first one on
lost_first : (lost : ℕ → Bool) (first n : ℕ) → lost_in lost first (suc n) ≡ (if lost first then 1 else 0) + lost_in lost (suc first) n
lost_first lost first zero =
    let same : first + 0 ≡ first = omega arith in
    let here : ◌≡◌ {A = ℕ} (if lost (first + 0) then 1 else 0) (if lost first then 1 else 0) = ap (λ (k : ℕ). if lost k then 1 else 0) same in
    omega (arith, here)
lost_first lost first (suc n) =
    let same : first + suc n ≡ suc first + n = omega arith in
    let last : ◌≡◌ {A = ℕ} (if lost (first + suc n) then 1 else 0) (if lost (suc first + n) then 1 else 0) = ap (λ (k : ℕ). if lost k then 1 else 0) same in
    omega (arith, lost_first lost first n, last)

-- as many as children are absent
count_lost : (lost : ℕ → Bool) (first : ℕ) (found : List (Option ℕ)) → ((k : ℕ) (m : Option ℕ) → slice_get found k ≡ Some m → lost (first + k) ≡ is_none m)
    → lost_in lost first (length found) ≡ absent_count found
count_lost lost first [] each = refl
count_lost lost first (m ∷ found) each =
    let same : first ≡ first + 0 = omega arith in
    let here : lost first ≡ is_none m = ap lost same ∙ each 0 m refl in
    let one : ◌≡◌ {A = ℕ} (if lost first then 1 else 0) (if is_none m then 1 else 0) = ap (λ (b : Bool). if b then 1 else 0) here in
    let parts : absent_count (m ∷ found) ≡ (0 + (if is_none m then 1 else 0)) + absent_count found = sum_by-append (λ (x : Option ℕ). if is_none x then 1 else 0) (m ∷ []) found in
    let rest = count_lost lost (suc first) found (λ k other at.
    let next : suc first + k ≡ first + suc k = omega arith in
    ap lost next ∙ each (suc k) other at) in
    omega (arith, lost_first lost first (length found), one, rest, parts)

-- ---- those that are found

-- of each vdev as many children are absent as disks are away
pub enough_found : (scan : Scan) (vdevs : List PlainVdev) (first : ℕ) (shapes : List VdevShape) (members : FoundList) (away : List Bool) → AreShapesOf vdevs first shapes
    → AreAllMembers scan vdevs members
    → ((k : ℕ) (child : Child) → slice_get (all_children vdevs members) k ≡ Some child → is_out away (first + k) ≡ is_none child.disk)
    → is_tolerable (vdevs_in shapes) (is_out away) ≡ true → AreEnough vdevs members
enough_found scan [] first shapes members away shaped are each bears k v found at there = absurd (omega (arith, slice_get_within [] k v at))
enough_found scan (w ∷ vdevs) first [] members away shaped are each bears k v found at there = absurd shaped
enough_found scan (w ∷ vdevs) first (shape ∷ shapes) [] away shaped are each bears k v found at there = absurd (omega (arith, are.count))
enough_found scan (w ∷ vdevs) first (shape ∷ shapes) (f ∷ members) away shaped are each bears zero v found at there =
    let one = are.each 0 w f refl refl in
    let mine : List Child = map (child_of w.child_sectors) f.items in
    let count = count_lost (is_out away) first f.items (λ j m is.
    each j (child_of w.child_sectors m)
    (slice_get_front mine (all_children vdevs members) j (omega (arith, length-map f.items (child_of w.child_sectors), slice_get_within f.items j m is))
    ∙ slice_get-map (child_of w.child_sectors) f.items j ∙ ap (option_map (child_of w.child_sectors)) is)) in
    let many : length f.items ≡ shape.vdev.geometry.children = one.count ∙ sym shaped.0.children in
    let lost : lost_in (is_out away) first (length f.items) ≡ lost_in (is_out away) shape.vdev.first shape.vdev.geometry.children =
    (λ i. lost_in (is_out away) (sym shaped.0.first_is i) (many i)) in
    let few : absent_count f.items ≤ w.parity = omega (arith, bears_at (shape ∷ shapes) (is_out away) bears 0 shape refl, lost, count, shaped.0.parity) in
    let same : f ≡ found = cc in
    let is : w ≡ v = cc in
    subst (λ (x : PlainVdev). absent_count found.items ≤ x.parity) is (subst (λ (x : Vec (Option ℕ) Global). absent_count x.items ≤ w.parity) same few)
enough_found scan (w ∷ vdevs) first (shape ∷ shapes) (f ∷ members) away shaped are each bears (suc k) v found at there =
    let one = are.each 0 w f refl refl in
    let mine : List Child = map (child_of w.child_sectors) f.items in
    let many : length mine ≡ length w.children = length-map f.items (child_of w.child_sectors) ∙ one.count in
    enough_found scan vdevs (first + length w.children) shapes members away shaped.1 (tail_members scan w vdevs f members are)
    (λ j child is.
    let same : (first + length w.children) + j ≡ first + (length mine + j) = omega (arith, many) in
    ap (is_out away) same ∙ each (length mine + j) child (slice_get_back mine (all_children vdevs members) j ∙ is))
    (bears_rest shape shapes (is_out away) bears) k v found at there
  where
    bears_rest : (s : VdevShape) (them : List VdevShape) (lost : ℕ → Bool) → is_tolerable (vdevs_in (s ∷ them)) lost ≡ true → is_tolerable (vdevs_in them) lost ≡ true
    bears_rest s them lost is = (both_are _ (is_tolerable (vdevs_in them) lost) is).1

-- ---- one is there

abbrev OneKept : (ℕ → Bool) → ℕ → ℕ → Type 0
OneKept lost first n = (child : ℕ) × (child < n) × (lost (first + child) ≡ false)

last_or_rest : (lost : ℕ → Bool) (first n : ℕ) → (lost_in lost first n < n → OneKept lost first n) → lost_in lost first (suc n) < suc n → (is : Bool)
    → lost (first + n) ≡ is → OneKept lost first (suc n)
last_or_rest lost first n rest few false there = (n, omega arith, there)
last_or_rest lost first n rest few true gone =
    let one : ◌≡◌ {A = ℕ} (if lost (first + n) then 1 else 0) 1 = ap (λ flag. if flag then 1 else 0) gone in
    let it = rest (omega (arith, few, one)) in
    (it.0, omega (arith, it.1), it.2)

not_lost : (lost : ℕ → Bool) (first n : ℕ) → lost_in lost first n < n → OneKept lost first n
not_lost lost first zero few = absurd (omega (arith, few))
not_lost lost first (suc n) few = last_or_rest lost first n (λ fewer. not_lost lost first n fewer) few (lost (first + n)) refl

pub one_is_there : (starts : List (List ℕ)) (shapes : List VdevShape) (order : List (Option ℕ)) → 1 ≤ length shapes → LieOn starts 0 shapes → length order ≡ length starts
    → is_tolerable (vdevs_in shapes) (is_out (away_in order)) ≡ true → IsOneThere order
one_is_there starts [] order some lie count bears = absurd (omega (arith, some))
one_is_there starts (shape ∷ shapes) order some lie count bears =
    let vdev = shape.vdev in
    let few = bears_at (shape ∷ shapes) (is_out (away_in order)) bears 0 shape refl in
    let it = not_lost (is_out (away_in order)) vdev.first vdev.geometry.children (omega (arith, few, vdev.geometry.has_data)) in
    let which : ℕ = vdev.first + it.0 in
    let below : which < length order = omega (arith, it.1, lie.1.there, count) in
    let place = place_of_used order which (get_in_use (away_in order) which (omega (arith, below, length-map order is_none)) it.2) in
    (which, place.0, place.1)
