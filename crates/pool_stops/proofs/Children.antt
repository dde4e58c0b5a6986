-- The children of a configuration, each at its place among all.
use Rattle.std.proofs.Common.{ℕ, zero, suc, ◌≡◌, ◌⊎◌, inl, inr, ⊎_elim, ◌+◌, ◌<◌, ◌≤◌, false, List, [], ◌∷◌, ◌++◌, length, map, slice_get, Option, Some, None, is_none, refl, sym, ap, subst, ◌∙◌, arith, true≢false}
use Rattle.std.specs.Prelude.{Vec, option_map}
use Rattle.std.specs.declared.alloc.Global.{Global}
use Rattle.std.proofs.lemmas.List.{length-append, length-map}
use Rattle.std.proofs.lemmas.Option.{slice_get-map, slice_get_within}
use Rattle.raidz_io.proofs.Parts.{slice_get_back, slice_get_front}
use Rattle.raidz_io.proofs.Written.{slice_get_some}
use Rattle.block_store.specs.Config.{IsAllowedSize, sectors_of, size_of}
use Rattle.block_store.specs.Opened.{LieOn}
use Rattle.block_store.specs.declared.shape.VdevShape.{VdevShape}
use Rattle.vdev_label.specs.Plain.{PlainVdev}
use Rattle.pool_labels.specs.Choices.{AreAllMembers, AreEnough, IsMember, absent_count}
use Rattle.pool_labels.specs.declared.scanned.Scan.{Scan}
use Rattle.pool_members.specs.declared.arranging.Child.{Child}
use Rattle.pool_create.specs.Children.{all_children, child_of}
use Rattle.pool_create.specs.Shapes.{AreShapesOf}
use Rattle.pool_create.proofs.OpenOnce.{FoundList, tail_members}
use Rattle.pool_stops.specs.Own.{disk_guids}

-- ---- lists

front_or_back : (n which : ℕ) → (which < n) ⊎ ((w : ℕ) × (which ≡ n + w))
front_or_back zero which = inr (which, omega arith)
front_or_back (suc n) zero = inl (omega arith)
front_or_back (suc n) (suc which) = ⊎_elim (λ below. inl (omega (arith, below))) (λ (w, is). inr (w, omega (arith, is))) (front_or_back n which)

-- ---- each child

-- the child at that place is of this guid, and its disk has room for the vdev's sectors
pub record IsChildAt (scan : Scan) (starts : List (List ℕ)) (children : List Child) (first which guid : ℕ) : Type 0 where
  pub sectors : ℕ
  pub child : Child
  pub at : slice_get children which ≡ Some child
  pub member : IsMember scan sectors guid child.disk
  pub allowed : IsAllowedSize (size_of starts (first + which))
  pub room : sectors ≤ sectors_of (size_of starts (first + which))

pub length_children : (scan : Scan) (vdevs : List PlainVdev) (members : FoundList) → AreAllMembers scan vdevs members
    → length (all_children vdevs members) ≡ length (disk_guids vdevs)
length_children scan [] members are = refl
length_children scan (v ∷ vdevs) [] are = absurd (omega (arith, are.count))
length_children scan (v ∷ vdevs) (found ∷ members) are =
    let one = are.each 0 v found refl refl in
    let mine : List Child = map (child_of v.child_sectors) found.items in
    let rest = length_children scan vdevs members (tail_members scan v vdevs found members are) in
    omega (
      arith,
      length-append mine (all_children vdevs members),
      length-map found.items (child_of v.child_sectors),
      one.count,
      length-append v.children (disk_guids vdevs),
      rest,
    )

pub at_child : (scan : Scan) (starts : List (List ℕ)) (vdevs : List PlainVdev) (first : ℕ) (shapes : List VdevShape) (members : FoundList)
    → AreShapesOf vdevs first shapes → LieOn starts first shapes → AreAllMembers scan vdevs members → (which guid : ℕ)
    → slice_get (disk_guids vdevs) which ≡ Some guid → IsChildAt scan starts (all_children vdevs members) first which guid
at_child scan starts [] first shapes members shaped lie are which guid at = absurd (omega (arith, slice_get_within (disk_guids []) which guid at))
at_child scan starts (v ∷ vdevs) first [] members shaped lie are which guid at = absurd shaped
at_child scan starts (v ∷ vdevs) first (shape ∷ shapes) [] shaped lie are which guid at = absurd (omega (arith, are.count))
at_child scan starts (v ∷ vdevs) first (shape ∷ shapes) (found ∷ members) shaped lie are which guid at =
    let one = are.each 0 v found refl refl in
    let mine : List Child = map (child_of v.child_sectors) found.items in
    let long : length mine ≡ length v.children = length-map found.items (child_of v.child_sectors) ∙ one.count in
    let Goal : Type 0 = IsChildAt scan starts (mine ++ all_children vdevs members) first which guid in
    ⊎_elim {C = Goal}
    (λ (below : which < length v.children).
    let here : slice_get v.children which ≡ Some guid = sym (slice_get_front v.children (disk_guids vdevs) which below) ∙ at in
    let m = slice_get_some found.items which (omega (arith, below, one.count)) in
    let from : shape.vdev.first ≤ first + which = omega (arith, lie.0) in
    let to : first + which < shape.vdev.first + shape.vdev.geometry.children = omega (arith, lie.0, below, shaped.0.children) in
    record {
      sectors = v.child_sectors;
      child = child_of v.child_sectors m.0;
      at = slice_get_front mine (all_children vdevs members) which (omega (arith, below, long))
          ∙ slice_get-map (child_of v.child_sectors) found.items which ∙ ap (option_map (child_of v.child_sectors)) m.1;
      member = one.each which guid m.0 here m.1;
      allowed = lie.1.sizes (first + which) from to;
      room = subst (λ n. n ≤ sectors_of (size_of starts (first + which))) shaped.0.sectors (lie.1.sectors (first + which) from to);
    })
    (λ (w, is).
    let there : slice_get (disk_guids vdevs) w ≡ Some guid =
    sym (slice_get_back v.children (disk_guids vdevs) w) ∙ ap (slice_get (disk_guids (v ∷ vdevs))) (sym is) ∙ at in
    let next : LieOn starts (first + length v.children) shapes = subst (λ n. LieOn starts (first + n) shapes) shaped.0.children lie.2 in
    let it = at_child scan starts vdevs (first + length v.children) shapes members shaped.1 next (tail_members scan v vdevs found members are) w guid there in
    let same : (first + length v.children) + w ≡ first + which = omega (arith, is) in
    record {
      sectors = it.sectors;
      child = it.child;
      at = ap (slice_get (mine ++ all_children vdevs members)) (is ∙ ap (λ n. n + w) (sym long)) ∙ slice_get_back mine (all_children vdevs members) w ∙ it.at;
      member = it.member;
      allowed = subst (λ n. IsAllowedSize (size_of starts n)) same it.allowed;
      room = subst (λ n. it.sectors ≤ sectors_of (size_of starts n)) same it.room;
    })
    (front_or_back (length v.children) which)

-- ---- none is absent

none_absent : (found : List (Option ℕ)) → ((k : ℕ) (m : Option ℕ) → slice_get found k ≡ Some m → is_none m ≡ false) → absent_count found ≡ 0
none_absent [] each = refl
none_absent (None ∷ found) each = absurd (true≢false (each 0 None refl))
none_absent (Some m ∷ found) each = none_absent found (λ k. each (suc k))

pub are_enough : (scan : Scan) (vdevs : List PlainVdev) (members : FoundList) → AreAllMembers scan vdevs members
    → ((which : ℕ) (child : Child) → slice_get (all_children vdevs members) which ≡ Some child → is_none child.disk ≡ false) → AreEnough vdevs members
are_enough scan [] members are each k v found at there = absurd (omega (arith, slice_get_within [] k v at))
are_enough scan (w ∷ vdevs) [] are each k v found at there = absurd (omega (arith, are.count))
are_enough scan (w ∷ vdevs) (f ∷ members) are each zero v found at there =
    let mine : List Child = map (child_of w.child_sectors) f.items in
    let none : absent_count f.items ≡ 0 = none_absent f.items (λ j m is.
    each j (child_of w.child_sectors m)
    (slice_get_front mine (all_children vdevs members) j (omega (arith, length-map f.items (child_of w.child_sectors), slice_get_within f.items j m is))
    ∙ slice_get-map (child_of w.child_sectors) f.items j ∙ ap (option_map (child_of w.child_sectors)) is)) in
    let same : f ≡ found = cc in
    subst (λ (x : Vec (Option ℕ) Global). absent_count x.items ≤ v.parity) same (omega (arith, none))
are_enough scan (w ∷ vdevs) (f ∷ members) are each (suc k) v found at there =
    let mine : List Child = map (child_of w.child_sectors) f.items in
    are_enough scan vdevs members (tail_members scan w vdevs f members are)
    (λ which child is. each (length mine + which) child (slice_get_back mine (all_children vdevs members) which ∙ is)) k v found at there
