-- The children that are chosen name each disk once: a disk with two guids is no pool's.
use Rattle.std.proofs.Common.{◌≡◌, ◌≢◌, ◌⊎◌, inl, inr, ℕ, zero, suc, ◌<◌, List, [], ◌∷◌, ◌++◌, map, length, Option, Some, None, All, AllPairs, Contains, refl, sym, ap, ◌∙◌, subst, arith, append_assoc}
use Rattle.std.specs.Prelude.{slice_get, slice_index_or, Vec, option_to_list}
use Rattle.std.specs.declared.alloc.Global.{Global}
use Rattle.std.proofs.lemmas.List.Elements.{All-append, Contains-append_cases, Contains-append_left, Contains-append_right, Contains-get_or}
use Rattle.std.proofs.lemmas.List.{length-map}
use Rattle.std.proofs.lemmas.List.Kept.{AllPairs-cons}
use Rattle.model_disk.specs.Joint.{Disks}
use Rattle.model_disk.specs.declared.disk.Disk as disk
use Rattle.std.proofs.lemmas.Option.{slice_get_within}
use Rattle.vdev_label.specs.Config.{guids}
use Rattle.vdev_label.specs.Plain.{PlainVdev, config_view}
use Rattle.vdev_label.specs.declared.label.Label.{Label}
use Rattle.pool_labels.specs.Choices.{AllAgree, Agree, AreAllMembers, IsChoice, IsMember, IsPresent, IsValidAt, LabelsAgree}
use Rattle.pool_labels.specs.declared.choice.Choice.{Choice}
use Rattle.pool_labels.specs.declared.scanned.Reading.{Reading}
use Rattle.pool_labels.specs.declared.scanned.Reading.TheVariants.{Valid}
use Rattle.pool_labels.specs.declared.scanned.Scan.{Scan}
use Rattle.pool_labels.specs.declared.scanned.ScannedLabel.{ScannedLabel}
use Rattle.pool_members.specs.Arranged.{AreEachOnce, places}
use Rattle.pool_members.specs.declared.arranging.Child.{Child}
use Rattle.pool_open.specs.Children.{all_children, child_of}
use Rattle.pool_open.specs.Finding.{IsArrayOf, IsLayoutOf}
use Rattle.pool_open.specs.declared.finding.Layout.{Layout}
use Rattle.pool_open.proofs.Layouts.{same_label}

-- ---- lists

pub cases_in : {X : Type 0} (x : X) (xs : List X) (y : X) → Contains (x ∷ xs) y → (y ≡ x) ⊎ Contains xs y
cases_in x xs y (zero, within, is) = inl (sym is)
cases_in x xs y (suc k, within, is) = inr (k, omega arith, is)

pub there_first : {X : Type 0} (x : X) (xs : List X) → Contains (x ∷ xs) x
there_first x xs = (0, omega arith, refl)

pub there_later : {X : Type 0} (x : X) (xs : List X) (y : X) → Contains xs y → Contains (x ∷ xs) y
there_later x xs y held = (suc held.0, omega (arith, held.1), held.2)

pub none_there : {X : Type 0} (y : X) → Contains [] y → ⊥
none_there y held = omega (arith, held.1)

pub all_from : {X : Type 0} (P : X → Type 0) (xs : List X) → ((x : X) → Contains xs x → P x) → All P xs
all_from P xs each = λ k d within. each (slice_index_or xs k d) (Contains-get_or xs k d within)

pub pairs_head : {X : Type 0} (R : X → X → Type 0) (x : X) (xs : List X) (y : X) → AllPairs R (x ∷ xs) → Contains xs y → R x y
pairs_head R x xs y all held = subst (R x) held.2 (all 0 (suc held.0) y (omega arith) (omega (arith, held.1)))

pub pairs_tail : {X : Type 0} (R : X → X → Type 0) (x : X) (xs : List X) → AllPairs R (x ∷ xs) → AllPairs R xs
pairs_tail R x xs all = λ i j d before within. all (suc i) (suc j) d (omega (arith, before)) (omega (arith, within))

pub pairs_none : {X : Type 0} (R : X → X → Type 0) → AllPairs R []
pairs_none R = λ i j d before within. absurd (omega (arith, within))

pub pairs_front : {X : Type 0} (R : X → X → Type 0) (xs ys : List X) → AllPairs R (xs ++ ys) → AllPairs R xs
pairs_front R [] ys all = pairs_none R
pairs_front R (x ∷ xs) ys all =
    AllPairs-cons R x xs (all_from (R x) xs (λ y held. pairs_head R x (xs ++ ys) y all (Contains-append_left xs ys y held)))
    (pairs_front R xs ys (pairs_tail R x (xs ++ ys) all))

pub pairs_back : {X : Type 0} (R : X → X → Type 0) (xs ys : List X) → AllPairs R (xs ++ ys) → AllPairs R ys
pairs_back R [] ys all = all
pairs_back R (x ∷ xs) ys all = pairs_back R xs ys (pairs_tail R x (xs ++ ys) all)

pub pairs_cross : {X : Type 0} (R : X → X → Type 0) (xs ys : List X) (x y : X) → AllPairs R (xs ++ ys) → Contains xs x → Contains ys y → R x y
pairs_cross R [] ys x y all held held' = absurd (none_there x held)
pairs_cross {X = X} R (z ∷ xs) ys x y all held held' = elim (cases_in z xs x held) [
  | inl is ↦ subst (λ (it : X). R it y) (sym is) (pairs_head R z (xs ++ ys) y all (Contains-append_right xs ys y held'))
  | inr there ↦ pairs_cross R xs ys x y (pairs_tail R z (xs ++ ys) all) there held'
]

pub pairs_append : {X : Type 0} (R : X → X → Type 0) (xs ys : List X) → AllPairs R xs → AllPairs R ys → ((x y : X) → Contains xs x → Contains ys y → R x y) → AllPairs R (xs ++ ys)
pairs_append R [] ys one other cross = other
pairs_append R (x ∷ xs) ys one other cross =
    AllPairs-cons R x (xs ++ ys)
    (All-append (R x) xs ys (all_from (R x) xs (λ y held. pairs_head R x xs y one held)) (all_from (R x) ys (λ y held. cross x y (there_first x xs) held)))
    (pairs_append R xs ys (pairs_tail R x xs one) other (λ z y held held'. cross z y (there_later x xs z held) held'))

places-append : (xs ys : List Child) → places (xs ++ ys) ≡ places xs ++ places ys
places-append [] ys = refl
places-append (child ∷ xs) ys =
    ap (λ (rest : List ℕ). option_to_list child.disk ++ rest) (places-append xs ys) ∙ sym (append_assoc (option_to_list child.disk) (places xs) (places ys))

-- ---- one disk has one guid

-- the disk is present as that guid
abbrev IsNamed : Scan → ℕ → ℕ → Type 0
IsNamed scan guid which = (sectors : ℕ) × IsPresent scan sectors guid which

ordered : (i j : ℕ) → (i < j) ⊎ ((j < i) ⊎ (i ≡ j))
ordered i j = grind arith

-- two labels of one disk that agree have one guid
agreeing : (s t : ScannedLabel) (l m : Label) → LabelsAgree s t → s.reading ≡ Valid l → t.reading ≡ Valid m → s.disk ≡ t.disk → l.guid ≡ m.guid
agreeing s t l m agree is is' same =
    let P : Reading → Type 0 = λ reading. Agree s.disk reading t.disk t.reading in
    let Q : Reading → Type 0 = λ reading. Agree s.disk (Valid l) t.disk reading in
    let both : Agree s.disk (Valid l) t.disk (Valid m) = subst Q is' (subst P is agree) in
    both.same same

same_guid : (scan : Scan) (g h which : ℕ) → AllAgree scan.labels.items → IsNamed scan g which → IsNamed scan h which → g ≡ h
same_guid scan g h which agree one other =
    let a = one.1 in
    let b = other.1 in
    let here : a.s.disk ≡ b.s.disk = a.disk ∙ sym b.disk in
    let guids_are : a.l.guid ≡ b.l.guid = elim (ordered a.i b.i) [
      | inl before ↦ agreeing a.s b.s a.l b.l (agree b.i a.i a.s b.s before a.at.at b.at.at) a.at.valid b.at.valid here
      | inr (inl behind) ↦ sym (agreeing b.s a.s b.l a.l (agree a.i b.i b.s a.s behind b.at.at a.at.at) b.at.valid a.at.valid (sym here))
      | inr (inr same) ↦ ap (λ (l : Label). l.guid) (same_label scan.labels.items a.i a.s b.s a.l b.l a.at (subst (λ (i : ℕ). IsValidAt scan.labels.items i b.s b.l) (sym same) b.at))
    ] in
    sym a.named ∙ guids_are ∙ b.named

-- ---- the children of one vdev

named_in : (scan : Scan) (n : ℕ) (gs : List ℕ) (ms : List (Option ℕ)) → length ms ≡ length gs
    → ((k g : ℕ) (m : Option ℕ) → slice_get gs k ≡ Some g → slice_get ms k ≡ Some m → IsMember scan n g m)
    → (p : ℕ) → Contains (places (map (child_of n) ms)) p → (g : ℕ) × Contains gs g × IsNamed scan g p
named_in scan n gs [] count each p held = absurd (none_there p held)
named_in scan n [] (m ∷ ms) count each p held = absurd (cc)
named_in scan n (g ∷ gs) (None ∷ ms) count each p held =
    let later = named_in scan n gs ms (omega (arith, count)) (λ k. each (suc k)) p held in
    (later.0, there_later g gs later.0 later.1, later.2)
named_in scan n (g ∷ gs) (Some q ∷ ms) count each p held = elim (cases_in q (places (map (child_of n) ms)) p held) [
  | inl is ↦ (g, there_first g gs, (n, subst (IsPresent scan n g) (sym is) (each 0 g (Some q) refl refl)))
  | inr there ↦
      let later = named_in scan n gs ms (omega (arith, count)) (λ k. each (suc k)) p there in
      (later.0, there_later g gs later.0 later.1, later.2)
]

abbrev pub Differ : ℕ → ℕ → Type 0
Differ a b = a ≢ b

once_in : (scan : Scan) (n : ℕ) (gs : List ℕ) (ms : List (Option ℕ)) → AllAgree scan.labels.items → AllPairs Differ gs → length ms ≡ length gs
    → ((k g : ℕ) (m : Option ℕ) → slice_get gs k ≡ Some g → slice_get ms k ≡ Some m → IsMember scan n g m) → AllPairs Differ (places (map (child_of n) ms))
once_in scan n gs [] agree apart count each = pairs_none Differ
once_in scan n [] (m ∷ ms) agree apart count each = absurd (cc)
once_in scan n (g ∷ gs) (None ∷ ms) agree apart count each = once_in scan n gs ms agree (pairs_tail Differ g gs apart) (omega (arith, count)) (λ k. each (suc k))
once_in scan n (g ∷ gs) (Some q ∷ ms) agree apart count each =
    let rest = places (map (child_of n) ms) in
    let named = named_in scan n gs ms (omega (arith, count)) (λ k. each (suc k)) in
    AllPairs-cons Differ q rest
    (all_from (Differ q) rest (λ p held same.
    let other = named p held in
    pairs_head Differ g gs other.0 apart other.1
    (same_guid scan g other.0 p agree (n, subst (IsPresent scan n g) same (each 0 g (Some q) refl refl)) other.2)))
    (once_in scan n gs ms agree (pairs_tail Differ g gs apart) (omega (arith, count)) (λ k. each (suc k)))

-- ---- those of all

abbrev pub FoundList : Type 0
FoundList = List (Vec (Option ℕ) Global)

pub tail_members : (scan : Scan) (v : PlainVdev) (vs : List PlainVdev) (f : Vec (Option ℕ) Global) (fs : FoundList) → AreAllMembers scan (v ∷ vs) (f ∷ fs) → AreAllMembers scan vs fs
tail_members scan v vs f fs are = record { count = omega (arith, are.count); each = λ k. are.each (suc k) }

named_all : (scan : Scan) (vs : List PlainVdev) (fs : FoundList) → AreAllMembers scan vs fs → (p : ℕ) → Contains (places (all_children vs fs)) p
    → (g : ℕ) × Contains (guids vs) g × IsNamed scan g p
named_all scan [] fs are p held = absurd (none_there p held)
named_all scan (v ∷ vs) [] are p held = absurd (none_there p held)
named_all scan (v ∷ vs) (f ∷ fs) are p held =
    let here = are.each 0 v f refl refl in
    let mine = map (child_of v.child_sectors) f.items in
    let split : Contains (places mine ++ places (all_children vs fs)) p = subst (λ (them : List ℕ). Contains them p) (places-append mine (all_children vs fs)) held in
    elim (Contains-append_cases (places mine) (places (all_children vs fs)) p split) [
      | inl there ↦
          let found = named_in scan v.child_sectors v.children f.items here.count here.each p there in
          (found.0, Contains-append_left (v.guid ∷ v.children) (guids vs) found.0 (there_later v.guid v.children found.0 found.1), found.2)
      | inr there ↦
          let found = named_all scan vs fs (tail_members scan v vs f fs are) p there in
          (found.0, Contains-append_right (v.guid ∷ v.children) (guids vs) found.0 found.1, found.2)
    ]

once_all : (scan : Scan) (vs : List PlainVdev) (fs : FoundList) → AllAgree scan.labels.items → AllPairs Differ (guids vs) → AreAllMembers scan vs fs
    → AllPairs Differ (places (all_children vs fs))
once_all scan [] fs agree apart are = pairs_none Differ
once_all scan (v ∷ vs) [] agree apart are = pairs_none Differ
once_all scan (v ∷ vs) (f ∷ fs) agree apart are =
    let here = are.each 0 v f refl refl in
    let mine = map (child_of v.child_sectors) f.items in
    let behind = tail_members scan v vs f fs are in
    let own : AllPairs Differ v.children = pairs_tail Differ v.guid v.children (pairs_front Differ (v.guid ∷ v.children) (guids vs) apart) in
    subst (AllPairs Differ) (sym (places-append mine (all_children vs fs)))
    (pairs_append Differ (places mine) (places (all_children vs fs)) (once_in scan v.child_sectors v.children f.items agree own here.count here.each)
    (once_all scan vs fs agree (pairs_back Differ (v.guid ∷ v.children) (guids vs) apart) behind)
    (λ p q held held' same.
    let one = named_in scan v.child_sectors v.children f.items here.count here.each p held in
    let other = named_all scan vs fs behind q held' in
    pairs_cross Differ (v.guid ∷ v.children) (guids vs) one.0 other.0 apart (there_later v.guid v.children one.0 one.1) other.1
    (same_guid scan one.0 other.0 q agree (subst (IsNamed scan one.0) same one.2) other.2)))

-- what is chosen names disks that were scanned, each once
pub each_once : (scan : Scan) (rewind : ℕ) (choice : Choice) (is : IsChoice scan rewind choice)
    → AreEachOnce (length scan.disks.items) (all_children (config_view is.l.config) choice.members.items)
each_once scan rewind choice is =
    let vs = config_view is.l.config in
    let fs = choice.members.items in
    let apart = pairs_tail Differ is.l.pool_guid (guids vs) is.configured.fit.allowed.distinct in
    record {
      among = all_from (λ place. place < length scan.disks.items) (places (all_children vs fs)) (λ p held.
          let found = named_all scan vs fs is.members p held in
          slice_get_within scan.disks.items p found.2.1.usable.d found.2.1.usable.at);
      once = once_all scan vs fs is.configured.found.agree apart is.members;
    }

-- so it may be arranged
pub layout_once : {D : Type 0} (g : disk.Ghosts D) (after : List D) (old new : Disks) (rewind : ℕ) (layout : Layout) → IsLayoutOf old new rewind layout → IsArrayOf g after new
    → new.starts ≡ old.starts → AreEachOnce (length after) layout.children.items
layout_once g after old new rewind layout laid array starts =
    let count : length after ≡ length laid.scan.disks.items = sym (length-map after g.start) ∙ ap length (sym array.0 ∙ starts) ∙ sym laid.read.count in
    let P : List Child → Type 0 = λ them. AreEachOnce (length after) them in
    subst P (sym laid.laid_out.children)
    (subst (λ (n : ℕ). AreEachOnce n (all_children (config_view laid.chosen.l.config) laid.choice.members.items)) (sym count)
    (each_once laid.scan rewind laid.choice laid.chosen))
