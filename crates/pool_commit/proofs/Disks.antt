-- The vdevs of a store as the machine knows them, and their disks.
use Rattle.std.proofs.Common.{◌≡◌, ℕ, zero, suc, rules, ◌+◌, ◌<◌, ◌≤◌, Bool, true, false, List, [], ◌∷◌, ◌++◌, length, Some, None, Contains, refl, sym, ap, ◌∙◌, subst, arith, take, inl, inr, append_assoc}
use Rattle.std.specs.Prelude.{filter, nat_le, ◌&&◌, slice_get, if◌then◌else◌}
use Rattle.std.specs.Option.{option_map}
use Rattle.std.proofs.lemmas.Bool.Decides.{nat_tests}
use Rattle.std.proofs.lemmas.Grind.{flat_map-append}
use Rattle.std.proofs.lemmas.List.{append-nil}
use Rattle.std.proofs.lemmas.List.Elements.{filter-append, Contains-append_cases}
use Rattle.std.proofs.lemmas.List.Folds.{list_all-append}
use Rattle.std.proofs.lemmas.Option.{slice_get-map}
use Rattle.raidz_io.proofs.Calls.{Contains-front, Contains-later, Contains-cases}
use Rattle.block_store.specs.declared.shape.VdevShape.{VdevShape}
use Rattle.block_store.specs.Spaces.{VdevSpace}
use Rattle.block_store.specs.Places.{shapes_of}
use Rattle.pool_model.specs.View.{Vdev, counted, disks_of, lost_in, is_tolerable}
use Rattle.disk_set.specs.declared.behind.SlotWrite.{SlotWrite}
use Rattle.pool_commit.specs.Config.{shown, vdevs_of}
use Rattle.pool_commit.specs.HasDisks.{AreBelow, AreSlotsBelow}
use Rattle.pool_commit.specs.Slots.{slots_of_disk, all_slots}
use Rattle.pool_commit.proofs.SlotWrites.{cases_in}

-- the vdev of a shape that is there
pub vdev_there : (spaces : List VdevSpace) (i : ℕ) (shape : VdevShape) → option_map (λ (s : VdevSpace). s.shape) (slice_get spaces i) ≡ Some shape
    → slice_get (vdevs_of spaces) i ≡ Some (shown shape.vdev)
vdev_there spaces i shape e =
    slice_get-map (λ (s : VdevShape). shown s.vdev) (shapes_of spaces) i
    ∙ ap (option_map (λ (s : VdevShape). shown s.vdev)) (slice_get-map (λ (s : VdevSpace). s.shape) spaces i ∙ e)

-- one more of a list
pub take_next : {X : Type 0} (xs : List X) (i : ℕ) (x : X) → slice_get xs i ≡ Some x → take (suc i) xs ≡ take i xs ++ x ∷ []
take_next [] i x e = let no : None ≡ Some x = e in absurd (cc)
take_next (y ∷ xs) zero x e = let same : y ≡ x = cc in ap (λ z. z ∷ []) same
take_next (y ∷ xs) (suc i) x e = ap (λ zs. y ∷ zs) (take_next xs i x e)

-- all of a list
pub take_whole : {X : Type 0} (xs : List X) (i : ℕ) → length xs ≤ i → take i xs ≡ xs
take_whole [] zero le = refl
take_whole [] (suc i) le = refl
take_whole (x ∷ xs) zero le = absurd (omega arith)
take_whole (x ∷ xs) (suc i) le = ap (λ zs. x ∷ zs) (take_whole xs i (omega arith))

-- ---- tolerance, vdev by vdev

pub tolerable_more : (vdevs : List Vdev) (i : ℕ) (vdev : Vdev) (lost : ℕ → Bool) → slice_get vdevs i ≡ Some vdev → is_tolerable (take i vdevs) lost ≡ true
    → lost_in lost vdev.first vdev.children ≤ vdev.parity → is_tolerable (take (suc i) vdevs) lost ≡ true
tolerable_more vdevs i vdev lost at before few =
    ap (λ vs. is_tolerable vs lost) (take_next vdevs i vdev at)
    ∙ list_all-append (λ (v : Vdev). nat_le (lost_in lost v.first v.children) v.parity) (take i vdevs) (vdev ∷ [])
    ∙ both (is_tolerable (take i vdevs) lost) (nat_le (lost_in lost vdev.first vdev.children) vdev.parity) before (le_test (lost_in lost vdev.first vdev.children) vdev.parity few)
  where
    both : (a b : Bool) → a ≡ true → b ≡ true → (a && (b && true)) ≡ true
    both true true p q = refl
    both true false p q = q
    both false b p q = p

    le_test : (m n : ℕ) → m ≤ n → nat_le m n ≡ true
    le_test m n h = grind (arith, nat_tests)

pub intolerable_at : (vdevs : List Vdev) (i : ℕ) (vdev : Vdev) (lost : ℕ → Bool) → slice_get vdevs i ≡ Some vdev
    → vdev.parity < lost_in lost vdev.first vdev.children → is_tolerable vdevs lost ≡ false
intolerable_at [] i vdev lost at many = let no : None ≡ Some vdev = at in absurd (cc)
intolerable_at (v ∷ vdevs) zero vdev lost at many =
    let same : v ≡ vdev = cc in
    ap (λ b. b && is_tolerable vdevs lost) (subst (λ (w : Vdev). nat_le (lost_in lost w.first w.children) w.parity ≡ false) (sym same) (lt_test vdev.parity (lost_in lost vdev.first vdev.children) many))
  where
    lt_test : (n m : ℕ) → n < m → nat_le m n ≡ false
    lt_test n m h = grind (arith, nat_tests)
intolerable_at (v ∷ vdevs) (suc i) vdev lost at many = right (nat_le (lost_in lost v.first v.children) v.parity) (is_tolerable vdevs lost) (intolerable_at vdevs i vdev lost at many)
  where
    right : (a b : Bool) → b ≡ false → (a && b) ≡ false
    right true b e = e
    right false b e = refl

-- ---- the disks in use, vdev by vdev

pub in_use_more : (vdevs : List Vdev) (i : ℕ) (vdev : Vdev) (kept : ℕ → Bool) → slice_get vdevs i ≡ Some vdev
    → filter kept (disks_of (take (suc i) vdevs)) ≡ filter kept (disks_of (take i vdevs)) ++ filter kept (counted vdev.first vdev.children)
in_use_more vdevs i vdev kept at =
    ap (λ vs. filter kept (disks_of vs)) (take_next vdevs i vdev at)
    ∙ ap (filter kept) (flat_map-append (λ (v : Vdev). counted v.first v.children) (take i vdevs) (vdev ∷ []) ∙ ap (λ ds. disks_of (take i vdevs) ++ ds) (append-nil (counted vdev.first vdev.children)))
    ∙ filter-append kept (disks_of (take i vdevs)) (counted vdev.first vdev.children)

pub counted_below : (first n count disk : ℕ) → first + n ≤ count → Contains (counted first n) disk → disk < count
counted_below first zero count disk le held = absurd (search rules)
counted_below first (suc n) count disk le held = elim (Contains-append_cases (counted first n) ((first + n) ∷ []) disk held) [
  | inl before ↦ counted_below first n count disk (omega arith) before
  | inr here ↦ let same : disk ≡ first + n = search rules in omega arith
]

pub suc_is : (n : ℕ) → suc n ≡ n + 1
suc_is n = omega arith

-- one disk more, where it is kept
pub one_more : (kept : ℕ → Bool) (before old : List ℕ) (first n : ℕ) (b : Bool) → kept (first + n) ≡ b → before ≡ old ++ filter kept (counted first n)
    → before ++ (if b then (first + n) ∷ [] else []) ≡ old ++ filter kept (counted first (n + 1))
one_more kept before old first n b e so =
    ap (λ ds. ds ++ (if b then (first + n) ∷ [] else [])) so
    ∙ append_assoc old (filter kept (counted first n)) (if b then (first + n) ∷ [] else [])
    ∙ ap (λ ds. old ++ ds) (ap (λ ds. filter kept (counted first n) ++ ds) (sym (ap (λ t. if t then (first + n) ∷ [] else []) e))
    ∙ sym (filter-append kept (counted first n) ((first + n) ∷ [])) ∙ ap (λ k. filter kept (counted first k)) (suc_is n))

pub kept_below : (kept : ℕ → Bool) (first n count disk : ℕ) → first + n ≤ count → Contains (filter kept (counted first n)) disk → disk < count
kept_below kept first n count disk le held = counted_below first n count disk le (of_filter kept (counted first n) disk held)
  where
    if_kept : (b : Bool) (y : ℕ) (ys zs : List ℕ) (x : ℕ) → (Contains zs x → Contains ys x) → Contains (if b then y ∷ zs else zs) x → Contains (y ∷ ys) x
    if_kept true y ys zs x rest held = elim (Contains-cases y zs x held) [ inl same ↦ rw same (Contains-front y ys) | inr later ↦ Contains-later y ys x (rest later) ]
    if_kept false y ys zs x rest held = Contains-later y ys x (rest held)

    of_filter : (kept : ℕ → Bool) (xs : List ℕ) (x : ℕ) → Contains (filter kept xs) x → Contains xs x
    of_filter kept [] x held = held
    of_filter kept (y ∷ ys) x held = if_kept (kept y) y ys (filter kept ys) x (of_filter kept ys x) held

-- ---- slots

-- one disk more has its four slots
pub slots_more : (disks : List ℕ) (i disk : ℕ) → slice_get disks i ≡ Some disk → all_slots (take (suc i) disks) ≡ all_slots (take i disks) ++ slots_of_disk disk
slots_more disks i disk at =
    ap all_slots (take_next disks i disk at)
    ∙ flat_map-append slots_of_disk (take i disks) (disk ∷ []) ∙ ap (λ (slots : List SlotWrite). all_slots (take i disks) ++ slots) (append-nil (slots_of_disk disk))

pub slots_below : (count : ℕ) (disks : List ℕ) → AreBelow count disks → AreSlotsBelow count (all_slots disks)
slots_below count [] below write held = absurd (omega (arith, held.1))
slots_below count (disk ∷ disks) below write held = elim (Contains-append_cases (slots_of_disk disk) (all_slots disks) write held) [
  | inl here ↦ four (below disk (Contains-front disk disks)) here
  | inr later ↦ slots_below count disks (λ other among. below other (Contains-later disk disks other among)) write later
]
  where
    is_in : (label : ℕ) → label < 4 → disk < count → write ≡ record { disk = disk; label = label } → (write.disk < count) × (write.label < 4)
    is_in label low under same = subst (λ (w : SlotWrite). (w.disk < count) × (w.label < 4)) (sym same) (under, low)

    four : disk < count → Contains (slots_of_disk disk) write → (write.disk < count) × (write.label < 4)
    four under here = elim (cases_in (record { disk = disk; label = 0 }) (record { disk = disk; label = 1 } ∷ record { disk = disk; label = 2 } ∷ record { disk = disk; label = 3 } ∷ []) write here) [
      | inl same ↦ is_in 0 (omega arith) under same
      | inr more ↦ elim (cases_in (record { disk = disk; label = 1 }) (record { disk = disk; label = 2 } ∷ record { disk = disk; label = 3 } ∷ []) write more) [
        | inl same ↦ is_in 1 (omega arith) under same
        | inr others ↦ elim (cases_in (record { disk = disk; label = 2 }) (record { disk = disk; label = 3 } ∷ []) write others) [
          | inl same ↦ is_in 2 (omega arith) under same
          | inr last ↦ elim (cases_in (record { disk = disk; label = 3 }) [] write last) [
            | inl same ↦ is_in 3 (omega arith) under same
            | inr none ↦ absurd (omega (arith, none.1))
          ]
        ]
      ]
    ]
