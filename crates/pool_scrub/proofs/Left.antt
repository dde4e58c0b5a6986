-- Disks of which something is left to be mended, and disks that are lost for a block.
use Rattle.std.proofs.Common.{ℕ, zero, suc, ◌≡◌, ◌⊎◌, ◌+◌, inl, inr, Bool, true, false, Option, List, [], ◌∷◌, ◌++◌, map, replicate, Contains, refl, sym, ap, subst, arith, if◌then◌else◌}
use Rattle.std.proofs.lemmas.List.Elements.{Contains-append_cases, Contains-append_right}
use Rattle.block_store.specs.Store.{Store, is_out, is_stale, lost, missed, outs, outs_from, stale_from}
use Rattle.disk_set.specs.Outs.{is_in}
use Rattle.disk_set.specs.declared.stale.GroupSpan.{GroupSpan}
use Rattle.scrub_resilver.specs.declared.fault.Finding.{Finding}
use Rattle.pool_scrub.proofs.Whole.{kept_all}
use Rattle.pool_scrub.specs.declared.healing.Healed.{Healed}

pub either : (b : Bool) → (b ≡ true) ⊎ (b ≡ false)
either true = inl refl
either false = inr refl

-- ---- numbers in a list

in_front : (x : ℕ) (xs : List ℕ) → Contains (x ∷ xs) x
in_front x xs = (0, omega arith, refl)

later : (x : ℕ) (xs : List ℕ) (y : ℕ) → Contains xs y → Contains (x ∷ xs) y
later x xs y (k, within, is) = (suc k, omega (arith, within), is)

first_or_later : (x : ℕ) (xs : List ℕ) (y : ℕ) → Contains (x ∷ xs) y → (y ≡ x) ⊎ Contains xs y
first_or_later x xs y (zero, within, is) = inl (sym is)
first_or_later x xs y (suc k, within, is) = inr (k, omega (arith, within), is)

-- ---- the disks of findings

-- those of which something is left to be mended
abbrev pub disks_left : Healed → List ℕ
disks_left healed = map (λ one. one.disk) healed.left.items

pub disk_among : (found : List Finding) (one : Finding) → Contains found one → Contains (map (λ f. f.disk) found) one.disk
disk_among [] one (k, within, is) = absurd (omega (arith, within))
disk_among (f ∷ found) one (zero, within, is) = (0, omega arith, ap (λ (x : Finding). x.disk) is)
disk_among (f ∷ found) one (suc k, within, is) = later f.disk (map (λ g. g.disk) found) one.disk (disk_among found one (k, omega (arith, within), is))

pub finding_of : (found : List Finding) (disk : ℕ) → Contains (map (λ f. f.disk) found) disk → (one : Finding) × Contains found one × (one.disk ≡ disk)
finding_of [] disk (k, within, is) = absurd (omega (arith, within))
finding_of (f ∷ found) disk (zero, within, is) = (f, (0, omega arith, refl), is)
finding_of (f ∷ found) disk (suc k, within, is) =
    let (one, (m, there, at), same) = finding_of found disk (k, omega (arith, within), is) in (one, (suc m, omega (arith, there), at), same)

-- ---- disks that are lost for a block

grown : (b : Bool) (x : ℕ) (xs : List ℕ) (y : ℕ) → Contains xs y → Contains (if b then x ∷ xs else xs) y
grown true x xs y held = later x xs y held
grown false x xs y held = held

missed_from : (stale : List (Option GroupSpan)) (first disk birth : ℕ) → is_stale stale disk birth ≡ true → Contains (stale_from first stale birth) (first + disk)
missed_from [] first disk birth is = absurd (cc)
missed_from (span ∷ rest) first zero birth is =
    let behind : List ℕ = stale_from (suc first) rest birth in
    let here : first + 0 ≡ first = omega arith in
    subst (λ (xs : List ℕ). Contains xs (first + 0)) (sym (ap (λ (b : Bool). if b then first ∷ behind else behind) is))
    (subst (λ (d : ℕ). Contains (first ∷ behind) d) (sym here) (in_front first behind))
missed_from (span ∷ rest) first (suc disk) birth is =
    let next : first + suc disk ≡ suc first + disk = omega arith in
    grown (is_in span birth) first (stale_from (suc first) rest birth) (first + suc disk)
    (subst (λ (d : ℕ). Contains (stale_from (suc first) rest birth) d) (sym next) (missed_from rest (suc first) disk birth is))

marked_from : (out : List Bool) (first disk : ℕ) → is_out out disk ≡ true → Contains (outs_from first out) (first + disk)
marked_from [] first disk is = absurd (cc)
marked_from (true ∷ rest) first zero is =
    let here : first + 0 ≡ first = omega arith in
    subst (λ (d : ℕ). Contains (first ∷ outs_from (suc first) rest) d) (sym here) (in_front first (outs_from (suc first) rest))
marked_from (false ∷ rest) first zero is = absurd (cc)
marked_from (out ∷ rest) first (suc disk) is =
    let next : first + suc disk ≡ suc first + disk = omega arith in
    grown out first (outs_from (suc first) rest) (first + suc disk)
    (subst (λ (d : ℕ). Contains (outs_from (suc first) rest) d) (sym next) (marked_from rest (suc first) disk is))

-- a disk that is out is among those
pub out_among : (out : List Bool) (disk : ℕ) → is_out out disk ≡ true → Contains (outs_from 0 out) disk
out_among out disk is =
    let same : 0 + disk ≡ disk = omega arith in
    subst (λ (d : ℕ). Contains (outs_from 0 out) d) same (marked_from out 0 disk is)

-- and one that is among them is out
outs_are : (first : ℕ) (out : List Bool) (disk : ℕ) → Contains (outs_from first out) disk → (k : ℕ) × (disk ≡ first + k) × (is_out out k ≡ true)
outs_are first [] disk (k, within, is) = absurd (omega (arith, within))
outs_are first (true ∷ rest) disk held = elim (first_or_later first (outs_from (suc first) rest) disk held) [
  | inl same ↦ (0, omega (arith, same), refl)
  | inr behind ↦ let (k, is, out) = outs_are (suc first) rest disk behind in (suc k, omega (arith, is), out)
]
outs_are first (false ∷ rest) disk held = let (k, is, out) = outs_are (suc first) rest disk held in (suc k, omega (arith, is), out)

pub out_of : (out : List Bool) (disk : ℕ) → Contains (outs_from 0 out) disk → is_out out disk ≡ true
out_of out disk held =
    let (k, is, marked) = outs_are 0 out disk held in
    let same : k ≡ disk = omega (arith, is) in
    subst (λ (d : ℕ). is_out out d ≡ true) same marked

-- a disk that missed the block's group is lost for it
pub stale_is_lost : (store : Store) (birth disk : ℕ) → is_stale store.spans.stale disk birth ≡ true → Contains (lost store birth) disk
stale_is_lost store birth disk is =
    let same : 0 + disk ≡ disk = omega arith in
    Contains-append_right _ (missed store birth) disk
    (subst (λ (d : ℕ). Contains (missed store birth) d) same (missed_from store.spans.stale 0 disk birth is))

-- and one that is lost where disks are out from the start is out, or missed it
stale_of : (first : ℕ) (stale : List (Option GroupSpan)) (birth disk : ℕ) → Contains (stale_from first stale birth) disk
    → (k : ℕ) × (disk ≡ first + k) × (is_stale stale k birth ≡ true)
stale_of first [] birth disk (k, within, is) = absurd (omega (arith, within))
stale_of first (span ∷ rest) birth disk held = elim (either (is_in span birth)) [
  | inl here ↦
      elim (first_or_later first (stale_from (suc first) rest birth) disk
      (subst (λ (b : Bool). Contains (if b then first ∷ stale_from (suc first) rest birth else stale_from (suc first) rest birth) disk) here held)) [
        | inl same ↦ (0, omega (arith, same), here)
        | inr behind ↦ let (k, is, stale) = stale_of (suc first) rest birth disk behind in (suc k, omega (arith, is), stale)
      ]
  | inr not ↦
      let (k, is, stale) =
      stale_of (suc first) rest birth disk
      (subst (λ (b : Bool). Contains (if b then first ∷ stale_from (suc first) rest birth else stale_from (suc first) rest birth) disk) not held) in
      (suc k, omega (arith, is), stale)
]

pub lost_is : (store : Store) (n birth disk : ℕ) → store.spans.since ≡ replicate n 0 → Contains (lost store birth) disk
    → Contains (outs store) disk ⊎ (is_stale store.spans.stale disk birth ≡ true)
lost_is store n birth disk since held =
    elim (Contains-append_cases (outs store) (missed store birth) disk
    (subst (λ (them : List ℕ). Contains (them ++ missed store birth) disk) (kept_all store.spans.since n birth (outs store) since) held)) [
      | inl out ↦ inl out
      | inr missed' ↦
          let (k, is, stale) = stale_of 0 store.spans.stale birth disk missed' in
          let same : k ≡ disk = omega (arith, is) in
          inr (subst (λ (d : ℕ). is_stale store.spans.stale d birth ≡ true) same stale)
    ]
