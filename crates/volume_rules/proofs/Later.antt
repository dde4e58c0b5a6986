-- The volume of a name after the groups behind a base one.
use Rattle.std.proofs.Common.{◌≡◌, ◌⊎◌, ⊎_elim, inl, inr, ℕ, zero, suc, ◌<◌, ◌≤◌, Bool, true, false, nat_le, List, Some, refl, sym, ap, ◌∙◌, subst, arith}
use Rattle.std.specs.Prelude.{cond}
use Rattle.std.proofs.lemmas.Bool.Decides.{nat_tests}
use Rattle.pool_model.specs.declared.volume.PlainVolume.{PlainVolume}
use Rattle.pool_model.specs.Pools.{PlainPool, Ledger, volume_at, applied, upto}
use Rattle.pool_model.proofs.Uptos.{upto_base, upto_above}
use Rattle.volume_rules.specs.NowMoves.{AreGood, IsMadeBy}
use Rattle.volume_rules.specs.Overlay.{after_writes}
use Rattle.volume_rules.specs.Shapes.{shape_of}
use Rattle.volume_rules.proofs.Overlays.{behind_group, made_by_applied, name_after_writes, shape_after_writes}

-- a volume after the writes of the groups behind a base one, up to another
unfoldable pub later : PlainVolume → ℕ → Ledger → ℕ → PlainVolume
later volume base ledger zero = volume
later volume base ledger (suc n) = cond (nat_le (suc n) base) volume (after_writes (later volume base ledger n) (ledger (suc n)).writes)

pub shape_later : (base n : ℕ) (ledger : Ledger) (x : PlainVolume) → shape_of (later x base ledger n) ≡ shape_of x
unfolding later
shape_later base zero ledger x = refl
shape_later base (suc n) ledger x =
    elim (nat_le (suc n) base) as (λ b. shape_of (cond b x (after_writes (later x base ledger n) (ledger (suc n)).writes)) ≡ shape_of x) [
      | true ↦ refl
      | false ↦ shape_after_writes (later x base ledger n) (ledger (suc n)).writes ∙ shape_later base n ledger x
    ]

pub name_later : (base n : ℕ) (ledger : Ledger) (x : PlainVolume) → (later x base ledger n).name ≡ x.name
unfolding later
name_later base zero ledger x = refl
name_later base (suc n) ledger x =
    elim (nat_le (suc n) base) as (λ b. let v : PlainVolume = cond b x (after_writes (later x base ledger n) (ledger (suc n)).writes) in v.name ≡ x.name) [
      | true ↦ refl
      | false ↦ name_after_writes (later x base ledger n) (ledger (suc n)).writes ∙ name_later base n ledger x
    ]

-- ---- pools above the base one

climb_cases : (P : ℕ → PlainPool → Type 0) (c n : ℕ) (pool : PlainPool) (ledger : Ledger) (b : Bool) → nat_le c n ≡ b → P c pool → c ≤ suc n → (c ≤ n → P n (upto c pool ledger n))
    → (c ≤ n → P n (upto c pool ledger n) → P (suc n) (applied (suc n) (upto c pool ledger n) (ledger (suc n)))) → P (suc n) (upto c pool ledger (suc n))
climb_cases P c n pool ledger true t start le rest step =
    let low : c ≤ n = grind (arith, nat_tests, t) in
    subst (P (suc n)) (sym (upto_above c n pool ledger low)) (step low (rest low))
climb_cases P c n pool ledger false t start le rest step =
    let same : c ≡ suc n = let high : n < c = grind (arith, nat_tests, t) in omega arith in
    subst (λ k. P k (upto c pool ledger k)) same (subst (P c) (sym (upto_base c pool ledger)) start)

-- what is so of a group's pool, and each group above it keeps
climb : (P : ℕ → PlainPool → Type 0) (c n : ℕ) (pool : PlainPool) (ledger : Ledger) → P c pool
    → ((k : ℕ) → c ≤ k → P k (upto c pool ledger k) → P (suc k) (applied (suc k) (upto c pool ledger k) (ledger (suc k)))) → c ≤ n → P n (upto c pool ledger n)
climb P c zero pool ledger start step le = let none : c ≡ 0 = omega arith in subst (λ k. P k pool) none start
climb P c (suc n) pool ledger start step le = climb_cases P c n pool ledger (nat_le c n) refl start le (climb P c n pool ledger start step) (step n)

pub made_by_upto : (c n : ℕ) (pool : PlainPool) (ledger : Ledger) → AreGood ledger → IsMadeBy c pool → c ≤ n → IsMadeBy n (upto c pool ledger n)
made_by_upto c n pool ledger good made le = climb IsMadeBy c n pool ledger made (λ k low m. made_by_applied k (upto c pool ledger k) (ledger (suc k)) m (good (suc k))) le

later_above : (c n : ℕ) (ledger : Ledger) (x : PlainVolume) → c ≤ n → later x c ledger (suc n) ≡ after_writes (later x c ledger n) (ledger (suc n)).writes
unfolding later
later_above c n ledger x le = grind (arith, nat_tests, le)

later_base : (c : ℕ) (ledger : Ledger) (x : PlainVolume) → later x c ledger c ≡ x
unfolding later
later_base zero ledger x = refl
later_base (suc c) ledger x = grind (arith, nat_tests)

-- what stands there behind the base pool was made behind it, or stood there in it
pub stood_or_made : (c n : ℕ) (pool : PlainPool) (ledger : Ledger) (name : List ℕ) (y : PlainVolume) → c ≤ n → volume_at name (upto c pool ledger n) ≡ Some y
    → ((x : PlainVolume) × (volume_at name pool ≡ Some x) × (later x c ledger n ≡ y)) ⊎ (c < y.group)
stood_or_made c n pool ledger name y le e = climb IsOld c n pool ledger (λ z f. inl (z, f, later_base c ledger z)) further le y e
  where
    IsOld : ℕ → PlainPool → Type 0
    IsOld k p = (y : PlainVolume) → volume_at name p ≡ Some y → ((x : PlainVolume) × (volume_at name pool ≡ Some x) × (later x c ledger k ≡ y)) ⊎ (c < y.group)

    further : (k : ℕ) → c ≤ k → IsOld k (upto c pool ledger k) → IsOld (suc k) (applied (suc k) (upto c pool ledger k) (ledger (suc k)))
    further k low h z f =
        ⊎_elim
        (λ was. ⊎_elim
        (λ old. inl (old.0, old.1, later_above c k ledger old.0 low ∙ (ap (λ v. after_writes v (ledger (suc k)).writes) old.2 ∙ was.2)))
        (λ made. inr (let g = was.3 in let high = made in omega arith))
        (h was.0 was.1))
        (λ made. inr (let g = made in omega arith))
        (behind_group (suc k) (upto c pool ledger k) (ledger (suc k)) name z f)

-- so it stood there where the group that made it is not behind the base one
pub stood_below : (c n : ℕ) (pool : PlainPool) (ledger : Ledger) (name : List ℕ) (y : PlainVolume) → c ≤ n → volume_at name (upto c pool ledger n) ≡ Some y → y.group ≤ c
    → (x : PlainVolume) × (volume_at name pool ≡ Some x) × (later x c ledger n ≡ y)
stood_below c n pool ledger name y le e old = ⊎_elim (λ was. was) (λ made. absurd (let high = made in omega arith)) (stood_or_made c n pool ledger name y le e)
