-- Which of a disk's labels a claim takes its configuration from, and which one it writes first.
use Rattle.std.specs.Prelude.{◌≡◌, ◌⊎◌, ◌≤◌, ◌<◌, ℕ, List, length, Option, Some, None, get_or}
use Rattle.pool_slots.specs.declared.labeled.Labeled.{Labeled}
use Rattle.pool_slots.specs.declared.labeled.Shown.{Shown}

-- the label of this number shows it
abbrev pub At : List (Option Shown) → ℕ → Shown → Type 0
At shown k s = get_or shown k None ≡ Some s

-- the label of this number shows nothing
abbrev pub IsBlank : List (Option Shown) → ℕ → Type 0
IsBlank shown k = (k < length shown) × (get_or shown k None ≡ None)

-- another label shows what has P
pub record HasBeside (shown : List (Option Shown)) (k : ℕ) (P : Shown → Type 0) : Type 0 where
  pub j : ℕ
  pub s : Shown
  pub at : At shown j s
  pub other : ¬ (j ≡ k)
  pub has : P s

-- what a label shows has this claim
abbrev pub has_claim : ℕ → Shown → Type 0
has_claim claim s = s.claim ≡ claim

-- what a label shows has the configuration of this digest
abbrev pub has_config : List ℕ → Shown → Type 0
has_config digest s = s.config_digest ≡ digest

-- the lowest number that has P
abbrev pub IsLowest : (ℕ → Type 0) → ℕ → Type 0
IsLowest P k = P k × ((j : ℕ) → j < k → ¬ P j)

-- without this label the others still have the greatest claim, and its configuration
pub record IsSpare (shown : List (Option Shown)) (claim k : ℕ) : Type 0 where
  pub s : Shown
  pub at : At shown k s
  pub claimed : HasBeside shown k (has_claim claim)
  pub configured : HasBeside shown k (has_config s.config_digest)

-- no label shows a lower claim
pub record IsLeast (shown : List (Option Shown)) (k : ℕ) : Type 0 where
  pub s : Shown
  pub at : At shown k s
  pub least : (j : ℕ) (t : Shown) → At shown j t → s.claim ≤ t.claim

-- The lowest label that shows nothing; where there is none, the lowest that the others do without; where there is none either, the lowest of
-- those with the least claim.
abbrev pub IsClaimLabel : List (Option Shown) → ℕ → ℕ → Type 0
IsClaimLabel shown claim k =
    IsLowest (IsBlank shown) k
    ⊎ ((((j : ℕ) → ¬ IsBlank shown j) × IsLowest (IsSpare shown claim) k)
    ⊎ (((j : ℕ) → ¬ IsBlank shown j) × ((j : ℕ) → ¬ IsSpare shown claim j) × IsLowest (IsLeast shown) k))

-- the claim that is shown, or 0
abbrev pub claim_of : Option Shown → ℕ
claim_of None = 0
claim_of (Some s) = s.claim

-- of the first n labels the lowest with the least claim
pub record IsFirstLeast (shown : List (Option Shown)) (n k : ℕ) : Type 0 where
  pub least : (j : ℕ) → j < n → claim_of (get_or shown k None) ≤ claim_of (get_or shown j None)
  pub first : (j : ℕ) → j < k → claim_of (get_or shown k None) < claim_of (get_or shown j None)

-- of the first n labels the greatest claim, or 0
pub record IsGreatestOf (shown : List (Option Shown)) (n claim : ℕ) : Type 0 where
  pub is : (claim ≡ 0) ⊎ ((k : ℕ) × (k < length shown) × (claim_of (get_or shown k None) ≡ claim))
  pub greatest : (j : ℕ) → j < n → claim_of (get_or shown j None) ≤ claim

-- of those with this configuration the one with the greatest claim, the lowest of several
pub record IsSource (shown : List (Option Shown)) (digest : List ℕ) (k : ℕ) : Type 0 where
  pub s : Shown
  pub at : At shown k s
  pub config : has_config digest s
  pub greatest : (j : ℕ) (t : Shown) → At shown j t → has_config digest t → (t.claim ≤ s.claim) × (j < k → t.claim < s.claim)

-- it has this configuration, and a greater claim than the best one of so many, if there is one
pub record IsBetter (best : Option (ℕ × ℕ)) (digest : List ℕ) (it : Shown) : Type 0 where
  pub config : has_config digest it
  pub above : (b : ℕ × ℕ) → best ≡ Some b → b.1 < it.claim

-- a label shows this claim, and none a greater one
pub record IsGreatest (shown : List (Option Shown)) (claim : ℕ) : Type 0 where
  pub k : ℕ
  pub s : Shown
  pub at : At shown k s
  pub is : has_claim claim s
  pub greatest : (j : ℕ) (t : Shown) → At shown j t → t.claim ≤ claim

-- no label has this configuration
abbrev pub NoneHas : List (Option Shown) → List ℕ → Type 0
NoneHas shown digest = (k : ℕ) (s : Shown) → At shown k s → ¬ has_config digest s

-- what a claim takes from what they show, of those with its configuration
pub record IsSummary (shown : List (Option Shown)) (it : Labeled) : Type 0 where
  pub greatest : IsGreatest shown it.claim
  pub source : IsSource shown it.config_digest it.source
  pub first : IsClaimLabel shown it.claim it.first

-- of those with this configuration, or where none has it with that of some label
pub record IsLabeledOf (shown : List (Option Shown)) (digest : List ℕ) (it : Labeled) : Type 0 where
  pub summary : IsSummary shown it
  pub config : (it.config_digest ≡ digest) ⊎ NoneHas shown digest
