-- How late labels are.
use Rattle.std.specs.Prelude.{◌≡◌, ◌⊎◌, ◌<◌, ℕ, List, length, slice_get, get_or, Option, Some, None}
use Rattle.vdev_label.specs.Pairs.{state_number}
use Rattle.vdev_label.specs.declared.label.Label.{Label}
use Rattle.pool_labels.specs.Choices.{IsAbove, of_config}
use Rattle.pool_labels.specs.declared.scanned.Reading.{Reading}
use Rattle.pool_labels.specs.declared.scanned.Reading.TheVariants.{Valid, Bad, Unreadable}
use Rattle.pool_labels.specs.declared.scanned.ScannedLabel.{ScannedLabel}
use Rattle.pool_labels.specs.declared.sources.Rank.{Rank}

-- the first rank is later than the second: by claim, then group, then state
abbrev pub IsLaterRank : Rank → Rank → Type 0
IsLaterRank r t = IsAbove r.claim r.group r.state t.claim t.group t.state

-- of a label with this configuration
abbrev pub IsRank : List ℕ → Label → Option Rank → Type 0
IsRank digest l None = ¬ of_config digest l
IsRank digest l (Some r) = of_config digest l × (r.claim ≡ l.claim) × (r.group ≡ l.group) × (r.state ≡ state_number l.state)

-- of what was read, if it is one
abbrev pub RankIs : List ℕ → Reading → Option Rank → Type 0
RankIs digest (Valid l) rank = IsRank digest l rank
RankIs digest (Bad it) rank = rank ≡ None
RankIs digest Unreadable rank = rank ≡ None

-- of each
pub record AreRanks (digest : List ℕ) (labels : List ScannedLabel) (ranks : List (Option Rank)) : Type 0 where
  pub count : length ranks ≡ length labels
  pub each : (i : ℕ) (s : ScannedLabel) → slice_get labels i ≡ Some s → RankIs digest s.reading (get_or ranks i None)

-- the label at this place has this rank
abbrev pub AtRank : List (Option Rank) → ℕ → Rank → Type 0
AtRank ranks i r = get_or ranks i None ≡ Some r

-- none of the first so many
abbrev pub NoneBelow : ℕ → List (Option Rank) → Type 0
NoneBelow n ranks = (j : ℕ) (t : Rank) → j < n → ¬ AtRank ranks j t

-- of the first so many none is later, and each in front of it is earlier
pub record IsLatestBelow (n : ℕ) (ranks : List (Option Rank)) (i : ℕ) (r : Rank) : Type 0 where
  pub at : AtRank ranks i r
  pub latest : (j : ℕ) (t : Rank) → j < n → AtRank ranks j t → (¬ IsLaterRank t r) × (j < i → IsLaterRank r t)

-- of all
abbrev pub NoneAt : List (Option Rank) → Type 0
NoneAt ranks = NoneBelow (length ranks) ranks

-- the label at this place is the latest of all that have a rank, the first of several
abbrev pub IsLatest : List (Option Rank) → ℕ → Type 0
IsLatest ranks i = (r : Rank) × IsLatestBelow (length ranks) ranks i r

-- the later of two, the first where they are as late
abbrev pub IsLaterOf : Option (ℕ × Rank) → ℕ × Rank → ℕ × Rank → Type 0
IsLaterOf None next it = it ≡ next
IsLaterOf (Some best) next it = ((it ≡ next) × IsLaterRank next.1 best.1) ⊎ ((it ≡ best) × (¬ IsLaterRank next.1 best.1))
