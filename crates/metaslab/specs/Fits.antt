-- Free runs as long as they can be, by their length and place.
use Rattle.std.specs.Prelude.{ℕ, ◌≡◌, ◌≢◌, ◌⊎◌, ◌+◌, ◌^◌, ◌<◌, ◌≤◌, min, Bool, true, false, Option, IsSomeAnd, IfSome}
use Rattle.std.specs.BTreeSet.{BTreeSet, contains}
use Rattle.std.specs.Ordering.{nat_cmp, ordering_then}
use Rattle.std.specs.declared.cmp.Ordering.{Ordering}
use Rattle.space_map.specs.FreeRuns.{FreeRuns}
use Rattle.space_map.specs.Sectors as sectors

-- the sectors of a run are in the set, and neither the one before it nor the one behind it is
pub record IsWhole (set : ℕ → Bool) (start len : ℕ) : Type 0 where
  pub some : 0 < len
  pub each : (s : ℕ) → start ≤ s → s < start + len → set s ≡ true
  pub before : (s : ℕ) → start ≡ s + 1 → set s ≡ false
  pub behind : set (start + len) ≡ false

-- of the runs that have so many sectors the shortest starts there, and of those as short the first
pub record IsBestFit (set : ℕ → Bool) (sectors start : ℕ) : Type 0 where
  pub len : ℕ
  pub whole : IsWhole set start len
  pub fits : sectors ≤ len
  pub best : (from long : ℕ) → IsWhole set from long → sectors ≤ long → (len < long) ⊎ ((len ≡ long) × (start ≤ from))

-- a length, and a place
abbrev pub by_size : (ℕ × ℕ) → (ℕ × ℕ) → Ordering
by_size x y = ordering_then (nat_cmp x.0 y.0) (nat_cmp x.1 y.1)

-- the run is in the set by size
abbrev pub HasRun : BTreeSet (ℕ × ℕ) → ℕ → ℕ → Type 0
HasRun sizes start len = contains by_size sizes (len, start) ≡ true

-- the set by size has the runs of a set of sectors, each as long as it can be
pub record AreSizesOf (set : ℕ → Bool) (sizes : BTreeSet (ℕ × ℕ)) : Type 0 where
  pub each : (start len : ℕ) → HasRun sizes start len → IsWhole set start len
  pub all : (start len : ℕ) → IsWhole set start len → HasRun sizes start len

-- a run came to a set by size
pub record HasGainedRun (start len : ℕ) (old new : BTreeSet (ℕ × ℕ)) : Type 0 where
  pub gained : HasRun new start len
  pub stay : (from long : ℕ) → HasRun old from long → HasRun new from long
  pub only : (from long : ℕ) → HasRun new from long → HasRun old from long ⊎ ((from ≡ start) × (long ≡ len))

-- a run left it
pub record HasLostRun (start len : ℕ) (old new : BTreeSet (ℕ × ℕ)) : Type 0 where
  pub stay : (from long : ℕ) → HasRun old from long → (from ≢ start) ⊎ (long ≢ len) → HasRun new from long
  pub only : (from long : ℕ) → HasRun new from long → HasRun old from long × ((from ≢ start) ⊎ (long ≢ len))

-- where a set by size is there yet, it is another to which this happened
abbrev pub IsStepOf : (BTreeSet (ℕ × ℕ) → BTreeSet (ℕ × ℕ) → Type 0) → Option (BTreeSet (ℕ × ℕ)) → Option (BTreeSet (ℕ × ℕ)) → Type 0
IsStepOf step old new = IfSome new (λ after. IsSomeAnd old (λ before. step before after))

-- the run from one sector up to another came, or there is none
pub record HasGainedPart (start end : ℕ) (old new : BTreeSet (ℕ × ℕ)) : Type 0 where
  pub some : (len : ℕ) → 0 < len → start + len ≡ end → HasGainedRun start len old new
  pub none : end ≤ start → new ≡ old

-- the run from one sector up to another left, or there is none
pub record HasLostPart (start end : ℕ) (old new : BTreeSet (ℕ × ℕ)) : Type 0 where
  pub some : (len : ℕ) → 0 < len → start + len ≡ end → HasLostRun start len old new
  pub none : end ≤ start → new ≡ old

-- the free runs by place, by size where they were sorted so, and how many calls there were
pub record Tables : Type 0 where
  pub free : FreeRuns
  pub sizes : Option (BTreeSet (ℕ × ℕ))
  pub ticks : ℕ

-- the free sectors, and how many calls changed them
pub record Counted : Type 0 where
  pub free : FreeRuns
  pub ticks : ℕ

-- the set by size, where it is there, has the free runs
abbrev pub AreSorted : Tables → Type 0
AreSorted tables = IfSome tables.sizes (AreSizesOf (sectors.contains tables.free.runs))

-- a count of one call more, which goes no further than that
abbrev pub raised : ℕ → ℕ
raised ticks = min (ticks + 1) (2 ^ 62)

-- a count went on by so many at most, and by one at least unless it is full
pub record IsRaised (most old new : ℕ) : Type 0 where
  pub some : (old < new) ⊎ (new ≡ 2 ^ 62)
  pub few : new ≤ old + most
  pub full : new ≤ 2 ^ 62
