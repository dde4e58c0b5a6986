-- Which of two uberblocks is the later one.
use Rattle.std.specs.Prelude.{◌≡◌, ◌<◌, ◌≤◌, ◌+◌, ◌⊎◌, ℕ, List, Option, Some, None, get_or}
use Rattle.uberblock_ring.specs.declared.uberblock.Uberblock.{Uberblock}

-- the first ranks no higher than the second: by the claim, and under one claim by the group
abbrev pub RanksUpTo : Uberblock → Uberblock → Type 0
RanksUpTo first second = (first.claim < second.claim) ⊎ ((first.claim ≡ second.claim) × (first.group ≤ second.group))

-- slot i has the uberblock
abbrev pub Has : List (Option Uberblock) → ℕ → Uberblock → Type 0
Has slots i u = get_or slots i None ≡ Some u

-- slot i has an uberblock that none of the slots ranks above
abbrev pub IsHighest : List (Option Uberblock) → ℕ → Type 0
IsHighest slots i = (u : Uberblock) × Has slots i u × ((j : ℕ) (other : Uberblock) → Has slots j other → RanksUpTo other u)

-- the uberblock of the same claim, and so many groups less
abbrev pub IsRewound : Uberblock → ℕ → Uberblock → Type 0
IsRewound from groups u = (u.claim ≡ from.claim) × (u.group + groups ≡ from.group)
