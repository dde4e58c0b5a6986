-- Disks that are out, and which blocks disks may lack.
use Rattle.std.specs.Prelude.{ℕ, suc, ◌≡◌, ◌≢◌, ◌&&◌, ◌||◌, ◌==◌, nat_le, nat_lt, min, not, Bool, false, if◌then◌else◌, Option, Some, None, List, [], ◌∷◌, length, map, slice_index_or, slice_set}
use Rattle.disk_set.specs.declared.stale.GroupSpan.{GroupSpan}

-- Which blocks disks may lack. A plan is of a transaction group, and no block of it was born before that group.
pub record Spans : Type 0 where
  pub since : List ℕ  -- of each disk that is out, the first group whose blocks it may lack
  pub group : ℕ  -- the group of the plan
  pub stale : List (Option GroupSpan)  -- of each disk, the groups that it missed before, if any: in use or not, it may lack their blocks

-- the group is one of these
abbrev pub is_in : Option GroupSpan → ℕ → Bool
is_in None group = false
is_in (Some span) group = nat_le span.from group && nat_le group span.to

-- that disk missed the group in which a block was born
abbrev pub is_stale : List (Option GroupSpan) → ℕ → ℕ → Bool
is_stale stale disk birth = is_in (slice_index_or stale disk None) birth

-- the numbers of those that did, of disks from this number on
abbrev pub stale_from : ℕ → List (Option GroupSpan) → ℕ → List ℕ
stale_from first [] birth = []
stale_from first (span ∷ rest) birth = if is_in span birth then first ∷ stale_from (suc first) rest birth else stale_from (suc first) rest birth

-- whether that disk is out
abbrev pub is_out : List Bool → ℕ → Bool
is_out out disk = slice_index_or out disk false

-- that disk is out too
pub record IsOutToo (old : List Bool) (disk : ℕ) (new : List Bool) : Type 0 where
  pub count : length new ≡ length old
  pub disks : (other : ℕ) → is_out new other ≡ (is_out old other || (other == disk))

-- the numbers of those that are out, of disks from this number on
abbrev pub outs_from : ℕ → List Bool → List ℕ
outs_from first [] = []
outs_from first (out ∷ rest) = if out then first ∷ outs_from (suc first) rest else outs_from (suc first) rest

-- a plan of that group: where it is an earlier one than before, the disks that are out may lack its blocks too
abbrev pub in_group : Spans → ℕ → Spans
in_group spans group = record spans { group = group; since = if nat_lt group spans.group then map (min group) spans.since else spans.since }

-- that disk may lack blocks from the plan's group on, if it was not out before; of the others nothing changes
abbrev pub spans_without : List Bool → Spans → ℕ → Spans
spans_without out spans disk = if is_out out disk then spans else record spans { since = slice_set spans.since disk spans.group }

-- that disk is in use, and of the others those that were
pub record IsInUseToo (old : List Bool) (disk : ℕ) (new : List Bool) : Type 0 where
  pub count : length new ≡ length old
  pub disks : (other : ℕ) → is_out new other ≡ (is_out old other && not (other == disk))

-- that disk missed these groups, whatever it missed before; of the others nothing changes
pub record MissedThese (old : Spans) (disk : ℕ) (missed : Option GroupSpan) (new : Spans) : Type 0 where
  pub since : new.since ≡ old.since
  pub group : new.group ≡ old.group
  pub this : (birth : ℕ) → is_stale new.stale disk birth ≡ is_in missed birth
  pub others : (other birth : ℕ) → other ≢ disk → is_stale new.stale other birth ≡ is_stale old.stale other birth
