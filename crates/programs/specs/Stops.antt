-- Where a commit stops.
use Rattle.std.specs.Prelude.{◌≡◌, ◌⊎◌, ℕ, zero, suc, ◌+◌, ◌-◌, ◌/◌, ◌^◌, ◌≤◌, min, List, [], ◌∷◌, length, filter, nat_eq, Bool, true, false, Option, Some, None, if◌then◌else◌}
use Rattle.std.specs.List.{list_any}
use Rattle.pool_model.specs.declared.step.Phase.{Phase}
use Rattle.pool_model.specs.declared.step.Phase.TheVariants.{Blocks, BlocksFlush, Slots, SlotsFlush}
use Rattle.pool_model.specs.declared.step.Step.{Step}
use Rattle.pool_model.specs.declared.step.Reply.{Reply}
use Rattle.pool_model.specs.declared.step.Reply.TheVariants.{Moved}
use Rattle.schedule_lines.specs.declared.command.StopPoint.{StopPoint}
use Rattle.schedule_lines.specs.declared.command.StopPoint.TheVariants as at
use Rattle.programs.specs.Answers.{Leads, next_of}
use Rattle.programs.specs.declared.stopping.Point.{Point}

-- ---- replies that tell it

-- the two phases are the same
abbrev pub is_same : Phase → Phase → Bool
is_same Blocks Blocks = true
is_same BlocksFlush BlocksFlush = true
is_same Slots Slots = true
is_same SlotsFlush SlotsFlush = true
is_same _ _ = false

-- the reply says that calls of this phase were made
abbrev pub is_moved : Phase → Reply → Bool
is_moved phase (Moved other) = is_same phase other
is_moved phase _ = false

-- how many of the replies say so
abbrev pub count_moved : Phase → List Reply → ℕ
count_moved phase replies = length (filter (is_moved phase) replies)

-- Steps were taken until the point: the last reply says that calls of its phase were made, and so many before it said so.
pub record StopsAt {M : Type 0} (Steps : M → Step → Reply → M → Type 0) (point : Point) (old : M) (s : Step) (new : M) : Type 0 where
  pub replies : List Reply
  pub leads : Leads Steps old s replies (Moved point.phase) new
  pub before : count_moved point.phase replies ≡ point.before

-- Steps were taken until none follows, or 2^64 are taken; and no reply before the last was that of the point.
pub record FallsShort {M : Type 0} (Steps : M → Step → Reply → M → Type 0) (point : Point) (old : M) (s : Step) (last : Reply) (new : M) : Type 0 where
  pub replies : List Reply
  pub leads : Leads Steps old s replies last new
  pub ends : (next_of last ≡ None) ⊎ (2 ^ 64 - 1 ≤ length replies)
  pub before : count_moved point.phase replies ≤ point.before

-- ---- the point of a line

-- the disk of this number is left out
abbrev pub is_left_out : List ℕ → ℕ → Bool
is_left_out absent number = list_any (λ n. nat_eq n number) absent

-- how many disks of a number below this one are in use
abbrev pub in_use_below : List ℕ → ℕ → ℕ
in_use_below absent zero = 0
in_use_below absent (suc number) = in_use_below absent number + (if is_left_out absent number then 0 else 1)

-- All blocks are flushed: four flushes are made in a step, and each disk in use is flushed once.
abbrev pub after_blocks : ℕ → Point
after_blocks in_use = record { phase = BlocksFlush; before = (in_use - 1) / 4 }

-- So many disks hold the slot: the four of a disk are written in a step.
abbrev pub after_slots : ℕ → ℕ → Point
after_slots in_use zero = after_blocks in_use
after_slots in_use (suc others) = record { phase = Slots; before = others }

-- where a commit stops, of a pool on so many disks without the absent ones
abbrev pub commit_point : ℕ → List ℕ → Option StopPoint → Option Point
commit_point count absent (Some at.Blocks) = Some (after_blocks (in_use_below absent count))
commit_point count absent (Some (at.Slots disks)) = Some (after_slots (in_use_below absent count) (in_use_below absent (min disks count)))
commit_point count absent (Some (at.Claim disks)) = None
commit_point count absent None = None
