-- Why a step is refused: the first cause that applies.
use Rattle.std.specs.Prelude.{ℕ, ◌+◌, ◌%◌, ◌^◌, List, [], ◌∷◌, length, Bool, true, false, not, Option, Some, None, is_some, is_none, nat_le, nat_lt, ◌==◌, ◌&&◌, ◌||◌, if◌then◌else◌}
use Rattle.pool_model.specs.declared.item.Action.{Action}
use Rattle.pool_model.specs.declared.item.Change.{Change}
use Rattle.pool_model.specs.declared.item.Change.TheVariants.{Clone, Create, Destroy, Snapshot}
use Rattle.pool_model.specs.declared.item.Write.{Write}
use Rattle.pool_model.specs.declared.step.Step.{Step}
use Rattle.pool_model.specs.declared.step.Step.TheVariants.{Hold, Write as WriteStep, Act, Release, Close, Quiesce, Plan, Device, DiskOut, Read, ReadUnder}
use Rattle.pool_model.specs.declared.refusal.Refusal.{Refusal}
use Rattle.pool_model.specs.declared.refusal.Refusal.TheVariants.{Suspended, AlreadyHeld, NoHold, OutOfOrder, NoSuchName, NotYet, Misaligned, OutOfRange, NotNow, HasClones, HasSnapshots, BadName, Exists, GroupGone}
use Rattle.pool_model.specs.declared.volume.PlainVolume.{PlainVolume}
use Rattle.pool_model.specs.Names.{is_name, is_whole_name, is_block_size, snapshot_name}
use Rattle.pool_model.specs.Pools.{PlainPool, has_clones, has_snapshots, is_snapshot, volume_at}
use Rattle.std.specs.List.{list_any}
use Rattle.pool_model.specs.View.{View, disks_of, is_syncing, is_planned, is_quiescing, is_quiesced, is_suspended, waiting_group, open_group, is_kept, hold_group, is_held, now_of}

-- the first cause whose test holds
abbrev pub first_cause : List (Bool × Refusal) → Option Refusal
first_cause [] = None
first_cause (c ∷ causes) = if c.0 then Some c.1 else first_cause causes

-- a cause, or else the next one
abbrev pub or_else : Option Refusal → Option Refusal → Option Refusal
or_else (Some cause) next = Some cause
or_else None next = next

-- groups, and a writer's numbers, end here
abbrev pub greatest : ℕ
greatest = 2 ^ 62

-- why an item's number is refused: it isn't the one expected, or is above the greatest. None: it is not refused
abbrev pub number_refusal : ℕ → ℕ → Option Refusal
number_refusal expected number = first_cause ((not (number == expected) || nat_lt greatest number, OutOfOrder expected) ∷ [])

-- a range that one read or write may have: within the volume, and at most 1 MiB
abbrev pub is_in_range : ℕ → ℕ → PlainVolume → Bool
is_in_range offset len volume = nat_le (offset + len) (length volume.bytes) && nat_le len (2 ^ 20)

-- in whole sectors, and not empty
abbrev pub is_aligned : ℕ → ℕ → Bool
is_aligned offset len = (offset % 512 == 0) && ((len % 512 == 0) && not (len == 0))

-- why a write under a hold of this group is refused, by the volume
abbrev pub place_refusal : Write → ℕ → Option PlainVolume → Option Refusal
place_refusal w group None = Some NoSuchName
place_refusal w group (Some volume) = first_cause ((is_snapshot volume.kind, NoSuchName) ∷ (nat_le group volume.group, NotYet) ∷ (not (is_aligned w.offset (length w.bytes)), Misaligned) ∷ (not (is_in_range w.offset (length w.bytes) volume), OutOfRange) ∷ [])

-- why a write is refused, by its writer's hold (None: it has none), its number, and then the volume found. None: it is not refused
abbrev pub write_refusal : Write → ℕ → Option PlainVolume → Option ℕ → Option Refusal
write_refusal w expected found None = Some NoHold
write_refusal w expected found (Some group) = or_else (number_refusal expected w.number) (place_refusal w group found)

-- a volume stands there, and no snapshot
abbrev pub is_volume : Option PlainVolume → Bool
is_volume None = false
is_volume (Some volume) = not (is_snapshot volume.kind)

-- a snapshot stands there, and no volume
abbrev pub is_snapshot_there : Option PlainVolume → Bool
is_snapshot_there None = false
is_snapshot_there (Some volume) = is_snapshot volume.kind

-- why a change is refused, by the pool as it is now. None: it is not refused
abbrev pub change_refusal : Change → PlainPool → Option Refusal
change_refusal (Create name size block_size) now = first_cause ((not (is_name name), BadName) ∷ (is_some (volume_at name now), Exists) ∷ (not (is_block_size block_size && (size % block_size == 0)), Misaligned) ∷ (not (nat_le block_size size && nat_le size (2 ^ 40)), OutOfRange) ∷ [])
change_refusal (Snapshot volume part) now = first_cause ((not (is_name part), BadName) ∷ (not (is_volume (volume_at volume now)), NoSuchName) ∷ (is_some (volume_at (snapshot_name volume part) now), Exists) ∷ [])
change_refusal (Clone snapshot name) now = first_cause ((not (is_name name), BadName) ∷ (not (is_snapshot_there (volume_at snapshot now)), NoSuchName) ∷ (is_some (volume_at name now), Exists) ∷ [])
change_refusal (Destroy name) now = first_cause ((not (is_whole_name name), BadName) ∷ (is_none (volume_at name now), NoSuchName) ∷ (has_snapshots name now, HasSnapshots) ∷ (has_clones name now, HasClones) ∷ [])

-- why an action is refused, by the hold, the number, whether the hold is in the open group, and the change. None: it is not refused
abbrev pub act_refusal : Action → ℕ → ℕ → PlainPool → Option ℕ → Option Refusal
act_refusal a expected opened now None = Some NoHold
act_refusal a expected opened now (Some group) = or_else (number_refusal expected a.number) (or_else (first_cause ((not (group == opened), NotNow) ∷ [])) (change_refusal a.change now))

-- why a read of len bytes from the offset is refused, by the volume or snapshot found, if any. None: it is not refused
abbrev pub read_refusal : ℕ → ℕ → Option PlainVolume → Option Refusal
read_refusal offset len None = Some NoSuchName
read_refusal offset len (Some volume) = first_cause ((not (is_in_range offset len volume), OutOfRange) ∷ [])

-- a quiesced group can be taken to be synced, or the one that is synced has no plan
abbrev pub may_plan : View → Bool
may_plan v = not (is_planned v.sync) && (is_syncing v.sync || is_quiesced v.waiting)

-- there is no such disk
abbrev pub is_no_disk : View → ℕ → Bool
is_no_disk v disk = not (list_any (λ d. d == disk) (disks_of v.vdevs))

-- the first cause that the view tells. Want of memory, of disks for a block that is read, and of room are not among these.
abbrev pub refusal_of : View → Step → Option Refusal
refusal_of v (Hold writer) = first_cause ((is_suspended v, Suspended) ∷ (is_some (hold_group writer v.holds), AlreadyHeld) ∷ [])
refusal_of v (WriteStep w) = or_else (first_cause ((is_suspended v, Suspended) ∷ [])) (write_refusal w (v.next w.writer) (volume_at w.volume (now_of v)) (hold_group w.writer v.holds))
refusal_of v (Act a) = or_else (first_cause ((is_suspended v, Suspended) ∷ [])) (act_refusal a (v.next a.writer) (open_group v) (now_of v) (hold_group a.writer v.holds))
refusal_of v (Release writer) = first_cause ((is_none (hold_group writer v.holds), NoHold) ∷ [])
refusal_of v Close = first_cause ((is_suspended v, Suspended) ∷ (is_some v.waiting, NotNow) ∷ (nat_le greatest (open_group v), NotNow) ∷ [])
refusal_of v Quiesce = first_cause ((is_suspended v, Suspended) ∷ (not (is_quiescing v.waiting), NotNow) ∷ (is_held (waiting_group v) v.holds, NotNow) ∷ [])
refusal_of v (Plan timestamp) = first_cause ((is_suspended v, Suspended) ∷ (not (may_plan v), NotNow) ∷ [])
refusal_of v Device = first_cause ((is_suspended v, Suspended) ∷ (not (is_planned v.sync), NotNow) ∷ [])
refusal_of v (DiskOut disk) = first_cause ((is_no_disk v disk, OutOfRange) ∷ (v.out disk, NotNow) ∷ [])
refusal_of v (Read name offset len) = read_refusal offset len (volume_at name (now_of v))
refusal_of v (ReadUnder group name offset len) = or_else (first_cause ((not (is_kept v group), GroupGone) ∷ [])) (read_refusal offset len (volume_at name (v.pools group)))

-- whether memory may run out in the step
abbrev pub takes_memory : Step → Bool
takes_memory (Hold writer) = true
takes_memory (WriteStep w) = true
takes_memory (Act a) = true
takes_memory (Plan timestamp) = true
takes_memory (Read name offset len) = true
takes_memory (ReadUnder group name offset len) = true
takes_memory (Release writer) = false
takes_memory Close = false
takes_memory Quiesce = false
takes_memory Device = false
takes_memory (DiskOut disk) = false
