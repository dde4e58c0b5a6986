-- What a caller can know of the pool.
use Rattle.std.specs.Prelude.{ℕ, zero, suc, ◌+◌, List, [], ◌∷◌, ◌++◌, find, filter, flat_map, Bool, true, false, not, Option, Some, None, is_some, nat_le, nat_lt, ◌==◌, ◌&&◌, ◌||◌, if◌then◌else◌}
use Rattle.std.specs.List.{list_any, list_all}
use Rattle.std.specs.Option.{option_map}
use Rattle.pool_model.specs.declared.group.Holder.{Holder}
use Rattle.pool_model.specs.declared.group.Stage.{Stage}
use Rattle.pool_model.specs.declared.group.Stage.TheVariants.{Quiescing, Quiesced}
use Rattle.pool_model.specs.declared.step.Phase.{Phase}
use Rattle.pool_model.specs.Pools.{PlainPool, Ledger, no_volumes, no_items, upto}

-- a RAID-Z vdev: its disks are those from the first on, one for each child
pub record Vdev : Type 0 where
  pub first : ℕ
  pub children : ℕ
  pub parity : ℕ

-- A device call that a plan has yet to make. The plan's writes to a disk are numbered from 0 on, through all phases; a
-- flush has the number 0.
pub record DueCall : Type 0 where
  pub disk : ℕ
  pub phase : Phase
  pub number : ℕ

-- the group after the committed one isn't synced; is synced and has no plan; has one, of which these calls are left
pub data Sync : Type 0 where
  Idle : Sync
  Unplanned : Sync
  Due : List DueCall → Sync

-- what a caller can know of the pool between two steps
pub record View : Type 0 where
  pub vdevs : List Vdev
  pub slots : Bool  -- whether a commit ends in uberblock slots: a pool whose disks have no labels has none
  pub first : ℕ  -- the group that was committed as the machine started
  pub committed : ℕ  -- the group that was committed last
  pub sync : Sync
  pub waiting : Option Stage  -- how far the waiting group is, if one waits
  pub holds : List Holder  -- oldest first
  pub next : ℕ → ℕ  -- each writer's next number
  pub ledger : Ledger  -- what each group above the committed one has accepted
  pub pools : ℕ → PlainPool  -- the pool of each kept group
  pub out : ℕ → Bool  -- the disks that are out
  pub stale : ℕ → ℕ → Bool  -- whether a disk lacks blocks that were born in a group: it missed that group before the pool was opened

-- no disk missed a group
abbrev pub none_stale : ℕ → ℕ → Bool
none_stale disk birth = false

-- an empty pool over these vdevs is committed as group 3
abbrev pub started : List Vdev → View
started vdevs = record { vdevs = vdevs; slots = false; first = 3; committed = 3; sync = Idle; waiting = None; holds = []; next = λ writer. 1; ledger = λ group. no_items; pools = λ group. no_volumes; out = λ disk. false; stale = none_stale }

-- a pool is opened that was committed before as this group, with these disks out, and of groups before it these blocks lacking
abbrev pub opened_as : List Vdev → (ℕ → Bool) → (ℕ → ℕ → Bool) → ℕ → PlainPool → View
opened_as vdevs out stale group pool =
    record (started vdevs) { slots = true; first = group; committed = group; pools = λ other. pool; out = out; stale = stale }

-- ---- groups

-- whether the group after the committed one is synced, with a plan or without
abbrev pub is_syncing : Sync → Bool
is_syncing Idle = false
is_syncing Unplanned = true
is_syncing (Due calls) = true

-- whether the group that is synced has a plan
abbrev pub is_planned : Sync → Bool
is_planned Idle = false
is_planned Unplanned = false
is_planned (Due calls) = true

-- whether a group waits that still quiesces
abbrev pub is_quiescing : Option Stage → Bool
is_quiescing (Some Quiescing) = true
is_quiescing (Some Quiesced) = false
is_quiescing None = false

-- whether a group waits that is quiesced
abbrev pub is_quiesced : Option Stage → Bool
is_quiesced (Some Quiesced) = true
is_quiesced (Some Quiescing) = false
is_quiesced None = false

-- the groups above the committed one are the syncing, the waiting and the open one, as far as there are such
abbrev pub waiting_after : ℕ → Bool → ℕ
waiting_after committed syncing = if syncing then suc (suc committed) else suc committed

-- the open group's number: the one after those that are committed, synced and waiting
abbrev pub open_after : ℕ → Bool → Bool → ℕ
open_after committed syncing has_waiting = if has_waiting then suc (waiting_after committed syncing) else waiting_after committed syncing

-- the waiting group's number; where no group waits, the open group's
abbrev pub waiting_group : View → ℕ
waiting_group v = waiting_after v.committed (is_syncing v.sync)

-- the open group's number
abbrev pub open_group : View → ℕ
open_group v = open_after v.committed (is_syncing v.sync) (is_some v.waiting)

-- the last three committed groups are kept, from the first one on
abbrev pub is_kept : View → ℕ → Bool
is_kept v group = nat_le v.first group && (nat_le group v.committed && nat_lt v.committed (suc (suc (suc group))))

-- the group of the writer's hold
abbrev pub hold_group : ℕ → List Holder → Option ℕ
hold_group writer holds = option_map (λ h. h.group) (find (λ h. h.writer == writer) holds)

-- whether a hold is left in the group
abbrev pub is_held : ℕ → List Holder → Bool
is_held group holds = list_any (λ h. h.group == group) holds

-- NOW: the pool after all accepted groups, pending ones included
abbrev pub now_of : View → PlainPool
now_of v = upto v.committed (v.pools v.committed) v.ledger (open_group v)

-- ---- disks

-- first, first + 1 and so on, as many as are asked
abbrev pub counted : ℕ → ℕ → List ℕ
counted first zero = []
counted first (suc n) = counted first n ++ (first + n) ∷ []

-- all disks of these vdevs, those that are out too
abbrev pub disks_of : List Vdev → List ℕ
disks_of vdevs = flat_map (λ vdev. counted vdev.first vdev.children) vdevs

-- how many disks of a vdev are lost
abbrev pub lost_in : (ℕ → Bool) → ℕ → ℕ → ℕ
lost_in lost first zero = 0
lost_in lost first (suc n) = lost_in lost first n + (if lost (first + n) then 1 else 0)

-- in each vdev no more disks are lost than it has parities
abbrev pub is_tolerable : List Vdev → (ℕ → Bool) → Bool
is_tolerable vdevs lost = list_all (λ vdev. nat_le (lost_in lost vdev.first vdev.children) vdev.parity) vdevs

-- a disk is away that is out
abbrev pub is_away : View → ℕ → Bool
is_away v disk = v.out disk

-- a vdev has more disks away than parities
abbrev pub is_suspended : View → Bool
is_suspended v = not (is_tolerable v.vdevs (is_away v))

-- A block that had to be read, and could not be.
pub record Loss : Type 0 where
  pub vdev : Vdev  -- that of its last copy
  pub birth : ℕ  -- the group that it was born in

-- What is not the machine's to choose in a step.
pub record Given : Type 0 where
  pub made : List DueCall  -- the writes and flushes that were made, in order
  pub fault : Option DueCall  -- the last of them, where it failed
  pub unread : List ℕ  -- the disks that failed a read, in order
  pub lost : Option Loss  -- the block that could not be read
  pub trusted : Bool  -- whether what the disks answered is known to be true
  pub full : Bool  -- whether some block of a plan found no free run of its size where it may go

-- no disk was called
abbrev pub nothing_given : Given
nothing_given = record { made = []; fault = None; unread = []; lost = None; trusted = true; full = false }

-- the disks that are missing in a step for a block that was born in that group: away, stale for it, or failing a read in the step
abbrev pub is_missing : View → Given → ℕ → ℕ → Bool
is_missing v given birth disk = is_away v disk || (v.stale disk birth || list_any (λ d. d == disk) given.unread)

-- a write or a flush failed on the disk
abbrev pub is_fault_on : Option DueCall → ℕ → Bool
is_fault_on None disk = false
is_fault_on (Some call) disk = disk == call.disk

-- the disks of the pool that are not out
abbrev pub disks_in_use : View → List ℕ
disks_in_use v = filter (λ disk. not (is_away v disk)) (disks_of v.vdevs)
