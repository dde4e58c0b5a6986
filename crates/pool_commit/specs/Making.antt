-- Device calls that a store makes for a plan.
use Rattle.std.specs.Prelude.{ℕ, ◌≡◌, ◌≢◌, ◌⊎◌, ◌<◌, ◌≤◌, Contains, List, [], ◌∷◌, ◌++◌, length, map, true}
use Rattle.std.specs.List.{AllByRecursion}
use Rattle.raidz_io.specs.Writes.{ColumnWrite}
use Rattle.block_store.specs.Plans.{KeepsPlans}
use Rattle.block_store.specs.Store.{Store, IsOutToo}
use Rattle.pool_model.specs.declared.step.Phase.{Phase}
use Rattle.pool_model.specs.declared.step.Phase.TheVariants.{Blocks, BlocksFlush, Slots, SlotsFlush}
use Rattle.pool_model.specs.View.{DueCall}
use Rattle.pool_model.specs.Flow.{counted_on}
use Rattle.model_disk.specs.Joint.{content}
use Rattle.pool_model.specs.Machine.{due_write, is_flush}
use Rattle.uberblock_ring.specs.declared.uberblock.Uberblock.{Uberblock}
use Rattle.disk_set.specs.declared.behind.Behind.{Behind}
use Rattle.disk_set.specs.declared.behind.SlotWrite.{SlotWrite}
use Rattle.pool_commit.specs.Calls.{disk_call, made_between, faults_between, unread_between, called_between, GrewTo, IsFlushed}
use Rattle.pool_commit.specs.Slots.{IsShownOrDue}

-- the writes of a plan, in order: so many were made on each disk before them
abbrev pub writes_left : (ℕ → ℕ) → List ColumnWrite → List DueCall
writes_left counts [] = []
writes_left counts (write ∷ writes) = due_write write.disk (counts write.disk) ∷ writes_left (counted_on counts write.disk) writes

-- flushes of a phase, one for each disk
abbrev pub flushes_left : Phase → List ℕ → List DueCall
flushes_left phase flushes = map (λ disk. record { disk = disk; phase = phase; number = 0 }) flushes

-- the calls of the phase are flushes
abbrev pub IsFlushPhase : Phase → Type 0
IsFlushPhase phase = (disk number : ℕ) → is_flush (record { disk = disk; phase = phase; number = number }) ≡ true

-- the writes of slots, in order: so many writes were made on each disk before them
abbrev pub slots_left : (ℕ → ℕ) → List SlotWrite → List DueCall
slots_left counts [] = []
slots_left counts (write ∷ writes) =
    record { disk = write.disk; phase = Slots; number = counts write.disk } ∷ slots_left (counted_on counts write.disk) writes

-- what is left behind the writes of blocks
abbrev pub behind_left : (ℕ → ℕ) → Behind → List DueCall
behind_left counts behind =
    flushes_left BlocksFlush behind.flushes.items ++ (slots_left counts behind.slots.items ++ flushes_left SlotsFlush behind.slot_flushes.items)

-- nothing but device calls was done, and each plan goes on
pub record IsSameStore (old new : Store) : Type 0 where
  pub spaces : new.spaces ≡ old.spaces
  pub grew : GrewTo old.disks new.disks
  pub stale : new.spans.stale ≡ old.spans.stale
  pub plans : KeepsPlans old new

-- n calls of this phase were made, of those that were left, and none failed
pub record MadeCalls (old new : Store) (left rest : List DueCall) (phase : Phase) (n : ℕ) : Type 0 where
  pub same : IsSameStore old new
  pub out : new.out ≡ old.out
  pub made : List DueCall
  pub seen : map disk_call made ≡ made_between old.disks new.disks
  pub order : left ≡ made ++ rest
  pub count : length made ≡ n
  pub in_phase : AllByRecursion (λ call. call.phase ≡ phase) made
  pub faults : faults_between old.disks new.disks ≡ []
  pub unread : unread_between old.disks new.disks ≡ []
  pub called : called_between old.disks new.disks ≡ map (λ call. call.disk) made

-- of those that were left one to four were made, and the last one failed on this disk
pub record FailedCall (old new : Store) (left : List DueCall) (phase : Phase) (disk : ℕ) : Type 0 where
  pub same : IsSameStore old new
  pub out : IsOutToo old.out disk new.out
  pub made : List DueCall
  pub before : List DueCall
  pub call : DueCall
  pub rest : List DueCall
  pub seen : map disk_call made ≡ made_between old.disks new.disks
  pub last : made ≡ before ++ call ∷ []
  pub on : call.disk ≡ disk
  pub order : left ≡ made ++ rest
  pub few : length made ≤ 4
  pub in_phase : AllByRecursion (λ call. call.phase ≡ phase) made
  pub faults : faults_between old.disks new.disks ≡ disk_call call ∷ []
  pub unread : unread_between old.disks new.disks ≡ []
  pub called : called_between old.disks new.disks ≡ map (λ call. call.disk) made

-- n of the writes that were due were made, whatever numbers they have
abbrev pub MadeWrites : Store → Store → ℕ → Type 0
MadeWrites old new n = (counts : ℕ → ℕ) → (later : ℕ → ℕ) × MadeCalls old new (writes_left counts old.due) (writes_left later new.due) Blocks n

-- of the writes that were due one to four were made, and the last one failed on this disk
abbrev pub FailedWrite : Store → Store → ℕ → Type 0
FailedWrite old new disk = (counts : ℕ → ℕ) → FailedCall old new (writes_left counts old.due) Blocks disk

-- n of the disks were flushed, in either phase of flushes
abbrev pub MadeFlushes : Store → Store → List ℕ → List ℕ → ℕ → Type 0
MadeFlushes old new flushes rest n = (phase : Phase) → IsFlushPhase phase → MadeCalls old new (flushes_left phase flushes) (flushes_left phase rest) phase n

-- the flush of this disk failed, and these are left behind it
abbrev pub FailedFlush : Store → Store → List ℕ → List ℕ → ℕ → Type 0
FailedFlush old new flushes rest disk =
    (phase : Phase) → IsFlushPhase phase → (failed : FailedCall old new (flushes_left phase flushes) phase disk) × (failed.rest ≡ flushes_left phase rest)

-- n of the slots were written, whatever numbers these writes have
abbrev pub MadeSlots : Store → Store → List SlotWrite → List SlotWrite → ℕ → Type 0
MadeSlots old new slots rest n = (counts : ℕ → ℕ) → (later : ℕ → ℕ) × MadeCalls old new (slots_left counts slots) (slots_left later rest) Slots n

-- the write of a slot failed on this disk, and these are left behind it
abbrev pub FailedSlot : Store → Store → List SlotWrite → List SlotWrite → ℕ → Type 0
FailedSlot old new slots rest disk =
    (counts : ℕ → ℕ) → (failed : FailedCall old new (slots_left counts slots) Slots disk) × (later : ℕ → ℕ) × (failed.rest ≡ slots_left later rest)

-- each of the disks is to be flushed still, or nothing was written to it since its last flush; and one of which that was
-- true before is as it was
pub record FlushesMove (old new : Store) (flushes rest : List ℕ) : Type 0 where
  pub flushed : (disk : ℕ) → Contains flushes disk → Contains rest disk ⊎ IsFlushed new.disks disk
  pub stays : (disk : ℕ) → IsFlushed old.disks disk → IsFlushed new.disks disk

-- so it is of all disks but one
pub record FlushesMoveBut (but : ℕ) (old new : Store) (flushes rest : List ℕ) : Type 0 where
  pub flushed : (disk : ℕ) → disk ≢ but → Contains flushes disk → Contains rest disk ⊎ IsFlushed new.disks disk
  pub stays : (disk : ℕ) → IsFlushed old.disks disk → IsFlushed new.disks disk

-- no byte of a disk changed
abbrev pub KeepsContent : Store → Store → Type 0
KeepsContent old new = (disk i : ℕ) → content new.disks disk i ≡ content old.disks disk i

-- each slot that shows the uberblock, or is to be written, is so still
abbrev pub SlotsMove : Store → Store → Uberblock → List SlotWrite → List SlotWrite → Type 0
SlotsMove old new u slots rest = (write : SlotWrite) → write.label < 4 → IsShownOrDue old.disks u slots write → IsShownOrDue new.disks u rest write

-- so it is on all disks but one
abbrev pub SlotsMoveBut : ℕ → Store → Store → Uberblock → List SlotWrite → List SlotWrite → Type 0
SlotsMoveBut but old new u slots rest =
    (write : SlotWrite) → write.label < 4 → write.disk ≢ but → IsShownOrDue old.disks u slots write → IsShownOrDue new.disks u rest write
