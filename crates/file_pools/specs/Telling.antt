-- What is told of an opened pool.
use Rattle.std.specs.Prelude.{◌≡◌, ℕ, ◌+◌, ◌-◌, ◌^◌, min, Bool, true, false, not, ◌==◌, ◌&&◌, ◌||◌, Option, Some, None, find, List, [], ◌∷◌, get_or, length, map, string_bytes}
use Rattle.commands.specs.Rows.{Listed}
use Rattle.pool_command.specs.declared.status.DiskState.{DiskState}
use Rattle.pool_command.specs.declared.status.DiskState.TheVariants.{Absent, Online, Stale}
use Rattle.pool_command.specs.declared.status.DiskStatus.{DiskStatus}
use Rattle.pool_command.specs.declared.status.PoolStatus.{PoolStatus}
use Rattle.pool_command.specs.declared.status.VdevStatus.{VdevStatus}
use Rattle.meta_objset.specs.declared.stale_spans.StaleSpan.{StaleSpan}
use Rattle.pool_create.specs.CoreState.{CoreState, config_of, spans_of}
use Rattle.pool_create.specs.NamedShape.{NamedShape}
use Rattle.uberblock_ring.specs.declared.uberblock.Uberblock.{Uberblock}
use Rattle.vdev_label.specs.declared.label.Vdev.{Vdev}

-- the row of a name
abbrev pub listed_at : NamedShape → Listed
listed_at row = record { name = row.name; size = row.shape.size; block_size = row.shape.block_size; group = row.shape.group }

-- a count of 64 bits stops at the greatest number
abbrev pub counted : ℕ → ℕ
counted n = min n (2 ^ 64 - 1)

-- a disk in use is stale that has a span
abbrev pub state_by : Option StaleSpan → DiskState
state_by (Some span) = Stale span.from span.to
state_by None = Online

-- a disk that is out is absent; another is stale where it has a span, else online
abbrev pub state_of : Bool → List StaleSpan → ℕ → DiskState
state_of true spans guid = Absent
state_of false spans guid = state_by (find (λ span. span.disk == guid) spans)

-- the disks from that number on: those that are out are absent
abbrev pub disk_rows : ℕ → List ℕ → List Bool → List StaleSpan → List DiskStatus
disk_rows number [] out spans = []
disk_rows number (guid ∷ guids) out spans =
    record { number = number; guid = guid; state = state_of (get_or out number false) spans guid } ∷ disk_rows (counted (number + 1)) guids out spans

-- what is told of a vdev
pub record Told : Type 0 where
  pub number : ℕ
  pub parities : ℕ
  pub disks : List DiskStatus

-- what the status of a vdev tells
abbrev pub told : VdevStatus → Told
told vdev = record { number = vdev.number; parities = vdev.parities; disks = vdev.disks.items }

-- the vdevs from that number on, whose first disk has the other number: disks are counted over all vdevs
abbrev pub vdev_rows : ℕ → ℕ → List Vdev → List Bool → List StaleSpan → List Told
vdev_rows number first [] out spans = []
vdev_rows number first (vdev ∷ vdevs) out spans =
    record { number = number; parities = min vdev.parity 255; disks = disk_rows first vdev.children.items out spans }
    ∷ vdev_rows (number + 1) (counted (first + length vdev.children.items)) vdevs out spans

-- The name that its labels have; its claim and its last group as it was opened; and the disks of its configuration, of which those are absent
-- that are out, and of the others those stale that have a span.
pub record Shows (core : CoreState) (name : List ℕ) (uberblock : Uberblock) (status : PoolStatus) : Type 0 where
  pub name_is : string_bytes status.name ≡ name
  pub claim : status.claim ≡ uberblock.claim
  pub group : status.group ≡ uberblock.group
  pub vdevs : map told status.vdevs.items ≡ vdev_rows 0 0 (config_of core).vdevs.items core.commit.store.out (spans_of core)

-- one of the disks is out that wasn't: so many of each there are
abbrev pub has_lost : List Bool → List Bool → Bool
has_lost [] now = false
has_lost (was ∷ before) [] = false
has_lost (was ∷ before) (is ∷ now) = is && not was || has_lost before now
