-- Exporting a pool: its labels say that it is put away, and its disks are given back.
use Rattle.std.specs.Prelude.{◌≡◌, ◌⊎◌, Bool, true, false, List}
use Rattle.model_disk.specs.Joint.{Disks}
use Rattle.model_disk.specs.declared.disk.Disk as disk
use Rattle.block_store.specs.Places.{shapes_of}
use Rattle.block_store.specs.Store.{is_out}
use Rattle.block_store.specs.declared.shape.VdevShape.{VdevShape}
use Rattle.pool_core.specs.Last.{IsLastUberblock, LacksUberblock}
use Rattle.pool_core.specs.Exporting.{IsAgainstExport, IsExportable}
use Rattle.pool_core.specs.State.{CoreState, disks_of}
use Rattle.pool_core.specs.StateOf.{state_of}
use Rattle.pool_export.specs.Absence.{GoOutFailing}
use Rattle.pool_export.specs.Moments.{ExportConfigures, ExportKeeps, ExportLeads, ExportMarks}
use Rattle.pool_export.specs.Refusals.{ExportRefuses}
use Rattle.pool_export.specs.Taken.{AreExported, ExportTakes}
use Rattle.pool_export.specs.Writes.{IsExportWrite}
use Rattle.pool_export.specs.declared.refusal.Refusal.{Refusal as LabelsRefusal}
use Rattle.pool_export.specs.declared.refusal.Refusal.TheVariants as labels
use Rattle.pool_model.specs.declared.refusal.Refusal.{Refusal}
use Rattle.pool_model.specs.declared.refusal.Refusal.TheVariants.{NoMemory, Suspended, BadConfig}
use Rattle.pool_model.specs.View.{is_tolerable}
use Rattle.pool_slots.specs.Slots.{AreSettled, InUse, MakesOn}
use Rattle.uberblock_ring.specs.declared.uberblock.Uberblock.{Uberblock}
use Rattle.pool_open.specs.Finding.{IsArrayOf}
use Rattle.pool_open.specs.Words.{vdevs_in}
use Rattle.pool_open.specs.declared.exporting.NotExported.{NotExported}
use Rattle.pool_open.specs.declared.exporting.NotExported.TheVariants.{Refused, Stopped}
use Rattle.pool_open.specs.declared.opening.OpenedPool.{OpenedPool}

-- a label without the configuration is none with it; with no disk left there are too few
abbrev pub of_export : LabelsRefusal → Refusal
of_export labels.NoMemory = NoMemory
of_export (labels.NoLabel disk) = BadConfig
of_export labels.NoDisk = Suspended

-- which disks of the core are out
abbrev pub outs_of : CoreState → List Bool
outs_of core = core.commit.store.out

-- the shapes of its vdevs
abbrev pub shapes_in : CoreState → List VdevShape
shapes_in core = shapes_of core.commit.store.spaces

-- whether of no vdev more disks are out than it has parities
abbrev pub bears : CoreState → List Bool → Bool
bears core out = is_tolerable (vdevs_in (shapes_in core)) (is_out out)

-- ---- the labels

-- Of the core's disks labels were read, and on those in use the label that is taken on each is written, as one that is put away with the
-- committed group's uberblock. A stop at any moment leaves what led where the disks led before, with the configuration and the claim in labels.
pub record IsExportBegun (core : CoreState) (u : Uberblock) (new : Disks) : Type 0 where
  pub exportable : IsExportable core
  pub last : IsLastUberblock core.commit u
  pub makes : MakesOn (InUse (outs_of core)) (IsExportWrite (disks_of core).starts (outs_of core) u) (disks_of core) new
  pub takes : ExportTakes (outs_of core) (disks_of core) u new
  pub leads : ExportLeads (outs_of core) (disks_of core) new
  pub configures : ExportConfigures (outs_of core) (disks_of core) u new
  pub marks : ExportMarks (outs_of core) (disks_of core) u new

-- Those disks are out now too of which a call failed, and no others went out; the pool bears that. All labels of the disks that are in use still show what
-- was taken, exported, and nothing is unflushed. What was committed on them still is.
pub record IsExportDone (core : CoreState) (u : Uberblock) (later : List Bool) (new : Disks) : Type 0 where
  pub begun : IsExportBegun core u new
  pub absent : GoOutFailing (outs_of core) later (disks_of core) new
  pub tolerable : bears core later ≡ true
  pub exported : AreExported later (disks_of core) u new
  pub settled : AreSettled later new.calls
  pub keeps : ExportKeeps later (disks_of core) new

-- Why it isn't done: the labels were refused; or more disks of a vdev are out now than it has parities, and on those in use nothing is unflushed.
abbrev pub StopsExport : CoreState → Uberblock → List Bool → Disks → Refusal → Type 0
StopsExport core u later new refusal =
    ((cause : LabelsRefusal) × (refusal ≡ of_export cause) × ExportRefuses (outs_of core) later u (disks_of core) new cause)
    ⊎ ((refusal ≡ Suspended) × (bears core later ≡ false) × AreSettled later new.calls)

-- it ended so, and those disks are out now too of which a call failed
pub record IsExportStopped (core : CoreState) (u : Uberblock) (later : List Bool) (new : Disks) (refusal : Refusal) : Type 0 where
  pub begun : IsExportBegun core u new
  pub absent : GoOutFailing (outs_of core) later (disks_of core) new
  pub why : StopsExport core u later new refusal

-- why an export isn't begun
abbrev pub RefusesExport : CoreState → Refusal → Type 0
RefusesExport core NoMemory = IsExportable core
RefusesExport core BadConfig = IsExportable core × LacksUberblock core.commit
RefusesExport core refusal = IsAgainstExport core refusal

-- ---- the disks

module _ {D : Type 0} where
  -- the core's disks are given back, put away
  pub record IsPutAway (g : disk.Ghosts D) (core : CoreState) (disks : List D) : Type 0 where
    pub u : Uberblock
    pub later : List Bool
    pub new : Disks
    pub array : IsArrayOf g disks new
    pub done : IsExportDone core u later new

  -- they are given back as a stop left them
  pub record IsGivenBack (g : disk.Ghosts D) (core : CoreState) (refusal : Refusal) (disks : List D) : Type 0 where
    pub u : Uberblock
    pub later : List Bool
    pub new : Disks
    pub array : IsArrayOf g disks new
    pub stopped : IsExportStopped core u later new refusal

  -- the pool is given back as it was; or its disks are
  abbrev pub IsNotExported : (g : disk.Ghosts D) → OpenedPool D g → NotExported D g → Type 0
  IsNotExported g pool (Refused refusal back) = (back ≡ pool) × RefusesExport (state_of pool.core) refusal
  IsNotExported g pool (Stopped refusal disks) = IsGivenBack g (state_of pool.core) refusal disks.items
