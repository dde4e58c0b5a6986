-- Why disks are not exported.
use Rattle.std.specs.Prelude.{ℕ, Bool, List}
use Rattle.model_disk.specs.Joint.{Disks}
use Rattle.uberblock_ring.specs.declared.uberblock.Uberblock.{Uberblock}
use Rattle.pool_slots.specs.Present.{is_out}
use Rattle.pool_slots.specs.Reads.{OnlyReads}
use Rattle.pool_slots.specs.Slots.{InUse}
use Rattle.pool_export.specs.Reads.{IsToldOf, shows_none}
use Rattle.pool_export.specs.declared.refusal.Refusal.{Refusal}
use Rattle.pool_export.specs.declared.refusal.Refusal.TheVariants.{NoMemory, NoLabel, NoDisk}

-- Want of memory, or a disk that is in use still shows the configuration in no label: then nothing but reads was called, of which those failed of disks that
-- went out. Or no disk is left.
abbrev pub ExportRefuses : List Bool → List Bool → Uberblock → Disks → Disks → Refusal → Type 0
ExportRefuses out later u old new NoMemory = OnlyReads (InUse out) (is_out later) old new
ExportRefuses out later u old new (NoLabel disk) = OnlyReads (InUse out) (is_out later) old new × InUse later disk × IsToldOf old new disk (shows_none u.config_digest)
ExportRefuses out later u old new NoDisk = (which : ℕ) → is_out later which
