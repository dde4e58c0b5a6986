-- Pools in files. What a file held at first no clause knows, so that this tells of some disks of a type how a pool on them was opened, made or put away.
use Rattle.std.specs.Prelude.{◌≡◌, ◌⊎◌, List}
use Rattle.model_disk.specs.declared.disk.Disk as disk
use Rattle.model_disk.specs.declared.member.Member.{Member}
use Rattle.pool_command.specs.declared.command.NewPool.{NewPool}
use Rattle.pool_command.specs.declared.scrubbing.ScrubReport.{ScrubReport}
use Rattle.pool_create.specs.CoreState.{CoreState}
use Rattle.pool_create.specs.Creates.{CreateRefusesOn, IsCreatedOn}
use Rattle.pool_create.specs.NotOpened.{NotOpened}
use Rattle.pool_create.specs.OpenExporting.{IsGivenBack, IsPutAway as IsExported, RefusesExport}
use Rattle.pool_create.specs.OpenRefusal.{Refusal as Cause}
use Rattle.pool_create.specs.OpenRefusal.TheVariants.{NoMemory, BadConfig}
use Rattle.pool_create.specs.OpenedFrom.{OpenedFrom}
use Rattle.pool_create.specs.Opens.{IsOpenedOn, OpenRefuses, refusal_of}
use Rattle.pool_create.specs.PoolIdentity.{PoolIdentity}
use Rattle.pool_scrub.specs.Scrubbing.{IsScrubbed, ScrubRefuses}
use Rattle.pool_scrub.specs.declared.scrubbing.ScrubCounts.{ScrubCounts}
use Rattle.uberblock_ring.specs.declared.uberblock.Uberblock.{Uberblock}
use Rattle.vdev_label.specs.declared.label.Config.{Config}
use Rattle.file_pools.specs.Asking.{IsAskedFor, IsNoPool}
use Rattle.file_pools.specs.declared.pool.PoolFront.{PoolFront}
use Rattle.file_pools.specs.declared.refusal.Refusal.{Refusal}
use Rattle.file_pools.specs.declared.refusal.Refusal.TheVariants as refusal

-- another command has a file; or memory ran out
abbrev pub IsNotHeld : Refusal → Type 0
IsNotHeld refusal.Busy = Unit {0}
IsNotHeld (refusal.Pool cause) = cause ≡ NoMemory
IsNotHeld other = ⊥

module _ {D : Type 0} where
  -- the pool was opened, without going back, and goes by the name that its labels have
  pub record IsOpenedPool (g : disk.Ghosts D) (core : CoreState) (front : PoolFront) : Type 0 where
    pub disks : List D
    pub from : OpenedFrom D
    pub opened : IsOpenedOn g disks 0 front.uberblock core from
    pub name : front.name ≡ from.identity.name
    pub absent : front.absent.items ≡ core.commit.store.out

  -- it was refused; or memory ran out
  abbrev pub IsRefusedOpen : disk.Ghosts D → Cause → Type 0
  IsRefusedOpen g cause = (cause ≡ NoMemory) ⊎ ((disks : List D) × (failed : NotOpened D) × OpenRefuses g disks 0 failed × (cause ≡ refusal_of failed))

  -- another command has a file; or the pool is refused
  abbrev pub IsNotOpened : disk.Ghosts D → Refusal → Type 0
  IsNotOpened g refusal.Busy = Unit {0}
  IsNotOpened g (refusal.Pool cause) = IsRefusedOpen g cause
  IsNotOpened g other = ⊥

  -- the pool was opened and scrubbed, goes by the name that its labels have, and so much was counted
  pub record IsScrubbedPool (g : disk.Ghosts D) (core : CoreState) (front : PoolFront) (report : ScrubReport) : Type 0 where
    pub disks : List D
    pub from : OpenedFrom D
    pub counts : ScrubCounts
    pub scrubbed : IsScrubbed g disks front.uberblock core from counts
    pub name : front.name ≡ from.identity.name
    pub absent : front.absent.items ≡ core.commit.store.out
    pub group : report.group ≡ counts.group
    pub findings : report.findings ≡ counts.findings
    pub left : report.left ≡ counts.left

  -- it was refused; or memory ran out
  abbrev pub IsRefusedScrub : disk.Ghosts D → Cause → Type 0
  IsRefusedScrub g cause = (cause ≡ NoMemory) ⊎ ((disks back : List D) × ScrubRefuses g disks cause back)

  -- another command has a file; or the scrub is refused
  abbrev pub IsNotScrubbed : disk.Ghosts D → Refusal → Type 0
  IsNotScrubbed g refusal.Busy = Unit {0}
  IsNotScrubbed g (refusal.Pool cause) = IsRefusedScrub g cause
  IsNotScrubbed g other = ⊥

  -- the pool that the line asks for was made
  pub record IsMadePool (g : disk.Ghosts D) (pool : NewPool) : Type 0 where
    pub disks : List D
    pub identity : PoolIdentity
    pub config : Config
    pub asked : IsAskedFor pool identity config
    pub first : Uberblock
    pub core : CoreState
    pub made : IsCreatedOn g disks identity config first core

  -- the pool that the line asks for was refused on the new files
  pub record IsRefusedNew (g : disk.Ghosts D) (pool : NewPool) (cause : Cause) : Type 0 where
    pub disks : List D
    pub identity : PoolIdentity
    pub config : Config
    pub asked : IsAskedFor pool identity config
    pub back : List D
    pub refused : CreateRefusesOn g disks identity config back cause

  -- a file can't be made; or memory ran out; or the line asks for what no pool has; or the pool is refused
  abbrev pub IsNotMade : disk.Ghosts D → NewPool → Refusal → Type 0
  IsNotMade g pool refusal.NotMade = Unit {0}
  IsNotMade g pool (refusal.Pool cause) = (cause ≡ NoMemory) ⊎ ((cause ≡ BadConfig) × IsNoPool pool) ⊎ IsRefusedNew g pool cause
  IsNotMade g pool other = ⊥

  -- the pool's labels say that it is put away
  abbrev pub IsPutAway : disk.Ghosts (Member D) → CoreState → Type 0
  IsPutAway g core = (disks : List (Member D)) × IsExported g core disks

  -- it can't be put away now; or it was stopped
  abbrev pub IsNotPutAway : disk.Ghosts (Member D) → CoreState → Refusal → Type 0
  IsNotPutAway g core (refusal.Export cause) = RefusesExport core cause ⊎ ((disks : List (Member D)) × IsGivenBack g core cause disks)
  IsNotPutAway g core other = ⊥
