-- Pools that are made on blank disks.
use Rattle.std.proofs.Common.{◌≡◌, ℕ, List, length}
use Rattle.model_disk.specs.Joint.{AreHonestSince}
use Rattle.model_disk.specs.declared.memory.MemDisk.{MemDisk}
use Rattle.model_disk.specs.contracts.memory.MemDiskDisk.TheImpl.{ghosts}
use Rattle.pool_create.specs.CoreState.{CoreState, disks_of}
use Rattle.pool_create.specs.Creates.{IsCreatedOn}
use Rattle.pool_format.specs.declared.labeling.PoolIdentity.{PoolIdentity}
use Rattle.schedule_lines.specs.declared.command.PoolLine.{PoolLine}
use Rattle.uberblock_ring.specs.declared.uberblock.Uberblock.{Uberblock}
use Rattle.vdev_label.specs.declared.label.Config.{Config}
use Rattle.programs.specs.Making.{AreBlank, IsAsked, IsMadeOn}

-- disks that answer truly show the pool that was made
pub is_made : (line : PoolLine) (disks : List MemDisk) (pool : PoolIdentity) (config : Config) (first : Uberblock) (core : CoreState)
    → AreBlank line disks → IsAsked line pool config → IsCreatedOn ghosts disks pool config first core → ((n : ℕ) → AreHonestSince n (disks_of core).starts (disks_of core).calls) → IsMadeOn line core
is_made line disks pool config first core blank asked made truth = record {
  disks = disks;
  blank = blank;
  pool = pool;
  config = config;
  asked = asked;
  first = first;
  made = made;
  represents = made.created.represents (truth (length made.array.calls));
}
