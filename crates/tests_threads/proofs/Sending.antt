-- What may go to another thread: a core over disks in memory that may fail.
use mir.Syntax.{Dict}
use denote.RattleType.{RattleType}
use denote.Param.Send.{IsSend, sendable, struct_send, recorded_send as row_send}
use denote.Struct.Declared.{shape}
use Rattle.std.proofs.alloc.Global.TheSendSync as heap
use Rattle.std.proofs.Crossing.{Deque-send, Vec-send}
use Rattle.model_disk.specs.declared.disk.Disk.{Ghosts}
use Rattle.model_disk.specs.contracts.array.DiskArray.TheInside as array
use Rattle.model_disk.specs.contracts.array.DiskArray.{the_row as array_row}
use Rattle.model_disk.specs.contracts.fault.FaultDisk.{the_row as fault_row, the_field as fault_field, the_type as fault_type}
use Rattle.model_disk.specs.contracts.memory.MemDisk.{the_row as memory_row}
use Rattle.model_disk.specs.contracts.memory.MemDiskDisk.TheImpl.{ghosts as memory_ghosts}
use Rattle.model_disk.specs.contracts.fault.FaultDiskDisk.TheImpl.{ghosts as fault_ghosts}
use Rattle.disk_set.specs.contracts.set.DiskSet.TheInside as set
use Rattle.disk_set.specs.contracts.set.DiskSet.{the_row as set_row}
use Rattle.disk_set.proofs.stale.GroupSpan.TheSendSync as groups
use Rattle.block_store.specs.contracts.store.BlockStore.TheInside as store
use Rattle.block_store.specs.contracts.store.BlockStore.{the_row as store_row}
use Rattle.block_store.proofs.space.VdevMetaslabs.TheSendSync as metaslabs
use Rattle.raidz_io.proofs.column_write.ColumnWrite.TheSendSync as writes
use Rattle.pool_commit.specs.contracts.commit.Commit.{the_field as commit_field, the_type as commit_type}
use Rattle.pool_commit.proofs.kept.Kept.TheSendSync as kept
use Rattle.pool_commit.proofs.kept.Planned.TheSendSync as planned
use Rattle.pool_intake.proofs.intake.Intake.TheSendSync as intake
use Rattle.pool_core.specs.contracts.pool.Core.{the_row as core_row, the_field as core_field, the_type as core_type}

-- ---- disks, and what stands over them, whatever they are

inside_array : (D : RattleType) (g : Ghosts D.Denot) → IsSend D → IsSend (array.the_row D g)
inside_array D g d = row_send (array.the_field D g).row _ _ (array.the_type D g).to_one (struct_send (shape (array.the_type D g)) (search (sendable, Vec-send) depth 16, (search sendable depth 16, tt)))

array_goes : (D : RattleType) (g : Ghosts D.Denot) → IsSend D → IsSend (array_row D g)
array_goes D g d = search (sendable, inside_array)

inside_set : (D : RattleType) (g : Ghosts D.Denot) → IsSend D → IsSend (set.the_row D g)
inside_set D g d =
    row_send (set.the_field D g).row _ _ (set.the_type D g).to_one
    (struct_send (shape (set.the_type D g)) (
      array_goes D g d,
      (
        search (sendable, Vec-send) depth 16,
        (
          search (sendable, Vec-send) depth 16,
          (
            search sendable,
            (
              search (sendable, groups.the_send, Vec-send) depth 20,
              (search (sendable, writes.the_send, Deque-send, Vec-send) depth 20, tt),
            ),
          ),
        ),
      ),
    ))

set_goes : (D : RattleType) (g : Ghosts D.Denot) → IsSend D → IsSend (set_row D g)
set_goes D g d = search (sendable, inside_set)

inside_store : (D : RattleType) (g : Ghosts D.Denot) → IsSend D → IsSend (store.the_row D g)
inside_store D g d =
    row_send (store.the_field D g).row _ _ (store.the_type D g).to_one
    (struct_send (shape (store.the_type D g)) (set_goes D g d, (search (sendable, metaslabs.the_send, Vec-send) depth 16, (search sendable, (search (sendable, Vec-send) depth 16, tt)))))

store_goes : (D : RattleType) (g : Ghosts D.Denot) → IsSend D → IsSend (store_row D g)
store_goes D g d = search (sendable, inside_store)

-- ---- over disks in memory that may fail

fault_field_goes : IsSend (fault_field memory_row memory_ghosts).row
fault_field_goes =
    struct_send (shape (fault_type memory_row memory_ghosts)) (search (sendable, Vec-send) depth 30, (search sendable depth 20, (search sendable, (search (sendable, Vec-send) depth 20, tt))))

fault_goes : IsSend (fault_row memory_row memory_ghosts)
fault_goes = search (sendable, fault_field_goes) depth 30

commit_goes : (a b : Dict) → IsSend (commit_field (fault_row memory_row memory_ghosts) (fault_ghosts memory_row memory_ghosts a b)).row
commit_goes a b =
    struct_send (shape (commit_type (fault_row memory_row memory_ghosts) (fault_ghosts memory_row memory_ghosts a b)))
    (store_goes _ _ fault_goes, (kept.the_field_send, (search (sendable, planned.the_send, planned.the_field_send) depth 12, (search sendable, (search sendable depth 12, tt)))))

pub core_field_goes : (a b : Dict) → IsSend (core_field (fault_row memory_row memory_ghosts) (fault_ghosts memory_row memory_ghosts a b)).row
core_field_goes a b =
    struct_send (shape (core_type (fault_row memory_row memory_ghosts) (fault_ghosts memory_row memory_ghosts a b))) (heap.the_field_send, (intake.the_field_send, (commit_goes a b, tt)))

pub core_goes : (a b : Dict) → IsSend (core_row (fault_row memory_row memory_ghosts) (fault_ghosts memory_row memory_ghosts a b))
core_goes a b = search (sendable, core_field_goes) depth 12
