use Rattle.std.proofs.Common.{◌≡◌, ◌++◌}
use Rattle.block_store.proofs.CopyWrites.{in_use}
use Rattle.block_store.proofs.store.BlockStore.add_in_use.Given as goal

-- those so far that are to disks in use were added
abbrev pub invariant-loop-write : goal.invariant-loop-write
invariant-loop-write g l = l.writes.items ≡ l.fn.writes.items ++ in_use l.self l.yielded
