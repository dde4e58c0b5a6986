use Rattle.std.proofs.Common.{◌≡◌}
use Rattle.block_store.specs.Reading.{IsReadUpTo}
use Rattle.block_store.proofs.store.BlockStore.read_places.Given as goal

abbrev pub invariant-loop-i : goal.invariant-loop-i
invariant-loop-i g l = record {
  rest : l.self ≡ record l.fn.self { disks = l.self.disks };
  read : IsReadUpTo l.fn.self.spaces l.absent l.block l.i l.fn.self.disks l.self.disks l.read;
}
