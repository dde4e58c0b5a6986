use Rattle.std.proofs.Common.{take}
use Rattle.block_store.specs.Plans.{AreWritesAt}
use Rattle.block_store.proofs.store.BlockStore.writes_at.Given as goal

-- so far they are those for the first places
abbrev pub invariant-loop-place : goal.invariant-loop-place
invariant-loop-place g l = AreWritesAt l.self l.sectors l.bytes (take l.place-index l.places) l.writes.items
