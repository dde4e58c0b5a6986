use Rattle.std.proofs.Common.{◌≡◌, drop}
use Rattle.block_store.specs.Releases.{copies_of_at}
use Rattle.block_store.proofs.TakenEach.{TakenUpTo}
use Rattle.block_store.proofs.store.BlockStore.take_in_places.Given as goal

-- the copies at the places that are left are left, and the others were taken in
abbrev pub invariant-loop-place : goal.invariant-loop-place
invariant-loop-place g l =
    (l.self.disks ≡ l.fn.self.disks) × (l.self.out ≡ l.fn.self.out) × (l.self.spans ≡ l.fn.self.spans) × (l.self.due ≡ l.fn.self.due)
    × (l.self.stray ≡ l.fn.self.stray)
    × TakenUpTo l.fn.self.spaces (copies_of_at l.block l.places) (copies_of_at l.block (drop l.place-index l.places)) l.self.spaces
