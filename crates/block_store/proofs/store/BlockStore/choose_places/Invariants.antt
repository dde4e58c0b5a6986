use Rattle.std.proofs.Common.{◌≡◌, length, []}
use Rattle.block_store.specs.Places.{AreChosen}
use Rattle.block_store.proofs.store.BlockStore.choose_places.Given as goal

-- the places so far were chosen one after the other
abbrev pub invariant-loop-copy : goal.invariant-loop-copy
invariant-loop-copy g l =
    (l.self.disks ≡ l.fn.self.disks) × (l.self.out ≡ l.fn.self.out) × (l.self.spans ≡ l.fn.self.spans) × (l.self.due ≡ l.fn.self.due) × (l.self.stray ≡ l.fn.self.stray) × (length l.places.items ≡ l._copy)
    × AreChosen l.fn.self.spaces [] l.sectors l.copies l.places.items l.self.spaces
