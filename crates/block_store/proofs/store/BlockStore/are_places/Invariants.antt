use Rattle.std.proofs.Common.{length}
use Rattle.std.specs.List.{AllWithin}
use Rattle.block_store.specs.Places.{IsPlaceFor}
use Rattle.block_store.proofs.store.BlockStore.are_places.Given as goal

abbrev pub invariant-loop-place : goal.invariant-loop-place
invariant-loop-place g l = AllWithin (λ place. IsPlaceFor l.self.spaces l.sectors (length l.places) place) l.places 0 l.place-index
