use Rattle.std.proofs.Common.{drop}
use Rattle.block_store.specs.Releases.{copies_of_at}
use Rattle.block_store.proofs.Giving.{GivesUpTo}
use Rattle.block_store.proofs.gone.give_places.Given as goal

-- the copies at the places that are left are left
abbrev pub invariant-loop-place : goal.invariant-loop-place
invariant-loop-place l = GivesUpTo l.at (copies_of_at l.block l.places) (copies_of_at l.block (drop l.place-index l.places)) l.fn.free l.free
