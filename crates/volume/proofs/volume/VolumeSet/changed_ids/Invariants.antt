use Rattle.std.proofs.Common.{◌↔◌, ℕ, Contains}
use Rattle.volume.proofs.Changed.{IsListedBefore}
use Rattle.volume.proofs.volume.VolumeSet.changed_ids.Given as goal

-- the ids are those that the writes at the places so far reach
abbrev pub invariant-loop-position : goal.invariant-loop-position
invariant-loop-position l = (id : ℕ) → Contains l.ids.items id ↔ IsListedBefore l.self l.writes l.places l.position-index id
