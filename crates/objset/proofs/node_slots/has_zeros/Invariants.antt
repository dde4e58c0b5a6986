use Rattle.std.proofs.Common.{◌≡◌, ℕ, ◌+◌, ◌*◌, ◌<◌, replicate}
use Rattle.objset.specs.Nodes.{IsUnused, slot_of}
use Rattle.objset.proofs.node_slots.has_zeros.Given as goal

abbrev pub invariant-loop-place : goal.invariant-loop-place
invariant-loop-place l = (place : ℕ) → place < l.place → IsUnused l.objects (32 * l.id + place) → slot_of l.block place ≡ replicate 512 0
