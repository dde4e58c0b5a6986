use Rattle.std.proofs.Common.{◌≡◌, ℕ, ◌<◌, get_or, length}
use Rattle.pool_model.specs.declared.item.Write.{Write}
use Rattle.volume_rules.specs.Covering.{CoversRange}
use Rattle.volume_rules.proofs.pieces.covers_any.Given as goal

-- none of those so far has the range
abbrev pub invariant-loop-position : goal.invariant-loop-position
invariant-loop-position l = (k : ℕ) (write : Write) → k < l.position-index → k < length l.places → get_or l.writes (get_or l.places k 0) write ≡ write → CoversRange l.size l.offset l.len write → ⊥
