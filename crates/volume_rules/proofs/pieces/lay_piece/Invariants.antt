use Rattle.std.proofs.Common.{◌≡◌, ℕ, ◌≤◌, false, true, length, take}
use Rattle.pool_model.specs.declared.volume.PlainVolume.{PlainVolume}
use Rattle.pool_model.specs.Names.{same}
use Rattle.pool_model.specs.Pools.{is_snapshot}
use Rattle.volume_rules.specs.Overlay.{after_writes, HasRange}
use Rattle.volume_rules.proofs.InPieces.{Reaches}
use Rattle.volume_rules.proofs.pieces.lay_piece.Given as goal

-- the range is laid up to each write behind the positions so far and not behind the others
abbrev pub invariant-loop-position : goal.invariant-loop-position
invariant-loop-position l = (volume : PlainVolume) (n : ℕ) → same volume.name l.name ≡ true → is_snapshot volume.kind ≡ false → length volume.bytes ≡ l.size → HasRange l.fn.buffer volume.bytes l.offset
    → n ≤ length l.writes → Reaches l.places l.position-index n → HasRange l.buffer (after_writes volume (take n l.writes)).bytes l.offset
