use Rattle.std.proofs.Common.{◌≡◌, ◌-◌, ◌≤◌, false, true, length}
use Rattle.pool_model.specs.declared.volume.PlainVolume.{PlainVolume}
use Rattle.pool_model.specs.Names.{same}
use Rattle.pool_model.specs.Pools.{is_snapshot}
use Rattle.volume_rules.specs.Overlay.{after_writes, HasRange}
use Rattle.volume_rules.proofs.InPieces.{IsLaidUpTo}
use Rattle.volume_rules.proofs.pieces.lay_pending.Given as goal

-- the pieces so far are laid
abbrev pub invariant-loop-done : goal.invariant-loop-done
invariant-loop-done l = record {
  most : l.done ≤ length l.buffer;
  laid : (volume : PlainVolume) → same volume.name l.name ≡ true → is_snapshot volume.kind ≡ false → length volume.bytes ≡ l.size → HasRange l.fn.buffer volume.bytes l.offset
      → IsLaidUpTo l.done l.buffer (after_writes volume l.items.writes).bytes volume.bytes l.offset;
}

abbrev pub decreases-loop-done : goal.decreases-loop-done
decreases-loop-done l = length l.initial.buffer - l.done
