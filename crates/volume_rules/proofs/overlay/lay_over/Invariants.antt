use Rattle.std.proofs.Common.{◌≡◌, false, true, length, take}
use Rattle.pool_model.specs.declared.volume.PlainVolume.{PlainVolume}
use Rattle.pool_model.specs.Names.{same}
use Rattle.pool_model.specs.Pools.{is_snapshot}
use Rattle.volume_rules.specs.Overlay.{after_writes, HasRange}
use Rattle.volume_rules.proofs.overlay.lay_over.Given as goal

-- the writes so far are laid over the range
abbrev pub invariant-loop-write : goal.invariant-loop-write
invariant-loop-write l = (volume : PlainVolume) → same volume.name l.name ≡ true → is_snapshot volume.kind ≡ false → length volume.bytes ≡ l.size → HasRange l.fn.buffer volume.bytes l.offset →
    HasRange l.buffer (after_writes volume (take l.write-index l.writes)).bytes l.offset
