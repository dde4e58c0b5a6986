use Rattle.std.proofs.Common.{◌≡◌, false, length, map, drop, take}
use Rattle.std.specs.Prelude.{All}
use Rattle.pool_model.specs.Pools.{is_snapshot}
use Rattle.pool_model.specs.declared.volume.PlainVolume.{PlainVolume}
use Rattle.volume_rules.specs.Overlay.{after_writes}
use Rattle.volume.specs.InTurn.{HaveInTurn}
use Rattle.volume.specs.Volume.{part}
use Rattle.volume.specs.Writing.{IsCovered}
use Rattle.volume.proofs.volume.VolumeSet.laid_all.Given as goal

-- the blocks of the ids so far, and the old bytes of those that are left
abbrev pub invariant-loop-id : goal.invariant-loop-id
invariant-loop-id l = record {
  left : HaveInTurn (IsCovered l.self l.changes.name.now l.changes.items.now.writes) (λ id bytes. length bytes.items ≡ l.self.block_size) (drop l.id-index l.ids) l.left.items;
  ids : map (λ block. block.id) l.blocks.items ≡ take l.id-index l.ids;
  whole : All (λ block. length block.bytes.items ≡ l.self.block_size) l.blocks.items;
  value : (volume : PlainVolume) → volume.name ≡ l.changes.name.now → is_snapshot volume.kind ≡ false → length volume.bytes ≡ l.self.size
      → HaveInTurn (IsCovered l.self l.changes.name.now l.changes.items.now.writes) (λ id bytes. bytes.items ≡ part volume.bytes l.self.block_size id) l.ids l.fn.old.items
      → All (λ block. block.bytes.items ≡ part (after_writes volume l.changes.items.now.writes).bytes l.self.block_size block.id) l.blocks.items
      × HaveInTurn (IsCovered l.self l.changes.name.now l.changes.items.now.writes) (λ id bytes. bytes.items ≡ part volume.bytes l.self.block_size id) (drop l.id-index l.ids) l.left.items;
}
