use Rattle.std.proofs.Common.{◌≡◌, length, All}
use Rattle.std.specs.List.{AllZip}
use Rattle.dnode_tree.specs.Ways.{bytes_of}
use Rattle.volume.specs.Volume.{HasBytes}
use Rattle.volume.proofs.volume.VolumeSet.all_whole.Given as goal

-- the bytes of the blocks so far
abbrev pub invariant-loop-block : goal.invariant-loop-block
invariant-loop-block l = record {
  len : All (λ bytes. length bytes.items ≡ l.self.block_size) l.blocks.items;
  value : AllZip (λ block bytes. HasBytes l.self.block_size (bytes_of block) bytes.items) l.yielded l.blocks.items;
}
