use Rattle.std.proofs.Common.{◌≡◌, ◌++◌, [], ◌∷◌, List, ℕ, Option, Vec, length, All, sym, subst}
use Rattle.std.specs.declared.alloc.Global.{Global}
use Rattle.std.specs.List.{AllZip}
use Rattle.std.proofs.lemmas.List.Elements.{All-push}
use Rattle.dnode_tree.specs.Ways.{bytes_of}
use Rattle.dnode_tree.proofs.Getting.{zip_append}
use Rattle.volume.specs.Volume.{HasBytes}
use Rattle.volume.proofs.volume.VolumeSet.all_whole.Goals as goal

pub loop-block-preserved : goal.loop-block-preserved
loop-block-preserved c =
    let Is : Option (Vec ℕ Global) → Vec ℕ Global → Type 0 = λ block bytes. HasBytes c.args.self.now.block_size (bytes_of block) bytes.items in
    let seen : List (Option (Vec ℕ Global)) = c.loop-block.yielded ++ c.in-Some.block ∷ [] in
    record {
      len = subst (All (λ (bytes : Vec ℕ Global). length bytes.items ≡ c.args.self.now.block_size)) (sym c.in_ok-push.ensures)
          (All-push (λ (bytes : Vec ℕ Global). length bytes.items ≡ c.args.self.now.block_size) c.loop-block.blocks.items c.in_ok-bytes.bytes c.loop-block.invariant.len c.in_ok-bytes.ensures.len);
      value = subst (λ (blocks : List (Vec ℕ Global)). AllZip Is seen blocks) (sym c.in_ok-push.ensures)
          (zip_append Is c.loop-block.yielded (c.in-Some.block ∷ []) c.loop-block.blocks.items (c.in_ok-bytes.bytes ∷ []) c.loop-block.invariant.value (c.in_ok-bytes.ensures.value, tt));
    }
