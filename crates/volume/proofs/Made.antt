-- Volumes that are made.
use Rattle.std.proofs.Common.{◌≡◌, ℕ, ◌*◌, ◌/◌, ◌<◌, List, [], replicate, None, refl, sym, ap, ◌∙◌, subst}
use Rattle.std.specs.Prelude.{Vec}
use Rattle.std.specs.declared.alloc.Global.{Global}
use Rattle.std.proofs.lemmas.List.{length-replicate}
use Rattle.block_pointer.specs.declared.block.Block.{Block}
use Rattle.block_pointer.specs.declared.pointer.BlockPtr.TheVariants.{Hole}
use Rattle.block_store.specs.Blocks.{Contents}
use Rattle.dnode.specs.declared.dnode.Dnode.TheVariants.{Free}
use Rattle.dnode.specs.declared.object_set.ObjectSet.{ObjectSet}
use Rattle.dnode.specs.declared.object_set.ObjectSetKind.TheVariants as kinds
use Rattle.dnode_tree.specs.declared.writes.BlockWrite.{BlockWrite}
use Rattle.dnode_tree.specs.Writes.{written}
use Rattle.dnode_tree.specs.Births.{AreBirths, height_of}
use Rattle.dnode_tree.proofs.Births.{births_at_hole}
use Rattle.dnode_tree.proofs.Standing.{empty_trees}
use Rattle.objset.specs.declared.changes.Change.{Change}
use Rattle.objset.specs.declared.changes.Change.TheVariants.{Create}
use Rattle.objset.specs.Changes.{changed, after_change, highest_of}
use Rattle.objset.specs.Objects.{AreObjects}
use Rattle.volume.specs.declared.volume.VolumeSet.{VolumeSet}
use Rattle.volume.specs.Placing.{IsMade, IsSetPlanned, data_change}
use Rattle.volume.specs.Volume.{HasBytes, IsData, part}
use Rattle.volume.proofs.Putting.{other_object}
use Rattle.volume.proofs.Ranges.{block_fits, slice_zeros}

-- a set whose dnodes begin at a hole has no objects
pub no_objects : (stored : Contents) (birth : ℕ) (set : ObjectSet) → set.dnodes.pointer ≡ Hole → AreObjects stored birth set (λ number. None) [] (λ number. [])
no_objects stored birth set hole = record {
  nodes = λ number. Free;
  dnodes = record {
    array = λ id. None;
    tree = empty_trees stored birth set.dnodes hole;
    births = λ level first. 0;
    born = subst (λ pointer. AreBirths stored (height_of set.dnodes) 0 pointer (λ level first. 0)) (sym hole) (births_at_hole stored (height_of set.dnodes) 0 (λ level first. 0));
    each = λ number. refl;
    first = refl;
    behind = λ number past. refl;
  };
  each = λ number. (refl, refl);
}

-- the data of a volume of zeros
pub data_of_zeros : (size block_size sectors : ℕ) (writes : Vec BlockWrite Global) → writes.items ≡ [] → sectors ≡ block_size / 512
    → 0 < size / block_size → IsData size block_size (changed (data_change (Create 23 sectors writes)) (λ number. None)) (replicate size 0)
data_of_zeros size block_size sectors writes none is some = record {
  others = λ number apart. other_object number (after_change (Create 23 sectors writes) None) None apart;
  there = _;
  there_is = refl;
  object_type = refl;
  sectors = is;
  highest = subst (λ (blocks : List BlockWrite). highest_of blocks 0 < size / block_size) (sym none) some;
  size_is = length-replicate {A = ℕ} size 0;
  blocks = λ id lt. subst (λ (blocks : List BlockWrite). HasBytes block_size (written blocks (λ id. None) id) (part (replicate {A = ℕ} size 0) block_size id)) (sym none)
      (sym (slice_zeros size (id * block_size) block_size (block_fits id size block_size lt)));
  behind = λ id past. ap (λ (blocks : List BlockWrite). written blocks (λ id. None) id) none;
}

pub made : (planned later : Contents) (birth : ℕ) (volume : VolumeSet) (set : ObjectSet) (change : Change) (writes : Vec BlockWrite Global) (block_size : ℕ) (block : Block) (gone : List Block)
    → volume.block ≡ block → volume.block_size ≡ block_size → set.kind ≡ kinds.Volume → writes.items ≡ [] → change ≡ Create 23 (block_size / 512) writes
    → IsSetPlanned planned later birth set change (λ number. None) [] (λ number. []) block gone → IsMade planned later birth volume
made planned later birth volume set change writes block_size block gone same sized kind none creates is = record {
  set = set;
  kind = kind;
  change = change;
  writes = writes;
  none = none;
  creates = creates ∙ ap (λ n. Create 23 (n / 512) writes) (sym sized);
  gone = gone;
  planned_is = subst (λ (b : Block). IsSetPlanned planned later birth set change (λ number. None) [] (λ number. []) b gone) (sym same) is;
}
