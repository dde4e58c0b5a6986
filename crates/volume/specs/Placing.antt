-- Volumes that are planned.
use Rattle.std.specs.Prelude.{ℕ, ◌≡◌, ◌⊎◌, List, [], ◌∷◌, ◌++◌, ◌/◌, Vec, Option, None, length}
use Rattle.std.specs.declared.alloc.Global.{Global}
use Rattle.block_pointer.specs.declared.block.Block.{Block}
use Rattle.block_pointer.specs.Copies.{dvas}
use Rattle.block_store.specs.Blocks.{Contents, Adds}
use Rattle.block_store.specs.Steps.{HasNoRoomFor}
use Rattle.block_store.specs.Store.{Store}
use Rattle.dnode.specs.declared.object_set.ObjectSet.{ObjectSet}
use Rattle.dnode.specs.ObjectSet.{object_set_bytes}
use Rattle.objset.specs.declared.node_writes.SetRewrite.{SetRewrite}
use Rattle.objset.specs.Sets.{IsSetBlock}
use Rattle.dnode_tree.specs.declared.writes.BlockWrite.{BlockWrite}
use Rattle.objset.specs.declared.changes.Change.{Change}
use Rattle.objset.specs.declared.changes.Change.TheVariants.{Create, Put}
use Rattle.objset.specs.declared.changes.ObjectChange.{ObjectChange}
use Rattle.objset.specs.Changes.{AreChanged, HasNoRoom, changed, copies_of}
use Rattle.objset.specs.Objects.{Object}
use Rattle.volume.specs.declared.placing.Rewritten.{Rewritten}
use Rattle.volume.specs.declared.volume.VolumeSet.{VolumeSet}
use Rattle.volume.specs.Volume.{block_of, Spells}
use Rattle.dnode.specs.declared.object_set.ObjectSetKind.TheVariants as kinds

-- there was no room for a block of the data or of the objects, or for that of the object set
abbrev pub LacksRoom : Store → Store → Type 0
LacksRoom old new = HasNoRoom old new [] (copies_of kinds.Volume) ⊎ HasNoRoomFor old new [] 2 2

-- the change of the object that has the data
abbrev pub data_change : Change → List ObjectChange
data_change change = record { number = 1; change = change } ∷ []

-- A set's object 1 was changed, and the block of the set that came of it is new, in two copies. These blocks of the objects gave way.
pub record IsSetPlanned (planned later : Contents) (birth : ℕ) (set : ObjectSet) (change : Change) (objects : ℕ → Option Object) (own : List Block) (before : ℕ → List Block)
    (block : Block) (gone : List Block) : Type 0 where
  pub mid : Contents
  pub rewrite : SetRewrite
  pub objects_are : AreChanged (copies_of kinds.Volume) planned mid birth rewrite (data_change change) (changed (data_change change) objects) own before
  pub kind : rewrite.set.kind ≡ set.kind
  pub adds : Adds mid later block (object_set_bytes rewrite.set)
  pub is_set : IsSetBlock later birth block rewrite.set
  pub born : block.birth ≡ birth
  pub copies : length (dvas block.copies) ≡ 2
  pub gone_are : gone ≡ rewrite.replaced.items

-- These blocks were put to the volume's data. What gave way are those blocks of the objects, and the block of the object set before.
pub record IsPlaced (stored planned later : Contents) (bound birth : ℕ) (old : VolumeSet) (array : List ℕ) (is : Spells stored bound old array)
    (blocks : Vec BlockWrite Global) (done : Rewritten) : Type 0 where
  pub gone : List Block
  pub planned_is : IsSetPlanned planned later birth is.set (Put blocks) is.has.objects is.has.own is.has.blocks (block_of done.volume) gone
  pub replaced : done.replaced.items ≡ gone ++ block_of old ∷ []

-- A volume was made: of a set with no objects and no blocks, by the object of its data with no blocks written. No blocks are new but
-- those of its object set.
pub record IsMade (planned later : Contents) (birth : ℕ) (volume : VolumeSet) : Type 0 where
  pub set : ObjectSet
  pub kind : set.kind ≡ kinds.Volume
  pub change : Change
  pub writes : Vec BlockWrite Global
  pub none : writes.items ≡ []
  pub creates : change ≡ Create 23 (volume.block_size / 512) writes
  pub gone : List Block
  pub planned_is : IsSetPlanned planned later birth set change (λ number. None) [] (λ number. []) (block_of volume) gone
