-- The blocks of volumes that stay, that are placed and that are made.
use Rattle.std.proofs.Common.{◌≡◌, ℕ, ◌*◌, ◌+◌, ◌/◌, ◌<◌, ◌≤◌, List, [], ◌∷◌, ◌++◌, length, replicate, Option, None, AllPairs, refl, sym, ap, subst, ◌∙◌, arith}
use Rattle.std.specs.Prelude.{Vec}
use Rattle.std.specs.List.{count_by}
use Rattle.std.specs.declared.alloc.Global.{Global}
use Rattle.std.proofs.Math.Nat.{mul-le-mul_left}
use Rattle.block_pointer.specs.declared.block.Block.{Block}
use Rattle.block_store.specs.Blocks.{Contents, Extends}
use Rattle.dnode.specs.declared.object_set.ObjectSet.{ObjectSet}
use Rattle.dnode.specs.declared.object_set.ObjectSetKind.TheVariants as kinds
use Rattle.dnode_tree.specs.declared.writes.BlockWrite.{BlockWrite}
use Rattle.objset.proofs.Kept.{objects_stand}
use Rattle.objset.specs.declared.changes.Change.{Change}
use Rattle.objset.specs.declared.changes.Change.TheVariants.{Create, Put}
use Rattle.objset.specs.declared.changes.ObjectChange.{ObjectChange}
use Rattle.objset.specs.Changes.{changed, copies_of}
use Rattle.objset.specs.Objects.{Object}
use Rattle.objset.specs.Within.{blocks_of_set}
use Rattle.volume.proofs.Made.{data_of_zeros}
use Rattle.volume.proofs.Putting.{data_with}
use Rattle.volume.specs.declared.placing.Rewritten.{Rewritten}
use Rattle.volume.specs.declared.volume.VolumeSet.{VolumeSet}
use Rattle.volume.specs.Placing.{IsMade, IsPlaced, IsSetPlanned, data_change}
use Rattle.volume.specs.Volume.{HasBytes, IsData, IsVolume, Spells}
use Rattle.volume.specs.Walking.{blocks_of_volume}
use Rattle.volume.specs.Writing.{AreBlocksOf, IsArrayWith}
use Rattle.dataset_groups.proofs.KeptVolumes.{HasVolumeBlocks, volume_blocks, volume_kept}
use Rattle.dataset_groups.proofs.Exchanges.{given_as, nothing_given}
use Rattle.dataset_groups.proofs.Numbered.{none_behind, set_block_given, set_block_made}
use Rattle.dataset_groups.specs.Leaving.{IsReachExchanged}

-- each block lies in the array
block_fits : (id size block_size : ℕ) → id < size / block_size → id * block_size + block_size ≤ size
block_fits id size block_size lt =
    let high : (id + 1) * block_size ≤ size / block_size * block_size = grind (arith, mul-le-mul_left) in
    omega arith

-- a volume keeps its blocks where none are put to it
pub volume_idle : (stored : Contents) (birth : ℕ) (block : Block) (size block_size : ℕ) (array after : List ℕ) (puts : List BlockWrite) (blocks : List Block)
    → HasVolumeBlocks stored birth block size block_size array blocks → puts ≡ [] → IsArrayWith array block_size puts after → HasVolumeBlocks stored birth block size block_size after blocks
volume_idle stored birth block size block_size array after puts blocks is none with =
    let data_is : IsData size block_size is.0.has.objects array = is.0.has.data_is in (
      record {
        set = is.0.set;
        is_set = is.0.is_set;
        kind = is.0.kind;
        has = record {
          objects = is.0.has.objects;
          own = is.0.has.own;
          blocks = is.0.has.blocks;
          are = is.0.has.are;
          data_is = record {
            others = data_is.others;
            there = data_is.there;
            there_is = data_is.there_is;
            object_type = data_is.object_type;
            sectors = data_is.sectors;
            highest = data_is.highest;
            size_is = with.size ∙ data_is.size_is;
            blocks = λ id lt. subst (λ (bytes : List ℕ). HasBytes block_size (data_is.there.array id) bytes)
                (sym (with.others id (subst (λ (n : ℕ). id * block_size + block_size ≤ n) (sym data_is.size_is) (block_fits id size block_size lt)) (λ any. absurd (omega (arith, any.2, ap length none)))))
                (data_is.blocks id lt);
            behind = data_is.behind;
          };
        };
      },
      is.1,
    )

-- one change is in order
one_in_order : (change : Change) → AllPairs (λ (c later : ObjectChange). c.number < later.number) (data_change change)
one_in_order change i j d less low = absurd (omega (arith, less, low))

-- a set that is planned is a volume's, with these blocks
planned_blocks : (planned later : Contents) (birth : ℕ) (size block_size : ℕ) (after : List ℕ) (set : ObjectSet) (change : Change) (objects : ℕ → Option Object) (own : List Block) (before : ℕ → List Block)
    (block : Block) (gone : List Block) → set.kind ≡ kinds.Volume → (is : IsSetPlanned planned later birth set change objects own before block gone)
    → IsData size block_size (changed (data_change change) objects) after
    → HasVolumeBlocks later birth block size block_size after (block ∷ blocks_of_set is.rewrite.set is.objects_are.own_after is.objects_are.after)
planned_blocks planned later birth size block_size after set change objects own before block gone kind is data_is = (
  record {
    set = is.rewrite.set;
    is_set = is.is_set;
    kind = is.kind ∙ kind;
    has = record {
      objects = changed (data_change change) objects;
      own = is.objects_are.own_after;
      blocks = is.objects_are.after;
      are = objects_stand is.mid later birth block.birth is.rewrite.set (changed (data_change change) objects) is.objects_are.own_after is.objects_are.after (let e = is.born in omega arith)
          (λ b bytes held known. is.adds.kept b bytes known) is.objects_are.are;
      data_is = data_is;
    };
  },
  refl,
)

-- what gave way where blocks were put to a volume
abbrev pub IsExchangedVolume : Contents → Contents → ℕ → VolumeSet → List ℕ → List Block → List Block → Type 0
IsExchangedVolume planned later birth volume after before gone =
    (blocks : List Block) × HasVolumeBlocks later birth volume.block volume.size volume.block_size after blocks × IsReachExchanged birth planned later before blocks gone

-- of a volume to which blocks were put
pub volume_placed : (stored planned later : Contents) (bound birth : ℕ) (old : VolumeSet) (array after : List ℕ) (is : Spells stored bound old array) (puts : Vec BlockWrite Global) (done : Rewritten)
    → AreBlocksOf old puts.items → IsArrayWith array old.block_size puts.items after → done.volume.size ≡ old.size → done.volume.block_size ≡ old.block_size
    → IsPlaced stored planned later bound birth old array is puts done
    → IsExchangedVolume planned later birth done.volume after (volume_blocks is) done.replaced.items
volume_placed stored planned later bound birth old array after is puts done are with size block_size placed =
    let planned_is = placed.planned_is in
    let made = planned_blocks planned later birth old.size old.block_size after is.set (Put puts) is.has.objects is.has.own is.has.blocks done.volume.block placed.gone is.kind planned_is
    (data_with old is.has.objects array after puts is.has.data_is are with) in
    let blocks : List Block = done.volume.block ∷ blocks_of_set planned_is.rewrite.set planned_is.objects_are.own_after planned_is.objects_are.after in (
      blocks,
      subst (λ n. HasVolumeBlocks later birth done.volume.block n done.volume.block_size after blocks) (sym size)
          (subst (λ n. HasVolumeBlocks later birth done.volume.block old.size n after blocks) (sym block_size) made),
      set_block_given (copies_of kinds.Volume) planned planned_is.mid later birth is.set planned_is.rewrite (data_change (Put puts))
          (changed (data_change (Put puts)) is.has.objects) is.has.own is.has.blocks old.block done.volume.block _ done.replaced.items
          (none_behind stored old.block.birth is.set is.has.objects is.has.own is.has.blocks is.has.are) (one_in_order (Put puts))
          planned_is.objects_are planned_is.adds planned_is.born (placed.replaced ∙ ap (λ (bs : List Block). bs ++ old.block ∷ []) planned_is.gone_are),
    )

-- and of one to which none were
pub volume_unplaced : (stored planned : Contents) (bound birth : ℕ) (old : VolumeSet) (array after : List ℕ) (is : Spells stored bound old array) (puts : List BlockWrite) (done : Rewritten) → bound ≤ birth
    → Extends stored planned → puts ≡ [] → IsArrayWith array old.block_size puts after → done.volume ≡ old → done.replaced.items ≡ []
    → IsExchangedVolume planned planned birth done.volume after (volume_blocks is) done.replaced.items
volume_unplaced stored planned bound birth old array after is puts done le more none with same gone =
    let kept = volume_kept stored planned bound birth old.block old.size old.block_size array le more is in
    let idle = volume_idle planned birth old.block old.size old.block_size array after puts (volume_blocks is) kept none with in (
      volume_blocks is,
      subst (λ (v : VolumeSet). HasVolumeBlocks planned birth v.block v.size v.block_size after (volume_blocks is)) (sym same) idle,
      given_as birth planned planned [] [] [] (volume_blocks is) (volume_blocks is) done.replaced.items (volume_blocks is) [] (nothing_given birth planned)
          (λ test. omega arith) (λ test. omega arith) (λ test. omega (arith, ap (count_by test) gone)),
    )

-- a volume of which all blocks are new
abbrev pub IsNew : Contents → Contents → ℕ → Block → ℕ → ℕ → List ℕ → Type 0
IsNew later planned birth block size block_size array =
    (is : IsVolume later birth block size block_size array) × IsReachExchanged birth planned later [] (blocks_of_volume block is.set is.has.own is.has.blocks) []

pub volume_new : (planned later : Contents) (birth : ℕ) (volume : VolumeSet) (array : List ℕ) → array ≡ replicate volume.size 0 → Spells later birth volume array → IsMade planned later birth volume
    → IsNew later planned birth volume.block volume.size volume.block_size array
volume_new planned later birth volume array zeros spells made =
    let is = made.planned_is in
    let some : 0 < volume.size / volume.block_size = (let high = spells.has.data_is.highest in omega (arith, high)) in
    let change : Change = Create 23 (volume.block_size / 512) made.writes in
    let data_is : IsData volume.size volume.block_size (changed (data_change made.change) (λ number. None)) array =
    subst (λ (bytes : List ℕ). IsData volume.size volume.block_size (changed (data_change made.change) (λ number. None)) bytes) (sym zeros)
    (subst (λ (c : Change). IsData volume.size volume.block_size (changed (data_change c) (λ number. None)) (replicate volume.size 0)) (sym made.creates)
    (data_of_zeros volume.size volume.block_size (volume.block_size / 512) made.writes made.none refl some)) in
    let volume_is = planned_blocks planned later birth volume.size volume.block_size array made.set made.change (λ number. None) [] (λ number. []) volume.block made.gone made.kind is data_is in (
      volume_is.0,
      subst (λ (bs : List Block). IsReachExchanged birth planned later [] bs []) (sym volume_is.1)
          (set_block_made (copies_of kinds.Volume) planned is.mid later birth made.set is.rewrite (data_change made.change) (changed (data_change made.change) (λ number. None)) volume.block _
          (one_in_order made.change) is.objects_are is.adds is.born),
    )
