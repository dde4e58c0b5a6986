-- Volumes stay what they are where their own blocks stay known.
use Rattle.std.proofs.Common.{inl, inr, refl, arith}
use Rattle.objset.proofs.Kept.{objects_stand}
use Rattle.volume.specs.Laws.{VolumesStandOnTheirBlocks, VolumesStay}

pub volumes_stand : VolumesStandOnTheirBlocks
volumes_stand old new bound birth set_block size block_size array le is keeps = (
  record {
    set = is.set;
    is_set = record {
      asks = record { property = is.is_set.asks.property; birth = let early = is.is_set.asks.birth in omega arith };
      bytes = is.is_set.bytes;
      known = keeps set_block is.is_set.bytes (inl refl) is.is_set.known;
      spelled = is.is_set.spelled;
    };
    kind = is.kind;
    has = record {
      objects = is.has.objects;
      own = is.has.own;
      blocks = is.has.blocks;
      are = objects_stand old new set_block.birth set_block.birth is.set is.has.objects is.has.own is.has.blocks (omega arith)
          (λ block bytes held known. keeps block bytes (inr held) known) is.has.are;
      data_is = is.has.data_is;
    };
  },
  refl,
  refl,
)

pub volumes_stay : VolumesStay
volumes_stay old new bound birth set_block size block_size array le more is =
    (volumes_stand old new bound birth set_block size block_size array le is (λ block bytes held known. more block bytes known)).0
