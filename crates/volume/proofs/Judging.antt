-- The object set of a volume, as it is judged.
use Rattle.std.proofs.Common.{◌≡◌, ℕ, ◌/◌, ◌<◌, List, Option, Some, None, sym, ◌∙◌, subst}
use Rattle.std.specs.Prelude.{IsSomeAnd}
use Rattle.block_store.specs.Spaces.{VdevSpace}
use Rattle.dnode.specs.declared.object_set.ObjectSet.{ObjectSet}
use Rattle.dnode.specs.declared.object_set.ObjectSetKind.TheVariants as kinds
use Rattle.objset.specs.Sets.{IsSetFound}
use Rattle.objset.specs.declared.shape.ObjectShape.{ObjectShape}
use Rattle.objset.specs.Objects.{Object}
use Rattle.objset.specs.Shapes.{HasShape}
use Rattle.volume.specs.declared.volume.VolumeSet.{VolumeSet}
use Rattle.volume.specs.Reading.{IsDataShape, IsObjectFound, IsVolumeFound}
use Rattle.volume.specs.Volume.{IsData}

-- the object that has the data has their shape
pub data_shape : (volume : VolumeSet) (objects : ℕ → Option Object) (array : List ℕ) (found : Option ObjectShape) → IsData volume.size volume.block_size objects array
    → HasShape (objects 1) found → IsSomeAnd found (IsDataShape volume)
data_shape volume objects array None data_is has = absurd (subst (λ (o : Option Object). HasShape o None) data_is.there_is has)
data_shape volume objects array (Some shape) data_is has =
    let there = subst (λ (o : Option Object). HasShape o (Some shape)) data_is.there_is has in record {
      object_type = sym there.0 ∙ data_is.object_type;
      sectors = sym there.1 ∙ data_is.sectors;
      highest = subst (λ (n : ℕ). n < volume.size / volume.block_size) there.2 data_is.highest;
    }

pub judged : (spaces : List VdevSpace) (volume : VolumeSet) (birth : ℕ) (set : ObjectSet) (found : Option ObjectShape) → IsSetFound spaces birth volume.block set → set.kind ≡ kinds.Volume
    → IsObjectFound spaces volume set found → IsSomeAnd found (IsDataShape volume) → IsVolumeFound spaces volume birth set
judged spaces volume birth set None is_set kind has is = absurd is
judged spaces volume birth set (Some shape) is_set kind has is = record { is_set = is_set; kind = kind; shape = shape; has_object = has; is_data = is }
