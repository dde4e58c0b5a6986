-- What walks over the younger blocks of a volume are refused for.
use Rattle.std.proofs.Common.{ℕ, ◌≡◌, ◌⊎◌, ◌++◌, Bool, inl, inr, refl, List}
use Rattle.block_pointer.specs.declared.block.Block.{Block}
use Rattle.block_pointer.specs.declared.property.Property.{Property}
use Rattle.block_store.specs.declared.refusal.Refusal.{Refusal}
use Rattle.block_store.specs.declared.refusal.Refusal.TheVariants.{NoMemory, DiskFault, NoSpace, BadPointer, BadDigest, BadConfig}
use Rattle.block_store.specs.Reading.{IsReadable}
use Rattle.block_store.specs.Store.{Store, outs}
use Rattle.dnode.specs.declared.node.ObjectNode.{ObjectNode}
use Rattle.dnode.specs.declared.object_set.ObjectSet.{ObjectSet}
use Rattle.objset.specs.NodesWithin.{asked_of_nodes, HasNoNode}
use Rattle.objset.specs.NodesYounger.{AreYoungerRefused}
use Rattle.dnode_tree.proofs.ReadRefusals.{bad_read, block_read}
use Rattle.dnode_tree.specs.ReadRefusals.{IsForRead}
use Rattle.dnode_tree.specs.Tree.{property_of}
use Rattle.dnode_tree.specs.Ways.{IsCause, Reached}
use Rattle.dnode_tree.specs.Younger.{IsWithinRefusedWhere, is_younger}
use Rattle.objset.specs.Younger.{IsYoungerSetRefused}
use Rattle.volume.proofs.ReadRefusals.{volume_walk_read}
use Rattle.volume.specs.declared.volume.VolumeSet.{VolumeSet}
use Rattle.volume.specs.Volume.{block_of}
use Rattle.volume.specs.Younger.{IsYoungerVolumeRefused}

cause_read : (old new : Store) (missing : List ℕ) (property : ℕ → Property) (there : Reached) (refusal : Refusal) → IsCause old new missing property there refusal → IsForRead refusal
cause_read old new missing property there NoMemory cause = inl refl
cause_read old new missing property there DiskFault cause = inr (inl refl)
cause_read old new missing property there NoSpace cause = absurd cause
cause_read old new missing property there BadPointer cause = inr (inr (inl refl))
cause_read old new missing property there BadDigest cause = inr (inr (inr refl))
cause_read old new missing property there BadConfig cause = absurd cause

where_read : (picks : Block → Bool) (old new : Store) (missing : List ℕ) (node : ObjectNode) (birth left : ℕ) (refusal : Refusal) → IsWithinRefusedWhere picks old new missing node birth left refusal
    → IsForRead refusal
where_read picks old new missing node birth left refusal (inl why) = cause_read old new missing (property_of node) why.there refusal why.fault
where_read picks old new missing node birth left refusal (inr bad) = bad_read refusal bad.0

younger_nodes_read : (since : ℕ) (old new : Store) (missing : List ℕ) (set : ObjectSet) (birth left : ℕ) (refusal : Refusal) → AreYoungerRefused since old new missing set birth left refusal
    → IsForRead refusal
younger_nodes_read since old new missing set birth left refusal (inl why) = where_read (is_younger since) old new missing set.dnodes birth left refusal why
younger_nodes_read since old new missing set birth left refusal (inr there) =
    block_read there.mid new (outs there.mid ++ missing) there.block
    ((left ≡ 0) ⊎ ((¬ IsReadable there.mid.spaces (asked_of_nodes there.block) there.block) ⊎ HasNoNode there.mid.spaces there.block)) refusal there.why

younger_set_read : (since : ℕ) (old new : Store) (missing : List ℕ) (set : ObjectSet) (birth before after : ℕ) (refusal : Refusal)
    → IsYoungerSetRefused since old new missing set birth before after refusal → IsForRead refusal
younger_set_read since old new missing set birth before after refusal (inl memory) = inl memory
younger_set_read since old new missing set birth before after refusal (inr (inl nodes)) = younger_nodes_read since old new missing set birth after refusal nodes
younger_set_read since old new missing set birth before after refusal (inr (inr (inl there))) =
    where_read (is_younger since) there.mid new missing there.it.node there.it.birth after refusal there.why
younger_set_read since old new missing set birth before after refusal (inr (inr (inr bad))) = bad_read refusal bad.0

pub younger_volume_read : (since : ℕ) (old new : Store) (missing : List ℕ) (volume : VolumeSet) (birth before after : ℕ) (refusal : Refusal)
    → IsYoungerVolumeRefused since old new missing volume birth before after refusal → IsForRead refusal
younger_volume_read since old new missing volume birth before after refusal (inl memory) = inl memory
younger_volume_read since old new missing volume birth before after refusal (inr (later, inl missed)) =
    volume_walk_read old new missing volume birth before after refusal (inr (inl missed))
younger_volume_read since old new missing volume birth before after refusal (inr (later, inr there)) =
    younger_set_read since there.mid new missing there.set (block_of volume).birth there.left after refusal there.why
