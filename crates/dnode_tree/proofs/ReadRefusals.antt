-- What reads of a tree are refused for.
use Rattle.std.proofs.Common.{ℕ, ◌≡◌, ◌⊎◌, inl, inr, refl, List}
use Rattle.block_pointer.specs.declared.block.Block.{Block}
use Rattle.block_pointer.specs.declared.property.Property.{Property}
use Rattle.block_store.specs.declared.refusal.Refusal.{Refusal}
use Rattle.block_store.specs.declared.refusal.Refusal.TheVariants.{NoMemory, DiskFault, NoSpace, BadPointer, BadDigest, BadConfig}
use Rattle.block_store.specs.Reading.{IsLastFault}
use Rattle.block_store.specs.Store.{Store}
use Rattle.dnode.specs.declared.node.ObjectNode.{ObjectNode}
use Rattle.dnode_tree.specs.ReadRefusals.{IsForRead}
use Rattle.dnode_tree.specs.Tree.{property_of}
use Rattle.dnode_tree.specs.Ways.{Reached, root_of, IsCause, IsRefusedBelow, IsRefused, IsWalkRefused}
use Rattle.dnode_tree.specs.Within.{IsWithinRefused}

pub bad_read : (refusal : Refusal) → refusal ≡ BadPointer → IsForRead refusal
bad_read refusal bad = inr (inr (inl bad))

-- a block that was not read
pub block_read : (old new : Store) (missing : List ℕ) (block : Block) (Why : Type 0) (refusal : Refusal)
    → (refusal ≡ NoMemory) ⊎ (((refusal ≡ BadPointer) × Why) ⊎ IsLastFault old new missing block refusal) → IsForRead refusal
block_read old new missing block Why refusal (inl memory) = inl memory
block_read old new missing block Why refusal (inr (inl bad)) = bad_read refusal bad.0
block_read old new missing block Why refusal (inr (inr fault)) = elim fault.last.cause [ inl lost ↦ inr (inl lost.0) | inr digest ↦ inr (inr (inr digest.0)) ]

cause_read : (old new : Store) (missing : List ℕ) (property : ℕ → Property) (there : Reached) (refusal : Refusal) → IsCause old new missing property there refusal → IsForRead refusal
cause_read old new missing property there NoMemory cause = inl refl
cause_read old new missing property there DiskFault cause = inr (inl refl)
cause_read old new missing property there NoSpace cause = absurd cause
cause_read old new missing property there BadPointer cause = inr (inr (inl refl))
cause_read old new missing property there BadDigest cause = inr (inr (inr refl))
cause_read old new missing property there BadConfig cause = absurd cause

below_read : (old new : Store) (missing : List ℕ) (property : ℕ → Property) (here : Reached) (place : ℕ) (refusal : Refusal) → IsRefusedBelow old new missing property here place refusal → IsForRead refusal
below_read old new missing property here place refusal why = cause_read old new missing property why.there refusal why.fault

pub data_read : (old new : Store) (missing : List ℕ) (node : ObjectNode) (birth id : ℕ) (refusal : Refusal) → IsRefused old new missing node birth id refusal → IsForRead refusal
data_read old new missing node birth id refusal why = below_read old new missing (property_of node) (root_of node birth) id refusal why

walk_read : (old new : Store) (missing : List ℕ) (property : ℕ → Property) (here : Reached) (refusal : Refusal) → IsWalkRefused old new missing property here refusal → IsForRead refusal
walk_read old new missing property here refusal (place, low, why) = below_read old new missing property here place refusal why

pub within_read : (old new : Store) (missing : List ℕ) (node : ObjectNode) (birth left : ℕ) (refusal : Refusal) → IsWithinRefused old new missing node birth left refusal → IsForRead refusal
within_read old new missing node birth left refusal (inl why) = walk_read old new missing (property_of node) (root_of node birth) refusal why
within_read old new missing node birth left refusal (inr bad) = bad_read refusal bad.0
