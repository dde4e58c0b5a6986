-- Refusals for lack of disks: a block is lost.
use Rattle.std.proofs.Common.{ℕ, ◌≡◌, ◌⊎◌, inl, inr, List, subst}
use Rattle.block_pointer.specs.declared.property.Property.{Property}
use Rattle.block_store.specs.declared.refusal.Refusal.{Refusal}
use Rattle.block_store.specs.declared.refusal.Refusal.TheVariants.{NoMemory, DiskFault, NoSpace}
use Rattle.block_store.specs.Losses.{IsForLoss, IsBlockLost}
use Rattle.block_store.specs.Store.{Store}
use Rattle.block_store.proofs.Losses.{lost_later}
use Rattle.block_store.proofs.Steps.{steps_read}
use Rattle.dnode.specs.declared.node.ObjectNode.{ObjectNode}
use Rattle.dnode_tree.specs.declared.writes.BlockWrite.{BlockWrite}
use Rattle.dnode_tree.specs.Refused.{IsWriteRefused}
use Rattle.dnode_tree.specs.Tree.{property_of}
use Rattle.dnode_tree.specs.Ways.{Reached, root_of, IsLost, IsCause, IsRefusedBelow, IsRefused, IsWalkRefused}
use Rattle.dnode_tree.specs.Within.{IsWithinRefused}
use Rattle.dnode_tree.specs.Writes.{IsForRoom}

-- what reads are refused for, as what plans are
pub loss_in_plan : (refusal : Refusal) → IsForLoss refusal → IsForRoom refusal ⊎ (refusal ≡ DiskFault)
loss_in_plan refusal (inl memory) = inl (inl memory)
loss_in_plan refusal (inr fault) = inr fault

pub cause_lost : (old new : Store) (missing : List ℕ) (property : ℕ → Property) (there : Reached) (refusal : Refusal)
    → IsCause old new missing property there refusal → refusal ≡ DiskFault → IsBlockLost old new missing
cause_lost old new missing property there refusal cause is =
    let lost : IsLost old new missing there DiskFault = subst (λ (it : Refusal). IsCause old new missing property there it) is cause in
    record { block = lost.block; mid = lost.mid; before = steps_read old lost.mid missing lost.before; fault = lost.fault }

pub below_lost : (old new : Store) (missing : List ℕ) (property : ℕ → Property) (here : Reached) (place : ℕ) (refusal : Refusal)
    → IsRefusedBelow old new missing property here place refusal → refusal ≡ DiskFault → IsBlockLost old new missing
below_lost old new missing property here place refusal why is = cause_lost old new missing property why.there refusal why.fault is

pub refused_lost : (old new : Store) (missing : List ℕ) (node : ObjectNode) (birth id : ℕ) (refusal : Refusal)
    → IsRefused old new missing node birth id refusal → refusal ≡ DiskFault → IsBlockLost old new missing
refused_lost old new missing node birth id refusal why is = below_lost old new missing (property_of node) (root_of node birth) id refusal why is

pub walk_lost : (old new : Store) (missing : List ℕ) (property : ℕ → Property) (here : Reached) (refusal : Refusal)
    → IsWalkRefused old new missing property here refusal → refusal ≡ DiskFault → IsBlockLost old new missing
walk_lost old new missing property here refusal (place, low, why) is = below_lost old new missing property here place refusal why is

pub within_lost : (old new : Store) (missing : List ℕ) (node : ObjectNode) (birth left : ℕ) (refusal : Refusal)
    → IsWithinRefused old new missing node birth left refusal → refusal ≡ DiskFault → IsBlockLost old new missing
within_lost old new missing node birth left refusal (inl why) is = walk_lost old new missing (property_of node) (root_of node birth) refusal why is
within_lost old new missing node birth left refusal (inr (bad, why)) is = absurd (cc)

-- blocks that are freed: one of two walks was refused
pub free_lost : (old new : Store) (missing : List ℕ) (before after : ObjectNode) (birth : ℕ) (refusal : Refusal)
    → IsWalkRefused old new missing (property_of after) (root_of after birth) refusal ⊎ IsWalkRefused old new missing (property_of before) (root_of before birth) refusal
    → refusal ≡ DiskFault → IsBlockLost old new missing
free_lost old new missing before after birth refusal (inl why) is = walk_lost old new missing (property_of after) (root_of after birth) refusal why is
free_lost old new missing before after birth refusal (inr why) is = walk_lost old new missing (property_of before) (root_of before birth) refusal why is

pub write_lost : (old new : Store) (missing : List ℕ) (node : ObjectNode) (birth : ℕ) (writes : List BlockWrite) (refusal : Refusal)
    → IsWriteRefused old new missing node birth writes refusal → refusal ≡ DiskFault → IsBlockLost old new missing
write_lost old new missing node birth writes refusal there is = elim there.why [
  | inl why ↦ lost_later old there.mid new missing there.before (refused_lost there.mid new missing node birth there.write.id refusal why is)
  | inr (bad, over) ↦ absurd (cc)
]

-- the same with the other causes of a plan
pub put_lost : (old new : Store) (missing : List ℕ) (node : ObjectNode) (birth : ℕ) (writes : List BlockWrite) (Lack : Type 0) (refusal : Refusal)
    → (refusal ≡ NoMemory) ⊎ (((refusal ≡ NoSpace) × Lack) ⊎ IsWriteRefused old new missing node birth writes refusal)
    → refusal ≡ DiskFault → IsBlockLost old new missing
put_lost old new missing node birth writes Lack refusal (inl memory) is = absurd (cc)
put_lost old new missing node birth writes Lack refusal (inr (inl (space, lack))) is = absurd (cc)
put_lost old new missing node birth writes Lack refusal (inr (inr why)) is = write_lost old new missing node birth writes refusal why is
