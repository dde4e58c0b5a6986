use Rattle.std.proofs.Common.{ℕ, ◌≡◌, ◌/◌, All, take}
use Rattle.dnode.specs.declared.dnode.Dnode.{Dnode}
use Rattle.objset.specs.NodeSlots.{HasSlots}
use Rattle.objset.specs.NodeWrites.{written_nodes}
use Rattle.objset.proofs.node_slots.put_nodes.Given as goal

-- the dnodes of the writes so far are at their places
abbrev pub invariant-loop-write : goal.invariant-loop-write
invariant-loop-write l =
    (id : ℕ) (nodes : ℕ → Dnode) → All (λ write. write.number / 32 ≡ id) l.writes → HasSlots l.initial.block id nodes
    → HasSlots l.block id (written_nodes (take l.write-index l.writes) nodes)
