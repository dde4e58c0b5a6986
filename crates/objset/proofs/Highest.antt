-- The highest block id of what is written.
use Rattle.std.proofs.Common.{◌≡◌, ℕ, ◌≤◌, List, [], ◌∷◌, All, arith}
use Rattle.std.proofs.lemmas.List.Elements.{All-nil, All-cons, All-head, All-tail, All-weaker}
use Rattle.dnode.specs.declared.node.ObjectNode.{ObjectNode}
use Rattle.dnode_tree.specs.declared.writes.BlockWrite.{BlockWrite}
use Rattle.dnode_tree.specs.Rewriting.{IsGrown}
use Rattle.objset.specs.Changes.{highest_of}

pub highest_from : (writes : List BlockWrite) (id : ℕ) → id ≤ highest_of writes id
highest_from [] id = omega arith
highest_from (write ∷ writes) id = omega (arith, highest_from writes id)

pub highest_room : (writes : List BlockWrite) (id : ℕ) → All (λ write. write.id ≤ highest_of writes id) writes
highest_room [] id = All-nil (λ (write : BlockWrite). write.id ≤ id)
highest_room (write ∷ writes) id =
    All-cons (λ (w : BlockWrite). w.id ≤ highest_of (write ∷ writes) id) write writes (omega arith)
    (All-weaker (λ (w : BlockWrite). w.id ≤ highest_of writes id) (λ (w : BlockWrite). w.id ≤ highest_of (write ∷ writes) id) (λ w le. omega (arith, le)) writes (highest_room writes id))

pub highest_least : (writes : List BlockWrite) (id highest : ℕ) → id ≤ highest → All (λ write. write.id ≤ highest) writes → highest_of writes id ≤ highest
highest_least [] id highest from all = from
highest_least (write ∷ writes) id highest from all =
    omega (arith, All-head (λ (w : BlockWrite). w.id ≤ highest) write writes all, highest_least writes id highest from (All-tail (λ (w : BlockWrite). w.id ≤ highest) write writes all))

-- an object that has grown for writes ends at the greatest of their ids and where it ended
pub highest_is : (old new : ObjectNode) (writes : List BlockWrite) → IsGrown old new writes → new.highest ≡ highest_of writes old.highest
highest_is old new writes grown =
    omega (arith, grown.least (highest_of writes old.highest) (highest_from writes old.highest) (highest_room writes old.highest), highest_least writes old.highest new.highest grown.from grown.room)
