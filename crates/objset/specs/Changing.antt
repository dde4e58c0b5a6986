-- Objects while they are changed. Only the crate's own functions say these.
use Rattle.std.specs.Prelude.{ℕ, ◌≡◌, ◌≢◌, ◌⊎◌, ◌≤◌, List, ◌++◌, Option, Some, None, All, Any}
use Rattle.block_pointer.specs.declared.block.Block.{Block}
use Rattle.block_store.specs.declared.refusal.Refusal.{Refusal}
use Rattle.block_store.specs.declared.refusal.Refusal.TheVariants.{BadPointer, DiskFault, NoMemory, NoSpace}
use Rattle.block_store.specs.Blocks.{Contents, Extends}
use Rattle.block_store.specs.Demands.{Demand, HavePlaces, LackPlaces}
use Rattle.block_store.specs.Plans.{Plans}
use Rattle.block_store.specs.Steps.{AnswersTell}
use Rattle.block_store.specs.Store.{Store}
use Rattle.dnode.specs.declared.dnode.Dnode.{Dnode}
use Rattle.dnode.specs.declared.node.ObjectNode.{ObjectNode}
use Rattle.dnode.specs.declared.object_set.ObjectSet.{ObjectSet}
use Rattle.objset.specs.declared.node_writes.NodeWrite.{NodeWrite}
use Rattle.objset.specs.NodeWrites.{written_nodes}
use Rattle.dnode_tree.specs.declared.writes.BlockWrite.{BlockWrite}
use Rattle.dnode_tree.specs.declared.writes.CopyCounts.{CopyCounts}
use Rattle.dnode_tree.specs.Rewriting.{IsExchanged}
use Rattle.dnode_tree.specs.Refused.{IsWriteRefused}
use Rattle.dnode_tree.specs.Spots.{demands_of}
use Rattle.dnode_tree.specs.Tree.{IsTree, property_of}
use Rattle.dnode_tree.specs.Ways.{root_of, IsWalkRefused}
use Rattle.dnode_tree.specs.Writes.{written, IsForRoom}
use Rattle.objset.specs.declared.changes.Change.{Change}
use Rattle.objset.specs.declared.changes.Changing.{Changing}
use Rattle.objset.specs.declared.changes.ObjectChange.{ObjectChange}
use Rattle.objset.specs.Changes.{changed, highest_of, AreExchanged, MayChange, after_change, object_copies}
use Rattle.objset.specs.Demands.{FitsChange, empty_node, demands_of_change, AreDemandsOf, HasFirstDemands}
use Rattle.objset.specs.Objects.{Object, IsObject, AreObjects}
use Rattle.objset.specs.Refused.{IsTreeRefused}

-- an object of the node's type and size, with writes over an array that ends at this id
abbrev pub object_with : ObjectNode → List BlockWrite → ℕ → (ℕ → Option (List ℕ)) → Object
object_with node writes highest array =
    record { object_type = node.object_type; data_sectors = node.data_sectors; highest = highest_of writes highest; array = written writes array }

-- The dnode is that of the object now. The object's blocks that are gone were noted.
pub record IsObjectChanged (copies : CopyCounts) (planned later : Contents) (birth : ℕ) (node : Dnode) (object : Option Object) (before noted noted_later : List Block) : Type 0 where
  pub kept : Extends planned later
  pub blocks : List Block
  pub is : IsObject later birth node object blocks
  pub gone : List Block
  pub noted_are : noted_later ≡ noted ++ gone
  pub exchanged : IsExchanged copies birth planned later before blocks gone

-- With these dnodes written the objects are those after the changes. The objects' blocks that are gone were noted.
pub record AreObjectsChanged (copies : CopyCounts) (planned later : Contents) (birth : ℕ) (changes : List ObjectChange) (writes : List NodeWrite) (nodes : ℕ → Dnode) (objects : ℕ → Option Object)
    (before : ℕ → List Block) (noted noted_later : List Block) : Type 0 where
  pub kept : Extends planned later
  pub after : ℕ → List Block
  pub each : (number : ℕ) → IsObject later birth (written_nodes writes nodes number) (changed changes objects number) (after number)
  pub others : (number : ℕ) → All (λ change. change.number ≢ number) changes → after number ≡ before number
  pub all : (number : ℕ) → All (λ write. write.number ≢ number) writes → All (λ change. change.number ≢ number) changes
  pub gone : List Block
  pub noted_are : noted_later ≡ noted ++ gone
  pub exchanged : AreExchanged copies birth planned later changes before after gone

-- Whatever the store has as the set, where its answers tell what was written: each change may be made, and the store plans the objects with the changes.
abbrev pub ChangesEach : Changing → Store → Store → ObjectSet → List ObjectChange → List Block → List Block → List NodeWrite → Type 0
ChangesEach this old new set changes noted noted_later writes =
    (stored planned : Contents) (bound : ℕ) (objects : ℕ → Option Object) (own : List Block) (before : ℕ → List Block) → Plans old stored planned
    → (are : AreObjects stored bound set objects own before) → bound ≤ this.birth → AnswersTell old new this.missing.now
    → All (λ change. MayChange change.change (objects change.number)) changes
    × (later : Contents) × Plans new stored later
    × AreObjectsChanged (object_copies this.copies) planned later this.birth changes writes are.nodes objects before noted noted_later

-- where the store has such a set and its answers tell what was written: memory or room is wanting, a block is
-- lost, or some change may not be made
abbrev pub IsEachRefused : Changing → Store → Store → ObjectSet → List ObjectChange → Refusal → Type 0
IsEachRefused this old new set changes refusal =
    (stored planned : Contents) (bound : ℕ) (objects : ℕ → Option Object) (own : List Block) (before : ℕ → List Block) → Plans old stored planned
    → AreObjects stored bound set objects own before → bound ≤ this.birth → AnswersTell old new this.missing.now
    → (IsForRoom refusal ⊎ (refusal ≡ DiskFault))
    ⊎ ((refusal ≡ BadPointer)
    × Any (λ change. ¬ MayChange change.change (objects change.number)) changes)

-- the same of one change, with the dnode that the object has then
abbrev pub ChangesOne : Changing → Store → Store → ObjectSet → ObjectChange → List Block → List Block → Dnode → Type 0
ChangesOne this old new set change noted noted_later node =
    (stored planned : Contents) (bound : ℕ) (objects : ℕ → Option Object) (own : List Block) (before : ℕ → List Block) → Plans old stored planned
    → AreObjects stored bound set objects own before → bound ≤ this.birth → AnswersTell old new this.missing.now
    → MayChange change.change (objects change.number)
    × (later : Contents) × Plans new stored later
    × IsObjectChanged (object_copies this.copies) planned later this.birth node (after_change change.change (objects change.number)) (before change.number) noted noted_later

-- why one change of an object of the set was refused, where the answers tell what was written: for memory, room or a lost block, or it may not be made
abbrev pub IsOneRefused : Changing → Store → Store → ObjectSet → ObjectChange → Refusal → Type 0
IsOneRefused this old new set change refusal =
    (stored planned : Contents) (bound : ℕ) (objects : ℕ → Option Object) (own : List Block) (before : ℕ → List Block) → Plans old stored planned
    → AreObjects stored bound set objects own before → bound ≤ this.birth → AnswersTell old new this.missing.now
    → (IsForRoom refusal ⊎ (refusal ≡ DiskFault))
    ⊎ ((refusal ≡ BadPointer) × ¬ MayChange change.change (objects change.number))

-- the same of the object that a dnode is of
abbrev pub ChangesNode : Changing → Store → Store → Dnode → Change → List Block → List Block → Dnode → Type 0
ChangesNode this old new dnode change noted noted_later after =
    (stored planned : Contents) (bound : ℕ) (object : Option Object) (blocks : List Block) → Plans old stored planned
    → IsObject stored bound dnode object blocks → bound ≤ this.birth → AnswersTell old new this.missing.now
    → MayChange change object
    × (later : Contents) × Plans new stored later
    × IsObjectChanged (object_copies this.copies) planned later this.birth after (after_change change object) blocks noted noted_later

-- why a change of a dnode's object was refused, where the answers tell what was written: for memory, room or a lost block, or it may not be made
abbrev pub IsNodeRefused : Changing → Store → Store → Dnode → Change → Refusal → Type 0
IsNodeRefused this old new dnode change refusal =
    (stored planned : Contents) (bound : ℕ) (object : Option Object) (blocks : List Block) → Plans old stored planned
    → IsObject stored bound dnode object blocks → bound ≤ this.birth → AnswersTell old new this.missing.now
    → (IsForRoom refusal ⊎ (refusal ≡ DiskFault))
    ⊎ ((refusal ≡ BadPointer) × ¬ MayChange change object)

-- whatever the store has as the object's tree, where its answers tell what was written: it plans the object with the writes
abbrev pub WritesObject : Changing → Store → Store → ObjectNode → List BlockWrite → List Block → List Block → Dnode → Type 0
WritesObject this old new node writes noted noted_later after =
    (stored planned : Contents) (bound : ℕ) (array : ℕ → Option (List ℕ)) (blocks : List Block) → Plans old stored planned
    → IsTree stored bound node array blocks → bound ≤ this.birth → AnswersTell old new this.missing.now
    → (later : Contents) × Plans new stored later
    × IsObjectChanged (object_copies this.copies) planned later this.birth after (Some (object_with node writes node.highest array)) blocks noted noted_later

-- the same where it has the writes alone
abbrev pub ReplacesObject : Changing → Store → Store → ObjectNode → List BlockWrite → List Block → List Block → Dnode → Type 0
ReplacesObject this old new node writes noted noted_later after =
    (stored planned : Contents) (bound : ℕ) (array : ℕ → Option (List ℕ)) (blocks : List Block) → Plans old stored planned
    → IsTree stored bound node array blocks → bound ≤ this.birth → AnswersTell old new this.missing.now
    → (later : Contents) × Plans new stored later
    × IsObjectChanged (object_copies this.copies) planned later this.birth after (Some (object_with node writes 0 (λ id. None))) blocks noted noted_later

-- where the store has such a tree and its answers tell what was written: memory or room is wanting, or a block
-- is lost
abbrev pub LacksRoomForObject : Changing → Store → Store → ObjectNode → Refusal → Type 0
LacksRoomForObject this old new node refusal =
    (stored planned : Contents) (bound : ℕ) (array : ℕ → Option (List ℕ)) (blocks : List Block) → Plans old stored planned
    → IsTree stored bound node array blocks → bound ≤ this.birth → AnswersTell old new this.missing.now
    → IsForRoom refusal ⊎ (refusal ≡ DiskFault)

-- ---- places

-- for what the changes ask places are taken, one block after the other
abbrev pub HavePlacesFor : Changing → Store → Store → ObjectSet → List ObjectChange → Type 0
HavePlacesFor this old new set changes =
    (demands : List Demand)
    × AreDemandsOf old.spaces set this.birth this.copies changes demands
    × HavePlaces old.spaces demands new.spaces

-- so it is of the first of these blocks, and then no free place was left for a copy of the next
abbrev pub LackPlacesFor : Changing → Store → Store → ObjectSet → List ObjectChange → Type 0
LackPlacesFor this old new set changes =
    (demands : List Demand)
    × AreDemandsOf old.spaces set this.birth this.copies changes demands
    × LackPlaces old.spaces demands new.spaces

-- the same of some of the changes, from the first one on
abbrev pub LacksRoomForFirst : Changing → Store → Store → ObjectSet → List ObjectChange → Type 0
LacksRoomForFirst this old new set changes =
    (demands : List Demand)
    × HasFirstDemands old.spaces set this.birth this.copies changes demands
    × LackPlaces old.spaces demands new.spaces

-- why an object was not written
abbrev pub IsWritingRefused :
    Changing → Store → Store → ObjectNode → List BlockWrite → Refusal → Type 0
IsWritingRefused this old new node writes refusal =
    (refusal ≡ NoMemory)
    ⊎ (((refusal ≡ NoSpace) × LackPlaces old.spaces
    (demands_of node (object_copies this.copies) writes) new.spaces)
    ⊎ IsWriteRefused old new this.missing.now node this.birth writes refusal)

-- why an object was not written anew
abbrev pub IsReplaceRefused :
    Changing → Store → Store → ObjectNode → List BlockWrite → Refusal → Type 0
IsReplaceRefused this old new node writes refusal =
    (refusal ≡ NoMemory)
    ⊎ (((refusal ≡ NoSpace) × LackPlaces old.spaces (demands_of
    (empty_node node.object_type node.data_sectors) (object_copies this.copies) writes) new.spaces)
    ⊎ IsWalkRefused old new this.missing.now (property_of node) (root_of node this.birth) refusal)

-- why a change was not made of what a dnode is of
abbrev pub IsDnodeRefused : Changing → Store → Store → Dnode → Change → Refusal → Type 0
IsDnodeRefused this old new dnode change refusal =
    (refusal ≡ NoMemory)
    ⊎ (((refusal ≡ NoSpace) × FitsChange change dnode
    × LackPlaces old.spaces (demands_of_change this.copies change dnode) new.spaces)
    ⊎ (((refusal ≡ BadPointer) × ¬ FitsChange change dnode)
    ⊎ IsTreeRefused old new this.missing.now this.birth change dnode refusal))
