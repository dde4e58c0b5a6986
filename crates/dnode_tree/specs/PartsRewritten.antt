-- Parts of a tree while it is rewritten. Only the crate's own functions say these.
use Rattle.std.specs.Prelude.{ℕ, suc, ◌≡◌, ◌⊎◌, ◌+◌, ◌-◌, ◌*◌, ◌^◌, ◌<◌, ◌≤◌, List, [], ◌∷◌, ◌++◌, length, slice_index_or, Option, Some, None, take, if◌then◌else◌}
use Rattle.block_pointer.specs.declared.block.Block.{Block}
use Rattle.block_pointer.specs.declared.pointer.BlockPtr.{BlockPtr}
use Rattle.block_pointer.specs.declared.pointer.BlockPtr.TheVariants.{Hole, Block as At}
use Rattle.block_pointer.specs.declared.property.Property.{Property}
use Rattle.block_store.specs.declared.refusal.Refusal.{Refusal}
use Rattle.block_store.specs.declared.refusal.Refusal.TheVariants.{DiskFault}
use Rattle.block_store.specs.Blocks.{Contents, Extends}
use Rattle.block_store.specs.Plans.{Plans}
use Rattle.block_store.specs.Steps.{AnswersTell}
use Rattle.block_store.specs.Store.{Store}
use Rattle.dnode.specs.Levels.{levels_of}
use Rattle.dnode_tree.specs.declared.writes.Rewriting.{Rewriting}
use Rattle.dnode_tree.specs.declared.subtree.Parts.{Parts}
use Rattle.dnode_tree.specs.declared.subtree.Subtree.{Subtree}
use Rattle.dnode_tree.specs.declared.writes.BlockWrite.{BlockWrite}
use Rattle.dnode_tree.specs.declared.writes.CopyCounts.{CopyCounts}
use Rattle.dnode_tree.specs.Births.{AreBirths, reaches}
use Rattle.dnode_tree.specs.Rewriting.{IsExchanged}
use Rattle.dnode_tree.specs.Subtree.{IsSubtree, joined}
use Rattle.dnode_tree.specs.Tree.{property_of, IsPart}
use Rattle.dnode_tree.specs.Writes.{written, IsForRoom}

-- births before a rewrite and after it, if they are told
pub record Ages : Type 0 where
  pub old : ℕ → ℕ → ℕ
  pub new : ℕ → ℕ → ℕ

-- The births of a part's blocks after writes, between two ids: the group's where a write is below, and else what they were.
abbrev pub AreBirthsAfter : ℕ → List BlockWrite → (ℕ → ℕ → ℕ) → (ℕ → ℕ → ℕ) → ℕ → ℕ → ℕ → Type 0
AreBirthsAfter birth writes births new_births height from end =
    (level first : ℕ) → level ≤ height → from ≤ first → first + 128 ^ level ≤ end
    → new_births level first ≡ (if reaches writes level first then birth else births level first)

-- A part of a tree has a new root, and now reads as in the new array. The blocks that are gone were noted. Where births are told, the new ones are those of the part now.
pub record IsPartRewritten (ages : Option Ages) (copies : CopyCounts) (planned later : Contents) (property : ℕ → Property) (level first birth : ℕ) (pointer : BlockPtr) (array : ℕ → Option (List ℕ)) (before noted noted_later : List Block) : Type 0 where
  pub kept : Extends planned later
  pub blocks : List Block
  pub part : IsSubtree later property level first birth pointer array blocks
  pub gone : List Block
  pub noted_are : noted_later ≡ noted ++ gone
  pub exchanged : IsExchanged copies birth planned later before blocks gone
  pub renewed : (told : Ages) → ages ≡ Some told → AreBirths later level first pointer told.new

-- Of the parts below a root those before the k-th read as in the new array, and the others as they were.
pub record AreRewrittenTo (ages : Option Ages) (copies : CopyCounts) (stored planned now : Contents) (property : ℕ → Property) (level first bound birth : ℕ) (pointers : List BlockPtr) (array new_array : ℕ → Option (List ℕ))
    (before after : List (List Block)) (k : ℕ) (noted noted_now : List Block) : Type 0 where
  pub kept : Extends planned now
  pub pointer_count : length pointers ≡ 128
  pub count : length before ≡ 128
  pub count_done : length after ≡ k
  pub done : (j : ℕ) → j < k → IsSubtree now property level (first + j * 128 ^ level) birth (slice_index_or pointers j Hole) new_array (slice_index_or after j [])
  pub left : (j : ℕ) → k ≤ j → j < 128 → IsSubtree stored property level (first + j * 128 ^ level) bound (slice_index_or pointers j Hole) array (slice_index_or before j [])
  pub gone : List Block
  pub noted_are : noted_now ≡ noted ++ gone
  pub exchanged : IsExchanged copies birth planned now (joined (take k before)) (joined after) gone
  pub renewed : (told : Ages) → ages ≡ Some told → (j : ℕ) → j < k → AreBirths now level (first + j * 128 ^ level) (slice_index_or pointers j Hole) told.new
  pub aged : (told : Ages) → ages ≡ Some told → (j : ℕ) → k ≤ j → j < 128
      → AreBirths stored level (first + j * 128 ^ level) (slice_index_or pointers j Hole) told.old

-- the new array has what is still to be written from that id on
abbrev pub HasWrites : (ℕ → Option (List ℕ)) → (ℕ → Option (List ℕ)) → List BlockWrite → ℕ → ℕ → Type 0
HasWrites new_array array writes first end = (id : ℕ) → first ≤ id → id < end → new_array id ≡ written writes array id

-- All parts below a root were rewritten, behind a new root.
pub record AreRewritten (ages : Option Ages) (copies : CopyCounts) (planned later : Contents) (property : ℕ → Property) (level first birth : ℕ) (block : Block) (new_array : ℕ → Option (List ℕ)) (before : List (List Block)) (noted noted_later : List Block) : Type 0 where
  pub kept : Extends planned later
  pub after : List (List Block)
  pub part : IsSubtree later property (suc level) first birth (At block) new_array (block ∷ joined after)
  pub gone : List Block
  pub noted_are : noted_later ≡ noted ++ gone
  pub exchanged : IsExchanged copies birth planned later (joined before) (block ∷ joined after) gone
  pub renewed : (told : Ages) → ages ≡ Some told → AreBirths later (suc level) first (At block) told.new

-- the whole tree of the object, as a part
abbrev pub root_part : Rewriting → Subtree
root_part this = record { level = levels_of this.node.now.highest - 1; pointer = this.node.now.pointer; birth = this.birth }

-- where births are told, they are those of the part before, and after the writes
abbrev pub AgesOfPart : ℕ → Contents → Subtree → ℕ → List BlockWrite → Option Ages → Type 0
AgesOfPart birth stored part first writes ages =
    (told : Ages) → ages ≡ Some told → AreBirths stored part.level first part.pointer told.old
    × AreBirthsAfter birth writes told.old told.new part.level first (first + 128 ^ part.level)

-- Where births are told, a root is to be born in the group, and the parts below it, from one of them on, are to be after the writes.
abbrev pub AgesOfParts : ℕ → ℕ → ℕ → ℕ → List BlockWrite → Option Ages → Type 0
AgesOfParts birth level first from writes ages =
    (told : Ages) → ages ≡ Some told → (told.new (suc level) first ≡ birth)
    × AreBirthsAfter birth writes told.old told.new level (first + from * 128 ^ level) (first + 128 * 128 ^ level)

-- Whatever the store has at the part, where its answers tell what was written: it plans the part with these writes behind the pointer, and what
-- gave way was noted.
abbrev pub WritesPart : Rewriting → Store → Store → Subtree → ℕ → List BlockWrite → List Block → List Block → BlockPtr → Type 0
WritesPart this old new part first writes noted noted_later pointer =
    (ages : Option Ages) (stored planned : Contents) (array : ℕ → Option (List ℕ)) (blocks : List Block) → Plans old stored planned
    → IsPart stored this.node.now first part array blocks → AgesOfPart this.birth stored part first writes ages → AnswersTell old new this.missing.now
    → (later : Contents) × Plans new stored later
    × IsPartRewritten ages this.copies planned later (property_of this.node.now) part.level first this.birth pointer (written writes array) blocks noted noted_later

-- where the store has such a part and its answers tell what was written, the refusal is want of memory, of room or of disks
abbrev pub LacksRoomForPart : Rewriting → Store → Store → Subtree → ℕ → Refusal → Type 0
LacksRoomForPart this old new part first refusal =
    (stored planned : Contents) (array : ℕ → Option (List ℕ)) (blocks : List Block) → Plans old stored planned
    → IsPart stored this.node.now first part array blocks → AnswersTell old new this.missing.now
    → IsForRoom refusal ⊎ (refusal ≡ DiskFault)

-- Whatever the store has at the parts below a root, where those before one of them read as in the new array: it plans the parts with
-- these writes, and a root above them.
abbrev pub WritesParts : Rewriting → Store → Store → Parts → ℕ → ℕ → List BlockWrite → List Block → List Block → Block → Type 0
WritesParts this old new parts first from writes noted_now noted_later block =
    (ages : Option Ages) (stored planned now : Contents) (array new_array : ℕ → Option (List ℕ)) (before after : List (List Block)) (noted : List Block) → Plans old stored now
    → AreRewrittenTo ages this.copies stored planned now (property_of this.node.now) parts.level first parts.birth this.birth parts.pointers array new_array before after from noted noted_now
    → HasWrites new_array array writes (first + from * 128 ^ parts.level) (first + 128 * 128 ^ parts.level)
    → AgesOfParts this.birth parts.level first from writes ages → AnswersTell old new this.missing.now
    → (later : Contents) × Plans new stored later
    × AreRewritten ages this.copies planned later (property_of this.node.now) parts.level first this.birth block new_array before noted noted_later

-- where the store has such parts and its answers tell what was written, the refusal is want of memory, of room or of disks
abbrev pub LacksRoomForParts : Rewriting → Store → Store → Parts → ℕ → ℕ → List BlockWrite → List Block → Refusal → Type 0
LacksRoomForParts this old new parts first from writes noted_now refusal =
    (ages : Option Ages) (stored planned now : Contents) (array new_array : ℕ → Option (List ℕ)) (before after : List (List Block)) (noted : List Block) → Plans old stored now
    → AreRewrittenTo ages this.copies stored planned now (property_of this.node.now) parts.level first parts.birth this.birth parts.pointers array new_array before after from noted noted_now
    → HasWrites new_array array writes (first + from * 128 ^ parts.level) (first + 128 * 128 ^ parts.level)
    → AgesOfParts this.birth parts.level first from writes ages → AnswersTell old new this.missing.now
    → IsForRoom refusal ⊎ (refusal ≡ DiskFault)

-- Whatever the store plans as the tree of a root, behind which the old array has nothing: it plans a tree that is one level higher, with
-- these writes.
abbrev pub Raises : Rewriting → Store → Store → BlockPtr → ℕ → List BlockWrite → List Block → List Block → BlockPtr → Type 0
Raises this old new root level writes noted_now noted_later pointer =
    (ages : Option Ages) (stored planned now : Contents) (array new_array : ℕ → Option (List ℕ)) (before noted : List Block) → Plans old stored now
    → IsPartRewritten ages this.copies planned now (property_of this.node.now) level 0 this.birth root new_array before noted noted_now
    → ((id : ℕ) → 128 ^ level ≤ id → array id ≡ None) → HasWrites new_array array writes (128 ^ level) (128 * 128 ^ level)
    → AgesOfParts this.birth level 0 1 writes ages → AnswersTell old new this.missing.now
    → (later : Contents) × Plans new stored later
    × IsPartRewritten ages this.copies planned later (property_of this.node.now) (level + 1) 0 this.birth pointer new_array before noted noted_later

-- where the store plans such a tree and its answers tell what was written, the refusal is want of memory, of room or of disks
abbrev pub LacksRoomToRaise : Rewriting → Store → Store → BlockPtr → ℕ → List BlockWrite → List Block → Refusal → Type 0
LacksRoomToRaise this old new root level writes noted_now refusal =
    (ages : Option Ages) (stored planned now : Contents) (array new_array : ℕ → Option (List ℕ)) (before noted : List Block) → Plans old stored now
    → IsPartRewritten ages this.copies planned now (property_of this.node.now) level 0 this.birth root new_array before noted noted_now
    → ((id : ℕ) → 128 ^ level ≤ id → array id ≡ None) → HasWrites new_array array writes (128 ^ level) (128 * 128 ^ level)
    → AgesOfParts this.birth level 0 1 writes ages → AnswersTell old new this.missing.now
    → IsForRoom refusal ⊎ (refusal ≡ DiskFault)
