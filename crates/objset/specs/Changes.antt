-- Changes of the objects of a set.
use Rattle.std.specs.Prelude.{ℕ, ◌≡◌, ◌≢◌, ◌⊎◌, ◌*◌, ◌^◌, ◌<◌, ◌≤◌, ◌==◌, if◌then◌else◌, max, List, [], ◌∷◌, ◌++◌, length, Option, Some, None, IsSomeAnd, All}
use Rattle.block_pointer.specs.declared.block.Block.{Block}
use Rattle.block_store.specs.declared.block.CopyCount.{CopyCount}
use Rattle.block_store.specs.declared.block.CopyCount.TheVariants.{One, Two, Three}
use Rattle.block_store.specs.Blocks.{Contents, Extends, count_of}
use Rattle.block_store.specs.Steps.{HasNoRoomFor}
use Rattle.block_store.specs.Store.{Store}
use Rattle.dnode.specs.declared.object_set.ObjectSet.{ObjectSet}
use Rattle.dnode.specs.declared.object_set.ObjectSetKind.{ObjectSetKind}
use Rattle.dnode.specs.declared.object_set.ObjectSetKind.TheVariants.{Meta, Volume}
use Rattle.objset.specs.declared.node_writes.SetRewrite.{SetRewrite}
use Rattle.dnode_tree.specs.declared.writes.BlockWrite.{BlockWrite}
use Rattle.dnode_tree.specs.declared.writes.CopyCounts.{CopyCounts}
use Rattle.dnode_tree.specs.Rewriting.{IsExchanged}
use Rattle.dnode_tree.specs.Writes.{AreInOrder, written}
use Rattle.objset.specs.declared.changes.Change.{Change}
use Rattle.objset.specs.declared.changes.Change.TheVariants.{Create, Put, Free, Replace}
use Rattle.objset.specs.declared.changes.ObjectChange.{ObjectChange}
use Rattle.objset.specs.declared.changes.SetCopies.{SetCopies}
use Rattle.objset.specs.Objects.{Object, AreObjects}

-- each has as many bytes as a block of so many sectors
abbrev pub AreWhole : ℕ → List BlockWrite → Type 0
AreWhole sectors writes = All (λ write. length write.bytes.items ≡ sectors * 512) writes

-- each id is written once, in ascending order, and an object may have it
abbrev pub AreGoodWrites : List BlockWrite → Type 0
AreGoodWrites writes = AreInOrder writes × All (λ write. write.id < 128 ^ 5) writes

-- what is written may be written to some object, and what is created may be an object
abbrev pub IsGoodChange : Change → Type 0
IsGoodChange (Create object_type sectors writes) = AreGoodWrites writes.items × (0 < object_type) × (0 < sectors) × (sectors ≤ 256) × AreWhole sectors writes.items
IsGoodChange (Put writes) = AreGoodWrites writes.items
IsGoodChange Free = Unit {0}
IsGoodChange (Replace writes) = AreGoodWrites writes.items

-- the greatest of the ids that are written and this one
abbrev pub highest_of : List BlockWrite → ℕ → ℕ
highest_of [] id = id
highest_of (write ∷ writes) id = max write.id (highest_of writes id)

-- what becomes of an object by a change
abbrev pub after_change : Change → Option Object → Option Object
after_change (Create object_type sectors writes) object =
    Some (record { object_type = object_type; data_sectors = sectors; highest = highest_of writes.items 0; array = written writes.items (λ id. None) })
after_change (Put writes) (Some object) =
    Some (record object { highest = highest_of writes.items object.highest; array = written writes.items object.array })
after_change (Put writes) None = None
after_change Free object = None
after_change (Replace writes) (Some object) =
    Some (record object { highest = highest_of writes.items 0; array = written writes.items (λ id. None) })
after_change (Replace writes) None = None

-- the change may be made of what is there: an object is created where there is none, and written (whole blocks), freed or replaced (by whole blocks)
-- where there is one
abbrev pub MayChange : Change → Option Object → Type 0
MayChange (Create object_type sectors writes) object = object ≡ None
MayChange (Put writes) object = IsSomeAnd object (λ there. AreWhole there.data_sectors writes.items)
MayChange Free object = object ≢ None
MayChange (Replace writes) object = IsSomeAnd object (λ there. AreWhole there.data_sectors writes.items)

-- the objects after changes
abbrev pub changed : List ObjectChange → (ℕ → Option Object) → ℕ → Option Object
changed [] objects number = objects number
changed (change ∷ changes) objects number = if change.number == number then after_change change.change (objects number) else changed changes objects number

-- the copies of the blocks of a set of that kind: all blocks of the meta object set have three, the
-- data blocks of a volume one, and its other blocks two
abbrev pub copies_of : ObjectSetKind → SetCopies
copies_of Meta = record { «data» = Three; other = Three }
copies_of Volume = record { «data» = One; other = Two }

-- the copies of an object's blocks
abbrev pub object_copies : SetCopies → CopyCounts
object_copies copies = record { «data» = copies.data; indirect = copies.other }

-- the copies of the blocks of the dnodes
abbrev pub dnode_copies : SetCopies → CopyCounts
dnode_copies copies = record { «data» = copies.other; indirect = copies.other }

-- The trees of the changed objects gave way one after the other; the replaced blocks are those of all of them.
abbrev pub AreExchanged : CopyCounts → ℕ → Contents → Contents → List ObjectChange → (ℕ → List Block) → (ℕ → List Block) → List Block → Type 0
AreExchanged copies birth planned later [] before after gone = (later ≡ planned) × (gone ≡ [])
AreExchanged copies birth planned later (change ∷ changes) before after gone =
    (mid : Contents) × (first : List Block) × (rest : List Block) × Extends planned mid × IsExchanged copies birth planned mid (before change.number) (after change.number) first
    × AreExchanged copies birth mid later changes before after rest × (gone ≡ first ++ rest)

-- The set has the objects now. Objects that aren't changed keep their blocks. Of the blocks of those that are changed and of the dnodes some
-- stayed, those that are replaced gave way, and all others are new.
pub record AreChanged (copies : SetCopies) (planned later : Contents) (birth : ℕ) (done : SetRewrite) (changes : List ObjectChange) (objects : ℕ → Option Object) (own : List Block) (before : ℕ → List Block) : Type 0 where
  pub own_after : List Block
  pub after : ℕ → List Block
  pub are : AreObjects later birth done.set objects own_after after
  pub others : (number : ℕ) → All (λ change. change.number ≢ number) changes → after number ≡ before number
  pub mid : Contents
  pub gone : List Block
  pub own_gone : List Block
  pub of_objects : AreExchanged (object_copies copies) birth planned mid changes before after gone
  pub of_dnodes : IsExchanged (dnode_copies copies) birth mid later own own_after own_gone
  pub kept_first : Extends planned mid
  pub kept_last : Extends mid later
  pub kept : Extends planned later
  pub replaced : done.replaced.items ≡ gone ++ own_gone

-- the set has the kind that it had, and as many dnodes as it needs
pub record IsGrownFor (old new : ObjectSet) (changes : List ObjectChange) : Type 0 where
  pub kind : new.kind ≡ old.kind
  pub from : old.objects ≤ new.objects
  pub room : All (λ change. change.number < new.objects) changes
  pub least : (objects : ℕ) → old.objects ≤ objects → All (λ change. change.number < objects) changes → new.objects ≤ objects

-- there was no room for a data block, or for one of 32 sectors with the copies of other blocks
pub record HasNoRoom (old new : Store) (missing : List ℕ) (copies : SetCopies) : Type 0 where
  pub sectors : ℕ
  pub small : sectors ≤ 256
  pub count : CopyCount
  pub which : (count ≡ copies.data) ⊎ ((count ≡ copies.other) × (sectors ≡ 32))
  pub no_room : HasNoRoomFor old new missing sectors (count_of count)
