-- The dnodes of one block. Only the crate's own functions say these.
use Rattle.std.specs.Prelude.{ℕ, ◌+◌, ◌*◌, ◌<◌, List}
use Rattle.dnode.specs.declared.dnode.Dnode.{Dnode}
use Rattle.dnode.specs.Dnode.{SpellsDnode}
use Rattle.objset.specs.Nodes.{slot_of}

-- the bytes of the block of that id have these dnodes in its places
abbrev pub HasSlots : List ℕ → ℕ → (ℕ → Dnode) → Type 0
HasSlots bytes id nodes = (place : ℕ) → place < 32 → SpellsDnode (slot_of bytes place) (nodes (32 * id + place))
