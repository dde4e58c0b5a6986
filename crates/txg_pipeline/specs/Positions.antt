-- Which writes of a group lie where.
use Rattle.std.specs.Prelude.{◌≡◌, ◌↔◌, ℕ, ◌+◌, ◌/◌, ◌<◌, ◌≤◌, List, [], Vec, length, nat_eq, slice_index_or}
use Rattle.std.specs.HashMap.{HashMap, get, get_by}
use Rattle.std.specs.List.{AllPairs, Contains}
use Rattle.std.specs.Option.{option_map_or}
use Rattle.std.specs.declared.hash.FoldHasher.{FoldHasher}
use Rattle.std.specs.declared.hash.BuildHasherDefault.{BuildHasherDefault}
use Rattle.std.specs.declared.alloc.Global.{Global}
use Rattle.pool_model.specs.declared.item.Write.{Write}
use Rattle.pool_model.specs.Names.{same}
use Rattle.txg_pipeline.specs.declared.places.PlaceIndex.{PlaceIndex}
use Rattle.txg_pipeline.specs.declared.places.TheConstants.{PIECE_BYTES}

-- one of the write's bytes lies in the piece of that number
abbrev pub HasByteIn : ℕ → Write → Type 0
HasByteIn piece write = (byte : ℕ) × (write.offset ≤ byte) × (byte < write.offset + length write.bytes) × (byte / PIECE_BYTES ≡ piece)

-- at the position stands a write that is one of these
abbrev pub IsAt : (Write → Type 0) → List Write → ℕ → Type 0
IsAt Is writes position = (write : Write) × (position < length writes) × (slice_index_or writes position write ≡ write) × Is write

-- these are the positions of such writes, all of them and no others, each once and in ascending order
pub record AreAt (Is : Write → Type 0) (writes : List Write) (positions : List ℕ) : Type 0 where
  pub ascending : AllPairs (λ position later. position < later) positions
  pub exactly : (position : ℕ) → Contains positions position ↔ IsAt Is writes position

-- the positions of the writes to the volume of that name
abbrev pub AreOf : List ℕ → List Write → List ℕ → Type 0
AreOf name = AreAt (λ write. write.volume ≡ name)

-- the positions of the writes to the volume of that name that have a byte in the piece
abbrev pub AreTouching : List ℕ → ℕ → List Write → List ℕ → Type 0
AreTouching name piece = AreAt (λ write. (write.volume ≡ name) × HasByteIn piece write)

-- what a map from pieces to positions has for a piece
abbrev pub listed_in : HashMap ℕ (Vec ℕ Global) (BuildHasherDefault FoldHasher) → ℕ → List ℕ
listed_in pieces piece = option_map_or (λ list. list.items) (get nat_eq pieces piece) []

-- what an index has for a name, and for a piece of it
abbrev pub listed_of : PlaceIndex → List ℕ → List ℕ
listed_of places name = option_map_or (λ index. index.all.items) (get_by (λ key. same name key.items) places.volumes) []

-- what an index has for a piece of a name; nothing where it has no such name or piece
abbrev pub listed_at : PlaceIndex → List ℕ → ℕ → List ℕ
listed_at places name piece = option_map_or (λ index. listed_in index.pieces piece) (get_by (λ key. same name key.items) places.volumes) []

-- the index tells of these writes where they lie
pub record Indexes (places : PlaceIndex) (writes : List Write) : Type 0 where
  pub all : (name : List ℕ) → AreOf name writes (listed_of places name)
  pub touching : (name : List ℕ) (piece : ℕ) → AreTouching name piece writes (listed_at places name piece)
