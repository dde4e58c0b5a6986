-- The 1,024 bytes of an object set.
use Rattle.std.specs.Prelude.{◌≡◌, ℕ, ◌+◌, ◌*◌, ◌<◌, ◌≤◌, List, [], ◌∷◌, ◌++◌, replicate}
use Rattle.words.specs.Words.{word_bytes}
use Rattle.dnode.specs.declared.node.ObjectNode.{ObjectNode}
use Rattle.dnode.specs.declared.object_set.ObjectSet.{ObjectSet}
use Rattle.dnode.specs.declared.object_set.ObjectSetKind.{ObjectSetKind}
use Rattle.dnode.specs.declared.object_set.ObjectSetKind.TheVariants.{Meta, Volume}
use Rattle.dnode.specs.Node.{FitsNode, node_bytes}

-- the word that a kind is spelled as
abbrev pub kind_word : ObjectSetKind → ℕ
kind_word Meta = 1
kind_word Volume = 3

-- the object of the dnodes has their type and size, and a place for each of them, 32 in a block
pub record IsObjectSet (s : ObjectSet) : Type 0 where
  pub object_type : s.dnodes.object_type ≡ 10
  pub sectors : s.dnodes.data_sectors ≡ 32
  pub some : 0 < s.objects
  pub within : s.objects ≤ 32 * (s.dnodes.highest + 1)

-- what has a spelling
abbrev pub FitsObjectSet : ObjectSet → Type 0
FitsObjectSet s = FitsNode s.dnodes × IsObjectSet s

-- the kind and the number of objects
abbrev pub set_words : ObjectSet → List ℕ
set_words s = kind_word s.kind ∷ s.objects ∷ []

-- the dnode of the object of the dnodes, the words, and zeros up to byte 1,024
abbrev pub object_set_bytes : ObjectSet → List ℕ
object_set_bytes s = node_bytes s.dnodes ++ (word_bytes (set_words s) ++ replicate 496 0)

-- these bytes, and no others, spell the object set
abbrev pub SpellsObjectSet : List ℕ → ObjectSet → Type 0
SpellsObjectSet bytes s = FitsObjectSet s × (bytes ≡ object_set_bytes s)

-- the fields of an object set
pub record IsSetRead (dnodes : ObjectNode) (words : List ℕ) (s : ObjectSet) : Type 0 where
  pub set : IsObjectSet s
  pub dnodes_are : dnodes ≡ s.dnodes
  pub words_are : words ≡ set_words s
