-- The 1,024 bytes of a slot.
use Rattle.std.specs.Prelude.{◌≡◌, ℕ, ◌%◌, List, [], ◌∷◌, ◌++◌, replicate}
use Rattle.words.specs.Words.{word_bytes}
use Rattle.words.specs.Seal.{sealed}
use Rattle.block_pointer.specs.declared.pointer.BlockPtr.TheVariants as pointers
use Rattle.block_pointer.specs.Pointer.{spelling}
use Rattle.uberblock_ring.specs.declared.uberblock.Uberblock.{Uberblock}
use Rattle.uberblock_ring.specs.Uberblock.{Fits, head_words}

-- five words, the root pointer, the claim, the digest of the configuration, and zeros up to the seal
abbrev pub front_bytes : Uberblock → List ℕ
front_bytes u = word_bytes (head_words u) ++ (spelling (pointers.Block u.root) ++ (word_bytes (u.claim ∷ []) ++ (u.config_digest ++ replicate 776 0)))

-- the 1,024 bytes of an uberblock's slot: the front and its seal
abbrev pub slot_bytes : Uberblock → List ℕ
slot_bytes u = sealed (front_bytes u)

-- group n has slot n mod 128
abbrev pub slot_number : ℕ → ℕ
slot_number group = group % 128

-- these bytes, in this slot, spell the uberblock
abbrev pub SpellsSlot : ℕ → List ℕ → Uberblock → Type 0
SpellsSlot slot bytes u = Fits u × (slot ≡ slot_number u.group) × (bytes ≡ slot_bytes u)
