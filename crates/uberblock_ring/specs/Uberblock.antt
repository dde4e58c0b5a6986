-- What an uberblock has, and what has a place in the ring.
use Rattle.std.specs.Prelude.{◌≡◌, ℕ, ◌<◌, ◌≤◌, ◌^◌, List, [], ◌∷◌, length}
use Rattle.uberblock_ring.specs.declared.uberblock.Uberblock.{Uberblock}
use Rattle.block_pointer.specs.declared.block.Block.{Block}
use Rattle.block_pointer.specs.declared.pointer.BlockPtr.{BlockPtr}
use Rattle.block_pointer.specs.declared.pointer.BlockPtr.TheVariants as pointers
use Rattle.block_pointer.specs.Block.{FitsBlock}
use Rattle.block_pointer.specs.Copies.{dvas}

-- a group or a claim
abbrev pub IsNumber : ℕ → Type 0
IsNumber n = (0 < n) × (n ≤ 2 ^ 62)

-- the block of an object set, with three copies, born in this group
pub record IsRoot (group : ℕ) (root : Block) : Type 0 where
  pub three : length (dvas root.copies) ≡ 3
  pub lowest : root.property.level ≡ 0
  pub object_set : root.property.object_type ≡ 11
  pub born : root.birth ≡ group

-- the words in front of the root pointer: magic, version, group, sum of guids, timestamp
abbrev pub head_words : Uberblock → List ℕ
head_words u = 0x00bab10c ∷ 1 ∷ u.group ∷ u.guid_sum ∷ u.timestamp ∷ []

-- the fields of a slot are those of an uberblock
pub record IsRead (head : List ℕ) (root : BlockPtr) (claim : ℕ) (config_digest : List ℕ) (u : Uberblock) : Type 0 where
  pub group : IsNumber u.group
  pub claim_fits : IsNumber u.claim
  pub root_fits : IsRoot u.group u.root
  pub head_is : head ≡ head_words u
  pub root_is : root ≡ pointers.Block u.root
  pub claim_is : claim ≡ u.claim
  pub digest_is : config_digest ≡ u.config_digest

-- what has a spelling
pub record Fits (u : Uberblock) : Type 0 where
  pub group : IsNumber u.group
  pub claim : IsNumber u.claim
  pub guid_sum : u.guid_sum < 2 ^ 64
  pub timestamp : u.timestamp < 2 ^ 64
  pub root : IsRoot u.group u.root
  pub root_fits : FitsBlock u.root
  pub checksum : length u.root.checksum ≡ 32
  pub config_digest : length u.config_digest ≡ 32
