-- The 16,384 bytes of an indirect block.
use Rattle.std.specs.Prelude.{◌≡◌, ℕ, List, length, sum_by}
use Rattle.std.specs.List.{AllByRecursion, flat_map}
use Rattle.block_pointer.specs.declared.pointer.BlockPtr.{BlockPtr}
use Rattle.block_pointer.specs.declared.pointer.BlockPtr.TheVariants.{Hole, Block}
use Rattle.block_pointer.specs.Pointer.{Fits, spelling}

-- a pointer that has a spelling of 128 bytes
abbrev pub FitsPointer : BlockPtr → Type 0
FitsPointer pointer = Fits pointer × (length (spelling pointer) ≡ 128)

-- what has a spelling
pub record FitsIndirect (pointers : List BlockPtr) : Type 0 where
  pub count : length pointers ≡ 128
  pub each : AllByRecursion FitsPointer pointers

-- the pointers one after another
abbrev pub indirect_bytes : List BlockPtr → List ℕ
indirect_bytes pointers = flat_map spelling pointers

-- these bytes, and no others, spell the indirect block of these pointers
abbrev pub SpellsIndirect : List ℕ → List BlockPtr → Type 0
SpellsIndirect bytes pointers = FitsIndirect pointers × (bytes ≡ indirect_bytes pointers)

-- the number of data blocks below a pointer that are no holes
abbrev pub fill_of : BlockPtr → ℕ
fill_of Hole = 0
fill_of (Block b) = b.fill

-- the number of data blocks below all of these pointers that are no holes
abbrev pub total_fill : List BlockPtr → ℕ
total_fill pointers = sum_by fill_of pointers
