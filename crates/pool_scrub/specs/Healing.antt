-- Blocks that were looked at, mended, and looked at again.
use Rattle.std.specs.Prelude.{ℕ, ◌≡◌, ◌⊎◌, List, [], length, Contains}
use Rattle.block_pointer.specs.declared.block.Block.{Block}
use Rattle.block_pointer.specs.Copies.{dvas}
use Rattle.scrub_resilver.specs.Copies.{AreMisplaced}
use Rattle.block_store.specs.declared.shape.VdevShape.{VdevShape}
use Rattle.model_disk.specs.Joint.{Disks}
use Rattle.raidz_io.specs.Reads.{AreUntouched, OnlyReads}
use Rattle.scrub_resilver.specs.Checking.{AreChecked}
use Rattle.scrub_resilver.specs.Mending.{AreFlushedBelow, AreMendedFirst, IsBlockMended, OnlyMends}
use Rattle.pool_scrub.specs.declared.healing.Healed.{Healed}
use Rattle.pool_open.specs.declared.refusal.Refusal.{Refusal}
use Rattle.pool_open.specs.declared.refusal.Refusal.TheVariants.{NoMemory, BadPointer}
use Rattle.scrub_resilver.specs.declared.refusal.Refusal.{Refusal as Look}
use Rattle.scrub_resilver.specs.declared.refusal.Refusal.TheVariants as look

-- the number that a refusal to look has
abbrev pub of_look : Look → Refusal
of_look look.NoMemory = NoMemory
of_look look.BadPointer = BadPointer

-- The blocks were mended, one behind the other, and flushed, and looked at once more.
pub record IsMendedBetween (shapes : List VdevShape) (blocks : List Block) (missing : List ℕ) (healed : Healed) (mid new : Disks) : Type 0 where
  pub mended : Disks
  pub mends : OnlyMends shapes blocks missing mid mended
  pub each : (block : Block) → Contains blocks block → IsBlockMended shapes mid mended missing block
  pub in_turn : AreMendedFirst shapes missing blocks mid mended
  pub flushed : AreFlushedBelow mid mended missing healed.unflushed.items (length mended.starts)
  pub reads : OnlyReads mended new
  pub untouched : AreUntouched missing mended new
  pub left : AreChecked shapes mended new missing blocks healed.left.items

-- They were looked at. Where nothing was found nothing is left, and nothing was written; else they were mended, and looked at again.
pub record IsHealed (shapes : List VdevShape) (blocks : List Block) (missing : List ℕ) (old new : Disks) (healed : Healed) : Type 0 where
  pub mid : Disks
  pub reads : OnlyReads old mid
  pub untouched : AreUntouched missing old mid
  pub found : AreChecked shapes old mid missing blocks healed.found.items
  pub rest : ((healed.found.items ≡ []) × (healed.left.items ≡ []) × (healed.unflushed.items ≡ []) × (new ≡ mid)) ⊎ IsMendedBetween shapes blocks missing healed mid new

-- They were not, or not all: nothing was written but right columns.
pub record IsUnhealed (shapes : List VdevShape) (blocks : List Block) (missing : List ℕ) (old new : Disks) (refusal : Refusal) : Type 0 where
  pub mid : Disks
  pub reads : OnlyReads old mid
  pub mended : Disks
  pub mends : OnlyMends shapes blocks missing mid mended
  pub after : OnlyReads mended new
  pub why : (refusal ≡ NoMemory) ⊎ ((refusal ≡ BadPointer) × ((block : Block) × Contains blocks block × AreMisplaced shapes block (dvas block.copies)))
