-- Blocks that are mended one behind the other.
use Rattle.std.proofs.Common.{ℕ, ◌≡◌, ◌⊎◌, ◌<◌, List, [], ◌∷◌, ◌++◌, length, Contains, get_or, take, refl, subst, sym, ◌+◌}
use Rattle.std.proofs.lemmas.List.{take_more}
use Rattle.std.proofs.lemmas.List.Elements.{Contains-get_or}
use Rattle.sha2.specs.Sha256.{sha256}
use Rattle.block_pointer.specs.Copies.{dvas}
use Rattle.block_pointer.specs.declared.block.Block.{Block}
use Rattle.block_pointer.specs.declared.dva.Dva.{Dva}
use Rattle.block_store.specs.declared.shape.VdevShape.{VdevShape}
use Rattle.model_disk.specs.Joint.{Disks}
use Rattle.model_disk.specs.Runs.{no_write}
use Rattle.raidz_io.specs.Reads.{AreUntouched, OnlyReads}
use Rattle.scrub_resilver.specs.Copies.{IsChosenOf}
use Rattle.scrub_resilver.specs.Mending.{AreMendedInTurn, IsColumnOf, IsColumnOfBlock, IsRewritten, Repairs}
use Rattle.scrub_resilver.proofs.Mended.{repairs_wider}

-- columns of one of the places are columns of the block
pub own_repairs : (shapes : List VdevShape) (block : Block) (content : List ℕ) (places : List Dva) (n : ℕ) (d : Dva) (missing : List ℕ) (old new : Disks)
    → places ≡ dvas block.copies → n < length places → Repairs (IsColumnOf shapes block (get_or places n d) content) missing old new
    → Repairs (IsColumnOfBlock shapes block content) missing old new
own_repairs shapes block content places n d missing old new copies below =
    repairs_wider (IsColumnOf shapes block (get_or places n d) content) (IsColumnOfBlock shapes block content) missing old new
    (λ disk at bytes one.
    (get_or places n d, subst (λ (them : List Dva). Contains them (get_or places n d)) copies (Contains-get_or places n d below), one))

-- the block was read, and then written
pub rewritten : (shapes : List VdevShape) (missing : List ℕ) (block : Block) (content bytes : List ℕ) (old mid new : Disks) → OnlyReads old mid → AreUntouched missing old mid
    → content ≡ bytes → IsChosenOf shapes old mid block bytes (dvas block.copies) → sha256 bytes ≡ block.checksum
    → Repairs (IsColumnOfBlock shapes block content) missing mid new → IsRewritten shapes missing block old new
rewritten shapes missing block content bytes old mid new reads untouched same chosen digest written = record {
  mid = mid;
  content = bytes;
  reads = reads;
  untouched = untouched;
  chosen = chosen;
  digest = digest;
  written = subst (λ (b : List ℕ). Repairs (IsColumnOfBlock shapes block b) missing mid new) same written;
}

turn_more : (shapes : List VdevShape) (missing : List ℕ) (blocks : List Block) (block : Block) (old mid new : Disks) → AreMendedInTurn shapes missing blocks old mid
    → Repairs no_write missing mid new ⊎ IsRewritten shapes missing block mid new → AreMendedInTurn shapes missing (blocks ++ block ∷ []) old new
turn_more shapes missing [] block old mid new same turn =
    (new, subst (λ (d : Disks). Repairs no_write missing d new ⊎ IsRewritten shapes missing block d new) (sym same) turn, refl)
turn_more shapes missing (first ∷ blocks) block old mid new (then, how, rest) turn = (then, how, turn_more shapes missing blocks block then mid new rest turn)

-- one block more
pub one_more_turn : (shapes : List VdevShape) (missing : List ℕ) (blocks : List Block) (n : ℕ) (d : Block) (old mid new : Disks) → n < length blocks
    → AreMendedInTurn shapes missing (take n blocks) old mid
    → Repairs no_write missing mid new ⊎ IsRewritten shapes missing (get_or blocks n d) mid new → AreMendedInTurn shapes missing (take (n + 1) blocks) old new
one_more_turn shapes missing blocks n d old mid new below turns turn =
    subst (λ (them : List Block). AreMendedInTurn shapes missing them old new) (sym (take_more blocks n d below))
    (turn_more shapes missing (take n blocks) (get_or blocks n d) old mid new turns turn)
