-- Causes of refusals, and what was done before.
use Rattle.std.proofs.Common.{ℕ, ◌≡◌, ◌⊎◌, inl, inr, List, ◌++◌, refl, sym, subst}
use Rattle.block_pointer.specs.Property.{FitsProperty}
use Rattle.block_pointer.specs.declared.block.Block.{Block}
use Rattle.block_pointer.specs.declared.property.Property.{Property}
use Rattle.block_store.specs.Blocks.{count_of}
use Rattle.block_store.specs.declared.block.CopyCount.{CopyCount}
use Rattle.block_store.specs.declared.refusal.Refusal.{Refusal}
use Rattle.block_store.specs.declared.refusal.Refusal.TheVariants.{NoMemory, DiskFault, NoSpace, BadPointer, BadDigest, BadConfig}
use Rattle.block_store.specs.Causes.{IsCaused}
use Rattle.block_store.specs.Places.{RanOut}
use Rattle.block_store.specs.Reading.{IsLastFault}
use Rattle.block_store.specs.Steps.{OnlyReadsBlocks, OnlyReadsAndPlans}
use Rattle.block_store.specs.Store.{Store, outs}
use Rattle.block_store.proofs.Losses.{lost_later, lost_now}
use Rattle.block_store.proofs.Steps.{steps_read, no_room_now, no_room_on}

-- behind reads and plans
pub caused_behind : (old mid new : Store) (missing : List ℕ) (refusal : Refusal) → OnlyReadsAndPlans old mid missing → IsCaused mid new missing refusal
    → IsCaused old new missing refusal
caused_behind old mid new missing NoMemory steps cause = tt
caused_behind old mid new missing DiskFault steps lost = lost_later old mid new missing steps lost
caused_behind old mid new missing NoSpace steps short =
    record {
      property = short.property;
      fits = short.fits;
      copies = short.copies;
      none = no_room_on old mid new missing short.property.sectors (count_of short.copies) steps short.none;
    }
caused_behind old mid new missing BadPointer steps cause = tt
caused_behind old mid new missing BadDigest steps cause = tt
caused_behind old mid new missing BadConfig steps cause = tt

-- behind reads
pub caused_behind_reads : (old mid new : Store) (missing : List ℕ) (refusal : Refusal) → OnlyReadsBlocks old mid missing → IsCaused mid new missing refusal
    → IsCaused old new missing refusal
caused_behind_reads old mid new missing refusal reads = caused_behind old mid new missing refusal (steps_read old mid missing reads)

-- of a block that is read
pub read_is_caused : (old new : Store) (missing : List ℕ) (block : Block) (Bad : Type 0) (refusal : Refusal)
    → (refusal ≡ NoMemory) ⊎ (((refusal ≡ BadPointer) × Bad) ⊎ IsLastFault old new (outs old ++ missing) block refusal) → IsCaused old new missing refusal
read_is_caused old new missing block Bad refusal (inl memory) = subst (λ (cause : Refusal). IsCaused old new missing cause) (sym memory) tt
read_is_caused old new missing block Bad refusal (inr (inl (bad, why))) = subst (λ (cause : Refusal). IsCaused old new missing cause) (sym bad) tt
read_is_caused old new missing block Bad DiskFault (inr (inr fault)) = lost_now old new missing block DiskFault fault refl
read_is_caused old new missing block Bad NoMemory (inr (inr fault)) = tt
read_is_caused old new missing block Bad NoSpace (inr (inr fault)) = elim fault.last.cause [ inl (is, more) ↦ absurd (cc) | inr (is, none) ↦ absurd (cc) ]
read_is_caused old new missing block Bad BadPointer (inr (inr fault)) = tt
read_is_caused old new missing block Bad BadDigest (inr (inr fault)) = tt
read_is_caused old new missing block Bad BadConfig (inr (inr fault)) = tt

-- of a block that is planned
pub plan_is_caused : (old new : Store) (missing : List ℕ) (property : Property) (copies : CopyCount) (refusal : Refusal) → FitsProperty property
    → (refusal ≡ NoMemory) ⊎ ((refusal ≡ NoSpace) × RanOut old.spaces property.sectors (count_of copies) new.spaces) → IsCaused old new missing refusal
plan_is_caused old new missing property copies refusal fits (inl memory) = subst (λ (cause : Refusal). IsCaused old new missing cause) (sym memory) tt
plan_is_caused old new missing property copies refusal fits (inr (space, out)) =
    subst (λ (cause : Refusal). IsCaused old new missing cause) (sym space)
    (record { property = property; fits = fits; copies = copies; none = no_room_now old new missing property.sectors (count_of copies) out })
