-- Refusals of the layers below.
use Rattle.std.proofs.Common.{ℕ, List, [], ◌≡◌, ◌⊎◌, ◌∙◌, ap, subst, inl, inr, refl}
use Rattle.block_store.specs.declared.refusal.Refusal.{Refusal as StoreRefusal}
use Rattle.block_store.specs.declared.refusal.Refusal.TheVariants as store
use Rattle.block_store.specs.Losses.{IsForLoss}
use Rattle.block_store.specs.Steps.{AnswersTell}
use Rattle.block_store.specs.Store.{Store}
use Rattle.dnode_tree.specs.ReadRefusals.{IsForRead}
use Rattle.dnode_tree.specs.Writes.{IsForRoom}
use Rattle.pool_commit.specs.declared.refusal.Refusal.{Refusal}
use Rattle.pool_commit.specs.declared.refusal.Refusal.TheVariants.{NoMemory, DiskFault, NoSpace, BadConfig}
use Rattle.pool_commit.specs.Causes.{of_store}
use Rattle.pool_commit.specs.Reading.{IsFaultIn, IsReadFault}

-- a fault of disks is one of the store
pub only_lost : (cause : StoreRefusal) → of_store cause ≡ DiskFault → cause ≡ store.DiskFault
only_lost store.NoMemory is = absurd (cc)
only_lost store.DiskFault is = refl
only_lost store.NoSpace is = absurd (cc)
only_lost store.BadPointer is = absurd (cc)
only_lost store.BadDigest is = absurd (cc)
only_lost store.BadConfig is = absurd (cc)

pub only_room : (cause : StoreRefusal) → of_store cause ≡ NoSpace → cause ≡ store.NoSpace
only_room store.NoMemory is = absurd (cc)
only_room store.DiskFault is = absurd (cc)
only_room store.NoSpace is = refl
only_room store.BadPointer is = absurd (cc)
only_room store.BadDigest is = absurd (cc)
only_room store.BadConfig is = absurd (cc)

not_for_loss : (cause : StoreRefusal) → ¬ (cause ≡ store.NoMemory) → ¬ (cause ≡ store.DiskFault) → ¬ IsForLoss cause
not_for_loss cause memory lost (inl is) = memory is
not_for_loss cause memory lost (inr is) = lost is

not_for_plan : (cause : StoreRefusal) → ¬ (cause ≡ store.NoMemory) → ¬ (cause ≡ store.NoSpace) → ¬ (cause ≡ store.DiskFault) → ¬ (IsForRoom cause ⊎ (cause ≡ store.DiskFault))
not_for_plan cause memory space lost (inl (inl is)) = memory is
not_for_plan cause memory space lost (inl (inr is)) = space is
not_for_plan cause memory space lost (inr is) = lost is

no_room_for_reads : ¬ IsForRead store.NoSpace
no_room_for_reads (inl is) = cc
no_room_for_reads (inr (inl is)) = cc
no_room_for_reads (inr (inr (inl is))) = cc
no_room_for_reads (inr (inr (inr is))) = cc

-- a read of a pool that is whole is refused for want of memory or for a fault
pub read_faults : (old new : Store) (missing : List ℕ) (cause : StoreRefusal) → IsForRead cause → (AnswersTell old new missing → IsForLoss cause)
    → (of_store cause ≡ NoMemory) ⊎ IsFaultIn old new missing (of_store cause)
read_faults old new missing store.NoMemory for known = inl refl
read_faults old new missing store.DiskFault for known = inr (inl refl)
read_faults old new missing store.NoSpace for known = absurd (no_room_for_reads for)
read_faults old new missing store.BadPointer for known = inr (inr (inl refl, (λ tell. not_for_loss store.BadPointer (λ e. cc) (λ e. cc) (known tell))))
read_faults old new missing store.BadDigest for known = inr (inr (inr refl, (λ tell. not_for_loss store.BadDigest (λ e. cc) (λ e. cc) (known tell))))
read_faults old new missing store.BadConfig for known = inr (inr (inl refl, (λ tell. not_for_loss store.BadConfig (λ e. cc) (λ e. cc) (known tell))))

-- and a plan, or for want of room
pub plan_faults : (old new : Store) (cause : StoreRefusal) → (AnswersTell old new [] → IsForRoom cause ⊎ (cause ≡ store.DiskFault))
    → (of_store cause ≡ NoMemory) ⊎ ((of_store cause ≡ NoSpace) ⊎ IsFaultIn old new [] (of_store cause))
plan_faults old new store.NoMemory known = inl refl
plan_faults old new store.NoSpace known = inr (inl refl)
plan_faults old new store.DiskFault known = inr (inr (inl refl))
plan_faults old new store.BadPointer known = inr (inr (inr (inl refl, (λ tell. not_for_plan store.BadPointer (λ e. cc) (λ e. cc) (λ e. cc) (known tell)))))
plan_faults old new store.BadDigest known = inr (inr (inr (inr refl, (λ tell. not_for_plan store.BadDigest (λ e. cc) (λ e. cc) (λ e. cc) (known tell)))))
plan_faults old new store.BadConfig known = inr (inr (inr (inl refl, (λ tell. not_for_plan store.BadConfig (λ e. cc) (λ e. cc) (λ e. cc) (known tell)))))

-- want of memory is no fault
memory_is_none : ¬ IsReadFault NoMemory
memory_is_none (inl is) = cc
memory_is_none (inr (inl is)) = cc
memory_is_none (inr (inr is)) = cc

pub no_fault_of_memory : (refusal : Refusal) (cause : StoreRefusal) → refusal ≡ of_store cause → IsReadFault refusal → ¬ (cause ≡ store.NoMemory)
no_fault_of_memory refusal cause answered fault memory = memory_is_none (subst IsReadFault (answered ∙ ap of_store memory) fault)

-- no refusal of the store is one of a configuration
pub no_config : (cause : StoreRefusal) → ¬ (of_store cause ≡ BadConfig)
no_config store.NoMemory is = cc
no_config store.DiskFault is = cc
no_config store.NoSpace is = cc
no_config store.BadPointer is = cc
no_config store.BadDigest is = cc
no_config store.BadConfig is = cc
