-- What is answered where rows are not read.
use Rattle.std.proofs.Common.{◌≡◌, ◌⊎◌, ℕ, List, inl, inr, refl, sym, ap, subst}
use Rattle.block_store.specs.declared.refusal.Refusal.{Refusal as StoreRefusal}
use Rattle.block_store.specs.declared.refusal.Refusal.TheVariants.{NoMemory as NoStoreMemory, DiskFault, NoSpace, BadPointer, BadDigest, BadConfig}
use Rattle.block_store.specs.Causes.{IsCaused}
use Rattle.block_store.specs.Losses.{IsForLoss}
use Rattle.block_store.specs.Steps.{OnlyReadsBlocks}
use Rattle.block_store.specs.Store.{Store}
use Rattle.block_store.proofs.Causes.{caused_behind_reads}
use Rattle.dnode.specs.declared.object_set.ObjectSet.{ObjectSet}
use Rattle.object_table.specs.Ends.{IsEndRefused}
use Rattle.object_table.specs.Found.{IsTableRefused}
use Rattle.space_map_objects.specs.Maps.{map_kind, IsEndUnread, IsForLossOf, IsUnread}
use Rattle.space_map_objects.specs.Causes.{IsCausedOf}
use Rattle.space_map_objects.specs.declared.refusal.Refusal.{Refusal}
use Rattle.space_map_objects.specs.declared.refusal.Refusal.TheVariants.{NoMemory, BadMap, Unread}
use Rattle.space_map_objects.specs.Refused.{of_read}

unread_for : (P : StoreRefusal → Type 0) (why : StoreRefusal) → (why ≡ NoStoreMemory) ⊎ P why → (of_read why ≡ NoMemory) ⊎ ((cause : StoreRefusal) × (of_read why ≡ Unread cause) × P cause)
unread_for P why (inl memory) = inl (ap of_read memory)
unread_for P NoStoreMemory (inr refused) = inl refl
unread_for P DiskFault (inr refused) = inr (DiskFault, refl, refused)
unread_for P NoSpace (inr refused) = inr (NoSpace, refl, refused)
unread_for P BadPointer (inr refused) = inr (BadPointer, refl, refused)
unread_for P BadDigest (inr refused) = inr (BadDigest, refl, refused)
unread_for P BadConfig (inr refused) = inr (BadConfig, refl, refused)

pub unread : (old new : Store) (missing : List ℕ) (set : ObjectSet) (birth number : ℕ) (why : StoreRefusal)
    → (why ≡ NoStoreMemory) ⊎ IsTableRefused old new missing set birth map_kind number why → IsUnread old new missing set birth number (of_read why)
unread old new missing set birth number why refused = unread_for (IsTableRefused old new missing set birth map_kind number) why refused

pub end_unread : (old new : Store) (missing : List ℕ) (set : ObjectSet) (birth number : ℕ) (why : StoreRefusal)
    → (why ≡ NoStoreMemory) ⊎ IsEndRefused old new missing set birth map_kind number why → IsEndUnread old new missing set birth number (of_read why)
end_unread old new missing set birth number why refused = unread_for (IsEndRefused old new missing set birth map_kind number) why refused

pub lossy : (why : StoreRefusal) → IsForLoss why → IsForLossOf (of_read why)
lossy why (inl memory) = inl (ap of_read memory)
lossy why (inr fault) = inr (DiskFault, ap of_read fault, inr refl)

-- the cause of rows that were not read
pub unread_is_caused : (old new : Store) (missing : List ℕ) (why : StoreRefusal) → IsCaused old new missing why → IsCausedOf old new missing (of_read why)
unread_is_caused old new missing NoStoreMemory cause = tt
unread_is_caused old new missing DiskFault cause = cause
unread_is_caused old new missing NoSpace cause = cause
unread_is_caused old new missing BadPointer cause = tt
unread_is_caused old new missing BadDigest cause = tt
unread_is_caused old new missing BadConfig cause = tt

-- rows that are judged have none
pub judged_is_caused : (old new : Store) (missing : List ℕ) (Bad : Type 0) (refusal : Refusal) → (refusal ≡ NoMemory) ⊎ ((refusal ≡ BadMap) × Bad) → IsCausedOf old new missing refusal
judged_is_caused old new missing Bad refusal (inl memory) = subst (λ (cause : Refusal). IsCausedOf old new missing cause) (sym memory) tt
judged_is_caused old new missing Bad refusal (inr bad) = subst (λ (cause : Refusal). IsCausedOf old new missing cause) (sym bad.0) tt

-- behind reads
pub caused_of_behind_reads : (old mid new : Store) (missing : List ℕ) (refusal : Refusal) → OnlyReadsBlocks old mid missing → IsCausedOf mid new missing refusal → IsCausedOf old new missing refusal
caused_of_behind_reads old mid new missing NoMemory reads cause = tt
caused_of_behind_reads old mid new missing BadMap reads cause = tt
caused_of_behind_reads old mid new missing (Unread why) reads cause = caused_behind_reads old mid new missing why reads cause
