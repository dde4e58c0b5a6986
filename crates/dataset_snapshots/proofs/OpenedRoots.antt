-- What is answered where the contents of a root are not read.
use Rattle.std.proofs.Common.{◌≡◌, ◌⊎◌, ◌∙◌, ℕ, List, inl, inr, refl, sym, ap, subst}
use Rattle.std.specs.Prelude.{◌≢◌}
use Rattle.block_store.specs.declared.refusal.Refusal.{Refusal as StoreRefusal}
use Rattle.block_store.specs.declared.refusal.Refusal.TheVariants.{NoMemory as NoStoreMemory, DiskFault, NoSpace, BadPointer, BadDigest, BadConfig}
use Rattle.block_store.specs.Store.{Store}
use Rattle.dnode.specs.declared.object_set.ObjectSet.{ObjectSet}
use Rattle.meta_objset.proofs.ReadRefusals.{rows_read}
use Rattle.meta_objset.specs.Found.{AreMapRows}
use Rattle.meta_objset.specs.SpaceMaps.{maps_kind}
use Rattle.object_table.proofs.ReadRefusals.{table_read}
use Rattle.pool_maps.specs.Loads.{AreMapsUnread}
use Rattle.space_map_objects.specs.Maps.{map_kind, IsMapRefused}
use Rattle.space_map_objects.specs.Refused.{of_read}
use Rattle.space_map_objects.specs.declared.refusal.Refusal.{Refusal}
use Rattle.space_map_objects.specs.declared.refusal.Refusal.TheVariants.{NoMemory, BadMap, Unread}
use Rattle.dataset_snapshots.proofs.NamedRows.{needs_no_room}

pub unread_for : (P : StoreRefusal → Type 0) (why : StoreRefusal) → (why ≡ NoStoreMemory) ⊎ P why → (of_read why ≡ NoMemory) ⊎ ((cause : StoreRefusal) × (of_read why ≡ Unread cause) × P cause)
unread_for P why (inl memory) = inl (ap of_read memory)
unread_for P NoStoreMemory (inr refused) = inl refl
unread_for P DiskFault (inr refused) = inr (DiskFault, refl, refused)
unread_for P NoSpace (inr refused) = inr (NoSpace, refl, refused)
unread_for P BadPointer (inr refused) = inr (BadPointer, refl, refused)
unread_for P BadDigest (inr refused) = inr (BadDigest, refl, refused)
unread_for P BadConfig (inr refused) = inr (BadConfig, refl, refused)

-- ---- room is never wanting

abbrev cause_of : Refusal → StoreRefusal
cause_of NoMemory = NoStoreMemory
cause_of BadMap = BadPointer
cause_of (Unread why) = why

read_is : (why : StoreRefusal) → cause_of (of_read why) ≡ why
read_is NoStoreMemory = refl
read_is DiskFault = refl
read_is NoSpace = refl
read_is BadPointer = refl
read_is BadDigest = refl
read_is BadConfig = refl

pub of_read_no_room : (why : StoreRefusal) → why ≢ NoSpace → of_read why ≢ Unread NoSpace
of_read_no_room why room is = room (subst (λ w. w ≡ NoSpace) (read_is why) (ap cause_of is))

map_no_room : (old new : Store) (missing : List ℕ) (set : ObjectSet) (birth number sectors : ℕ) (refusal : Refusal) → IsMapRefused old new missing set birth number sectors refusal → refusal ≢ Unread NoSpace
map_no_room old new missing set birth number sectors refusal (inl (inl memory)) is = absurd (cc)
map_no_room old new missing set birth number sectors refusal (inl (inr (why, unread, table))) is =
    needs_no_room why (table_read old new missing set birth map_kind number why table) (ap cause_of (sym unread ∙ is))
map_no_room old new missing set birth number sectors refusal (inr (bad, rows)) is = absurd (cc)

pub maps_no_room : (old new : Store) (missing : List ℕ) (set : ObjectSet) (birth : ℕ) (refusal : Refusal) → (refusal ≡ NoMemory) ⊎ AreMapsUnread old new missing set birth refusal → refusal ≢ Unread NoSpace
maps_no_room old new missing set birth refusal (inl memory) is = absurd (cc)
maps_no_room old new missing set birth refusal (inr (inl (why, unread, rows))) is =
    needs_no_room why (rows_read old new missing set birth maps_kind 4 AreMapRows why rows) (ap cause_of (sym unread ∙ is))
maps_no_room old new missing set birth refusal (inr (inr rows)) is = elim rows.why [
  | inl (bad, none) ↦ absurd (cc)
  | inr one ↦ map_no_room one.mid new missing set birth one.row.object one.sectors refusal one.why is
]
