-- A root is refused for want of disks only where some are lost.
use Rattle.std.proofs.Common.{ℕ, zero, suc, ◌≡◌, ◌⊎◌, inl, inr, ⊎_elim, ◌+◌, ◌<◌, ◌≤◌, Bool, true, false, ◌&&◌, nat_le, if◌then◌else◌, List, [], ◌∷◌, ◌++◌, length, slice_get, Contains, Option, Some, refl, sym, ap, subst, ◌∙◌, arith, true≢false}
use Rattle.std.specs.Prelude.{option_map}
use Rattle.std.proofs.lemmas.Bool.Decides.{nat_tests}
use Rattle.std.proofs.lemmas.Option.{slice_get-map, slice_get_within}
use Rattle.raidz_io.proofs.Calls.{Contains-front, Contains-later}
use Rattle.block_store.specs.Places.{shapes_of}
use Rattle.block_store.specs.Spaces.{VdevSpace}
use Rattle.block_store.specs.declared.shape.VdevShape.{VdevShape}
use Rattle.block_store.proofs.Outs.{in_is_out}
use Rattle.pool_create.specs.Words.{vdevs_in}
use Rattle.pool_model.specs.View.{is_tolerable, lost_in}
use Rattle.std.proofs.lemmas.List.{append-nil}
use Rattle.model_disk.specs.Joint.{failed_since}
use Rattle.raidz_io.specs.Reads.{absent_since}
use Rattle.block_pointer.specs.declared.block.Block.{Block}
use Rattle.block_store.specs.Losses.{IsBlockLost, LossesAreNotTolerable}
use Rattle.block_store.specs.Reading.{AreTolerable}
use Rattle.block_store.specs.Store.{Store, is_out, missed, outs, stale_from}
use Rattle.disk_set.specs.declared.stale.GroupSpan.{GroupSpan}
use Rattle.block_store.specs.declared.refusal.Refusal.{Refusal}
use Rattle.block_store.specs.declared.refusal.Refusal.TheVariants.{DiskFault, BadPointer, NoMemory as NoStoreMemory}
use Rattle.block_store.proofs.Losses.{lost_behind_reads}
use Rattle.dnode.specs.declared.object_set.ObjectSet.{ObjectSet}
use Rattle.meta_objset.proofs.Losses.{record_lost, rows_lost}
use Rattle.meta_objset.specs.Found.{AreDirectoryRows, AreMapRows, AreSpanRows}
use Rattle.meta_objset.specs.Reading.{directory_kind}
use Rattle.meta_objset.specs.SpaceMaps.{maps_kind}
use Rattle.meta_objset.specs.StaleSpans.{spans_kind}
use Rattle.object_table.proofs.Losses.{table_lost}
use Rattle.objset.proofs.Losses.{set_walk_lost}
use Rattle.pool_create.specs.Contents.{AreContentsRefused, AreNamesRefused, IsRootUnread}
use Rattle.pool_create.specs.SnapshotsFinding.{IsDirectoryRefused}
use Rattle.pool_create.specs.Reach.{IsMetaWalkRefused}
use Rattle.pool_create.proofs.SnapshotsLosses.{meta_lost}
use Rattle.meta_objset.specs.declared.directory.DirectoryRow.{DirectoryRow}
use Rattle.pool_create.specs.Loads.{AreMapsUnread}
use Rattle.space_map_objects.specs.Maps.{IsForLossOf, IsMapRefused, map_kind}
use Rattle.space_map_objects.specs.declared.refusal.Refusal.{Refusal as RootRefusal}
use Rattle.space_map_objects.specs.declared.refusal.Refusal.TheVariants.{NoMemory, Unread}

-- ---- where a block is lost

directory_lost : (old new : Store) (birth : ℕ) (root : Block) (refusal : Refusal) → IsDirectoryRefused old new [] birth root refusal → refusal ≡ DiskFault → IsBlockLost old new []
directory_lost old new birth root refusal directory is =
    lost_behind_reads old directory.mid new [] directory.before (rows_lost directory.mid new [] directory.set root.birth directory_kind 1 AreDirectoryRows refusal directory.why is)

names_lost : (old new : Store) (birth : ℕ) (root : Block) (rows : List DirectoryRow) (refusal : Refusal) → AreNamesRefused old new [] birth root rows refusal → refusal ≡ DiskFault
    → IsBlockLost old new []
names_lost old new birth root rows refusal (inl memory) is = absurd (cc)
names_lost old new birth root rows refusal (inr (inl refused)) is = meta_lost old new [] birth root refusal refused is
names_lost old new birth root rows refusal (inr (inr unnamed)) is = elim unnamed.why [
  | inl row ↦
      lost_behind_reads old unnamed.mid new [] unnamed.first
      (lost_behind_reads unnamed.mid row.mid new [] row.reads (record_lost row.mid new [] unnamed.set root.birth row.row.object refusal row.why is))
  | inr unchained ↦ absurd (let bad = unchained.0 in cc)
]

-- the meta object set was not walked
meta_walk_lost : (old new : Store) (birth : ℕ) (root : Block) (before after : ℕ) (refusal : Refusal) → IsMetaWalkRefused old new [] birth root before after refusal → refusal ≡ DiskFault
    → IsBlockLost old new []
meta_walk_lost old new birth root before after refusal (inl memory) is = absurd (cc)
meta_walk_lost old new birth root before after refusal (inr (inl (inl (bad, none)))) is = absurd (cc)
meta_walk_lost old new birth root before after refusal (inr (inl (inr refused))) is = meta_lost old new [] birth root refusal refused is
meta_walk_lost old new birth root before after refusal (inr (inr (inl own))) is =
    lost_behind_reads old own.mid new [] own.first (set_walk_lost own.mid new [] own.set root.birth own.left after refusal own.why is)
meta_walk_lost old new birth root before after refusal (inr (inr (inr (bad, twice)))) is = absurd (cc)

-- something before the space maps was not read
root_lost : (old new : Store) (birth : ℕ) (root : Block) (before after : ℕ) (refusal : Refusal) → IsRootUnread old new [] birth root before after refusal → refusal ≡ DiskFault
    → IsBlockLost old new []
root_lost old new birth root before after refusal (inl (inl refused)) is = meta_lost old new [] birth root refusal refused is
root_lost old new birth root before after refusal (inl (inr directory)) is = directory_lost old new birth root refusal directory is
root_lost old new birth root before after refusal (inr (inl names)) is =
    lost_behind_reads old names.mid new [] names.first (names_lost names.mid new birth root names.rows refusal names.why is)
root_lost old new birth root before after refusal (inr (inr walk)) is =
    lost_behind_reads old walk.mid new [] walk.first (meta_walk_lost walk.mid new birth root before after refusal walk.why is)

-- ---- space maps

-- what was not read was for lack of disks
fault_is : (refusal : RootRefusal) (why : Refusal) → refusal ≡ Unread why → refusal ≡ Unread DiskFault → why ≡ DiskFault
fault_is refusal why is fault = let both : Unread why ≡ Unread DiskFault = sym is ∙ fault in cc

map_lost : (old new : Store) (set : ObjectSet) (birth number sectors : ℕ) (refusal : RootRefusal) → IsMapRefused old new [] set birth number sectors refusal → refusal ≡ Unread DiskFault
    → IsBlockLost old new []
map_lost old new set birth number sectors refusal (inl (inl memory)) is = absurd (cc)
map_lost old new set birth number sectors refusal (inl (inr (why, same, table))) is =
    table_lost old new [] set birth map_kind number why table (fault_is refusal why same is)
map_lost old new set birth number sectors refusal (inr (bad, none)) is = absurd (cc)

maps_lost : (old new : Store) (set : ObjectSet) (birth : ℕ) (refusal : RootRefusal) → AreMapsUnread old new [] set birth refusal → refusal ≡ Unread DiskFault → IsBlockLost old new []
maps_lost old new set birth refusal (inl (why, same, rows)) is =
    rows_lost old new [] set birth maps_kind 4 AreMapRows why rows (fault_is refusal why same is)
maps_lost old new set birth refusal (inr rows) is = elim rows.why [
  | inl bad ↦ absurd (let clash : Unread BadPointer ≡ Unread DiskFault = sym bad.0 ∙ is in cc)
  | inr row ↦ lost_behind_reads old row.mid new [] row.before (map_lost row.mid new set birth row.row.object row.sectors refusal row.why is)
]

contents_lost : (old new : Store) (birth : ℕ) (root : Block) (before after : ℕ) (refusal : RootRefusal) → AreContentsRefused old new [] birth root before after refusal
    → refusal ≡ Unread DiskFault → IsBlockLost old new []
contents_lost old new birth root before after refusal (inl memory) is = absurd (cc)
contents_lost old new birth root before after refusal (inr (inl (why, same, inl unread))) is =
    root_lost old new birth root before after why unread (fault_is refusal why same is)
contents_lost old new birth root before after refusal (inr (inl (why, same, inr spans))) is =
    lost_behind_reads old spans.mid new [] spans.first
    (rows_lost spans.mid new [] spans.walked_set root.birth spans_kind 3 AreSpanRows why spans.why (fault_is refusal why same is))
contents_lost old new birth root before after refusal (inr (inr maps)) is =
    lost_behind_reads old maps.mid new [] maps.first (maps_lost maps.mid new maps.walked_set root.birth refusal maps.why is)

-- ---- none is lost where enough disks are there

-- the lost disks of a vdev
record AreLostIn (lost : ℕ → Bool) (first n : ℕ) : Type 0 where
  pub disks : List ℕ
  pub count : length disks ≡ lost_in lost first n
  pub all : (child : ℕ) → child < n → lost (first + child) ≡ true → Contains disks (first + child)

last_or : (child n : ℕ) → child < suc n → (child < n) ⊎ (child ≡ n)
last_or child n below = grind arith

more_lost : (lost : ℕ → Bool) (first n : ℕ) → AreLostIn lost first n → (is : Bool) → lost (first + n) ≡ is → AreLostIn lost first (suc n)
more_lost lost first n rest true last =
    let one : ◌≡◌ {A = ℕ} (if lost (first + n) then 1 else 0) 1 = ap (λ flag. if flag then 1 else 0) last in
    record {
      disks = (first + n) ∷ rest.disks;
      count = omega (arith, rest.count, one);
      all = λ child below is. ⊎_elim
          (λ before. Contains-later (first + n) rest.disks (first + child) (rest.all child before is))
          (λ same. subst (λ (k : ℕ). Contains ((first + n) ∷ rest.disks) (first + k)) (sym same) (Contains-front (first + n) rest.disks))
          (last_or child n below);
    }
more_lost lost first n rest false last =
    let none : ◌≡◌ {A = ℕ} (if lost (first + n) then 1 else 0) 0 = ap (λ flag. if flag then 1 else 0) last in
    record {
      disks = rest.disks;
      count = omega (arith, rest.count, none);
      all = λ child below is. ⊎_elim
          (λ before. rest.all child before is)
          (λ same. absurd (true≢false (sym is ∙ ap (λ (k : ℕ). lost (first + k)) same ∙ last)))
          (last_or child n below);
    }

lost_disks : (lost : ℕ → Bool) (first n : ℕ) → AreLostIn lost first n
lost_disks lost first zero = record { disks = []; count = refl; all = λ child below is. absurd (omega (arith, below)) }
lost_disks lost first (suc n) = more_lost lost first n (lost_disks lost first n) (lost (first + n)) refl

le_of : (a b : ℕ) → nat_le a b ≡ true → a ≤ b
le_of a b is = grind (arith, nat_tests)

pub both_are : (a b : Bool) → (a && b) ≡ true → (a ≡ true) × (b ≡ true)
both_are true b is = (refl, is)
both_are false b is = absurd (true≢false (sym is))

-- each vdev bears what is lost
pub bears_at : (shapes : List VdevShape) (lost : ℕ → Bool) → is_tolerable (vdevs_in shapes) lost ≡ true → (v : ℕ) (shape : VdevShape) → slice_get shapes v ≡ Some shape
    → lost_in lost shape.vdev.first shape.vdev.geometry.children ≤ shape.vdev.geometry.parity
bears_at [] lost is v shape at = absurd (omega (arith, slice_get_within [] v shape at))
bears_at (first ∷ shapes) lost is zero shape at =
    let same : first ≡ shape = cc in
    let both = both_are (nat_le (lost_in lost first.vdev.first first.vdev.geometry.children) first.vdev.geometry.parity) (is_tolerable (vdevs_in shapes) lost) is in
    subst (λ (s : VdevShape). lost_in lost s.vdev.first s.vdev.geometry.children ≤ s.vdev.geometry.parity) same
    (le_of (lost_in lost first.vdev.first first.vdev.geometry.children) first.vdev.geometry.parity both.0)
bears_at (first ∷ shapes) lost is (suc v) shape at =
    bears_at shapes lost (both_are (nat_le (lost_in lost first.vdev.first first.vdev.geometry.children) first.vdev.geometry.parity) (is_tolerable (vdevs_in shapes) lost) is).1 v shape at

pub tolerable_outs : (store : Store) → is_tolerable (vdevs_in (shapes_of store.spaces)) (is_out store.out) ≡ true → AreTolerable store.spaces (outs store)
tolerable_outs store is v space found =
    let shape : VdevShape = space.shape in
    let at : slice_get (shapes_of store.spaces) v ≡ Some shape = slice_get-map (λ (s : VdevSpace). s.shape) store.spaces v ∙ ap (option_map (λ (s : VdevSpace). s.shape)) found in
    let lost = lost_disks (is_out store.out) shape.vdev.first shape.vdev.geometry.children in
    record {
      disks = lost.disks;
      few = omega (arith, lost.count, bears_at (shapes_of store.spaces) (is_out store.out) is v shape at);
      all = λ child below held. lost.all child below (in_is_out store (shape.vdev.first + child) held);
    }

none_in : (xs : List ℕ) → ((x : ℕ) → ¬ Contains xs x) → xs ≡ []
none_in [] none = refl
none_in (x ∷ xs) none = absurd (none x (0, omega arith, refl))

-- a whole root over disks of which enough are there, where none missed a group and no call failed, is refused for want of memory alone
pub not_for_loss : LossesAreNotTolerable → (old new : Store) (birth : ℕ) (root : Block) (before after : ℕ) (refusal : RootRefusal) → AreContentsRefused old new [] birth root before after refusal
    → is_tolerable (vdevs_in (shapes_of old.spaces)) (is_out old.out) ≡ true → old.spans.stale ≡ []
    → ((disk : ℕ) → ¬ Contains (failed_since (length old.disks.calls) new.disks.calls) disk) → IsForLossOf refusal → (refusal ≡ NoMemory) ⊎ (refusal ≡ Unread NoStoreMemory)
not_for_loss law old new birth root before after refusal cause bears fresh well (inl memory) = inl memory
not_for_loss law old new birth root before after refusal cause bears fresh well (inr (why, same, inl memory)) = inr (same ∙ ap Unread memory)
not_for_loss law old new birth root before after refusal cause bears fresh well (inr (why, same, inr fault)) =
    let failed : failed_since (length old.disks.calls) new.disks.calls ≡ [] = none_in (failed_since (length old.disks.calls) new.disks.calls) well in
    let present : (birth : ℕ) → (outs old ++ []) ++ missed old birth ≡ outs old = λ birth.
    ap (λ (stale : List (Option GroupSpan)). (outs old ++ []) ++ stale_from 0 stale birth) fresh ∙ append-nil (outs old ++ []) ∙ append-nil (outs old) in
    let away : (birth : ℕ) → absent_since old.disks new.disks ((outs old ++ []) ++ missed old birth) ≡ outs old = λ birth.
    ap (λ them. them ++ failed_since (length old.disks.calls) new.disks.calls) (present birth) ∙ ap (λ them. outs old ++ them) failed ∙ append-nil (outs old) in
    absurd (law old new [] (contents_lost old new birth root before after refusal cause (same ∙ ap Unread fault))
    (λ birth. subst (λ (them : List ℕ). AreTolerable old.spaces them) (sym (away birth)) (tolerable_outs old bears)))
