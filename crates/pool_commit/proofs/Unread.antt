-- Blocks that could not be read, and why.
use Rattle.std.proofs.Common.{ℕ, zero, suc, ◌≡◌, ◌⊎◌, ⊎_elim, ◌-◌, ◌<◌, ◌≤◌, Bool, true, List, [], ◌++◌, length, Option, Some, None, Contains, inl, inr, refl, sym, ap, ◌∙◌, subst, arith}
use Rattle.std.specs.Prelude.{slice_get}
use Rattle.std.proofs.lemmas.Option.{slice_get_within, get_or_from_slice_get}
use Rattle.model_disk.specs.Joint.{Disks}
use Rattle.block_pointer.specs.declared.block.Block.{Block}
use Rattle.block_pointer.specs.Copies.{dvas}
use Rattle.raidz_io.specs.declared.vdev.Extent.{Extent}
use Rattle.raidz_io.specs.declared.vdev.Vdev.{Vdev as VdevOnDisks}
use Rattle.raidz_io.specs.Reads.{OnlyReads, absent_since, MoreAreLost}
use Rattle.raidz_io.proofs.Calls.{OnlyReads-none}
use Rattle.raidz_io.proofs.Pigeons.{distinct_fit}
use Rattle.raidz_io.proofs.Placed.{placed_at}
use Rattle.block_store.specs.declared.refusal.Refusal.{Refusal as StoreRefusal}
use Rattle.block_store.specs.declared.refusal.Refusal.TheVariants as store
use Rattle.block_store.specs.Spaces.{VdevSpace}
use Rattle.block_store.specs.Losses.{IsBlockLost, IsForLoss}
use Rattle.block_store.specs.Places.{shapes_of}
use Rattle.block_store.specs.Reading.{HaveFailed}
use Rattle.block_store.specs.Steps.{AnswersTell, StaysLost}
use Rattle.block_store.specs.Store.{Store, outs, outs_from, missed, stale_from, is_out, is_stale}
use Rattle.block_store.proofs.ReadingLost.{absent_earlier}
use Rattle.block_store.proofs.ReadingSteps.{reads_on}
use Rattle.block_store.proofs.Telling.{lost_same, tell_between}
use Rattle.meta_objset.specs.declared.directory.DirectoryRow.{DirectoryRow}
use Rattle.meta_objset.specs.declared.stale_spans.StaleSpan.{StaleSpan}
use Rattle.pool_model.specs.Pools.{Entry, PlainPool, volume_at}
use Rattle.pool_model.specs.Refusals.{read_refusal}
use Rattle.pool_model.specs.View.{View, Loss, Vdev, lost_in}
use Rattle.dataset_snapshots.proofs.Losses.{losses_by_rows, losses_of_destroys, losses_of_first_groups, losses_of_groups}
use Rattle.dataset_snapshots.proofs.ReadRefusals.{reads_need_no_room}
use Rattle.dataset_snapshots.specs.Creating.{stale_after}
use Rattle.dataset_snapshots.specs.Ranges.{IsRangeRefusedIn}
use Rattle.volume_rules.specs.Parting.{destroyed_by, made_by}
use Rattle.pool_commit.specs.declared.kept.KeptGroup.{KeptGroup}
use Rattle.pool_commit.specs.declared.refusal.Refusal.{Refusal}
use Rattle.pool_commit.specs.declared.refusal.Refusal.TheVariants.{DiskFault, NoMemory}
use Rattle.pool_commit.specs.Backs.{Backs}
use Rattle.pool_commit.specs.Calls.{unread_between}
use Rattle.pool_commit.specs.Causes.{of_store}
use Rattle.pool_commit.specs.Config.{shown, vdevs_of}
use Rattle.vdev_label.specs.Plain.{PlainVdev, config_view}
use Rattle.pool_commit.specs.Reading.{IsFaultIn, IsLost, IsLostForPlan, IsLostUnder, IsReadCause, IsUnreadForPlan, IsUnreadOf, LosesOn, is_lost}
use Rattle.pool_commit.specs.Room.{IsGroupRefusedBehind, IsNextRefused}
use Rattle.pool_commit.specs.State.{State, group_at}
use Rattle.pool_commit.proofs.Planning.{same_vdevs}
use Rattle.pool_commit.proofs.Refusing.{only_lost, read_faults}
use Rattle.pool_commit.proofs.Tolerating.{vdev_at, lost_disks, length_lost, among_lost, absent_is_lost}

-- copies that failed were only read
reads_of_failed : (spaces : List VdevSpace) (absent : List ℕ) (block : Block) (n : ℕ) (old new : Disks) → HaveFailed spaces absent block n old new → OnlyReads old new
reads_of_failed spaces absent block zero old new same = subst (λ (disks : Disks). OnlyReads old disks) (sym same) (OnlyReads-none old)
reads_of_failed spaces absent block (suc n) old new (mid, earlier, refusal, failed) =
    reads_on old mid new (reads_of_failed spaces absent block n old mid earlier) failed.reads

in_list : {A : Type 0} (xs : List A) (i : ℕ) (x : A) → slice_get xs i ≡ Some x → Contains xs x
in_list xs i x found = (i, slice_get_within xs i x found, get_or_from_slice_get xs i x x found)

-- what is lost for a view, since reads and plans began
pub record IsSince (v : View) (start new : Store) : Type 0 where
  pub vdevs : v.vdevs ≡ vdevs_of start.spaces
  pub out : (disk : ℕ) → v.out disk ≡ is_out start.out disk
  pub stale : (disk birth : ℕ) → v.stale disk birth ≡ is_stale start.spans.stale disk birth
  pub reads : OnlyReads start.disks new.disks

module _ (v : View) (start new : Store) (missing : List ℕ) (from : IsSince v start new) (loss : IsBlockLost start new missing) where
  abbrev birth : ℕ
  birth = loss.block.birth

  abbrev lost : ℕ → Bool
  lost = is_lost v missing (unread_between start.disks new.disks) birth

  -- the disks that are left out, as the block was read
  abbrev absent : List ℕ
  absent = (outs loss.mid ++ missing) ++ missed loss.mid birth

  -- they are those that were so at first
  absent_is : absent ≡ (outs start ++ missing) ++ missed start birth
  absent_is = λ i. (outs_from 0 (loss.before.out i) ++ missing) ++ stale_from 0 (loss.before.stale i) birth

  -- a disk that is absent for a copy is lost
  copy_absent : (disks : Disks) (disk : ℕ) → OnlyReads loss.mid.disks disks → Contains (absent_since disks new.disks absent) disk → lost disk ≡ true
  copy_absent disks disk earlier held =
      absent_is_lost start v missing birth new.disks from.reads from.out from.stale disk
      (absent_earlier start.disks disks new.disks ((outs start ++ missing) ++ missed start birth) disk (reads_on start.disks loss.mid.disks disks loss.before.reads earlier)
      (subst (λ (them : List ℕ). Contains (absent_since disks new.disks them) disk) absent_is held))

  -- more disks of the copy's vdev are lost than it has parities
  many_lost : (disks : Disks) (extent : Extent) → OnlyReads loss.mid.disks disks → MoreAreLost extent (absent_since disks new.disks absent)
      → extent.vdev.geometry.parity < lost_in lost extent.vdev.first extent.vdev.geometry.children
  many_lost disks extent earlier more =
      let first : ℕ = extent.vdev.first in
      let children : ℕ = extent.vdev.geometry.children in
      let fit : length more.disks ≤ length (lost_disks lost first children) =
      distinct_fit more.disks (lost_disks lost first children) (record { apart = more.apart }) (λ disk held.
      let each = more.each disk held in
      let placed = placed_at extent each.0.k each.0.column each.0.below each.0.is_column in
      subst (λ (d : ℕ). Contains (lost_disks lost first children) d) (sym each.0.which)
      (among_lost lost first children each.0.column.child placed.child
      (subst (λ (d : ℕ). lost d ≡ true) each.0.which (copy_absent disks disk earlier each.1)))) in
      let count : length (lost_disks lost first children) ≡ lost_in lost first children = length_lost lost first children in
      let many : extent.vdev.geometry.parity < length more.disks = more.more in
      omega (arith, fit, count, many)

  copies_before : ℕ
  copies_before = length (dvas loss.block.copies) - 1

  -- the block is lost on this vdev
  abbrev IsLostThere : Loss → Type 0
  IsLostThere it = LosesOn v missing start new it
      × (Contains v.vdevs it.vdev × (it.vdev.parity < lost_in (is_lost v missing (unread_between start.disks new.disks) it.birth) it.vdev.first it.vdev.children))

  lost_with : MoreAreLost loss.fault.last.extent (absent_since loss.fault.mid new.disks absent) → (it : Loss) × IsLostThere it
  lost_with more =
      let copy = loss.fault.last.is_copy in
      let at = copy.extent_is in
      let vdev : Vdev = shown at.space.shape.vdev in
      let there : slice_get v.vdevs copy.place.vdev ≡ Some vdev =
      ap (λ (vdevs : List Vdev). slice_get vdevs copy.place.vdev) (from.vdevs ∙ sym (same_vdevs start.spaces loss.mid.spaces loss.before.shapes))
      ∙ vdev_at loss.mid.spaces copy.place.vdev at.space at.found in
      let earlier : OnlyReads loss.mid.disks loss.fault.mid =
      reads_of_failed loss.mid.spaces absent loss.block (length (dvas loss.block.copies) - 1) loss.mid.disks loss.fault.mid loss.fault.earlier in (
        record { vdev = vdev; birth = birth },
        (
          record { lost = loss; last = record { place = copy.place; is_last = copy.is_copy; is_there = there }; birth = refl },
          (
            in_list v.vdevs copy.place.vdev vdev there,
            subst (λ (on : VdevOnDisks). on.geometry.parity < lost_in lost on.first on.geometry.children) at.vdev
                (many_lost loss.fault.mid loss.fault.last.extent earlier more),
          ),
        ),
      )

  -- the last copy's vdev misses too many
  pub fault_lost : (it : Loss) × IsLostThere it
  fault_lost = ⊎_elim (λ more. lost_with more.1) (λ digest. absurd (let e : store.DiskFault ≡ store.BadDigest = digest.0 in cc)) loss.fault.last.cause

-- a fault of a whole pool, told of its states
lost_in_states : (v : View) (missing : List ℕ) (old new : State) (start : Store) (refusal : Refusal) → start.disks ≡ old.store.disks → IsSince v start new.store
    → (refusal ≡ DiskFault → IsBlockLost start new.store missing) → StaysLost start old.store → IsFaultIn start new.store missing refusal → IsLost v missing old new start refusal
lost_in_states v missing old new start refusal disks from loses same (inl is) =
    let there = fault_lost v start new.store missing from (loses is) in
    subst (λ (r : Refusal). IsLost v missing old new start r) (sym is) (
      there.0,
      there.1.0,
      (
        there.1.1.0,
        subst (λ (d : Disks). there.0.vdev.parity < lost_in (is_lost v missing (unread_between d new.store.disks) there.0.birth) there.0.vdev.first there.0.vdev.children) disks there.1.1.1,
      ),
    )
lost_in_states v missing old new start refusal disks from loses same (inr (inl is, untold)) =
    subst (λ (r : Refusal). IsLost v missing old new start r) (sym is) (λ tell. untold (tell_between old.store new.store start new.store missing disks refl same tell))
lost_in_states v missing old new start refusal disks from loses same (inr (inr is, untold)) =
    subst (λ (r : Refusal). IsLost v missing old new start r) (sym is) (λ tell. untold (tell_between old.store new.store start new.store missing disks refl same tell))

-- ---- reads and plans

-- what a range was refused for by rows that are those that are kept
pub by_kept_rows : (old new : Store) (missing : List ℕ) (birth : ℕ) (root : Block) (rows kept : List DirectoryRow) (name : List ℕ) (offset len : ℕ) (cause : StoreRefusal) → rows ≡ kept
    → (cause ≡ store.NoMemory) ⊎ IsRangeRefusedIn old new missing birth root rows name offset len cause
    → (cause ≡ store.NoMemory) ⊎ IsRangeRefusedIn old new missing birth root kept name offset len cause
by_kept_rows old new missing birth root rows kept name offset len cause same =
    subst (λ (list : List DirectoryRow). (cause ≡ store.NoMemory) ⊎ IsRangeRefusedIn old new missing birth root list name offset len cause) same

-- a range was refused by the directory that is kept
pub unread_of : (old new : Store) (kept : KeptGroup) (birth : ℕ) (root : Block) (name : List ℕ) (offset len : ℕ) (missing : List ℕ) (cause : StoreRefusal) (refusal : Refusal)
    → kept.root ≡ Some root → refusal ≡ of_store cause → IsRangeRefusedIn old new missing birth root kept.directory.value name offset len cause
    → IsUnreadOf old new kept birth name offset len missing refusal
unread_of old new kept birth root name offset len missing cause refusal is answered why = record {
  root = root;
  is_root = is;
  cause = cause;
  unread = why;
  for_read = reads_need_no_room.ranges_in old new missing birth root kept.directory.value name offset len cause why;
  answered = answered;
}

-- and of a pool that is whole one that is there, for want of memory or for a fault
pub read_refused : (old new : Store) (kept : KeptGroup) (birth : ℕ) (root : Block) (name : List ℕ) (offset len : ℕ) (missing : List ℕ) (pool : PlainPool) (cause : StoreRefusal)
    (refusal : Refusal) → kept.root ≡ Some root → refusal ≡ of_store cause → read_refusal offset len (volume_at name pool) ≡ None
    → IsRangeRefusedIn old new missing birth root kept.directory.value name offset len cause → (AnswersTell old new missing → IsForLoss cause)
    → (refusal ≡ NoMemory) ⊎ (IsReadCause (read_refusal offset len (volume_at name pool)) refusal
    ⊎ ((read_refusal offset len (volume_at name pool) ≡ None) × IsUnreadOf old new kept birth name offset len missing refusal × IsFaultIn old new missing refusal))
read_refused old new kept birth root name offset len missing pool cause refusal is answered none why known =
    ⊎_elim (λ memory. inl (answered ∙ memory))
    (λ fault. inr (inr (none, unread_of old new kept birth root name offset len missing cause refusal is answered why, subst (IsFaultIn old new missing) (sym answered) fault)))
    (read_faults old new missing cause (reads_need_no_room.ranges_in old new missing birth root kept.directory.value name offset len cause why) known)

pub lost_under : (v : View) (old : State) (new : Store) (group : ℕ) (kept : KeptGroup) (name : List ℕ) (offset len : ℕ) (missing : List ℕ) (refusal : Refusal)
    → Backs old v → group_at old.kept group ≡ Some kept → OnlyReads old.store.disks new.disks
    → IsUnreadOf old.store new kept group name offset len missing refusal → IsFaultIn old.store new missing refusal
    → IsLostUnder v old (record old { store = new }) group name offset len missing refusal
lost_under v old new group kept name offset len missing refusal backs is_kept reads is fault = record {
  unread = record { under = kept; kept = is_kept; unread = is };
  lost = lost_in_states v missing old (record old { store = new }) old.store refusal refl (record { vdevs = backs.vdevs; out = backs.out; stale = backs.stale; reads = reads })
      (λ lost. losses_by_rows.ranges old.store new missing group is.root kept.directory.value name offset len is.cause is.unread (only_lost is.cause (sym is.answered ∙ lost))) (lost_same old.store old.store refl refl refl) fault;
}

next_lost : (old new : Store) (last : Option Block) (rows : List DirectoryRow) (vdevs : List PlainVdev) (group : ℕ) (spans : Option (List StaleSpan)) (items : Entry)
    (refusal : StoreRefusal) → IsNextRefused old new last rows vdevs group spans items refusal → refusal ≡ store.DiskFault → IsBlockLost old new []
next_lost old new (Some root) rows vdevs group spans items refusal why is = losses_of_groups losses_of_destroys old new root rows group spans (destroyed_by items) (made_by items) refusal why is
next_lost old new None rows vdevs group spans items refusal why is = losses_of_first_groups old new group vdevs (stale_after spans []) (made_by items) refusal why is

behind_lost : (old new : Store) (last : KeptGroup) (group : ℕ) (items : Entry) (refusal : StoreRefusal) → IsGroupRefusedBehind old new last group items refusal
    → refusal ≡ store.DiskFault → IsBlockLost old new []
behind_lost old new last group items refusal (inl memory) is = absurd (let no : store.NoMemory ≡ store.DiskFault = sym memory ∙ is in cc)
behind_lost old new last group items refusal (inr it) is =
    next_lost old new last.root last.directory.value (config_view last.config.value) group it.spans items refusal it.why is

pub lost_for_plan : (v : View) (old new : State) (items : Entry) (refusal : Refusal) (is : IsUnreadForPlan old new items refusal)
    → Backs (record old { store = is.refused.begun; planned = None }) v → OnlyReads is.refused.begun.disks new.store.disks
    → IsFaultIn is.refused.begun new.store [] refusal → IsLostForPlan v old new items refusal
lost_for_plan v old new items refusal is backs reads fault = record {
  unread = is;
  lost = lost_in_states v [] old new is.refused.begun refusal is.refused.is_begun.disks (record { vdevs = backs.vdevs; out = backs.out; stale = backs.stale; reads = reads })
      (λ lost. behind_lost is.refused.begun new.store old.kept.last is.refused.group items is.cause is.refused.why
      (only_lost is.cause (sym is.answered ∙ lost)))
      (lost_same is.refused.begun old.store (sym is.refused.is_begun.shapes) (sym is.refused.is_begun.out) (sym is.refused.is_begun.stale)) fault;
}
