-- Blocks stand where what is filled stands, and plans write beside it.
use Rattle.std.proofs.Common.{ℕ, zero, suc, ◌≡◌, ◌⊎◌, inl, inr, ◌+◌, ◌<◌, ◌≤◌, Bool, true, false, List, [], ◌∷◌, length, Some, None, Contains, true≢false, refl, sym, ap, subst, ◌∙◌, arith}
use Rattle.std.specs.List.{slice_get}
use Rattle.model_disk.specs.Joint.{content}
use Rattle.raidz_io.specs.Elsewhere.{IsOfExtent}
use Rattle.raidz_io.specs.Places.{disk_of, offset_of}
use Rattle.raidz_io.specs.Stands.{all_columns}
use Rattle.raidz_io.proofs.Written.{size_at, slice_get_some}
use Rattle.block_store.specs.Elsewhere.{IsForBlocks}
use Rattle.block_store.specs.Store.{Store, is_out, is_stale, lost, missed, outs, outs_from}
use Rattle.block_store.proofs.Lost.{lost_is_out}
use Rattle.block_store.proofs.Outs.{in_is_out, out_from}
use Rattle.block_store.proofs.Sectors.{lie_in_sectors}
use Rattle.block_store.proofs.Writing.{found_at}
use Rattle.model_disk.specs.Contents.{covers}
use Rattle.raidz_io.proofs.Kept.{written_of}
use Rattle.pool_create.proofs.OpenHolding.{none_missed}
use Rattle.std.proofs.lemmas.Bool.Decides.{nat_tests}
use Rattle.std.proofs.lemmas.Option.{get_or_from_slice_get}
use Rattle.pool_slots.specs.Slots.{InUse}
use Rattle.pool_stops.specs.Filled.{is_filled}
use Rattle.pool_stops.specs.Standing.{DueWritesAreUnfilled, FilledTreesHoldBlocks}
use Rattle.pool_stops.proofs.Filled.{stored_blocks_are_in_use, filled_bytes_are_for_blocks, free_places_are_unfilled}
use Rattle.pool_stops.proofs.Standing.{its_disk}
use Rattle.pool_stops.proofs.Trees.{if_so}

-- a disk that is there and not out is in use
pub get_in_use : (out : List Bool) (disk : ℕ) → disk < length out → is_out out disk ≡ false → slice_get out disk ≡ Some false
get_in_use [] disk there not = absurd (omega (arith, there))
get_in_use (flag ∷ out) zero there not = ap Some not
get_in_use (flag ∷ out) (suc disk) there not = get_in_use out disk (omega (arith, there)) not

flag_is : (flag : Bool) → (flag ≡ true) ⊎ (flag ≡ false)
flag_is true = inl refl
flag_is false = inr refl

-- one that is in use is not out
pub not_out : (out : List Bool) (disk : ℕ) → InUse out disk → is_out out disk ≡ false
not_out out disk used = get_or_from_slice_get out disk false false used

-- a disk that is there and not among those away is in use
pub used_but : (away : List Bool) (disk : ℕ) → disk < length away → ¬ Contains (outs_from 0 away) disk → InUse away disk
used_but away disk there present = elim (flag_is (is_out away disk)) [
  | inl out ↦ absurd (present (let same : 0 + disk ≡ disk = omega arith in subst (λ (n : ℕ). Contains (outs_from 0 away) n) same (out_from away 0 disk out)))
  | inr not ↦ get_in_use away disk there not
]

-- where no disk missed a group, one that is lost is out
lost_are_out : (store : Store) (birth disk : ℕ) → ((it group : ℕ) → is_stale store.spans.stale it group ≡ false) → Contains (lost store birth) disk → Contains (outs store) disk
lost_are_out store birth disk fresh gone = elim (lost_is_out store birth disk gone) [
  | inl out ↦ out
  | inr stale ↦
      let none : missed store birth ≡ [] = none_missed store.spans.stale 0 birth (λ it. fresh it birth) in
      let held : Contains [] disk = subst (λ (them : List ℕ). Contains them disk) none stale in
      absurd (omega (arith, held.1))
]

pub filled_trees_hold_blocks : FilledTreesHoldBlocks
filled_trees_hold_blocks store stored disks away root lie count many stay fresh stores tree block bytes i extent known copy =
    let stands = stores.held.stand block bytes i extent known copy in
    let taken = stores.placed.places block bytes i copy.place known copy.is_copy in
    record {
      layout = stands.layout;
      columns = stands.columns;
      is_layout = stands.is_layout;
      are_bytes = stands.are_bytes;
      stand = λ k column column_bytes at at' present j within.
          let disk : ℕ = disk_of extent.vdev column in
          let place : ℕ = offset_of column + j in
          let of : IsOfExtent extent disk place = record {
            k = k;
            column = column;
            is_column = stands.is_layout.places k column at;
            which = refl;
            from_first = omega arith;
            before_end = omega (arith, within, size_at (all_columns stands.columns) stands.layout k column column_bytes stands.are_bytes.sizes at at');
          } in
          let filled : is_filled store.spaces disk place ≡ true = stored_blocks_are_in_use store.spaces block.property.sectors copy.place extent disk place taken copy.extent_is of in
          let for_blocks : IsForBlocks store.spaces disk place = filled_bytes_are_for_blocks store.spaces disk place filled in
          let there : disk < length away = omega (arith, its_disk store.disks.starts store.spaces disk place lie.laid for_blocks, count, many) in
          let used : InUse away disk = used_but away disk there present in
          let held : content store.disks disk place ≡ slice_get column_bytes j =
          stands.stand k column column_bytes at at'
          (λ gone.
          true≢false (sym (in_is_out store disk (lost_are_out store block.birth disk fresh gone)) ∙ not_out store.out disk (stay disk used))) j within in
          let value = slice_get_some column_bytes j within in
          tree disk place value.0 used
          (if_so (is_filled store.spaces disk place) (content store.disks disk place) None filled ∙ held ∙ value.1)
          ∙ sym value.1;
    }

-- ---- plans

covered : (at n i : ℕ) → covers at n i ≡ true → (at ≤ i) × (i < at + n)
covered at n i is = (grind (arith, nat_tests, is), grind (arith, nat_tests, is))

pub due_writes_are_unfilled : DueWritesAreUnfilled
due_writes_are_unfilled store stored planned lie plans which at bytes due i is =
    let of = plans.due due.write due.is_due in
    let way = plans.on_the_way of.block of.bytes of.i of.extent of.is_planned of.is_new of.is_copy in
    let at_k = found_at (plans.writes_of of.block of.i) due.write of.is_of_copy in
    let column = way.columns at_k.0 due.write at_k.1 in
    let inside : (at ≤ i) × (i < at + length bytes) = covered at (length bytes) i is in
    let byte : IsOfExtent of.extent which i =
    written_of of.extent at_k.0 due.write which i column
    (record { which = due.disk; from_first = omega (arith, inside.0, due.place); before_end = omega (arith, inside.1, due.place, ap length due.same) }) in
    let lies = plans.fresh of.block of.bytes of.is_planned of.is_new of.i of.is_copy.place of.is_copy.is_copy in (
      lie_in_sectors store.spaces of.block.property.sectors of.is_copy.place of.extent which i
          (record { space = lies.space; found = lies.found; is_place = lies.is_place }) of.is_copy.extent_is byte,
      free_places_are_unfilled store.disks.starts store.spaces of.block.property.sectors of.is_copy.place of.extent which i lie.laid lies of.is_copy.extent_is byte,
    )
