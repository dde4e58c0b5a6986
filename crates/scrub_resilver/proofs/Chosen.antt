-- Bytes that were chosen among what was read.
use Rattle.std.proofs.Common.{ℕ, ◌≡◌, ◌≤◌, ◌+◌, ◌*◌, ◌∙◌, List, length, refl, sym, arith}
use Rattle.block_pointer.specs.Copies.{dvas}
use Rattle.block_pointer.specs.declared.block.Block.{Block}
use Rattle.block_pointer.specs.declared.dva.Dva.{Dva}
use Rattle.block_store.specs.declared.shape.VdevShape.{VdevShape}
use Rattle.model_disk.specs.Joint.{Disks, content}
use Rattle.raidz_io.specs.Choices.{IsChoice}
use Rattle.raidz_io.specs.Places.{disk_of, offset_of}
use Rattle.raidz_io.specs.Reads.{AreUntouched, IsHonestSince, OnlyReads}
use Rattle.raidz_io.specs.Stands.{ExtentStands, parity_of}
use Rattle.raidz_io.specs.declared.vdev.Extent.{Extent}
use Rattle.scrub_resilver.specs.Copies.{IsChosenAt, IsChosenOf, IsCopyOn}
use Rattle.scrub_resilver.specs.Laws.{HonestChoicesAreOwn, IsKnownBut}
use Rattle.scrub_resilver.proofs.Faults.{gave_none, held_there}
use Rattle.scrub_resilver.proofs.Logs.{gave_later, gave_since}
use Rattle.scrub_resilver.proofs.Placing.{size_at}
use Rattle.scrub_resilver.proofs.Stood.{given_is}

-- ---- in a longer run

choice_around : (old first last new : Disks) (extent : Extent) (bytes : List ℕ) → OnlyReads old first → OnlyReads last new → IsChoice first last extent bytes
    → IsChoice old new extent bytes
choice_around old first last new extent bytes before after is = record {
  layout = is.layout;
  columns = is.columns;
  is_layout = is.is_layout;
  are_bytes = is.are_bytes;
  wrong = is.wrong;
  few = is.few;
  given = λ k column part at at' there.
      gave_later old last new (disk_of extent.vdev column) (offset_of column) part after
      (gave_since old first last (disk_of extent.vdev column) (offset_of column) part before (is.given k column part at at' there));
}

pub chosen_around : (shapes : List VdevShape) (old first last new : Disks) (block : Block) (bytes : List ℕ) (place : Dva) → OnlyReads old first → OnlyReads last new
    → IsChosenAt shapes first last block bytes place → IsChosenAt shapes old new block bytes place
chosen_around shapes old first last new block bytes place before after (extent, at, choice) = (extent, at, choice_around old first last new extent bytes before after choice)

pub chosen_of_around : (shapes : List VdevShape) (old first last new : Disks) (block : Block) (bytes : List ℕ) (places : List Dva) → OnlyReads old first
    → OnlyReads last new → IsChosenOf shapes first last block bytes places → IsChosenOf shapes old new block bytes places
chosen_of_around shapes old first last new block bytes places before after (place, held, is) =
    (place, held, chosen_around shapes old first last new block bytes place before after is)

-- ---- on the disks

-- a copy of the block stands, of these bytes, but for columns on as many disks as it has parities
pub record StandsChosen (shapes : List VdevShape) (disks : Disks) (block : Block) (bytes : List ℕ) : Type 0 where
  pub i : ℕ
  pub extent : Extent
  pub is_copy : IsCopyOn shapes block i extent
  pub wrong : List ℕ
  pub few : length wrong ≤ parity_of extent
  pub stands : ExtentStands (content disks) wrong extent bytes

pub chosen_stands : (shapes : List VdevShape) (old new : Disks) (missing : List ℕ) (block : Block) (bytes : List ℕ) → OnlyReads old new
    → AreUntouched missing old new → IsHonestSince old new → ((i : ℕ) (extent : Extent) → IsCopyOn shapes block i extent → IsKnownBut new missing extent)
    → IsChosenOf shapes old new block bytes (dvas block.copies) → StandsChosen shapes new block bytes
chosen_stands shapes old new missing block bytes reads untouched honest known (place, held, (extent, at, choice)) =
    let (i, is) = held_there (dvas block.copies) place held in
    let copy : IsCopyOn shapes block i extent = record { place = place; is_copy = is; extent_is = at } in
    record {
      i = i;
      extent = extent;
      is_copy = copy;
      wrong = choice.wrong;
      few = choice.few;
      stands = record {
        layout = choice.layout;
        columns = choice.columns;
        is_layout = choice.is_layout;
        are_bytes = choice.are_bytes;
        stand = λ k column part at' at'' there j within.
            let gave = choice.given k column part at' at'' there in
            let size : length part ≡ column.sectors * 512 = size_at extent bytes choice.layout choice.columns k column part choice.are_bytes at' at'' in
            let (value, is_value) =
            known i extent copy (disk_of extent.vdev column) (offset_of column + j)
            (λ gone. gave_none old new missing (disk_of extent.vdev column) (offset_of column) part reads untouched gone gave)
            (record {
              k = k;
              column = column;
              is_column = choice.is_layout.places k column at';
              which = refl;
              from_first = omega arith;
              before_end = omega (arith, size, within);
            }) in
            is_value ∙ sym (given_is old new (disk_of extent.vdev column) (offset_of column) part reads honest gave j value within is_value);
      };
    }

-- where their digests tell blocks, what was chosen of one is its own
pub honest_choices : HonestChoicesAreOwn
honest_choices shapes old new missing stored reads untouched honest told block bytes others is_stored chosen digest =
    let it : StandsChosen shapes new block others =
    chosen_stands shapes old new missing block others reads untouched honest (λ i extent copy. told.known block bytes i extent is_stored copy) chosen in
    told.one block bytes others it.wrong it.i it.extent is_stored it.is_copy it.few it.stands digest
