-- What is stored and planned stays so where no byte of a disk is another.
use Rattle.std.proofs.Common.{ℕ, ◌≡◌, inl, inr, ◌+◌, ◌<◌, ◌≤◌, List, length, Contains, sym, subst, ◌∙◌, arith}
use Rattle.model_disk.specs.Joint.{content}
use Rattle.raidz_io.specs.declared.vdev.Extent.{Extent}
use Rattle.raidz_io.specs.Writes.{ColumnWrite}
use Rattle.raidz_io.specs.Elsewhere.{StandsWhileKept, StandsWithMoreAbsent, IsOfExtent}
use Rattle.raidz_io.specs.Stands.{IsDone, IsColumnWrite}
use Rattle.block_pointer.specs.declared.block.Block.{Block}
use Rattle.block_pointer.specs.Copies.{dvas}
use Rattle.block_store.specs.Spaces.{VdevSpace}
use Rattle.block_store.specs.Elsewhere.{IsForBlocks}
use Rattle.block_store.specs.Places.{IsCopy, ArePlacesIn}
use Rattle.block_store.specs.Places.{planned as planned_marks}
use Rattle.block_store.specs.Plans.{IsOnTheWay, IsDueFor, KeepsPlans}
use Rattle.block_store.specs.Store.{Store, outs, lost, Keeps}
use Rattle.block_store.proofs.Lost.{LoseMore}
use Rattle.block_store.proofs.Planning.{placed_lies, is_among}
use Rattle.block_store.proofs.Sectors.{lie_in_sectors}
use Rattle.block_store.proofs.Writing.{found_at}

-- the disks hold the same bytes where blocks lie, and no disk that was out is in use
pub record IsKept (old new : Store) : Type 0 where
  pub spaces : new.spaces ≡ old.spaces
  pub due : new.due ≡ old.due
  pub stray : new.stray ≡ old.stray
  pub contents : (disk i : ℕ) → IsForBlocks old.spaces disk i → content new.disks disk i ≡ content old.disks disk i
  pub more_out : (disk : ℕ) → Contains (outs old) disk → Contains (outs new) disk
  pub more_lost : LoseMore old new
  pub group : new.spans.group ≤ old.spans.group

-- a byte of a copy that lies in a place of the pool is one for blocks
for_blocks : (spaces : List VdevSpace) (block : Block) (k : ℕ) (extent : Extent) (disk i : ℕ) → ArePlacesIn spaces block.property.sectors (dvas block.copies)
    → IsCopy spaces block k extent → IsOfExtent extent disk i → IsForBlocks spaces disk i
for_blocks spaces block k extent disk i places copy of =
    lie_in_sectors spaces block.property.sectors copy.place extent disk i (places copy.place (is_among (dvas block.copies) k copy.place copy.is_copy)).is_in copy.extent_is of

pub keeps : StandsWhileKept → StandsWithMoreAbsent → (old new : Store) → IsKept old new → Keeps old new
keeps kept more old new is stored holds = record {
  blocks = holds.blocks;
  places = rw is.spaces holds.places;
  stand = λ block bytes i extent known copy.
      let copy_was : IsCopy old.spaces block i extent = rw (sym is.spaces) copy in
      more (content new.disks) (lost old block.birth) (lost new block.birth) extent bytes (is.more_lost block.birth)
      (kept (content old.disks) (content new.disks) (lost old block.birth) extent bytes
      (λ disk j of. is.contents disk j (for_blocks old.spaces block i extent disk j (holds.places block bytes known) copy_was of))
      (holds.stand block bytes i extent known copy_was));
}

-- a byte of a column's write is one of its extent
of_write : (extent : Extent) (k : ℕ) (write : ColumnWrite) (i : ℕ) → IsColumnWrite extent k write → i < length write.bytes
    → IsOfExtent extent write.disk (write.offset + i)
of_write extent k write i is within = record {
  k = k;
  column = is.column;
  is_column = is.is_column;
  which = is.disk;
  from_first = omega (arith, is.offset);
  before_end = omega (arith, is.offset, is.size);
}

done_still : (old new : Store) (extent : Extent) (k : ℕ) (write : ColumnWrite) → IsKept old new
    → ((disk i : ℕ) → IsOfExtent extent disk i → IsForBlocks old.spaces disk i) → IsColumnWrite extent k write
    → IsDone (content old.disks) write → IsDone (content new.disks) write
done_still old new extent k write is for is_column done i within =
    is.contents write.disk (write.offset + i) (for write.disk (write.offset + i) (of_write extent k write i is_column within)) ∙ done i within

way_still : (old new : Store) (writes : List ColumnWrite) (extent : Extent) (bytes : List ℕ) → IsKept old new
    → ((disk i : ℕ) → IsOfExtent extent disk i → IsForBlocks old.spaces disk i) → IsOnTheWay old writes extent bytes
    → IsOnTheWay new writes extent bytes
way_still old new writes extent bytes is for way = record {
  would_store = way.would_store;
  columns = way.columns;
  each = λ write of present.
      let at = found_at writes write of in
      elim (way.each write of (λ out. present (is.more_out write.disk out))) [
        | inl done ↦ inl (done_still old new extent at.0 write is for (way.columns at.0 write at.1) done)
        | inr due ↦ inr (subst (λ (writes : List ColumnWrite). Contains writes write) (sym is.due) due)
      ];
}

pub keeps_plans : StandsWhileKept → StandsWithMoreAbsent → (old new : Store) → IsKept old new → KeepsPlans old new
keeps_plans kept more old new is stored planned plans = record {
  held = keeps kept more old new is stored plans.held;
  stored_placed = rw is.spaces plans.stored_placed;
  kept = plans.kept;
  placed = rw is.spaces plans.placed;
  born = λ block bytes known fresh. omega (arith, plans.born block bytes known fresh, is.group);
  in_use = λ block bytes known fresh. rw is.spaces (plans.in_use block bytes known fresh);
  accounted = λ none. rw is.spaces (plans.accounted (sym is.stray ∙ none));
  fresh = λ block bytes known fresh. rw is.spaces (plans.fresh block bytes known fresh);
  beside = rw is.spaces plans.beside;
  writes_of = plans.writes_of;
  on_the_way = λ block bytes i extent known fresh copy.
      let copy_was : IsCopy old.spaces block i extent = rw (sym is.spaces) copy in
      way_still old new (plans.writes_of block i) extent bytes is
      (λ disk j of. for_blocks old.spaces block i extent disk j (placed_lies old.spaces planned_marks planned plans.placed block bytes known) copy_was of)
      (plans.on_the_way block bytes i extent known fresh copy_was);
  due = λ write later.
      let was : IsDueFor old stored planned plans.writes_of write = plans.due write (subst (λ (writes : List ColumnWrite). Contains writes write) is.due later) in
      record {
        block = was.block;
        bytes = was.bytes;
        i = was.i;
        extent = was.extent;
        is_planned = was.is_planned;
        is_new = was.is_new;
        is_copy = rw is.spaces was.is_copy;
        is_of_copy = was.is_of_copy;
      };
}
