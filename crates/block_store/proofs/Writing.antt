-- A write that is due is made.
use Rattle.std.proofs.Common.{ℕ, zero, suc, ◌≡◌, ◌≢◌, ◌≤◌, ◌+◌, ◌⊎◌, inl, inr, Option, Some, None, List, [], ◌∷◌, Contains, refl, sym, ap, subst, ◌∙◌, arith}
use Rattle.std.proofs.lemmas.Bool.{cases_lt}
use Rattle.std.specs.List.{slice_get}
use Rattle.model_disk.specs.Joint.{content}
use Rattle.block_pointer.specs.declared.block.Block.{Block}
use Rattle.raidz_io.specs.declared.vdev.Extent.{Extent}
use Rattle.raidz_io.specs.Writes.{ColumnWrite}
use Rattle.raidz_io.specs.Elsewhere.{ChangesOnlyWritten, ShareNoByte}
use Rattle.raidz_io.specs.Stands.{ExtentStands, IsDone, IsColumnWrite}
use Rattle.raidz_io.specs.Places.{disk_of, offset_of}
use Rattle.raidz_io.proofs.Written.{same_some}
use Rattle.block_store.specs.Blocks.{Contents}
use Rattle.block_store.specs.Laws.{Laws}
use Rattle.block_store.specs.Places.{IsLaidOut, IsCopy}
use Rattle.block_store.specs.Places.{planned as planned_marks}
use Rattle.block_store.specs.Plans.{Plans, IsOnTheWay, IsDueFor}
use Rattle.block_store.specs.Store.{Store, outs, lost, Holds, Spares, SparesBut}
use Rattle.block_store.proofs.Copies.{copies_apart}
use Rattle.block_store.proofs.Lost.{LoseMore}

-- the first write that was due was made: it is done, or its disk is out
pub record Makes (old new : Store) (write : ColumnWrite) : Type 0 where
  pub starts : new.disks.starts ≡ old.disks.starts
  pub spaces : new.spaces ≡ old.spaces
  pub due : old.due ≡ write ∷ new.due
  pub stray : new.stray ≡ old.stray
  pub others : ChangesOnlyWritten (content old.disks) (content new.disks) write
  pub done : ¬ Contains (outs new) write.disk → IsDone (content new.disks) write
  pub more_out : (disk : ℕ) → Contains (outs old) disk → Contains (outs new) disk
  pub more_lost : LoseMore old new
  pub group : new.spans.group ≤ old.spans.group

pub found_at : {X : Type 0} (xs : List X) (x : X) → Contains xs x → (k : ℕ) × (slice_get xs k ≡ Some x)
found_at [] x (k, within, is) = absurd (omega arith)
found_at (y ∷ ys) x (zero, within, is) = (zero, ap Some is)
found_at (y ∷ ys) x (suc k, within, is) =
    let there = found_at ys x (k, omega arith, is) in (suc there.0, there.1)

pub some_is_not_none : {X : Type 0} (x : X) (found : Option X) → found ≡ Some x → ¬ (found ≡ None)
some_is_not_none x found is none = absurd (let e : Some x ≡ None = sym is ∙ none in cc)

-- the first of those that are due, or one of the others
pub first_or_later : {X : Type 0} (x y : X) (xs : List X) → Contains (x ∷ xs) y → (x ≡ y) ⊎ Contains xs y
first_or_later x y xs (zero, within, is) = inl is
first_or_later x y xs (suc k, within, is) = inr (k, omega arith, is)

pub later_too : {X : Type 0} (x y : X) (xs : List X) → Contains xs y → Contains (x ∷ xs) y
later_too x y xs (k, within, is) = (suc k, omega arith, is)

-- what was stored stands still
held_still : Laws → (old new : Store) (write : ColumnWrite) (stored planned : Contents) → IsLaidOut old.disks.starts old.spaces → Makes old new write
    → (plans : Plans old stored planned) → IsDueFor old stored planned plans.writes_of write → Holds new stored
held_still laws old new write stored planned laid makes plans due = record {
  blocks = plans.held.blocks;
  places = rw makes.spaces plans.held.places;
  stand = λ block bytes i extent known copy.
      let copy_was : IsCopy old.spaces block i extent = rw (sym makes.spaces) copy in
      let way = plans.on_the_way due.block due.bytes due.i due.extent due.is_planned due.is_new due.is_copy in
      let at = found_at (plans.writes_of due.block due.i) write due.is_of_copy in
      let is : IsColumnWrite due.extent at.0 write = way.columns at.0 write at.1 in
      let stood : ExtentStands (content old.disks) (lost old block.birth) extent bytes = plans.held.stand block bytes i extent known copy_was in
      elim (copies_apart laws.apart_extents laws.other_vdevs old.disks.starts old.spaces planned_marks planned laid plans.placed
      block due.block bytes due.bytes i due.i extent due.extent (plans.kept block bytes known) due.is_planned copy_was due.is_copy) [
        | inl (same, at_i) ↦ absurd (some_is_not_none bytes (stored due.block) (ap stored (sym same) ∙ known) due.is_new)
        | inr share ↦
            laws.more_absent (content new.disks) (lost old block.birth) (lost new block.birth) extent bytes (makes.more_lost block.birth)
            (laws.others_written (content old.disks) (content new.disks) (lost old block.birth) extent due.extent at.0 write bytes is share makes.others stood)
      ];
}

-- a write of a copy is done, due or to a disk that is out, as it was
still_on_the_way : Laws → (old new : Store) (write : ColumnWrite) (stored planned : Contents) → IsLaidOut old.disks.starts old.spaces → Makes old new write
    → (plans : Plans old stored planned) → IsDueFor old stored planned plans.writes_of write
    → (block : Block) (bytes : List ℕ) (i : ℕ) (extent : Extent) → planned block ≡ Some bytes → stored block ≡ None → IsCopy old.spaces block i extent
    → IsOnTheWay new (plans.writes_of block i) extent bytes
still_on_the_way laws old new write stored planned laid makes plans due block bytes i extent known fresh copy =
    let way : IsOnTheWay old (plans.writes_of block i) extent bytes = plans.on_the_way block bytes i extent known fresh copy in
    let due_way = plans.on_the_way due.block due.bytes due.i due.extent due.is_planned due.is_new due.is_copy in
    let due_at = found_at (plans.writes_of due.block due.i) write due.is_of_copy in
    let due_is : IsColumnWrite due.extent due_at.0 write = due_way.columns due_at.0 write due_at.1 in
    record {
      would_store = way.would_store;
      columns = way.columns;
      each = λ other of present.
          let at = found_at (plans.writes_of block i) other of in
          let is : IsColumnWrite extent at.0 other = way.columns at.0 other at.1 in
          let made : write ≡ other → IsDone (content new.disks) other = λ same.
          let here : ¬ Contains (outs new) write.disk = rw same present in
          subst (λ (w : ColumnWrite). IsDone (content new.disks) w) same (makes.done here) in
          let before = way.each other of (λ was. present (makes.more_out other.disk was)) in
          let of_copy : ((block ≡ due.block) × (i ≡ due.i)) ⊎ ShareNoByte extent due.extent =
          copies_apart laws.apart_extents laws.other_vdevs old.disks.starts old.spaces planned_marks planned laid plans.placed
          block due.block bytes due.bytes i due.i extent due.extent known due.is_planned copy due.is_copy in
          elim before [
            | inl done ↦ elim of_copy [
              | inr share ↦ inl (laws.done_kept (content old.disks) (content new.disks) extent due.extent at.0 due_at.0 other write is due_is (inr share) makes.others done)
              | inl (same_block, same_i) ↦
                  let is_here : slice_get (plans.writes_of block i) due_at.0 ≡ Some write =
                  ap (λ (b : Block). slice_get (plans.writes_of b i) due_at.0) same_block ∙ ap (λ n. slice_get (plans.writes_of due.block n) due_at.0) same_i ∙ due_at.1 in
                  let due_is_here : IsColumnWrite extent due_at.0 write = way.columns due_at.0 write is_here in
                  elim (same_disk other.disk write.disk) [
                    | inl same ↦
                        let k_is : at.0 ≡ due_at.0 = laws.writes_apart extent at.0 due_at.0 other write is due_is_here same in
                        let same_write : write ≡ other = same_some write other (sym is_here ∙ ap (λ n. slice_get (plans.writes_of block i) n) (sym k_is) ∙ at.1) in
                        inl (made same_write)
                    | inr differ ↦ inl (laws.done_kept (content old.disks) (content new.disks) extent due.extent at.0 due_at.0 other write is due_is (inl differ) makes.others done)
                  ]
            ]
            | inr is_due ↦ elim (first_or_later write other new.due (subst (λ (xs : List ColumnWrite). Contains xs other) makes.due is_due)) [ inl same ↦ inl (made same) | inr later ↦ inr later ]
          ];
    }
  where
    same_disk : (a b : ℕ) → (a ≡ b) ⊎ (a ≢ b)
    same_disk a b = elim (cases_lt a b) [
      | inl less ↦ inr (λ same. absurd (omega (arith, less, same)))
      | inr not_less ↦ elim (cases_lt b a) [
        | inl less ↦ inr (λ same. absurd (omega (arith, less, same)))
        | inr neither ↦ inl (omega (arith, not_less, neither))
      ]
    ]

-- each plan goes on
pub write_keeps : Laws → (old new : Store) (write : ColumnWrite) (stored planned : Contents) → IsLaidOut old.disks.starts old.spaces → Makes old new write
    → Plans old stored planned → Plans new stored planned
write_keeps laws old new write stored planned laid makes plans =
    let is_due : Contains old.due write = rw makes.due (zero, omega arith, refl) in
    let due = plans.due write is_due in
    record {
      held = held_still laws old new write stored planned laid makes plans due;
      stored_placed = rw makes.spaces plans.stored_placed;
      kept = plans.kept;
      placed = rw makes.spaces plans.placed;
      born = λ block bytes known fresh. omega (arith, plans.born block bytes known fresh, makes.group);
      in_use = λ block bytes known fresh. rw makes.spaces (plans.in_use block bytes known fresh);
      accounted = λ none. rw makes.spaces (plans.accounted (sym makes.stray ∙ none));
      fresh = λ block bytes known fresh. rw makes.spaces (plans.fresh block bytes known fresh);
      beside = rw makes.spaces plans.beside;
      writes_of = plans.writes_of;
      on_the_way = λ block bytes i extent known fresh copy.
          still_on_the_way laws old new write stored planned laid makes plans due block bytes i extent known fresh (rw (sym makes.spaces) copy);
      due = λ other later.
          let was = plans.due other (rw makes.due (later_too write other new.due later)) in
          record {
            block = was.block;
            bytes = was.bytes;
            i = was.i;
            extent = was.extent;
            is_planned = was.is_planned;
            is_new = was.is_new;
            is_copy = rw makes.spaces was.is_copy;
            is_of_copy = was.is_of_copy;
          };
    }

-- ---- what stood

-- the copy of a block that the plan has is that of the write, or shares no byte with it
of_write : Laws → (old new : Store) (write : ColumnWrite) (stored planned : Contents) → IsLaidOut old.disks.starts old.spaces → Makes old new write
    → (plans : Plans old stored planned) → (due : IsDueFor old stored planned plans.writes_of write)
    → (block : Block) (bytes : List ℕ) (i : ℕ) (extent : Extent) (absent : List ℕ) → planned block ≡ Some bytes → IsCopy old.spaces block i extent
    → ExtentStands (content old.disks) absent extent bytes
    → ((block ≡ due.block) × (k : ℕ) × IsColumnWrite extent k write) ⊎ ExtentStands (content new.disks) absent extent bytes
of_write laws old new write stored planned laid makes plans due block bytes i extent absent known copy stood =
    let way = plans.on_the_way due.block due.bytes due.i due.extent due.is_planned due.is_new due.is_copy in
    let at = found_at (plans.writes_of due.block due.i) write due.is_of_copy in
    let is : IsColumnWrite due.extent at.0 write = way.columns at.0 write at.1 in
    elim (copies_apart laws.apart_extents laws.other_vdevs old.disks.starts old.spaces planned_marks planned laid plans.placed
    block due.block bytes due.bytes i due.i extent due.extent known due.is_planned copy due.is_copy) [
      | inl (same, at_i) ↦
          let fresh : stored block ≡ None = ap stored same ∙ due.is_new in
          let here = plans.on_the_way block bytes i extent known fresh copy in
          let is_here : slice_get (plans.writes_of block i) at.0 ≡ Some write =
          ap (λ (b : Block). slice_get (plans.writes_of b i) at.0) same ∙ ap (λ n. slice_get (plans.writes_of due.block n) at.0) at_i ∙ at.1 in
          inl (same, at.0, here.columns at.0 write is_here)
      | inr share ↦ inr (laws.others_written (content old.disks) (content new.disks) absent extent due.extent at.0 write bytes is share makes.others stood)
    ]

-- a copy that lacks the column on the write's disk stands still
but_one : (old new : Store) (write : ColumnWrite) (absent : List ℕ) (extent : Extent) (bytes : List ℕ) → Makes old new write → Contains absent write.disk
    → ExtentStands (content old.disks) absent extent bytes → ExtentStands (content new.disks) absent extent bytes
but_one old new write absent extent bytes makes lacks stood = record {
  layout = stood.layout;
  columns = stood.columns;
  is_layout = stood.is_layout;
  are_bytes = stood.are_bytes;
  stand = λ i column part at at' present j within.
      makes.others (disk_of extent.vdev column) (offset_of column + j)
      (λ written. present (subst (λ n. Contains absent n) (sym written.which) lacks)) ∙ stood.stand i column part at at' present j within;
}

pub write_spares : Laws → (old new : Store) (write : ColumnWrite) (stored planned : Contents) → IsLaidOut old.disks.starts old.spaces → Makes old new write
    → Plans old stored planned → Spares stored old new × SparesBut write planned old new
write_spares laws old new write stored planned laid makes plans =
    let is_due : Contains old.due write = rw makes.due (zero, omega arith, refl) in
    let due = plans.due write is_due in (
      λ block bytes i extent absent known copy stood.
          elim (of_write laws old new write stored planned laid makes plans due block bytes i extent absent (plans.kept block bytes known) copy stood) [
            | inl (same, k, is) ↦ absurd (some_is_not_none bytes (stored due.block) (ap stored (sym same) ∙ known) due.is_new)
            | inr stands ↦ stands
          ],
      λ block bytes i extent absent known copy but stood.
          elim (of_write laws old new write stored planned laid makes plans due block bytes i extent absent known copy stood) [
            | inl (same, k, is) ↦ but_one old new write absent extent bytes makes (but k is) stood
            | inr stands ↦ stands
          ],
    )
