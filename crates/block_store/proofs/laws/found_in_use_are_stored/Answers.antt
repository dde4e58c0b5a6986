use Rattle.std.proofs.Common.{◌≡◌, ◌≢◌, ◌⊎◌, inl, inr, ℕ, List, Some, None, Option, Contains, []}
use Rattle.std.specs.List.{slice_get}
use Rattle.block_pointer.specs.declared.block.Block.{Block}
use Rattle.block_pointer.specs.declared.dva.Dva.{Dva}
use Rattle.block_pointer.specs.Copies.{dvas}
use Rattle.metaslab.specs.State.{State, Free, InUse}
use Rattle.block_store.specs.Blocks.{Contents, nothing_stored}
use Rattle.block_store.specs.Opened.{AreFound, IsOnDisks}
use Rattle.block_store.specs.Places.{Marks, IsTaken, IsNotFree, EachSector}
use Rattle.block_store.specs.Spaces.{VdevSpace}
use Rattle.block_store.specs.Store.{Store}
use Rattle.block_store.specs.Uses.{CopiesLieOn, LiesOn, IsInUse}
use Rattle.block_store.proofs.laws.found_in_use_are_stored.Goals as goal

-- a block that is known is one of these, on the disks
found : (store : Store) (blocks : List Block) (stored : Contents) → AreFound store blocks nothing_stored stored
    → (block : Block) (bytes : List ℕ) → stored block ≡ Some bytes → Contains blocks block × IsOnDisks store block bytes
found store blocks stored are block bytes known = elim (are block bytes known) [
  | inl was ↦ absurd (cc)
  | inr is ↦ is
]

not_free : (state : State) → IsInUse state → IsNotFree state
not_free state used free = absurd (cc)

taken : (spaces : List VdevSpace) (marks : Marks) (sectors : ℕ) (place : Dva) → LiesOn IsInUse spaces marks sectors place → IsTaken spaces marks sectors place
taken spaces marks sectors place lies = record {
  space = lies.space;
  found = lies.found;
  is_place = lies.is_place;
  not_free = record { metaslab = lies.each.metaslab; found = lies.each.found; each = λ s names. not_free _ (lies.each.each s names) };
}

not_both : {X : Type 0} (o : Option X) (x : X) → o ≡ Some x → ¬ (o ≡ None)
not_both o x some none = cc

pub returns : goal.returns
returns c store blocks stored plans are places used apart =
    let one = found store blocks stored are in
    record {
      held = record {
        blocks = λ block bytes known. (one block bytes known).1.written;
        places = λ block bytes known. places block (one block bytes known).0;
        stand = λ block bytes i extent known copy. (one block bytes known).1.stand i extent copy;
      };
      stored_placed = record {
        blocks = λ block bytes known. (one block bytes known).1.written;
        places = λ block bytes i place known at. taken store.spaces _ block.property.sectors place ((used block (one block bytes known).0).0 i place at);
        regions = λ block bytes known. places block (one block bytes known).0;
        apart = λ block other bytes others i k place behind known known' at at'.
            apart block other i k place behind (one block bytes known).0 (one other others known').0 at at';
      };
      kept = λ block bytes known. known;
      placed = record {
        blocks = λ block bytes known. (one block bytes known).1.written;
        places = λ block bytes i place known at. taken store.spaces _ block.property.sectors place ((used block (one block bytes known).0).1 i place at);
        regions = λ block bytes known. places block (one block bytes known).0;
        apart = λ block other bytes others i k place behind known known' at at'.
            apart block other i k place behind (one block bytes known).0 (one other others known').0 at at';
      };
      born = λ block bytes known fresh. absurd (not_both (stored block) bytes known fresh);
      in_use = λ block bytes known fresh. absurd (not_both (stored block) bytes known fresh);
      accounted = λ none at used. elim (plans.accounted none at used) [
        | inl there ↦ inl there
        | inr of ↦ absurd (not_both (nothing_stored of.block) of.bytes of.is_planned of.is_new)
      ];
      fresh = λ block bytes known fresh. absurd (not_both (stored block) bytes known fresh);
      beside = plans.beside;
      writes_of = λ block i. [];
      on_the_way = λ block bytes i extent known fresh copy. absurd (not_both (stored block) bytes known fresh);
      due = λ write held.
          let was = plans.due write held in
          absurd (not_both (nothing_stored was.block) was.bytes was.is_planned was.is_new);
    }
