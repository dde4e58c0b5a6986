-- Copies that are taken in one after the other.
use Rattle.std.proofs.Common.{Bool, true, false, ℕ, zero, suc, ◌≡◌, ◌<◌, Some, Result, Ok, Err, List, [], ◌∷◌, ◌++◌, length, refl, sym, ap, subst, ◌∙◌}
use Rattle.std.specs.Prelude.{slice_set, OnOk, OnErr, IfOk, IsTrue, ◌↔◌}
use Rattle.std.specs.Bool.{OnTrue, OnFalse}
use Rattle.std.specs.List.{slice_get}
use Rattle.std.proofs.lemmas.List.{append_assoc, append-nil}
use Rattle.block_pointer.specs.declared.block.Block.{Block}
use Rattle.block_pointer.specs.declared.dva.Dva.{Dva}
use Rattle.block_pointer.specs.Copies.{dvas}
use Rattle.raidz_io.proofs.Written.{same_some}
use Rattle.metaslab.specs.State.{State, Free, InUse}
use Rattle.metaslab.specs.Spaces.{ChangesIn}
use Rattle.block_store.specs.Opened.{HasFreePlace, TakesIn, TakeIn, TakeInPart, CannotTakeIn}
use Rattle.block_store.specs.Places.{Marks, shapes_of, run_at, EachSector, IsFree, IsPlaceIn, IsPlaceFor}
use Rattle.block_store.specs.Places.{filled as filled_marks, planned as planned_marks}
use Rattle.block_store.specs.Releases.{CopyAt, copy_of_at}
use Rattle.block_store.specs.Shapes.{metaslab_of, IsPlace, IsInRegion}
use Rattle.block_store.specs.Spaces.{VdevSpace}
use Rattle.block_store.specs.Store.{Store, Keeps, KeepsStored}
use Rattle.block_store.specs.Uses.{LiesOn, CopiesLieOn, Passes}
use Rattle.block_store.proofs.TakenIn.{picks_filled}
use Rattle.block_store.proofs.TakenBlocks.{taken_shapes, taken_lies, taken_keeps, taken_stores}

-- ---- one copy

-- the vdev of a place, by what was found
pub place_in : (spaces : List VdevSpace) (sectors : ℕ) (place : Dva) (space : VdevSpace) → slice_get spaces place.vdev ≡ Some space → IsPlaceIn spaces sectors place
    → IsPlace space.shape sectors place
place_in spaces sectors place space found is_in =
    subst (λ (s : VdevSpace). IsPlace s.shape sectors place) (same_some is_in.space space (sym is_in.found ∙ found)) is_in.is_place

pub region_in : (spaces : List VdevSpace) (sectors copies : ℕ) (place : Dva) (space : VdevSpace) → slice_get spaces place.vdev ≡ Some space
    → IsPlaceFor spaces sectors copies place → IsInRegion space.shape copies (metaslab_of space.shape place)
region_in spaces sectors copies place space found is =
    subst (λ (s : VdevSpace). IsInRegion s.shape copies (metaslab_of s.shape place)) (same_some is.is_in.space space (sym is.is_in.found ∙ found)) is.region

-- a copy that is taken in, by what became of its vdev
pub takes_in : {E : Type 0} (spaces : List VdevSpace) (block : Block) (place : Dva) (space new : VdevSpace) (result : Result Bool E) → 0 < block.property.sectors
    → slice_get spaces place.vdev ≡ Some space → IsPlace space.shape block.property.sectors place
    → IsInRegion space.shape (length (dvas block.copies)) (metaslab_of space.shape place)
    → IfOk result (λ is_free. OnTrue is_free (ChangesIn space.kept new.kept (metaslab_of space.shape place) (run_at space.shape place) Free InUse))
    → IfOk result (λ is_free. OnTrue is_free (ChangesIn space.planned new.planned (metaslab_of space.shape place) (run_at space.shape place) Free InUse))
    → new ≡ record space { kept = new.kept; planned = new.planned }
    → IfOk result (λ is_free. OnTrue is_free (TakesIn spaces (copy_of_at block place) (slice_set spaces place.vdev new)))
takes_in spaces block place space new (Ok true) some found is_place region kept planned rest = record {
  some = some;
  space = space;
  found = found;
  is_place = is_place;
  region = region;
  later = new;
  filled_too = kept;
  planned_too = planned;
  shape = ap (λ (s : VdevSpace). s.shape) rest;
  pins = ap (λ (s : VdevSpace). s.pins) rest;
  rest = refl;
}
takes_in spaces block place space new (Ok false) some found is_place region kept planned rest = tt
takes_in spaces block place space new (Err e) some found is_place region kept planned rest = tt

each_free : (marks : Marks) (spaces : List VdevSpace) (sectors : ℕ) (place : Dva) (space : VdevSpace) → slice_get spaces place.vdev ≡ Some space
    → LiesOn IsFree spaces marks sectors place → EachSector IsFree (marks space) space.shape place
each_free marks spaces sectors place space found lies =
    subst (λ (s : VdevSpace). EachSector IsFree (marks s) s.shape place) (same_some lies.space space (sym lies.found ∙ found)) lies.each

-- and where it has a free place it is
pub was_free : {E : Type 0} (spaces : List VdevSpace) (block : Block) (place : Dva) (space : VdevSpace) (result : Result Bool E) → slice_get spaces place.vdev ≡ Some space
    → IfOk result (λ is_free. IsTrue is_free ↔ (EachSector IsFree space.kept space.shape place × EachSector IsFree space.planned space.shape place))
    → IfOk result (λ is_free. HasFreePlace spaces (copy_of_at block place) → IsTrue is_free)
was_free spaces block place space (Ok is_free) found both =
    λ free. both.1 (each_free filled_marks spaces block.property.sectors place space found free.filled_free, each_free planned_marks spaces block.property.sectors place space found free.planned_free)
was_free spaces block place space (Err e) found both = tt

-- where nothing changed
set_same : {X : Type 0} (xs : List X) (i : ℕ) (x y : X) → slice_get xs i ≡ Some x → y ≡ x → slice_set xs i y ≡ xs
set_same [] i x y found same = refl
set_same (z ∷ xs) zero x y found same = ap (λ h. h ∷ xs) (same ∙ sym (same_some z x found))
set_same (z ∷ xs) (suc i) x y found same = ap (λ ys. z ∷ ys) (set_same xs i x y found same)

pub left_so : {E : Type 0} (spaces : List VdevSpace) (v : ℕ) (space new : VdevSpace) (result : Result Bool E) → slice_get spaces v ≡ Some space
    → IfOk result (λ is_free. OnFalse is_free (new ≡ space)) → IfOk result (λ is_free. OnFalse is_free (slice_set spaces v new ≡ spaces))
left_so spaces v space new (Ok true) found same = tt
left_so spaces v space new (Ok false) found same = set_same spaces v space new found same
left_so spaces v space new (Err e) found same = tt

pub stays_so : {T E : Type 0} (spaces : List VdevSpace) (v : ℕ) (space new : VdevSpace) (result : Result T E) → slice_get spaces v ≡ Some space
    → OnErr result (new ≡ space) → OnErr result (slice_set spaces v new ≡ spaces)
stays_so spaces v space new (Ok it) found same = tt
stays_so spaces v space new (Err e) found same = set_same spaces v space new found same

-- ---- more of them

taken_then : (spaces : List VdevSpace) (copies others : List CopyAt) (mid after : List VdevSpace)
    → TakeIn spaces copies mid → TakeIn mid others after → TakeIn spaces (copies ++ others) after
taken_then spaces [] others mid after same rest = subst (λ xs. TakeIn xs others after) same rest
taken_then spaces (first ∷ copies) others mid after (next, is, before) rest = (next, is, taken_then next copies others mid after before rest)

-- of these copies some are left, and the others were taken in
pub record TakenUpTo (spaces : List VdevSpace) (copies left : List CopyAt) (after : List VdevSpace) : Type 0 where
  pub done : List CopyAt
  pub are : copies ≡ done ++ left
  pub taken : TakeIn spaces done after

pub none_yet : (spaces : List VdevSpace) (copies : List CopyAt) → TakenUpTo spaces copies copies spaces
none_yet spaces copies = record { done = []; are = refl; taken = refl }

pub more_are : (spaces mid after : List VdevSpace) (copies next left : List CopyAt) → TakenUpTo spaces copies (next ++ left) mid
    → TakeIn mid next after → TakenUpTo spaces copies left after
more_are spaces mid after copies next left up_to rest = record {
  done = up_to.done ++ next;
  are = up_to.are ∙ sym (append_assoc up_to.done next left);
  taken = taken_then spaces up_to.done next mid after up_to.taken rest;
}

pub all_are : (spaces after : List VdevSpace) (copies : List CopyAt) → TakenUpTo spaces copies [] after → TakeIn spaces copies after
all_are spaces after copies up_to = subst (λ them. TakeIn spaces them after) (sym (up_to.are ∙ append-nil up_to.done)) up_to.taken

pub in_part : (spaces after : List VdevSpace) (copies left : List CopyAt) → TakenUpTo spaces copies left after → TakeInPart spaces copies after
in_part spaces after copies left up_to = record { done = up_to.done; left = left; are = up_to.are; taken = up_to.taken }

-- so it is where some of those that come next were taken in
pub part_of : (spaces mid after : List VdevSpace) (copies next left : List CopyAt) → TakenUpTo spaces copies (next ++ left) mid
    → TakeInPart mid next after → TakeInPart spaces copies after
part_of spaces mid after copies next left up_to part = record {
  done = up_to.done ++ part.done;
  left = part.left ++ left;
  are = up_to.are ∙ ap (λ them. up_to.done ++ (them ++ left)) part.are ∙ ap (λ them. up_to.done ++ them) (append_assoc part.done part.left left)
      ∙ sym (append_assoc up_to.done part.done (part.left ++ left));
  taken = taken_then spaces up_to.done part.done mid after up_to.taken part.taken;
}

-- and where the first that was not can't be
pub stops_at : (spaces mid after : List VdevSpace) (copies next left : List CopyAt) → TakenUpTo spaces copies (next ++ left) mid
    → CannotTakeIn mid next after → CannotTakeIn spaces copies after
stops_at spaces mid after copies next left up_to stop = record {
  done = up_to.done ++ stop.done;
  next = stop.next;
  left = stop.left ++ left;
  are = up_to.are ∙ ap (λ them. up_to.done ++ (them ++ left)) stop.are ∙ ap (λ them. up_to.done ++ them) (append_assoc stop.done (stop.next ∷ stop.left) left)
      ∙ sym (append_assoc up_to.done stop.done (stop.next ∷ (stop.left ++ left)));
  taken = taken_then spaces up_to.done stop.done mid after up_to.taken stop.taken;
  not_free = stop.not_free;
}

-- ---- all of them, or some

pub all_in_part : {T E : Type 0} (spaces after : List VdevSpace) (copies : List CopyAt) (result : Result T E)
    → OnOk result (TakeIn spaces copies after) → OnErr result (TakeInPart spaces copies after) → TakeInPart spaces copies after
all_in_part spaces after copies (Ok it) ok err = record { done = copies; left = []; are = sym (append-nil copies); taken = ok }
all_in_part spaces after copies (Err e) ok err = err

pub part_shapes : (spaces after : List VdevSpace) (copies : List CopyAt) → TakeInPart spaces copies after → shapes_of after ≡ shapes_of spaces
part_shapes spaces after copies part = taken_shapes spaces part.done after part.taken

pub part_keeps : (old new : Store) (copies : List CopyAt) → new.disks ≡ old.disks → new.out ≡ old.out → new.spans ≡ old.spans
    → TakeInPart old.spaces copies new.spaces → Keeps old new
part_keeps old new copies disks out spans part = taken_keeps old new part.done disks out spans part.taken

pub part_stores : (old new : Store) (copies : List CopyAt) → new.disks ≡ old.disks → new.out ≡ old.out → new.spans ≡ old.spans
    → TakeInPart old.spaces copies new.spaces → KeepsStored old new
part_stores old new copies disks out spans part = taken_stores old new part.done disks out spans part.taken

pub part_stays : (test : State → Bool) (spaces after : List VdevSpace) (copies : List CopyAt) (block : Block) → TakeInPart spaces copies after → Passes test InUse
    → CopiesLieOn (Passes test) spaces filled_marks block → CopiesLieOn (Passes test) after filled_marks block
part_stays test spaces after copies block part holds = taken_lies (Passes test) filled_marks picks_filled spaces part.done after part.taken holds block
