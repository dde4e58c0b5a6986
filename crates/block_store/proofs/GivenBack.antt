-- Copies that are given back.
use Rattle.std.proofs.Common.{Bool, ℕ, zero, suc, ◌≡◌, ◌⊎◌, inl, inr, ◌<◌, Some, Result, Ok, Err, List, [], ◌∷◌, ◌++◌, length, refl, sym, ap, subst, ◌∙◌, arith}
use Rattle.std.specs.Prelude.{slice_set, map, Contains, ◌≢◌, IsTrue, OnOk, OnErr, IfErr, IsErrAnd}
use Rattle.std.specs.List.{slice_get}
use Rattle.std.proofs.lemmas.List.{append_assoc, append-nil}
use Rattle.std.proofs.lemmas.List.Elements.{Contains-append_left, Contains-append_right, Contains-append_cases}
use Rattle.model_disk.specs.Joint.{Disks, content}
use Rattle.block_pointer.specs.declared.block.Block.{Block}
use Rattle.block_pointer.specs.declared.dva.Dva.{Dva}
use Rattle.block_pointer.specs.Copies.{dvas}
use Rattle.block_pointer.specs.declared.copies.Copies.TheVariants.{One}
use Rattle.raidz_io.specs.Stands.{IsDone}
use Rattle.raidz_io.proofs.Written.{same_some}
use Rattle.metaslab.specs.State.{State, Free, InUse, Released}
use Rattle.metaslab.specs.Spaces.{ChangesIn}
use Rattle.block_store.specs.declared.refusal.Refusal.{Refusal}
use Rattle.block_store.specs.declared.refusal.Refusal.TheVariants.{NoMemory, BadPointer}
use Rattle.block_store.specs.Blocks.{Contents, AreStored, AreDistinct}
use Rattle.block_store.specs.Spaces.{VdevSpace}
use Rattle.block_store.specs.Places.{Marks, shapes_of, HaveMarks, run_at, EachSector, IsFree, IsNotFree, IsTaken, ArePlacesApart}
use Rattle.block_store.specs.Places.{filled as filled_marks, planned as planned_marks}
use Rattle.block_store.specs.Plans.{Plans}
use Rattle.block_store.specs.Releases.{CopyAt, copy_of_at, copies_of_at, copies_of, copies_of_all, IsReleased, AreReleased, AreReleasedInPart, IsNotReleasable, AreAllInUse}
use Rattle.block_store.specs.Shapes.{metaslab_of, IsPlace}
use Rattle.block_store.specs.Store.{Store, Spans, outs, outs_from, ArePlaced}
use Rattle.block_store.specs.Uses.{LiesOn, CopiesLieOn, Passes, IsInUse}
use Rattle.block_store.proofs.Accounting.{in_use_before, used_after, has_too}
use Rattle.block_store.proofs.Beside.{lies_still, released_beside}
use Rattle.block_store.proofs.Planning.{IsSameBut, same_but, keeps_by, stored_by, stores_kept, marks_by_map, no_contents}
use Rattle.block_store.proofs.Taking.{map-set_same, copy_too, places_too}
use Rattle.block_store.proofs.Uses.{lies_released}

-- what stands past the end of a list
abbrev pub some_block : Block
some_block = record {
  copies = One (record { vdev = 0; offset = 0; allocated = 0 });
  property = record { level = 0; object_type = 0; sectors = 0 };
  birth = 0;
  fill = 0;
  checksum = [];
}

shapes_after : (spaces after : List VdevSpace) (copy : CopyAt) (group : ℕ) → IsReleased spaces copy group after → shapes_of after ≡ shapes_of spaces
shapes_after spaces after copy group is =
    ap shapes_of is.rest ∙ map-set_same (λ s. s.shape) spaces copy.place.vdev is.space (record is.space { planned = is.later }) is.found refl

pub released_shapes : (spaces : List VdevSpace) (copies : List CopyAt) (group : ℕ) (after : List VdevSpace) → AreReleased spaces copies group after
    → shapes_of after ≡ shapes_of spaces
released_shapes spaces [] group after same = ap shapes_of same
released_shapes spaces (copy ∷ copies) group after (mid, one, rest) = released_shapes mid copies group after rest ∙ shapes_after spaces mid copy group one

pub released_fills : (spaces : List VdevSpace) (copies : List CopyAt) (group : ℕ) (after : List VdevSpace) → AreReleased spaces copies group after
    → map filled_marks after ≡ map filled_marks spaces
released_fills spaces [] group after same = ap (map filled_marks) same
released_fills spaces (copy ∷ copies) group after (mid, one, rest) =
    released_fills mid copies group after rest
    ∙ ap (map filled_marks) one.rest
    ∙ map-set_same filled_marks spaces copy.place.vdev one.space (record one.space { planned = one.later }) one.found refl

-- one copy more
pub released_more : (spaces : List VdevSpace) (copies : List CopyAt) (group : ℕ) (mid : List VdevSpace) (copy : CopyAt) (after : List VdevSpace)
    → AreReleased spaces copies group mid → IsReleased mid copy group after → AreReleased spaces (copies ++ copy ∷ []) group after
released_more spaces [] group mid copy after same one = (after, subst (λ xs. IsReleased xs copy group after) same one, refl)
released_more spaces (first ∷ copies) group mid copy after (next, is, rest) one = (next, is, released_more next copies group mid copy after rest one)

-- more copies
pub released_then : (spaces : List VdevSpace) (copies others : List CopyAt) (group : ℕ) (mid after : List VdevSpace)
    → AreReleased spaces copies group mid → AreReleased mid others group after → AreReleased spaces (copies ++ others) group after
released_then spaces [] others group mid after same rest = subst (λ xs. AreReleased xs others group after) same rest
released_then spaces (first ∷ copies) others group mid after (next, is, before) rest = (next, is, released_then next copies others group mid after before rest)

-- ---- what is planned beside them

pub lies_of : (spaces : List VdevSpace) (marks : Marks) (sectors : ℕ) (place : Dva) → 0 < sectors → IsTaken spaces marks sectors place
    → LiesOn IsNotFree spaces marks sectors place
lies_of spaces marks sectors place some taken =
    record { some = some; space = taken.space; found = taken.found; is_place = taken.is_place; each = taken.not_free }

pub taken_of : (spaces : List VdevSpace) (marks : Marks) (sectors : ℕ) (place : Dva) → LiesOn IsNotFree spaces marks sectors place → IsTaken spaces marks sectors place
taken_of spaces marks sectors place lies = record { space = lies.space; found = lies.found; is_place = lies.is_place; not_free = lies.each }

released_is_not_free : (group : ℕ) → ¬ (Released group ≡ Free)
released_is_not_free group is = absurd (cc)

-- the copy is one of a stored block
pub record IsOfStored (stored : Contents) (blocks : List Block) (copy : CopyAt) : Type 0 where
  pub block : Block
  pub held : Contains blocks block
  pub bytes : List ℕ
  pub known : stored block ≡ Some bytes
  pub i : ℕ
  pub at : slice_get (dvas block.copies) i ≡ Some copy.place

-- copies are given back, and nothing else changes
pub record OnlyReleased (old new : Store) (copies : List CopyAt) (group : ℕ) : Type 0 where
  pub disks : new.disks ≡ old.disks
  pub out : new.out ≡ old.out
  pub spans : new.spans ≡ old.spans
  pub due : new.due ≡ old.due
  pub stray : new.stray ≡ old.stray
  pub released : AreReleased old.spaces copies group new.spaces

pub released_same : (old new : Store) (copies : List CopyAt) (group : ℕ) → OnlyReleased old new copies group → IsSameBut old new filled_marks filled_marks
released_same old new copies group is =
    same_but old new filled_marks filled_marks is.disks is.out is.spans (released_shapes old.spaces copies group new.spaces is.released)
    (marks_by_map filled_marks old.spaces new.spaces (released_fills old.spaces copies group new.spaces is.released))

-- a block that is none of these is apart from their copies
pub spared : (spaces : List VdevSpace) (stored planned : Contents) (blocks : List Block) (copy : CopyAt) (other : Block) (bytes : List ℕ) (k : ℕ) (place : Dva)
    → ArePlaced spaces planned_marks planned → ((block : Block) (known : List ℕ) → stored block ≡ Some known → planned block ≡ Some known)
    → IsOfStored stored blocks copy → planned other ≡ Some bytes → ¬ Contains blocks other → slice_get (dvas other.copies) k ≡ Some place
    → ArePlacesApart copy.place place
spared spaces stored planned blocks copy other bytes k place placed kept of known is_other at =
    elim (placed.apart of.block other of.bytes bytes of.i k copy.place place (kept of.block of.bytes of.known) known of.at at) [
      | inl (same, index) ↦ absurd (is_other (subst (λ b. Contains blocks b) same of.held))
      | inr apart ↦ apart
    ]

-- what is planned stays so where stored blocks are given back
pub released_plans : (old new : Store) (blocks : List Block) (copies : List CopyAt) (group : ℕ) (stored planned : Contents) → OnlyReleased old new copies group
    → ((copy : CopyAt) → Contains copies copy → IsOfStored stored blocks copy) → AreStored stored blocks → Plans old stored planned → Plans new stored planned
released_plans old new blocks copies group stored planned is of stored_are plans =
    let shapes : shapes_of new.spaces ≡ shapes_of old.spaces = released_shapes old.spaces copies group new.spaces is.released in
    record {
      held = keeps_by old new (released_same old new copies group is) stored plans.held;
      stored_placed = (stores_kept old new (released_same old new copies group is) stored (stored_by old stored planned plans)).placed;
      kept = plans.kept;
      placed = record {
        blocks = plans.placed.blocks;
        places = λ block bytes i place known at.
            let some = (plans.placed.blocks block bytes known).fits.property.not_empty in
            taken_of new.spaces planned_marks block.property.sectors place
            (lies_released IsNotFree old.spaces copies group new.spaces is.released block.property.sectors place (λ copy held. inl (released_is_not_free group))
            (lies_of old.spaces planned_marks block.property.sectors place some (plans.placed.places block bytes i place known at)));
        regions = λ block bytes known.
            places_too old.spaces new.spaces block.property.sectors (dvas block.copies) shapes (plans.placed.regions block bytes known);
        apart = plans.placed.apart;
      };
      born = λ block bytes known fresh. omega (arith, plans.born block bytes known fresh, ap (λ (s : Spans). s.group) is.spans);
      in_use = λ block bytes known fresh i place at.
          lies_released IsInUse old.spaces copies group new.spaces is.released block.property.sectors place
          (λ copy held. inr (spared old.spaces stored planned blocks copy block bytes i place plans.placed plans.kept (of copy held) known
          (λ among. let there = stored_are block among in no_contents there.0 (stored block) there.1 fresh) at))
          (plans.in_use block bytes known fresh i place at);
      accounted = λ none at used.
          let fills : HaveMarks old.spaces filled_marks new.spaces filled_marks =
          marks_by_map filled_marks old.spaces new.spaces (released_fills old.spaces copies group new.spaces is.released) in
          elim (plans.accounted (sym is.stray ∙ none) at (in_use_before old.spaces copies group new.spaces is.released at used)) [
            | inl there ↦ inl (used_after IsInUse old.spaces new.spaces filled_marks filled_marks at shapes fills there)
            | inr of ↦ inr (record {
              block = of.block;
              bytes = of.bytes;
              is_planned = of.is_planned;
              is_new = of.is_new;
              has = has_too old.spaces new.spaces of.block at shapes of.has;
            })
          ];
      fresh = λ block bytes known fresh.
          lies_still IsFree old.spaces new.spaces shapes (marks_by_map filled_marks old.spaces new.spaces (released_fills old.spaces copies group new.spaces is.released))
          block (plans.fresh block bytes known fresh);
      beside = released_beside old.spaces copies group new.spaces is.released plans.beside;
      writes_of = plans.writes_of;
      on_the_way = λ block bytes i extent known fresh copy.
          let way = plans.on_the_way block bytes i extent known fresh (copy_too new.spaces old.spaces block i extent (sym shapes) copy) in
          record {
            would_store = way.would_store;
            columns = way.columns;
            each = λ write among present.
                let not_out : ¬ Contains (outs old) write.disk = subst (λ o. ¬ Contains (outs_from 0 o) write.disk) is.out present in
                elim (way.each write among not_out) [
                  | inl done ↦ inl (subst (λ (d : Disks). IsDone (content d) write) (sym is.disks) done)
                  | inr due ↦ inr (subst (λ xs. Contains xs write) (sym is.due) due)
                ];
          };
      due = λ write held.
          let was = plans.due write (subst (λ xs. Contains xs write) is.due held) in
          record {
            block = was.block;
            bytes = was.bytes;
            i = was.i;
            extent = was.extent;
            is_planned = was.is_planned;
            is_new = was.is_new;
            is_copy = copy_too old.spaces new.spaces was.block was.i was.extent shapes was.is_copy;
            is_of_copy = was.is_of_copy;
          };
    }

-- ---- which copies they are

-- a copy of these places is one of them
place_of : (block : Block) (places : List Dva) (copy : CopyAt) → Contains (copies_of_at block places) copy → (i : ℕ) × (slice_get places i ≡ Some copy.place)
place_of block [] copy held = absurd (omega (arith, held.1))
place_of block (place ∷ places) copy held =
    elim (Contains-append_cases ((copy_of_at block place) ∷ []) (copies_of_at block places) copy held) [
      | inl (zero, within, is) ↦ (0, ap (λ (c : CopyAt). Some c.place) is)
      | inl (suc n, within, is) ↦ absurd (omega (arith, within))
      | inr later ↦ let rest = place_of block places copy later in (suc rest.0, rest.1)
    ]

-- the copy behind some of them
next_of : (block : Block) (places : List Dva) (done : List CopyAt) (next : CopyAt) (left : List CopyAt) → copies_of_at block places ≡ done ++ next ∷ left
    → (slice_get places (length done) ≡ Some next.place) × (next.sectors ≡ block.property.sectors)
next_of block [] [] next left are = absurd (cc)
next_of block [] (copy ∷ done) next left are = absurd (cc)
next_of block (place ∷ places) [] next left are =
    let head : copy_of_at block place ≡ next = cc in (ap (λ (c : CopyAt). Some c.place) head, ap (λ (c : CopyAt). c.sectors) (sym head))
next_of block (place ∷ places) (copy ∷ done) next left are =
    let rest : copies_of_at block places ≡ done ++ next ∷ left = cc in next_of block places done next left rest

-- and those before it
done_of : (block : Block) (places : List Dva) (done left : List CopyAt) (copy : CopyAt) → copies_of_at block places ≡ done ++ left → Contains done copy
    → (i : ℕ) × (i < length done) × (slice_get places i ≡ Some copy.place)
done_of block places [] left copy are held = absurd (omega (arith, held.1))
done_of block [] (first ∷ done) left copy are held = absurd (cc)
done_of block (place ∷ places) (first ∷ done) left copy are held =
    let head : copy_of_at block place ≡ first = cc in
    let rest : copies_of_at block places ≡ done ++ left = cc in
    elim (Contains-append_cases (first ∷ []) done copy held) [
      | inl (zero, within, is) ↦ (0, omega arith, ap (λ (c : CopyAt). Some c.place) (head ∙ is))
      | inl (suc n, within, is) ↦ absurd (omega (arith, within))
      | inr later ↦ let at = done_of block places done left copy rest later in (suc at.0, omega (arith, at.1), at.2)
    ]

-- a block that is known and in use is given back
pub is_releasable : (spaces : List VdevSpace) (planned : Contents) (block : Block) (bytes : List ℕ) (group : ℕ) (after : List VdevSpace)
    → ArePlaced spaces planned_marks planned → planned block ≡ Some bytes → CopiesLieOn IsInUse spaces planned_marks block
    → ¬ IsNotReleasable spaces (copies_of block) group after
is_releasable spaces planned block bytes group after placed known in_use wrong =
    let next = next_of block (dvas block.copies) wrong.done wrong.next wrong.left wrong.are in
    let here : LiesOn IsInUse spaces planned_marks wrong.next.sectors wrong.next.place =
    subst (λ n. LiesOn IsInUse spaces planned_marks n wrong.next.place) (sym next.1) (in_use (length wrong.done) wrong.next.place next.0) in
    wrong.not_in_use (lies_released IsInUse spaces wrong.done group after wrong.released wrong.next.sectors wrong.next.place
    (λ copy held.
    let at = done_of block (dvas block.copies) wrong.done (wrong.next ∷ wrong.left) copy wrong.are held in
    elim (placed.apart block block bytes bytes at.0 (length wrong.done) copy.place wrong.next.place known known at.2 next.0) [
      | inl (same, index) ↦ absurd (omega (arith, at.1, index))
      | inr apart ↦ inr apart
    ])
    here)

pub of_block : (stored : Contents) (blocks : List Block) (block : Block) (bytes : List ℕ) → Contains blocks block → stored block ≡ Some bytes
    → (copy : CopyAt) → Contains (copies_of block) copy → IsOfStored stored blocks copy
of_block stored blocks block bytes held known copy among =
    let at = place_of block (dvas block.copies) copy among in
    record { block = block; held = held; bytes = bytes; known = known; i = at.0; at = at.1 }

-- so it is with more blocks
wider : (stored : Contents) (block : Block) (blocks : List Block) (copy : CopyAt) → IsOfStored stored blocks copy → IsOfStored stored (block ∷ blocks) copy
wider stored block blocks copy of =
    record { block = of.block; held = Contains-append_right (block ∷ []) blocks of.block of.held; bytes = of.bytes; known = of.known; i = of.i; at = of.at }

pub of_blocks : (stored : Contents) (blocks : List Block) → AreStored stored blocks → (copy : CopyAt) → Contains (copies_of_all blocks) copy → IsOfStored stored blocks copy
of_blocks stored [] are copy among = absurd (omega (arith, among.1))
of_blocks stored (block ∷ blocks) are copy among = elim (Contains-append_cases (copies_of block) (copies_of_all blocks) copy among) [
  | inl here ↦
      let first : Contains (block ∷ blocks) block = (0, omega arith, refl) in
      let known = are block first in
      of_block stored (block ∷ blocks) block known.0 first known.1 copy here
  | inr later ↦ wider stored block blocks copy (of_blocks stored blocks (λ other held. are other (Contains-append_right (block ∷ []) blocks other held)) copy later)
]

-- ---- one copy

-- whether a place is in use, by the vdev that was found
pub lies_in : (spaces : List VdevSpace) (sectors : ℕ) (place : Dva) (space : VdevSpace) (is_in_use : Bool) → 0 < sectors → slice_get spaces place.vdev ≡ Some space
    → IsPlace space.shape sectors place
    → (IsTrue is_in_use → EachSector IsInUse (planned_marks space) space.shape place) × (EachSector IsInUse (planned_marks space) space.shape place → IsTrue is_in_use)
    → (IsTrue is_in_use → LiesOn IsInUse spaces planned_marks sectors place) × (LiesOn IsInUse spaces planned_marks sectors place → IsTrue is_in_use)
lies_in spaces sectors place space is_in_use some found is_place both = (
  λ yes. record { some = some; space = space; found = found; is_place = is_place; each = both.0 yes },
  λ lies.
      let P : VdevSpace → Type 0 = λ s. EachSector IsInUse (planned_marks s) s.shape place in
      both.1 (subst P (same_some lies.space space (sym lies.found ∙ found)) lies.each),
)

-- the copy that was given back, by what became of its vdev
pub gave_back : (spaces : List VdevSpace) (block : Block) (place : Dva) (group : ℕ) (space new : VdevSpace) → slice_get spaces place.vdev ≡ Some space
    → IsPlace space.shape block.property.sectors place
    → ChangesIn space.planned new.planned (metaslab_of space.shape place) (run_at space.shape place) InUse (Released group) → new ≡ record space { planned = new.planned }
    → IsReleased spaces (copy_of_at block place) group (slice_set spaces place.vdev new)
gave_back spaces block place group space new found is_place released rest = record {
  space = space;
  found = found;
  is_place = is_place;
  later = new.planned;
  released = released;
  rest = ap (λ s. slice_set spaces place.vdev s) rest;
}

-- what lies there was found
pub lies_at : (spaces : List VdevSpace) (sectors : ℕ) (place : Dva) (space : VdevSpace) → slice_get spaces place.vdev ≡ Some space
    → LiesOn IsInUse spaces planned_marks sectors place → IsPlace space.shape sectors place × EachSector IsInUse (planned_marks space) space.shape place
lies_at spaces sectors place space found lies =
    let same : lies.space ≡ space = same_some lies.space space (sym lies.found ∙ found) in
    let P : VdevSpace → Type 0 = λ s. IsPlace s.shape sectors place × EachSector IsInUse (planned_marks s) s.shape place in
    subst P same (lies.is_place, lies.each)

-- ---- one after the other

-- of these copies some are left, and the others were given back
pub record ReleasedUpTo (spaces : List VdevSpace) (copies left : List CopyAt) (group : ℕ) (after : List VdevSpace) : Type 0 where
  pub done : List CopyAt
  pub are : copies ≡ done ++ left
  pub released : AreReleased spaces done group after

pub none_yet : (spaces : List VdevSpace) (copies : List CopyAt) (group : ℕ) → ReleasedUpTo spaces copies copies group spaces
none_yet spaces copies group = record { done = []; are = refl; released = refl }

-- more of them
pub more_are : (spaces mid after : List VdevSpace) (copies next left : List CopyAt) (group : ℕ) → ReleasedUpTo spaces copies (next ++ left) group mid
    → AreReleased mid next group after → ReleasedUpTo spaces copies left group after
more_are spaces mid after copies next left group up_to rest = record {
  done = up_to.done ++ next;
  are = up_to.are ∙ sym (append_assoc up_to.done next left);
  released = released_then spaces up_to.done next group mid after up_to.released rest;
}

pub all_are : (spaces after : List VdevSpace) (copies : List CopyAt) (group : ℕ) → ReleasedUpTo spaces copies [] group after → AreReleased spaces copies group after
all_are spaces after copies group up_to = subst (λ them. AreReleased spaces them group after) (sym (up_to.are ∙ append-nil up_to.done)) up_to.released

pub in_part : (spaces after : List VdevSpace) (copies left : List CopyAt) (group : ℕ) → ReleasedUpTo spaces copies left group after → AreReleasedInPart spaces copies group after
in_part spaces after copies left group up_to = record { done = up_to.done; left = left; are = up_to.are; released = up_to.released }

-- so it is where some of those that come next were given back
pub part_of : (spaces mid after : List VdevSpace) (copies next left : List CopyAt) (group : ℕ) → ReleasedUpTo spaces copies (next ++ left) group mid
    → AreReleasedInPart mid next group after → AreReleasedInPart spaces copies group after
part_of spaces mid after copies next left group up_to part = record {
  done = up_to.done ++ part.done;
  left = part.left ++ left;
  are = up_to.are ∙ ap (λ them. up_to.done ++ (them ++ left)) part.are ∙ ap (λ them. up_to.done ++ them) (append_assoc part.done part.left left)
      ∙ sym (append_assoc up_to.done part.done (part.left ++ left));
  released = released_then spaces up_to.done part.done group mid after up_to.released part.released;
}

-- and where the first that was not can't be
pub stops_at : (spaces mid after : List VdevSpace) (copies next left : List CopyAt) (group : ℕ) → ReleasedUpTo spaces copies (next ++ left) group mid
    → IsNotReleasable mid next group after → IsNotReleasable spaces copies group after
stops_at spaces mid after copies next left group up_to stop = record {
  done = up_to.done ++ stop.done;
  next = stop.next;
  left = stop.left ++ left;
  are = up_to.are ∙ ap (λ them. up_to.done ++ (them ++ left)) stop.are ∙ ap (λ them. up_to.done ++ them) (append_assoc stop.done (stop.next ∷ stop.left) left)
      ∙ sym (append_assoc up_to.done stop.done (stop.next ∷ (stop.left ++ left)));
  released = released_then spaces up_to.done stop.done group mid after up_to.released stop.released;
  not_in_use = stop.not_in_use;
}

-- ---- all of them, or some

pub all_in_part : {E : Type 0} (spaces after : List VdevSpace) (copies : List CopyAt) (group : ℕ) (result : Result (Unit {0}) E)
    → OnOk result (AreReleased spaces copies group after) → OnErr result (AreReleasedInPart spaces copies group after) → AreReleasedInPart spaces copies group after
all_in_part spaces after copies group (Ok unit) ok err = record { done = copies; left = []; are = sym (append-nil copies); released = ok }
all_in_part spaces after copies group (Err e) ok err = err

only_released : (old new : Store) (copies : List CopyAt) (group : ℕ) → new.disks ≡ old.disks → new.out ≡ old.out → new.spans ≡ old.spans → new.due ≡ old.due
    → new.stray ≡ old.stray
    → (part : AreReleasedInPart old.spaces copies group new.spaces) → OnlyReleased old new part.done group
only_released old new copies group disks out spans due stray part = record { disks = disks; out = out; spans = spans; due = due; stray = stray; released = part.released }

pub part_same : (old new : Store) (copies : List CopyAt) (group : ℕ) → new.disks ≡ old.disks → new.out ≡ old.out → new.spans ≡ old.spans → new.due ≡ old.due
    → new.stray ≡ old.stray
    → AreReleasedInPart old.spaces copies group new.spaces → IsSameBut old new filled_marks filled_marks
part_same old new copies group disks out spans due stray part = released_same old new part.done group (only_released old new copies group disks out spans due stray part)

-- a copy that was given back is one of them
was_one : (spaces after : List VdevSpace) (copies : List CopyAt) (group : ℕ) → (part : AreReleasedInPart spaces copies group after) → (copy : CopyAt)
    → Contains part.done copy → Contains copies copy
was_one spaces after copies group part copy held = subst (λ them. Contains them copy) (sym part.are) (Contains-append_left part.done part.left copy held)

pub part_plans : (old new : Store) (blocks : List Block) (group : ℕ) → new.disks ≡ old.disks → new.out ≡ old.out → new.spans ≡ old.spans → new.due ≡ old.due
    → new.stray ≡ old.stray
    → AreReleasedInPart old.spaces (copies_of_all blocks) group new.spaces → (stored planned : Contents) → Plans old stored planned → AreStored stored blocks
    → Plans new stored planned
part_plans old new blocks group disks out spans due stray part stored planned plans are =
    released_plans old new blocks part.done group stored planned (only_released old new (copies_of_all blocks) group disks out spans due stray part)
    (λ copy held. of_blocks stored blocks are copy (was_one old.spaces new.spaces (copies_of_all blocks) group part copy held)) are plans

pub part_stays : (test : State → Bool) (spaces after : List VdevSpace) (copies : List CopyAt) (group : ℕ) (block : Block)
    → AreReleasedInPart spaces copies group after → Passes test (Released group)
    → CopiesLieOn (Passes test) spaces planned_marks block → CopiesLieOn (Passes test) after planned_marks block
part_stays test spaces after copies group block part holds lies i place at =
    lies_released (Passes test) spaces part.done group after part.released block.property.sectors place (λ copy held. inl holds) (lies i place at)

pub part_spares : (test : State → Bool) (old new : Store) (blocks : List Block) (group : ℕ) (stored planned : Contents) (block : Block) (bytes : List ℕ)
    → AreReleasedInPart old.spaces (copies_of_all blocks) group new.spaces → Plans old stored planned → AreStored stored blocks → planned block ≡ Some bytes
    → ¬ Contains blocks block → CopiesLieOn (Passes test) old.spaces planned_marks block → CopiesLieOn (Passes test) new.spaces planned_marks block
part_spares test old new blocks group stored planned block bytes part plans are known other lies i place at =
    lies_released (Passes test) old.spaces part.done group new.spaces part.released block.property.sectors place
    (λ copy held. inr (spared old.spaces stored planned blocks copy block bytes i place plans.placed plans.kept
    (of_blocks stored blocks are copy (was_one old.spaces new.spaces (copies_of_all blocks) group part copy held)) known other at))
    (lies i place at)

-- ---- stored blocks that are in use are given back

-- where a list is cut, in its first part or in its second
cut_in : (first second done : List CopyAt) (next : CopyAt) (left : List CopyAt) → first ++ second ≡ done ++ next ∷ left
    → ((behind : List CopyAt) × (first ≡ done ++ next ∷ behind)) ⊎ ((before : List CopyAt) × (done ≡ first ++ before) × (second ≡ before ++ next ∷ left))
cut_in [] second done next left are = inr (done, refl, are)
cut_in (copy ∷ first) second [] next left are =
    let head : copy ≡ next = cc in inl (first, ap (λ (c : CopyAt). c ∷ first) head)
cut_in (copy ∷ first) second (copy' ∷ done) next left are =
    let head : copy ≡ copy' = cc in
    let rest : first ++ second ≡ done ++ next ∷ left = cc in
    elim (cut_in first second done next left rest) [
      | inl (behind, is) ↦ inl (behind, ap (λ (c : CopyAt). c ∷ first) head ∙ ap (λ (cs : List CopyAt). copy' ∷ cs) is)
      | inr (before, is, behind) ↦ inr (before, ap (λ (cs : List CopyAt). copy' ∷ cs) is ∙ ap (λ (c : CopyAt). c ∷ (first ++ before)) (sym head), behind)
    ]

-- given back one after the other
then_is : (spaces : List VdevSpace) (copies others : List CopyAt) (group : ℕ) (after : List VdevSpace) → AreReleased spaces (copies ++ others) group after
    → (mid : List VdevSpace) × AreReleased spaces copies group mid × AreReleased mid others group after
then_is spaces [] others group after is = (spaces, refl, is)
then_is spaces (copy ∷ copies) others group after (next, one, rest) =
    let behind = then_is next copies others group after rest in (behind.0, (next, one, behind.1), behind.2)

-- what is known of blocks that are planned and in use
pub record AreReleasable (spaces : List VdevSpace) (planned : Contents) (blocks : List Block) : Type 0 where
  pub known : AreStored planned blocks
  pub distinct : AreDistinct blocks
  pub in_use : AreAllInUse spaces blocks

-- another block stays in use
other_in_use : (spaces after : List VdevSpace) (planned : Contents) (block other : Block) (bytes others : List ℕ) (group : ℕ) → ArePlaced spaces planned_marks planned
    → planned block ≡ Some bytes → planned other ≡ Some others → block ≢ other → AreReleased spaces (copies_of block) group after
    → CopiesLieOn IsInUse spaces planned_marks other → CopiesLieOn IsInUse after planned_marks other
other_in_use spaces after planned block other bytes others group placed known known' differ released lies i place at =
    lies_released IsInUse spaces (copies_of block) group after released other.property.sectors place
    (λ copy held.
    let of = place_of block (dvas block.copies) copy held in
    elim (placed.apart block other bytes others of.0 i copy.place place known known' of.1 at) [
      | inl (same, index) ↦ absurd (differ same)
      | inr apart ↦ inr apart
    ])
    (lies i place at)

-- what is planned is placed still
placed_after : (spaces after : List VdevSpace) (planned : Contents) (copies : List CopyAt) (group : ℕ) → AreReleased spaces copies group after
    → ArePlaced spaces planned_marks planned → ArePlaced after planned_marks planned
placed_after spaces after planned copies group released placed = record {
  blocks = placed.blocks;
  places = λ block bytes i place known at.
      let some = (placed.blocks block bytes known).fits.property.not_empty in
      taken_of after planned_marks block.property.sectors place
      (lies_released IsNotFree spaces copies group after released block.property.sectors place (λ copy held. inl (released_is_not_free group))
      (lies_of spaces planned_marks block.property.sectors place some (placed.places block bytes i place known at)));
  regions = λ block bytes known.
      places_too spaces after block.property.sectors (dvas block.copies) (released_shapes spaces copies group after released) (placed.regions block bytes known);
  apart = placed.apart;
}

distinct_first : (block : Block) (blocks : List Block) → AreDistinct (block ∷ blocks) → (other : Block) → Contains blocks other → block ≢ other
distinct_first block blocks distinct other (i, within, is) same = distinct 0 (suc i) other (omega arith) (omega (arith, within)) (same ∙ sym is)

distinct_rest : (block : Block) (blocks : List Block) → AreDistinct (block ∷ blocks) → AreDistinct blocks
distinct_rest block blocks distinct i j d less within = distinct (suc i) (suc j) d (omega (arith, less)) (omega (arith, within))

pub all_releasable : (spaces after : List VdevSpace) (planned : Contents) (blocks : List Block) (group : ℕ) → ArePlaced spaces planned_marks planned
    → AreReleasable spaces planned blocks → ¬ IsNotReleasable spaces (copies_of_all blocks) group after
all_releasable spaces after planned [] group placed are wrong = none wrong.done wrong.are
  where
    none : (done : List CopyAt) → ¬ ([] ≡ done ++ wrong.next ∷ wrong.left)
    none [] is = absurd (cc)
    none (copy ∷ done) is = absurd (cc)
all_releasable spaces after planned (block ∷ blocks) group placed are wrong =
    let first : Contains (block ∷ blocks) block = (0, omega arith, refl) in
    let known = are.known block first in
    elim (cut_in (copies_of block) (copies_of_all blocks) wrong.done wrong.next wrong.left wrong.are) [
      | inl (behind, is) ↦
          is_releasable spaces planned block known.0 group after placed known.1 (are.in_use block first)
          (record { done = wrong.done; next = wrong.next; left = behind; are = is; released = wrong.released; not_in_use = wrong.not_in_use })
      | inr (before, is, behind) ↦
          let split = then_is spaces (copies_of block) before group after (subst (λ them. AreReleased spaces them group after) is wrong.released) in
          all_releasable split.0 after planned blocks group (placed_after spaces split.0 planned (copies_of block) group split.1 placed)
          (record {
            known = λ other held. are.known other (Contains-append_right (block ∷ []) blocks other held);
            distinct = distinct_rest block blocks are.distinct;
            in_use = λ other held.
                let later : Contains (block ∷ blocks) other = Contains-append_right (block ∷ []) blocks other held in
                let known' = are.known other later in
                other_in_use spaces split.0 planned block other known.0 known'.0 group placed known.1 known'.1 (distinct_first block blocks are.distinct other held) split.1
                (are.in_use other later);
          })
          (record { done = before; next = wrong.next; left = wrong.left; are = behind; released = split.2; not_in_use = wrong.not_in_use })
    ]

pub never_refused : {T : Type 0} (old : Store) (after : List VdevSpace) (blocks : List Block) (group : ℕ) (result : Result T Refusal)
    → IfErr result (λ refusal. (refusal ≡ NoMemory) ⊎ ((refusal ≡ BadPointer) × IsNotReleasable old.spaces (copies_of_all blocks) group after))
    → IfErr result (λ refusal. (stored planned : Contents) → Plans old stored planned → AreStored stored blocks → AreDistinct blocks
    → AreAllInUse old.spaces blocks → refusal ≡ NoMemory)
never_refused old after blocks group (Ok it) refused = tt
never_refused old after blocks group (Err refusal) refused = λ stored planned plans are distinct in_use. elim refused [
  | inl memory ↦ memory
  | inr (bad, wrong) ↦ absurd (all_releasable old.spaces after planned blocks group plans.placed
      (record { known = λ block held. let there = are block held in (there.0, plans.kept block there.0 there.1); distinct = distinct; in_use = in_use }) wrong)
]

-- ---- errors that are passed on

pub at_error : {T E : Type 0} (result : Result T E) (P : Type 0) → P → OnErr result P
at_error (Ok x) P holds = tt
at_error (Err e) P holds = holds

pub passed_on : {T E : Type 0} (result : Result T E) (refusal : E) (P : E → Type 0) → IsErrAnd result (λ e. e ≡ refusal) → P refusal → IfErr result P
passed_on (Ok x) refusal P h there = tt
passed_on (Err e) refusal P h there = subst (λ r. P r) (sym h) there
