-- Blocks of three copies that lie apart can be taken in where no sector of the meta regions is in use.
use Rattle.std.proofs.Common.{ℕ, zero, suc, ◌≡◌, ◌≢◌, ◌<◌, ◌≤◌, ◌++◌, List, [], ◌∷◌, length, Some, All, AllPairs, Contains, refl, sym, ap, subst, ◌∙◌, arith, slice_get, slice_index_or}
use Rattle.std.proofs.lemmas.List.Elements.{All-contains}
use Rattle.std.proofs.lemmas.Option.{same_Some}
use Rattle.block_pointer.specs.Copies.{dvas}
use Rattle.block_pointer.specs.declared.dva.Dva.{Dva}
use Rattle.block_pointer.specs.declared.block.Block.{Block}
use Rattle.block_store.specs.Opened.{CannotTakeIn, TakeIn}
use Rattle.block_store.specs.Places.{AreEmpty, ArePlacesApart, EachSector, IsEmpty, IsFree, IsPlaceIn, Marks, filled, planned, run_at, shapes_of}
use Rattle.block_store.specs.Releases.{CopyAt, copies_of_all}
use Rattle.block_store.specs.Shapes.{IsPlace, first_meta, metaslab_of, metaslab_sectors, metaslabs}
use Rattle.block_store.specs.Spaces.{VdevSpace}
use Rattle.block_store.specs.Uses.{LiesOn}
use Rattle.block_store.specs.declared.shape.VdevShape.{VdevShape}
use Rattle.block_store.proofs.TakenBlocks.{taken_shapes}
use Rattle.block_store.proofs.Taking.{found_too, place_for_too}
use Rattle.block_store.proofs.TakenIn.{Picks, all_spare, into_view, lies_by, out_of_view, picks_filled, picks_planned, viewed, viewed_all, viewed_shapes}
use Rattle.meta_objset.specs.declared.space_maps.MetaslabPlace.{MetaslabPlace}
use Rattle.metaslab.specs.Space.{Space}
use Rattle.metaslab.specs.Spaces.{AreWhollyFree, IsWhollyFree}
use Rattle.raidz_io.proofs.Written.{All-at, slice_get_some}
use Rattle.pool_create.specs.Loads.{AreLoadedAs, AreSetsOf, IsSameAt}
use Rattle.pool_create.specs.Maps.{HasMapPlace}
use Rattle.pool_create.specs.FreeMetaslab.{FreeMetaslab}
use Rattle.space_map.proofs.RunLemmas.{named}
use Rattle.pool_create.proofs.OpenOnce.{all_from}
use Rattle.pool_stops.specs.Whole.{AreCopiesApart, LieApart}
use Rattle.pool_stops.proofs.Counting.{copy_lies, copy_of}

-- of these marks no sector is in use
record AreUnused (marks : Marks) (space : VdevSpace) : Type 0 where
  pub count : length (marks space) ≡ metaslabs space.shape
  pub free : AreWhollyFree (marks space) (metaslab_sectors space.shape)

unused_filled : (space : VdevSpace) → IsEmpty space → AreUnused filled space
unused_filled space empty = record { count = empty.count; free = empty.none_filled }

unused_planned : (space : VdevSpace) → IsEmpty space → AreUnused planned space
unused_planned space empty = record {
  count = ap length empty.none_planned ∙ empty.count;
  free = subst (λ (them : List Space). AreWhollyFree them (metaslab_sectors space.shape)) (sym empty.none_planned) empty.none_filled;
}

-- so the sectors of a place are free
free_at : (marks : Marks) (space : VdevSpace) (sectors : ℕ) (place : Dva) → IsPlace space.shape sectors place → AreUnused marks space
    → EachSector IsFree (marks space) space.shape place
free_at marks space sectors place is_place unused =
    let shape : VdevShape = space.shape in
    let at : ℕ = metaslab_of shape place in
    let there = slice_get_some (marks space) at (omega (arith, is_place.metaslab, unused.count)) in
    let free : IsWhollyFree there.0 (metaslab_sectors shape) =
    All-at (λ (it : Space). IsWhollyFree it (metaslab_sectors shape)) (marks space) at there.0 unused.free there.1 in
    record {
      metaslab = there.0;
      found = there.1;
      each = λ s names_it. let inside = named (run_at shape place) s names_it in free.free s (omega (arith, inside.1, is_place.one));
    }

-- and are free on vdevs whose metaslab is the same
free_still : (marks : Marks) (spaces mid : List VdevSpace) (sectors : ℕ) (place : Dva) → shapes_of mid ≡ shapes_of spaces → 0 < sectors → (is : IsPlaceIn spaces sectors place)
    → EachSector IsFree (marks is.space) is.space.shape place → IsSameAt marks spaces (record { vdev = place.vdev; index = metaslab_of is.space.shape place }) mid
    → LiesOn IsFree mid marks sectors place
free_still marks spaces mid sectors place same some is free stays =
    let new = found_too spaces mid place.vdev is.space same is.found in
    let shape : VdevShape = is.space.shape in
    let there : slice_get (marks new.0) (metaslab_of shape place) ≡ Some free.metaslab = stays is.space new.0 is.found new.1 ∙ free.found in
    let each : EachSector IsFree (marks new.0) shape place = record { metaslab = free.metaslab; found = there; each = free.each } in
    record {
      some = some;
      space = new.0;
      found = new.1;
      is_place = subst (λ (it : VdevShape). IsPlace it sectors place) (sym new.2) is.is_place;
      each = subst (λ (it : VdevShape). EachSector IsFree (marks new.0) it place) (sym new.2) each;
    }

-- and stay so as copies are taken in that are apart from it
free_after : (marks : Marks) → Picks marks → (spaces : List VdevSpace) (copies : List CopyAt) (after : List VdevSpace) → TakeIn spaces copies after
    → (sectors : ℕ) (place : Dva) → ((copy : CopyAt) → Contains copies copy → ArePlacesApart copy.place place)
    → LiesOn IsFree spaces marks sectors place → LiesOn IsFree after marks sectors place
free_after marks picks spaces copies after taken sectors place apart lies =
    lies_by IsFree (viewed marks after) after planned marks (sym (viewed_shapes marks after)) (out_of_view marks after) sectors place
    (all_spare IsFree (viewed marks spaces) copies (viewed marks after) (viewed_all marks picks spaces copies after taken) sectors place apart
    (lies_by IsFree spaces (viewed marks spaces) marks planned (viewed_shapes marks spaces) (into_view marks spaces) sectors place lies))

-- ---- the next one is apart from those that are done

length-front : {X : Type 0} (done : List X) (next : X) (left : List X) → length done < length (done ++ next ∷ left)
length-front [] next left = omega arith
length-front (x ∷ done) next left = omega (arith, length-front done next left)

index-front : {X : Type 0} (done : List X) (next : X) (left : List X) (d : X) → slice_index_or (done ++ next ∷ left) (length done) d ≡ next
index-front [] next left d = refl
index-front (x ∷ done) next left d = index-front done next left d

index-done : {X : Type 0} (done : List X) (next : X) (left : List X) (k : ℕ) (d : X) → k < length done
    → slice_index_or (done ++ next ∷ left) k d ≡ slice_index_or done k d
index-done [] next left k d within = absurd (omega (arith, within))
index-done (x ∷ done) next left zero d within = refl
index-done (x ∷ done) next left (suc k) d within = index-done done next left k d (omega (arith, within))

contains-next : {X : Type 0} (done : List X) (next : X) (left : List X) → Contains (done ++ next ∷ left) next
contains-next [] next left = (0, omega arith, refl)
contains-next (x ∷ done) next left = let rest = contains-next done next left in (suc rest.0, omega (arith, rest.1), rest.2)

apart_from : (done : List CopyAt) (next : CopyAt) (left : List CopyAt) → AllPairs AreCopiesApart (done ++ next ∷ left) → (copy : CopyAt) → Contains done copy
    → ArePlacesApart copy.place next.place
apart_from done next left pairs copy (k, within, is) =
    let apart = pairs k (length done) copy within (length-front done next left) in
    subst (λ (b : CopyAt). AreCopiesApart copy b) (index-front done next left copy)
    (subst (λ (a : CopyAt). AreCopiesApart a (slice_index_or (done ++ next ∷ left) (length done) copy)) (index-done done next left k copy within ∙ is) apart)

-- ---- behind the metaslabs that were loaded

-- a metaslab of the meta region is none that a map is of
not_loaded : (spaces : List VdevSpace) (maps : List FreeMetaslab) (place : MetaslabPlace) (space : VdevSpace) → AreSetsOf spaces maps → slice_get spaces place.vdev ≡ Some space
    → first_meta space.shape ≤ place.index → All (λ read. read.metaslab ≢ place) maps
not_loaded spaces maps place space sets found behind =
    all_from (λ (read : FreeMetaslab). read.metaslab ≢ place) maps (λ read held same.
    let of : HasMapPlace spaces place = subst (HasMapPlace spaces) same (All-contains (λ (it : FreeMetaslab). HasMapPlace spaces it.metaslab) maps read sets.places held) in
    let one : of.space ≡ space = same_Some of.space space (sym of.found ∙ found) in
    let before : place.index < first_meta space.shape = subst (λ (it : VdevSpace). place.index < first_meta it.shape) one of.before in
    omega (arith, before, behind))

pub can_take_in : (spaces mid after : List VdevSpace) (shapes : List VdevShape) (maps : List FreeMetaslab) (blocks : List Block) → shapes_of spaces ≡ shapes → AreEmpty spaces
    → AreSetsOf spaces maps → AreLoadedAs spaces maps mid → LieApart shapes blocks → All (λ block. length (dvas block.copies) ≡ 3) blocks
    → ¬ CannotTakeIn mid (copies_of_all blocks) after
can_take_in spaces mid after shapes maps blocks same empty sets loaded apart three cannot =
    let next : CopyAt = cannot.next in
    let pairs : AllPairs AreCopiesApart (cannot.done ++ next ∷ cannot.left) = subst (λ (them : List CopyAt). AllPairs AreCopiesApart them) cannot.are apart.apart in
    let held : Contains (copies_of_all blocks) next =
    subst (λ (them : List CopyAt). Contains them next) (sym cannot.are) (contains-next cannot.done next cannot.left) in
    let lies = copy_lies spaces shapes blocks same apart next held in
    let at = lies.1.is_in in
    let of = copy_of blocks next held in
    let copies : next.copies ≡ 3 = of.4 ∙ All-contains (λ (block : Block). length (dvas block.copies) ≡ 3) blocks of.0 three of.1 in
    let place : MetaslabPlace = record { vdev = next.place.vdev; index = metaslab_of at.space.shape next.place } in
    let others = not_loaded spaces maps place at.space sets at.found (lies.1.region.meta copies) in
    let is : IsEmpty at.space = All-at IsEmpty spaces next.place.vdev at.space empty at.found in
    let besides = apart_from cannot.done next cannot.left pairs in
    cannot.not_free (record {
      place_for = place_for_too spaces after next.sectors next.copies next.place (taken_shapes mid cannot.done after cannot.taken ∙ loaded.shapes) lies.1;
      filled_free = free_after filled picks_filled mid cannot.done after cannot.taken next.sectors next.place besides
          (free_still filled spaces mid next.sectors next.place loaded.shapes lies.0 at (free_at filled at.space next.sectors next.place at.is_place (unused_filled at.space is))
          (loaded.filled_too place others));
      planned_free = free_after planned picks_planned mid cannot.done after cannot.taken next.sectors next.place besides
          (free_still planned spaces mid next.sectors next.place loaded.shapes lies.0 at (free_at planned at.space next.sectors next.place at.is_place (unused_planned at.space is))
          (loaded.planned_too place others));
    })
