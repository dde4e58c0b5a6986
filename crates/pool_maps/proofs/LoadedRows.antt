-- What a set that is loaded changes.
use Rattle.std.proofs.Common.{◌≡◌, ◌≢◌, List, Some, inl, inr, sym, ap, ◌∙◌}
use Rattle.std.specs.List.{slice_get}
use Rattle.std.proofs.lemmas.Bool.{cases_eq}
use Rattle.block_store.specs.Maps.{LeavesUnused, LoadsIn}
use Rattle.block_store.specs.Places.{Marks, filled, planned, shapes_of}
use Rattle.block_store.specs.Shapes.{metaslab_sectors}
use Rattle.block_store.specs.Spaces.{VdevSpace}
use Rattle.block_store.proofs.Loading.{Loads, at_vdev, other_metaslab, other_vdev}
use Rattle.block_store.proofs.Taking.{found_too, slice_get-set_found}
use Rattle.meta_objset.specs.declared.space_maps.MetaslabPlace.{MetaslabPlace}
use Rattle.metaslab.proofs.Unused.{unused_of_set}
use Rattle.metaslab.specs.Spaces.{GroupSpaces}
use Rattle.raidz_io.proofs.Written.{same_some}
use Rattle.space_map.specs.FreeRuns.{FreeRuns}
use Rattle.pool_maps.specs.declared.reading.FreeMetaslab.{FreeMetaslab}
use Rattle.pool_maps.specs.Loads.{IsFreeAt, IsSameAt, IsUnusedIn}
use Rattle.pool_maps.specs.Maps.{HasMapPlace}
use Rattle.pool_maps.proofs.Underway.{this_place}
use Rattle.pool_maps.proofs.Whole.{sectors_back}

-- another metaslab is as it was
pub same_elsewhere : (marks : Marks) (spaces after : List VdevSpace) (that : MetaslabPlace) → Loads marks spaces that.vdev that.index after → (place : MetaslabPlace) → place ≢ that
    → IsSameAt marks spaces place after
same_elsewhere marks spaces after that by place other space new found found_after = elim (cases_eq place.vdev that.vdev) [
  | inr apart ↦
      let same : new ≡ space = same_some new space (sym found_after ∙ other_vdev marks spaces that.vdev that.index after by place.vdev apart ∙ found) in
      ap (λ (x : VdevSpace). slice_get (marks x) place.index) same
  | inl here ↦
      let differ : ¬ (place.index ≡ that.index) = λ same. other (this_place place that.vdev that.index here same) in
      let is_new : new ≡ by.later = same_some new by.later (sym found_after ∙ ap (λ v. slice_get after v) here ∙ at_vdev marks spaces that.vdev that.index after by) in
      let is_old : space ≡ by.space = same_some space by.space (sym found ∙ ap (λ v. slice_get spaces v) here ∙ by.found) in
      ap (λ (x : VdevSpace). slice_get (marks x) place.index) is_new ∙ other_metaslab marks spaces that.vdev that.index after by place.index differ
      ∙ ap (λ (x : VdevSpace). slice_get (marks x) place.index) (sym is_old)
]

pub same_then : (marks : Marks) (spaces mid after : List VdevSpace) (place : MetaslabPlace) → shapes_of mid ≡ shapes_of spaces → IsSameAt marks spaces place mid
    → IsSameAt marks mid place after → IsSameAt marks spaces place after
same_then marks spaces mid after place shapes first rest space new found found_after =
    let between = found_too spaces mid place.vdev space shapes found in
    rest between.0 new between.1 found_after ∙ first space between.0 found between.1

-- so the same is unused
pub unused_still : (marks : Marks) (spaces after : List VdevSpace) (place : MetaslabPlace) (free : FreeRuns) → shapes_of after ≡ shapes_of spaces → IsSameAt marks spaces place after
    → LeavesUnused spaces marks place.vdev place.index free → LeavesUnused after marks place.vdev place.index free
unused_still marks spaces after place free shapes same is =
    let new = found_too spaces after place.vdev is.space shapes is.found in
    record {
      space = new.0;
      found = new.1;
      there = is.there;
      is_there = same is.space new.0 is.found new.1 ∙ is.is_there;
      sectors = is.sectors ∙ ap metaslab_sectors (sym new.2);
      unused = is.unused;
    }

-- and what is free is so still
pub free_still : (spaces after : List VdevSpace) (place : MetaslabPlace) → HasMapPlace spaces place → shapes_of after ≡ shapes_of spaces → IsSameAt filled spaces place after
    → IsSameAt planned spaces place after → IsFreeAt spaces place → IsFreeAt after place
free_still spaces after place there shapes filled_same planned_same was sectors has =
    let before = was sectors (sectors_back spaces after place sectors shapes there has) in
    let new = found_too spaces after place.vdev before.space shapes before.found in
    record {
      space = new.0;
      found = new.1;
      holds = record {
        spaces = before.holds.spaces;
        found_kept = filled_same before.space new.0 before.found new.1 ∙ before.holds.found_kept;
        found_planned = planned_same before.space new.0 before.found new.1 ∙ before.holds.found_planned;
        holds = before.holds.holds;
      };
    }

-- of the metaslab itself just the set is unused
pub unused_here : (spaces after : List VdevSpace) (read : FreeMetaslab) → LoadsIn spaces read.metaslab.vdev read.metaslab.index read.free after → IsUnusedIn after read
unused_here spaces after read is =
    let v = read.metaslab.vdev in
    let m = read.metaslab.index in
    let later = is.loads.later in
    let found : slice_get after v ≡ Some is.later = ap (λ xs. slice_get xs v) is.rest ∙ slice_get-set_found spaces v is.space is.later is.found in
    let size = is.size ∙ ap metaslab_sectors (sym is.shape) in
    let unused = unused_of_set later.kept read.free is.loads.loaded.unused in
    record {
      kept = record {
        space = is.later;
        found = found;
        there = later.kept;
        is_there = ap (λ (g : GroupSpaces). slice_get g.kept m) is.loads.rest ∙ slice_get-set_found is.space.kept m is.loads.spaces.kept later.kept is.loads.found_kept;
        sectors = size;
        unused = unused;
      };
      with_plan = record {
        space = is.later;
        found = found;
        there = later.kept;
        is_there = ap (λ (g : GroupSpaces). slice_get g.planned m) is.loads.rest
            ∙ slice_get-set_found is.space.planned m is.loads.spaces.planned later.planned is.loads.found_planned ∙ ap Some is.loads.loaded.planned;
        sectors = size;
        unused = unused;
      };
    }
