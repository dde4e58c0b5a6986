-- Maps that are taken in.
use Rattle.std.proofs.Common.{ℕ, ◌≡◌, Bool, true, false, Some, List}
use Rattle.std.specs.Prelude.{slice_set}
use Rattle.std.specs.Bool.{OnTrue}
use Rattle.std.specs.List.{slice_get}
use Rattle.space_map.specs.FreeRuns.{FreeRuns}
use Rattle.metaslab.specs.Spaces.{Spaces}
use Rattle.metaslab.specs.Maps.{AreLoaded, LoadsAt}
use Rattle.metaslab.specs.declared.planned.PlannedMetaslab.{PlannedMetaslab}
use Rattle.metaslab.proofs.Elements.{map_set, map_found}
use Rattle.metaslab.proofs.Groups.{group_of}

pub one_loaded : (metaslabs : List PlannedMetaslab) (pins : List ℕ) (i : ℕ) (x y : PlannedMetaslab) (free : FreeRuns) → slice_get metaslabs i ≡ Some x
    → AreLoaded (record { kept = x.kept; planned = x.planned }) free (record { kept = y.kept; planned = y.planned }) → LoadsAt (group_of metaslabs pins) i free (group_of (slice_set metaslabs i y) pins)
one_loaded metaslabs pins i x y free found loaded = record {
  spaces = record { kept = x.kept; planned = x.planned };
  later = record { kept = y.kept; planned = y.planned };
  found_kept = map_found (λ m. m.kept) metaslabs i x found;
  found_planned = map_found (λ m. m.planned) metaslabs i x found;
  loaded = loaded;
  rest = (let kept = map_set (λ m. m.kept) metaslabs i y in let planned = map_set (λ m. m.planned) metaslabs i y in cc);
}

pub on_true_weaker : {P Q : Type 0} (b : Bool) → (P → Q) → OnTrue b P → OnTrue b Q
on_true_weaker true f h = f h
on_true_weaker false f h = h
