-- Nothing is released as a map is loaded.
use Rattle.std.proofs.Common.{Bool, true, false, if◌then◌else◌, ◌≡◌, ℕ, Some, List, inl, inr, sym, ap, ◌∙◌}
use Rattle.std.specs.List.{slice_get}
use Rattle.std.proofs.lemmas.Bool.{cases_eq}
use Rattle.block_store.specs.Accounts.{IsUsed, SectorAt}
use Rattle.block_store.specs.Maps.{LoadsIn}
use Rattle.block_store.specs.Places.{filled}
use Rattle.block_store.specs.Spaces.{VdevSpace}
use Rattle.block_store.proofs.Loading.{elsewhere_was, loads_filled}
use Rattle.block_store.proofs.Taking.{slice_get-set_found}
use Rattle.metaslab.specs.Space.{Space, state}
use Rattle.metaslab.specs.State.{Free, InUse, Released}
use Rattle.metaslab.specs.Spaces.{GroupSpaces}
use Rattle.raidz_io.proofs.Written.{same_some}
use Rattle.space_map.specs.FreeRuns.{FreeRuns}
use Rattle.space_map.specs.Sectors.{contains}
use Rattle.pool_maps.specs.Loads.{NothingIsReleased}

never_released : (is_free : Bool) (by : ℕ) → ¬ ((if is_free then Free else InUse) ≡ Released by)
never_released true by is = cc
never_released false by is = cc

pub load_releases : (spaces : List VdevSpace) (v metaslab : ℕ) (free : FreeRuns) (after : List VdevSpace) → LoadsIn spaces v metaslab free after
    → NothingIsReleased filled spaces after
load_releases spaces v metaslab free after is by at used =
    let l = loads_filled spaces v metaslab free after is in
    let loads = is.loads in
    elim (cases_eq at.vdev v) [
      | inr other ↦ elsewhere_was (λ s. s ≡ Released by) filled spaces v metaslab after l at (λ both. other both.0) used
      | inl here ↦ elim (cases_eq at.metaslab metaslab) [
        | inr other ↦ elsewhere_was (λ s. s ≡ Released by) filled spaces v metaslab after l at (λ both. other both.1) used
        | inl this ↦
            let now : slice_get after v ≡ Some is.later = ap (λ xs. slice_get xs v) is.rest ∙ slice_get-set_found spaces v is.space is.later is.found in
            let vdev : used.space ≡ is.later = same_some used.space is.later (sym used.found ∙ ap (λ n. slice_get after n) here ∙ now) in
            let there : slice_get (filled is.later) metaslab ≡ Some loads.later.kept =
            ap (λ (g : GroupSpaces). slice_get g.kept metaslab) loads.rest ∙ slice_get-set_found (filled is.space) metaslab loads.spaces.kept loads.later.kept loads.found_kept in
            let slab : used.metaslab ≡ loads.later.kept = same_some used.metaslab loads.later.kept
            (sym used.there ∙ ap (λ n. slice_get (filled used.space) n) this ∙ ap (λ (x : VdevSpace). slice_get (filled x) metaslab) vdev ∙ there) in
            absurd (never_released (contains free.runs at.sector) by
            (sym (loads.loaded.kept.states at.sector) ∙ ap (λ (x : Space). state x at.sector) (sym slab) ∙ used.used))
      ]
    ]
