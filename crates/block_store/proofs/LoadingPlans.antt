-- Plans go on as space maps are taken in.
use Rattle.std.proofs.Common.{ℕ, ◌≡◌, ◌⊎◌, inl, inr, ◌<◌, Some, List, length, sym, ap, subst, ◌∙◌, arith}
use Rattle.std.specs.Prelude.{Bool, true, false, Contains}
use Rattle.std.specs.Bool.{OnTrue, OnFalse}
use Rattle.std.specs.List.{slice_get}
use Rattle.std.proofs.lemmas.Bool.{cases_eq}
use Rattle.std.proofs.lemmas.List.{length-set}
use Rattle.model_disk.specs.Joint.{Disks, content}
use Rattle.raidz_io.proofs.Written.{same_some}
use Rattle.raidz_io.specs.Stands.{IsDone}
use Rattle.space_map.specs.FreeRuns.{FreeRuns}
use Rattle.metaslab.specs.Space.{Space, state, sectors_of}
use Rattle.metaslab.specs.State.{State, Free, InUse}
use Rattle.block_store.specs.Accounts.{SectorAt, IsUsed}
use Rattle.block_store.specs.Beside.{IsFreeBeside, AreFreeBeside}
use Rattle.block_store.specs.Maps.{LoadsIn, IsElsewhere, StayElsewhere}
use Rattle.block_store.specs.Places.{Marks, shapes_of}
use Rattle.block_store.specs.Places.{filled as filled_marks, planned as planned_marks}
use Rattle.block_store.specs.Plans.{KeepsPlans}
use Rattle.block_store.specs.Spaces.{VdevSpace}
use Rattle.block_store.specs.Store.{Store, Spans, Keeps, KeepsStored, outs, outs_from}
use Rattle.block_store.specs.Uses.{IsInUse}
use Rattle.block_store.proofs.Accounting.{has_too}
use Rattle.block_store.proofs.Loading.{Loads, loads_filled, loads_planned, loads_shapes, loads_grow, loads_lie, at_vdev, other_vdev, at_metaslab, other_metaslab, elsewhere_stays, elsewhere_was}
use Rattle.block_store.proofs.Lost.{lose_same}
use Rattle.block_store.proofs.Planning.{holds_by, stores_grown, stored_by}
use Rattle.block_store.proofs.Taking.{copy_too, placed_too}

free_is_not_in_use : ¬ (Free ≡ InUse)
free_is_not_in_use is = absurd (cc)

here_or_not : (v metaslab : ℕ) (at : SectorAt) → ((at.vdev ≡ v) × (at.metaslab ≡ metaslab)) ⊎ IsElsewhere v metaslab at
here_or_not v metaslab at = elim (cases_eq at.vdev v) [
  | inr away ↦ inr (λ both. away both.0)
  | inl here ↦ elim (cases_eq at.metaslab metaslab) [
    | inr other ↦ inr (λ both. other both.1)
    | inl this ↦ inl (here, this)
  ]
]

-- what a sector of the metaslab is used for with the plan it is used for without it
alike_here : (is : State → Type 0) (spaces : List VdevSpace) (v metaslab : ℕ) (free : FreeRuns) (after : List VdevSpace) → LoadsIn spaces v metaslab free after → (at : SectorAt) → at.vdev ≡ v → at.metaslab ≡ metaslab
    → IsUsed is after planned_marks at → IsUsed is after filled_marks at
unfolding loads_filled loads_planned
alike_here is spaces v metaslab free after loads at here this used =
    let l = loads_planned spaces v metaslab free after loads in
    let k = loads_filled spaces v metaslab free after loads in
    let same : used.space ≡ l.later = same_some used.space l.later (sym used.found ∙ ap (λ n. slice_get after n) here ∙ at_vdev planned_marks spaces v metaslab after l) in
    let found : slice_get (planned_marks l.later) metaslab ≡ Some used.metaslab =
    ap (λ n. slice_get (planned_marks l.later) n) (sym this) ∙ ap (λ (x : VdevSpace). slice_get (planned_marks x) at.metaslab) (sym same) ∙ used.there in
    let one : used.metaslab ≡ k.now = same_some used.metaslab l.now (sym found ∙ at_metaslab planned_marks spaces v metaslab after l) ∙ loads.loads.loaded.planned in
    record {
      space = used.space;
      found = used.found;
      metaslab = k.now;
      there = ap (λ n. slice_get (filled_marks used.space) n) this ∙ ap (λ (x : VdevSpace). slice_get (filled_marks x) metaslab) same ∙ at_metaslab filled_marks spaces v metaslab after k;
      within = subst (λ (x : Space). at.sector < sectors_of x) one used.within;
      used = subst (λ (x : Space). is (state x at.sector)) one used.used;
    }

later_beside : (spaces : List VdevSpace) (v metaslab : ℕ) (free : FreeRuns) (after : List VdevSpace) → (loads : LoadsIn spaces v metaslab free after) → IsFreeBeside loads.space → IsFreeBeside loads.later
unfolding loads_filled loads_planned
later_beside spaces v metaslab free after loads beside =
    let l = loads_planned spaces v metaslab free after loads in
    let k = loads_filled spaces v metaslab free after loads in
    record {
      count = ap length l.set ∙ length-set (planned_marks loads.space) metaslab l.now ∙ beside.count ∙ sym (length-set (filled_marks loads.space) metaslab k.now) ∙ ap length (sym k.set);
      free = λ m s one later found found' is_free. elim (cases_eq m metaslab) [
        | inr other ↦ beside.free m s one later (sym (other_metaslab filled_marks spaces v metaslab after k m other) ∙ found) (sym (other_metaslab planned_marks spaces v metaslab after l m other) ∙ found') is_free
        | inl this ↦
            let kept : one ≡ k.now = same_some one k.now (sym found ∙ ap (λ n. slice_get (filled_marks loads.later) n) this ∙ at_metaslab filled_marks spaces v metaslab after k) in
            let planned : later ≡ l.now = same_some later l.now (sym found' ∙ ap (λ n. slice_get (planned_marks loads.later) n) this ∙ at_metaslab planned_marks spaces v metaslab after l) in
            subst (λ (x : Space). state x s ≡ Free) (planned ∙ loads.loads.loaded.planned ∙ sym kept) is_free
      ];
    }

loads_beside : (spaces : List VdevSpace) (v metaslab : ℕ) (free : FreeRuns) (after : List VdevSpace) → LoadsIn spaces v metaslab free after → AreFreeBeside spaces → AreFreeBeside after
unfolding loads_filled
loads_beside spaces v metaslab free after loads beside w space found = elim (cases_eq w v) [
  | inr other ↦ beside w space (sym (other_vdev filled_marks spaces v metaslab after (loads_filled spaces v metaslab free after loads) w other) ∙ found)
  | inl here ↦
      let same : space ≡ loads.later = same_some space loads.later (sym found ∙ ap (λ n. slice_get after n) here ∙ at_vdev filled_marks spaces v metaslab after (loads_filled spaces v metaslab free after loads)) in
      subst IsFreeBeside (sym same) (later_beside spaces v metaslab free after loads (beside v loads.space loads.found))
]

-- ---- the store

-- a map was taken in, and nothing else changed
pub record OnlyLoads (old new : Store) (v metaslab : ℕ) (free : FreeRuns) : Type 0 where
  pub disks : new.disks ≡ old.disks
  pub out : new.out ≡ old.out
  pub spans : new.spans ≡ old.spans
  pub due : new.due ≡ old.due
  pub stray : new.stray ≡ old.stray
  pub loads : LoadsIn old.spaces v metaslab free new.spaces

pub only_loads : (old new : Store) (v metaslab : ℕ) (free : FreeRuns) → new ≡ record old { spaces = new.spaces } → LoadsIn old.spaces v metaslab free new.spaces → OnlyLoads old new v metaslab free
only_loads old new v metaslab free rest loads = record {
  disks = ap (λ (s : Store). s.disks) rest;
  out = ap (λ (s : Store). s.out) rest;
  spans = ap (λ (s : Store). s.spans) rest;
  due = ap (λ (s : Store). s.due) rest;
  stray = ap (λ (s : Store). s.stray) rest;
  loads = loads;
}

loaded_keeps : (old new : Store) (v metaslab : ℕ) (free : FreeRuns) → OnlyLoads old new v metaslab free → Keeps old new
loaded_keeps old new v metaslab free is = holds_by old new is.disks (lose_same old new is.out is.spans) (loads_shapes old.spaces v metaslab free new.spaces is.loads)

loaded_stores : (old new : Store) (v metaslab : ℕ) (free : FreeRuns) → OnlyLoads old new v metaslab free → KeepsStored old new
loaded_stores old new v metaslab free is =
    stores_grown old new (loaded_keeps old new v metaslab free is)
    (loads_grow filled_marks old.spaces v metaslab new.spaces (loads_shapes old.spaces v metaslab free new.spaces is.loads) (loads_filled old.spaces v metaslab free new.spaces is.loads))

loaded_plans : (old new : Store) (v metaslab : ℕ) (free : FreeRuns) → OnlyLoads old new v metaslab free → KeepsPlans old new
loaded_plans old new v metaslab free is stored planned plans =
    let shapes : shapes_of new.spaces ≡ shapes_of old.spaces = loads_shapes old.spaces v metaslab free new.spaces is.loads in
    let l = loads_planned old.spaces v metaslab free new.spaces is.loads in
    let k = loads_filled old.spaces v metaslab free new.spaces is.loads in
    record {
      held = loaded_keeps old new v metaslab free is stored plans.held;
      stored_placed = (loaded_stores old new v metaslab free is stored (stored_by old stored planned plans)).placed;
      kept = plans.kept;
      placed = placed_too old.spaces new.spaces planned_marks planned_marks planned (loads_grow planned_marks old.spaces v metaslab new.spaces shapes l) plans.placed;
      born = λ block bytes known fresh. omega (arith, plans.born block bytes known fresh, ap (λ (s : Spans). s.group) is.spans);
      in_use = λ block bytes known fresh i place at.
          let lies = plans.in_use block bytes known fresh i place at in
          loads_lie IsInUse IsInUse planned_marks planned_marks old.spaces v metaslab new.spaces l l free_is_not_in_use block.property.sectors place lies lies;
      accounted = λ none at used. elim (here_or_not v metaslab at) [
        | inl (here, this) ↦ inl (alike_here IsInUse old.spaces v metaslab free new.spaces is.loads at here this used)
        | inr away ↦ elim (plans.accounted (sym is.stray ∙ none) at (elsewhere_was IsInUse planned_marks old.spaces v metaslab new.spaces l at away used)) [
          | inl there ↦ inl (elsewhere_stays IsInUse filled_marks old.spaces v metaslab new.spaces k at away there)
          | inr of ↦ inr (record {
            block = of.block;
            bytes = of.bytes;
            is_planned = of.is_planned;
            is_new = of.is_new;
            has = has_too old.spaces new.spaces of.block at shapes of.has;
          })
        ]
      ];
      fresh = λ block bytes known fresh i place at.
          loads_lie (λ state. state ≡ Free) IsInUse filled_marks planned_marks old.spaces v metaslab new.spaces k l free_is_not_in_use block.property.sectors place (plans.in_use block bytes known fresh i place at) (plans.fresh block bytes known fresh i place at);
      beside = loads_beside old.spaces v metaslab free new.spaces is.loads plans.beside;
      writes_of = plans.writes_of;
      on_the_way = λ block bytes i extent known fresh copy.
          let way = plans.on_the_way block bytes i extent known fresh (copy_too new.spaces old.spaces block i extent (sym shapes) copy) in
          record {
            would_store = way.would_store;
            columns = way.columns;
            each = λ write among present.
                let not_out : ¬ Contains (outs old) write.disk = subst (λ o. ¬ Contains (outs_from 0 o) write.disk) is.out present in
                elim (way.each write among not_out) [
                  | inl done ↦ inl (subst (λ (d : Disks). IsDone (content d) write) (sym is.disks) done)
                  | inr due ↦ inr (subst (λ xs. Contains xs write) (sym is.due) due)
                ];
          };
      due = λ write held.
          let was = plans.due write (subst (λ xs. Contains xs write) is.due held) in
          record {
            block = was.block;
            bytes = was.bytes;
            i = was.i;
            extent = was.extent;
            is_planned = was.is_planned;
            is_new = was.is_new;
            is_copy = copy_too old.spaces new.spaces was.block was.i was.extent shapes was.is_copy;
            is_of_copy = was.is_of_copy;
          };
    }

-- ---- whatever the answer

pub load_shapes : (old new : Store) (v metaslab : ℕ) (free : FreeRuns) (result : Bool) → new ≡ record old { spaces = new.spaces } → OnTrue result (LoadsIn old.spaces v metaslab free new.spaces) → OnFalse result (new ≡ old) → shapes_of new.spaces ≡ shapes_of old.spaces
load_shapes old new v metaslab free true rest loads left = loads_shapes old.spaces v metaslab free new.spaces loads
load_shapes old new v metaslab free false rest loads left = ap (λ (s : Store). shapes_of s.spaces) left

pub load_keeps : (old new : Store) (v metaslab : ℕ) (free : FreeRuns) (result : Bool) → new ≡ record old { spaces = new.spaces } → OnTrue result (LoadsIn old.spaces v metaslab free new.spaces) → OnFalse result (new ≡ old) → Keeps old new
load_keeps old new v metaslab free true rest loads left = loaded_keeps old new v metaslab free (only_loads old new v metaslab free rest loads)
load_keeps old new v metaslab free false rest loads left = subst (Keeps old) (sym left) (λ stored holds. holds)

pub load_stores : (old new : Store) (v metaslab : ℕ) (free : FreeRuns) (result : Bool) → new ≡ record old { spaces = new.spaces } → OnTrue result (LoadsIn old.spaces v metaslab free new.spaces) → OnFalse result (new ≡ old) → KeepsStored old new
load_stores old new v metaslab free true rest loads left = loaded_stores old new v metaslab free (only_loads old new v metaslab free rest loads)
load_stores old new v metaslab free false rest loads left = subst (KeepsStored old) (sym left) (λ stored stores. stores)

pub load_plans : (old new : Store) (v metaslab : ℕ) (free : FreeRuns) (result : Bool) → new ≡ record old { spaces = new.spaces } → OnTrue result (LoadsIn old.spaces v metaslab free new.spaces) → OnFalse result (new ≡ old) → KeepsPlans old new
load_plans old new v metaslab free true rest loads left = loaded_plans old new v metaslab free (only_loads old new v metaslab free rest loads)
load_plans old new v metaslab free false rest loads left = subst (KeepsPlans old) (sym left) (λ stored planned plans. plans)

pub load_elsewhere : (marks : Marks) (old new : Store) (v metaslab : ℕ) (free : FreeRuns) (result : Bool) → (LoadsIn old.spaces v metaslab free new.spaces → Loads marks old.spaces v metaslab new.spaces) → OnTrue result (LoadsIn old.spaces v metaslab free new.spaces) → OnFalse result (new ≡ old)
    → StayElsewhere marks old.spaces v metaslab new.spaces
load_elsewhere marks old new v metaslab free true by loads left = λ state at away used. elsewhere_stays (λ s. s ≡ state) marks old.spaces v metaslab new.spaces (by loads) at away used
load_elsewhere marks old new v metaslab free false by loads left = λ state at away used. subst (λ (s : Store). IsUsed (λ x. x ≡ state) s.spaces marks at) (sym left) used
