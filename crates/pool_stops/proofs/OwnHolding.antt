-- Labels that are the pool's own, at each moment of a run.
use Rattle.std.proofs.Common.{ℕ, ◌≡◌, ⊎_elim, ◌+◌, ◌<◌, List, length, slice_get, Some, subst, ◌∙◌, arith}
use Rattle.std.proofs.lemmas.Option.{slice_get_within}
use Rattle.model_disk.specs.Joint.{Disks, JointCall, MayLeaveAll, bytes_of, content}
use Rattle.model_disk.specs.Runs.{EachSince, IsOff, Makes, no_write}
use Rattle.raidz_io.proofs.Written.{slice_get_some}
use Rattle.vdev_label.specs.Plain.{PlainVdev}
use Rattle.pool_create.specs.Backs.{Backs}
use Rattle.pool_create.specs.CommitState.{State}
use Rattle.pool_create.specs.CommitWriting.{may_write}
use Rattle.pool_create.specs.Moves.{Moves}
use Rattle.pool_model.specs.View.{View}
use Rattle.pool_model.specs.declared.step.Step.{Step}
use Rattle.pool_create.specs.OpenStops.{fresh}
use Rattle.pool_slots.specs.Labels.{IsLabelShown, area_place}
use Rattle.pool_format.specs.declared.labeling.PoolIdentity.{PoolIdentity}
use Rattle.pool_stops.specs.Running.{IsWhole}
use Rattle.pool_stops.proofs.Holding.{get_in_use}
use Rattle.pool_stops.proofs.Labels.{label_held, label_left, off_plan, shown_once, writes_at_most}
use Rattle.pool_stops.specs.Own.{AreOwnDisks, IsOwn, disk_guids}
use Rattle.pool_stops.specs.OwnRunning.{HoldOwn}

-- all labels are held through a run that writes no byte of them
pub all_own : (pool : PoolIdentity) (vdevs : List PlainVdev) (may : ℕ → ℕ → List ℕ → Type 0) (old new : Disks) → Makes may old new
    → ((which guid number : ℕ) → slice_get (disk_guids vdevs) which ≡ Some guid → number < 4 → (i : ℕ) → i < 114688
    → IsOff (may which) (area_place (length (bytes_of old.starts which)) number + i))
    → HoldOwn pool vdevs old.starts old.calls → EachSince (length old.calls) (HoldOwn pool vdevs old.starts) new.calls
all_own pool vdevs may old new makes off hold earlier moment which guid number named low =
    let it = hold which guid number named low in
    (it.0, label_held may old new which number it.0 makes (off which guid number named low) it.1 earlier moment, it.2)

-- a step writes none
pub steps_stay_own : (pool : PoolIdentity) (vdevs : List PlainVdev) (step : Step) (old new : State) (v : View) → IsWhole old → Backs old v → Moves step old new
    → length old.store.disks.starts ≡ length (disk_guids vdevs) → HoldOwn pool vdevs old.store.disks.starts old.store.disks.calls
    → EachSince (length old.store.disks.calls) (HoldOwn pool vdevs old.store.disks.starts) new.store.disks.calls
steps_stay_own pool vdevs step old new v whole backs moves count hold = ⊎_elim
    (λ none.
    all_own pool vdevs no_write old.store.disks new.store.disks none (λ which guid number named low i below at bytes write. absurd write) hold)
    (λ (plan, is, writes).
    all_own pool vdevs (may_write old plan) old.store.disks new.store.disks (writes.makes plan is)
    (λ which guid number named low i below.
    let there : which < length old.store.out = omega (arith, slice_get_within (disk_guids vdevs) which guid named, count, whole.count) in
    off_plan old v plan which number i whole backs (writes.fits plan is) (get_in_use old.store.out which there (whole.none which)) low below) hold)
    (writes_at_most step old new moves)

-- ---- what is left

-- where all labels are held a stop leaves the pool's own disks
pub own_is_left : (pool : PoolIdentity) (vdevs : List PlainVdev) (starts : List (List ℕ)) (calls : List JointCall) (images : List (List ℕ))
    → length starts ≡ length (disk_guids vdevs) → HoldOwn pool vdevs starts calls → MayLeaveAll starts calls images → AreOwnDisks pool vdevs (fresh images)
own_is_left pool vdevs starts calls images count hold left =
    let shown : (which guid number : ℕ) → (named : slice_get (disk_guids vdevs) which ≡ Some guid) → (low : number < 4)
    → IsLabelShown (length (bytes_of images which)) (content (fresh images) which) number (hold which guid number named low).0 =
    λ which guid number named low.
    let below : which < length starts = omega (arith, slice_get_within (disk_guids vdevs) which guid named, count) in
    let it = label_left starts calls which number (hold which guid number named low).0 (bytes_of images which) (left.each which below)
    (hold which guid number named low).1 in
    record { is_label = it.is_label; valid = it.valid; bytes = λ i inside. it.bytes i inside } in
    record {
      count = left.count ∙ count;
      each = λ which guid named number l is.
          let mine = hold which guid number named is.is_label in
          let same : mine.0 ≡ l = shown_once (length (bytes_of images which)) number (content (fresh images) which) mine.0 l (shown which guid number named is.is_label) is in
          subst (λ m. IsOwn pool vdevs guid m) same mine.2;
      labeled = λ which below.
          let guid = slice_get_some (disk_guids vdevs) which (omega (arith, below, left.count, count)) in
          (0, (hold which guid.0 0 guid.1 (omega arith)).0, shown which guid.0 0 guid.1 (omega arith));
    }
