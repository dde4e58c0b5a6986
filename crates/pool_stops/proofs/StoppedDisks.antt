-- What stops leave of pools on their own disks.
use Rattle.std.proofs.Common.{ℕ, ◌≡◌, ◌⊎◌, ⊎_elim, inl, inr, ◌+◌, ◌*◌, ◌<◌, ◌≤◌, Bool, false, List, length, slice_get, Option, Some, None, refl, sym, ap, subst, ◌∙◌, arith}
use Rattle.std.proofs.lemmas.Option.{slice_get_within}
use Rattle.model_disk.specs.Contents.{covers}
use Rattle.model_disk.specs.Joint.{Disks, JointCall, MayLeaveAll, bytes_of, calls_on, content}
use Rattle.model_disk.specs.Runs.{IsMoment, IsSettled, IsWholeIn, Makes, no_write}
use Rattle.model_disk.proofs.RunLemmas.{held_in_run}
use Rattle.raidz_io.proofs.Written.{slice_get_some}
use Rattle.block_store.specs.Opened.{LieOn}
use Rattle.block_store.specs.Places.{shapes_of}
use Rattle.block_store.specs.declared.shape.VdevShape.{VdevShape}
use Rattle.uberblock_ring.specs.Uberblock.{Fits, IsNumber}
use Rattle.uberblock_ring.specs.declared.uberblock.Uberblock.{Uberblock}
use Rattle.sha2.specs.Sha256.{sha256}
use Rattle.vdev_label.specs.Config.{config_bytes}
use Rattle.vdev_label.specs.Plain.{PlainLabel, PlainVdev}
use Rattle.vdev_label.specs.Room.{relabeled}
use Rattle.vdev_label.specs.declared.label.State.{State as LabelState}
use Rattle.vdev_label.specs.declared.label.State.TheVariants.{Active, Exported}
use Rattle.pool_create.specs.CommitState.{State}
use Rattle.pool_create.specs.CommitPlanned.{Planned}
use Rattle.pool_export.specs.Taken.{IsTakenWrite, exported}
use Rattle.pool_export.proofs.Best.{exported_valid}
use Rattle.pool_create.specs.OpenStops.{fresh}
use Rattle.pool_slots.specs.Configs.{IsConfigured}
use Rattle.pool_slots.specs.Labels.{IsLabelShown, IsValid, area_place, inscribed}
use Rattle.pool_slots.specs.Possible.{IsInReach, Possible, held_by}
use Rattle.pool_slots.specs.Relabels.{IsRewrite, IsTakenOver}
use Rattle.pool_slots.specs.Slots.{InUse}
use Rattle.pool_slots.specs.Writes.{in_use}
use Rattle.pool_slots.proofs.LabelAreas.{area_len, same_areas}
use Rattle.pool_slots.proofs.Places.{apart_covers, labels_apart, length-spelled}
use Rattle.pool_slots.proofs.LabelPlans.{label_for_valid, relabeled_valid}
use Rattle.pool_format.specs.declared.labeling.PoolIdentity.{PoolIdentity}
use Rattle.pool_stops.specs.Configured.{ExportsStayConfigured, OpensStayConfigured, ShowsConfigured}
use Rattle.pool_stops.specs.Running.{IsBetween, StandAt}
use Rattle.pool_stops.proofs.Holding.{get_in_use}
use Rattle.pool_stops.proofs.Labels.{label_left, off_slots, shown_once}
use Rattle.pool_stops.proofs.Reopening.{is_planned_so, reach_behind}
use Rattle.pool_stops.proofs.Steps.{used_below}
use Rattle.pool_stops.proofs.WholeStops.{all_there, led_showing}
use Rattle.pool_stops.specs.Own.{AreOwnDisks, IsLabeled, IsOwn, disk_guids}
use Rattle.pool_stops.specs.OwnRunning.{AreOfSum, HoldOwn}
use Rattle.pool_stops.specs.Stopping.{AreLabelsUntorn, PossibleConfigurationsAreShown, OwnDisksShowAtMostThreeConfigurations, StoppedExportsLeaveDisks, StoppedOpensAreOfSum, StoppedOpensLeaveDisks, StoppedRunsLeaveDisks}
use Rattle.pool_stops.proofs.OwnHolding.{own_is_left}
use Rattle.pool_stops.proofs.Scanned.{allowed_from}

-- ---- runs

pub stopped_runs_leave_disks : StoppedRunsLeaveDisks
stopped_runs_leave_disks pool vdevs digest mid between new w images stops on leaves =
    let s : State = mid.commit in
    record {
      allowed = on.was.allowed;
      shapes_are = on.was.shapes_are;
      there = all_there s.store.disks.starts leaves.calls images (shapes_of s.store.spaces) s.store.out leaves.left
          (record { none = stops.at.runs.whole.none; may = stops.lies });
      own = own_is_left pool vdevs s.store.disks.starts leaves.calls images on.was.count (on.held leaves.calls leaves.moment) leaves.left;
    }

-- ---- labels that are written

ordered : (i j : ℕ) → (i < j) ⊎ ((j < i) ⊎ (i ≡ j))
ordered i j = grind arith

-- two labels' areas are one, or lie apart
same_or_apart : (size n m : ℕ) → 4 * 262144 ≤ size → n < 4 → m < 4
    → (n ≡ m) ⊎ ((area_place size n + 114688 ≤ area_place size m) ⊎ (area_place size m + 114688 ≤ area_place size n))
unfolding area_place
same_or_apart size n m room low low' = elim (ordered n m) [
  | inl below ↦ inr (inl (omega (arith, labels_apart size n m room below low')))
  | inr (inl above) ↦ inr (inr (omega (arith, labels_apart size m n room above low)))
  | inr (inr same) ↦ inl same
]

-- so it is of what is written in one
whole_in : (size n m at : ℕ) (bytes : List ℕ) → 4 * 262144 ≤ size → n < 4 → m < 4 → at ≡ area_place size n → length bytes ≡ 114688
    → ((at ≡ area_place size m) × (length bytes ≡ 114688)) ⊎ ((i : ℕ) → i < 114688 → covers at (length bytes) (area_place size m + i) ≡ false)
whole_in size n m at bytes room low low' place len = ⊎_elim
    (λ same. inl (place ∙ ap (area_place size) same, len))
    (λ apart. inr (λ i below.
    ap (λ (p : ℕ). covers p (length bytes) (area_place size m + i)) place
    ∙ ap (λ (k : ℕ). covers (area_place size n) k (area_place size m + i)) len
    ∙ apart_covers (area_place size n) 114688 (area_place size m) 114688 apart i below))
    (same_or_apart size n m room low low')

-- ---- what is left where own labels were written

-- what is written in a label's area is the whole area of one of the disk's own
pub record WritesOwn (pool : PoolIdentity) (vdevs : List PlainVdev) (may : ℕ → ℕ → List ℕ → Type 0) (disks : Disks) : Type 0 where
  pub whole : (which number : ℕ) → which < length disks.starts → number < 4
      → IsWholeIn (may which) (area_place (length (bytes_of disks.starts which)) number) 114688
  pub own : (which guid number : ℕ) (l : PlainLabel) → slice_get (disk_guids vdevs) which ≡ Some guid → number < 4 → IsValid l
      → may which (area_place (length (bytes_of disks.starts which)) number) (inscribed l) → IsOwn pool vdevs guid l

pub own_images : (pool : PoolIdentity) (vdevs : List PlainVdev) (may : ℕ → ℕ → List ℕ → Type 0) (old new : Disks) (calls : List JointCall) (images : List (List ℕ))
    → Makes may old new → IsMoment (length old.calls) new.calls calls → MayLeaveAll old.starts calls images → AreLabelsUntorn old.starts calls images
    → AreOwnDisks pool vdevs old → ((which : ℕ) → which < length old.starts → IsSettled (calls_on which old.calls)) → WritesOwn pool vdevs may old
    → ((which : ℕ) → which < length images → IsLabeled (length (bytes_of images which)) (content (fresh images) which))
    → AreOwnDisks pool vdevs (fresh images)
own_images pool vdevs may old new calls images makes moment left untorn are settled writes labeled = record {
  count = left.count ∙ are.count;
  each = λ which guid named number l shown.
      let below : which < length old.starts = omega (arith, slice_get_within (disk_guids vdevs) which guid named, are.count) in
      let size : ℕ = length (bytes_of old.starts which) in
      let same : length (bytes_of images which) ≡ size = (left.each which below).size in
      let len : length (inscribed l) ≡ 114688 = area_len l shown.valid in
      let place : ℕ = area_place size number in
      let held = untorn which number l below shown.is_label shown.valid (λ i inside.
      subst (λ n. slice_get (bytes_of images which) (area_place n number + i) ≡ slice_get (inscribed l) i) same (shown.bytes i (omega (arith, inside, len)))) in
      let whole = subst (λ n. IsWholeIn (may which) place n) (sym len) (writes.whole which number below shown.is_label) in
      ⊎_elim
      (λ stood.
      are.each which guid named number l
      (record { is_label = shown.is_label; valid = shown.valid; bytes = λ i inside. stood i (omega (arith, inside, len)) }))
      (λ wrote. writes.own which guid number l named shown.is_label shown.valid wrote)
      (held_in_run may old new calls makes moment which place (inscribed l) (settled which below) (omega (arith, len)) whole held);
  labeled = labeled;
}

-- of reads none is written
none_writes_own : (pool : PoolIdentity) (vdevs : List PlainVdev) (disks : Disks) → WritesOwn pool vdevs no_write disks
none_writes_own pool vdevs disks = record {
  whole = λ which number below low at bytes write. absurd write;
  own = λ which guid number l named low valid write. absurd write;
}

-- a label of the disk, for another claim, group and state, is its own
relabeled_own : (pool : PoolIdentity) (vdevs : List PlainVdev) (guid : ℕ) (l m : PlainLabel) (claim group : ℕ) (state : LabelState) → l ≡ relabeled m claim group state
    → IsOwn pool vdevs guid m → IsOwn pool vdevs guid l
relabeled_own pool vdevs guid l m claim group state is own =
    subst (λ x. IsOwn pool vdevs guid x) (sym is) (record { name_is = own.name_is; pool_is = own.pool_is; guid_is = own.guid_is; config_is = own.config_is })

-- ---- opens

-- so is what a claim makes a disk's labels of
pub label_for_own : {K : Type 0} (pool : PoolIdentity) (vdevs : List PlainVdev) (out : List Bool) (old : Disks) (u : Uberblock) (which guid source : ℕ) (of_disk l : PlainLabel)
    → ((disk : ℕ) → InUse out disk → disk < length old.starts) → AreOwnDisks pool vdevs old → slice_get (disk_guids vdevs) which ≡ Some guid
    → IsLabelShown (length (bytes_of old.starts which)) (content old which) source of_disk → (K × (l ≡ of_disk)) ⊎ IsTakenOver out old u which of_disk l → IsOwn pool vdevs guid l
label_for_own pool vdevs out old u which guid source of_disk l there are named shown from =
    let own : IsOwn pool vdevs guid of_disk = are.each which guid named source of_disk shown in
    let O : PlainLabel → Type 0 = IsOwn pool vdevs guid in
    ⊎_elim
    (λ kept. subst O (sym kept.1) own)
    (λ taken.
    let other = slice_get_some (disk_guids vdevs) taken.other (omega (arith, there taken.other taken.used, are.count)) in
    let theirs = are.each taken.other other.0 other.1 taken.number taken.given taken.shown in
    subst O (sym taken.is) (record { name_is = theirs.name_is; pool_is = theirs.pool_is; guid_is = own.guid_is; config_is = theirs.config_is }))
    from

rewrites_own : (pool : PoolIdentity) (vdevs : List PlainVdev) (out : List Bool) (old : Disks) (u : Uberblock) → Fits u → ((disk : ℕ) → InUse out disk → disk < length old.starts)
    → ((which : ℕ) → which < length old.starts → 1048576 ≤ length (bytes_of old.starts which)) → AreOwnDisks pool vdevs old
    → WritesOwn pool vdevs (IsRewrite out old u) old
rewrites_own pool vdevs out old u fits there room are = record {
  whole = λ which number below low at bytes write. elim write [
    | inl slot ↦ inr (λ i inside. off_slots old.starts u (in_use out) which number i fits (room which below) low inside at bytes slot)
    | inr it ↦
        whole_in (length (bytes_of old.starts which)) it.number number at bytes (omega (arith, room which below)) it.is_label low it.place
        (ap length it.spells ∙ area_len (relabeled it.label u.claim u.group Active) (relabeled_valid it.label u (label_for_valid out old u which it.it it.label it.source) fits))
  ];
  own = λ which guid number l named low valid write. elim write [
    | inl slot ↦ absurd (omega (arith, ap length slot.spells, area_len l valid, length-spelled u fits))
    | inr it ↦
        relabeled_own pool vdevs guid l it.label u.claim u.group Active
        (same_areas l (relabeled it.label u.claim u.group Active) valid (relabeled_valid it.label u (label_for_valid out old u which it.it it.label it.source) fits) it.spells)
        (label_for_own pool vdevs out old u which guid it.it.source it.source.own it.label there are named it.source.shown it.source.from)
  ];
}

-- a label that shows a configuration is one
labeled_by : (images : List (List ℕ)) (which : ℕ) (digest : List ℕ) → IsConfigured (length (bytes_of images which)) (held_by images which) digest
    → IsLabeled (length (bytes_of images which)) (content (fresh images) which)
labeled_by images which digest it =
    (it.number, it.label, record { is_label = it.shown.is_label; valid = it.shown.valid; bytes = λ i below. it.shown.bytes i below })

large_enough : (starts : List (List ℕ)) (first : ℕ) (shapes : List VdevShape) (disk : ℕ) → LieOn starts first shapes → first ≤ disk → disk < length starts
    → 1048576 ≤ length (bytes_of starts disk)
large_enough starts first shapes disk lie from below =
    let allowed = allowed_from starts first shapes disk lie from below in
    omega (arith, allowed.least)

pub own_disks_show_at_most_three_configurations : OwnDisksShowAtMostThreeConfigurations
own_disks_show_at_most_three_configurations pool vdevs shapes out disks are which used four =
    let below : which < length (disk_guids vdevs) = omega (arith, used_below out which used, are.there.may.flags, are.own.count) in
    let guid = slice_get_some (disk_guids vdevs) which below in
    let one = are.own.each which guid.0 guid.1 0 (four.label 0) (four.shown 0 (omega arith)) in
    let two = are.own.each which guid.0 guid.1 1 (four.label 1) (four.shown 1 (omega arith)) in
    four.apart 0 1 (omega arith) (omega arith) (ap (λ vs. sha256 (config_bytes vs)) (one.config_is ∙ sym two.config_is))

pub possible_configurations_are_shown : PossibleConfigurationsAreShown
possible_configurations_are_shown digest disks shapes out p pools there led one images left which used =
    let below : which < length disks.starts = omega (arith, used_below out which used, there.may.flags) in
    let reach : IsInReach p p.last = inl (0, omega arith, refl) in
    let it = led.configured p.last reach which used in
    let shown = label_left disks.starts disks.calls which it.number it.label (bytes_of images which) (left.each which below)
    (record { shown = it.shown; clean = λ i inside. led.led.can.settled which used _ }) in
    record {
      number = it.number;
      label = it.label;
      shown = record { is_label = shown.is_label; valid = shown.valid; bytes = λ i inside. shown.bytes i inside };
      config = it.config ∙ one p.last reach;
    }

pub stopped_opens_leave_disks : OpensStayConfigured → OwnDisksShowAtMostThreeConfigurations → PossibleConfigurationsAreShown → StoppedOpensLeaveDisks
stopped_opens_leave_disks stay not_four bound pool vdevs digest old new shapes out rewind p pools images few are led one kept honest leaves untorn =
    let can = led.led.can in
    let flags : (which : ℕ) → which < length old.starts → InUse out which =
    λ which below. get_in_use out which (omega (arith, below, are.there.may.flags)) (are.there.none which) in
    let settled : (which : ℕ) → which < length old.starts → IsSettled (calls_on which old.calls) = λ which below. can.settled which (flags which below) in
    let room : (which : ℕ) → which < length old.starts → 1048576 ≤ length (bytes_of old.starts which) =
    λ which below. large_enough old.starts 0 shapes which are.there.may.lie (omega arith) below in
    let left = stay led.led.trees old new out rewind p digest few can one (not_four pool vdevs shapes out old are) (led_showing digest old shapes out p pools led one) kept honest
    (bound digest old shapes out p pools are.there led one) leaves.calls leaves.moment in
    let labeled : (which : ℕ) → which < length images → IsLabeled (length (bytes_of images which)) (content (fresh images) which) =
    λ which below. labeled_by images which digest (left images leaves.left which (flags which (omega (arith, below, leaves.left.count)))) in
    record {
      allowed = are.allowed;
      shapes_are = are.shapes_are;
      there = all_there old.starts leaves.calls images shapes out leaves.left are.there;
      own = ⊎_elim
          (λ none. own_images pool vdevs no_write old new leaves.calls images none leaves.moment leaves.left untorn are.own settled
          (none_writes_own pool vdevs old) labeled)
          (λ (u, fits, makes). own_images pool vdevs (IsRewrite out old u) old new leaves.calls images makes leaves.moment leaves.left untorn are.own settled
          (rewrites_own pool vdevs out old u fits (λ disk used. omega (arith, used_below out disk used, are.there.may.flags)) room are.own) labeled)
          (kept.rewrites can.known honest);
    }

pub stopped_opens_are_of_sum : StoppedOpensAreOfSum
stopped_opens_are_of_sum vdevs p later rewind sums (inl same) = subst (λ (q : Possible). AreOfSum vdevs q) (sym same) sums
stopped_opens_are_of_sum vdevs p later rewind sums (inr (u, claim, same)) =
    subst (λ (q : Possible). AreOfSum vdevs q) (sym same)
    (λ w reach. ⊎_elim
    (λ is. ap (λ (x : Uberblock). x.guid_sum) (is ∙ claim.is) ∙ sums claim.taken claim.reached)
    (λ was. sums w was) (reach_behind p u w reach))

-- ---- exports

taken_own : (pool : PoolIdentity) (vdevs : List PlainVdev) (old : Disks) (u : Uberblock) → IsNumber u.claim → IsNumber u.group
    → ((which : ℕ) → which < length old.starts → 1048576 ≤ length (bytes_of old.starts which)) → AreOwnDisks pool vdevs old
    → WritesOwn pool vdevs (IsTakenWrite old u) old
taken_own pool vdevs old u claim group room are = record {
  whole = λ which number below low at bytes it.
      whole_in (length (bytes_of old.starts which)) it.number number at bytes (omega (arith, room which below)) it.is_label low it.place
      (ap length it.made.spells ∙ area_len (exported it.made.label u) (exported_valid it.made.label u it.made.taken.shown.valid claim group));
  own = λ which guid number l named low valid it.
      relabeled_own pool vdevs guid l it.made.label u.claim u.group Exported
      (same_areas l (exported it.made.label u) valid (exported_valid it.made.label u it.made.taken.shown.valid claim group) it.made.spells)
      (are.each which guid named it.made.number it.made.label it.made.taken.shown);
}

-- the disks of a core that runs on its own
own_of : (pool : PoolIdentity) (vdevs : List PlainVdev) (disks : Disks) → length disks.starts ≡ length (disk_guids vdevs) → HoldOwn pool vdevs disks.starts disks.calls
    → AreOwnDisks pool vdevs disks
own_of pool vdevs disks count hold = record {
  count = count;
  each = λ which guid named number l shown.
      let mine = hold which guid number named shown.is_label in
      let same : mine.0 ≡ l = shown_once (length (bytes_of disks.starts which)) number (content disks which) mine.0 l mine.1.shown shown in
      subst (λ m. IsOwn pool vdevs guid m) same mine.2;
  labeled = λ which below.
      let guid = slice_get_some (disk_guids vdevs) which (omega (arith, below, count)) in
      (0, (hold which guid.0 0 guid.1 (omega arith)).0, (hold which guid.0 0 guid.1 (omega arith)).1.shown);
}

pub stopped_exports_leave_disks : ExportsStayConfigured → StoppedExportsLeaveDisks
stopped_exports_leave_disks stay pool vdevs digest core v last before u new images so on begun known honest leaves untorn =
    let s : State = core.commit in
    let out : List Bool = s.store.out in
    let old : Disks = s.store.disks in
    let none : s.planned ≡ None = is_planned_so s v s.planned so.runs.represents.backs refl (begun.exportable v so.runs.represents).at_rest.unsynced in
    let between : IsBetween s last before = subst (λ (o : Option Planned). StandAt s o last before) none so.runs.stand in
    let flags : (which : ℕ) → which < length old.starts → InUse out which =
    λ which below. get_in_use out which (omega (arith, below, so.runs.whole.count)) (so.runs.whole.none which) in
    let settled : (which : ℕ) → which < length old.starts → IsSettled (calls_on which old.calls) = λ which below. between.settled which (flags which below) in
    let room : (which : ℕ) → which < length old.starts → 1048576 ≤ length (bytes_of old.starts which) =
    λ which below. (so.runs.whole.lie.labels which below).0 in
    let same : u.config_digest ≡ digest = ap (λ (x : Uberblock). x.config_digest) begun.last.is ∙ so.stamped in
    let shows : ShowsConfigured s u.config_digest = subst (λ (d : List ℕ). ShowsConfigured s d) (sym same) so.shows in
    let left = stay core v last before u new so.runs begun shows leaves.calls leaves.moment in
    let labeled : (which : ℕ) → which < length images → IsLabeled (length (bytes_of images which)) (content (fresh images) which) =
    λ which below. labeled_by images which u.config_digest (left images leaves.left which (flags which (omega (arith, below, leaves.left.count)))) in
    let own : AreOwnDisks pool vdevs old = own_of pool vdevs old on.count on.holds in
    record {
      allowed = on.allowed;
      shapes_are = on.shapes_are;
      there = all_there old.starts leaves.calls images (shapes_of s.store.spaces) out leaves.left (record { none = so.runs.whole.none; may = so.lies });
      own = own_images pool vdevs (IsTakenWrite old u) old new leaves.calls images (begun.takes known honest) leaves.moment leaves.left untorn own settled
          (taken_own pool vdevs old u begun.last.claim begun.last.group room own) labeled;
    }
