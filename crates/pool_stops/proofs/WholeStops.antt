-- What stops leave leads to whole pools.
use Rattle.std.proofs.Common.{ℕ, ◌≡◌, inl, inr, ⊎_elim, Bool, List, length, map, Option, refl, sym, ap, subst, ◌∙◌, arith, ◌<◌, ◌≤◌, ◌+◌, [], ◌∷◌}
use Rattle.block_store.specs.Opened.{FitsDisks, LieOn}
use Rattle.block_store.specs.Config.{IsAllowedSize, sectors_of}
use Rattle.std.proofs.lemmas.List.{length-map}
use Rattle.model_disk.specs.Joint.{Disks, content, JointCall, MayLeaveAll, bytes_of}
use Rattle.block_store.specs.Blocks.{Contents}
use Rattle.block_store.specs.Places.{shapes_of}
use Rattle.block_store.specs.declared.shape.VdevShape.{VdevShape}
use Rattle.uberblock_ring.specs.declared.uberblock.Uberblock.{Uberblock}
use Rattle.pool_create.specs.CommitPlanned.{Planned}
use Rattle.pool_create.specs.CommitState.{State}
use Rattle.pool_export.specs.Moments.{IsLeading}
use Rattle.pool_model.specs.Pools.{PlainPool}
use Rattle.pool_create.specs.OpenStops.{fresh}
use Rattle.pool_create.specs.Trees.{IsConfiguredFor}
use Rattle.pool_slots.specs.Commits.{AreAt, AreOffLabels, LeadAlways, only_last}
use Rattle.pool_slots.specs.Configs.{IsConfigured}
use Rattle.pool_slots.specs.Opens.{CanOpen, also_begun}
use Rattle.pool_slots.specs.PhaseLaws.{BlocksEnd}
use Rattle.pool_slots.specs.Possible.{IsInReach, Possible, Trees}
use Rattle.pool_slots.specs.Slots.{InUse}
use Rattle.pool_stops.specs.Filled.{is_filled}
use Rattle.pool_stops.specs.Configured.{AreShowing}
use Rattle.pool_stops.specs.OneConfig.{AreOfConfig, RunsStopAs, RunStopsAs, StoppedExportsShowConfig, StoppedOpensShowConfig, StoppedRunsShowConfig}
use Rattle.pool_stops.specs.Reopening.{IsPossibleBehind}
use Rattle.pool_stops.specs.Running.{IsBetween, StandAt, pool_of}
use Rattle.pool_stops.specs.Standing.{filled_trees}
use Rattle.pool_stops.specs.Unhindered.{AreAllThere, LeadToWholePools, FaultFreeOpensSucceed}
use Rattle.pool_stops.specs.WholePools.{StoppedExportsLeadWhole, StoppedExportsReopen, StoppedOpensLeadWhole, StoppedOpensReopen, StoppedRunsLeadWhole, StoppedRunsReopen}
use Rattle.pool_stops.proofs.Filled.{filled_bytes_are_for_blocks}
use Rattle.pool_stops.proofs.Holding.{get_in_use}
use Rattle.pool_stops.proofs.Reopening.{is_planned_so, lead_on, left_sizes, reach_behind}
use Rattle.pool_stops.proofs.Standing.{picked_off}
use Rattle.pool_stops.proofs.Steps.{tree_with}
use Rattle.pool_stops.proofs.Unhindered.{all_are_enough}
use Rattle.pool_stops.proofs.Whole.{WholeTreeOf}

-- on disks of the same sizes
whole_on : (trees : Trees) (starts others : List (List ℕ)) (shapes : List VdevShape) (out : List Bool) (u : Uberblock) (pool : PlainPool) → map length others ≡ map length starts
    → WholeTreeOf trees starts shapes out u pool → WholeTreeOf trees others shapes out u pool
whole_on trees starts others shapes out u pool sizes it = record {
  tree = record {
    stored = it.tree.stored;
    spells = it.tree.spells;
    untouched = it.tree.untouched;
    mapped = it.tree.mapped;
    configured = it.tree.configured;
    made = it.tree.made;
    held = λ disks away many. it.tree.held disks away (many ∙ sym (length-map others length) ∙ ap length sizes ∙ length-map starts length);
  };
  whole = record { once = it.whole.once; apart = it.whole.apart };
}

-- under another claim
claimed_configured : (taken u : Uberblock) (stored : Contents) (pool : PlainPool) → IsConfiguredFor taken stored pool → IsConfiguredFor (record taken { claim = u.claim }) stored pool
claimed_configured taken u stored pool it =
    let (is, its, has, named) = it in
    (is, its, has, record { claim_is = refl; guids = named.guids; digest = named.digest })

claimed_whole : (trees : Trees) (starts : List (List ℕ)) (shapes : List VdevShape) (out : List Bool) (taken u : Uberblock) (pool : PlainPool) → u ≡ record taken { claim = u.claim }
    → WholeTreeOf trees starts shapes out taken pool → WholeTreeOf trees starts shapes out u pool
claimed_whole trees starts shapes out taken u pool is it =
    let here : WholeTreeOf trees starts shapes out (record taken { claim = u.claim }) pool = record {
      tree = record {
        stored = it.tree.stored;
        spells = it.tree.spells;
        untouched = it.tree.untouched;
        mapped = it.tree.mapped;
        configured = claimed_configured taken u it.tree.stored pool it.tree.configured;
        made = it.tree.made;
        held = it.tree.held;
      };
      whole = record { once = it.whole.once; apart = it.whole.apart };
    } in
    subst (λ (w : Uberblock). WholeTreeOf trees starts shapes out w pool) (sym is) here

pub stopped_runs_lead_whole : StoppedRunsShowConfig → StoppedRunsLeadWhole
stopped_runs_lead_whole shows digest mid between new w images stops leaves =
    let s : State = mid.commit in
    let stop = stops.at.steps.stops in
    let whole = stops.at.runs.whole in
    let used : InUse s.store.out 0 = get_in_use s.store.out 0 (omega (arith, whole.some, whole.count)) (whole.none 0) in
    let sizes = left_sizes s.store.disks.starts leaves.calls images leaves.left in
    let each : (u : Uberblock) → IsInReach stop.p u → WholeTreeOf stop.trees images (shapes_of s.store.spaces) s.store.out u (pool_of between u) =
    λ u reach. whole_on stop.trees s.store.disks.starts images (shapes_of s.store.spaces) s.store.out u (pool_of between u) sizes
    (record { tree = stop.tree u reach; whole = stop.whole u reach }) in
    record {
      led = record {
        trees = stop.trees;
        can = lead_on stop.trees s.store.out s.store.disks.starts leaves.calls images stop.p (0, used) whole.count leaves.left stop.off_labels
            (stop.always leaves.calls leaves.moment images leaves.left leaves.untorn);
        tree = λ u reach. (each u reach).tree;
      };
      whole = λ u reach. (each u reach).whole;
      configured = λ u reach which at. shows digest mid between new w images u which stops leaves reach at;
    }

-- disks that lead to whole pools show the configuration of what an open may come to
pub led_showing : (digest : List ℕ) (disks : Disks) (shapes : List VdevShape) (out : List Bool) (p : Possible) (pools : Uberblock → PlainPool) → LeadToWholePools disks shapes out p pools
    → AreOfConfig digest p → AreShowing out disks digest
led_showing digest disks shapes out p pools led one which used =
    let reach : IsInReach p p.last = inl (0, omega arith, refl) in
    subst (λ (d : List ℕ). IsConfigured (length (bytes_of disks.starts which)) (content disks which) d) (one p.last reach) (led.configured p.last reach which used)

pub stopped_opens_lead_whole : StoppedOpensShowConfig → StoppedOpensLeadWhole
stopped_opens_lead_whole shows digest old new shapes out rewind p pools images few count by_group one led bound four kept honest leaves =
    let sizes = left_sizes old.starts leaves.calls images leaves.left in
    let trees : Trees = led.led.trees in
    let can : (q : Possible) → LeadAlways trees out old new q → CanOpen trees out (fresh images) q =
    λ q always. lead_on trees out old.starts leaves.calls images q led.led.can.some count leaves.left led.led.can.off_labels
    (always leaves.calls leaves.moment images leaves.left leaves.untorn) in
    let was : (u : Uberblock) → IsInReach p u → WholeTreeOf trees old.starts shapes out u (pools u) =
    λ u reach. record { tree = led.led.tree u reach; whole = led.whole u reach } in
    let lead : (later : Possible) → IsPossibleBehind p rewind later → LeadAlways trees out old new later
    → ((u : Uberblock) → IsInReach later u → WholeTreeOf trees images shapes out u (pools u)) → LeadToWholePools (fresh images) shapes out later pools =
    λ later behind always each. record {
      led = record { trees = trees; can = can later always; tree = λ u reach. (each u reach).tree };
      whole = λ u reach. (each u reach).whole;
      configured = λ u reach which at.
          shows digest old new shapes out rewind p later pools images u which few one led.led bound four (led_showing digest old shapes out p pools led one) kept honest leaves behind reach at;
    } in
    ⊎_elim
    (λ always. (p, inl refl, lead p (inl refl) always (λ u reach. whole_on trees old.starts images shapes out u (pools u) sizes (was u reach))))
    (λ (claim, is, always).
    let behind : IsPossibleBehind p rewind (also_begun claim p) = inr (claim, is, refl) in (
      also_begun claim p,
      behind,
      lead (also_begun claim p) behind always (λ w reach. whole_on trees old.starts images shapes out w (pools w) sizes (⊎_elim
          (λ same.
          subst (λ (x : Uberblock). WholeTreeOf trees old.starts shapes out x (pools x)) (sym same)
          (subst (λ (pool : PlainPool). WholeTreeOf trees old.starts shapes out claim pool) (by_group is.taken claim (sym (ap (λ (x : Uberblock). x.group) is.is)))
          (claimed_whole trees old.starts shapes out is.taken claim (pools is.taken) is.is (was is.taken is.reached))))
          (λ before. was w before) (reach_behind p claim w reach))),
    ))
    (kept.leads trees p led.led.can honest)

pub stopped_exports_lead_whole : BlocksEnd → StoppedExportsShowConfig → StoppedExportsLeadWhole
stopped_exports_lead_whole ends shows digest core v last before u new images running begun leaves =
    let runs = running.runs in
    let s : State = core.commit in
    let out : List Bool = s.store.out in
    let trees : Trees = filled_trees s.store.spaces s.store.disks in
    let none = is_planned_so s v s.planned runs.represents.backs refl (begun.exportable v runs.represents).at_rest.unsynced in
    let between : IsBetween s last before = subst (λ (o : Option Planned). StandAt s o last before) none runs.stand in
    let at : AreAt trees out s.store.disks last before = ends trees out s.store.disks last before between.blocks between.settled in
    let off : AreOffLabels trees out s.store.disks.starts =
    picked_off (is_filled s.store.spaces) (content s.store.disks) s.store.disks.starts s.store.spaces out runs.whole.lie (filled_bytes_are_for_blocks s.store.spaces) in
    let used : InUse out 0 = get_in_use out 0 (omega (arith, runs.whole.some, runs.whole.count)) (runs.whole.none 0) in
    let leading : IsLeading trees out s.store.disks (only_last last before) = record { off_labels = off; settled = at.settled; leads = at.leads } in
    let sizes = left_sizes s.store.disks.starts leaves.calls images leaves.left in
    let each : (w : Uberblock) → IsInReach (only_last last before) w → WholeTreeOf trees images (shapes_of s.store.spaces) out w (pool_of v w) =
    λ w reach. whole_on trees s.store.disks.starts images (shapes_of s.store.spaces) out w (pool_of v w) sizes (tree_with s v last before core refl runs w reach) in
    record {
      led = record {
        trees = trees;
        can = lead_on trees out s.store.disks.starts leaves.calls images (only_last last before) (0, used) runs.whole.count leaves.left off
            (begun.leads trees (only_last last before) leading leaves.calls leaves.moment images leaves.left leaves.untorn);
        tree = λ w reach. (each w reach).tree;
      };
      whole = λ w reach. (each w reach).whole;
      configured = λ w reach which used'. shows digest core v last before u new images w which running begun leaves reach used';
    }

-- ---- and are all there

fits_on : (starts images : List (List ℕ)) (shape : VdevShape) → length images ≡ length starts
    → ((disk : ℕ) → disk < length starts → length (bytes_of images disk) ≡ length (bytes_of starts disk)) → FitsDisks starts shape → FitsDisks images shape
fits_on starts images shape count same fits = record {
  there = omega (arith, fits.there, count);
  sizes = λ disk from below. subst IsAllowedSize (sym (same disk (omega (arith, below, fits.there)))) (fits.sizes disk from below);
  sectors = λ disk from below.
      subst (λ n. shape.child_sectors ≤ sectors_of n) (sym (same disk (omega (arith, below, fits.there)))) (fits.sectors disk from below);
  regions = fits.regions;
  few = fits.few;
}

lies_on : (starts images : List (List ℕ)) (first : ℕ) (shapes : List VdevShape) → length images ≡ length starts
    → ((disk : ℕ) → disk < length starts → length (bytes_of images disk) ≡ length (bytes_of starts disk)) → LieOn starts first shapes → LieOn images first shapes
lies_on starts images first [] count same lie = lie ∙ sym count
lies_on starts images first (shape ∷ shapes) count same lie =
    (lie.0, fits_on starts images shape count same lie.1, lies_on starts images (first + shape.vdev.geometry.children) shapes count same lie.2)

pub all_there : (starts : List (List ℕ)) (calls : List JointCall) (images : List (List ℕ)) (shapes : List VdevShape) (out : List Bool) → MayLeaveAll starts calls images
    → AreAllThere starts shapes out → AreAllThere images shapes out
all_there starts calls images shapes out left there = record {
  none = there.none;
  may = record {
    some = there.may.some;
    few = there.may.few;
    lie = lies_on starts images 0 shapes left.count (λ disk below. (left.each disk below).size) there.may.lie;
    flags = there.may.flags ∙ sym left.count;
  };
}

pub stopped_runs_reopen : RunsStopAs → StoppedRunsLeadWhole → FaultFreeOpensSucceed → StoppedRunsReopen
stopped_runs_reopen stop lead done old mid new v between w steps replies step reply last before digest images refusal runs end none leaves guids back is free =
    let stops : RunStopsAs digest mid between new w = stop old mid new v between w steps replies step reply last before digest runs end none in
    let s : State = mid.commit in
    let there : AreAllThere images (shapes_of s.store.spaces) s.store.out =
    all_there s.store.disks.starts leaves.calls images (shapes_of s.store.spaces) s.store.out leaves.left (record { none = stops.at.runs.whole.none; may = stops.lies }) in
    done guids (fresh images) (shapes_of s.store.spaces) s.store.out stops.at.steps.stops.p (pool_of between) refusal
    (lead digest mid between new w images stops leaves) (all_are_enough images (shapes_of s.store.spaces) s.store.out there) back is free

pub stopped_opens_reopen : StoppedOpensLeadWhole → FaultFreeOpensSucceed → StoppedOpensReopen
stopped_opens_reopen lead done digest old new shapes out rewind p pools images refusal few all by_group one led bound four kept honest leaves guids back is free =
    let it = lead digest old new shapes out rewind p pools images few all.may.flags by_group one led bound four kept honest leaves in
    done guids (fresh images) shapes out it.0 pools refusal it.2 (all_are_enough images shapes out (all_there old.starts leaves.calls images shapes out leaves.left all)) back is free

pub stopped_exports_reopen : StoppedExportsLeadWhole → FaultFreeOpensSucceed → StoppedExportsReopen
stopped_exports_reopen lead done digest core v last before exported new images refusal running begun leaves guids back is free =
    let s : State = core.commit in
    let there : AreAllThere images (shapes_of s.store.spaces) s.store.out =
    all_there s.store.disks.starts leaves.calls images (shapes_of s.store.spaces) s.store.out leaves.left (record { none = running.runs.whole.none; may = running.lies }) in
    done guids (fresh images) (shapes_of s.store.spaces) s.store.out (only_last last before) (pool_of v) refusal
    (lead digest core v last before exported new images running begun leaves) (all_are_enough images (shapes_of s.store.spaces) s.store.out there) back is free
