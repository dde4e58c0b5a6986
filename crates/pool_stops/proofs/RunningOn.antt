-- Pools that are made, run and opened on their own disks.
use Rattle.std.proofs.Common.{ℕ, ◌≡◌, inl, ◌<◌, Bool, List, [], ◌∷◌, ◌++◌, length, map, slice_get, Option, Some, refl, sym, ap, subst, ◌∙◌, arith}
use Rattle.std.specs.Prelude.{option_map}
use Rattle.std.proofs.lemmas.List.{length-map, map-append}
use Rattle.std.proofs.lemmas.Option.{slice_get-map, slice_get_within}
use Rattle.model_disk.specs.Runs.{EachSince}
use Rattle.block_store.specs.declared.shape.VdevShape.{VdevShape}
use Rattle.uberblock_ring.specs.declared.uberblock.Uberblock.{Uberblock}
use Rattle.vdev_label.specs.Config.{guid_sum}
use Rattle.vdev_label.specs.Plain.{PlainLabel, PlainVdev, config_view}
use Rattle.vdev_label.specs.Room.{relabeled}
use Rattle.vdev_label.specs.declared.label.Config.{Config}
use Rattle.vdev_label.specs.declared.label.State.TheVariants.{Active}
use Rattle.pool_create.specs.Backs.{Backs, HasPlan, IsPlanOf}
use Rattle.pool_create.specs.CommitState.{NoneIsOut, State}
use Rattle.pool_create.specs.CommitPlanned.{Planned}
use Rattle.pool_create.specs.CoreRuns.{Chain}
use Rattle.pool_create.specs.CoreState.{CoreState, disks_of}
use Rattle.pool_create.specs.CoreSteps.{Link}
use Rattle.pool_create.specs.Moves.{Moves}
use Rattle.pool_format.specs.Labels.{children_of, children_with, label_of}
use Rattle.pool_format.specs.declared.labeling.PoolIdentity.{PoolIdentity}
use Rattle.pool_model.specs.View.{Given, View}
use Rattle.pool_model.specs.declared.step.Reply.{Reply}
use Rattle.pool_model.specs.declared.step.Step.{Step}
use Rattle.pool_create.specs.Shapes.{AreShapesOf}
use Rattle.pool_create.proofs.OpenThrough.{through_made}
use Rattle.pool_slots.specs.Commits.{AreAt}
use Rattle.pool_slots.specs.Opens.{CanOpen}
use Rattle.pool_slots.specs.Slots.{InUse}
use Rattle.pool_stops.specs.Configured.{StepsStayConfigured}
use Rattle.pool_stops.specs.OneConfig.{IsRunningAs}
use Rattle.pool_stops.specs.Running.{RunningPoolsStepOn}
use Rattle.pool_stops.proofs.Holding.{get_in_use}
use Rattle.pool_stops.proofs.LabelStops.{made_of}
use Rattle.pool_stops.proofs.Labels.{same_starts}
use Rattle.pool_stops.proofs.OneConfigs.{StepsAs, behind_step, same_shapes, same_stamp, steps_as, within_step}
use Rattle.pool_stops.proofs.Reopening.{alone}
use Rattle.pool_stops.proofs.Runs.{none_before, none_was_out}
use Rattle.pool_stops.proofs.Steps.{used_below}
use Rattle.pool_stops.proofs.StoppedDisks.{label_for_own}
use Rattle.pool_stops.specs.Own.{IsOwn, disk_guids}
use Rattle.pool_stops.specs.OwnRunning.{AreOfSum, CreatedPoolsAreOnTheirDisks, HoldOwn, IsOnItsDisks, OpenedPoolsAreOnTheirDisks, RunsStayOnTheirDisks, StepsStayOnTheirDisks}
use Rattle.pool_stops.proofs.OwnHolding.{steps_stay_own}

-- ---- steps

abbrev has_sum : List PlainVdev → Uberblock → Type 0
has_sum vdevs u = u.guid_sum ≡ guid_sum vdevs

-- a plan's uberblock has the sum of the stamp
planned_sum : (pool : PoolIdentity) (vdevs : List PlainVdev) (digest : List ℕ) (old : CoreState) (v : View) (last : Uberblock) (before : List Uberblock)
    → IsRunningAs digest old v last before → IsOnItsDisks pool vdevs old last before → (plan : Planned) → old.commit.planned ≡ Some plan
    → has_sum vdevs plan.uberblock
planned_sum pool vdevs digest old v last before so on plan is =
    let s : State = old.commit in
    let backs : Backs s v = so.runs.represents.backs in
    let has : HasPlan s backs.blocks.planned plan v = subst (λ (o : Option Planned). IsPlanOf s backs.blocks.planned o v) is backs.blocks.plan in
    ap (λ (u : Uberblock). u.guid_sum) has.uberblock.is ∙ on.stamped

-- a step goes on so
record GoesOn (pool : PoolIdentity) (vdevs : List PlainVdev) (digest : List ℕ) (old : CoreState) (v : View) (new : CoreState) (w : View) (last : Uberblock)
    (before : List Uberblock) : Type 0 where
  pub so : StepsAs digest old v new w last before
  pub held : EachSince (length (disks_of old).calls) (HoldOwn pool vdevs (disks_of old).starts) (disks_of new).calls
  pub sums : AreOfSum vdevs so.on.stops.p
  pub on : IsOnItsDisks pool vdevs new so.on.later so.on.earlier

goes_on : RunningPoolsStepOn → StepsStayConfigured → (pool : PoolIdentity) (vdevs : List PlainVdev) (digest : List ℕ) (old new : CoreState) (v w : View)
    (step : Step) (given : Given) (reply : Reply) (last : Uberblock) (before : List Uberblock) → IsRunningAs digest old v last before
    → IsOnItsDisks pool vdevs old last before → Link old v step given reply new w → Moves step old.commit new.commit → NoneIsOut new.commit
    → GoesOn pool vdevs digest old v new w last before
goes_on law stay pool vdevs digest old new v w step given reply last before so on link moves none =
    let step_so = steps_as law stay digest old new v w step given reply last before so link moves none in
    let planned = planned_sum pool vdevs digest old v last before so on in
    let starts : (disks_of new).starts ≡ (disks_of old).starts = same_starts step old.commit new.commit moves in
    let held = steps_stay_own pool vdevs step old.commit new.commit v so.runs.whole so.runs.represents.backs moves on.count on.holds in
    record {
      so = step_so;
      held = held;
      sums = within_step (has_sum vdevs) old last before step_so.on.stops.p planned on.sums step_so.on.stops.which;
      on = record {
        allowed = on.allowed;
        shapes_are = subst (λ shapes. AreShapesOf vdevs 0 shapes) (sym (same_shapes step old.commit new.commit moves)) on.shapes_are;
        count = ap length starts ∙ on.count;
        holds = subst (λ s. HoldOwn pool vdevs s (disks_of new).calls) (sym starts) (held (disks_of new).calls (record { newer = []; is = refl; since = inl refl }));
        stamped = ap (λ st. st.guid_sum) (same_stamp step old.commit new.commit moves) ∙ on.stamped;
        sums = behind_step (has_sum vdevs) old v last before step_so.on.later step_so.on.earlier so.runs planned on.sums step_so.on.next;
      };
    }

-- ---- runs

record RunsOn (pool : PoolIdentity) (vdevs : List PlainVdev) (digest : List ℕ) (core : CoreState) (v : View) : Type 0 where
  pub last : Uberblock
  pub before : List Uberblock
  pub so : IsRunningAs digest core v last before
  pub on : IsOnItsDisks pool vdevs core last before

chain_on : RunningPoolsStepOn → StepsStayConfigured → (pool : PoolIdentity) (vdevs : List PlainVdev) (digest : List ℕ) (old : CoreState) (v : View) (steps : List Step)
    (givens : List Given) (replies : List Reply) (mid : CoreState) (between : View) (last : Uberblock) (before : List Uberblock)
    → IsRunningAs digest old v last before → IsOnItsDisks pool vdevs old last before → Chain old v steps givens replies mid between → NoneIsOut mid.commit
    → RunsOn pool vdevs digest mid between
chain_on law stay pool vdevs digest old v [] [] [] mid between last before so on chain none = record {
  last = last;
  before = before;
  so = subst (λ (p : CoreState × View). IsRunningAs digest p.0 p.1 last before) (λ i. (chain.0 i, chain.1 i)) so;
  on = subst (λ (core : CoreState). IsOnItsDisks pool vdevs core last before) chain.0 on;
}
chain_on law stay pool vdevs digest old v (step ∷ steps) (given ∷ givens) (reply ∷ replies) mid between last before so on chain none =
    let one = goes_on law stay pool vdevs digest old chain.0 v chain.1 step given reply last before so on chain.3 chain.4
    (none_before chain.0 chain.1 steps givens replies mid between chain.5 none) in
    chain_on law stay pool vdevs digest chain.0 chain.1 steps givens replies mid between one.so.on.later one.so.on.earlier one.so.so one.on chain.5 none
chain_on law stay pool vdevs digest old v steps givens replies mid between last before so on chain none = absurd chain

-- one step of them
pub steps_stay_on_their_disks : RunningPoolsStepOn → StepsStayConfigured → StepsStayOnTheirDisks
steps_stay_on_their_disks law stay pool vdevs digest old new v w step given reply last before so on link moves none =
    let it = goes_on law stay pool vdevs digest old new v w step given reply last before so on link moves none in
    record {
      stops = record {
        at = record { last = last; earlier = before; runs = so.runs; steps = it.so.on };
        lies = so.lies;
        one = it.so.one;
        held = it.so.held;
        on = it.so.so;
      };
      last_is = refl;
      before_is = refl;
      on = record { was = on; held = it.held; sums = it.sums; on = it.on };
    }

pub runs_stay_on_their_disks : RunningPoolsStepOn → StepsStayConfigured → RunsStayOnTheirDisks
runs_stay_on_their_disks law stay pool vdevs old mid new v between w steps replies step reply last before digest so on end none =
    let was : NoneIsOut mid.commit = none_was_out step mid.commit new.commit end.moves none in
    let led = chain_on law stay pool vdevs digest old v steps end.givens replies mid between last before so on end.before was in
    let it = steps_stay_on_their_disks law stay pool vdevs digest mid new between w step end.given reply led.last led.before led.so led.on end.link end.moves none in
    (it.stops, it.on)

-- ---- pools that were just made

-- the labels of a new pool have the guids of its disks
abbrev guid_in : PlainLabel → ℕ
guid_in l = l.guid

guids_with : (pool : PoolIdentity) (config : Config) (top : ℕ) (gs : List ℕ) → map guid_in (map (label_of pool config 1 3) (children_with top gs)) ≡ gs
guids_with pool config top [] = refl
guids_with pool config top (g ∷ gs) = ap (λ (rest : List ℕ). g ∷ rest) (guids_with pool config top gs)

guids_of : (pool : PoolIdentity) (config : Config) (vdevs : List PlainVdev) → map guid_in (map (label_of pool config 1 3) (children_of vdevs)) ≡ disk_guids vdevs
guids_of pool config [] = refl
guids_of pool config (v ∷ vdevs) =
    ap (map guid_in) (map-append (label_of pool config 1 3) (children_with v.guid v.children) (children_of vdevs))
    ∙ map-append guid_in (map (label_of pool config 1 3) (children_with v.guid v.children)) (map (label_of pool config 1 3) (children_of vdevs))
    ∙ (λ i. guids_with pool config v.guid v.children i ++ guids_of pool config vdevs i)

-- the label of the disk of a guid
record IsNewLabel (pool : PoolIdentity) (config : Config) (which guid : ℕ) : Type 0 where
  pub label : PlainLabel
  pub at : slice_get (map (label_of pool config 1 3) (children_of (config_view config))) which ≡ Some label
  pub own : IsOwn pool (config_view config) guid label

new_label : (pool : PoolIdentity) (config : Config) (which guid : ℕ) → slice_get (disk_guids (config_view config)) which ≡ Some guid → IsNewLabel pool config which guid
new_label pool config which guid named =
    let vdevs : List PlainVdev = config_view config in
    let named' : slice_get (map guid_in (map (label_of pool config 1 3) (children_of vdevs))) which ≡ Some guid =
    ap (λ xs. slice_get xs which) (guids_of pool config vdevs) ∙ named in
    let below : which < length (children_of vdevs) =
    omega (
      arith,
      slice_get_within (map guid_in (map (label_of pool config 1 3) (children_of vdevs))) which guid named',
      length-map (map (label_of pool config 1 3) (children_of vdevs)) guid_in,
      length-map (children_of vdevs) (label_of pool config 1 3),
    ) in
    let child = made_of (label_of pool config 1 3) (children_of vdevs) which below in
    let label : PlainLabel = label_of pool config 1 3 child.0 in
    let both : Some label.guid ≡ Some guid =
    sym (slice_get-map guid_in (map (label_of pool config 1 3) (children_of vdevs)) which ∙ ap (option_map guid_in) child.1) ∙ named' in
    let same : label.guid ≡ guid = cc in
    record { label = label; at = child.1; own = record { name_is = refl; pool_is = refl; guid_is = same; config_is = refl } }

pub created_pools_are_on_their_disks : CreatedPoolsAreOnTheirDisks
created_pools_are_on_their_disks old pool config u core is =
    let vdevs : List PlainVdev = config_view config in
    let guids : length (disk_guids vdevs) ≡ length (children_of vdevs) =
    ap length (sym (guids_of pool config vdevs)) ∙ length-map (map (label_of pool config 1 3) (children_of vdevs)) guid_in
    ∙ length-map (children_of vdevs) (label_of pool config 1 3) in
    let count : length (disks_of core).starts ≡ length (disk_guids vdevs) = ap length is.grew.starts ∙ sym is.may.count ∙ sym guids in
    record {
      allowed = is.may.allowed;
      shapes_are = subst (λ (shapes : List VdevShape). AreShapesOf vdevs 0 shapes) (sym is.vdevs) is.shapes_are;
      count = count;
      holds = λ which guid number named low.
          let new = new_label pool config which guid named in (
            new.label,
            record {
              shown = is.labeled which new.label new.at number low;
              clean = λ i inside. is.settled which (omega (arith, slice_get_within (disk_guids vdevs) which guid named, count)) _;
            },
            new.own,
          );
      stamped = ap (λ st. st.guid_sum) is.stamped ∙ is.first.guids;
      sums = λ w reach. ap (λ (x : Uberblock). x.guid_sum) (alone u w reach) ∙ is.first.guids;
    }

-- ---- pools that were opened

pub opened_pools_are_on_their_disks : OpenedPoolsAreOnTheirDisks
opened_pools_are_on_their_disks pool vdevs old shapes out rewind p pools claimed core are sums led is all honest =
    let can : CanOpen led.trees is.later old p = subst (λ (flags : List Bool). CanOpen led.trees flags old p) (sym all) led.can in
    let given = is.gives led.trees p can honest in
    let at : AreAt led.trees is.later (disks_of core) claimed [] = given.1 in
    let starts : (disks_of core).starts ≡ old.starts = is.calls.claims.makes.starts ∙ (through_made out is.later old is.calls.read is.calls.before).starts in
    let sum : claimed.guid_sum ≡ guid_sum vdevs = ap (λ (u : Uberblock). u.guid_sum) given.0.is ∙ sums given.0.taken given.0.reached in
    record {
      allowed = are.allowed;
      shapes_are = subst (λ (them : List VdevShape). AreShapesOf vdevs 0 them) (sym is.vdevs) are.shapes_are;
      count = ap length starts ∙ are.own.count;
      holds = λ which guid number named low.
          let below : which < length out = omega (arith, slice_get_within (disk_guids vdevs) which guid named, are.own.count, are.there.may.flags) in
          let used : InUse is.later which = subst (λ (flags : List Bool). InUse flags which) (sym all) (get_in_use out which below (are.there.none which)) in
          let it = is.relabels can.known honest which used in
          let flags : (disk : ℕ) → InUse is.later disk → disk < length old.starts =
          λ disk there. omega (arith, used_below out disk (subst (λ (them : List Bool). InUse them disk) all there), are.there.may.flags) in
          let own = label_for_own pool vdevs is.later old claimed which guid it.it.source it.source.own it.label flags are.own named it.source.shown it.source.from in (
            relabeled it.label claimed.claim claimed.group Active,
            record { shown = it.each number low; clean = λ i inside. at.settled which used _ },
            record { name_is = own.name_is; pool_is = own.pool_is; guid_is = own.guid_is; config_is = own.config_is },
          );
      stamped = ap (λ st. st.guid_sum) is.stamped ∙ sum;
      sums = λ w reach. ap (λ (x : Uberblock). x.guid_sum) (alone claimed w reach) ∙ sum;
    }
