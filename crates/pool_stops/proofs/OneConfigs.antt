-- Pools that run with one configuration.
use Rattle.std.proofs.Common.{◌≡◌, ⊎_elim, inl, inr, ℕ, Bool, List, [], ◌∷◌, length, Option, Some, sym, ap, subst, ◌∙◌, arith}
use Rattle.model_disk.specs.Joint.{bytes_of, content}
use Rattle.model_disk.specs.Runs.{EachSince}
use Rattle.block_store.specs.Opened.{MayBeOpened}
use Rattle.block_store.specs.Places.{shapes_of}
use Rattle.block_store.specs.declared.shape.VdevShape.{VdevShape}
use Rattle.uberblock_ring.specs.declared.uberblock.Uberblock.{Uberblock}
use Rattle.pool_create.specs.Backs.{Backs, HasPlan, IsPlanOf}
use Rattle.pool_create.specs.CommitState.{NoneIsOut, State}
use Rattle.pool_create.specs.CommitPlanned.{Planned}
use Rattle.pool_create.specs.Moves.{Moves}
use Rattle.pool_create.specs.CoreRuns.{Chain}
use Rattle.pool_create.specs.CoreState.{CoreState, disks_of}
use Rattle.pool_create.specs.CoreSteps.{Link}
use Rattle.pool_model.specs.View.{Given, View}
use Rattle.pool_model.specs.declared.step.Reply.{Reply}
use Rattle.pool_model.specs.declared.step.Step.{Step}
use Rattle.pool_model.specs.declared.step.Step.TheVariants.{Hold, Write, Act, Release, Close, Quiesce, Plan, Device, DiskOut, Read, ReadUnder}
use Rattle.pool_create.specs.OpenStops.{fresh}
use Rattle.pool_create.proofs.OpenThrough.{through_made}
use Rattle.pool_slots.specs.Commits.{only_last}
use Rattle.pool_slots.specs.Configs.{IsConfigured}
use Rattle.pool_slots.specs.Opens.{CanOpen, IsClaimOf}
use Rattle.pool_slots.specs.Possible.{IsInReach, Possible, held_by}
use Rattle.pool_slots.specs.Slots.{AreThere}
use Rattle.pool_stops.specs.Configured.{HoldConfigured, ShowsConfigured, StepsStayConfigured}
use Rattle.pool_stops.specs.Created.{CreatedPoolsRun}
use Rattle.pool_stops.specs.OneConfig.{AreOfConfig, CreatedPoolsRunAs, IsRunningAs, OpenedPoolsRunAs, RunsStopAs, StoppedExportsShowConfig, StoppedOpensAreOfConfig, StoppedOpensShowConfig, StoppedRunsShowConfig}
use Rattle.pool_stops.specs.Reopening.{LedDisksOpen}
use Rattle.pool_stops.specs.Running.{IsNextOf, IsPossibleOf, IsRunning, IsWhole, RunningPoolsStepOn, StepsOn}
use Rattle.pool_stops.proofs.LabelStops.{created_pools_are_configured, exports_stay_configured, opened_pools_are_configured, opens_stay_configured, shows_still}
use Rattle.pool_stops.proofs.Labels.{held_labels_are_left, same_starts}
use Rattle.pool_stops.proofs.Reopening.{alone, reach_behind}
use Rattle.pool_stops.proofs.Runs.{none_before, none_was_out}
use Rattle.pool_stops.proofs.Steps.{first_or, good, is_last_or_before, last_in_reach, used_below}

-- ---- the configuration of uberblocks

pub same_stamp : (step : Step) (old new : State) → Moves step old new → new.stamp ≡ old.stamp
same_stamp (Hold x) old new moves = ap (λ s. s.stamp) moves
same_stamp (Write x) old new moves = ap (λ s. s.stamp) moves
same_stamp (Act x) old new moves = ap (λ s. s.stamp) moves
same_stamp (Release x) old new moves = ap (λ s. s.stamp) moves
same_stamp Close old new moves = ap (λ s. s.stamp) moves
same_stamp Quiesce old new moves = ap (λ s. s.stamp) moves
same_stamp (Plan t) old new moves = ⊎_elim (λ same. ap (λ s. s.stamp) same) (λ plans. plans.from.stamp) moves
same_stamp Device old new moves = ⊎_elim (λ same. ap (λ s. s.stamp) same) (λ writes. writes.stamp) moves
same_stamp (DiskOut d) old new moves = ⊎_elim (λ same. ap (λ s. s.stamp) same) (λ takes. takes.stamp) moves
same_stamp (Read a b c) old new moves = ap (λ s. s.stamp) moves.rest
same_stamp (ReadUnder g a b c) old new moves = ap (λ s. s.stamp) moves.rest

-- ---- the vdevs and their disks

pub same_shapes : (step : Step) (old new : State) → Moves step old new → shapes_of new.store.spaces ≡ shapes_of old.store.spaces
same_shapes (Hold x) old new moves = ap (λ s. shapes_of s.store.spaces) moves
same_shapes (Write x) old new moves = ap (λ s. shapes_of s.store.spaces) moves
same_shapes (Act x) old new moves = ap (λ s. shapes_of s.store.spaces) moves
same_shapes (Release x) old new moves = ap (λ s. shapes_of s.store.spaces) moves
same_shapes Close old new moves = ap (λ s. shapes_of s.store.spaces) moves
same_shapes Quiesce old new moves = ap (λ s. shapes_of s.store.spaces) moves
same_shapes (Plan t) old new moves = ⊎_elim (λ same. ap (λ s. shapes_of s.store.spaces) same) (λ plans. plans.from.shapes) moves
same_shapes Device old new moves = ⊎_elim (λ same. ap (λ s. shapes_of s.store.spaces) same) (λ writes. writes.shapes) moves
same_shapes (DiskOut d) old new moves = ⊎_elim (λ same. ap (λ s. shapes_of s.store.spaces) same) (λ takes. takes.shapes) moves
same_shapes (Read a b c) old new moves = ap (λ s. shapes_of s.store.spaces) moves.rest
same_shapes (ReadUnder g a b c) old new moves = ap (λ s. shapes_of s.store.spaces) moves.rest

-- they lie on them still
lies_still : (step : Step) (old new : State) → Moves step old new → IsWhole new → MayBeOpened old.store.disks.starts (shapes_of old.store.spaces) old.store.out
    → MayBeOpened new.store.disks.starts (shapes_of new.store.spaces) new.store.out
lies_still step old new moves whole lies =
    let P : List (List ℕ) → List VdevShape → Type 0 = λ starts shapes. MayBeOpened starts shapes old.store.out in
    let there : MayBeOpened new.store.disks.starts (shapes_of new.store.spaces) old.store.out =
    subst (λ starts. P starts (shapes_of new.store.spaces)) (sym (same_starts step old new moves))
    (subst (λ shapes. P old.store.disks.starts shapes) (sym (same_shapes step old new moves)) lies) in
    record { some = there.some; few = there.few; lie = there.lie; flags = whole.count }

-- ---- the configuration of uberblocks to come

-- a plan's uberblock has that of the stamp
planned_config : (digest : List ℕ) (old : CoreState) (v : View) (last : Uberblock) (before : List Uberblock) → IsRunningAs digest old v last before
    → (plan : Planned) → old.commit.planned ≡ Some plan → plan.uberblock.config_digest ≡ digest
planned_config digest old v last before so plan is =
    let s : State = old.commit in
    let backs : Backs s v = so.runs.represents.backs in
    let has : HasPlan s backs.blocks.planned plan v = subst (λ (o : Option Planned). IsPlanOf s backs.blocks.planned o v) is backs.blocks.plan in
    ap (λ (u : Uberblock). u.config_digest) has.uberblock.is ∙ so.stamped

-- ---- what holds of each uberblock that an open may come to

abbrev pub AllInReach : (Uberblock → Type 0) → Possible → Type 0
AllInReach Q p = (u : Uberblock) → IsInReach p u → Q u

-- and of that of each plan
abbrev pub OfPlans : (Uberblock → Type 0) → CoreState → Type 0
OfPlans Q old = (plan : Planned) → old.commit.planned ≡ Some plan → Q plan.uberblock

-- holds behind the next group
behind_plan : (Q : Uberblock → Type 0) (old : CoreState) (v : View) (last : Uberblock) (before : List Uberblock) (plan : Planned)
    → IsRunning old v last before → old.commit.planned ≡ Some plan → OfPlans Q old → AllInReach Q (only_last last before)
    → AllInReach Q (only_last plan.uberblock (last ∷ before))
behind_plan Q old v last before plan runs is planned all u reach =
    let next = (good old v plan last before runs is).next in
    ⊎_elim
    (λ same. subst Q (sym same) (planned plan is))
    (λ earlier. ⊎_elim
    (λ same. subst Q (sym same) (all last (last_in_reach last before)))
    (λ among.
    let claim : u.claim ≡ last.claim = earlier.claim ∙ next.0 in
    let low = runs.lower u among claim in
    all u (inr (record { among = among; claim = claim; lower = low; near = omega (arith, next.1, earlier.near) })))
    (first_or last before u earlier.among))
    (is_last_or_before plan.uberblock (last ∷ before) u reach)

pub behind_step : (Q : Uberblock → Type 0) (old : CoreState) (v : View) (last : Uberblock) (before : List Uberblock) (later : Uberblock)
    (earlier : List Uberblock) → IsRunning old v last before → OfPlans Q old → AllInReach Q (only_last last before)
    → IsNextOf old.commit last before later earlier → AllInReach Q (only_last later earlier)
behind_step Q old v last before later earlier runs planned all (inl (last_is, before_is)) =
    subst (λ (u : Uberblock). AllInReach Q (only_last u earlier)) (sym last_is)
    (subst (λ (us : List Uberblock). AllInReach Q (only_last last us)) (sym before_is) all)
behind_step Q old v last before later earlier runs planned all (inr (plan, is, last_is, before_is)) =
    subst (λ (u : Uberblock). AllInReach Q (only_last u earlier)) (sym last_is)
    (subst (λ (us : List Uberblock). AllInReach Q (only_last plan.uberblock us)) (sym before_is) (behind_plan Q old v last before plan runs is planned all))

-- and wherever a step is stopped
pub within_step : (Q : Uberblock → Type 0) (old : CoreState) (last : Uberblock) (before : List Uberblock) (p : Possible) → OfPlans Q old
    → AllInReach Q (only_last last before) → IsPossibleOf old.commit last before p → AllInReach Q p
within_step Q old last before p planned all (inl is) = subst (λ (q : Possible). AllInReach Q q) (sym is) all
within_step Q old last before p planned all (inr (plan, at, is)) =
    subst (λ (q : Possible). AllInReach Q q) (sym is)
    (λ u reach. ⊎_elim
    (λ among. ⊎_elim
    (λ same. subst Q (sym same) (all last (last_in_reach last before)))
    (λ rest. ⊎_elim
    (λ same. subst Q (sym same) (planned plan at))
    (λ none. absurd (omega (arith, none.1)))
    (first_or plan.uberblock [] u rest))
    (first_or last (plan.uberblock ∷ []) u among))
    (λ is_before. all u (inr is_before)) reach)

abbrev of_digest : List ℕ → Uberblock → Type 0
of_digest digest u = u.config_digest ≡ digest

-- ---- steps and runs

pub record StepsAs (digest : List ℕ) (old : CoreState) (v : View) (new : CoreState) (w : View) (last : Uberblock) (before : List Uberblock) : Type 0 where
  pub on : StepsOn old v new w last before
  pub held : EachSince (length (disks_of old).calls) (HoldConfigured old.commit.store.out (disks_of old).starts digest) (disks_of new).calls
  pub one : AreOfConfig digest on.stops.p
  pub so : IsRunningAs digest new w on.later on.earlier

pub steps_as : RunningPoolsStepOn → StepsStayConfigured → (digest : List ℕ) (old new : CoreState) (v w : View) (step : Step) (given : Given) (reply : Reply)
    (last : Uberblock) (before : List Uberblock) → IsRunningAs digest old v last before → Link old v step given reply new w
    → Moves step old.commit new.commit → NoneIsOut new.commit → StepsAs digest old v new w last before
steps_as law stay digest old new v w step given reply last before so link moves none =
    let on = law old new v w step given reply last before so.runs link moves none in
    let held = stay old.commit new.commit v step digest so.runs.whole so.runs.represents.backs moves so.shows in
    record {
      on = on;
      held = held;
      one = within_step (of_digest digest) old last before on.stops.p (planned_config digest old v last before so) so.one on.stops.which;
      so = record {
        runs = on.runs;
        lies = lies_still step old.commit new.commit moves on.runs.whole so.lies;
        stamped = ap (λ st. st.config_digest) (same_stamp step old.commit new.commit moves) ∙ so.stamped;
        one = behind_step (of_digest digest) old v last before on.later on.earlier so.runs (planned_config digest old v last before so) so.one on.next;
        shows = shows_still old.commit new.commit digest so.runs.whole on.runs.whole (same_starts step old.commit new.commit moves) held;
      };
    }

-- a chain of steps
record RunsAs (digest : List ℕ) (core : CoreState) (v : View) : Type 0 where
  pub last : Uberblock
  pub before : List Uberblock
  pub so : IsRunningAs digest core v last before

chain_as : RunningPoolsStepOn → StepsStayConfigured → (digest : List ℕ) (old : CoreState) (v : View) (steps : List Step) (givens : List Given)
    (replies : List Reply) (mid : CoreState) (between : View) (last : Uberblock) (before : List Uberblock) → IsRunningAs digest old v last before
    → Chain old v steps givens replies mid between → NoneIsOut mid.commit → RunsAs digest mid between
chain_as law stay digest old v [] [] [] mid between last before so chain none = record {
  last = last;
  before = before;
  so = subst (λ (p : CoreState × View). IsRunningAs digest p.0 p.1 last before) (λ i. (chain.0 i, chain.1 i)) so;
}
chain_as law stay digest old v (step ∷ steps) (given ∷ givens) (reply ∷ replies) mid between last before so chain none =
    let one = steps_as law stay digest old chain.0 v chain.1 step given reply last before so chain.3 chain.4
    (none_before chain.0 chain.1 steps givens replies mid between chain.5 none) in
    chain_as law stay digest chain.0 chain.1 steps givens replies mid between one.on.later one.on.earlier one.so chain.5 none
chain_as law stay digest old v steps givens replies mid between last before so chain none = absurd chain

pub runs_stop_as : RunningPoolsStepOn → StepsStayConfigured → RunsStopAs
runs_stop_as law stay old mid new v between w steps replies step reply last before digest so end none =
    let was : NoneIsOut mid.commit = none_was_out step mid.commit new.commit end.moves none in
    let led = chain_as law stay digest old v steps end.givens replies mid between last before so end.before was in
    let last_step = steps_as law stay digest mid new between w step end.given reply led.last led.before led.so end.link end.moves none in
    record {
      at = record { last = led.last; earlier = led.before; runs = led.so.runs; steps = last_step.on };
      lies = led.so.lies;
      one = last_step.one;
      held = last_step.held;
      on = last_step.so;
    }

-- images that show it show the same of an uberblock that has it
shows_of : (images : List (List ℕ)) (which : ℕ) (digest other : List ℕ) → IsConfigured (length (bytes_of images which)) (held_by images which) digest
    → other ≡ digest → IsConfigured (length (bytes_of images which)) (content (fresh images) which) other
shows_of images which digest other it same = record {
  number = it.number;
  label = it.label;
  shown = record { is_label = it.shown.is_label; valid = it.shown.valid; bytes = λ i below. it.shown.bytes i below };
  config = it.config ∙ sym same;
}

pub stopped_runs_show_config : StoppedRunsShowConfig
stopped_runs_show_config digest mid between new w images u which stops leaves reach used =
    let s : State = mid.commit in
    let there : AreThere s.store.out s.store.disks.starts = λ disk in_use. omega (arith, used_below s.store.out disk in_use, stops.at.runs.whole.count) in
    let held = stops.held leaves.calls leaves.moment in
    let it = held_labels_are_left s.store.out s.store.disks.starts digest leaves.calls there held images leaves.left which used in
    shows_of images which digest u.config_digest it (stops.one u reach)

-- ---- where runs begin

pub created_pools_run_as : CreatedPoolsRun → CreatedPoolsRunAs
created_pools_run_as law old pool config u core is known honest some few = record {
  runs = law old pool config u core is known honest some few;
  lies = subst (λ (shapes : List VdevShape). MayBeOpened (disks_of core).starts shapes core.commit.store.out) (sym is.vdevs)
      (subst (λ (starts : List (List ℕ)). MayBeOpened starts is.shapes core.commit.store.out) (sym is.grew.starts)
      (subst (λ (flags : List Bool). MayBeOpened old.starts is.shapes flags) (sym is.outs) (is.may.lie is.shapes is.shapes_are)));
  stamped = ap (λ st. st.config_digest) is.stamped;
  one = λ w reach. ap (λ (x : Uberblock). x.config_digest) (alone u w reach);
  shows = created_pools_are_configured old pool config u core is;
}

claim_config : (digest : List ℕ) (p : Possible) (rewind : ℕ) (u : Uberblock) → AreOfConfig digest p → IsClaimOf p rewind u → u.config_digest ≡ digest
claim_config digest p rewind u one claim = ap (λ (x : Uberblock). x.config_digest) claim.is ∙ one claim.taken claim.reached

pub opened_pools_run_as : LedDisksOpen → OpenedPoolsRunAs
opened_pools_run_as law old shapes out rewind p pools claimed core digest one led is all none few named honest =
    let well = law old shapes out rewind p pools claimed core led is all none few named honest in
    let same : claimed.config_digest ≡ digest = claim_config digest p rewind claimed one well.opened.claim in
    let starts : (disks_of core).starts ≡ old.starts = is.calls.claims.makes.starts ∙ (through_made out is.later old is.calls.read is.calls.before).starts in
    let can : CanOpen led.trees is.later old p = subst (λ (flags : List Bool). CanOpen led.trees flags old p) (sym all) led.can in
    record {
      well = well;
      runs = record {
        runs = well.runs;
        lies = subst (λ (them : List VdevShape). MayBeOpened (disks_of core).starts them core.commit.store.out) (sym is.vdevs)
            (subst (λ (starts : List (List ℕ)). MayBeOpened starts shapes core.commit.store.out) (sym starts)
            (subst (λ (flags : List Bool). MayBeOpened old.starts shapes flags) (sym (is.outs ∙ all)) is.may));
        stamped = ap (λ st. st.config_digest) is.stamped ∙ same;
        one = λ w reach. ap (λ (x : Uberblock). x.config_digest) (alone claimed w reach) ∙ same;
        shows = subst (λ (d : List ℕ). ShowsConfigured core.commit d) same
            (opened_pools_are_configured led.trees old shapes out rewind p claimed core is can honest);
      };
    }

pub stopped_opens_are_of_config : StoppedOpensAreOfConfig
stopped_opens_are_of_config p later rewind digest one (inl same) = subst (λ (q : Possible). AreOfConfig digest q) (sym same) one
stopped_opens_are_of_config p later rewind digest one (inr (u, claim, same)) =
    subst (λ (q : Possible). AreOfConfig digest q) (sym same)
    (λ w reach. ⊎_elim
    (λ is. ap (λ (x : Uberblock). x.config_digest) is ∙ claim_config digest p rewind u one claim)
    (λ was. one w was) (reach_behind p u w reach))

pub stopped_opens_show_config : StoppedOpensShowConfig
stopped_opens_show_config digest old new shapes out rewind p later pools images u which few one led configured four showing kept honest leaves behind reach used =
    let left = opens_stay_configured led.trees old new out rewind p digest few led.can one four showing kept honest configured leaves.calls leaves.moment in
    shows_of images which digest u.config_digest (left images leaves.left which used) (stopped_opens_are_of_config p later rewind digest one behind u reach)

-- ---- exports

pub stopped_exports_show_config : StoppedExportsShowConfig
stopped_exports_show_config digest core v last before exported new images u which so begun leaves reach used =
    let same : exported.config_digest ≡ digest = ap (λ (x : Uberblock). x.config_digest) begun.last.is ∙ so.stamped in
    let shows : ShowsConfigured core.commit exported.config_digest = subst (λ (d : List ℕ). ShowsConfigured core.commit d) (sym same) so.shows in
    let left = exports_stay_configured core v last before exported new so.runs begun shows leaves.calls leaves.moment in
    shows_of images which exported.config_digest u.config_digest (left images leaves.left which used) (so.one u reach ∙ sym same)
