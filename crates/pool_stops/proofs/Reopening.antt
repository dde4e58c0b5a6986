-- Disks that a stop leaves, and what an open makes of them.
use Rattle.std.proofs.Common.{ℕ, suc, ◌≡◌, ◌⊎◌, inl, inr, ⊎_elim, ◌+◌, ◌<◌, ◌≤◌, Bool, false, List, [], ◌∷◌, length, Option, Some, None, Contains, refl, sym, ap, subst, ◌∙◌, arith, true≢false}
use Rattle.std.specs.Prelude.{◌-◌, ◌^◌, map}
use Rattle.std.proofs.lemmas.List.Elements.{Contains-append_left, Contains-append_right}
use Rattle.std.proofs.lemmas.List.{length-map}
use Rattle.model_disk.specs.Joint.{JointCall, MayLeaveAll, bytes_of, content}
use Rattle.block_store.specs.Places.{shapes_of}
use Rattle.block_store.specs.Opened.{LieOn, MayBeOpened}
use Rattle.block_store.specs.Store.{is_out}
use Rattle.block_store.specs.declared.shape.VdevShape.{VdevShape}
use Rattle.block_store.proofs.Reopening.{is_opened}
use Rattle.uberblock_ring.specs.declared.uberblock.Uberblock.{Uberblock}
use Rattle.pool_create.specs.CommitPlanned.{Planned}
use Rattle.pool_create.specs.Backs.{Backs, HasPlan, IsPlanOf}
use Rattle.pool_create.specs.CommitState.{State}
use Rattle.pool_create.specs.Spans.{HaveNoSpans, NoneIsStale}
use Rattle.pool_create.proofs.CommitLabels.{labels_of_opened_lie}
use Rattle.pool_create.proofs.CommitPlanning.{in_counted}
use Rattle.pool_create.specs.CoreState.{disks_of}
use Rattle.block_store.specs.Blocks.{Contents}
use Rattle.pool_model.specs.Pools.{PlainPool}
use Rattle.pool_export.specs.Moments.{IsLeading}
use Rattle.pool_model.specs.View.{View, Idle, counted, is_syncing, none_stale, opened_as}
use Rattle.pool_model.specs.View.{disks_of as disks_in_vdevs}
use Rattle.pool_create.specs.OpenStops.{fresh}
use Rattle.pool_create.specs.Trees.{IsConfiguredFor, IsOpenedFor, IsTreeOf, OpensPossible}
use Rattle.pool_create.specs.Words.{vdevs_in}
use Rattle.pool_create.proofs.OpenStops.{stopped_can_be_opened}
use Rattle.pool_create.proofs.OpenThrough.{through_made}
use Rattle.pool_slots.specs.Commits.{AreAt, AreOffLabels, LeadAlways, only_last}
use Rattle.pool_slots.specs.Opens.{CanOpen, OpenGives, also_begun}
use Rattle.pool_slots.specs.PhaseLaws.{BlocksBegin, BlocksEnd}
use Rattle.pool_slots.specs.Phases.{AreInBlocks}
use Rattle.pool_slots.specs.Possible.{IsInReach, Leads, Possible, Trees, held_by}
use Rattle.pool_slots.specs.Slots.{AreSettled, InUse, IsOffLabels}
use Rattle.volume_rules.specs.NowMoves.{IsMadeBy}
use Rattle.pool_stops.specs.Filled.{is_filled}
use Rattle.pool_stops.specs.Reopening.{LedDisksOpen, RunsOutliveStops, StoppedExportsLead, StoppedOpensLead, StoppedStepsLead}
use Rattle.pool_stops.specs.Running.{IsBetween, IsOfKept, IsWhole, RunsStopWell, StandAt, StopsAt, pool_of}
use Rattle.pool_stops.specs.Standing.{filled_trees}
use Rattle.pool_stops.proofs.Commits.{group_at_last}
use Rattle.pool_stops.proofs.Holding.{get_in_use}
use Rattle.pool_stops.proofs.Filled.{filled_bytes_are_for_blocks}
use Rattle.pool_stops.proofs.Standing.{picked_off}
use Rattle.pool_stops.proofs.Steps.{first_or, is_last_or_before, tree_with, used_below}
use Rattle.pool_stops.proofs.Trees.{at_with, picked_stand}

-- ---- images are as long as the disks

same_sizes : (images starts : List (List ℕ)) → length images ≡ length starts
    → ((which : ℕ) → which < length starts → length (bytes_of images which) ≡ length (bytes_of starts which)) → map length images ≡ map length starts
same_sizes [] [] count each = refl
same_sizes [] (start ∷ starts) count each = absurd (cc)
same_sizes (image ∷ images) [] count each = absurd (cc)
same_sizes (image ∷ images) (start ∷ starts) count each =
    let rest : length images ≡ length starts = omega (arith, count) in
    let first : length image ≡ length start = each 0 (omega arith) in
    (λ i. first i ∷ same_sizes images starts rest (λ which below. each (suc which) (omega (arith, below))) i)

pub left_sizes : (starts : List (List ℕ)) (calls : List JointCall) (images : List (List ℕ)) → MayLeaveAll starts calls images → map length images ≡ map length starts
left_sizes starts calls images left = same_sizes images starts left.count (λ which below. (left.each which below).size)

-- trees of pools, on disks of the same sizes
tree_on : (trees : Trees) (starts others : List (List ℕ)) (shapes : List VdevShape) (out : List Bool) (u : Uberblock) (pool : PlainPool) → map length others ≡ map length starts
    → IsTreeOf trees starts shapes out u pool → IsTreeOf trees others shapes out u pool
tree_on trees starts others shapes out u pool sizes tree = record {
  stored = tree.stored;
  spells = tree.spells;
  untouched = tree.untouched;
  mapped = tree.mapped;
  configured = tree.configured;
  made = tree.made;
  held = λ disks away many. tree.held disks away (many ∙ sym (length-map others length) ∙ ap length sizes ∙ length-map starts length);
}

off_on : (trees : Trees) (out : List Bool) (starts : List (List ℕ)) (calls : List JointCall) (images : List (List ℕ)) → length out ≡ length starts
    → MayLeaveAll starts calls images → AreOffLabels trees out starts → AreOffLabels trees out images
off_on trees out starts calls images count left off root which i value used is =
    let below : which < length starts = omega (arith, used_below out which used, count) in
    subst (λ (size : ℕ). IsOffLabels size i) (sym (left.each which below).size) (off root which i value used is)

-- images that lead somewhere may be opened
pub lead_on : (trees : Trees) (out : List Bool) (starts : List (List ℕ)) (calls : List JointCall) (images : List (List ℕ)) (p : Possible) → (which : ℕ) × InUse out which
    → length out ≡ length starts → MayLeaveAll starts calls images → AreOffLabels trees out starts → Leads trees out images (held_by images) p → CanOpen trees out (fresh images) p
lead_on trees out starts calls images p some count left off leads =
    stopped_can_be_opened trees out p images some (λ which used. omega (arith, used_below out which used, count, left.count))
    (off_on trees out starts calls images count left off) leads

-- ---- stopped steps

pub stopped_steps_lead : StoppedStepsLead
stopped_steps_lead s v new last before images whole stops leaves =
    let used : InUse s.store.out 0 = get_in_use s.store.out 0 (omega (arith, whole.some, whole.count)) (whole.none 0) in
    record {
      trees = stops.trees;
      can = lead_on stops.trees s.store.out s.store.disks.starts leaves.calls images stops.p (0, used) whole.count leaves.left stops.off_labels
          (stops.always leaves.calls leaves.moment images leaves.left leaves.untorn);
      tree = λ u reach.
          tree_on stops.trees s.store.disks.starts images (shapes_of s.store.spaces) s.store.out u (pool_of v u)
          (left_sizes s.store.disks.starts leaves.calls images leaves.left) (stops.tree u reach);
    }

-- ---- stopped opens

-- under another claim it names the same configuration
configured_under : (taken : Uberblock) (claim : ℕ) (stored : Contents) (pool : PlainPool) → IsConfiguredFor taken stored pool
    → IsConfiguredFor (record taken { claim = claim }) stored pool
configured_under taken claim stored pool is = (is.0, is.1, is.2, record { claim_is = refl; guids = is.3.guids; digest = is.3.digest })

-- a claim of an uberblock has its tree
claimed_tree : (trees : Trees) (starts : List (List ℕ)) (shapes : List VdevShape) (out : List Bool) (taken u : Uberblock) (pool : PlainPool) → u ≡ record taken { claim = u.claim }
    → IsTreeOf trees starts shapes out taken pool → IsTreeOf trees starts shapes out u pool
claimed_tree trees starts shapes out taken u pool is tree =
    let here : IsTreeOf trees starts shapes out (record taken { claim = u.claim }) pool = record {
      stored = tree.stored;
      spells = tree.spells;
      untouched = tree.untouched;
      mapped = tree.mapped;
      configured = configured_under taken u.claim tree.stored pool tree.configured;
      made = tree.made;
      held = tree.held;
    } in
    subst (λ (w : Uberblock). IsTreeOf trees starts shapes out w pool) (sym is) here

pub reach_behind : (p : Possible) (u w : Uberblock) → IsInReach (also_begun u p) w → (w ≡ u) ⊎ IsInReach p w
reach_behind p u w (inr before) = inr (inr before)
reach_behind p u w (inl among) = ⊎_elim
    (λ same. inr (inl (0, omega arith, sym same)))
    (λ rest. ⊎_elim (λ same. inl same) (λ begun. inr (inl (suc begun.0, omega (arith, begun.1), begun.2))) (first_or u p.begun w rest))
    (first_or p.last (u ∷ p.begun) w among)

pub stopped_opens_lead : StoppedOpensLead
stopped_opens_lead old new shapes out rewind p pools images count by_group led kept honest leaves =
    let sizes = left_sizes old.starts leaves.calls images leaves.left in
    let trees : Trees = led.trees in
    let can : (q : Possible) → LeadAlways trees out old new q → CanOpen trees out (fresh images) q =
    λ q always. lead_on trees out old.starts leaves.calls images q led.can.some count leaves.left led.can.off_labels
    (always leaves.calls leaves.moment images leaves.left leaves.untorn) in
    ⊎_elim
    (λ always. (
      p,
      inl refl,
      record {
        trees = trees;
        can = can p always;
        tree = λ u reach. tree_on trees old.starts images shapes out u (pools u) sizes (led.tree u reach);
      },
    ))
    (λ (claim, is, always). (
      also_begun claim p,
      inr (claim, is, refl),
      record {
        trees = trees;
        can = can (also_begun claim p) always;
        tree = λ w reach. tree_on trees old.starts images shapes out w (pools w) sizes (⊎_elim
            (λ same.
            subst (λ (x : Uberblock). IsTreeOf trees old.starts shapes out x (pools x)) (sym same)
            (subst (λ (pool : PlainPool). IsTreeOf trees old.starts shapes out claim pool) (by_group is.taken claim (sym (ap (λ (x : Uberblock). x.group) is.is)))
            (claimed_tree trees old.starts shapes out is.taken claim (pools is.taken) is.is (led.tree is.taken is.reached))))
            (λ was. led.tree w was) (reach_behind p claim w reach));
      },
    ))
    (kept.leads trees p led.can honest)

-- ---- vdevs that take all disks

covered_from : (shapes : List VdevShape) (starts : List (List ℕ)) (first disk : ℕ) → LieOn starts first shapes → first ≤ disk → disk < length starts
    → Contains (disks_in_vdevs (vdevs_in shapes)) disk
covered_from [] starts first disk end from below = absurd (omega (arith, end, from, below))
covered_from (shape ∷ shapes) starts first disk lie from below = ⊎_elim
    (λ inside.
    let child : (k : ℕ) × (k < shape.vdev.geometry.children) × (disk ≡ shape.vdev.first + k) = at_child shape.vdev.first shape.vdev.geometry.children disk (omega (arith, lie.0, from)) (omega (arith, lie.0, inside)) in
    Contains-append_left (counted shape.vdev.first shape.vdev.geometry.children) (disks_in_vdevs (vdevs_in shapes)) disk
    (subst (λ n. Contains (counted shape.vdev.first shape.vdev.geometry.children) n) (sym child.2) (in_counted shape.vdev.first shape.vdev.geometry.children child.0 child.1)))
    (λ behind.
    Contains-append_right (counted shape.vdev.first shape.vdev.geometry.children) (disks_in_vdevs (vdevs_in shapes)) disk
    (covered_from shapes starts (first + shape.vdev.geometry.children) disk lie.2 behind below))
    (compared disk (first + shape.vdev.geometry.children))
  where
    compared : (a b : ℕ) → (a < b) ⊎ (b ≤ a)
    compared a b = grind arith

    at_child : (first n disk : ℕ) → first ≤ disk → disk < first + n → (k : ℕ) × (k < n) × (disk ≡ first + k)
    at_child first n disk from below = (disk - first, omega (arith, from, below), omega (arith, from))

-- with no disk out and none stale, and the vdevs that it was opened with
pub whole_opened : (s : State) (shapes : List VdevShape) → shapes_of s.store.spaces ≡ shapes → MayBeOpened s.store.disks.starts shapes s.store.out → length s.store.disks.starts ≤ 2 ^ 64
    → ((disk : ℕ) → is_out s.store.out disk ≡ false) → 0 < length s.store.disks.starts → NoneIsStale s → HaveNoSpans s → IsWhole s
whole_opened s shapes vdevs may few none some fresh untouched =
    let is = is_opened s.store shapes vdevs may.lie may.few few in
    record {
      none = none;
      fresh = fresh;
      untouched = untouched;
      count = may.flags;
      some = some;
      covered = λ disk there.
          subst (λ (them : List VdevShape). Contains (disks_in_vdevs (vdevs_in them)) disk) (sym vdevs)
          (covered_from shapes s.store.disks.starts 0 disk may.lie (omega arith) there);
      lie = record {
        laid = is.laid_out;
        labels = labels_of_opened_lie s.store (subst (λ (them : List VdevShape). MayBeOpened s.store.disks.starts them s.store.out) (sym vdevs) may);
      };
    }

-- ---- opens that are done

pub no_plan : (s : State) (v : View) (planned : Option Planned) → (backs : Backs s v) → s.planned ≡ planned → v.sync ≡ Idle → s.planned ≡ None
no_plan s v None backs is idle = is
no_plan s v (Some plan) backs is idle =
    let has : HasPlan s backs.blocks.planned plan v = subst (λ (o : Option Planned). IsPlanOf s backs.blocks.planned o v) is backs.blocks.plan in
    absurd (let e = sym idle ∙ has.sync in cc)

pub alone : (u w : Uberblock) → IsInReach (only_last u []) w → w ≡ u
alone u w reach = ⊎_elim (λ same. same) (λ before. absurd (omega (arith, before.among.1))) (is_last_or_before u [] w reach)

pub led_disks_open : BlocksBegin → LedDisksOpen
led_disks_open begin old shapes out rewind p pools claimed core led is all none few named honest =
    let out_is : core.commit.store.out ≡ out = is.outs ∙ all in
    let starts : (disks_of core).starts ≡ old.starts = is.calls.claims.makes.starts ∙ (through_made out is.later old is.calls.read is.calls.before).starts in
    let below = used_below out led.can.some.0 led.can.some.1 in
    let possible = subst (λ (them : List Bool). OpensPossible old is.calls.before.surveyed is.calls.read shapes them rewind claimed core) all is.possible in
    let opened : IsOpenedFor p pools shapes out rewind claimed core = possible led.trees p pools led.can led.tree named (inl honest) in
    let whole : IsWhole core.commit =
    whole_opened core.commit shapes is.vdevs
    (subst (λ (them : List (List ℕ)). MayBeOpened them shapes core.commit.store.out) (sym starts) (subst (λ (flags : List Bool). MayBeOpened old.starts shapes flags) (sym out_is) is.may))
    (omega (arith, few, ap length starts)) (λ disk. ap (λ flags. is_out flags disk) out_is ∙ none disk) (omega (arith, below, is.may.flags, ap length starts)) opened.fresh
    opened.untouched in
    let gives = subst (λ (them : List Bool). OpenGives them rewind old claimed (disks_of core)) all is.gives in
    let at : AreAt led.trees out (disks_of core) claimed [] = (gives led.trees p led.can honest).1 in
    let s : State = core.commit in
    let trees : Trees = filled_trees s.store.spaces s.store.disks in
    let v : View = opened_as (vdevs_in shapes) (is_out out) none_stale opened.claim.taken.group (pools opened.claim.taken) in
    let here : AreAt trees out (disks_of core) claimed [] =
    at_with led.trees trees out (disks_of core) claimed [] (λ u. picked_stand (is_filled s.store.spaces) out (content s.store.disks) u.root) at in
    let group : claimed.group ≡ opened.claim.taken.group = ap (λ (x : Uberblock). x.group) opened.claim.is in
    let backs : Backs s v = opened.represents.backs in
    let unplanned : s.planned ≡ None = no_plan s v s.planned backs refl refl in
    let phase : AreInBlocks trees s.store.out s.store.disks claimed [] =
    subst (λ (them : List Bool). AreInBlocks trees them s.store.disks claimed []) (sym out_is) (begin trees out s.store.disks claimed [] here) in
    record {
      opened = opened;
      runs = record {
        represents = opened.represents;
        whole = whole;
        claim = ap (λ st. st.claim) (sym is.stamped);
        group = group;
        lower = λ u among. absurd (omega (arith, among.1));
        kept = λ u reach. subst (λ (x : Uberblock). IsOfKept s v x) (sym (alone claimed u reach)) (record {
          kept = s.kept.last;
          is = group_at_last s.kept claimed.group (group ∙ sym backs.committed);
          root = is.root;
          stamped = sym is.stamped;
          made = subst (λ n. IsMadeBy n (pools opened.claim.taken)) (sym group) opened.represents.follows.made;
        });
        stand = subst (λ (o : Option Planned). StandAt s o claimed []) (sym unplanned) (record {
          blocks = phase;
          settled = subst (λ (them : List Bool). AreSettled them s.store.disks.calls) (sym out_is) here.settled;
        });
      };
    }

-- ---- the whole

pub runs_outlive : RunsStopWell → LedDisksOpen → RunsOutliveStops
runs_outlive stops opens old mid new v between w steps replies step reply last before images rewind claimed core runs end none leaves reopened =
    let at = stops old mid new v between w steps replies step reply last before runs end none in
    let s : State = mid.commit in
    let stop : StopsAt s between (disks_of new) at.last at.earlier = at.steps.stops in
    let led = stopped_steps_lead s between (disks_of new) at.last at.earlier images at.runs.whole stop leaves in
    record {
      last = at.last;
      before = at.earlier;
      runs = at.runs;
      p = stop.p;
      which = stop.which;
      opened = opens (fresh images) (shapes_of s.store.spaces) s.store.out rewind stop.p (pool_of between) claimed core led reopened.opened reopened.all
          at.runs.whole.none reopened.few reopened.named reopened.honest;
    }

-- ---- exports

pub is_planned_so : (s : State) (v : View) (planned : Option Planned) → (backs : Backs s v) → s.planned ≡ planned → is_syncing v.sync ≡ false → s.planned ≡ None
is_planned_so s v None backs is at_rest = is
is_planned_so s v (Some plan) backs is at_rest =
    let has : HasPlan s backs.blocks.planned plan v = subst (λ (o : Option Planned). IsPlanOf s backs.blocks.planned o v) is backs.blocks.plan in
    absurd (true≢false (sym (ap is_syncing has.sync) ∙ at_rest))

pub stopped_exports_lead : BlocksEnd → StoppedExportsLead
stopped_exports_lead ends core v last before u new images runs begun leaves =
    let s : State = core.commit in
    let out : List Bool = s.store.out in
    let trees : Trees = filled_trees s.store.spaces s.store.disks in
    let none : s.planned ≡ None = is_planned_so s v s.planned runs.represents.backs refl (begun.exportable v runs.represents).at_rest.unsynced in
    let between : IsBetween s last before = subst (λ (o : Option Planned). StandAt s o last before) none runs.stand in
    let at : AreAt trees out s.store.disks last before = ends trees out s.store.disks last before between.blocks between.settled in
    let off : AreOffLabels trees out s.store.disks.starts =
    picked_off (is_filled s.store.spaces) (content s.store.disks) s.store.disks.starts s.store.spaces out runs.whole.lie (filled_bytes_are_for_blocks s.store.spaces) in
    let used : InUse out 0 = get_in_use out 0 (omega (arith, runs.whole.some, runs.whole.count)) (runs.whole.none 0) in
    let leading : IsLeading trees out s.store.disks (only_last last before) = record { off_labels = off; settled = at.settled; leads = at.leads } in
    record {
      trees = trees;
      can = lead_on trees out s.store.disks.starts leaves.calls images (only_last last before) (0, used) runs.whole.count leaves.left off
          (begun.leads trees (only_last last before) leading leaves.calls leaves.moment images leaves.left leaves.untorn);
      tree = λ w reach.
          tree_on trees s.store.disks.starts images (shapes_of s.store.spaces) out w (pool_of v w) (left_sizes s.store.disks.starts leaves.calls images leaves.left)
          (tree_with s v last before core refl runs w reach).tree;
    }
