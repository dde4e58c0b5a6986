-- The configuration of pools that are made, run, opened and exported.
use Rattle.std.proofs.Common.{ℕ, ◌≡◌, ◌⊎◌, ⊎_elim, inl, inr, ◌<◌, Bool, false, List, [], length, slice_get, Option, Some, None, refl, sym, ap, subst, ◌∙◌, arith}
use Rattle.std.proofs.lemmas.List.{length-replicate}
use Rattle.std.proofs.lemmas.Option.{slice_get-map}
use Rattle.std.specs.Prelude.{map, option_map}
use Rattle.model_disk.specs.Joint.{Disks, JointCall, bytes_of, content}
use Rattle.model_disk.specs.Runs.{EachSince, Makes, no_write}
use Rattle.model_disk.proofs.RunLemmas.{each_of_run, each_weaker}
use Rattle.raidz_io.proofs.Written.{slice_get_some}
use Rattle.uberblock_ring.specs.Ranking.{IsRewound, RanksUpTo}
use Rattle.uberblock_ring.specs.declared.uberblock.Uberblock.{Uberblock}
use Rattle.uberblock_ring.proofs.Ranks.{ranks_through}
use Rattle.vdev_label.specs.Plain.{PlainLabel, config_view}
use Rattle.vdev_label.specs.Room.{relabeled}
use Rattle.vdev_label.specs.declared.label.State.TheVariants.{Active}
use Rattle.pool_create.specs.CommitState.{State}
use Rattle.pool_create.specs.CommitPlanned.{Planned}
use Rattle.pool_create.specs.CoreState.{disks_of}
use Rattle.pool_create.specs.Planning.{nobody}
use Rattle.pool_format.specs.Labels.{children_of, label_of}
use Rattle.pool_slots.specs.Commits.{AreAt}
use Rattle.pool_slots.specs.Configs.{LeavesConfigured, LeavesConfiguredOn, ShowsConfig, of_config}
use Rattle.pool_slots.specs.Labels.{IsShownAs}
use Rattle.pool_slots.specs.Opens.{CanOpen, IsHighestShown, IsRead}
use Rattle.pool_slots.specs.Possible.{IsInReach, IsPossible, Possible, Trees}
use Rattle.pool_slots.specs.Relabels.{IsRelabeled}
use Rattle.pool_slots.specs.Slots.{InUse, IsOutOfReach}
use Rattle.pool_stops.specs.Configured.{CreatedPoolsAreConfigured, ExportsStayConfigured, HoldConfigured, OpenedPoolsAreConfigured, OpensStayConfigured, ShowsConfigured, StayConfigured}
use Rattle.pool_stops.specs.Running.{IsBetween, IsWhole, StandAt}
use Rattle.pool_stops.proofs.Labels.{kept_byte}
use Rattle.pool_stops.proofs.Reopening.{is_planned_so}
use Rattle.pool_stops.proofs.Steps.{same_flags, used_below}

-- ---- pools that were just made

-- an element of a list that a function made
pub made_of : {X Y : Type 0} (f : X → Y) (xs : List X) (k : ℕ) → k < length xs → (x : X) × (slice_get (map f xs) k ≡ Some (f x))
made_of f xs k below =
    let it = slice_get_some xs k below in
    (it.0, slice_get-map f xs k ∙ ap (option_map f) it.1)

pub created_pools_are_configured : CreatedPoolsAreConfigured
created_pools_are_configured old pool config u core is which number used low =
    let flag : InUse (nobody old.starts) which = subst (λ (out : List Bool). InUse out which) is.outs used in
    let below : which < length old.starts = omega (arith, used_below (nobody old.starts) which flag, length-replicate (length old.starts) false) in
    let child = made_of (label_of pool config 1 3) (children_of (config_view config)) which (omega (arith, below, is.may.count)) in (
      label_of pool config 1 3 child.0,
      record {
        shown = is.labeled which (label_of pool config 1 3 child.0) child.1 number low;
        clean = λ i inside. is.settled which (omega (arith, below, ap length is.grew.starts)) _;
      },
      sym is.first.digest,
    )

-- ---- opens

-- with nothing written
still_left : (out : List Bool) (digest : List ℕ) (old new : Disks) → Makes no_write old new → StayConfigured out digest old new
still_left out digest old new makes leaves =
    each_of_run no_write (λ (calls : List JointCall). LeavesConfigured out old.starts digest calls) old new
    (λ made are images left. leaves images (record {
      count = left.count;
      each = λ which below.
          let mine = left.each which below in
          record {
            size = mine.size;
            kept = λ i value clean known.
                let same = kept_byte no_write (bytes_of old.starts which) made old.calls which i are (λ at bytes none. absurd none) in
                mine.kept i value (same.1 clean) (same.0 ∙ known);
          };
    })) makes

-- what is shown is out of reach, or possible
pub is_allowed : (trees : Trees) (out : List Bool) (disks : Disks) (p : Possible) (u : Uberblock) → CanOpen trees out disks p → IsRead out disks u
    → IsOutOfReach u p.last ⊎ IsPossible trees out (content disks) p u
is_allowed trees out disks p u can read =
    let on = read.on.on in
    let it = (can.leads read.which read.used).only on.label on.slot on.is_slot u on.shows in
    subst (λ (x : Uberblock). IsOutOfReach x p.last ⊎ IsPossible trees out (content disks) p x) (read.on.alone it.u it.shows) it.rank

-- the highest that is shown is no lower than the last one
pub ranks_above : (trees : Trees) (out : List Bool) (disks : Disks) (p : Possible) (highest : Uberblock) → CanOpen trees out disks p
    → IsHighestShown out disks highest → RanksUpTo p.last highest
ranks_above trees out disks p highest can top =
    let it = (can.leads can.some.0 can.some.1).top in
    ranks_through p.last it.u highest it.rank
    (top.greatest it.u (record {
      which = can.some.0;
      used = can.some.1;
      on = record { label = it.label; slot = it.slot; is_slot = it.is_slot; shows = it.shows };
    }))

-- nor is one at most two groups below it out of reach
pub not_far : (last highest taken : Uberblock) (rewind : ℕ) → rewind < 3 → RanksUpTo last highest → IsRewound highest rewind taken → IsOutOfReach taken last → ⊥
not_far last highest taken rewind few (inl above) rewound (inl far) = omega (arith, above, rewound.0, far)
not_far last highest taken rewind few (inl above) rewound (inr far) = omega (arith, above, rewound.0, far.0)
not_far last highest taken rewind few (inr above) rewound (inl far) = omega (arith, above.0, rewound.0, far)
not_far last highest taken rewind few (inr above) rewound (inr far) = omega (arith, few, above.1, rewound.1, far.1)

pub opens_stay_configured : OpensStayConfigured
opens_stay_configured trees old new out rewind p digest few can same four showing kept honest leaves = ⊎_elim
    (λ none. still_left out digest old new none leaves)
    (λ (u, taken, each).
    let reached : IsInReach p taken.taken = ⊎_elim
    (λ far. absurd (not_far p.last taken.highest taken.taken rewind few (ranks_above trees out old p taken.highest can taken.top) taken.rewound far))
    (λ possible. possible.0) (is_allowed trees out old p taken.taken can taken.shown) in
    let is : u.config_digest ≡ digest = ap (λ (x : Uberblock). x.config_digest) taken.is ∙ same taken.taken reached in
    let S : List ℕ → ℕ → Type 0 = ShowsConfig out old in
    each_weaker (LeavesConfiguredOn (S digest) old.starts digest) (LeavesConfigured out old.starts digest) (length old.calls) new.calls
    (λ earlier left images may which used. left images may which (used, showing which used))
    (subst (λ (d : List ℕ). EachSince (length old.calls) (LeavesConfiguredOn (S d) old.starts d) new.calls) is each))
    (kept.configures can.known can.settled four honest)

-- ---- pools that were opened

-- the label that is written anew has the configuration of what is claimed
source_config : (out : List Bool) (old : Disks) (u : Uberblock) (new : Disks) (which : ℕ) → (it : IsRelabeled out old u new which) → of_config u.config_digest it.label
source_config out old u new which it =
    let C : PlainLabel → Type 0 = of_config u.config_digest in
    let source = it.read.summary.source in
    let size : ℕ = length (bytes_of old.starts which) in
    let reads = subst (λ o. IsShownAs size (content old which) it.it.source o) source.at (it.read.are.each it.it.source it.source.shown.is_label) in
    ⊎_elim
    (λ kept. subst C (sym kept.1) (sym (reads.1 it.source.own it.source.shown).1 ∙ source.config ∙ kept.0))
    (λ taken. subst C (sym taken.is) taken.config)
    it.source.from

pub opened_pools_are_configured : OpenedPoolsAreConfigured
opened_pools_are_configured trees old shapes out rewind p claimed core is can honest which number used low =
    let flag : InUse is.later which = subst (λ (them : List Bool). InUse them which) is.outs used in
    let it : IsRelabeled is.later old claimed (disks_of core) which = is.relabels can.known honest which flag in
    let at : AreAt trees is.later (disks_of core) claimed [] = (is.gives trees p can honest).1 in (
      relabeled it.label claimed.claim claimed.group Active,
      record { shown = it.each number low; clean = λ i below. at.settled which flag _ },
      source_config is.later old claimed (disks_of core) which it,
    )

-- ---- exports

pub exports_stay_configured : ExportsStayConfigured
exports_stay_configured core v last before u new runs begun shows =
    let s : State = core.commit in
    let none : s.planned ≡ None = is_planned_so s v s.planned runs.represents.backs refl (begun.exportable v runs.represents).at_rest.unsynced in
    let between : IsBetween s last before = subst (λ (o : Option Planned). StandAt s o last before) none runs.stand in
    begun.configures (record {
      settled = between.settled;
      each = λ which used.
          let it = shows which 0 used (omega arith) in
          record { number = 0; even = inl refl; label = it.0; shown = it.1.shown; has = it.2 };
    })

-- ---- steps

-- with the same disks out
pub shows_still : (old new : State) (digest : List ℕ) → IsWhole old → IsWhole new → new.store.disks.starts ≡ old.store.disks.starts
    → EachSince (length old.store.disks.calls) (HoldConfigured old.store.out old.store.disks.starts digest) new.store.disks.calls → ShowsConfigured new digest
shows_still old new digest whole also starts each =
    let count : length new.store.out ≡ length old.store.out = also.count ∙ ap length starts ∙ sym whole.count in
    let out : new.store.out ≡ old.store.out = same_flags old.store.out new.store.out count whole.none also.none in
    subst (λ (them : List Bool). HoldConfigured them new.store.disks.starts digest new.store.disks.calls) (sym out)
    (subst (λ (them : List (List ℕ)). HoldConfigured old.store.out them digest new.store.disks.calls) (sym starts)
    (each new.store.disks.calls (record { newer = []; is = refl; since = inl refl })))
