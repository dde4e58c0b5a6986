-- Pools are opened again on their own disks.
use Rattle.std.proofs.Common.{ℕ, ◌+◌, ◌≡◌, ⊎_elim, inl, inr, ◌<◌, ◌≤◌, Bool, List, [], ◌∷◌, ◌++◌, length, Option, Some, refl, sym, ap, subst, ◌∙◌, arith, append_assoc}
use Rattle.std.proofs.lemmas.List.{length-map}
use Rattle.model_disk.specs.Joint.{Disks, bytes_of, content}
use Rattle.model_disk.specs.Runs.{AreSettled}
use Rattle.model_disk.specs.declared.disk.Disk as disk
use Rattle.raidz_io.specs.Reads.{IsHonestSince}
use Rattle.block_store.specs.Config.{IsAllowedSize, sectors_of}
use Rattle.block_store.specs.Opened.{FitsDisks, LieOn}
use Rattle.block_store.specs.declared.shape.VdevShape.{VdevShape}
use Rattle.uberblock_ring.specs.declared.uberblock.Uberblock.{Uberblock}
use Rattle.raidz_io.proofs.Written.{slice_get_some}
use Rattle.sha2.specs.Sha256.{sha256}
use Rattle.stale_disks.specs.Rules.{guids_in}
use Rattle.vdev_label.specs.Config.{config_bytes}
use Rattle.vdev_label.specs.Plain.{PlainVdev, config_view}
use Rattle.pool_create.specs.Slots.{IsStampOf}
use Rattle.pool_create.specs.CoreState.{CoreState, config_of, disks_of}
use Rattle.pool_model.specs.Pools.{PlainPool}
use Rattle.pool_create.specs.Calls.{GrewTo}
use Rattle.pool_create.specs.OpenCauses.{of_labels}
use Rattle.pool_create.specs.OpenOpening.{AreClaimedThrough, IsKeptThrough, IsNotOpenedOver, IsOpenedOver}
use Rattle.std.specs.Prelude.{◌^◌}
use Rattle.pool_create.specs.Opens.{OpenRefuses, refusal_of}
use Rattle.pool_create.specs.NotOpened.{NotOpened}
use Rattle.pool_create.specs.NotOpened.TheVariants.{NotFound, Refused}
use Rattle.pool_create.specs.OpenStops.{fresh}
use Rattle.pool_create.specs.Trees.{NamesConfigOf}
use Rattle.pool_create.specs.Words.{stamp_of}
use Rattle.pool_create.specs.OpenRefusal.{Refusal}
use Rattle.pool_create.specs.OpenRefusal.TheVariants.{NoMemory}
use Rattle.pool_create.proofs.OpenThrough.{through_made}
use Rattle.pool_create.proofs.OpenRetried.{undiminished_opens_claim_once, unfailing_opens_claim_once}
use Rattle.pool_slots.specs.Configs.{IsConfigured}
use Rattle.pool_slots.specs.Marks.{IsUsedUp}
use Rattle.pool_slots.specs.Labels.{IsLabelShown}
use Rattle.pool_slots.specs.Opens.{IsHighestShown, IsKnown, IsRead, IsReadOn, IsShownOn, OpenGives}
use Rattle.pool_slots.specs.Possible.{IsInReach, IsPossible, LeadsOn, Possible, Trees}
use Rattle.pool_slots.specs.Slots.{IsOffLabels}
use Rattle.pool_format.specs.declared.labeling.PoolIdentity.{PoolIdentity}
use Rattle.pool_stops.specs.OneConfig.{IsOpenedAs, OpenedPoolsRunAs, StoppedOpensAreOfConfig}
use Rattle.pool_stops.specs.Reopening.{AreByGroup, IsPossibleBehind, LeavesImages}
use Rattle.pool_stops.specs.Unhindered.{AnswerTruly, AreAllThere, HaveLeft, LeadToWholePools, FaultFreeOpensSucceed}
use Rattle.pool_stops.specs.WholePools.{StoppedExportsLeadWhole, StoppedOpensLeadWhole, StoppedRunsLeadWhole}
use Rattle.pool_stops.proofs.LabelStops.{is_allowed, not_far, ranks_above}
use Rattle.pool_stops.proofs.Whole.{WholeTreeOf}
use Rattle.pool_stops.specs.Found.{ShowHighest}
use Rattle.pool_stops.specs.Own.{AreDisksOf, IsLabeled, IsOwnDisk, disk_guids}
use Rattle.pool_stops.specs.OwnReopening.{AreReturned, GrewFromKnown, IsRefusedTruly, LeadToOwnPools, OwnPoolsOpenAgain, StoppedExportsLeadToOwnPools, StoppedOpensLeadToOwnPools, StoppedRunsLeadToOwnPools}
use Rattle.pool_stops.specs.OwnRunning.{AreOfSum, IsOnItsDisks, OpenedPoolsAreOnTheirDisks, RunsStayOnTheirDisks}
use Rattle.pool_stops.specs.Stopping.{AreLabelsUntorn, PossibleConfigurationsAreShown, OwnDisksShowAtMostThreeConfigurations, StoppedExportsLeaveDisks, StoppedOpensAreOfSum, StoppedOpensLeaveDisks, StoppedRunsLeaveDisks}
use Rattle.pool_stops.proofs.Arranging.{IsArranged, after_so, children_so, is_arranged, own_found, settled_still, still_holding}
use Rattle.pool_stops.proofs.HandedOn.{AreWithin, come_back, in_place}
use Rattle.pool_stops.proofs.Handed.{fresh_known}
use Rattle.pool_stops.proofs.Holding.{get_in_use}
use Rattle.pool_stops.proofs.Unhindered.{all_are_enough, none_goes_out}
use Rattle.pool_stops.proofs.Steps.{used_below}
use Rattle.pool_stops.proofs.FoundDisks.{own_disks_are_found}

-- ---- what such disks show

-- the highest uberblock that they show is one that an open may come to
highest_reached : (images : List (List ℕ)) (shapes : List VdevShape) (out : List Bool) (p : Possible) (pools : Uberblock → PlainPool)
    → LeadToWholePools (fresh images) shapes out p pools → (u : Uberblock) → IsHighestShown out (fresh images) u → IsInReach p u
highest_reached images shapes out p pools it u top =
    let trees = it.led.trees in
    let can = it.led.can in
    ⊎_elim
    (λ far. absurd (not_far p.last u u 0 (omega arith) (ranks_above trees out (fresh images) p u can top) (refl, omega arith) far))
    (λ possible. possible.0)
    (is_allowed trees out (fresh images) p u can top.shown)

pub show_highest : (vdevs : List PlainVdev) (images : List (List ℕ)) (shapes : List VdevShape) (out : List Bool) (p : Possible) (pools : Uberblock → PlainPool)
    → LeadToWholePools (fresh images) shapes out p pools → AreOfSum vdevs p → HaveLeft out (fresh images) → ShowHighest vdevs out (fresh images)
show_highest vdevs images shapes out p pools it sums left = record {
  each = λ which used.
      let top = (it.led.can.leads which used).top in
      (top.u, record { label = top.label; slot = top.slot; is_slot = top.is_slot; shows = top.shows });
  configured = λ u top which used. it.configured u (highest_reached images shapes out p pools it u top) which used;
  sum = λ u top. sums u (highest_reached images shapes out p pools it u top);
  left = left;
}

-- ---- the array has what the images have

module _ {images : List (List ℕ)} {shapes : List VdevShape} {out : List Bool} {array : Disks} {its_shapes : List VdevShape} {its_out : List Bool} where
  -- what holds of a disk's size and of all bytes
  same_of : (which : ℕ) (P : ℕ → (ℕ → ℕ → Option ℕ) → Type 0) → IsArranged images shapes out array its_shapes its_out
      → P (length (bytes_of images which)) (content (fresh images)) → P (length (bytes_of array.starts which)) (content array)
  same_of which P is it =
      let Q : ℕ × (ℕ → ℕ → Option ℕ) → Type 0 = λ x. P x.0 x.1 in
      subst Q (λ j. (sym (is.sizes which) j, sym is.contents j)) it

  -- its bytes are known
  known_so : IsArranged images shapes out array its_shapes its_out → (which : ℕ) → IsKnown array which
  known_so is which = same_of which (λ size held. (i : ℕ) → i < size → (value : ℕ) × (held which i ≡ Some value)) is (fresh_known images which)

  back_of : (which : ℕ) (P : ℕ → (ℕ → ℕ → Option ℕ) → Type 0) → IsArranged images shapes out array its_shapes its_out
      → P (length (bytes_of array.starts which)) (content array) → P (length (bytes_of images which)) (content (fresh images))
  back_of which P is it =
      let Q : ℕ × (ℕ → ℕ → Option ℕ) → Type 0 = λ x. P x.0 x.1 in
      subst Q (λ j. (is.sizes which j, is.contents j)) it

  count_so : IsArranged images shapes out array its_shapes its_out → length array.starts ≡ length images
  count_so is = sym (length-map array.starts length) ∙ ap length is.lengths ∙ length-map images length

  -- a tree is one on disks of the same sizes
  tree_so : (trees : Trees) (u : Uberblock) (pool : PlainPool) → IsArranged images shapes out array its_shapes its_out → WholeTreeOf trees images shapes out u pool
      → WholeTreeOf trees array.starts shapes out u pool
  tree_so trees u pool is it = record {
    tree = record {
      stored = it.tree.stored;
      spells = it.tree.spells;
      untouched = it.tree.untouched;
      mapped = it.tree.mapped;
      configured = it.tree.configured;
      made = it.tree.made;
      held = λ disks away many. it.tree.held disks away (many ∙ count_so is);
    };
    whole = record { once = it.whole.once; apart = it.whole.apart };
  }

  lead_so : (p : Possible) (pools : Uberblock → PlainPool) → IsArranged images shapes out array its_shapes its_out → LeadToWholePools (fresh images) shapes out p pools
      → LeadToWholePools array shapes out p pools
  lead_so p pools is it =
      let trees = it.led.trees in
      let can = it.led.can in
      let each : (u : Uberblock) → IsInReach p u → WholeTreeOf trees array.starts shapes out u (pools u) =
      λ u reach. tree_so trees u (pools u) is (record { tree = it.led.tree u reach; whole = it.whole u reach }) in
      record {
        led = record {
          trees = trees;
          can = record {
            some = can.some;
            off_labels = λ root which i value used has.
                subst (λ (size : ℕ). IsOffLabels size i) (sym (is.sizes which)) (can.off_labels root which i value used has);
            known = λ which used. known_so is which;
            settled = λ which used. is.settled which;
            leads = λ which used.
                same_of which (λ size held. LeadsOn size (held which) p.last (IsPossible trees out held p)) is (can.leads which used);
          };
          tree = λ u reach. (each u reach).tree;
        };
        whole = λ u reach. (each u reach).whole;
        configured = λ u reach which used. same_of which (λ size held. IsConfigured size (held which) u.config_digest) is (it.configured u reach which used);
      }

  -- the vdevs take them too
  fits_so : (shape : VdevShape) → IsArranged images shapes out array its_shapes its_out → FitsDisks images shape → FitsDisks array.starts shape
  fits_so shape is it = record {
    there = omega (arith, it.there, count_so is);
    sizes = λ disk from to. subst IsAllowedSize (sym (is.sizes disk)) (it.sizes disk from to);
    sectors = λ disk from to. subst (λ (size : ℕ). shape.child_sectors ≤ sectors_of size) (sym (is.sizes disk)) (it.sectors disk from to);
    regions = it.regions;
    few = it.few;
  }

  lie_so : (first : ℕ) (them : List VdevShape) → IsArranged images shapes out array its_shapes its_out → LieOn images first them → LieOn array.starts first them
  lie_so first [] is it = it ∙ sym (count_so is)
  lie_so first (shape ∷ them) is it = (it.0, fits_so shape is it.1, lie_so (first + shape.vdev.geometry.children) them is it.2)

  all_there_so : IsArranged images shapes out array its_shapes its_out → AreAllThere images shapes out → AreAllThere array.starts shapes out
  all_there_so is there = record {
    none = there.none;
    may = record { some = there.may.some; few = there.may.few; lie = lie_so 0 shapes is there.may.lie; flags = there.may.flags ∙ sym (count_so is) };
  }

  are_so : (pool : PoolIdentity) (vdevs : List PlainVdev) → IsArranged images shapes out array its_shapes its_out → AreDisksOf pool vdevs shapes out (fresh images)
      → AreDisksOf pool vdevs shapes out array
  are_so pool vdevs is are = record {
    allowed = are.allowed;
    shapes_are = are.shapes_are;
    there = all_there_so is are.there;
    own = record {
      count = count_so is ∙ are.own.count;
      each = λ which guid named. same_of which (λ size held. IsOwnDisk pool vdevs guid size (held which)) is (are.own.each which guid named);
      labeled = λ which below.
          same_of which (λ size held. IsLabeled size (held which)) is (are.own.labeled which (omega (arith, below, count_so is)));
    };
  }

  -- what is read of the array is read of the images
  read_back : IsArranged images shapes out array its_shapes its_out → (u : Uberblock) → IsRead out array u → IsRead out (fresh images) u
  read_back is u read = record {
    which = read.which;
    used = read.used;
    on = back_of read.which (λ size held. IsReadOn size (held read.which) u) is read.on;
  }

  highest_back : IsArranged images shapes out array its_shapes its_out → (u : Uberblock) → IsHighestShown out array u → IsHighestShown out (fresh images) u
  highest_back is u top = record {
    shown = read_back is u top.shown;
    greatest = λ v shown. top.greatest v (record {
      which = shown.which;
      used = shown.used;
      on = same_of shown.which (λ size held. IsShownOn size (held shown.which) v) is shown.on;
    });
  }

  used_up_back : IsArranged images shapes out array its_shapes its_out → (u : Uberblock) → IsUsedUp out array u → IsUsedUp out (fresh images) u
  used_up_back is u (inl claim) = inl claim
  used_up_back is u (inr (l, shown, claim)) = inr (
    l,
    record {
      which = shown.which;
      used = shown.used;
      number = shown.number;
      shown = back_of shown.which (λ size held. IsLabelShown size (held shown.which) shown.number l) is shown.shown;
    },
    claim,
  )

-- ---- an open of them

memory_alone : FaultFreeOpensSucceed → (guids : List ℕ) (images : List (List ℕ)) (shapes : List VdevShape) (out : List Bool) (p : Possible) (pools : Uberblock → PlainPool)
    (array : Disks) (its_shapes : List VdevShape) (its_out : List Bool) (refusal : Refusal) → IsArranged images shapes out array its_shapes its_out
    → LeadToWholePools (fresh images) shapes out p pools → AreAllThere images shapes out → HaveLeft out (fresh images)
    → (back : Disks) → IsNotOpenedOver guids array its_shapes its_out 0 back refusal → AnswerTruly array back → refusal ≡ NoMemory
memory_alone law guids images shapes out p pools array its_shapes its_out refusal are led there left =
    let P : List VdevShape × List Bool → Type 0 = λ x. (back : Disks) → IsNotOpenedOver guids array x.0 x.1 0 back refusal → AnswerTruly array back → refusal ≡ NoMemory in
    subst P (λ j. (sym are.shapes_are j, sym are.out_is j))
    (λ back is truly.
    law guids array shapes out p pools refusal (lead_so p pools are led) (all_are_enough array.starts shapes out (all_there_so are there)) back is (record {
      left = record {
        groups = λ u read. left.groups u (read_back are u read);
        claims = λ u top used. left.claims u (highest_back are u top) (used_up_back are u used);
      };
      truly = truly;
    }))

-- the disks of a claim were called
claimed_grew : (out later : List Bool) (claimed : Uberblock) (old new : Disks) → AreClaimedThrough out later claimed old new → GrewTo old new
claimed_grew out later claimed old new it =
    let reads = through_made out later old it.read it.before in
    let claims = it.claims.makes in
    record {
      starts = claims.starts ∙ reads.starts;
      newer = claims.newer ++ reads.newer;
      calls = claims.calls ∙ ap (λ cs. claims.newer ++ cs) reads.calls ∙ sym (append_assoc claims.newer reads.newer old.calls);
    }

-- Where one is refused by no call that failed, nothing is unflushed: the disks were only read, or a claim was done.
unopened_at : (guids : List ℕ) (images : List (List ℕ)) (shapes : List VdevShape) (out : List Bool) (p : Possible) (pools : Uberblock → PlainPool) (array : Disks)
    (its_shapes : List VdevShape) (its_out : List Bool) (rewind : ℕ) (new : Disks) (refusal : Refusal) → IsArranged images shapes out array its_shapes its_out
    → LeadToWholePools (fresh images) shapes out p pools → AreAllThere images shapes out → IsNotOpenedOver guids array shapes out rewind new refusal
    → AnswerTruly array new → GrewFromKnown array new × AreSettled new
unopened_at guids images shapes out p pools array its_shapes its_out rewind new refusal are led there is truly =
    let known : (which : ℕ) → IsKnown array which = λ which. known_so are which in
    let flags : length out ≡ length array.starts = there.may.flags ∙ sym (count_so are) in
    ⊎_elim
    (λ (through, cause).
    let reads = through_made out is.later array new through in (
      record { grew = record { starts = reads.starts; newer = reads.newer; calls = reads.calls }; known = known },
      λ which below. settled_still array new which reads (are.settled which),
    ))
    (λ (claimed, through, gives, cause).
    let same : is.later ≡ out = none_goes_out array new out is.later claimed (is.count ∙ sym flags) truly.none_failed through in
    let gives_all : OpenGives out rewind array claimed new = subst (λ (them : List Bool). OpenGives them rewind array claimed new) same gives in
    let lead = lead_so p pools are led in
    let done = gives_all lead.led.trees p lead.led.can truly.honest in
    let grew = claimed_grew out is.later claimed array new through in (
      record { grew = grew; known = known },
      λ which below. done.1.settled which (get_in_use out which (omega (arith, below, ap length grew.starts, flags)) (there.none which)),
    ))
    is.cause

unopened_so : (guids : List ℕ) (images : List (List ℕ)) (shapes : List VdevShape) (out : List Bool) (p : Possible) (pools : Uberblock → PlainPool) (array : Disks)
    (its_shapes : List VdevShape) (its_out : List Bool) (rewind : ℕ) (new : Disks) (refusal : Refusal) → IsArranged images shapes out array its_shapes its_out
    → LeadToWholePools (fresh images) shapes out p pools → AreAllThere images shapes out → IsNotOpenedOver guids array its_shapes its_out rewind new refusal
    → AnswerTruly array new → GrewFromKnown array new × AreSettled new
unopened_so guids images shapes out p pools array its_shapes its_out rewind new refusal are led there is truly =
    let P : List VdevShape × List Bool → Type 0 = λ x. IsNotOpenedOver guids array x.0 x.1 rewind new refusal in
    unopened_at guids images shapes out p pools array its_shapes its_out rewind new refusal are led there (subst P (λ j. (are.shapes_are j, are.out_is j)) is) truly

-- an open of them claims an uberblock that names the configuration of its core, if that is the pool's
names_own : (pool : PoolIdentity) (vdevs : List PlainVdev) (digest : List ℕ) (images : List (List ℕ)) (shapes : List VdevShape) (out : List Bool) (p : Possible)
    (pools : Uberblock → PlainPool) (array : Disks) (rewind : ℕ) (claimed : Uberblock) (core : CoreState) → LeadToWholePools array shapes out p pools
    → AreDisksOf pool vdevs shapes out array → AreOfSum vdevs p → IsHonestSince array (disks_of core) → (is : IsOpenedOver array shapes out rewind claimed core)
    → is.later ≡ out → config_view (config_of core) ≡ vdevs → NamesConfigOf claimed core
names_own pool vdevs digest images shapes out p pools array rewind claimed core led are sums honest is all config =
    let gives = subst (λ (them : List Bool). OpenGives them rewind array claimed (disks_of core)) all is.gives in
    let claim = (gives led.led.trees p led.led.can honest).0 in
    let which = led.led.can.some.0 in
    let used = led.led.can.some.1 in
    let below = used_below out which used in
    let guid = slice_get_some (disk_guids vdevs) which (omega (arith, below, are.there.may.flags, are.own.count)) in
    let shown = led.configured claim.taken claim.reached which used in
    let same : (shown.label).vdevs ≡ vdevs = (are.own.each which guid.0 guid.1 shown.number shown.label shown.shown).config_is in
    subst (λ (them : List PlainVdev). IsStampOf them claimed.claim (stamp_of claimed)) (sym config) (record {
      claim_is = refl;
      guids = ap (λ (u : Uberblock). u.guid_sum) claim.is ∙ sums claim.taken claim.reached;
      digest = ap (λ (u : Uberblock). u.config_digest) claim.is ∙ sym shown.config ∙ ap (λ (them : List PlainVdev). sha256 (config_bytes them)) same;
    })

-- its disks were called
opened_grew : (old : Disks) (shapes : List VdevShape) (out : List Bool) (rewind : ℕ) (claimed : Uberblock) (core : CoreState)
    → IsOpenedOver old shapes out rewind claimed core → GrewTo old (disks_of core)
opened_grew old shapes out rewind claimed core is = claimed_grew out is.later claimed old (disks_of core) is.calls

opened_so : OpenedPoolsRunAs → OpenedPoolsAreOnTheirDisks → (pool : PoolIdentity) (vdevs : List PlainVdev) (digest : List ℕ) (images : List (List ℕ))
    (shapes : List VdevShape) (out : List Bool) (p : Possible) (pools : Uberblock → PlainPool) (array : Disks) (its_shapes : List VdevShape)
    (its_out : List Bool) (rewind : ℕ) (claimed : Uberblock) (core : CoreState) → LeadToOwnPools pool vdevs digest images shapes out p pools
    → IsArranged images shapes out array its_shapes its_out → length images ≤ 2 ^ 64 → IsHonestSince array (disks_of core)
    → config_view (config_of core) ≡ vdevs → (is : IsOpenedOver array its_shapes its_out rewind claimed core) → is.later ≡ its_out
    → IsOpenedAs digest p pools shapes out rewind claimed core × IsOnItsDisks pool vdevs core claimed []
opened_so runs own pool vdevs digest images shapes out p pools array its_shapes its_out rewind claimed core it are few honest config =
    let Goal : Type 0 = IsOpenedAs digest p pools shapes out rewind claimed core × IsOnItsDisks pool vdevs core claimed [] in
    let P : List VdevShape × List Bool → Type 0 = λ x. (is : IsOpenedOver array x.0 x.1 rewind claimed core) → is.later ≡ x.1 → Goal in
    let led = lead_so p pools are it.led in
    subst P (λ j. (sym are.shapes_are j, sym are.out_is j))
    (λ is all. (
      runs array shapes out rewind p pools claimed core digest it.one led.led is all it.are.there.none (omega (arith, few, count_so are))
          (names_own pool vdevs digest images shapes out p pools array rewind claimed core led (are_so pool vdevs are it.are) it.sums honest is all config) honest,
      own pool vdevs array shapes out rewind p pools claimed core (are_so pool vdevs are it.are) it.sums led.led is all honest,
    ))

stopped_so : StoppedOpensLeadToOwnPools → (pool : PoolIdentity) (vdevs : List PlainVdev) (digest : List ℕ) (images : List (List ℕ)) (shapes : List VdevShape)
    (out : List Bool) (p : Possible) (pools : Uberblock → PlainPool) (array new : Disks) (its_shapes : List VdevShape) (its_out : List Bool) (rewind : ℕ)
    (left : List (List ℕ)) → LeadToOwnPools pool vdevs digest images shapes out p pools → IsArranged images shapes out array its_shapes its_out → rewind < 3
    → AreByGroup pools → IsHonestSince array new → IsKeptThrough its_out rewind array new → (leaves : LeavesImages its_out array new left)
    → AreLabelsUntorn array.starts leaves.calls left
    → (later : Possible) × IsPossibleBehind p rewind later × LeadToOwnPools pool vdevs digest left shapes out later pools
stopped_so law pool vdevs digest images shapes out p pools array new its_shapes its_out rewind left it are few by_group honest =
    let Goal : Type 0 = (later : Possible) × IsPossibleBehind p rewind later × LeadToOwnPools pool vdevs digest left shapes out later pools in
    let P : List Bool → Type 0 = λ o. IsKeptThrough o rewind array new → (leaves : LeavesImages o array new left) → AreLabelsUntorn array.starts leaves.calls left → Goal in
    subst P (sym are.out_is)
    (λ kept leaves untorn.
    law pool vdevs digest array new shapes out rewind p pools left few by_group (are_so pool vdevs are it.are) (lead_so p pools are it.led) it.one it.sums kept honest
    leaves untorn)

module _ {D : Type 0} where
  refused_so : FaultFreeOpensSucceed → (g : disk.Ghosts D) (pool : PoolIdentity) (vdevs : List PlainVdev) (digest : List ℕ) (images : List (List ℕ))
      (shapes : List VdevShape) (out : List Bool) (p : Possible) (pools : Uberblock → PlainPool) (disks : List D) (order : List ℕ) (failed : NotOpened D)
      → LeadToOwnPools pool vdevs digest images shapes out p pools → AreReturned g images disks order → HaveLeft out (fresh images)
      → (why : OpenRefuses g disks 0 failed) → IsRefusedTruly g disks 0 failed why → refusal_of failed ≡ NoMemory
  refused_so law g pool vdevs digest images shapes out p pools disks order (NotFound refusal back) it returned left (cause, same, found) truly =
      same ∙ ap of_labels (own_disks_are_found pool vdevs shapes out images returned.handed order found.old found.new cause it.are
      (show_highest vdevs images shapes out p pools it.led it.sums left) returned.handed_in
      (still_holding g images disks order found.old returned found.read.before) truly found.cause)
  refused_so law g pool vdevs digest images shapes out p pools disks order (Refused refusal back) it returned left found truly =
      let guids = guids_in (config_view found.ordered.config) in
      let once = unfailing_opens_claim_once guids found.array found.shapes found.out 0 found.new refusal found.refused truly.1.none_failed in
      memory_alone law guids images shapes out p pools found.array found.shapes found.out refusal
      (is_arranged g pool vdevs images shapes out disks order 0 found.array found.shapes found.out it.are returned found.ordered truly.0)
      it.led it.are.there left found.new once truly.1

  pub own_pools_open_again : FaultFreeOpensSucceed → OpenedPoolsRunAs → OpenedPoolsAreOnTheirDisks → StoppedOpensLeadToOwnPools → (g : disk.Ghosts D)
      → AreWithin g → OwnPoolsOpenAgain g
  own_pools_open_again law runs own stop g within pool vdevs digest images shapes out p pools it = record {
    refused = λ disks order failed returned left why truly.
        refused_so law g pool vdevs digest images shapes out p pools disks order failed it returned left why truly;
    done = λ disks order rewind claimed core returned is truly few.
        let once = undiminished_opens_claim_once is.array is.shapes is.out rewind claimed core is.opened truly.all in
        let found = own_found g pool vdevs images shapes out disks order rewind is.array is.shapes is.out it.are returned is.ordered truly.found in
        let are = is_arranged g pool vdevs images shapes out disks order rewind is.array is.shapes is.out it.are returned is.ordered truly.found in
        let both = opened_so runs own pool vdevs digest images shapes out p pools is.array is.shapes is.out rewind claimed core it are few truly.honest
        (ap config_view is.configured ∙ found.0) once.0 once.1 in
        (both.0, both.1, found.1, record { grew = opened_grew is.array is.shapes is.out rewind claimed core once.0; known = λ which. known_so are which });
    stopped = λ disks order rewind array new its_shapes its_out left few by_group returned ordered truly kept honest leaves untorn.
        stopped_so stop pool vdevs digest images shapes out p pools array new its_shapes its_out rewind left it
        (is_arranged g pool vdevs images shapes out disks order rewind array its_shapes its_out it.are returned ordered truly) few by_group honest kept leaves untorn;
    unopened = λ disks back order rewind refusal returned is found truly.
        let are = is_arranged g pool vdevs images shapes out disks order rewind is.array is.shapes is.out it.are returned is.ordered found in
        let guids = guids_in (config_view is.ordered.config) in
        let once = unfailing_opens_claim_once guids is.array is.shapes is.out rewind is.new refusal is.refused truly.none_failed in
        unopened_so guids images shapes out p pools is.array is.shapes is.out rewind is.new refusal are it.led it.are.there once truly;
    back = λ disks back order rewind array new its_shapes its_out returned ordered truly starts given count safe.
        let are = is_arranged g pool vdevs images shapes out disks order rewind array its_shapes its_out it.are returned ordered truly in
        let many : length new.starts ≡ length images = ap length starts ∙ count_so are in
        let all : length back ≡ length returned.handed = count ∙ returned.hold.count in
        come_back g within new images returned.handed order back returned.handed_in many all
        (in_place g new images returned.handed order ordered.found.after back ordered.found.layout.children.items ordered.places returned.handed_in
        (children_so g pool vdevs images shapes out disks order rewind array its_shapes its_out it.are returned ordered truly) ordered.handed
        (after_so g images disks order rewind array its_shapes its_out returned ordered) many given all) safe;
  }

-- ---- what stops leave

pub stopped_runs_lead_to_own_pools : RunsStayOnTheirDisks → StoppedRunsLeadWhole → StoppedRunsLeaveDisks → StoppedRunsLeadToOwnPools
stopped_runs_lead_to_own_pools stay lead leave pool vdevs old mid new v between w steps replies step reply last before digest images so on end none leaves =
    let it = stay pool vdevs old mid new v between w steps replies step reply last before digest so on end none in (
      it.0,
      record {
        are = leave pool vdevs digest mid between new w images it.0 it.1 leaves;
        led = lead digest mid between new w images it.0 leaves;
        one = it.0.one;
        sums = it.1.sums;
      },
    )

pub stopped_opens_lead_to_own_pools : StoppedOpensLeadWhole → StoppedOpensAreOfConfig → OwnDisksShowAtMostThreeConfigurations → PossibleConfigurationsAreShown → StoppedOpensLeaveDisks
    → StoppedOpensAreOfSum → StoppedOpensLeadToOwnPools
stopped_opens_lead_to_own_pools lead config not_four bound leave sum pool vdevs digest old new shapes out rewind p pools images few by_group are led one sums kept honest
    leaves untorn =
    let it = lead digest old new shapes out rewind p pools images few are.there.may.flags by_group one led (bound digest old shapes out p pools are.there led one)
    (not_four pool vdevs shapes out old are) kept honest leaves in (
      it.0,
      it.1,
      record {
        are = leave pool vdevs digest old new shapes out rewind p pools images few are led one kept honest leaves untorn;
        led = it.2;
        one = config p it.0 rewind digest one it.1;
        sums = sum vdevs p it.0 rewind sums it.1;
      },
    )

pub stopped_exports_lead_to_own_pools : StoppedExportsLeadWhole → StoppedExportsLeaveDisks → StoppedExportsLeadToOwnPools
stopped_exports_lead_to_own_pools lead leave pool vdevs digest core v last before exported new images so on begun known honest leaves untorn = record {
  are = leave pool vdevs digest core v last before exported new images so on begun known honest leaves untorn;
  led = lead digest core v last before exported new images so begun leaves;
  one = so.one;
  sums = on.sums;
}
