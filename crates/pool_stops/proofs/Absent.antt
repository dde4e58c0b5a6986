-- Pools that are opened on some of their disks.
use Rattle.std.proofs.Common.{ℕ, ◌≡◌, inl, inr, ⊎_elim, ◌+◌, ◌<◌, Bool, true, false, List, length, map, slice_get, Option, Some, is_none, refl, sym, ap, subst, ◌∙◌, arith}
use Rattle.std.specs.Prelude.{option_map}
use Rattle.std.proofs.lemmas.List.{length-map}
use Rattle.std.proofs.lemmas.Option.{get_or_from_slice_get, slice_get-map, slice_get_within}
use Rattle.model_disk.specs.Joint.{Disks, bytes_of, content}
use Rattle.model_disk.specs.declared.disk.Disk as disk
use Rattle.raidz_io.specs.Reads.{IsHonestSince}
use Rattle.raidz_io.proofs.Written.{slice_get_some}
use Rattle.block_store.specs.Opened.{MayBeOpened}
use Rattle.block_store.specs.Store.{is_out}
use Rattle.block_store.specs.declared.shape.VdevShape.{VdevShape}
use Rattle.sha2.specs.Sha256.{sha256}
use Rattle.stale_disks.specs.Rules.{guids_in}
use Rattle.uberblock_ring.specs.declared.uberblock.Uberblock.{Uberblock}
use Rattle.vdev_label.specs.Config.{config_bytes}
use Rattle.vdev_label.specs.Plain.{PlainVdev, config_view}
use Rattle.pool_create.specs.Children.{all_children}
use Rattle.pool_create.specs.CoreState.{CoreState, config_of, disks_of}
use Rattle.pool_create.specs.NotOpened.{NotOpened}
use Rattle.pool_create.specs.NotOpened.TheVariants.{NotFound, Refused}
use Rattle.pool_create.specs.OpenCauses.{of_labels}
use Rattle.pool_create.specs.OpenOpening.{IsNotOpenedOver, IsOpenedOver}
use Rattle.pool_create.specs.OpenRefusal.TheVariants.{NoMemory}
use Rattle.pool_create.specs.OpenStops.{fresh}
use Rattle.pool_create.specs.Opens.{IsOpened, OpenRefuses, refusal_of}
use Rattle.pool_create.specs.Slots.{IsStampOf}
use Rattle.pool_create.specs.Trees.{IsOpenedFor, NamesConfigOf, OpensPossible}
use Rattle.pool_create.specs.Words.{stamp_of, vdevs_in}
use Rattle.pool_create.proofs.OpenRetried.{undiminished_opens_claim_once, unfailing_opens_claim_once}
use Rattle.pool_format.specs.declared.labeling.PoolIdentity.{PoolIdentity}
use Rattle.pool_labels.specs.declared.scanned.Scan.{Scan}
use Rattle.pool_members.specs.declared.arranging.Child.{Child}
use Rattle.pool_model.specs.Pools.{PlainPool}
use Rattle.pool_model.specs.View.{is_tolerable}
use Rattle.pool_slots.specs.Configs.{IsConfigured}
use Rattle.pool_slots.specs.Labels.{IsLabelShown}
use Rattle.pool_slots.specs.Marks.{IsUsedUp}
use Rattle.pool_slots.specs.Opens.{IsHighestShown, IsRead, IsReadOn, IsShownOn, OpenGives}
use Rattle.pool_slots.specs.Possible.{IsInReach, IsPossible, LeadsOn, Possible, Trees}
use Rattle.pool_slots.specs.Slots.{InUse, IsOffLabels, StayOut}
use Rattle.pool_stops.specs.Absent.{AreSomeReturned, OwnPoolsOpenWithout}
use Rattle.pool_stops.specs.Found.{FoundDisksMayBeOpened}
use Rattle.pool_stops.specs.Handed.{away_in}
use Rattle.pool_stops.specs.Own.{IsKnownAs, disk_guids}
use Rattle.pool_stops.specs.OwnReopening.{IsOpenedTruly, IsRefusedTruly, LeadToOwnPools}
use Rattle.pool_stops.specs.Unhindered.{AreAllThere, HaveLeft, LeadToWholePools, FaultFreeOpensSucceed}
use Rattle.pool_stops.proofs.Arranging.{IsArrangedOf, IsItsDisk, holds_in, some_arranged, some_found}
use Rattle.pool_stops.proofs.Enough.{enough_found, one_is_there}
use Rattle.pool_stops.proofs.FoundDisks.{AreEnoughFound, IsOneThere, ordered_as, some_disks_are_found}
use Rattle.pool_stops.proofs.Handed.{fresh_known, place_of_used, same_disk, used_at}
use Rattle.pool_stops.proofs.Holding.{get_in_use}
use Rattle.pool_stops.proofs.OwnReopening.{show_highest}
use Rattle.pool_stops.proofs.Scanned.{IsHanded}
use Rattle.pool_stops.proofs.Whole.{WholeTreeOf}

-- a tree is one where disks are away too
tree_without : (trees : Trees) (starts others : List (List ℕ)) (shapes : List VdevShape) (out away : List Bool) (u : Uberblock) (pool : PlainPool)
    → length others ≡ length starts → length away ≡ length out → StayOut out away → WholeTreeOf trees starts shapes out u pool
    → WholeTreeOf trees others shapes away u pool
tree_without trees starts others shapes out away u pool count many stay it = record {
  tree = record {
    stored = it.tree.stored;
    spells = it.tree.spells;
    untouched = it.tree.untouched;
    mapped = it.tree.mapped;
    configured = it.tree.configured;
    made = it.tree.made;
    held = λ disks more same alike over stands. it.tree.held disks more (same ∙ count) (alike ∙ many) (λ which used. stay which (over which used)) stands;
  };
  whole = record { once = it.whole.once; apart = it.whole.apart };
}

-- a disk that is there is in use
stays : (images : List (List ℕ)) (shapes : List VdevShape) (out : List Bool) (order : List (Option ℕ)) → AreAllThere images shapes out → length order ≡ length images
    → StayOut out (away_in order)
stays images shapes out order there count which used =
    let place = place_of_used order which used in
    get_in_use out which (omega (arith, slice_get_within order which (Some place.0) place.1, count, there.may.flags)) (there.none which)

-- what holds of a pool's disk by its size and bytes holds of that of the array, and the other way round
on_array : (P : ℕ → (ℕ → Option ℕ) → Type 0) (images : List (List ℕ)) (array : Disks) (which : ℕ) → IsItsDisk images array which
    → P (length (bytes_of images which)) (content (fresh images) which) → P (length (bytes_of array.starts which)) (content array which)
on_array P images array which is = same_disk P (fresh images) array which which (sym is.size) (λ i. sym (is.held i))

on_images : (P : ℕ → (ℕ → Option ℕ) → Type 0) (images : List (List ℕ)) (array : Disks) (which : ℕ) → IsItsDisk images array which
    → P (length (bytes_of array.starts which)) (content array which) → P (length (bytes_of images which)) (content (fresh images) which)
on_images P images array which is = same_disk P array (fresh images) which which is.size is.held

module _ {images : List (List ℕ)} {shapes : List VdevShape} {out : List Bool} {order : List (Option ℕ)} {array : Disks} {its_shapes : List VdevShape} {its_out : List Bool}
  where
    -- disks that lead to whole pools do so where some are away
    lead_without : (p : Possible) (pools : Uberblock → PlainPool) → AreAllThere images shapes out → length order ≡ length images
        → IsArrangedOf images shapes order array its_shapes its_out → IsOneThere order → LeadToWholePools (fresh images) shapes out p pools
        → LeadToWholePools array shapes (away_in order) p pools
    lead_without p pools there count is some it =
        let trees = it.led.trees in
        let can = it.led.can in
        let away : List Bool = away_in order in
        let stay : StayOut out away = stays images shapes out order there count in
        let many : length away ≡ length out = length-map order is_none ∙ count ∙ sym there.may.flags in
        let mine : (which : ℕ) → InUse away which → IsItsDisk images array which =
        λ which used. let place = place_of_used order which used in is.each which place.0 place.1 in
        let each : (u : Uberblock) → IsInReach p u → WholeTreeOf trees array.starts shapes away u (pools u) =
        λ u reach. tree_without trees images array.starts shapes out away u (pools u) is.count many stay (record { tree = it.led.tree u reach; whole = it.whole u reach }) in
        let fewer : (u : Uberblock) → IsPossible trees out (content (fresh images)) p u → IsPossible trees away (content array) p u =
        λ u possible. (possible.0, λ which i value used has. (mine which used).held i ∙ possible.1 which i value (stay which used) has) in
        let leads : (which : ℕ) → InUse away which → LeadsOn (length (bytes_of images which)) (content (fresh images) which) p.last (IsPossible trees away (content array) p) =
        λ which used.
        let on = can.leads which (stay which used) in
        record {
          only = λ label slot is_slot u shows.
              let a = on.only label slot is_slot u shows in
              record { u = a.u; shows = a.shows; rank = ⊎_elim (λ far. inl far) (λ possible. inr (fewer a.u possible)) a.rank };
          top = on.top;
        } in
        record {
          led = record {
            trees = trees;
            can = record {
              some = (some.0, used_at order some.0 some.1 some.2);
              off_labels = λ root which i value used has.
                  subst (λ (size : ℕ). IsOffLabels size i) (sym (mine which used).size) (can.off_labels root which i value (stay which used) has);
              known = λ which used.
                  on_array (λ size held. (i : ℕ) → i < size → (value : ℕ) × (held i ≡ Some value)) images array which (mine which used) (fresh_known images which);
              settled = λ which used. (mine which used).settled;
              leads = λ which used.
                  on_array (λ size held. LeadsOn size held p.last (IsPossible trees away (content array) p)) images array which (mine which used) (leads which used);
            };
            tree = λ u reach. (each u reach).tree;
          };
          whole = λ u reach. (each u reach).whole;
          configured = λ u reach which used.
              on_array (λ size held. IsConfigured size held u.config_digest) images array which (mine which used) (it.configured u reach which (stay which used));
        }

    -- an open of them claims an uberblock that names the configuration of its core, if that is the pool's
    names_without : (pool : PoolIdentity) (vdevs : List PlainVdev) (digest : List ℕ) (p : Possible) (pools : Uberblock → PlainPool) (rewind : ℕ)
        (claimed : Uberblock) (core : CoreState) → (it : LeadToOwnPools pool vdevs digest images shapes out p pools) → length order ≡ length images
        → IsArrangedOf images shapes order array its_shapes its_out → IsOneThere order → IsHonestSince array (disks_of core)
        → OpenGives (away_in order) rewind array claimed (disks_of core) → config_view (config_of core) ≡ vdevs → NamesConfigOf claimed core
    names_without pool vdevs digest p pools rewind claimed core it count is some honest gives config =
        let there = it.are.there in
        let led = lead_without p pools there count is some it.led in
        let claim = (gives led.led.trees p led.led.can honest).0 in
        let which : ℕ = some.0 in
        let below : which < length images = omega (arith, slice_get_within order which (Some some.1) some.2, count) in
        let guid = slice_get_some (disk_guids vdevs) which (omega (arith, below, it.are.own.count)) in
        let shown = it.led.configured claim.taken claim.reached which (stays images shapes out order there count which (used_at order which some.1 some.2)) in
        let same : (shown.label).vdevs ≡ vdevs = (it.are.own.each which guid.0 guid.1 shown.number shown.label shown.shown).config_is in
        subst (λ (them : List PlainVdev). IsStampOf them claimed.claim (stamp_of claimed)) (sym config) (record {
          claim_is = refl;
          guids = ap (λ (u : Uberblock). u.guid_sum) claim.is ∙ it.sums claim.taken claim.reached;
          digest = ap (λ (u : Uberblock). u.config_digest) claim.is ∙ sym shown.config ∙ ap (λ (them : List PlainVdev). sha256 (config_bytes them)) same;
        })

module _ {images : List (List ℕ)} {shapes : List VdevShape} {order : List (Option ℕ)} {array : Disks} {its_shapes : List VdevShape} {its_out : List Bool} where
  -- what is read of the array is read of the images
  read_back : IsArrangedOf images shapes order array its_shapes its_out → (u : Uberblock) → IsRead (away_in order) array u → IsRead (away_in order) (fresh images) u
  read_back is u read =
      let place = place_of_used order read.which read.used in
      record {
        which = read.which;
        used = read.used;
        on = on_images (λ size held. IsReadOn size held u) images array read.which (is.each read.which place.0 place.1) read.on;
      }

  highest_back : IsArrangedOf images shapes order array its_shapes its_out → (u : Uberblock) → IsHighestShown (away_in order) array u
      → IsHighestShown (away_in order) (fresh images) u
  highest_back is u top = record {
    shown = read_back is u top.shown;
    greatest = λ v shown.
        let place = place_of_used order shown.which shown.used in
        top.greatest v (record {
          which = shown.which;
          used = shown.used;
          on = on_array (λ size held. IsShownOn size held v) images array shown.which (is.each shown.which place.0 place.1) shown.on;
        });
  }

  used_up_back : IsArrangedOf images shapes order array its_shapes its_out → (u : Uberblock) → IsUsedUp (away_in order) array u → IsUsedUp (away_in order) (fresh images) u
  used_up_back is u (inl claim) = inl claim
  used_up_back is u (inr (l, shown, claim)) =
      let place = place_of_used order shown.which shown.used in
      inr (
        l,
        record {
          which = shown.which;
          used = shown.used;
          number = shown.number;
          shown = on_images (λ size held. IsLabelShown size held shown.number l) images array shown.which (is.each shown.which place.0 place.1) shown.shown;
        },
        claim,
      )

  left_on : IsArrangedOf images shapes order array its_shapes its_out → HaveLeft (away_in order) (fresh images) → HaveLeft (away_in order) array
  left_on is left = record {
    groups = λ u read. left.groups u (read_back is u read);
    claims = λ u top used. left.claims u (highest_back is u top) (used_up_back is u used);
  }

-- the images themselves are so arranged
images_are : (images : List (List ℕ)) (shapes : List VdevShape) (order : List (Option ℕ)) → IsArrangedOf images shapes order (fresh images) shapes (away_in order)
images_are images shapes order = record {
  count = refl;
  each = λ which place at. record { size = refl; held = λ i. refl; settled = λ i. refl };
  uncalled = λ which past. refl;
  shapes_are = refl;
  out_is = refl;
}

-- a child's disk is away where it is absent
absent_at : (order : List (Option ℕ)) (children : List Child) → map (λ (c : Child). c.disk) children ≡ order → (k : ℕ) (child : Child) → slice_get children k ≡ Some child
    → is_out (away_in order) (0 + k) ≡ is_none child.disk
absent_at order children are k child at =
    let there : slice_get (away_in order) k ≡ Some (is_none child.disk) =
    slice_get-map is_none order k
    ∙ ap (option_map is_none) (ap (λ xs. slice_get xs k) (sym are) ∙ slice_get-map (λ (c : Child). c.disk) children k ∙ ap (option_map (λ (c : Child). c.disk)) at) in
    let same : 0 + k ≡ k = omega arith in
    ap (is_out (away_in order)) same ∙ get_or_from_slice_get (away_in order) k (is_none child.disk) false there

module _ {D : Type 0} where
  -- one that is done
  done_without : (g : disk.Ghosts D) (pool : PoolIdentity) (vdevs : List PlainVdev) (digest : List ℕ) (images : List (List ℕ)) (shapes : List VdevShape) (out : List Bool)
      (p : Possible) (pools : Uberblock → PlainPool) → LeadToOwnPools pool vdevs digest images shapes out p pools → (order : List (Option ℕ)) (disks : List D) (rewind : ℕ)
      (claimed : Uberblock) (core : CoreState) → AreSomeReturned g images disks order → (is : IsOpened g disks rewind claimed core) → IsOpenedTruly is
      → IsOpenedFor p pools shapes (away_in order) rewind claimed core × IsKnownAs pool is.ordered.found.layout.identity
  done_without g pool vdevs digest images shapes out p pools it order disks rewind claimed core returned is truly =
      let ordered = is.ordered in
      let count = returned.handed_in.count in
      let away : List Bool = away_in order in
      let found = some_found g pool vdevs images shapes out disks returned.handed order rewind is.array is.shapes is.out it.are returned.handed_in returned.hold ordered truly.found in
      let arranged = some_arranged g pool vdevs images shapes out disks returned.handed order rewind is.array is.shapes is.out it.are returned.handed_in returned.hold ordered truly.found in
      let once = undiminished_opens_claim_once is.array is.shapes is.out rewind claimed core is.opened truly.all in
      let config : config_view (config_of core) ≡ vdevs = ap config_view (is.configured ∙ ordered.found.config_is) ∙ found.vdevs_are in
      let led = lead_without p pools it.are.there count arranged found.some it.led in
      let P : List VdevShape × List Bool → Type 0 = λ x. (over : IsOpenedOver is.array x.0 x.1 rewind claimed core) → over.later ≡ x.1
      → IsOpenedFor p pools shapes away rewind claimed core in
      let opened : P (is.shapes, is.out) = subst P (λ j. (sym arranged.shapes_are j, sym arranged.out_is j)) (λ over all.
      let gives = subst (λ (them : List Bool). OpenGives them rewind is.array claimed (disks_of core)) all over.gives in
      let possible = subst (λ (them : List Bool). OpensPossible is.array over.calls.before.surveyed over.calls.read shapes them rewind claimed core) all over.possible in
      possible led.led.trees p pools led.led.can led.led.tree
      (names_without pool vdevs digest p pools rewind claimed core it count arranged found.some truly.honest gives config) (inl truly.honest)) in
      (opened once.0 once.1, found.known)

  -- one that is refused
  refused_without : FaultFreeOpensSucceed → (g : disk.Ghosts D) → FoundDisksMayBeOpened g → (pool : PoolIdentity) (vdevs : List PlainVdev) (digest : List ℕ)
      (images : List (List ℕ)) (shapes : List VdevShape) (out : List Bool) (p : Possible) (pools : Uberblock → PlainPool)
      → LeadToOwnPools pool vdevs digest images shapes out p pools → (order : List (Option ℕ)) (disks : List D) (failed : NotOpened D)
      → AreSomeReturned g images disks order → is_tolerable (vdevs_in shapes) (is_out (away_in order)) ≡ true → HaveLeft (away_in order) (fresh images)
      → (why : OpenRefuses g disks 0 failed) → IsRefusedTruly g disks 0 failed why → refusal_of failed ≡ NoMemory
  refused_without law g fit pool vdevs digest images shapes out p pools it order disks (NotFound refusal back) returned bears left (cause, same, found) truly =
      let are = it.are in
      let count = returned.handed_in.count in
      let one = one_is_there images shapes order are.there.may.some are.there.may.lie count bears in
      let led = lead_without p pools are.there count (images_are images shapes order) one it.led in
      let enough : (scan : Scan) → IsHanded pool vdevs shapes out images returned.handed order found.old found.new scan → AreEnoughFound scan vdevs =
      λ scan handed members all.
      enough_found scan vdevs 0 shapes members (away_in order) are.shapes_are all
      (absent_at order (all_children vdevs members) (ordered_as pool vdevs shapes out images returned.handed order found.old found.new scan members handed all)) bears in
      same ∙ ap of_labels (some_disks_are_found pool vdevs shapes out images returned.handed order found.old found.new cause are
      (show_highest vdevs images shapes (away_in order) p pools led it.sums left) returned.handed_in
      (holds_in g returned.handed disks found.old returned.hold found.read.before) truly one enough found.cause)
  refused_without law g fit pool vdevs digest images shapes out p pools it order disks (Refused refusal back) returned bears left found truly =
      let are = it.are in
      let away : List Bool = away_in order in
      let guids = guids_in (config_view found.ordered.config) in
      let once = unfailing_opens_claim_once guids found.array found.shapes found.out 0 found.new refusal found.refused truly.1.none_failed in
      let arranged = some_arranged g pool vdevs images shapes out disks returned.handed order 0 found.array found.shapes found.out are returned.handed_in returned.hold found.ordered truly.0 in
      let known = some_found g pool vdevs images shapes out disks returned.handed order 0 found.array found.shapes found.out are returned.handed_in returned.hold found.ordered truly.0 in
      let led = lead_without p pools are.there returned.handed_in.count arranged known.some it.led in
      let here : List VdevShape × List Bool = (shapes, away) in
      let same : ◌≡◌ {A = List VdevShape × List Bool} (found.shapes, found.out) here = λ j. (arranged.shapes_are j, arranged.out_is j) in
      let Refuses : List VdevShape × List Bool → Type 0 = λ x. IsNotOpenedOver guids found.array x.0 x.1 0 found.new refusal in
      let Fits : List VdevShape × List Bool → Type 0 = λ x. MayBeOpened found.array.starts x.0 x.1 in
      law guids found.array shapes away p pools refusal led (record {
        tolerable = bears;
        may = subst Fits same (fit disks 0 found.array found.shapes found.out found.ordered);
      }) found.new (subst Refuses same once) (record { left = left_on arranged left; truly = truly.1 })

  pub own_pools_open_without : FaultFreeOpensSucceed → (g : disk.Ghosts D) → FoundDisksMayBeOpened g → OwnPoolsOpenWithout g
  own_pools_open_without law g fit pool vdevs digest images shapes out p pools it order = record {
    refused = λ disks failed returned bears left why truly.
        refused_without law g fit pool vdevs digest images shapes out p pools it order disks failed returned bears left why truly;
    done = λ disks rewind claimed core returned is truly. done_without g pool vdevs digest images shapes out p pools it order disks rewind claimed core returned is truly;
  }
