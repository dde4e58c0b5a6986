-- A pool's own disks, handed in in any order, are found, and put in order.
use Rattle.std.proofs.Common.{ℕ, ◌≡◌, inl, inr, ⊎_elim, ◌+◌, ◌<◌, ◌≤◌, Bool, true, false, List, [], ◌∷◌, length, map, slice_get, Option, Some, None, is_none, refl, sym, ap, subst, ◌∙◌, arith}
use Rattle.std.specs.Prelude.{◌^◌, option_map, string_bytes}
use Rattle.std.proofs.lemmas.List.{length-map}
use Rattle.std.proofs.lemmas.Option.{slice_get-map, slice_get_past, slice_get_within}
use Rattle.model_disk.specs.Joint.{Disks}
use Rattle.raidz_io.proofs.Written.{slice_get_some}
use Rattle.block_store.specs.Config.{IsAllowedSize, sectors_of, size_of}
use Rattle.block_store.specs.Opened.{LieOn}
use Rattle.block_store.specs.Store.{is_out}
use Rattle.block_store.specs.declared.shape.VdevShape.{VdevShape}
use Rattle.uberblock_ring.specs.declared.uberblock.Uberblock.{Uberblock}
use Rattle.vdev_label.specs.Config.{guid_sum}
use Rattle.vdev_label.specs.Limits.{IsAllowed}
use Rattle.vdev_label.specs.Plain.{PlainVdev, config_view, label_view}
use Rattle.vdev_label.specs.declared.label.Label.{Label}
use Rattle.pool_labels.specs.Choices.{AllAgree, Agree, AreAllMembers, AreEnough, AreTooFew, ChoiceRefuses, HasLastClaim, HasNoConfig, HasNoUberblock, IsFit, IsFound, IsGreatest, IsMember, IsTaken, IsValidAt}
use Rattle.pool_labels.specs.Sizes.{HasSectors}
use Rattle.pool_labels.specs.declared.refusal.Refusal.{Refusal}
use Rattle.pool_labels.specs.declared.refusal.Refusal.TheVariants.{NoMemory, BadLabel, NoUberblock, TooManyMissing, PoolMismatch, BadConfig}
use Rattle.pool_labels.specs.declared.scanned.Reading.{Reading}
use Rattle.pool_labels.specs.declared.scanned.Reading.TheVariants.{Valid, Bad, Unreadable}
use Rattle.pool_labels.specs.declared.scanned.Scan.{Scan}
use Rattle.pool_labels.specs.declared.scanned.ScannedLabel.{ScannedLabel}
use Rattle.pool_members.specs.declared.arranging.Child.{Child}
use Rattle.pool_create.specs.Children.{all_children}
use Rattle.pool_create.specs.OpenFinding.{IsLayoutOf, LayoutRefuses}
use Rattle.pool_create.specs.Shapes.{AreShapesOf}
use Rattle.pool_create.specs.OpenStops.{fresh}
use Rattle.pool_create.proofs.OpenOnce.{FoundList}
use Rattle.pool_slots.specs.Configs.{of_config as of_plain_config}
use Rattle.pool_slots.specs.Opens.{IsHighestShown}
use Rattle.pool_format.specs.declared.labeling.PoolIdentity.{PoolIdentity}
use Rattle.pool_stops.proofs.Holding.{get_in_use}
use Rattle.pool_stops.specs.Found.{OwnDisksAreFound, OwnDisksAreOrdered, ShowHighest}
use Rattle.pool_stops.specs.Handed.{AreHolding, AreSomeHandedIn, away_in}
use Rattle.pool_stops.specs.Unhindered.{AnswerTruly}
use Rattle.pool_stops.specs.Own.{AreDisksOf, IsKnownAs, disk_guids}
use Rattle.pool_stops.proofs.Children.{IsChildAt, are_enough, at_child, length_children}
use Rattle.pool_stops.proofs.Handed.{all_handed, none_away, place_of_used, size_handed, used_at}
use Rattle.pool_stops.proofs.Scanned.{IsHanded, IsOwnAt, allowed_of, one_disk, own_at, read_shown, shown_read, slot_read, valid_shown}
use Rattle.pool_stops.proofs.Steps.{same_flags}
use Rattle.pool_stops.proofs.Shapes.{same_shapes}
use Rattle.pool_stops.proofs.Lists.{below_or, same_lists, same_some}

-- ---- labels agree

agrees : (pool : PoolIdentity) (vdevs : List PlainVdev) (order : List (Option ℕ)) (d e : ℕ) (r q : Reading) → IsAllowed pool.guid vdevs
    → ((child other place : ℕ) → slice_get order child ≡ Some (Some place) → slice_get order other ≡ Some (Some place) → child ≡ other)
    → ((l : Label) → r ≡ Valid l → IsOwnAt pool vdevs order d l) → ((m : Label) → q ≡ Valid m → IsOwnAt pool vdevs order e m) → Agree d r e q
agrees pool vdevs order d e (Valid l) (Valid m) allowed once a b =
    let x = a l refl in
    let y = b m refl in
    record {
      pool = x.own.pool_is ∙ sym y.own.pool_is;
      same = λ is.
          let child : x.child ≡ y.child = once x.child y.child e (x.at ∙ ap (λ (d : ℕ). Some (Some d)) is) y.at in
          x.own.guid_is ∙ same_some (slice_get (disk_guids vdevs) y.child) x.guid y.guid (ap (slice_get (disk_guids vdevs)) (sym child) ∙ x.named) y.named
          ∙ sym y.own.guid_is;
      apart = λ is.
          let guid : x.guid ≡ y.guid = sym x.own.guid_is ∙ is ∙ y.own.guid_is in
          let child : x.child ≡ y.child = one_disk pool.guid vdevs x.child y.child y.guid allowed (x.named ∙ ap Some guid) y.named in
          let both = same_some (slice_get order y.child) (Some d) (Some e) (ap (slice_get order) (sym child) ∙ x.at) y.at in
          same_some (Some d) d e refl both;
    }
agrees pool vdevs order d e (Valid l) (Bad it) allowed once a b = tt
agrees pool vdevs order d e (Valid l) Unreadable allowed once a b = tt
agrees pool vdevs order d e (Bad it) q allowed once a b = tt
agrees pool vdevs order d e Unreadable q allowed once a b = tt

last_claim : (reading : Reading) → HasLastClaim reading → (l : Label) × (reading ≡ Valid l) × (2 ^ 62 ≤ l.claim)
last_claim (Valid l) has = (l, refl, has)
last_claim (Bad it) has = absurd has
last_claim Unreadable has = absurd has

not_true : (b : Bool) → ¬ (b ≡ true) → b ≡ false
not_true true not = absurd (not refl)
not_true false not = refl

has_sectors : (size sectors : ℕ) → IsAllowedSize size → sectors ≤ sectors_of size → HasSectors size sectors
has_sectors size sectors allowed room = omega (arith, allowed.least, room)

is_some : (m : Option ℕ) (place : ℕ) → m ≡ Some place → is_none m ≡ false
is_some m place is = ap is_none is

some_disk : (starts : List (List ℕ)) (shapes : List VdevShape) → 1 ≤ length shapes → LieOn starts 0 shapes → 0 < length starts
some_disk starts [] some lie = absurd (omega (arith, some))
some_disk starts (shape ∷ shapes) some lie = omega (arith, lie.1.there, shape.vdev.geometry.has_data)

-- a disk is there
abbrev pub IsOneThere : List (Option ℕ) → Type 0
IsOneThere order = (which : ℕ) × (place : ℕ) × (slice_get order which ≡ Some (Some place))

-- whichever disks are found, they are enough
abbrev pub AreEnoughFound : Scan → List PlainVdev → Type 0
AreEnoughFound scan vdevs = (members : FoundList) → AreAllMembers scan vdevs members → AreEnough vdevs members

module _ {pool : PoolIdentity} {vdevs : List PlainVdev} {shapes : List VdevShape} {out : List Bool} {images handed : List (List ℕ)} {order : List (Option ℕ)}
    {old new : Disks} {scan : Scan} where
  all_agree : IsHanded pool vdevs shapes out images handed order old new scan → AllAgree scan.labels.items
  all_agree it i j s t before at there =
      agrees pool vdevs order s.disk t.disk s.reading t.reading it.are.allowed it.is.once (λ l is. own_at it j s l at is) (λ m is. own_at it i t m there is)

  -- ---- sizes

  -- a disk is there where none is away
  there_at : IsHanded pool vdevs shapes out images handed order old new scan → ((which : ℕ) → is_out (away_in order) which ≡ false) → (which : ℕ)
      → which < length order → (place : ℕ) × (slice_get order which ≡ Some (Some place))
  there_at it none which below =
      place_of_used order which (get_in_use (away_in order) which (omega (arith, below, length-map order is_none)) (none which))

  -- each disk is as large as its vdev needs
  child_is : IsHanded pool vdevs shapes out images handed order old new scan → (members : FoundList) → AreAllMembers scan vdevs members → (which guid : ℕ)
      → slice_get (disk_guids vdevs) which ≡ Some guid → IsChildAt scan images (all_children vdevs members) 0 which guid
  child_is it members are which guid at = at_child scan images vdevs 0 shapes members it.are.shapes_are it.are.there.may.lie are which guid at

  -- ---- which disk is which

  -- a child that was looked for is the disk in its place, or none if it is away
  member_is : IsHanded pool vdevs shapes out images handed order old new scan → (which guid sectors : ℕ) (there m : Option ℕ)
      → slice_get (disk_guids vdevs) which ≡ Some guid → slice_get order which ≡ Some there → IsAllowedSize (size_of images which)
      → sectors ≤ sectors_of (size_of images which) → IsMember scan sectors guid m → m ≡ there
  member_is it which guid sectors there (Some q) named at allowed room member =
      let mine = own_at it member.i member.s member.l member.at.at member.at.valid in
      let same : mine.guid ≡ guid = sym mine.own.guid_is ∙ member.named in
      let child : mine.child ≡ which = one_disk pool.guid vdevs mine.child which guid it.are.allowed (mine.named ∙ ap Some same) named in
      ap Some (sym member.disk) ∙ same_some (slice_get order which) (Some member.s.disk) there (ap (slice_get order) (sym child) ∙ mine.at) at
  member_is it which guid sectors None None named at allowed room member = refl
  member_is it which guid sectors (Some place) None named at allowed room member =
      let shown = it.are.own.labeled which (omega (arith, slice_get_within order which (Some place) at, it.is.count)) in
      let read = shown_read it which place shown.0 shown.1 at allowed shown.2 in
      let mine = own_at it read.0 read.1 read.2 read.3.at read.3.valid in
      let child : mine.child ≡ which = it.is.once mine.child which place (mine.at ∙ ap (λ (d : ℕ). Some (Some d)) read.4) at in
      let guid_is : mine.guid ≡ guid =
      same_some (slice_get (disk_guids vdevs) which) mine.guid guid (ap (slice_get (disk_guids vdevs)) (sym child) ∙ mine.named) named in
      let below : place < length old.starts = omega (arith, (it.is.each which place at).0, it.holding.shown.count) in
      let d = slice_get_some scan.disks.items place (omega (arith, below, it.read.count)) in
      let scanned = it.read.disks place d.0 d.1 in
      let size : d.0.size ≡ size_of images which = scanned.size ∙ size_handed images handed order old which place it.is it.holding at in
      absurd (member place (record {
        i = read.0;
        s = read.1;
        l = read.2;
        at = read.3;
        disk = read.4;
        named = mine.own.guid_is ∙ guid_is;
        usable = record {
          d = d.0;
          at = d.1;
          whole = not_true d.0.failed (λ failed. it.truly.none_failed place (scanned.failed.0 failed));
          room = subst (λ n. HasSectors n sectors) (sym size) (has_sectors (size_of images which) sectors allowed room);
        };
      }))

  -- so it is of each child
  found_is : IsHanded pool vdevs shapes out images handed order old new scan → (members : FoundList) → AreAllMembers scan vdevs members → (which : ℕ) (there : Option ℕ)
      → slice_get order which ≡ Some there
      → (child : Child) × (slice_get (all_children vdevs members) which ≡ Some child) × (child.disk ≡ there)
  found_is it members are which there at =
      let guid = slice_get_some (disk_guids vdevs) which (omega (arith, slice_get_within order which there at, it.is.count, it.are.own.count)) in
      let c = child_is it members are which guid.0 guid.1 in
      let same : 0 + which ≡ which = omega arith in
      let allowed = subst (λ n. IsAllowedSize (size_of images n)) same c.allowed in
      let room = subst (λ n. c.sectors ≤ sectors_of (size_of images n)) same c.room in
      (c.child, c.at, member_is it which guid.0 c.sectors there c.child.disk guid.1 at allowed room c.member)

  -- none is absent where none is away
  all_found : IsHanded pool vdevs shapes out images handed order old new scan → ((which : ℕ) → is_out (away_in order) which ≡ false) → (members : FoundList)
      → AreAllMembers scan vdevs members → (which : ℕ) (child : Child) → slice_get (all_children vdevs members) which ≡ Some child → is_none child.disk ≡ false
  all_found it none members are which child at =
      let below : which < length order =
      omega (arith, slice_get_within (all_children vdevs members) which child at, length_children scan vdevs members are, it.are.own.count, it.is.count) in
      let place = there_at it none which below in
      let found = found_is it members are which (Some place.0) place.1 in
      let same : found.0 ≡ child = same_some (slice_get (all_children vdevs members) which) found.0 child found.1 at in
      is_some child.disk place.0 (ap (λ (c : Child). c.disk) (sym same) ∙ found.2)

  -- ---- uberblocks

  -- the highest that was read is the highest that they show
  highest_shown : IsHanded pool vdevs shapes out images handed order old new scan → (u : Uberblock) → IsGreatest scan.slots.items u
      → IsHighestShown (away_in order) (fresh images) u
  highest_shown it u top = record {
    shown = read_shown it top.i u top.has;
    greatest = λ v shown.
        let place = place_of_used order shown.which shown.used in
        let below : shown.which < length images = omega (arith, slice_get_within order shown.which (Some place.0) place.1, it.is.count) in
        let read = slot_read it shown.which place.0 v place.1 (allowed_of it shown.which below) shown.on in
        top.greatest read.0 v read.1;
  }

  -- a disk that is there is of an allowed size
  allowed_at : IsHanded pool vdevs shapes out images handed order old new scan → (which place : ℕ) → slice_get order which ≡ Some (Some place)
      → IsAllowedSize (size_of images which)
  allowed_at it which place at = allowed_of it which (omega (arith, slice_get_within order which (Some place) at, it.is.count))

  -- some slot was read, it may be taken, and groups and claims are left
  not_without : IsHanded pool vdevs shapes out images handed order old new scan → IsOneThere order → ShowHighest vdevs (away_in order) (fresh images) → HasNoUberblock scan 0 → ⊥
  not_without it (which, place, at) shows (inl none) =
      let one = shows.each which (used_at order which place at) in
      let read = slot_read it which place one.0 at (allowed_at it which place at) one.1 in
      none read.0 one.0 read.1
  not_without it some shows (inr (inl (u, top, none))) = none top.i u top.has (refl, omega arith)
  not_without it some shows (inr (inr (highest, u, taken, inl group))) = omega (arith, group, shows.left.groups u (read_shown it taken.i u taken.has))
  not_without it some shows (inr (inr (highest, u, taken, inr (inl (i, v, has, claim))))) =
      shows.left.claims highest (highest_shown it highest taken.top) (inl (⊎_elim
      (λ below. omega (arith, below, claim))
      (λ same. omega (arith, same.0, claim))
      (taken.top.greatest i v has)))
  not_without it some shows (inr (inr (highest, u, taken, inr (inr (i, s, at, has))))) =
      let l = last_claim s.reading has in
      let seen = valid_shown it i s l.0 at l.1 in
      shows.left.claims highest (highest_shown it highest taken.top) (inr (
        label_view l.0,
        record {
          which = seen.0;
          used = used_at order seen.0 s.disk seen.1;
          number = s.number;
          shown = seen.3;
        },
        l.2,
      ))

  -- what was taken is the highest that they show
  taken_shown : IsHanded pool vdevs shapes out images handed order old new scan → (highest u : Uberblock) → IsTaken scan.slots.items 0 highest u
      → IsHighestShown (away_in order) (fresh images) u
  taken_shown it highest u taken = subst (λ w. IsHighestShown (away_in order) (fresh images) w) (sym (taken.itself refl)) (highest_shown it highest taken.top)

  -- ---- the configuration

  -- of a valid label it is the pool's
  config_of : IsHanded pool vdevs shapes out images handed order old new scan → (i : ℕ) (s : ScannedLabel) (l : Label) → IsValidAt scan.labels.items i s l
      → config_view l.config ≡ vdevs
  config_of it i s l at = (own_at it i s l at.at at.valid).own.config_is

  fits : IsHanded pool vdevs shapes out images handed order old new scan → ShowHighest vdevs (away_in order) (fresh images) → (u : Uberblock) → IsHighestShown (away_in order) (fresh images) u
      → (i : ℕ) (s : ScannedLabel) (l : Label) → IsValidAt scan.labels.items i s l → IsFit l u
  fits it shows u top i s l at =
      let own = (own_at it i s l at.at at.valid).own in
      record {
        allowed = subst (λ n. IsAllowed n (config_view l.config)) (sym own.pool_is) (subst (λ vs. IsAllowed pool.guid vs) (sym own.config_is) it.are.allowed);
        sum = ap guid_sum own.config_is ∙ sym (shows.sum u top);
      }

  not_unconfigured : IsHanded pool vdevs shapes out images handed order old new scan → IsOneThere order → ShowHighest vdevs (away_in order) (fresh images) → (highest u : Uberblock)
      → IsFound scan 0 highest u → HasNoConfig scan.labels.items u → ⊥
  not_unconfigured it (which, place, at) shows highest u found (inl none) =
      let label = shows.configured u (taken_shown it highest u found.taken) which (used_at order which place at) in
      let read = shown_read it which place label.number label.label at (allowed_at it which place at) label.shown in
      none read.0 read.1 read.2 read.3 (subst (λ l. of_plain_config u.config_digest l) read.5 label.config)
  not_unconfigured it some shows highest u found (inr (i, s, l, source, unfit)) =
      unfit (fits it shows u (taken_shown it highest u found.taken) i s l source.at)

  not_too_few : IsHanded pool vdevs shapes out images handed order old new scan → AreEnoughFound scan vdevs → AreTooFew scan 0 → ⊥
  not_too_few it enough few =
      let c = few.configured in
      let same : config_view few.l.config ≡ vdevs = config_of it few.i c.s few.l c.source.at in
      let members = subst (λ vs. AreAllMembers scan vs few.few.all) same few.few.members in
      few.few.few (subst (λ vs. AreEnough vs few.few.all) (sym same) (enough few.few.all members))

  refused_so : IsHanded pool vdevs shapes out images handed order old new scan → IsOneThere order → AreEnoughFound scan vdevs → ShowHighest vdevs (away_in order) (fresh images) → (refusal : Refusal)
      → ChoiceRefuses scan 0 refusal → refusal ≡ NoMemory
  refused_so it some enough shows NoMemory why = refl
  refused_so it (which, place, at) enough shows (BadLabel breach) why =
      let shown = it.are.own.labeled which (omega (arith, slice_get_within order which (Some place) at, it.is.count)) in
      let read = shown_read it which place shown.0 shown.1 at (allowed_at it which place at) shown.2 in
      absurd (why.0 (record { i = read.0; s = read.1; l = read.2; at = read.3 }))
  refused_so it some enough shows PoolMismatch why = absurd (why.1 (all_agree it))
  refused_so it some enough shows NoUberblock why = absurd (not_without it some shows why.2)
  refused_so it some enough shows BadConfig (highest, u, found, none) = absurd (not_unconfigured it some shows highest u found none)
  refused_so it some enough shows TooManyMissing why = absurd (not_too_few it enough why)

-- ---- the laws

-- so it is of disks of which some are away
pub some_disks_are_found : (pool : PoolIdentity) (vdevs : List PlainVdev) (shapes : List VdevShape) (out : List Bool) (images handed : List (List ℕ)) (order : List (Option ℕ))
    (old new : Disks) (refusal : Refusal) → AreDisksOf pool vdevs shapes out (fresh images) → ShowHighest vdevs (away_in order) (fresh images)
    → AreSomeHandedIn images handed order → AreHolding handed old → AnswerTruly old new → IsOneThere order
    → ((scan : Scan) → IsHanded pool vdevs shapes out images handed order old new scan → AreEnoughFound scan vdevs) → LayoutRefuses old new 0 refusal → refusal ≡ NoMemory
some_disks_are_found pool vdevs shapes out images handed order old new refusal are shows is holding truly some enough why = ⊎_elim
    (λ memory. memory)
    (λ (scan, read, refuses).
    let it : IsHanded pool vdevs shapes out images handed order old new scan = record { are = are; is = is; holding = holding; truly = truly; read = read } in
    refused_so it some (enough scan it) shows refusal refuses)
    why

-- none is away of all of them
pub no_flags : (out : List Bool) (order : List ℕ) → length out ≡ length order → ((disk : ℕ) → is_out out disk ≡ false) → away_in (map Some order) ≡ out
no_flags out order count none =
    same_flags out (away_in (map Some order)) (length-map (map Some order) is_none ∙ length-map order Some ∙ sym count) none (none_away order)

pub own_disks_are_found : OwnDisksAreFound
own_disks_are_found pool vdevs shapes out images handed order old new refusal are shows is holding truly why =
    let count : length out ≡ length order = are.there.may.flags ∙ sym is.count in
    let flags = no_flags out order count are.there.none in
    let first = slice_get_some order 0 (omega (arith, some_disk images shapes are.there.may.some are.there.may.lie, is.count)) in
    some_disks_are_found pool vdevs shapes out images handed (map Some order) old new refusal are
    (subst (λ them. ShowHighest vdevs them (fresh images)) (sym flags) shows) (all_handed images handed order is) holding truly
    (0, first.0, slice_get-map Some order 0 ∙ ap (option_map Some) first.1)
    (λ scan it members all. are_enough scan vdevs members all (all_found it (none_away order) members all)) why

-- the disks of children, in order
pub ordered_as : (pool : PoolIdentity) (vdevs : List PlainVdev) (shapes : List VdevShape) (out : List Bool) (images handed : List (List ℕ)) (order : List (Option ℕ))
    (old new : Disks) (scan : Scan) (members : FoundList) → IsHanded pool vdevs shapes out images handed order old new scan → AreAllMembers scan vdevs members
    → map (λ (c : Child). c.disk) (all_children vdevs members) ≡ order
ordered_as pool vdevs shapes out images handed order old new scan members it are =
    let children : List Child = all_children vdevs members in
    let count : length children ≡ length order = length_children scan vdevs members are ∙ sym it.are.own.count ∙ sym it.is.count in
    same_lists order (map (λ (c : Child). c.disk) children) (λ k. ⊎_elim
    (λ (below : k < length order).
    let there = slice_get_some order k below in
    let found = found_is it members are k there.0 there.1 in
    slice_get-map (λ (c : Child). c.disk) children k ∙ ap (option_map (λ (c : Child). c.disk)) found.1 ∙ ap Some found.2 ∙ sym there.1)
    (λ (past : length order ≤ k).
    slice_get_past (map (λ (c : Child). c.disk) children) k (omega (arith, past, count, length-map children (λ (c : Child). c.disk)))
    ∙ sym (slice_get_past order k past))
    (below_or k (length order)))

-- what is found is the pool's, and a disk is there
pub record IsFoundAs (pool : PoolIdentity) (vdevs : List PlainVdev) (shapes : List VdevShape) (order : List (Option ℕ)) (children : List Child)
    (its_shapes : List VdevShape) (its_vdevs : List PlainVdev) (identity : PoolIdentity) : Type 0 where
  pub children_are : map (λ (c : Child). c.disk) children ≡ order
  pub shapes_are : its_shapes ≡ shapes
  pub vdevs_are : its_vdevs ≡ vdevs
  pub known : IsKnownAs pool identity
  pub some : IsOneThere order

pub some_disks_are_ordered : (pool : PoolIdentity) (vdevs : List PlainVdev) (shapes : List VdevShape) (out : List Bool) (images handed : List (List ℕ))
    (order : List (Option ℕ)) (old new : Disks) (rewind : ℕ) (layout : _) → AreDisksOf pool vdevs shapes out (fresh images)
    → AreSomeHandedIn images handed order → AreHolding handed old → AnswerTruly old new → IsLayoutOf old new rewind layout
    → IsFoundAs pool vdevs shapes order layout.children.items layout.shapes.items (config_view layout.config.value) layout.identity
some_disks_are_ordered pool vdevs shapes out images handed order old new rewind layout are is holding truly laid =
    let it : IsHanded pool vdevs shapes out images handed order old new laid.scan =
    record { are = are; is = is; holding = holding; truly = truly; read = laid.read } in
    let c = laid.chosen.configured in
    let mine = own_at it laid.choice.source c.s laid.chosen.l c.source.at.at c.source.at.valid in
    let same : config_view laid.chosen.l.config ≡ vdevs = mine.own.config_is in
    let members = subst (λ vs. AreAllMembers laid.scan vs laid.choice.members.items) same laid.chosen.members in
    let children : layout.children.items ≡ all_children vdevs laid.choice.members.items =
    laid.laid_out.children ∙ ap (λ vs. all_children vs laid.choice.members.items) same in
    record {
      children_are = ap (map (λ (c : Child). c.disk)) children
          ∙ ordered_as pool vdevs shapes out images handed order old new laid.scan laid.choice.members.items it members;
      shapes_are = same_shapes vdevs 0 layout.shapes.items shapes (subst (λ vs. AreShapesOf vs 0 layout.shapes.items) same laid.laid_out.shapes) are.shapes_are;
      vdevs_are = laid.laid_out.config ∙ same;
      known = record {
        name = ap (λ (x : PoolIdentity). string_bytes x.name) laid.identity ∙ mine.own.name_is;
        guid = ap (λ (x : PoolIdentity). x.guid) laid.identity ∙ mine.own.pool_is;
      };
      some = (mine.child, c.s.disk, mine.at);
    }

pub own_disks_are_ordered : OwnDisksAreOrdered
own_disks_are_ordered pool vdevs shapes out images handed order old new rewind layout are is holding truly laid =
    let it = some_disks_are_ordered pool vdevs shapes out images handed (map Some order) old new rewind layout are (all_handed images handed order is) holding truly laid in
    (it.children_are, it.shapes_are, it.vdevs_are, it.known)
