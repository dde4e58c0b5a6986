-- What a claim is to write to labels.
use Rattle.std.proofs.Common.{◌≡◌, ◌⊎◌, inl, inr, ◌<◌, ◌≤◌, ◌∙◌, ℕ, zero, suc, ◌+◌, ◌^◌, Bool, List, [], ◌∷◌, ◌++◌, length, slice_get, get_or, Option, Some, None, Ok, Err, refl, sym, ap, subst, arith}
use Rattle.std.specs.Prelude.{Vec}
use Rattle.std.specs.declared.alloc.Global.{Global}
use Rattle.std.proofs.lemmas.Bool.{cases_lt}
use Rattle.std.proofs.lemmas.List.{get_or_past}
use Rattle.std.proofs.lemmas.Option.{slice_get-get_or, slice_get_within}
use Rattle.model_disk.specs.Joint.{Disks, bytes_of, content, AreHonestSince}
use Rattle.model_disk.specs.Runs.{Makes, no_write}
use Rattle.uberblock_ring.specs.declared.uberblock.Uberblock.{Uberblock}
use Rattle.uberblock_ring.specs.Uberblock.{Fits}
use Rattle.sha2.specs.Sha256.{sha256}
use Rattle.vdev_label.specs.Area.{area_of}
use Rattle.vdev_label.specs.Config.{config_bytes}
use Rattle.vdev_label.specs.Plain.{PlainLabel, label_view}
use Rattle.vdev_label.specs.Reads.{ReadsLabel}
use Rattle.vdev_label.specs.Room.{relabeled}
use Rattle.vdev_label.specs.declared.label.Label.{Label}
use Rattle.vdev_label.specs.declared.label.State.TheVariants.{Active}
use Rattle.vdev_label.specs.declared.refusal.Refusal.{Refusal as LabelRefusal}
use Rattle.vdev_label.specs.declared.refusal.Refusal.TheVariants as label
use Rattle.vdev_label.proofs.Rooms.{relabeled_has_room}
use Rattle.pool_slots.specs.LabelReads.{AreFromSources, AreSmall, IsAreaFrom, IsDonor, IsGiven, IsGreater, IsGreatestIn, MakesArea, MakesAreaIfRead, MakesAreas, AreMadeFor, HasLabeled, AreLabeledOn, AreLabeled, IsMadeFrom, IsPlanned, LacksSource, MakesLabel, NoDonor, PlansClaim, ReadsAgain, ReadsAll, ShowsNothing, is_either}
use Rattle.pool_slots.specs.Labels.{IsLabelShown, IsShownAs, AreShownAs, IsLabeledAs, IsValid, IsWithout, IsShownInUse, FitsArea, HasArea, Keeps, renumbered}
use Rattle.pool_slots.specs.OpenRefusals.{of_label}
use Rattle.pool_slots.specs.Opens.{IsKnown, AreKnown}
use Rattle.pool_slots.specs.Relabels.{IsLabelFor}
use Rattle.pool_slots.specs.Shown.{At, NoneHas, has_config}
use Rattle.pool_slots.specs.Slots.{InUse}
use Rattle.pool_slots.specs.declared.areas.Plan.{Plan}
use Rattle.pool_slots.specs.declared.labeled.Area.{Area}
use Rattle.pool_slots.specs.declared.labeled.Donor.{Donor}
use Rattle.pool_slots.specs.declared.labeled.Labeled.{Labeled}
use Rattle.pool_slots.specs.declared.labeled.Shown.{Shown}
use Rattle.pool_slots.proofs.Failing.{fails_later}
use Rattle.pool_slots.specs.declared.refusal.Refusal.{Refusal}
use Rattle.pool_slots.specs.declared.refusal.Refusal.TheVariants.{NoMemory, DiskFault, NoUberblock, NoLabel, UsedUp}
use Rattle.pool_slots.proofs.Choices.{claim_label_within, within, kept_beside}
use Rattle.pool_slots.proofs.Finding.{known_on, honest_before, honest_since}
use Rattle.pool_slots.proofs.LabelAreas.{inscribed_is, label_shown, reads_other}
use Rattle.pool_slots.proofs.LabelScans.{label_later}
use Rattle.pool_slots.proofs.Renumbered.{renumbered_has_room}
use Rattle.pool_slots.proofs.Reading.{longer}

-- ---- the greatest claim

pub greatest_start : (labels : List (Option Labeled)) (least : ℕ) → IsGreatestIn labels least 0 least
greatest_start labels least = record { from = omega arith; each = λ which it below at. absurd (omega (arith, below)); is = inl refl }

some_same : {X : Type 0} (a b : X) → Some a ≡ Some b → a ≡ b
some_same a b e = cc

pub greatest_next : (labels : List (Option Labeled)) (least n claim result : ℕ) → n < length labels → IsGreatestIn labels least n claim → IsGreater claim (get_or labels n None) result
    → IsGreatestIn labels least (n + 1) result
greatest_next labels least n claim result inside before next =
    let here : slice_get labels n ≡ Some (get_or labels n None) = slice_get-get_or labels n None inside in
    record {
      from = omega (arith, before.from, next.from);
      each = λ which it below at. elim (cases_lt which n) [
        | inl earlier ↦ omega (arith, before.each which it earlier at, next.from)
        | inr last ↦
            let e : which ≡ n = omega (arith, below, last) in
            let P : ℕ → Type 0 = λ w. slice_get labels w ≡ Some (Some it) in
            next.each it (some_same (get_or labels n None) (Some it) (sym here ∙ subst P e at))
      ];
      is = elim next.is [
        | inl same ↦ elim before.is [
          | inl least_is ↦ inl (same ∙ least_is)
          | inr other ↦ inr (other.0, other.1, other.2, other.3 ∙ sym same)
        ]
        | inr it ↦ inr (n, it.0, here ∙ ap (λ (o : Option Labeled). Some o) it.1, it.2)
      ];
    }

pub greatest_end : (labels : List (Option Labeled)) (least n claim : ℕ) → length labels ≤ n → IsGreatestIn labels least n claim → IsGreatestIn labels least (length labels) claim
greatest_end labels least n claim all it = record { from = it.from; each = λ which labeled below at. it.each which labeled (omega (arith, below, all)) at; is = it.is }

same_labeled : (a b : Labeled) → Some (Some a) ≡ Some (Some b) → a ≡ b
same_labeled a b e = cc

-- ---- one area

pub relabeled_valid : (l : PlainLabel) (u : Uberblock) → IsValid l → Fits u → IsValid (relabeled l u.claim u.group Active)
relabeled_valid l u valid fits =
    record {
      in_range = record {
        claim_from = omega (arith, fits.claim.0);
        claim_to = fits.claim.1;
        group_from = omega (arith, fits.group.0);
        group_to = fits.group.1;
        name = valid.in_range.name;
      };
      room = relabeled_has_room l u.claim u.group Active fits.claim.1 fits.group.1 valid.room;
    }

-- the numbers of another label have room in its place
pub renumbered_valid : (l own : PlainLabel) → IsValid l → IsValid own → IsValid (renumbered l own)
renumbered_valid l own valid also =
    record {
      in_range = record {
        claim_from = valid.in_range.claim_from;
        claim_to = valid.in_range.claim_to;
        group_from = valid.in_range.group_from;
        group_to = valid.in_range.group_to;
        name = valid.in_range.name;
      };
      room = renumbered_has_room l own valid.room also.room;
    }

-- what a disk's labels are made of has an area
pub label_for_valid : (out : List Bool) (disks : Disks) (u : Uberblock) (which : ℕ) (it : Labeled) (l : PlainLabel) → IsLabelFor out disks u which it l → IsValid l
label_for_valid out disks u which it l from =
    let V : PlainLabel → Type 0 = IsValid in
    elim from.from [
      | inl kept ↦ subst V (sym kept.1) from.shown.valid
      | inr taken ↦ subst V (sym taken.is) (renumbered_valid taken.given from.own taken.shown.valid from.shown.valid)
    ]

-- a label that is read again
pub again_read : (old new : Disks) (which number : ℕ) (found : Label) → 1048576 ≤ length (bytes_of old.starts which) → number < 4 → new.starts ≡ old.starts
    → ReadsLabel old new which number (Ok found) → ReadsAgain old new which number (Ok found)
again_read old new which number found room is starts read =
    (record { in_range = read.2.in_range; room = read.2.room }, λ known honest l shown. (label_shown old new which number found room is starts read known honest).1 l shown)

pub again_unread : (old new : Disks) (which number : ℕ) (cause : LabelRefusal) → 1048576 ≤ length (bytes_of old.starts which) → number < 4 → new.starts ≡ old.starts
    → ReadsLabel old new which number (Err cause) → ReadsAgain old new which number (Err (of_label which cause))
again_unread old new which number label.NoMemory room is starts read = tt
again_unread old new which number label.DiskFault room is starts read = reads_other old new which number label.DiskFault room is starts read
again_unread old new which number (label.BadLabel b) room is starts read = λ known honest. (known, reads_other old new which number (label.BadLabel b) room is starts read known honest)

nothing_earlier : (old new : Disks) (which number : ℕ) → Makes no_write old new → IsKnown old which → ShowsNothing new which number → ShowsNothing old which number
nothing_earlier old new which number makes known nothing = (known, λ l shown. nothing.1 l (label_later old new which number l makes shown))

lacks_earlier : (it : Labeled) (donor : Donor) (old new : Disks) (which : ℕ) → Makes no_write old new → IsKnown old which → IsKnown old donor.disk → LacksSource it donor new which → LacksSource it donor old which
lacks_earlier it donor old new which makes known also (inl own) = inl (nothing_earlier old new which it.source makes known own)
lacks_earlier it donor old new which makes known also (inr given) = inr (nothing_earlier old new donor.disk donor.label makes also given)

-- the label that is written anew
pub label_kept : (it : Labeled) (donor : Donor) (digest : List ℕ) (old new : Disks) (which : ℕ) (found : Label) → it.config_digest ≡ digest → ReadsAgain old new which it.source (Ok found)
    → MakesLabel it donor digest old new which (Ok found)
label_kept it donor digest old new which found same read = (read.0, λ known also honest own given shown shown'. inl (same, sym (read.1 known honest own shown)))

pub label_given : (it : Labeled) (donor : Donor) (digest : List ℕ) (old mid new : Disks) (which : ℕ) (own given made : Label) → ¬ (it.config_digest ≡ digest) → Makes no_write old mid → Makes no_write mid new
    → ReadsAgain old mid which it.source (Ok own) → ReadsAgain mid new donor.disk donor.label (Ok given) → label_view made ≡ renumbered (label_view given) (label_view own)
    → MakesLabel it donor digest old new which (Ok made)
label_given it donor digest old mid new which own given made other scan makes read read' is =
    let V : PlainLabel → Type 0 = IsValid in (
      subst V (sym is) (renumbered_valid (label_view given) (label_view own) read'.0 read.0),
      λ known also honest o g shown shown'.
          let mine = read.1 known (honest_before (length old.calls) no_write mid new makes honest) o shown in
          let theirs = read'.1 (known_on old mid donor.disk scan also) (honest_since (length old.calls) (length mid.calls) new (longer old mid no_write scan) honest) g
          (label_later old mid donor.disk donor.label g scan shown') in
          inr (other, is ∙ ap (λ (x : PlainLabel). renumbered x (label_view own)) (sym theirs) ∙ ap (λ (y : PlainLabel). renumbered g y) (sym mine)),
    )

pub label_unread : (it : Labeled) (donor : Donor) (digest : List ℕ) (old new : Disks) (which : ℕ) (refusal : Refusal) → ReadsAgain old new which it.source (Err refusal)
    → MakesLabel it donor digest old new which (Err refusal)
label_unread it donor digest old new which NoMemory read = tt
label_unread it donor digest old new which (DiskFault d) read = read
label_unread it donor digest old new which NoUberblock read = absurd read
label_unread it donor digest old new which NoLabel read = λ known also honest. inl (read known honest)
label_unread it donor digest old new which UsedUp read = absurd read

pub donor_unread : (it : Labeled) (donor : Donor) (digest : List ℕ) (old mid new : Disks) (which : ℕ) (refusal : Refusal) → Makes no_write old mid
    → ReadsAgain mid new donor.disk donor.label (Err refusal) → MakesLabel it donor digest old new which (Err refusal)
donor_unread it donor digest old mid new which NoMemory scan read = tt
donor_unread it donor digest old mid new which (DiskFault d) scan read = fails_later no_write old mid new scan d read
donor_unread it donor digest old mid new which NoUberblock scan read = absurd read
donor_unread it donor digest old mid new which NoLabel scan read = λ known also honest.
    inr (nothing_earlier old mid donor.disk donor.label scan also
    (read (known_on old mid donor.disk scan also) (honest_since (length old.calls) (length mid.calls) new (longer old mid no_write scan) honest)))
donor_unread it donor digest old mid new which UsedUp scan read = absurd read

pub area_made : (it : Labeled) (donor : Donor) (u : Uberblock) (old new : Disks) (which : ℕ) (found : Label) (area : Area) → it.first < 4 → Fits u
    → MakesLabel it donor u.config_digest old new which (Ok found) → area.first ≡ it.first → area.bytes.items ≡ area_of (relabeled (label_view found) u.claim u.group Active)
    → MakesArea it donor u old new which (Ok area)
area_made it donor u old new which found area first fits made same bytes = (
  same,
  record {
    first = omega (arith, same, first);
    label = relabeled (label_view found) u.claim u.group Active;
    inscribed_as = record {
      valid = relabeled_valid (label_view found) u made.0 fits;
      claim = refl;
      group = refl;
      state = refl;
      spells = bytes ∙ inscribed_is (relabeled (label_view found) u.claim u.group Active);
    };
  },
  λ known also honest own given shown shown'.
      (label_view found, made.1 known also honest own given shown shown', bytes ∙ inscribed_is (relabeled (label_view found) u.claim u.group Active)),
)

pub area_unmade : (it : Labeled) (donor : Donor) (u : Uberblock) (old new : Disks) (which : ℕ) (refusal : Refusal) → MakesLabel it donor u.config_digest old new which (Err refusal)
    → MakesArea it donor u old new which (Err refusal)
area_unmade it donor u old new which NoMemory made = tt
area_unmade it donor u old new which (DiskFault d) made = made
area_unmade it donor u old new which NoUberblock made = absurd made
area_unmade it donor u old new which NoLabel made = made
area_unmade it donor u old new which UsedUp made = absurd made

-- ---- of all disks

pub either_labeled : (labels : List (Option Labeled)) (which disk : ℕ) (it : Labeled) → slice_get labels which ≡ Some (Some it) → HasLabeled labels disk → (w : ℕ) → is_either which disk w → HasLabeled labels w
either_labeled labels which disk it at there w (inl same) = let P : ℕ → Type 0 = HasLabeled labels in subst P (sym same) (it, at)
either_labeled labels which disk it at there w (inr same) = let P : ℕ → Type 0 = HasLabeled labels in subst P (sym same) there

abbrev pub IsMadeAs : List (Option Labeled) → Uberblock → ℕ → Option Area → Type 0
IsMadeAs labels u which None = ¬ HasLabeled labels which
IsMadeAs labels u which (Some area) = (it : Labeled) × (slice_get labels which ≡ Some (Some it)) × (area.first ≡ it.first) × FitsArea u area

abbrev pub AreMadeTo : List (Option Labeled) → Uberblock → List (Option Area) → Type 0
AreMadeTo labels u all = (which : ℕ) (o : Option Area) → slice_get all which ≡ Some o → IsMadeAs labels u which o

made_here : (labels : List (Option Labeled)) (donor : Donor) (u : Uberblock) (loop new : Disks) (which : ℕ) (o : Option Area) → MakesAreaIfRead labels donor u loop new which (Ok o) → IsMadeAs labels u which o
made_here labels donor u loop new which None it = it
made_here labels donor u loop new which (Some area) it = (it.0, it.1, it.2.0, it.2.1)

push_cases : {X : Type 0} (xs : List X) (y x : X) (i : ℕ) → slice_get (xs ++ y ∷ []) i ≡ Some x → (slice_get xs i ≡ Some x) ⊎ ((i ≡ length xs) × (y ≡ x))
push_cases [] y x zero is = inr (refl, cc)
push_cases [] y x (suc i) is = absurd (cc)
push_cases (z ∷ xs) y x zero is = inl is
push_cases (z ∷ xs) y x (suc i) is = elim (push_cases xs y x i is) [ inl before ↦ inl before | inr last ↦ inr (ap suc last.0, last.1) ]

pub made_next : (labels : List (Option Labeled)) (donor : Donor) (u : Uberblock) (loop new : Disks) (which : ℕ) (all : List (Option Area)) (o : Option Area) → length all ≡ which → AreMadeTo labels u all
    → MakesAreaIfRead labels donor u loop new which (Ok o) → AreMadeTo labels u (all ++ o ∷ [])
made_next labels donor u loop new which all o count made one w it at =
    elim (push_cases all o it w at) [
      | inl earlier ↦ made w it earlier
      | inr here ↦
          let P : ℕ → Type 0 = λ d. IsMadeAs labels u d it in
          let Q : Option Area → Type 0 = IsMadeAs labels u which in
          subst P (sym count ∙ sym here.0) (subst Q here.1 (made_here labels donor u loop new which o one))
    ]

shown_area : (labels : List (Option Labeled)) (donor : Donor) (u : Uberblock) (first loop new : Disks) (which : ℕ) (o : Option Area) (it : Labeled) (area : Area) (own given : PlainLabel)
    → Makes no_write first loop → MakesAreaIfRead labels donor u loop new which (Ok o) → AreHonestSince (length loop.calls) new.starts new.calls → o ≡ Some area
    → slice_get labels which ≡ Some (Some it) → IsKnown first which → IsKnown first donor.disk
    → IsLabelShown (length (bytes_of first.starts which)) (content first which) it.source own
    → IsLabelShown (length (bytes_of first.starts donor.disk)) (content first donor.disk) donor.label given → IsAreaFrom it u own given area
shown_area labels donor u first loop new which None it area own given before one honest is labeled known also shown shown' = absurd cc
shown_area labels donor u first loop new which (Some made) it area own given before one honest is labeled known also shown shown' =
    let mine : it ≡ one.0 = same_labeled it one.0 (sym labeled ∙ one.1) in
    let P : Labeled → Type 0 = λ x. IsLabelShown (length (bytes_of loop.starts which)) (content loop which) x.source own in
    let Q : Area → Type 0 = λ a. IsAreaFrom it u own given a in
    let R : Labeled → Type 0 = λ x. IsAreaFrom x u own given made in
    subst Q (some_same made area is) (subst R (sym mine)
    (one.2.2 (known_on first loop which before known) (known_on first loop donor.disk before also) honest own given (subst P mine (label_later first loop which it.source own before shown))
    (label_later first loop donor.disk donor.label given before shown')))

pub sources_next : (labels : List (Option Labeled)) (donor : Donor) (u : Uberblock) (first loop new : Disks) (which : ℕ) (all : List (Option Area)) (o : Option Area) → length all ≡ which → Makes no_write first loop
    → Makes no_write loop new → (AreHonestSince (length first.calls) loop.starts loop.calls → AreFromSources labels donor u first all) → MakesAreaIfRead labels donor u loop new which (Ok o)
    → AreHonestSince (length first.calls) new.starts new.calls → AreFromSources labels donor u first (all ++ o ∷ [])
sources_next labels donor u first loop new which all o count before makes sources one honest w it area own given labeled at known also shown shown' =
    elim (push_cases all o (Some area) w at) [
      | inl earlier ↦ sources (honest_before (length first.calls) no_write loop new makes honest) w it area own given labeled earlier known also shown shown'
      | inr here ↦
          let P : ℕ → Type 0 = λ d. MakesAreaIfRead labels donor u loop new d (Ok o) in
          shown_area labels donor u first loop new w o it area own given before (subst P (sym count ∙ sym here.0) one)
          (honest_since (length first.calls) (length loop.calls) new (longer first loop no_write before) honest) here.1 labeled known also shown shown'
    ]

slice_get_some : {X : Type 0} (xs : List X) (i : ℕ) → i < length xs → (x : X) × (slice_get xs i ≡ Some x)
slice_get_some [] i within = absurd (omega arith)
slice_get_some (x ∷ xs) zero within = (x, refl)
slice_get_some (x ∷ xs) (suc i) within = slice_get_some xs i (omega arith)

has_case : (labels : List (Option Labeled)) (u : Uberblock) (all : List (Option Area)) (which : ℕ) (o : Option Area) → HasLabeled labels which → slice_get all which ≡ Some o → IsMadeAs labels u which o
    → HasArea all which
has_case labels u all which None labeled at it = absurd (it labeled)
has_case labels u all which (Some area) labeled at it = (area, at)

pub made_done : (labels : List (Option Labeled)) (donor : Donor) (u : Uberblock) (old new : Disks) (all : Vec (Option Area) Global) → length all.items ≡ length labels → AreMadeTo labels u all.items
    → (AreHonestSince (length old.calls) new.starts new.calls → AreFromSources labels donor u old all.items) → MakesAreas labels donor u old new (Ok all)
made_done labels donor u old new all count made sources = (
  count,
  record {
    each = λ which labeled.
        let it = slice_get_some all.items which (omega (arith, count, slice_get_within labels which (Some labeled.0) labeled.1)) in
        has_case labels u all.items which it.0 labeled it.1 (made which it.0 it.1);
    only = λ which area at. let it = made which (Some area) at in (it.0, it.1, it.2);
  },
  λ which area at. (made which (Some area) at).3,
  sources,
)

pub made_refused : (labels : List (Option Labeled)) (donor : Donor) (u : Uberblock) (first loop new : Disks) (which : ℕ) (refusal : Refusal) → Makes no_write first loop
    → MakesAreaIfRead labels donor u loop new which (Err refusal) → MakesAreas labels donor u first new (Err refusal)
made_refused labels donor u first loop new which NoMemory before it = tt
made_refused labels donor u first loop new which (DiskFault d) before it = fails_later no_write first loop new before d it.2
made_refused labels donor u first loop new which NoUberblock before it = absurd it.2
made_refused labels donor u first loop new which NoLabel before it = λ honest.
    record {
      which = which;
      it = it.0;
      at = it.1;
      bad = λ known also. lacks_earlier it.0 donor first loop which before known also
          (it.2 (known_on first loop which before known) (known_on first loop donor.disk before also)
          (honest_since (length first.calls) (length loop.calls) new (longer first loop no_write before) honest));
    }
made_refused labels donor u first loop new which UsedUp before it = absurd it.2

-- ---- the plan

-- a label that was read is shown
pub shown_at : (size : ℕ) (held : ℕ → Option ℕ) (shown : List (Option Shown)) (k : ℕ) (s : Shown) → AreShownAs size held shown → At shown k s → (l : PlainLabel) × IsLabelShown size held k l × Keeps l s
shown_at size held shown k s are at =
    let P : Option Shown → Type 0 = IsShownAs size held k in
    (subst P at (are.each k (omega (arith, within shown k s at, are.four)))).0

at_most_case : (size : ℕ) (held : ℕ → Option ℕ) (number claim : ℕ) (l : PlainLabel) (o : Option Shown) → IsShownAs size held number o → ((s : Shown) → o ≡ Some s → s.claim ≤ claim)
    → IsLabelShown size held number l → l.claim ≤ claim
at_most_case size held number claim l None is most shown = absurd (is l shown)
at_most_case size held number claim l (Some s) is most shown = omega (arith, most s refl, (is.1 l shown).0)

without_case : (size : ℕ) (held : ℕ → Option ℕ) (digest : List ℕ) (number : ℕ) (l : PlainLabel) (o : Option Shown) → ((s : Shown) → o ≡ Some s → ¬ has_config digest s) → IsShownAs size held number o
    → IsLabelShown size held number l → sha256 (config_bytes l.vdevs) ≡ digest → ⊥
without_case size held digest number l None none is shown same = is l shown
without_case size held digest number l (Some s) none is shown same = none s refl ((is.1 l shown).1 ∙ same)

-- where none of those that were read has the configuration
without_of : (size : ℕ) (held : ℕ → Option ℕ) (digest : List ℕ) (shown : List (Option Shown)) → AreShownAs size held shown → NoneHas shown digest → IsWithout size held digest
without_of size held digest shown are none number l there same =
    without_case size held digest number l (get_or shown number None) (none number) (are.each number there.is_label) there same

-- no label shows more
at_most : (size : ℕ) (held : ℕ → Option ℕ) (digest : List ℕ) (it : Labeled) (number : ℕ) (l : PlainLabel) → IsLabeledAs size held digest it → IsLabelShown size held number l → l.claim ≤ it.claim
at_most size held digest it number l is shown =
    at_most_case size held number it.claim l (get_or is.shown number None) (is.are.each number shown.is_label) (λ s at. is.summary.greatest.greatest number s at) shown

-- the greatest is shown
greatest_shown : (out : List Bool) (disks : Disks) (digest : List ℕ) (labels : List (Option Labeled)) (which : ℕ) (it : Labeled) → AreLabeledOn out labels → AreLabeled out disks digest labels
    → slice_get labels which ≡ Some (Some it) → (l : PlainLabel) × IsShownInUse out disks l × (it.claim ≡ l.claim)
greatest_shown out disks digest labels which it on are at =
    let is = are which it at in
    let top = is.summary.greatest in
    let there = shown_at (length (bytes_of disks.starts which)) (content disks which) is.shown top.k top.s is.are top.at in
    (there.0, record { which = which; used = (on which).1 (it, at); number = top.k; shown = there.1 }, sym top.is ∙ there.2.0)

pub plan_used_up : (out : List Bool) (taken highest : Uberblock) (old new : Disks) (labels : List (Option Labeled)) (greatest : ℕ) → AreLabeledOn out labels
    → (AreKnown out old → AreHonestSince (length old.calls) new.starts new.calls → AreLabeled out old taken.config_digest labels) → IsGreatestIn labels highest.claim (length labels) greatest
    → 2 ^ 62 ≤ greatest → PlansClaim out taken highest old new (Err UsedUp)
plan_used_up out taken highest old new labels greatest on are is past = λ known honest.
    elim is.is [
      | inl least ↦ inl (omega (arith, least, past))
      | inr it ↦
          let there = greatest_shown out old taken.config_digest labels it.0 it.1 on (are known honest) it.2 in
          inr (there.0, there.1, omega (arith, past, it.3, there.2))
    ]

-- the label that is written anew of a disk is shown
source_shown : (disks : Disks) (digest : List ℕ) (which : ℕ) (it : Labeled) → IsLabeledAs (length (bytes_of disks.starts which)) (content disks which) digest it
    → (l : PlainLabel) × IsLabelShown (length (bytes_of disks.starts which)) (content disks which) it.source l × (sha256 (config_bytes l.vdevs) ≡ it.config_digest)
source_shown disks digest which it is =
    let source = is.summary.source in
    let there = shown_at (length (bytes_of disks.starts which)) (content disks which) is.shown it.source source.s is.are source.at in
    (there.0, there.1, sym there.2.1 ∙ source.config)

-- a donor is one of them
record IsDonorOf (out : List Bool) (disks : Disks) (digest : List ℕ) (donor : Donor) : Type 0 where
  pub used : InUse out donor.disk
  pub given : PlainLabel
  pub shown : IsLabelShown (length (bytes_of disks.starts donor.disk)) (content disks donor.disk) donor.label given
  pub config : sha256 (config_bytes given.vdevs) ≡ digest

labeled_within : (labels : List (Option Labeled)) (which : ℕ) (it : Labeled) → get_or labels which None ≡ Some it → which < length labels
labeled_within labels which it at =
    elim (cases_lt which (length labels)) [
      | inl less ↦ less
      | inr more ↦ let e : None ≡ Some it = sym (get_or_past labels which None more) ∙ at in absurd cc
    ]

pub not_labeled : (labels : List (Option Labeled)) (which : ℕ) → get_or labels which None ≡ None → ¬ HasLabeled labels which
not_labeled labels which none has =
    let same = some_same (get_or labels which None) (Some has.0) (sym (slice_get-get_or labels which None (slice_get_within labels which (Some has.0) has.1)) ∙ has.1) in
    let e : None ≡ Some has.0 = sym none ∙ same in
    absurd cc

pub labeled_there : (labels : List (Option Labeled)) (which : ℕ) (it : Labeled) → get_or labels which None ≡ Some it → slice_get labels which ≡ Some (Some it)
labeled_there labels which it at = slice_get-get_or labels which None (labeled_within labels which it at) ∙ ap (λ (o : Option Labeled). Some o) at

pub none_given : (n : ℕ) (labels : List (Option Labeled)) (digest : List ℕ) → length labels ≤ n
    → ((k : ℕ) (it : Labeled) → k < n → get_or labels k None ≡ Some it → ¬ (it.config_digest ≡ digest)) → NoDonor labels digest
none_given n labels digest all none which it at = none which it (omega (arith, all, labeled_within labels which it at)) at

pub given_by : (labels : List (Option Labeled)) (digest : List ℕ) (donor : Donor) → AreSmall labels → IsDonor labels digest donor → IsGiven labels donor
given_by labels digest donor small is =
    let at = labeled_there labels donor.disk is.it is.at in
    record { there = (is.it, at); small = omega (arith, is.label, (small donor.disk is.it at).1) }

donor_there : (out : List Bool) (disks : Disks) (digest : List ℕ) (labels : List (Option Labeled)) (donor : Donor) → AreLabeledOn out labels → AreLabeled out disks digest labels
    → IsDonor labels digest donor → IsDonorOf out disks digest donor
donor_there out disks digest labels donor on are is =
    let at = labeled_there labels donor.disk is.it is.at in
    let there = source_shown disks digest donor.disk is.it (are donor.disk is.it at) in
    let P : ℕ → Type 0 = λ n. IsLabelShown (length (bytes_of disks.starts donor.disk)) (content disks donor.disk) n there.0 in
    record { used = (on donor.disk).1 (is.it, at); given = there.0; shown = subst P (sym is.label) there.1; config = there.2 ∙ is.config }

-- where no disk has the configuration
pub none_gives : (out : List Bool) (taken highest : Uberblock) (old new : Disks) (labels : List (Option Labeled)) → AreLabeledOn out labels
    → (AreKnown out old → AreHonestSince (length old.calls) new.starts new.calls → AreLabeled out old taken.config_digest labels) → NoDonor labels taken.config_digest
    → PlansClaim out taken highest old new (Err NoLabel)
none_gives out taken highest old new labels on are none = λ known honest. inr (λ which used.
    let it = (on which).0 used in
    let labeled = are known honest which it.0 it.1 in
    let at : get_or labels which None ≡ Some it.0 = some_same (get_or labels which None) (Some it.0) (sym (slice_get-get_or labels which None (slice_get_within labels which (Some it.0) it.1)) ∙ it.1) in
    elim labeled.config [
      | inl same ↦ absurd (none which it.0 at same)
      | inr none_has ↦ without_of (length (bytes_of old.starts which)) (content old which) taken.config_digest labeled.shown labeled.are none_has
    ])

pub labels_unread : (out : List Bool) (taken highest : Uberblock) (old new : Disks) (refusal : Refusal) → ReadsAll out taken.config_digest old new (Err refusal)
    → PlansClaim out taken highest old new (Err refusal)
labels_unread out taken highest old new NoMemory it = tt
labels_unread out taken highest old new (DiskFault d) it = it
labels_unread out taken highest old new NoUberblock it = absurd it
labels_unread out taken highest old new NoLabel it = λ known honest. inl (it known honest)
labels_unread out taken highest old new UsedUp it = absurd it

pub areas_refused : (out : List Bool) (taken highest u : Uberblock) (donor : Donor) (old mid new : Disks) (labels : List (Option Labeled)) (refusal : Refusal) → Makes no_write old mid → Makes no_write mid new
    → AreLabeledOn out labels → (AreKnown out old → AreHonestSince (length old.calls) mid.starts mid.calls → AreLabeled out old taken.config_digest labels)
    → IsDonor labels taken.config_digest donor → MakesAreas labels donor u mid new (Err refusal) → PlansClaim out taken highest old new (Err refusal)
areas_refused out taken highest u donor old mid new labels NoMemory scan makes on are gives it = tt
areas_refused out taken highest u donor old mid new labels (DiskFault d) scan makes on are gives it = fails_later no_write old mid new scan d it
areas_refused out taken highest u donor old mid new labels NoUberblock scan makes on are gives it = absurd it
areas_refused out taken highest u donor old mid new labels NoLabel scan makes on are gives it = λ known honest.
    let bad = it (honest_since (length old.calls) (length mid.calls) new (longer old mid no_write scan) honest) in
    let labeled = are known (honest_before (length old.calls) no_write mid new makes honest) in
    let there = source_shown old taken.config_digest bad.which bad.it (labeled bad.which bad.it bad.at) in
    let gift = donor_there out old taken.config_digest labels donor on labeled gives in
    elim (bad.bad (known_on old mid bad.which scan (known bad.which ((on bad.which).1 (bad.it, bad.at)))) (known_on old mid donor.disk scan (known donor.disk gift.used))) [
      | inl own ↦ absurd (own.1 there.0 (label_later old mid bad.which bad.it.source there.0 scan there.1))
      | inr given ↦ absurd (given.1 gift.given (label_later old mid donor.disk donor.label gift.given scan gift.shown))
    ]
areas_refused out taken highest u donor old mid new labels UsedUp scan makes on are gives it = absurd it

-- what a disk's labels are made of
label_for : (out : List Bool) (disks : Disks) (u : Uberblock) (donor : Donor) (which : ℕ) (it : Labeled) (own l : PlainLabel) → IsLabeledAs (length (bytes_of disks.starts which)) (content disks which) u.config_digest it
    → IsLabelShown (length (bytes_of disks.starts which)) (content disks which) it.source own → (gift : IsDonorOf out disks u.config_digest donor) → IsMadeFrom it u.config_digest own gift.given l
    → IsLabelFor out disks u which it l
label_for out disks u donor which it own l labeled shown gift (inl kept) = record { own = own; shown = shown; from = inl kept }
label_for out disks u donor which it own l labeled shown gift (inr taken) =
    record {
      own = own;
      shown = shown;
      from = inr (record {
        without = elim labeled.config [
          | inl same ↦ absurd (taken.0 same)
          | inr none ↦ without_of (length (bytes_of disks.starts which)) (content disks which) u.config_digest labeled.shown labeled.are none
        ];
        other = donor.disk;
        used = gift.used;
        number = donor.label;
        given = gift.given;
        shown = gift.shown;
        config = gift.config;
        is = taken.1;
      });
    }

planned : (out : List Bool) (disks : Disks) (highest u : Uberblock) (donor : Donor) (labels : List (Option Labeled)) (areas : List (Option Area)) (greatest : ℕ) → u.claim ≡ greatest + 1 → AreLabeledOn out labels
    → AreLabeled out disks u.config_digest labels → IsGreatestIn labels highest.claim (length labels) greatest → AreMadeFor labels areas → AreKnown out disks → IsDonor labels u.config_digest donor → AreFromSources labels donor u disks areas
    → IsPlanned out disks highest u areas
planned out disks highest u donor labels areas greatest claim on are is made known gives sources =
    let digest = u.config_digest in
    let gift = donor_there out disks digest labels donor on are gives in
    record {
      next = record {
        above_slots = omega (arith, is.from, claim);
        above_labels = λ l shown.
            let it = (on shown.which).0 shown.used in
            let most = at_most (length (bytes_of disks.starts shown.which)) (content disks shown.which) digest it.0 shown.number l (are shown.which it.0 it.1) shown.shown in
            omega (arith, claim, most, is.each shown.which it.0 (slice_get_within labels shown.which (Some it.0) it.1) it.1);
        least = elim is.is [
          | inl least ↦ inl (omega (arith, claim, least))
          | inr it ↦ let there = greatest_shown out disks digest labels it.0 it.1 on are it.2 in inr (there.0, there.1, omega (arith, claim, it.3, there.2))
        ];
      };
      made = λ which area at.
          let it = made.only which area at in
          let labeled = are which it.0 it.1 in
          let there = source_shown disks digest which it.0 labeled in
          let from = sources which it.0 area there.0 gift.given it.1 at (known which ((on which).1 (it.0, it.1))) (known donor.disk gift.used) there.1 gift.shown in
          record {
            it = it.0;
            read = labeled;
            first = it.2;
            label = from.0;
            source = label_for out disks u donor which it.0 there.0 from.0 labeled there.1 gift from.1;
            spells = from.2;
          };
      spared = λ which number area l at shown.
          let it = made.only which area at in
          let labeled = are which it.0 it.1 in
          let size = length (bytes_of disks.starts which) in
          let beside = kept_beside labeled.shown it.0.claim it.0.first (omega (arith, labeled.are.four)) labeled.summary.greatest labeled.summary.first in
          let there = shown_at size (content disks which) labeled.shown beside.j beside.s labeled.are beside.at in
          record {
            number = beside.j;
            other = λ same. beside.other (omega (arith, same, it.2));
            label = there.0;
            shown = there.1;
            no_less = omega (arith, at_most size (content disks which) digest it.0 number l labeled shown, beside.has, there.2.0);
          };
    }

pub fits_claimed : (u : Uberblock) (claim : ℕ) → Fits u → 0 < claim → claim ≤ 2 ^ 62 → Fits (record u { claim = claim })
fits_claimed u claim fits from to =
    record {
      group = fits.group;
      claim = (from, to);
      guid_sum = fits.guid_sum;
      timestamp = fits.timestamp;
      root = fits.root;
      root_fits = fits.root_fits;
      checksum = fits.checksum;
      config_digest = fits.config_digest;
    }

pub plan_made : (out : List Bool) (taken highest : Uberblock) (donor : Donor) (old mid new : Disks) (labels : List (Option Labeled)) (greatest : ℕ) (plan : Plan) → plan.claimed ≡ record taken { claim = greatest + 1 }
    → Fits taken → greatest < 2 ^ 62 → Makes no_write old mid → Makes no_write mid new → length labels ≡ length old.starts → AreLabeledOn out labels
    → (AreKnown out old → AreHonestSince (length old.calls) mid.starts mid.calls → AreLabeled out old taken.config_digest labels) → IsGreatestIn labels highest.claim (length labels) greatest
    → IsDonor labels taken.config_digest donor → MakesAreas labels donor plan.claimed mid new (Ok plan.areas) → PlansClaim out taken highest old new (Ok plan)
plan_made out taken highest donor old mid new labels greatest plan claimed fits below scan makes count on are is gives areas =
    let claim : plan.claimed.claim ≡ greatest + 1 = ap (λ (u : Uberblock). u.claim) claimed in
    let F : Uberblock → Type 0 = Fits in
    let R : ℕ → Type 0 = λ n. plan.claimed ≡ record taken { claim = n } in
    let S : List ℕ → Type 0 = λ digest. AreLabeled out old digest labels in
    let G : List ℕ → Type 0 = λ digest. IsDonor labels digest donor in
    let digest : plan.claimed.config_digest ≡ taken.config_digest = ap (λ (u : Uberblock). u.config_digest) claimed in (
      subst R (sym claim) claimed,
      omega (arith, claim, is.from),
      subst F (sym claimed) (fits_claimed taken (greatest + 1) fits (omega arith) (omega (arith, below))),
      omega (arith, areas.0, count),
      λ which. (λ used. areas.1.each which ((on which).0 used), λ has. let it = areas.1.only which has.0 has.1 in (on which).1 (it.0, it.1)),
      areas.2,
      λ known honest.
          planned out old highest plan.claimed donor labels plan.areas.items greatest claim on (subst S (sym digest) (are known (honest_before (length old.calls) no_write mid new makes honest))) is areas.1 known (subst G (sym digest) gives)
          (λ which it area own given labeled at there also shown shown'. areas.3 (honest_since (length old.calls) (length mid.calls) new (longer old mid no_write scan) honest) which it area own given labeled at
          (known_on old mid which scan there) (known_on old mid donor.disk scan also) (label_later old mid which it.source own scan shown)
          (label_later old mid donor.disk donor.label given scan shown')),
    )

pub claim_label_small : (size : ℕ) (held : ℕ → Option ℕ) (digest : List ℕ) (it : Labeled) → IsLabeledAs size held digest it → it.first < 4
claim_label_small size held digest it is = omega (arith, claim_label_within is.shown it.claim it.first is.summary.first, is.are.four)

pub labeled_used : (out : List Bool) (seen labels : List (Option Labeled)) → seen ≡ labels → AreLabeledOn out labels → (which : ℕ) → HasLabeled seen which → InUse out which
labeled_used out seen labels same on which it = let P : List (Option Labeled) → Type 0 = λ xs. HasLabeled xs which in (on which).1 (subst P same it)
