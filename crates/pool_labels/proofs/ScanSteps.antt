-- What was scanned of one disk, and of the first so many.
use Rattle.std.proofs.Common.{◌≡◌, ◌⊎◌, inl, inr, ◌<◌, ◌≤◌, ◌∙◌, ◌↔◌, ℕ, zero, suc, ◌&&◌, ◌*◌, nat_le, Bool, true, false, if◌then◌else◌, List, [], ◌∷◌, ◌++◌, length, map, Option, Some, None, All, Contains, IsTrue, Ok, refl, sym, ap, subst, arith}
use Rattle.std.specs.Prelude.{Vec}
use Rattle.std.specs.declared.alloc.Global.{Global}
use Rattle.std.proofs.lemmas.Bool.Decides.{nat_tests}
use Rattle.std.proofs.lemmas.List.{length-append, map-append}
use Rattle.std.proofs.lemmas.List.Elements.{All-append, All-weaker, All-nil, All-contains, Contains-append_left, Contains-append_right, Contains-append_cases}
use Rattle.std.proofs.lemmas.Option.{slice_get_within}
use Rattle.model_disk.specs.Call.{FailedRead, is_failed}
use Rattle.model_disk.specs.Joint.{Disks, JointCall, bytes_of, failed_since}
use Rattle.model_disk.specs.Runs.{Makes, no_write}
use Rattle.uberblock_ring.specs.Place.{nth_slot_at}
use Rattle.uberblock_ring.specs.Ranking.{Has}
use Rattle.uberblock_ring.specs.declared.uberblock.Uberblock.{Uberblock}
use Rattle.vdev_label.specs.Plain.{label_view}
use Rattle.vdev_label.proofs.Rooms.{config_of_label_fits}
use Rattle.pool_slots.specs.Failures.{HasFailedOn}
use Rattle.pool_slots.specs.Labels.{area_place}
use Rattle.pool_slots.specs.Reads.{OnlyReads}
use Rattle.pool_slots.specs.Slots.{is_disk}
use Rattle.pool_slots.proofs.Failing.{fails_later}
use Rattle.pool_slots.proofs.ReadRuns.{reads_failed, reads_made, reads_none, reads_more, reads_wider}
use Rattle.pool_labels.specs.Choices.{AreSound, HasConfig}
use Rattle.pool_labels.specs.Scans.{AreLost, AreScannedDisks, AreScannedSlots, AreSlotsOf, HasAllSlots, HasUnreadable, IsDiskScan, IsLabeled, IsScanOf, IsScannedDisk, IsScannedLabel, IsSlotLost, IsSoundReading, MakesAtMost, ScansSlotsOf, anywhere, four_of, has_allowed_size, is_allowed_disk, place_of, places_to}
use Rattle.pool_labels.specs.Sizes.{is_allowed_size}
use Rattle.pool_labels.specs.declared.scanned.DiskScan.{DiskScan}
use Rattle.pool_labels.specs.declared.scanned.Reading.{Reading}
use Rattle.pool_labels.specs.declared.scanned.Reading.TheVariants.{Valid, Bad, Unreadable}
use Rattle.pool_labels.specs.declared.scanned.Scan.{Scan}
use Rattle.pool_labels.specs.declared.scanned.ScannedDisk.{ScannedDisk}
use Rattle.pool_labels.specs.declared.scanned.ScannedLabel.{ScannedLabel}
use Rattle.pool_labels.proofs.Lists.{all_at, push_cases}
use Rattle.pool_labels.proofs.ScanRuns.{made_failed, failed_where, failed_more, label_more, label_since, slot_more, slot_since, lost_more, lost_since, all_more, all_since}

test_gt : (a b : ℕ) → b < a → nat_le a b ≡ false
test_gt a b lt = grind (arith, nat_tests)

-- ---- lists of slots

has_left : (xs ys : List (Option Uberblock)) (i : ℕ) (u : Uberblock) → Has xs i u → Has (xs ++ ys) i u
has_left [] ys i u has = absurd (let e : None ≡ Some u = has in cc)
has_left (x ∷ xs) ys zero u has = has
has_left (x ∷ xs) ys (suc i) u has = has_left xs ys i u has

has_right : (xs ys : List (Option Uberblock)) (j : ℕ) (u : Uberblock) → Has ys j u → (i : ℕ) × Has (xs ++ ys) i u
has_right [] ys j u has = (j, has)
has_right (x ∷ xs) ys j u has = let it = has_right xs ys j u has in (suc it.0, it.1)

has_cases : (xs ys : List (Option Uberblock)) (i : ℕ) (u : Uberblock) → Has (xs ++ ys) i u → Has xs i u ⊎ ((j : ℕ) × Has ys j u)
has_cases [] ys i u has = inr (i, has)
has_cases (x ∷ xs) ys zero u has = inl has
has_cases (x ∷ xs) ys (suc i) u has = elim (has_cases xs ys i u has) [ inl before ↦ inl before | inr later ↦ inr later ]

has_none : (xs : List (Option Uberblock)) (i : ℕ) (u : Uberblock) → xs ≡ [] → Has xs i u → ⊥
has_none xs i u e has = let P : List (Option Uberblock) → Type 0 = λ ys. Has ys i u in let none : None ≡ Some u = subst P e has in absurd cc

labeled_left : (xs ys : List ScannedLabel) (which : ℕ) → IsLabeled xs which → IsLabeled (xs ++ ys) which
labeled_left xs ys which it = record { s = it.s; has = Contains-append_left xs ys it.s it.has; valid = it.valid }

labeled_right : (xs ys : List ScannedLabel) (which : ℕ) → IsLabeled ys which → IsLabeled (xs ++ ys) which
labeled_right xs ys which it = record { s = it.s; has = Contains-append_right xs ys it.s it.has; valid = it.valid }

labeled_cases : (xs ys : List ScannedLabel) (which : ℕ) → IsLabeled (xs ++ ys) which → IsLabeled xs which ⊎ IsLabeled ys which
labeled_cases xs ys which it = elim (Contains-append_cases xs ys it.s it.has) [
  | inl before ↦ inl (record { s = it.s; has = before; valid = it.valid })
  | inr later ↦ inr (record { s = it.s; has = later; valid = it.valid })
]

-- ---- one disk

-- a label is of its disk
labeled_on : (labels : List ScannedLabel) (which w : ℕ) → All (λ s. s.disk ≡ which) labels → IsLabeled labels w → w ≡ which
labeled_on labels which w all it =
    let P : ScannedLabel → Type 0 = λ s. s.disk ≡ which in
    sym it.valid.0 ∙ All-contains P labels it.s all it.has

unread_failed : (old mid : Disks) (which : ℕ) (labels : List ScannedLabel) → All (λ s. s.disk ≡ which) labels → All (IsScannedLabel old mid) labels → HasUnreadable labels
    → HasFailedOn old mid which
unread_failed old mid which labels disks all it =
    let P : ScannedLabel → Type 0 = λ s. s.disk ≡ which in
    let here = All-contains P labels it.s disks it.has in
    let scanned = All-contains (IsScannedLabel old mid) labels it.s all it.has in
    let Q : Reading → Type 0 = IsSoundReading old mid it.s.disk it.s.number in
    let R : ℕ → Type 0 = HasFailedOn old mid in
    subst R here (made_failed old mid it.s.disk (FailedRead (area_place (length (bytes_of old.starts it.s.disk)) it.s.number) 114688) (subst Q it.unread scanned.sound) refl)

lost_failed : (mid new : Disks) (which : ℕ) → IsSlotLost mid new which → HasFailedOn mid new which
lost_failed mid new which it = made_failed mid new which (FailedRead (nth_slot_at (length (bytes_of mid.starts which)) it.number) 1024) it.made refl

none_lost : (labels : List ScannedLabel) (mid new : Disks) (which : ℕ) (slots : Option (Vec (Option Uberblock) Global)) → ScansSlotsOf labels mid new which slots → slots ≡ None → HasFailedOn mid new which
none_lost labels mid new which None it e = lost_failed mid new which it.1
none_lost labels mid new which (Some s) it e = absurd cc

pub is_lost : (slots : Option (Vec (Option Uberblock) Global)) (which : ℕ) → AreLost (Ok slots) which → slots ≡ None
is_lost None which it = refl
is_lost (Some s) which it = absurd it

slots_of : (old mid new : Disks) (which : ℕ) (labels : List ScannedLabel) (slots : Option (Vec (Option Uberblock) Global)) (all : List (Option Uberblock)) → Makes no_write old mid
    → All (λ s. s.disk ≡ which) labels → ScansSlotsOf labels mid new which slots → AreSlotsOf slots all → AreScannedSlots old new labels all
slots_of old mid new which labels (Some s) all makes disks (inl it) same =
    let P : List (Option Uberblock) → Type 0 = AreScannedSlots old new labels in
    subst P (sym same)
    (record {
      each = λ i u has. slot_since old mid new labels u makes (record { fits = it.1.fits i u has; which = which; labeled = it.0; says = it.1.each i u has });
      all = λ w labeled.
          let Q : ℕ → Type 0 = λ d. IsSlotLost old new d ⊎ HasAllSlots old new s.items d in
          subst Q (sym (labeled_on labels which w disks labeled)) (inr (all_since old mid new s.items which makes it.1.all));
    })
slots_of old mid new which labels (Some s) all makes disks (inr it) same =
    record {
      each = λ i u has. absurd (has_none all i u (same ∙ it.1) has);
      all = λ w labeled. let P : ℕ → Type 0 = IsLabeled labels in absurd (it.0 (subst P (labeled_on labels which w disks labeled) labeled));
    }
slots_of old mid new which labels None all makes disks it same =
    record {
      each = λ i u has. absurd (has_none all i u same has);
      all = λ w labeled.
          let Q : ℕ → Type 0 = λ d. IsSlotLost old new d ⊎ HasAllSlots old new all d in
          subst Q (sym (labeled_on labels which w disks labeled)) (inl (lost_since old mid new which makes it.1));
    }

pub disk_scanned : (old mid new : Disks) (which : ℕ) (labels : List ScannedLabel) (slots : Option (Vec (Option Uberblock) Global)) (it : DiskScan) (unread lost : ℕ → Type 0)
    → is_allowed_size (length (bytes_of old.starts which)) ≡ true
    → OnlyReads (is_disk which) unread old mid → OnlyReads (is_disk which) lost mid new → (unread which → HasUnreadable labels) → (lost which → slots ≡ None)
    → map place_of labels ≡ four_of which → All (λ s. s.disk ≡ which) labels → All (IsScannedLabel old mid) labels → ScansSlotsOf labels mid new which slots
    → it.disk.size ≡ length (bytes_of old.starts which) → (IsTrue it.disk.failed ↔ (HasUnreadable labels ⊎ (slots ≡ None))) → it.labels.items ≡ labels → AreSlotsOf slots it.slots.items
    → IsDiskScan old new which it
disk_scanned old mid new which labels slots it unread lost allowed first second by_label by_slot places disks all scanned size failed same_labels same_slots =
    let made = reads_made first in
    let after = reads_made second in
    let P : List ScannedLabel → Type 0 = λ them. map place_of them ≡ (if is_allowed_size (length (bytes_of old.starts which)) then four_of which else []) in
    let Q : List ScannedLabel → Type 0 = All (IsScannedLabel old new) in
    let R : List ScannedLabel → Type 0 = λ them. AreScannedSlots old new them it.slots.items in
    let S : Bool → Type 0 = λ b. map place_of labels ≡ (if b then four_of which else []) in
    record {
      disk = record {
        size = size;
        failed = (
          λ yes. elim (failed.0 yes) [
            | inl bad ↦ failed_more old mid new which after (unread_failed old mid which labels disks all bad)
            | inr none ↦ fails_later no_write old mid new made which (none_lost labels mid new which slots scanned none)
          ],
          λ it_failed. failed.1 (elim (failed_where old mid new which after it_failed) [
            | inl before ↦ inl (by_label (reads_failed first which before).1)
            | inr later ↦ inr (by_slot (reads_failed second which later).1)
          ]),
        );
      };
      places = subst P (sym same_labels) (subst S (sym allowed) places);
      labels = subst Q (sym same_labels) (All-weaker (IsScannedLabel old mid) (IsScannedLabel old new) (λ s. label_more old mid new s after) labels all);
      slots = subst R (sym same_labels) (slots_of old mid new which labels slots it.slots.items made disks scanned same_slots);
    }

false_true : IsTrue false → ⊥
false_true it = cc

since_now : (calls : List JointCall) (n disk : ℕ) → length calls ≤ n → Contains (failed_since n calls) disk → ⊥
since_now [] n disk le has = omega (arith, has.1)
since_now (made ∷ calls) n disk le has =
    let P : Bool → Type 0 = λ b. Contains (if b && is_failed made.call then made.which ∷ failed_since n calls else failed_since n calls) disk in
    since_now calls n disk (omega (arith, le)) (subst P (test_gt n (length calls) (omega (arith, le))) has)

none_since : (old : Disks) (which : ℕ) → HasFailedOn old old which → ⊥
none_since old which failed = since_now old.calls (length old.calls) which (omega arith) failed

labeled_none : (labels : List ScannedLabel) (w : ℕ) → labels ≡ [] → IsLabeled labels w → ⊥
labeled_none labels w e it =
    let P : List ScannedLabel → Type 0 = λ them. Contains them it.s in
    let has = subst P e it.has in
    omega (arith, has.1)

-- of a size that isn't allowed
pub disk_skipped : (old : Disks) (which : ℕ) (it : DiskScan) → is_allowed_size (length (bytes_of old.starts which)) ≡ false → it.disk.size ≡ length (bytes_of old.starts which)
    → it.disk.failed ≡ false → it.labels.items ≡ [] → it.slots.items ≡ [] → IsDiskScan old old which it
disk_skipped old which it allowed size whole labels slots =
    let P : List ScannedLabel → Type 0 = λ them. map place_of them ≡ (if is_allowed_size (length (bytes_of old.starts which)) then four_of which else []) in
    let Q : List ScannedLabel → Type 0 = All (IsScannedLabel old old) in
    let S : Bool → Type 0 = λ b. [] ≡ (if b then four_of which else []) in
    record {
      disk = record {
        size = size;
        failed = (λ yes. let P' : Bool → Type 0 = IsTrue in absurd (false_true (subst P' whole yes)), λ failed. absurd (none_since old which failed));
      };
      places = subst P (sym labels) (subst S (sym allowed) refl);
      labels = subst Q (sym labels) (All-nil (IsScannedLabel old old));
      slots = record {
        each = λ i u has. absurd (has_none it.slots.items i u slots has);
        all = λ w labeled. absurd (labeled_none it.labels.items w labels labeled);
      };
    }

-- ---- the first so many

abbrev pub is_allowed_below : Disks → ℕ → ℕ → Type 0
is_allowed_below disks n which = (which < n) × has_allowed_size disks which

pub record ScanTo (first now : Disks) (n : ℕ) (ds : List ScannedDisk) (ls : List ScannedLabel) (us : List (Option Uberblock)) : Type 0 where
  pub only : OnlyReads (is_allowed_below first n) anywhere first now
  pub count : length ds ≡ n
  pub disks : AreScannedDisks first now ds
  pub places : map place_of ls ≡ places_to first.starts n
  pub labels : All (IsScannedLabel first now) ls
  pub slots : AreScannedSlots first now ls us
  pub few : MakesAtMost (516 * n) first now

pub scan_none : (first : Disks) → ScanTo first first 0 [] [] []
scan_none first =
    record {
      only = reads_none (is_allowed_below first 0) anywhere first;
      count = refl;
      disks = λ which d e. absurd (let none : None ≡ Some d = e in cc);
      places = refl;
      labels = All-nil (IsScannedLabel first first);
      slots = record { each = λ i u has. absurd (has_none [] i u refl has); all = λ w labeled. absurd (labeled_none [] w refl labeled) };
      few = omega arith;
    }

-- a disk that was scanned before, and one that is now
disk_more : (first loop new : Disks) (n which : ℕ) (d : ScannedDisk) → which < n → OnlyReads (is_allowed_disk loop n) anywhere loop new → IsScannedDisk first loop which d → IsScannedDisk first new which d
disk_more first loop new n which d below run it =
    record {
      size = it.size;
      failed = (
        λ yes. failed_more first loop new which (reads_made run) (it.failed.0 yes),
        λ failed. elim (failed_where first loop new which (reads_made run) failed) [
          | inl before ↦ it.failed.1 before
          | inr later ↦ let here : which ≡ n = (reads_failed run which later).0.0 in absurd (omega (arith, below, here))
        ],
      );
    }

disk_since : (first loop new : Disks) (n : ℕ) (d : ScannedDisk) → OnlyReads (is_allowed_below first n) anywhere first loop → Makes no_write loop new → IsScannedDisk loop new n d → IsScannedDisk first new n d
disk_since first loop new n d run makes it =
    let P : List (List ℕ) → Type 0 = λ starts. d.size ≡ length (bytes_of starts n) in
    record {
      size = subst P run.starts it.size;
      failed = (
        λ yes. fails_later no_write first loop new (reads_made run) n (it.failed.0 yes),
        λ failed. elim (failed_where first loop new n makes failed) [
          | inl before ↦ let below : n < n = (reads_failed run n before).0.0 in absurd (omega (arith, below))
          | inr later ↦ it.failed.1 later
        ],
      );
    }

slots_next : (first loop new : Disks) (labels more : List ScannedLabel) (slots others : List (Option Uberblock)) → Makes no_write first loop → Makes no_write loop new
    → AreScannedSlots first loop labels slots → AreScannedSlots loop new more others → AreScannedSlots first new (labels ++ more) (slots ++ others)
slots_next first loop new labels more slots others before makes old it =
    record {
      each = λ i u has. elim (has_cases slots others i u has) [
        | inl there ↦ let found = slot_more first loop new labels u makes (old.each i u there) in
            record { fits = found.fits; which = found.which; labeled = labeled_left labels more found.which found.labeled; says = found.says }
        | inr there ↦ let found = slot_since first loop new more u before (it.each there.0 u there.1) in
            record { fits = found.fits; which = found.which; labeled = labeled_right labels more found.which found.labeled; says = found.says }
      ];
      all = λ w labeled. elim (labeled_cases labels more w labeled) [
        | inl there ↦ elim (old.all w there) [
          | inl lost ↦ inl (lost_more first loop new w makes lost)
          | inr all ↦ inr (λ known honest u shown. let at = all_more first loop new slots w makes all known honest u shown in (at.0, has_left slots others at.0 u at.1))
        ]
        | inr there ↦ elim (it.all w there) [
          | inl lost ↦ inl (lost_since first loop new w before lost)
          | inr all ↦ inr (λ known honest u shown. let at = all_since first loop new others w before all known honest u shown in has_right slots others at.0 u at.1)
        ]
      ];
    }

pub scan_next : (first loop new : Disks) (n : ℕ) (disks : List ScannedDisk) (labels : List ScannedLabel) (slots : List (Option Uberblock)) (it : DiskScan)
    → ScanTo first loop n disks labels slots → OnlyReads (is_allowed_disk loop n) anywhere loop new → IsDiskScan loop new n it
    → MakesAtMost 516 loop new → ScanTo first new (suc n) (disks ++ it.disk ∷ []) (labels ++ it.labels.items) (slots ++ it.slots.items)
scan_next first loop new n disks labels slots it to run scanned one =
    let before = reads_made to.only in
    let makes = reads_made run in
    let P : List (List ℕ) → Type 0 = λ starts. map place_of it.labels.items ≡ (if is_allowed_size (length (bytes_of starts n)) then four_of n else []) in
    record {
      only = reads_more (is_allowed_below first (suc n)) anywhere first loop new
          (reads_wider (is_allowed_below first n) (is_allowed_below first (suc n)) anywhere anywhere first loop (λ w here. (omega (arith, here.0), here.1)) (λ w fault. fault) to.only)
          (reads_wider (is_allowed_disk loop n) (is_allowed_below first (suc n)) anywhere anywhere loop new
          (λ w here.
          let Q : List (List ℕ) → Type 0 = λ starts. IsTrue (is_allowed_size (length (bytes_of starts n))) in
          let R : ℕ → Type 0 = is_allowed_below first (suc n) in
          subst R (sym here.0) (omega arith, subst Q to.only.starts here.1))
          (λ w fault. fault) run);
      count = length-append disks (it.disk ∷ []) ∙ omega (arith, to.count);
      disks = λ which d e. elim (push_cases disks it.disk d which e) [
        | inl there ↦ disk_more first loop new n which d (omega (arith, slice_get_within disks which d there, to.count)) run (to.disks which d there)
        | inr last ↦
            let S : ScannedDisk → Type 0 = IsScannedDisk first new n in
            let T : ℕ → Type 0 = λ w. IsScannedDisk first new w d in
            subst T (sym (last.0 ∙ to.count)) (subst S last.1 (disk_since first loop new n it.disk to.only makes scanned.disk))
      ];
      places = map-append place_of labels it.labels.items ∙ ap (λ (xs : List (ℕ × ℕ)). xs ++ map place_of it.labels.items) to.places
          ∙ ap (λ (ys : List (ℕ × ℕ)). places_to first.starts n ++ ys) (subst P to.only.starts scanned.places);
      labels = All-append (IsScannedLabel first new) labels it.labels.items (All-weaker (IsScannedLabel first loop) (IsScannedLabel first new) (λ s. label_more first loop new s makes) labels to.labels)
          (All-weaker (IsScannedLabel loop new) (IsScannedLabel first new) (λ s. label_since first loop new s before) it.labels.items scanned.labels);
      slots = slots_next first loop new labels it.labels.items slots it.slots.items before makes to.slots scanned.slots;
      few = omega (arith, to.few, one);
    }

sound_config : (old new : Disks) (which number : ℕ) (r : Reading) → IsSoundReading old new which number r → HasConfig r
sound_config old new which number (Valid l) it = config_of_label_fits (label_view l) it.room
sound_config old new which number (Bad b) it = tt
sound_config old new which number Unreadable it = tt

are_sound : (old new : Disks) (labels : List ScannedLabel) → All (IsScannedLabel old new) labels → AreSound labels
are_sound old new labels all = λ i s e. let it = all_at (IsScannedLabel old new) labels i s all e in sound_config old new s.disk s.number s.reading it.sound

pub scan_done : (first now : Disks) (n : ℕ) (scan : Scan) → n ≡ length first.starts → ScanTo first now n scan.disks.items scan.labels.items scan.slots.items → IsScanOf first now scan
scan_done first now n scan e to =
    let P : ℕ → Type 0 = λ m. map place_of scan.labels.items ≡ places_to first.starts m in
    record {
      count = to.count ∙ e;
      disks = to.disks;
      places = subst P e to.places;
      labels = to.labels;
      sound = are_sound first now scan.labels.items to.labels;
      slots = to.slots;
    }

-- the lists as they were added to
pub scan_same : (first now : Disks) (n m : ℕ) (ds ds' : List ScannedDisk) (ls ls' : List ScannedLabel) (us us' : List (Option Uberblock)) → m ≡ n → ds' ≡ ds → ls' ≡ ls → us' ≡ us
    → ScanTo first now n ds ls us → ScanTo first now m ds' ls' us'
scan_same first now n m ds ds' ls ls' us us' count disks labels slots to =
    let P : ℕ → Type 0 = λ k. ScanTo first now k ds ls us in
    let Q : List ScannedDisk → Type 0 = λ x. ScanTo first now m x ls us in
    let R : List ScannedLabel → Type 0 = λ x. ScanTo first now m ds' x us in
    let S : List (Option Uberblock) → Type 0 = ScanTo first now m ds' ls' in
    subst S (sym slots) (subst R (sym labels) (subst Q (sym disks) (subst P (sym count) to)))

pub only_allowed : (first now : Disks) (n : ℕ) (ds : List ScannedDisk) (ls : List ScannedLabel) (us : List (Option Uberblock)) → ScanTo first now n ds ls us → OnlyReads (has_allowed_size first) anywhere first now
only_allowed first now n ds ls us to = reads_wider (is_allowed_below first n) (has_allowed_size first) anywhere anywhere first now (λ w it. it.1) (λ w fault. fault) to.only

-- also of the next disk, where it isn't added
pub only_more : (first loop new : Disks) (n : ℕ) (ds : List ScannedDisk) (ls : List ScannedLabel) (us : List (Option Uberblock)) → ScanTo first loop n ds ls us
    → OnlyReads (is_allowed_disk loop n) anywhere loop new → OnlyReads (has_allowed_size first) anywhere first new
only_more first loop new n ds ls us to run =
    reads_more (has_allowed_size first) anywhere first loop new (only_allowed first loop n ds ls us to)
    (reads_wider (is_allowed_disk loop n) (has_allowed_size first) anywhere anywhere loop new
    (λ w here.
    let Q : List (List ℕ) → Type 0 = λ starts. IsTrue (is_allowed_size (length (bytes_of starts n))) in
    let R : ℕ → Type 0 = has_allowed_size first in
    subst R (sym here.0) (subst Q to.only.starts here.1))
    (λ w fault. fault) run)

-- what one disk was read for
pub on_one : {used : ℕ → Type 0} {faulty : ℕ → Type 0} {old new : Disks} → OnlyReads used faulty old new → OnlyReads used anywhere old new
on_one {used} {faulty} {old} {new} run = reads_wider used used faulty anywhere old new (λ w here. here) (λ w fault. tt) run

pub both_read : {used : ℕ → Type 0} {faulty more : ℕ → Type 0} {old mid new : Disks} → OnlyReads used faulty old mid → OnlyReads used more mid new → OnlyReads used anywhere old new
both_read {used} {old} {mid} {new} first second = reads_more used anywhere old mid new (on_one first) (on_one second)
