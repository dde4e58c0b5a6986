-- What was read of all labels.
use Rattle.std.proofs.Common.{◌≡◌, ◌⊎◌, inl, inr, ◌<◌, ◌∙◌, ℕ, zero, suc, ◌+◌, Bool, List, [], ◌∷◌, ◌++◌, length, slice_get, get_or, Option, Some, None, Ok, Err, refl, sym, ap, subst, arith}
use Rattle.std.specs.Prelude.{Vec}
use Rattle.std.specs.declared.alloc.Global.{Global}
use Rattle.std.proofs.lemmas.List.{length-append}
use Rattle.model_disk.specs.Joint.{Disks, bytes_of, content, AreHonestSince}
use Rattle.model_disk.specs.Runs.{Makes, no_write}
use Rattle.vdev_label.specs.Plain.{PlainLabel}
use Rattle.pool_slots.specs.LabelReads.{ReadsShown, ReadsFour, ReadsLabeled, ReadsIfUsed, ReadsAll, HasLabeled}
use Rattle.pool_slots.specs.Labels.{IsLabelShown, IsShownAs, IsLabeledAs, IsUnlabeled}
use Rattle.pool_slots.specs.Opens.{IsKnown, AreKnown}
use Rattle.pool_slots.specs.Shown.{At, IsLabeledOf}
use Rattle.pool_slots.specs.Slots.{AreThere, InUse}
use Rattle.pool_slots.specs.declared.labeled.Labeled.{Labeled}
use Rattle.pool_slots.specs.declared.labeled.Shown.{Shown}
use Rattle.pool_slots.proofs.Failing.{fails_later}
use Rattle.pool_slots.specs.declared.refusal.Refusal.{Refusal}
use Rattle.pool_slots.specs.declared.refusal.Refusal.TheVariants.{NoMemory, DiskFault, NoUberblock, NoLabel, UsedUp}
use Rattle.pool_slots.proofs.Choices.{claim_label_within, within}
use Rattle.pool_slots.proofs.Finding.{known_on, honest_before, honest_since}
use Rattle.pool_slots.proofs.Phases.{none_same}
use Rattle.pool_slots.proofs.Reading.{longer}

-- ---- the same of disks on which nothing was written since

pub label_same : (size number : ℕ) (held held' : ℕ → Option ℕ) (l : PlainLabel) → ((i : ℕ) → held' i ≡ held i) → IsLabelShown size held number l → IsLabelShown size held' number l
label_same size number held held' l same it = record { is_label = it.is_label; valid = it.valid; bytes = λ i below. same _ ∙ it.bytes i below }

shown_as_same : (size number : ℕ) (held held' : ℕ → Option ℕ) (o : Option Shown) → ((i : ℕ) → held' i ≡ held i) → IsShownAs size held number o → IsShownAs size held' number o
shown_as_same size number held held' None same it = λ l shown. it l (label_same size number held' held l (λ i. sym (same i)) shown)
shown_as_same size number held held' (Some s) same it =
    ((it.0.0, label_same size number held held' it.0.0 same it.0.1, it.0.2), λ l shown. it.1 l (label_same size number held' held l (λ i. sym (same i)) shown))

labeled_as_same : (size : ℕ) (held held' : ℕ → Option ℕ) (digest : List ℕ) (it : Labeled) → ((i : ℕ) → held' i ≡ held i) → IsLabeledAs size held digest it → IsLabeledAs size held' digest it
labeled_as_same size held held' digest it same is =
    record {
      shown = is.shown;
      are = record { four = is.are.four; each = λ number below. shown_as_same size number held held' (get_or is.shown number None) same (is.are.each number below) };
      summary = is.summary;
      config = is.config;
    }

pub label_later : (old new : Disks) (which number : ℕ) (l : PlainLabel) → Makes no_write old new → IsLabelShown (length (bytes_of old.starts which)) (content old which) number l
    → IsLabelShown (length (bytes_of new.starts which)) (content new which) number l
label_later old new which number l makes shown =
    let P : List (List ℕ) → Type 0 = λ starts. IsLabelShown (length (bytes_of starts which)) (content new which) number l in
    subst P (sym makes.starts) (label_same (length (bytes_of old.starts which)) number (content old which) (content new which) l (λ i. none_same old new which i makes) shown)

pub label_earlier : (old new : Disks) (which number : ℕ) (l : PlainLabel) → Makes no_write old new → IsLabelShown (length (bytes_of new.starts which)) (content new which) number l
    → IsLabelShown (length (bytes_of old.starts which)) (content old which) number l
label_earlier old new which number l makes shown =
    let P : List (List ℕ) → Type 0 = λ starts. IsLabelShown (length (bytes_of starts which)) (content old which) number l in
    subst P makes.starts (label_same (length (bytes_of new.starts which)) number (content new which) (content old which) l (λ i. sym (none_same old new which i makes)) shown)

pub labeled_earlier : (old new : Disks) (which : ℕ) (digest : List ℕ) (it : Labeled) → Makes no_write old new → IsLabeledAs (length (bytes_of new.starts which)) (content new which) digest it
    → IsLabeledAs (length (bytes_of old.starts which)) (content old which) digest it
labeled_earlier old new which digest it makes is =
    let P : List (List ℕ) → Type 0 = λ starts. IsLabeledAs (length (bytes_of starts which)) (content old which) digest it in
    subst P makes.starts (labeled_as_same (length (bytes_of new.starts which)) (content new which) (content old which) digest it (λ i. sym (none_same old new which i makes)) is)

-- ---- the four of a disk

pushed : {X : Type 0} (xs : List X) (y d : X) (k : ℕ) → k < length xs + 1 → ((k < length xs) × (get_or (xs ++ y ∷ []) k d ≡ get_or xs k d)) ⊎ ((length xs ≡ k) × (y ≡ get_or (xs ++ y ∷ []) k d))
pushed [] y d zero below = inr (refl, refl)
pushed [] y d (suc k) below = absurd (omega (arith, below))
pushed (x ∷ xs) y d zero below = inl (omega arith, refl)
pushed (x ∷ xs) y d (suc k) below =
    elim (pushed xs y d k (omega (arith, below))) [ inl before ↦ inl (omega (arith, before.0), before.1) | inr last ↦ inr (omega (arith, last.0), last.1) ]

length_pushed : {X : Type 0} (xs : List X) (y : X) → length (xs ++ y ∷ []) ≡ length xs + 1
length_pushed xs y = length-append xs (y ∷ [])

-- so many of them were read
abbrev pub AreReadTo : Disks → Disks → ℕ → List (Option Shown) → Type 0
AreReadTo first now which all =
    (k : ℕ) → k < length all → IsKnown first which → AreHonestSince (length first.calls) now.starts now.calls
    → IsShownAs (length (bytes_of first.starts which)) (content first which) k (get_or all k None)

read_here : (first loop new : Disks) (which number : ℕ) (o : Option Shown) → Makes no_write first loop → ReadsShown loop new which number (Ok o) → IsKnown first which
    → AreHonestSince (length first.calls) new.starts new.calls → IsShownAs (length (bytes_of first.starts which)) (content first which) number o
read_here first loop new which number o before it known honest =
    let P : List (List ℕ) → Type 0 = λ starts. IsShownAs (length (bytes_of starts which)) (content first which) number o in
    subst P before.starts (shown_as_same (length (bytes_of loop.starts which)) number (content loop which) (content first which) o (λ i. sym (none_same first loop which i before))
    (it (known_on first loop which before known) (honest_since (length first.calls) (length loop.calls) new (longer first loop no_write before) honest)))

pub read_next : (first loop new : Disks) (which number : ℕ) (all : List (Option Shown)) (o : Option Shown) → length all ≡ number → Makes no_write first loop → Makes no_write loop new
    → AreReadTo first loop which all → ReadsShown loop new which number (Ok o) → AreReadTo first new which (all ++ o ∷ [])
read_next first loop new which number all o count before makes read it k below known honest =
    elim (pushed all o None k (omega (arith, below, length_pushed all o))) [
      | inl earlier ↦
          let P : Option Shown → Type 0 = IsShownAs (length (bytes_of first.starts which)) (content first which) k in
          subst P (sym earlier.1) (read k earlier.0 known (honest_before (length first.calls) no_write loop new makes honest))
      | inr last ↦
          let P : Option Shown → Type 0 = IsShownAs (length (bytes_of first.starts which)) (content first which) k in
          let Q : ℕ → Type 0 = λ n. IsShownAs (length (bytes_of first.starts which)) (content first which) n o in
          subst P last.1 (subst Q (sym count ∙ last.0) (read_here first loop new which number o before it known honest))
    ]

pub read_done : (old new : Disks) (which : ℕ) (all : Vec (Option Shown) Global) → length all.items ≡ 4 → AreReadTo old new which all.items → ReadsFour old new which (Ok all)
read_done old new which all count read = (count, λ known honest. record { four = count; each = λ number below. read number (omega (arith, below, count)) known honest })

pub read_refused : (first loop new : Disks) (which number : ℕ) (refusal : Refusal) → Makes no_write first loop → ReadsShown loop new which number (Err refusal) → ReadsFour first new which (Err refusal)
read_refused first loop new which number NoMemory before it = tt
read_refused first loop new which number (DiskFault d) before it = fails_later no_write first loop new before d it
read_refused first loop new which number NoUberblock before it = absurd it
read_refused first loop new which number NoLabel before it = absurd it
read_refused first loop new which number UsedUp before it = absurd it

-- ---- what is taken from them

nothing_case : (size : ℕ) (held : ℕ → Option ℕ) (number : ℕ) (l : PlainLabel) (o : Option Shown) → ((s : Shown) → ¬ (o ≡ Some s)) → IsShownAs size held number o → IsLabelShown size held number l → ⊥
nothing_case size held number l None none is shown = is l shown
nothing_case size held number l (Some s) none is shown = none s refl

pub four_without : (digest : List ℕ) (old new : Disks) (which : ℕ) (all : Vec (Option Shown) Global) → ReadsFour old new which (Ok all) → ((k : ℕ) (s : Shown) → ¬ At all.items k s)
    → ReadsLabeled digest old new which (Err NoLabel)
four_without digest old new which all read none = λ known honest number l shown.
    nothing_case (length (bytes_of old.starts which)) (content old which) number l (get_or all.items number None) (none number) ((read.1 known honest).each number shown.is_label) shown

-- what was made of the four
pub four_labeled : (digest : List ℕ) (old new : Disks) (which : ℕ) (all : Vec (Option Shown) Global) (it : Labeled) → ReadsFour old new which (Ok all) → IsLabeledOf all.items digest it
    → ReadsLabeled digest old new which (Ok it)
four_labeled digest old new which all it read is = (
  omega (arith, claim_label_within all.items it.claim it.first is.summary.first, read.0),
  omega (arith, within all.items it.source is.summary.source.s is.summary.source.at, read.0),
  λ known honest. record { shown = all.items; are = read.1 known honest; summary = is.summary; config = is.config },
)

-- ---- disk by disk

-- what is known of a disk whose labels were read
abbrev pub IsLabelScanned : List Bool → List ℕ → Disks → Disks → ℕ → Option Labeled → Type 0
IsLabelScanned out digest first now which None = ¬ InUse out which
IsLabelScanned out digest first now which (Some it) =
    InUse out which × (it.first < 4) × (it.source < 4)
    × (AreKnown out first → AreHonestSince (length first.calls) now.starts now.calls → IsLabeledAs (length (bytes_of first.starts which)) (content first which) digest it)

abbrev pub AreLabelsScanned : List Bool → List ℕ → Disks → Disks → List (Option Labeled) → Type 0
AreLabelsScanned out digest first now all = (which : ℕ) (o : Option Labeled) → slice_get all which ≡ Some o → IsLabelScanned out digest first now which o

scanned_later : (out : List Bool) (digest : List ℕ) (first loop new : Disks) (which : ℕ) (o : Option Labeled) → Makes no_write loop new → IsLabelScanned out digest first loop which o
    → IsLabelScanned out digest first new which o
scanned_later out digest first loop new which None makes it = it
scanned_later out digest first loop new which (Some labeled) makes it =
    (it.0, it.1, it.2, λ known honest. it.3 known (honest_before (length first.calls) no_write loop new makes honest))

scanned_here : (out : List Bool) (digest : List ℕ) (first loop new : Disks) (which : ℕ) (o : Option Labeled) → Makes no_write first loop → ReadsIfUsed out digest loop new which (Ok o)
    → IsLabelScanned out digest first new which o
scanned_here out digest first loop new which None before it = it
scanned_here out digest first loop new which (Some labeled) before it = (
  it.0,
  it.1.0,
  it.1.1,
  λ known honest. labeled_earlier first loop which digest labeled before
      (it.1.2 (known_on first loop which before (known which it.0)) (honest_since (length first.calls) (length loop.calls) new (longer first loop no_write before) honest)),
)

push_cases : {X : Type 0} (xs : List X) (y x : X) (i : ℕ) → slice_get (xs ++ y ∷ []) i ≡ Some x → (slice_get xs i ≡ Some x) ⊎ ((i ≡ length xs) × (y ≡ x))
push_cases [] y x zero is = inr (refl, cc)
push_cases [] y x (suc i) is = absurd (cc)
push_cases (z ∷ xs) y x zero is = inl is
push_cases (z ∷ xs) y x (suc i) is = elim (push_cases xs y x i is) [ inl before ↦ inl before | inr last ↦ inr (ap suc last.0, last.1) ]

pub labels_next : (out : List Bool) (digest : List ℕ) (first loop new : Disks) (which : ℕ) (all : List (Option Labeled)) (o : Option Labeled) → length all ≡ which → Makes no_write first loop
    → Makes no_write loop new → AreLabelsScanned out digest first loop all → ReadsIfUsed out digest loop new which (Ok o) → AreLabelsScanned out digest first new (all ++ o ∷ [])
labels_next out digest first loop new which all o count before makes scanned one w it at =
    elim (push_cases all o it w at) [
      | inl earlier ↦ scanned_later out digest first loop new w it makes (scanned w it earlier)
      | inr here ↦
          let P : ℕ → Type 0 = λ d. IsLabelScanned out digest first new d it in
          let Q : Option Labeled → Type 0 = λ f. IsLabelScanned out digest first new which f in
          subst P (sym count ∙ sym here.0) (subst Q here.1 (scanned_here out digest first loop new which o before one))
    ]

-- why it ended on a disk
pub labels_refused : (out : List Bool) (digest : List ℕ) (first loop new : Disks) (which : ℕ) (refusal : Refusal) → Makes no_write first loop → ReadsIfUsed out digest loop new which (Err refusal)
    → ReadsAll out digest first new (Err refusal)
labels_refused out digest first loop new which NoMemory before it = tt
labels_refused out digest first loop new which (DiskFault d) before it = fails_later no_write first loop new before d it.1
labels_refused out digest first loop new which NoUberblock before it = absurd it.1
labels_refused out digest first loop new which NoLabel before it = λ known honest.
    let bare = it.1 (known_on first loop which before (known which it.0)) (honest_since (length first.calls) (length loop.calls) new (longer first loop no_write before) honest) in
    let P : List (List ℕ) → Type 0 = λ starts. IsUnlabeled (length (bytes_of starts which)) (content first which) in
    let size = length (bytes_of loop.starts which) in
    let here : IsUnlabeled size (content first which) = λ number l shown.
    bare number l (label_same size number (content first which) (content loop which) l (λ i. none_same first loop which i before) shown) in
    record { which = which; used = it.0; none = subst P before.starts here }
labels_refused out digest first loop new which UsedUp before it = absurd it.1

slice_get_some : {X : Type 0} (xs : List X) (i : ℕ) → i < length xs → (x : X) × (slice_get xs i ≡ Some x)
slice_get_some [] i within = absurd (omega arith)
slice_get_some (x ∷ xs) zero within = (x, refl)
slice_get_some (x ∷ xs) (suc i) within = slice_get_some xs i (omega arith)

on_case : (out : List Bool) (digest : List ℕ) (first now : Disks) (all : List (Option Labeled)) (which : ℕ) (o : Option Labeled) → InUse out which → slice_get all which ≡ Some o
    → IsLabelScanned out digest first now which o → HasLabeled all which
on_case out digest first now all which None used at it = absurd (it used)
on_case out digest first now all which (Some labeled) used at it = (labeled, at)

pub labels_done : (out : List Bool) (digest : List ℕ) (first now : Disks) (all : Vec (Option Labeled) Global) → AreThere out first.starts → length all.items ≡ length first.starts
    → AreLabelsScanned out digest first now all.items → ReadsAll out digest first now (Ok all)
labels_done out digest first now all there count scanned = (
  count,
  λ which. (
    λ used. let it = slice_get_some all.items which (omega (arith, there which used, count)) in on_case out digest first now all.items which it.0 used it.1 (scanned which it.0 it.1),
    λ found. (scanned which (Some found.0) found.1).0,
  ),
  λ which it at. let is = scanned which (Some it) at in (is.1, is.2),
  λ known honest which it at. (scanned which (Some it) at).3 known honest,
)
