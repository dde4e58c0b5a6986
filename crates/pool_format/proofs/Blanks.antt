-- What reads tell of disks.
use Rattle.std.proofs.Common.{◌≡◌, inl, inr, ◌<◌, ◌≤◌, ℕ, ◌+◌, Bool, true, false, List, length, Option, Result, Ok, Err, refl, sym, subst, arith}
use Rattle.std.specs.Prelude.{IsErrAnd}
use Rattle.std.proofs.Math.Path.{fun_ext}
use Rattle.std.proofs.lemmas.Bool.{cases_lt}
use Rattle.model_disk.specs.Call.{FailedRead}
use Rattle.model_disk.specs.Joint.{Disks, bytes_of, content}
use Rattle.vdev_label.specs.Place.{area_at}
use Rattle.vdev_label.specs.Plain.{label_view}
use Rattle.vdev_label.specs.Reads.{ReadsLabel}
use Rattle.vdev_label.specs.declared.label.Label.{Label}
use Rattle.vdev_label.specs.declared.refusal.Refusal.{Refusal as LabelRefusal}
use Rattle.vdev_label.specs.declared.refusal.Refusal.TheVariants as label
use Rattle.uberblock_ring.specs.Ranking.{Has}
use Rattle.uberblock_ring.specs.Reads.{ReadsSlots, size_of}
use Rattle.uberblock_ring.specs.declared.refusal.Refusal.{Refusal as RingRefusal}
use Rattle.uberblock_ring.specs.declared.uberblock.Uberblock.{Uberblock}
use Rattle.std.specs.Prelude.{Vec, IsTrue, ◌↔◌}
use Rattle.std.specs.declared.alloc.Global.{Global}
use Rattle.pool_slots.proofs.Failing.{fails_later, fails_now}
use Rattle.pool_slots.specs.Slots.{is_disk}
use Rattle.pool_slots.specs.OpenRefusals.{of_label, of_ring}
use Rattle.pool_slots.specs.Reads.{is_fault as is_slots_fault}
use Rattle.model_disk.specs.Runs.{Makes, no_write}
use Rattle.pool_slots.specs.Reads.{OnlyReads, nowhere}
use Rattle.pool_slots.proofs.Finding.{known_on, honest_before, honest_since}
use Rattle.pool_slots.proofs.Phases.{none_same}
use Rattle.pool_slots.proofs.LabelAreas.{label_not_read, label_shown, reads_other}
use Rattle.pool_slots.proofs.Reading.{longer, are_read, bare_is, read_is, slots_not_read}
use Rattle.pool_slots.proofs.ReadRuns.{reads_then, reads_wider}
use Rattle.pool_format.specs.Blank.{unread_as, HasCause, IsToldOf, ShowsLabel, ShowsLabels, ShowsPool, ShowsSlots, TellsBlank, TellsWhether, is_there, isnt}
use Rattle.pool_format.specs.Faults.{IsFaultOf, is_fault}
use Rattle.pool_format.specs.declared.refusal.Refusal.{Refusal}
use Rattle.pool_format.specs.declared.refusal.Refusal.TheVariants.{NoMemory, DiskFault}

-- ---- what is told of disks at a later moment

-- what a disk holds after reads it held before
moved : (P : ℕ → (ℕ → Option ℕ) → Type 0) (first loop : Disks) (which : ℕ) → Makes no_write first loop → P (length (bytes_of loop.starts which)) (content loop which)
    → P (length (bytes_of first.starts which)) (content first which)
moved P first loop which makes it =
    let S : List (List ℕ) → Type 0 = λ starts. P (length (bytes_of starts which)) (content first which) in
    let H : (ℕ → Option ℕ) → Type 0 = P (length (bytes_of loop.starts which)) in
    subst S makes.starts (subst H (fun_ext (λ i. none_same first loop which i makes)) it)

pub told_since : (P : ℕ → (ℕ → Option ℕ) → Type 0) (first loop new : Disks) (which : ℕ) → Makes no_write first loop → IsToldOf P loop new which → IsToldOf P first new which
told_since P first loop new which makes told = λ known honest.
    moved P first loop which makes (told (known_on first loop which makes known) (honest_since (length first.calls) (length loop.calls) new (longer first loop no_write makes) honest))

pub told_more : (P : ℕ → (ℕ → Option ℕ) → Type 0) (first loop new : Disks) (which : ℕ) → Makes no_write loop new → IsToldOf P first loop which → IsToldOf P first new which
told_more P first loop new which makes told = λ known honest. told known (honest_before (length first.calls) no_write loop new makes honest)

pub told_as : (P Q : ℕ → (ℕ → Option ℕ) → Type 0) (old new : Disks) (which : ℕ) → ((size : ℕ) (held : ℕ → Option ℕ) → P size held → Q size held) → IsToldOf P old new which → IsToldOf Q old new which
told_as P Q old new which turn told = λ known honest. turn (length (bytes_of old.starts which)) (content old which) (told known honest)

pub told_both : (P Q R : ℕ → (ℕ → Option ℕ) → Type 0) (old new : Disks) (which : ℕ) → ((size : ℕ) (held : ℕ → Option ℕ) → P size held → Q size held → R size held)
    → IsToldOf P old new which → IsToldOf Q old new which → IsToldOf R old new which
told_both P Q R old new which both told also = λ known honest. both (length (bytes_of old.starts which)) (content old which) (told known honest) (also known honest)

pub cause_since : (first loop new : Disks) (refusal : Refusal) → Makes no_write first loop → HasCause loop new refusal → HasCause first new refusal
cause_since first loop new NoMemory makes cause = tt
cause_since first loop new (DiskFault disk) makes cause = fails_later no_write first loop new makes disk cause

pub tells_err : (P : ℕ → (ℕ → Option ℕ) → Type 0) (old new : Disks) (which : ℕ) (r : Result Bool Refusal) (e : Refusal) → IsErrAnd r (λ x. x ≡ e) → HasCause old new e → TellsWhether P old new which r
tells_err P old new which (Ok x) e is cause = absurd is
tells_err P old new which (Err x) e is cause = subst (HasCause old new) (sym is) cause

pub blank_err : (old new : Disks) (r : Result Bool Refusal) (e : Refusal) → IsErrAnd r (λ x. x ≡ e) → HasCause old new e → TellsBlank old new r
blank_err old new (Ok x) e is cause = absurd is
blank_err old new (Err x) e is cause = subst (HasCause old new) (sym is) cause

pub reads_err : {T : Type 0} {used : ℕ → Type 0} {old new : Disks} (r : Result T Refusal) (e : Refusal) → IsErrAnd r (λ x. x ≡ e) → OnlyReads used (is_fault e) old new
    → OnlyReads used (IsFaultOf r) old new
reads_err (Ok x) e is run = absurd is
reads_err {T} {used} {old} {new} (Err x) e is run =
    let P : Refusal → Type 0 = λ y. OnlyReads used (is_fault y) old new in
    subst P (sym is) run

-- what an answer that is so tells
pub tells_true : (P : ℕ → (ℕ → Option ℕ) → Type 0) (old new : Disks) (which : ℕ) (b : Bool) → b ≡ true → TellsWhether P old new which (Ok b) → IsToldOf P old new which
tells_true P old new which b is told = let Q : Bool → Type 0 = λ x. TellsWhether P old new which (Ok x) in subst Q is told

pub tells_false : (P : ℕ → (ℕ → Option ℕ) → Type 0) (old new : Disks) (which : ℕ) (b : Bool) → b ≡ false → TellsWhether P old new which (Ok b) → IsToldOf (isnt P) old new which
tells_false P old new which b is told = let Q : Bool → Type 0 = λ x. TellsWhether P old new which (Ok x) in subst Q is told

-- ---- labels

-- none of the first so many
abbrev pub ShowsBelow : ℕ → ℕ → (ℕ → Option ℕ) → Type 0
ShowsBelow n size held = (number : ℕ) × (number < n) × ShowsLabel number size held

none_more : (n m size : ℕ) (held : ℕ → Option ℕ) → m ≡ n + 1 → isnt (ShowsBelow n) size held → isnt (ShowsLabel n) size held → isnt (ShowsBelow m) size held
none_more n m size held count none more it =
    elim (cases_lt it.0 n) [
      | inl less ↦ none (it.0, less, it.2)
      | inr last ↦ let same : it.0 ≡ n = omega (arith, last, it.1, count) in let P : ℕ → Type 0 = λ k. ShowsLabel k size held in more (subst P same it.2)
    ]

-- as far as the labels of a disk were read
pub record NoneShown (first loop : Disks) (which n : ℕ) : Type 0 where
  pub only : OnlyReads (λ w. w ≡ which) nowhere first loop
  pub none : IsToldOf (isnt (ShowsBelow n)) first loop which

pub none_next : (first loop new : Disks) (which n : ℕ) → Makes no_write first loop → Makes no_write loop new → IsToldOf (isnt (ShowsBelow n)) first loop which
    → IsToldOf (isnt (ShowsLabel n)) loop new which → IsToldOf (isnt (ShowsBelow (n + 1))) first new which
none_next first loop new which n before after none here =
    told_both (isnt (ShowsBelow n)) (isnt (ShowsLabel n)) (isnt (ShowsBelow (n + 1))) first new which (λ size held less this. none_more n (n + 1) size held refl less this)
    (told_more (isnt (ShowsBelow n)) first loop new which after none) (told_since (isnt (ShowsLabel n)) first loop new which before here)

pub none_all : (first loop : Disks) (which n : ℕ) → 4 ≤ n → IsToldOf (isnt (ShowsBelow n)) first loop which → IsToldOf (isnt ShowsLabels) first loop which
none_all first loop which n all none =
    told_as (isnt (ShowsBelow n)) (isnt ShowsLabels) first loop which (λ size held less. λ it. less (it.0, omega (arith, all, it.1.1.is_label), it.1)) none

pub shown_here : (first loop new : Disks) (which n : ℕ) → Makes no_write first loop → IsToldOf (ShowsLabel n) loop new which → IsToldOf ShowsLabels first new which
shown_here first loop new which n before here =
    told_as (ShowsLabel n) ShowsLabels first new which (λ size held it. (n, it)) (told_since (ShowsLabel n) first loop new which before here)

-- ---- one label

pub label_only : (old new : Disks) (which number : ℕ) (cause : LabelRefusal) → new.starts ≡ old.starts → ReadsLabel old new which number (Err cause)
    → OnlyReads (is_disk which) (IsFaultOf (unread_as which cause)) old new
label_only old new which number label.NoMemory starts it =
    reads_wider (is_disk which) (is_disk which) (is_slots_fault (of_label which label.NoMemory)) (λ w. ⊥) old new (λ w here. here) (λ w fault. fault) (label_not_read old new which number label.NoMemory starts it)
label_only old new which number label.DiskFault starts it =
    reads_wider (is_disk which) (is_disk which) (is_slots_fault (of_label which label.DiskFault)) (λ w. w ≡ which) old new (λ w here. here) (λ w fault. fault) (label_not_read old new which number label.DiskFault starts it)
label_only old new which number (label.BadLabel b) starts it =
    reads_wider (is_disk which) (is_disk which) (is_slots_fault (of_label which (label.BadLabel b))) (λ w. ⊥) old new (λ w here. here) (λ w fault. fault)
    (label_not_read old new which number (label.BadLabel b) starts it)

pub label_tells : (old new : Disks) (which number : ℕ) (cause : LabelRefusal) → 1048576 ≤ length (bytes_of old.starts which) → number < 4 → new.starts ≡ old.starts
    → ReadsLabel old new which number (Err cause) → TellsWhether (ShowsLabel number) old new which (unread_as which cause)
label_tells old new which number label.NoMemory room is starts it = tt
label_tells old new which number label.DiskFault room is starts it =
    fails_now old new which (FailedRead (area_at (length (bytes_of old.starts which)) number) 114688) it refl
label_tells old new which number (label.BadLabel b) room is starts it = λ known honest shown. reads_other old new which number (label.BadLabel b) room is starts it known honest shown.0 shown.1

pub label_told : (old new : Disks) (which number : ℕ) (found : Label) → 1048576 ≤ length (bytes_of old.starts which) → number < 4 → new.starts ≡ old.starts
    → ReadsLabel old new which number (Ok found) → IsToldOf (ShowsLabel number) old new which
label_told old new which number found room is starts it = λ known honest. (label_view found, (label_shown old new which number found room is starts it known honest).0)

-- ---- slots

pub slots_only : (old new : Disks) (which : ℕ) (cause : RingRefusal) → new.starts ≡ old.starts → ReadsSlots old new which (Err cause)
    → OnlyReads (is_disk which) (is_slots_fault (of_ring which cause)) old new
slots_only old new which cause starts it = slots_not_read old new which cause starts it

slots_told : (old new : Disks) (which : ℕ) (found : Vec (Option Uberblock) Global) (b : Bool) → 1048576 ≤ size_of old which → new.starts ≡ old.starts → ReadsSlots old new which (Ok found)
    → (IsTrue b ↔ ((i : ℕ) × (u : Uberblock) × Has found.items i u)) → TellsWhether ShowsSlots old new which (Ok b)
slots_told old new which found true room starts it test = λ known honest.
    let has = test.0 refl in
    (has.1, (read_is old which found.items has.0 has.1 (are_read old new which found.items room starts it.0 it.1 known honest) has.2).on)
slots_told old new which found false room starts it test = λ known honest shown.
    bare_is old which found.items (are_read old new which found.items room starts it.0 it.1 known honest) (λ k u has. let yes : IsTrue false = test.1 (k, u, has) in absurd cc) shown.1.label shown.1.slot shown.1.is_slot shown.0
    shown.1.shows

pub slots_tell : (old new : Disks) (which : ℕ) (found : Vec (Option Uberblock) Global) (b : Bool) → 1048576 ≤ size_of old which → new.starts ≡ old.starts → ReadsSlots old new which (Ok found)
    → (IsTrue b ↔ ((i : ℕ) × (u : Uberblock) × Has found.items i u)) → TellsWhether ShowsSlots old new which (Ok b)
slots_tell old new which found b room starts it test = slots_told old new which found b room starts it test

-- ---- a disk

pool_tells_ok : (old mid new : Disks) (which : ℕ) (b : Bool) → Makes no_write old mid → Makes no_write mid new → IsToldOf (isnt ShowsLabels) old mid which → TellsWhether ShowsSlots mid new which (Ok b)
    → TellsWhether ShowsPool old new which (Ok b)
pool_tells_ok old mid new which true before after none slots =
    told_as ShowsSlots ShowsPool old new which (λ size held it. inr it) (told_since ShowsSlots old mid new which before slots)
pool_tells_ok old mid new which false before after none slots =
    told_both (isnt ShowsLabels) (isnt ShowsSlots) (isnt ShowsPool) old new which (λ size held labels free it. elim it [ inl label ↦ labels label | inr slot ↦ free slot ])
    (told_more (isnt ShowsLabels) old mid new which after none) (told_since (isnt ShowsSlots) old mid new which before slots)

pub pool_tells : (old mid new : Disks) (which : ℕ) (r : Result Bool Refusal) → Makes no_write old mid → Makes no_write mid new → IsToldOf (isnt ShowsLabels) old mid which → TellsWhether ShowsSlots mid new which r
    → TellsWhether ShowsPool old new which r
pool_tells old mid new which (Ok b) before after none slots = pool_tells_ok old mid new which b before after none slots
pool_tells old mid new which (Err e) before after none slots = cause_since old mid new e before slots

-- ---- all disks

pub record AreBlankTo (first loop : Disks) (n : ℕ) : Type 0 where
  pub only : OnlyReads (is_there first) nowhere first loop
  pub none : (which : ℕ) → which < n → IsToldOf (isnt ShowsPool) first loop which

pub there_only : (first loop new : Disks) (which : ℕ) (faulty : ℕ → Type 0) → which < length first.starts → OnlyReads (is_there first) nowhere first loop → OnlyReads (is_disk which) faulty loop new
    → OnlyReads (is_there first) faulty first new
there_only first loop new which faulty below before run =
    reads_then before (reads_wider (is_disk which) (is_there first) faulty faulty loop new (λ w here. let P : ℕ → Type 0 = is_there first in subst P (sym here) below) (λ w fault. fault) run)

pub blank_more : (first loop new : Disks) (n k : ℕ) → Makes no_write first loop → Makes no_write loop new → ((which : ℕ) → which < n → IsToldOf (isnt ShowsPool) first loop which)
    → IsToldOf (isnt ShowsPool) loop new n → k < n + 1 → IsToldOf (isnt ShowsPool) first new k
blank_more first loop new n k before after none here below =
    elim (cases_lt k n) [
      | inl less ↦ told_more (isnt ShowsPool) first loop new k after (none k less)
      | inr last ↦
          let same : n ≡ k = omega (arith, last, below) in
          let P : ℕ → Type 0 = λ w. IsToldOf (isnt ShowsPool) first new w in
          subst P same (told_since (isnt ShowsPool) first loop new n before here)
    ]

pub shown_pool : (old new : Disks) (which : ℕ) → IsToldOf ShowsLabels old new which → IsToldOf ShowsPool old new which
shown_pool old new which told = told_as ShowsLabels ShowsPool old new which (λ size held it. inl it) told

pub blank_false : (first loop new : Disks) (which : ℕ) → which < length first.starts → Makes no_write first loop → IsToldOf ShowsPool loop new which → TellsBlank first new (Ok false)
blank_false first loop new which below before told = (which, below, told_since ShowsPool first loop new which before told)
