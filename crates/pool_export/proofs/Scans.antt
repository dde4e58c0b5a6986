-- What was read of all disks.
use Rattle.std.proofs.Common.{◌≡◌, ◌⊎◌, inl, inr, ◌<◌, ◌∙◌, ℕ, zero, suc, Bool, List, [], ◌∷◌, ◌++◌, length, slice_get, Option, Some, None, Result, Ok, Err, refl, sym, ap, subst, arith}
use Rattle.std.specs.Prelude.{IsErrAnd, Vec}
use Rattle.std.specs.declared.alloc.Global.{Global}
use Rattle.uberblock_ring.specs.declared.uberblock.Uberblock.{Uberblock}
use Rattle.std.proofs.lemmas.List.Elements.{All-weaker}
use Rattle.model_disk.specs.Call.{Call, Read, FailedRead, Wrote, FailedWrite, Flushed, FailedFlush}
use Rattle.model_disk.specs.Joint.{Disks, bytes_of, content}
use Rattle.model_disk.specs.Runs.{Makes, no_write}
use Rattle.vdev_label.specs.Plain.{PlainLabel}
use Rattle.pool_slots.specs.Labels.{IsWithout}
use Rattle.pool_slots.specs.Failures.{HasFailedOn}
use Rattle.pool_slots.specs.Present.{is_out}
use Rattle.pool_slots.specs.Slots.{AreThere, InUse, StayOut, is_disk}
use Rattle.pool_slots.proofs.ReadRuns.{reads_failed, reads_more, reads_wider}
use Rattle.pool_slots.proofs.Finding.{known_on, honest_before, honest_since}
use Rattle.pool_slots.proofs.LabelScans.{label_earlier, label_later}
use Rattle.pool_slots.proofs.Reading.{longer}
use Rattle.pool_slots.specs.Reads.{IsReadCall, IsReadOf, OnlyReads}
use Rattle.pool_export.specs.Faults.{IsFaultOf, is_fault}
use Rattle.pool_export.specs.Taken.{IsMadeOf}
use Rattle.pool_export.specs.Reads.{IsToldOf, ReadsAreas, ReadsIfUsed, shows_none}
use Rattle.pool_export.specs.Writes.{Areas, HasArea, IsPutAway}
use Rattle.pool_export.specs.declared.refusal.Refusal.{Refusal}
use Rattle.pool_export.specs.declared.refusal.Refusal.TheVariants.{NoMemory, NoLabel, NoDisk}
use Rattle.pool_export.specs.declared.unread.Unread.{Unread}

-- ---- the same of disks on which nothing was written since

made_earlier : (u : Uberblock) (bytes : List ℕ) (old new : Disks) (which : ℕ) → Makes no_write old new → IsMadeOf u bytes (length (bytes_of new.starts which)) (content new which)
    → IsMadeOf u bytes (length (bytes_of old.starts which)) (content old which)
made_earlier u bytes old new which makes it =
    record {
      number = it.number;
      label = it.label;
      taken = record {
        shown = label_earlier old new which it.number it.label makes it.taken.shown;
        config = it.taken.config;
        greatest = λ other m shown config. it.taken.greatest other m (label_later old new which other m makes shown) config;
      };
      spells = it.spells;
    }

none_earlier : (digest : List ℕ) (old new : Disks) (which : ℕ) → Makes no_write old new → IsWithout (length (bytes_of new.starts which)) (content new which) digest
    → IsWithout (length (bytes_of old.starts which)) (content old which) digest
none_earlier digest old new which makes none number l shown = none number l (label_later old new which number l makes shown)

-- ---- disk by disk

-- what is known of a disk whose labels were read, or that is out
abbrev pub IsScanned : List Bool → Uberblock → Disks → Disks → ℕ → Option (Vec ℕ Global) → Type 0
IsScanned out u first now which None = ¬ InUse out which
IsScanned out u first now which (Some area) = ((l : PlainLabel) × IsPutAway u l area.items) × IsToldOf first now which (IsMadeOf u area.items)

abbrev pub AreScanned : List Bool → Uberblock → Disks → Disks → Areas → Type 0
AreScanned out u first now all = (which : ℕ) (o : Option (Vec ℕ Global)) → slice_get all which ≡ Some o → IsScanned out u first now which o

scanned_later : (out later : List Bool) (u : Uberblock) (first loop new : Disks) (which : ℕ) (o : Option (Vec ℕ Global)) → StayOut out later → Makes no_write loop new
    → IsScanned out u first loop which o → IsScanned later u first new which o
scanned_later out later u first loop new which None stay makes it = λ used. it (stay which used)
scanned_later out later u first loop new which (Some area) stay makes it = (it.0, λ known honest. it.1 known (honest_before (length first.calls) no_write loop new makes honest))

scanned_here : (out : List Bool) (u : Uberblock) (first loop new : Disks) (which : ℕ) (o : Option (Vec ℕ Global)) → Makes no_write first loop → ReadsIfUsed out u loop new which (Ok o)
    → IsScanned out u first new which o
scanned_here out u first loop new which None before it = it
scanned_here out u first loop new which (Some area) before it = (
  it.0,
  λ known honest. made_earlier u area.items first loop which before
      (it.1 (known_on first loop which before known) (honest_since (length first.calls) (length loop.calls) new (longer first loop no_write before) honest)),
)

push_cases : {X : Type 0} (xs : List X) (y x : X) (i : ℕ) → slice_get (xs ++ y ∷ []) i ≡ Some x → (slice_get xs i ≡ Some x) ⊎ ((i ≡ length xs) × (y ≡ x))
push_cases [] y x zero is = inr (refl, cc)
push_cases [] y x (suc i) is = absurd (cc)
push_cases (z ∷ xs) y x zero is = inl is
push_cases (z ∷ xs) y x (suc i) is = elim (push_cases xs y x i is) [ inl before ↦ inl before | inr last ↦ inr (ap suc last.0, last.1) ]

pub scans_next : (out later : List Bool) (u : Uberblock) (first loop new : Disks) (which : ℕ) (all : Areas) (o : Option (Vec ℕ Global)) → length all ≡ which → StayOut out later → Makes no_write first loop
    → Makes no_write loop new → AreScanned out u first loop all → ReadsIfUsed later u loop new which (Ok o) → AreScanned later u first new (all ++ o ∷ [])
scans_next out later u first loop new which all o count stay before makes scanned one w it at =
    elim (push_cases all o it w at) [
      | inl earlier ↦ scanned_later out later u first loop new w it stay makes (scanned w it earlier)
      | inr here ↦
          let P : ℕ → Type 0 = λ d. IsScanned later u first new d it in
          let Q : Option (Vec ℕ Global) → Type 0 = IsScanned later u first new which in
          subst P (sym count ∙ sym here.0) (subst Q here.1 (scanned_here later u first loop new which o before one))
    ]

-- why it ended on a disk
pub scans_refused : (later : List Bool) (u : Uberblock) (first loop new : Disks) (which : ℕ) (refusal : Refusal) → Makes no_write first loop → ReadsIfUsed later u loop new which (Err refusal)
    → ReadsAreas later u first new (Err refusal)
scans_refused later u first loop new which NoMemory before it = tt
scans_refused later u first loop new which NoDisk before it = absurd it
scans_refused later u first loop new which (NoLabel d) before it =
    let P : ℕ → Type 0 = λ w. InUse later w × IsToldOf first new w (shows_none u.config_digest) in
    subst P (sym it.0) (
      it.1,
      λ known honest. none_earlier u.config_digest first loop which before
          (it.2 (known_on first loop which before known) (honest_since (length first.calls) (length loop.calls) new (longer first loop no_write before) honest)),
    )

slice_get_some : {X : Type 0} (xs : List X) (i : ℕ) → i < length xs → (x : X) × (slice_get xs i ≡ Some x)
slice_get_some [] i within = absurd (omega arith)
slice_get_some (x ∷ xs) zero within = (x, refl)
slice_get_some (x ∷ xs) (suc i) within = slice_get_some xs i (omega arith)

on_case : (out : List Bool) (u : Uberblock) (first now : Disks) (all : Areas) (which : ℕ) (o : Option (Vec ℕ Global)) → InUse out which → slice_get all which ≡ Some o
    → IsScanned out u first now which o → HasArea all which
on_case out u first now all which None used at it = absurd (it used)
on_case out u first now all which (Some area) used at it = (area, at)

pub scans_done : (out : List Bool) (u : Uberblock) (first now : Disks) (all : Vec (Option (Vec ℕ Global)) Global) → AreThere out first.starts → length all.items ≡ length first.starts
    → AreScanned out u first now all.items → ReadsAreas out u first now (Ok all)
scans_done out u first now all there count scanned = (
  count,
  λ which used. let it = slice_get_some all.items which (omega (arith, there which used, count)) in on_case out u first now all.items which it.0 used it.1 (scanned which it.0 it.1),
  λ which area at. (scanned which (Some area) at).0,
  λ which area at. (scanned which (Some area) at).1,
)

-- ---- which failed

-- by the answer
pub reads_err : {T : Type 0} {used : ℕ → Type 0} {old new : Disks} (r : Result T Unread) (e : Unread) → IsErrAnd r (λ x. x ≡ e) → OnlyReads used (is_fault e) old new
    → OnlyReads used (IsFaultOf r) old new
reads_err (Ok x) e is run = absurd is
reads_err {T} {used} {old} {new} (Err x) e is run =
    let P : Unread → Type 0 = λ y. OnlyReads used (is_fault y) old new in
    subst P (sym is) run

-- of one disk in use
pub reads_one : (out later : List Bool) (which : ℕ) (old new : Disks) (faulty : ℕ → Type 0) → InUse out which → ((disk : ℕ) → faulty disk → is_out later disk) → OnlyReads (is_disk which) faulty old new
    → OnlyReads (InUse out) (is_out later) old new
reads_one out later which old new faulty used gone run =
    reads_wider (is_disk which) (InUse out) faulty (is_out later) old new (λ d same. let P : ℕ → Type 0 = InUse out in subst P (sym same) used) gone run

-- of more disks, with more that went out
pub reads_on_more : (out mid later : List Bool) (old between new : Disks) → StayOut out mid → StayOut mid later → OnlyReads (InUse out) (is_out mid) old between
    → OnlyReads (InUse mid) (is_out later) between new → OnlyReads (InUse out) (is_out later) old new
reads_on_more out mid later old between new first second before run =
    reads_more (InUse out) (is_out later) old between new
    (reads_wider (InUse out) (InUse out) (is_out mid) (is_out later) old between (λ d used. used) (λ d gone used. gone (second d used)) before)
    (reads_wider (InUse mid) (InUse out) (is_out later) (is_out later) between new first (λ d gone. gone) run)

-- a disk of which a read failed is the one that was read
pub fault_is : (which disk : ℕ) (old new : Disks) (faulty : ℕ → Type 0) → OnlyReads (is_disk which) faulty old new → HasFailedOn old new disk → HasFailedOn old new which
fault_is which disk old new faulty run failed = let P : ℕ → Type 0 = HasFailedOn old new in subst P (reads_failed run disk failed).0 failed

may_fail : (P Q : Type 0) (call : Call) → Q → IsReadCall P call → IsReadCall Q call
may_fail P Q (Read at bytes) q it = tt
may_fail P Q (FailedRead at n) q it = q
may_fail P Q (Wrote at bytes) q it = absurd it
may_fail P Q (FailedWrite at bytes) q it = absurd it
may_fail P Q Flushed q it = absurd it
may_fail P Q FailedFlush q it = absurd it

-- reads of one disk, some of which failed: it is out then
pub reads_faulty : (out later : List Bool) (which : ℕ) (old new : Disks) (faulty : ℕ → Type 0) → InUse out which → ¬ InUse later which → OnlyReads (is_disk which) faulty old new
    → OnlyReads (InUse out) (is_out later) old new
reads_faulty out later which old new faulty used gone run =
    let U : ℕ → Type 0 = InUse out in
    let L : ℕ → Type 0 = is_out later in
    record {
      starts = run.starts;
      newer = run.newer;
      calls = run.calls;
      reads = All-weaker (IsReadOf (is_disk which) faulty) (IsReadOf (InUse out) (is_out later))
          (λ made it. (subst U (sym it.0) used, may_fail (faulty made.which) (is_out later made.which) made.call (subst L (sym it.0) gone) it.1)) run.newer run.reads;
    }
