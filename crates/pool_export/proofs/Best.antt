-- The best of the labels that were read of a disk.
use Rattle.std.proofs.Common.{◌≡◌, ◌⊎◌, inl, inr, ◌<◌, ◌≤◌, ◌∙◌, ℕ, ◌+◌, List, length, Option, Some, None, Result, Ok, Err, IfOk, refl, sym, ap, subst, arith}
use Rattle.std.specs.Prelude.{Vec}
use Rattle.std.specs.declared.alloc.Global.{Global}
use Rattle.std.proofs.lemmas.Bool.{cases_lt}
use Rattle.uberblock_ring.specs.declared.uberblock.Uberblock.{Uberblock}
use Rattle.uberblock_ring.specs.Uberblock.{IsNumber}
use Rattle.model_disk.specs.Call.{FailedRead, Read}
use Rattle.model_disk.specs.Joint.{Disks, bytes_of, content, AreHonestSince}
use Rattle.model_disk.specs.Runs.{Makes, no_write}
use Rattle.model_disk.proofs.LawLemmas.{same_bytes}
use Rattle.vdev_label.specs.Area.{area_of}
use Rattle.vdev_label.specs.Place.{area_at}
use Rattle.vdev_label.specs.Plain.{PlainLabel, label_view}
use Rattle.vdev_label.specs.Reads.{ReadsLabel}
use Rattle.vdev_label.specs.declared.label.Label.{Label}
use Rattle.vdev_label.specs.declared.label.State.TheVariants.{Exported}
use Rattle.vdev_label.specs.declared.refusal.Refusal.{Refusal as LabelRefusal}
use Rattle.vdev_label.specs.declared.refusal.Refusal.TheVariants as label
use Rattle.vdev_label.proofs.Rooms.{relabeled_has_room}
use Rattle.pool_slots.specs.Configs.{of_config}
use Rattle.pool_slots.specs.Labels.{IsLabelShown, IsValid, inscribed}
use Rattle.pool_slots.specs.Opens.{IsKnown}
use Rattle.pool_slots.specs.Reads.{OnlyReads}
use Rattle.pool_slots.specs.Slots.{is_disk}
use Rattle.pool_slots.proofs.Failing.{fails_now, fails_later}
use Rattle.pool_slots.proofs.Finding.{known_on, honest_before, honest_since}
use Rattle.pool_slots.proofs.LabelAreas.{area_len, inscribed_is, label_not_read, label_shown, reads_other, same_areas}
use Rattle.pool_slots.proofs.LabelScans.{label_earlier, label_later}
use Rattle.pool_slots.proofs.Reading.{longer}
use Rattle.pool_export.specs.Absence.{AnswersOn}
use Rattle.pool_export.proofs.Absence.{answers_more, answers_none, answers_one, fails_next, fails_one}
use Rattle.pool_export.specs.Faults.{EndsAtFault, IsFaultOf}
use Rattle.pool_export.specs.Reads.{IsAbove, IsBetter, IsBetterOf, IsToldOf, ReadsArea, ReadsBest, ReadsBetter, unread_as}
use Rattle.pool_export.specs.Taken.{exported}
use Rattle.pool_export.specs.declared.unread.Unread.{Unread}
use Rattle.pool_export.specs.declared.unread.Unread.TheVariants.{NoMemory, DiskFault, NoLabel}

-- ---- one label

pub better_read : (digest : List ℕ) (best it : Option Label) (old new : Disks) (which number : ℕ) (found : Label) → 1048576 ≤ length (bytes_of old.starts which) → number < 4 → new.starts ≡ old.starts
    → ReadsLabel old new which number (Ok found) → IsBetterOf digest best found it → ReadsBetter digest best old new which number (Ok it)
better_read digest best it old new which number found room is starts read (inl taken) =
    inl (record {
      label = found;
      is = taken.1;
      valid = record { in_range = read.2.in_range; room = read.2.room };
      better = taken.0;
      told = λ known honest. (label_shown old new which number found room is starts read known honest).0;
    })
better_read digest best it old new which number found room is starts read (inr kept) =
    inr (record {
      same = kept.1;
      told = λ known honest l shown better.
          let P : PlainLabel → Type 0 = IsBetter digest best in
          kept.0 (subst P ((label_shown old new which number found room is starts read known honest).1 l shown) better);
    })

pub better_unread : (digest : List ℕ) (best : Option Label) (old new : Disks) (which number : ℕ) (cause : LabelRefusal) → 1048576 ≤ length (bytes_of old.starts which) → number < 4
    → new.starts ≡ old.starts → ReadsLabel old new which number (Err cause) → ReadsBetter digest best old new which number (unread_as which best cause)
better_unread digest best old new which number label.NoMemory room is starts it = tt
better_unread digest best old new which number label.DiskFault room is starts it =
    fails_now old new which (FailedRead (area_at (length (bytes_of old.starts which)) number) 114688) it refl
better_unread digest best old new which number (label.BadLabel b) room is starts it =
    inr (record { same = refl; told = λ known honest l shown better. reads_other old new which number (label.BadLabel b) room is starts it known honest l shown })

pub only_unread : (best : Option Label) (old new : Disks) (which number : ℕ) (cause : LabelRefusal) → new.starts ≡ old.starts → ReadsLabel old new which number (Err cause)
    → OnlyReads (is_disk which) (IsFaultOf (unread_as which best cause)) old new
only_unread best old new which number label.NoMemory starts it = label_not_read old new which number label.NoMemory starts it
only_unread best old new which number label.DiskFault starts it = label_not_read old new which number label.DiskFault starts it
only_unread best old new which number (label.BadLabel b) starts it = label_not_read old new which number (label.BadLabel b) starts it

-- the one read that was made, or none
pub answers_read : (old new : Disks) (which number : ℕ) (found : Label) → ReadsLabel old new which number (Ok found) → AnswersOn old new which
answers_read old new which number found it = answers_one old new which (Read (area_at (length (bytes_of old.starts which)) number) it.0) it.1.1 refl

pub ends_unread : (best : Option Label) (old new : Disks) (which number : ℕ) (cause : LabelRefusal) → ReadsLabel old new which number (Err cause) → EndsAtFault (unread_as which best cause) old new which
ends_unread best old new which number label.NoMemory (inl none) = answers_none old new which none
ends_unread best old new which number label.NoMemory (inr it) = answers_one old new which (Read (area_at (length (bytes_of old.starts which)) number) it.0) it.1.1 refl
ends_unread best old new which number label.DiskFault it = fails_one old new which (FailedRead (area_at (length (bytes_of old.starts which)) number) 114688) it refl
ends_unread best old new which number (label.BadLabel b) it = answers_one old new which (Read (area_at (length (bytes_of old.starts which)) number) it.0) it.1.1 refl

-- behind calls that were answered
pub ends_err : (T U : Type 0) (old mid new : Disks) (which : ℕ) (cause : Unread) → AnswersOn old mid which → EndsAtFault {T = T} (Err cause) mid new which → EndsAtFault {T = U} (Err cause) old new which
ends_err T U old mid new which NoMemory first it = answers_more old mid new which first it
ends_err T U old mid new which (DiskFault d) first it = fails_next old mid new which first it
ends_err T U old mid new which (NoLabel d) first it = answers_more old mid new which first it

-- ---- label by label

-- of the labels below this number none shows the configuration
abbrev pub none_to : ℕ → List ℕ → ℕ → (ℕ → Option ℕ) → Type 0
none_to n digest size held = (number : ℕ) (l : PlainLabel) → number < n → IsLabelShown size held number l → ¬ of_config digest l

-- of these the one that is taken
pub record BestTo (n : ℕ) (digest : List ℕ) (l : PlainLabel) (size : ℕ) (held : ℕ → Option ℕ) : Type 0 where
  pub number : ℕ
  pub below : number < n
  pub shown : IsLabelShown size held number l
  pub config : of_config digest l
  pub greatest : (other : ℕ) (m : PlainLabel) → other < n → IsLabelShown size held other m → of_config digest m → (m.claim ≤ l.claim) × (other < number → m.claim < l.claim)

abbrev pub IsBestTo : List ℕ → Disks → Disks → ℕ → ℕ → Option Label → Type 0
IsBestTo digest first now which n None = IsToldOf first now which (none_to n digest)
IsBestTo digest first now which n (Some it) = IsValid (label_view it) × of_config digest (label_view it) × IsToldOf first now which (BestTo n digest (label_view it))

shown_once : (size number : ℕ) (held : ℕ → Option ℕ) (l m : PlainLabel) → IsLabelShown size held number l → IsLabelShown size held number m → l ≡ m
shown_once size number held l m one other =
    same_areas l m one.valid other.valid
    (same_bytes (inscribed l) (inscribed m) (area_len l one.valid ∙ sym (area_len m other.valid))
    (λ i below. let inside : i < 114688 = omega (arith, below, area_len m other.valid) in sym (one.bytes i inside) ∙ other.bytes i inside))

less_or_same : (n k : ℕ) → n < k + 1 → (n < k) ⊎ (n ≡ k)
less_or_same n k below = elim (cases_lt n k) [ inl less ↦ inl less | inr more ↦ inr (omega (arith, below, more)) ]

none_is_some : (b : Label) → None ≡ Some b → ⊥
none_is_some b e = cc

same_some : (a b : Label) → Some a ≡ Some b → a ≡ b
same_some a b e = cc

-- those that were read before have a lower claim than what is above the best of them
below_best : (digest : List ℕ) (first loop : Disks) (which n : ℕ) (best : Option Label) (claim other : ℕ) (m : PlainLabel) → IsBestTo digest first loop which n best → IsKnown first which
    → AreHonestSince (length first.calls) loop.starts loop.calls → IsAbove best claim → other < n → IsLabelShown (length (bytes_of first.starts which)) (content first which) other m
    → of_config digest m → m.claim < claim
below_best digest first loop which n None claim other m it known honest above less shown config = absurd (it known honest other m less shown config)
below_best digest first loop which n (Some b) claim other m it known honest above less shown config =
    let le = ((it.2 known honest).greatest other m less shown config).0 in
    omega (arith, le, above b refl)

-- a label that isn't better than this one has no greater claim
no_greater : (digest : List ℕ) (b : Label) (m : PlainLabel) → of_config digest m → ¬ IsBetter digest (Some b) m → m.claim ≤ (label_view b).claim
no_greater digest b m config none =
    elim (cases_lt (label_view b).claim m.claim) [
      | inl more ↦ absurd (none (record {
        config = config;
        above = λ it is. let P : Label → Type 0 = λ x. (label_view x).claim < m.claim in subst P (same_some b it is) more;
      }))
      | inr less ↦ less
    ]

taken_next : (digest : List ℕ) (first loop new : Disks) (which n : ℕ) (best : Option Label) (label : Label) → Makes no_write first loop → Makes no_write loop new
    → IsBestTo digest first loop which n best → IsValid (label_view label) → IsBetter digest best (label_view label)
    → (IsKnown loop which → AreHonestSince (length loop.calls) new.starts new.calls → IsLabelShown (length (bytes_of loop.starts which)) (content loop which) n (label_view label))
    → IsBestTo digest first new which (n + 1) (Some label)
taken_next digest first loop new which n best label before makes read valid better told = (
  valid,
  better.config,
  λ known honest.
      let l = label_view label in
      let size = length (bytes_of first.starts which) in
      let here : IsLabelShown size (content first which) n l =
      label_earlier first loop which n l before (told (known_on first loop which before known) (honest_since (length first.calls) (length loop.calls) new (longer first loop no_write before) honest)) in
      record {
        number = n;
        below = omega arith;
        shown = here;
        config = better.config;
        greatest = λ other m under shown config. elim (less_or_same other n under) [
          | inl less ↦
              let lower : m.claim < l.claim =
              below_best digest first loop which n best l.claim other m read known (honest_before (length first.calls) no_write loop new makes honest) better.above less shown config in
              (omega (arith, lower), λ _. lower)
          | inr same ↦
              let P : ℕ → Type 0 = λ k. IsLabelShown size (content first which) k m in
              let equal : m ≡ l = shown_once size n (content first which) m l (subst P same shown) here in
              let claims : m.claim ≡ l.claim = ap (λ (it : PlainLabel). it.claim) equal in
              (omega (arith, claims), λ lower. absurd (omega (arith, lower, same)))
        ];
      },
)

stays_next : (digest : List ℕ) (first loop new : Disks) (which n : ℕ) (best : Option Label) → Makes no_write first loop → Makes no_write loop new → IsBestTo digest first loop which n best
    → (IsKnown loop which → AreHonestSince (length loop.calls) new.starts new.calls → (l : PlainLabel) → IsLabelShown (length (bytes_of loop.starts which)) (content loop which) n l → ¬ IsBetter digest best l)
    → IsBestTo digest first new which (n + 1) best
stays_next digest first loop new which n None before makes read told = λ known honest number l under shown config.
    elim (less_or_same number n under) [
      | inl less ↦ read known (honest_before (length first.calls) no_write loop new makes honest) number l less shown config
      | inr same ↦
          let P : ℕ → Type 0 = λ k. IsLabelShown (length (bytes_of first.starts which)) (content first which) k l in
          told (known_on first loop which before known) (honest_since (length first.calls) (length loop.calls) new (longer first loop no_write before) honest) l
          (label_later first loop which n l before (subst P same shown)) (record { config = config; above = λ b is. absurd (none_is_some b is) })
    ]
stays_next digest first loop new which n (Some b) before makes read told = (
  read.0,
  read.1,
  λ known honest.
      let top = read.2 known (honest_before (length first.calls) no_write loop new makes honest) in
      record {
        number = top.number;
        below = omega (arith, top.below);
        shown = top.shown;
        config = top.config;
        greatest = λ other m under shown config. elim (less_or_same other n under) [
          | inl less ↦ top.greatest other m less shown config
          | inr same ↦
              let P : ℕ → Type 0 = λ k. IsLabelShown (length (bytes_of first.starts which)) (content first which) k m in
              let none = told (known_on first loop which before known) (honest_since (length first.calls) (length loop.calls) new (longer first loop no_write before) honest) m
              (label_later first loop which n m before (subst P same shown)) in
              (no_greater digest b m config none, λ lower. absurd (omega (arith, lower, same, top.below)))
        ];
      },
)

pub best_next : (digest : List ℕ) (first loop new : Disks) (which n : ℕ) (best it : Option Label) → Makes no_write first loop → Makes no_write loop new → IsBestTo digest first loop which n best
    → ReadsBetter digest best loop new which n (Ok it) → IsBestTo digest first new which (n + 1) it
best_next digest first loop new which n best it before makes read (inl taken) =
    let P : Option Label → Type 0 = IsBestTo digest first new which (n + 1) in
    subst P (sym taken.is) (taken_next digest first loop new which n best taken.label before makes read taken.valid taken.better taken.told)
best_next digest first loop new which n best it before makes read (inr stays) =
    let P : Option Label → Type 0 = IsBestTo digest first new which (n + 1) in
    subst P (sym stays.same) (stays_next digest first loop new which n best before makes read stays.told)

pub best_refused : (digest : List ℕ) (first loop new : Disks) (which n : ℕ) (best : Option Label) (refusal : Unread) → Makes no_write first loop
    → ReadsBetter digest best loop new which n (Err refusal) → ReadsBest digest first new which (Err refusal)
best_refused digest first loop new which n best NoMemory before it = tt
best_refused digest first loop new which n best (DiskFault d) before it = fails_later no_write first loop new before d it
best_refused digest first loop new which n best (NoLabel d) before it = absurd it

pub best_done : (digest : List ℕ) (first now : Disks) (which n : ℕ) (best : Option Label) → 4 ≤ n → IsBestTo digest first now which n best → ReadsBest digest first now which (Ok best)
best_done digest first now which n None all it = λ known honest number l shown. it known honest number l (omega (arith, shown.is_label, all)) shown
best_done digest first now which n (Some b) all it = (
  it.0,
  it.1,
  λ known honest.
      let top = it.2 known honest in (
        top.number,
        record {
          shown = top.shown;
          config = top.config;
          greatest = λ other m shown config. top.greatest other m (omega (arith, shown.is_label, all)) shown config;
        },
      ),
)

-- ---- its area

pub exported_valid : (l : PlainLabel) (u : Uberblock) → IsValid l → IsNumber u.claim → IsNumber u.group → IsValid (exported l u)
exported_valid l u valid claim group =
    record {
      in_range = record {
        claim_from = omega (arith, claim.0);
        claim_to = claim.1;
        group_from = omega (arith, group.0);
        group_to = group.1;
        name = valid.in_range.name;
      };
      room = relabeled_has_room l u.claim u.group Exported claim.1 group.1 valid.room;
    }

pub inscribed_area : {E : Type 0} (r : Result (Vec ℕ Global) E) (l : PlainLabel) → IfOk r (λ area. area.items ≡ area_of l) → IfOk r (λ area. area.items ≡ inscribed l)
inscribed_area (Ok area) l spells = spells ∙ inscribed_is l
inscribed_area (Err e) l spells = tt

pub area_read : (u : Uberblock) (old new : Disks) (which : ℕ) (it : Label) (area : Vec ℕ Global) → IsNumber u.claim → IsNumber u.group → ReadsBest u.config_digest old new which (Ok (Some it))
    → area.items ≡ inscribed (exported (label_view it) u) → ReadsArea u old new which (Ok area)
area_read u old new which it area claim group best spells = (
  (
    exported (label_view it) u,
    record { valid = exported_valid (label_view it) u best.0 claim group; config = best.1; claim = refl; group = refl; state = refl; spells = spells },
  ),
  λ known honest. let taken = best.2 known honest in record { number = taken.0; label = label_view it; taken = taken.1; spells = spells },
)
