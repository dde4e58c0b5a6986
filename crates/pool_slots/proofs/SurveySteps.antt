-- A whole survey.
use Rattle.std.proofs.Common.{◌≡◌, inl, inr, ℕ, Bool, List, length, get_or, Option, None, Ok, Err, subst}
use Rattle.std.specs.Prelude.{Vec}
use Rattle.std.specs.declared.alloc.Global.{Global}
use Rattle.model_disk.specs.Joint.{Disks, bytes_of, content, AreHonestSince}
use Rattle.model_disk.specs.Runs.{Makes, no_write}
use Rattle.uberblock_ring.specs.declared.uberblock.Uberblock.{Uberblock}
use Rattle.vdev_label.specs.Plain.{PlainLabel}
use Rattle.pool_slots.specs.Failures.{HasFailedOn}
use Rattle.pool_slots.specs.LabelReads.{IsPlanned, LacksLabel, PlansClaim}
use Rattle.pool_slots.specs.Labels.{IsShownInUse, IsWithout}
use Rattle.pool_slots.specs.Marks.{IsUsedUp}
use Rattle.pool_slots.specs.Opens.{AreFound, AreKnown, AreOn, FindsAll, FindsHighest, FoundAt, IsBare, IsHighestOf, IsRead, TakesFrom}
use Rattle.pool_slots.specs.Relabels.{IsLabelFor}
use Rattle.pool_slots.specs.Slots.{InUse}
use Rattle.pool_slots.specs.Surveys.{IsSurveyed, SurveyRefuses}
use Rattle.pool_slots.specs.declared.areas.Plan.{Plan}
use Rattle.pool_slots.specs.declared.found.Found.{Found}
use Rattle.pool_slots.specs.declared.labeled.Area.{Area}
use Rattle.pool_slots.specs.declared.labeled.Labeled.{Labeled}
use Rattle.pool_slots.specs.declared.refusal.Refusal.{Refusal}
use Rattle.pool_slots.specs.declared.refusal.Refusal.TheVariants.{NoMemory, DiskFault, NoUberblock, NoLabel, UsedUp}
use Rattle.pool_slots.proofs.BackReads.{read_earlier, read_later, shown_later}
use Rattle.pool_slots.proofs.Failing.{fails_later}
use Rattle.pool_slots.proofs.Finding.{honest_before, honest_since, known_later}
use Rattle.pool_slots.proofs.LabelScans.{label_earlier, label_later, labeled_earlier}
use Rattle.pool_slots.proofs.OpenSteps.{found_where_shown, highest_shown}
use Rattle.pool_slots.proofs.Phases.{both_made}
use Rattle.pool_slots.proofs.Reading.{longer}

-- ---- labels of disks on which nothing was written since

in_use_later : (out : List Bool) (old new : Disks) (l : PlainLabel) → Makes no_write old new → IsShownInUse out old l → IsShownInUse out new l
in_use_later out old new l makes it = record { which = it.which; used = it.used; number = it.number; shown = label_later old new it.which it.number l makes it.shown }

in_use_earlier : (out : List Bool) (old new : Disks) (l : PlainLabel) → Makes no_write old new → IsShownInUse out new l → IsShownInUse out old l
in_use_earlier out old new l makes it = record { which = it.which; used = it.used; number = it.number; shown = label_earlier old new it.which it.number l makes it.shown }

without_earlier : (old new : Disks) (which : ℕ) (digest : List ℕ) → Makes no_write old new → IsWithout (length (bytes_of new.starts which)) (content new which) digest
    → IsWithout (length (bytes_of old.starts which)) (content old which) digest
without_earlier old new which digest makes without number l shown = without number l (label_later old new which number l makes shown)

label_for_earlier : (out : List Bool) (old new : Disks) (u : Uberblock) (which : ℕ) (it : Labeled) (l : PlainLabel) → Makes no_write old new → IsLabelFor out new u which it l → IsLabelFor out old u which it l
label_for_earlier out old new u which it l makes from =
    record {
      own = from.own;
      shown = label_earlier old new which it.source from.own makes from.shown;
      from = elim from.from [
        | inl kept ↦ inl kept
        | inr taken ↦ inr (record {
          without = without_earlier old new which u.config_digest makes taken.without;
          other = taken.other;
          used = taken.used;
          number = taken.number;
          given = taken.given;
          shown = label_earlier old new taken.other taken.number taken.given makes taken.shown;
          config = taken.config;
          is = taken.is;
        })
      ];
    }

pub planned_earlier : (out : List Bool) (old new : Disks) (highest u : Uberblock) (areas : List (Option Area)) → Makes no_write old new → IsPlanned out new highest u areas
    → IsPlanned out old highest u areas
planned_earlier out old new highest u areas makes it =
    record {
      next = record {
        above_slots = it.next.above_slots;
        above_labels = λ l shown. it.next.above_labels l (in_use_later out old new l makes shown);
        least = elim it.next.least [ inl least ↦ inl least | inr some ↦ inr (some.0, in_use_earlier out old new some.0 makes some.1, some.2) ];
      };
      spared = λ which number area l at shown.
          let other = it.spared which number area l at (label_later old new which number l makes shown) in
          record {
            number = other.number;
            other = other.other;
            label = other.label;
            shown = label_earlier old new which other.number other.label makes other.shown;
            no_less = other.no_less;
          };
      made = λ which area at.
          let made = it.made which area at in
          record {
            it = made.it;
            read = labeled_earlier old new which u.config_digest made.it makes made.read;
            first = made.first;
            label = made.label;
            source = label_for_earlier out old new u which made.it made.label makes made.source;
            spells = made.spells;
          };
    }

-- what was taken is shown
taken_read : (out : List Bool) (rewind : ℕ) (old mid back new : Disks) (all : List (Option Found)) (highest taken : Uberblock) → Makes no_write old mid → Makes no_write mid back → Makes no_write back new
    → (AreKnown out old → AreHonestSince (length old.calls) mid.starts mid.calls → AreFound out old all) → AreOn out all → IsHighestOf all highest → TakesFrom out highest rewind mid back (Ok taken)
    → AreKnown out old → AreHonestSince (length old.calls) new.starts new.calls → IsRead out old taken
taken_read out rewind old mid back new all highest taken scan go_back planning found on one takes known honest =
    let honest_back = honest_before (length old.calls) no_write back new planning honest in
    let are = found known (honest_before (length old.calls) no_write mid back go_back honest_back) in
    let top = highest_shown out old all highest are on one in
    read_earlier out old mid taken scan
    (takes.2 (known_later out old mid scan known) (honest_since (length old.calls) (length mid.calls) back (longer old mid no_write scan) honest_back) (read_later out old mid highest scan top.shown))

pub lacks_earlier : (out : List Bool) (old new : Disks) (digest : List ℕ) → Makes no_write old new → LacksLabel out new digest → LacksLabel out old digest
lacks_earlier out old new digest makes (inl it) = inl (record { which = it.which; used = it.used; none = λ number l shown. it.none number l (label_later old new it.which number l makes shown) })
lacks_earlier out old new digest makes (inr none) = inr (λ which used. without_earlier old new which digest makes (none which used))

pub used_up_earlier : (out : List Bool) (old new : Disks) (highest : Uberblock) → Makes no_write old new → IsUsedUp out new highest → IsUsedUp out old highest
used_up_earlier out old new highest makes (inl past) = inl past
used_up_earlier out old new highest makes (inr it) = inr (it.0, in_use_earlier out old new it.0 makes it.1, it.2)

-- ---- what is found

pub surveyed_by : (out : List Bool) (rewind : ℕ) (old mid back new : Disks) (all : Vec (Option Found) Global) (seen : List (Option Found)) (highest taken : Uberblock) (plan : Plan) → Makes no_write old mid
    → Makes no_write mid back → Makes no_write back new → FindsAll out old mid (Ok all) → seen ≡ all.items → IsHighestOf seen highest → TakesFrom out highest rewind mid back (Ok taken)
    → PlansClaim out taken highest back new (Ok plan)
    → IsSurveyed out rewind old new (record { found = all.items; highest = highest; taken = taken; claimed = plan.claimed; areas = plan.areas.items })
surveyed_by out rewind old mid back new all seen highest taken plan scan go_back planning finds same one takes plans =
    let P : List (Option Found) → Type 0 = λ xs. IsHighestOf xs highest in
    let first = both_made no_write old mid back scan go_back in
    let top : IsHighestOf all.items highest = subst P same one in
    record {
      unwritten = both_made no_write old back new first planning;
      says = λ known honest. record {
        found = finds.3 known (honest_before (length old.calls) no_write mid new (both_made no_write mid back new go_back planning) honest);
        highest = top;
        taken = taken_read out rewind old mid back new all.items highest taken scan go_back planning finds.3 finds.1 top takes known honest;
        rewound = takes.0;
        claimed = plans.0;
        planned = planned_earlier out old back highest plan.claimed plan.areas.items first
            (plans.6 (known_later out old back first known) (honest_since (length old.calls) (length back.calls) new (longer old back no_write first) honest));
      };
    }

-- ---- why nothing is

pub scan_refuses : (out : List Bool) (rewind : ℕ) (old new : Disks) (refusal : Refusal) → ((disk : ℕ) → HasFailedOn old new disk → InUse out disk) → FindsAll out old new (Err refusal)
    → SurveyRefuses out rewind old new refusal
scan_refuses out rewind old new NoMemory used finds = tt
scan_refuses out rewind old new (DiskFault d) used finds = (used d finds, finds)
scan_refuses out rewind old new NoUberblock used finds = absurd finds
scan_refuses out rewind old new NoLabel used finds = absurd finds
scan_refuses out rewind old new UsedUp used finds = absurd finds

-- where nothing was found no disk in use shows an uberblock
none_shown : (out : List Bool) (disks : Disks) (all : List (Option Found)) → AreFound out disks all → ((which : ℕ) (found : Found) → ¬ FoundAt all which found) → IsBare out disks
none_shown out disks all are none u shown =
    let it = found_where_shown out disks shown.which (get_or all shown.which None) u shown.used shown.on (are shown.which) in
    none shown.which it.0 it.1

pub highest_refuses : (out : List Bool) (rewind : ℕ) (old new : Disks) (all seen : List (Option Found)) (refusal : Refusal)
    → (AreKnown out old → AreHonestSince (length old.calls) new.starts new.calls → AreFound out old all) → seen ≡ all → FindsHighest seen (Err refusal) → SurveyRefuses out rewind old new refusal
highest_refuses out rewind old new all seen NoMemory found same finds = tt
highest_refuses out rewind old new all seen (DiskFault d) found same finds = absurd finds
highest_refuses out rewind old new all seen NoUberblock found same finds = λ known honest.
    let P : List (Option Found) → Type 0 = λ xs. (which : ℕ) (it : Found) → ¬ FoundAt xs which it in
    inl (none_shown out old all (found known honest) (subst P same finds))
highest_refuses out rewind old new all seen NoLabel found same finds = absurd finds
highest_refuses out rewind old new all seen UsedUp found same finds = absurd finds

pub taken_refuses : (out : List Bool) (rewind : ℕ) (old mid new : Disks) (all seen : List (Option Found)) (highest : Uberblock) (refusal : Refusal) → ((disk : ℕ) → HasFailedOn old new disk → InUse out disk)
    → Makes no_write old mid → Makes no_write mid new → (AreKnown out old → AreHonestSince (length old.calls) mid.starts mid.calls → AreFound out old all) → AreOn out all → seen ≡ all
    → IsHighestOf seen highest → TakesFrom out highest rewind mid new (Err refusal) → SurveyRefuses out rewind old new refusal
taken_refuses out rewind old mid new all seen highest NoMemory used scan back found on same one takes = tt
taken_refuses out rewind old mid new all seen highest (DiskFault d) used scan back found on same one takes =
    let failed = fails_later no_write old mid new scan d takes in (used d failed, failed)
taken_refuses out rewind old mid new all seen highest NoUberblock used scan back found on same one takes = λ known honest.
    let P : List (Option Found) → Type 0 = λ xs. IsHighestOf xs highest in
    inr (
      takes.0,
      record {
        highest = highest;
        top = highest_shown out old all highest (found known (honest_before (length old.calls) no_write mid new back honest)) on (subst P same one);
        none = λ v shown.
            takes.1 (known_later out old mid scan known) (honest_since (length old.calls) (length mid.calls) new (longer old mid no_write scan) honest) v (shown_later out old mid v scan shown);
      },
    )
taken_refuses out rewind old mid new all seen highest NoLabel used scan back found on same one takes = absurd takes
taken_refuses out rewind old mid new all seen highest UsedUp used scan back found on same one takes = absurd takes

pub plan_refuses : (out : List Bool) (rewind : ℕ) (old mid back new : Disks) (all seen : List (Option Found)) (highest taken : Uberblock) (refusal : Refusal)
    → ((disk : ℕ) → HasFailedOn old new disk → InUse out disk) → Makes no_write old mid → Makes no_write mid back → Makes no_write back new
    → (AreKnown out old → AreHonestSince (length old.calls) mid.starts mid.calls → AreFound out old all) → AreOn out all → seen ≡ all → IsHighestOf seen highest
    → TakesFrom out highest rewind mid back (Ok taken) → PlansClaim out taken highest back new (Err refusal) → SurveyRefuses out rewind old new refusal
plan_refuses out rewind old mid back new all seen highest taken NoMemory used scan go_back planning found on same one takes plans = tt
plan_refuses out rewind old mid back new all seen highest taken (DiskFault d) used scan go_back planning found on same one takes plans =
    let failed = fails_later no_write old back new (both_made no_write old mid back scan go_back) d plans in (used d failed, failed)
plan_refuses out rewind old mid back new all seen highest taken NoUberblock used scan go_back planning found on same one takes plans = absurd plans
plan_refuses out rewind old mid back new all seen highest taken NoLabel used scan go_back planning found on same one takes plans = λ known honest.
    let P : List (Option Found) → Type 0 = λ xs. IsHighestOf xs highest in
    let top : IsHighestOf all highest = subst P same one in
    let first = both_made no_write old mid back scan go_back in
    let are = found known (honest_before (length old.calls) no_write mid new (both_made no_write mid back new go_back planning) honest) in (
      taken,
      record {
        highest = highest;
        top = highest_shown out old all highest are on top;
        shown = taken_read out rewind old mid back new all highest taken scan go_back planning found on top takes known honest;
        rewound = takes.0;
      },
      lacks_earlier out old back taken.config_digest first
          (plans (known_later out old back first known) (honest_since (length old.calls) (length back.calls) new (longer old back no_write first) honest)),
    )
plan_refuses out rewind old mid back new all seen highest taken UsedUp used scan go_back planning found on same one takes plans = λ known honest.
    let P : List (Option Found) → Type 0 = λ xs. IsHighestOf xs highest in
    let first = both_made no_write old mid back scan go_back in
    let are = found known (honest_before (length old.calls) no_write mid new (both_made no_write mid back new go_back planning) honest) in (
      highest,
      highest_shown out old all highest are on (subst P same one),
      used_up_earlier out old back highest first
          (plans (known_later out old back first known) (honest_since (length old.calls) (length back.calls) new (longer old back no_write first) honest)),
    )
