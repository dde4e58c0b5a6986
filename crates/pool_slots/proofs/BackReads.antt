-- What was found of one that is so many groups less.
use Rattle.std.proofs.Common.{◌≡◌, inl, inr, ◌<◌, ◌≤◌, ℕ, ◌+◌, Bool, List, length, Option, Some, None, Ok, Err, sym, subst, arith}
use Rattle.std.proofs.lemmas.Bool.{cases_lt}
use Rattle.uberblock_ring.specs.Ranking.{IsRewound}
use Rattle.uberblock_ring.specs.declared.uberblock.Uberblock.{Uberblock}
use Rattle.model_disk.specs.Joint.{Disks, bytes_of, content, AreHonestSince}
use Rattle.model_disk.specs.Runs.{Makes, no_write}
use Rattle.pool_slots.specs.Opens.{AreKnown, IsShownOn, IsReadOn, IsShown, IsRead, FindsRewoundIfUsed, FindsRewound}
use Rattle.pool_slots.specs.Slots.{AreThere, InUse, slot_at}
use Rattle.pool_slots.proofs.Failing.{fails_later}
use Rattle.pool_slots.specs.declared.refusal.Refusal.{Refusal}
use Rattle.pool_slots.specs.declared.refusal.Refusal.TheVariants.{NoMemory, DiskFault, NoUberblock, NoLabel, UsedUp}
use Rattle.pool_slots.proofs.Finding.{known_on, honest_before, honest_since}
use Rattle.pool_slots.proofs.OneDisk.{shows_same}
use Rattle.pool_slots.proofs.Phases.{none_same}
use Rattle.pool_slots.proofs.Reading.{longer}

-- ---- the same of disks on which nothing was written since

shown_same : (size : ℕ) (held held' : ℕ → Option ℕ) (u : Uberblock) → ((i : ℕ) → held' i ≡ held i) → IsShownOn size held u → IsShownOn size held' u
shown_same size held held' u same it =
    record {
      label = it.label;
      slot = it.slot;
      is_slot = it.is_slot;
      shows = shows_same held held' (slot_at size it.label it.slot) it.slot u (λ i below. same (slot_at size it.label it.slot + i)) it.shows;
    }

read_same : (size : ℕ) (held held' : ℕ → Option ℕ) (u : Uberblock) → ((i : ℕ) → held' i ≡ held i) → IsReadOn size held u → IsReadOn size held' u
unfolding shown_same
read_same size held held' u same it =
    let place = slot_at size it.on.label it.on.slot in
    record {
      on = shown_same size held held' u same it.on;
      alone = λ v shows. it.alone v (shows_same held' held place it.on.slot v (λ i below. sym (same (place + i))) shows);
    }

shown_on_later : (old new : Disks) (which : ℕ) (u : Uberblock) → Makes no_write old new → IsShownOn (length (bytes_of old.starts which)) (content old which) u
    → IsShownOn (length (bytes_of new.starts which)) (content new which) u
shown_on_later old new which u makes it =
    let P : List (List ℕ) → Type 0 = λ starts. IsShownOn (length (bytes_of starts which)) (content new which) u in
    subst P (sym makes.starts) (shown_same (length (bytes_of old.starts which)) (content old which) (content new which) u (λ i. none_same old new which i makes) it)

read_on_later : (old new : Disks) (which : ℕ) (u : Uberblock) → Makes no_write old new → IsReadOn (length (bytes_of old.starts which)) (content old which) u
    → IsReadOn (length (bytes_of new.starts which)) (content new which) u
read_on_later old new which u makes it =
    let P : List (List ℕ) → Type 0 = λ starts. IsReadOn (length (bytes_of starts which)) (content new which) u in
    subst P (sym makes.starts) (read_same (length (bytes_of old.starts which)) (content old which) (content new which) u (λ i. none_same old new which i makes) it)

read_on_earlier : (old new : Disks) (which : ℕ) (u : Uberblock) → Makes no_write old new → IsReadOn (length (bytes_of new.starts which)) (content new which) u
    → IsReadOn (length (bytes_of old.starts which)) (content old which) u
read_on_earlier old new which u makes it =
    let P : List (List ℕ) → Type 0 = λ starts. IsReadOn (length (bytes_of starts which)) (content old which) u in
    subst P makes.starts (read_same (length (bytes_of new.starts which)) (content new which) (content old which) u (λ i. sym (none_same old new which i makes)) it)

pub shown_later : (out : List Bool) (old new : Disks) (u : Uberblock) → Makes no_write old new → IsShown out old u → IsShown out new u
shown_later out old new u makes it = record { which = it.which; used = it.used; on = shown_on_later old new it.which u makes it.on }

pub read_later : (out : List Bool) (old new : Disks) (u : Uberblock) → Makes no_write old new → IsRead out old u → IsRead out new u
read_later out old new u makes it = record { which = it.which; used = it.used; on = read_on_later old new it.which u makes it.on }

pub read_earlier : (out : List Bool) (old new : Disks) (u : Uberblock) → Makes no_write old new → IsRead out new u → IsRead out old u
read_earlier out old new u makes it = record { which = it.which; used = it.used; on = read_on_earlier old new it.which u makes it.on }

-- ---- disk by disk

-- the disks below this number show none
abbrev pub AreWithout : List Bool → Uberblock → ℕ → Disks → Disks → ℕ → Type 0
AreWithout out from groups first now count =
    (which : ℕ) → which < count → InUse out which → AreKnown out first → AreHonestSince (length first.calls) now.starts now.calls → (v : Uberblock)
    → IsShownOn (length (bytes_of first.starts which)) (content first which) v → ¬ IsRewound from groups v

pub none_next : (out : List Bool) (from : Uberblock) (groups : ℕ) (first loop new : Disks) (which : ℕ) → Makes no_write first loop → Makes no_write loop new
    → AreWithout out from groups first loop which → FindsRewoundIfUsed out from groups loop new which (Ok None) → AreWithout out from groups first new (which + 1)
none_next out from groups first loop new which before makes without it w below used known honest v shown =
    elim (cases_lt w which) [
      | inl earlier ↦ without w earlier used known (honest_before (length first.calls) no_write loop new makes honest) v shown
      | inr last ↦
          let same : w ≡ which = omega (arith, below, last) in
          let U : ℕ → Type 0 = InUse out in
          let S : ℕ → Type 0 = λ d. IsShownOn (length (bytes_of first.starts d)) (content first d) v in
          let used' : InUse out which = subst U same used in
          it used' v (known_on first loop which before (known which used')) (honest_since (length first.calls) (length loop.calls) new (longer first loop no_write before) honest)
          (shown_on_later first loop which v before (subst S same shown))
    ]

pub found_here : (out : List Bool) (from : Uberblock) (groups : ℕ) (first loop new : Disks) (which : ℕ) (u : Uberblock) → Makes no_write first loop
    → FindsRewoundIfUsed out from groups loop new which (Ok (Some u)) → FindsRewound out from groups first new (Ok u)
found_here out from groups first loop new which u before it = (
  it.1.0,
  it.1.1,
  λ known honest. record {
    which = which;
    used = it.0;
    on = read_on_earlier first loop which u before
        (it.1.2 (known_on first loop which before (known which it.0)) (honest_since (length first.calls) (length loop.calls) new (longer first loop no_write before) honest));
  },
)

pub refused_here : (out : List Bool) (from : Uberblock) (groups : ℕ) (first loop new : Disks) (which : ℕ) (refusal : Refusal) → Makes no_write first loop
    → FindsRewoundIfUsed out from groups loop new which (Err refusal) → FindsRewound out from groups first new (Err refusal)
refused_here out from groups first loop new which NoMemory before it = tt
refused_here out from groups first loop new which (DiskFault d) before it = fails_later no_write first loop new before d it
refused_here out from groups first loop new which NoUberblock before it = absurd it
refused_here out from groups first loop new which NoLabel before it = absurd it
refused_here out from groups first loop new which UsedUp before it = absurd it

pub none_there : (out : List Bool) (from : Uberblock) (groups : ℕ) (first now : Disks) (count : ℕ) → AreThere out first.starts → length first.starts ≤ count → AreWithout out from groups first now count
    → FindsRewound out from groups first now (Err NoUberblock)
none_there out from groups first now count there all without = λ known honest v shown.
    without shown.which (omega (arith, all, there shown.which shown.used)) shown.used known honest v shown.on
