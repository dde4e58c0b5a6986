-- What was found on all disks.
use Rattle.std.proofs.Common.{◌≡◌, ◌⊎◌, inl, inr, ◌<◌, ◌≤◌, ◌∙◌, ℕ, zero, suc, ◌+◌, Bool, List, [], ◌∷◌, ◌++◌, length, slice_get, get_or, map, Option, Some, None, Ok, Err, refl, sym, ap, subst, arith}
use Rattle.std.specs.Prelude.{Vec}
use Rattle.std.specs.declared.alloc.Global.{Global}
use Rattle.uberblock_ring.specs.Ranking.{Has, IsHighest as IsHighestSlot, RanksUpTo}
use Rattle.uberblock_ring.specs.Uberblock.{Fits}
use Rattle.uberblock_ring.specs.declared.uberblock.Uberblock.{Uberblock}
use Rattle.std.proofs.lemmas.Bool.{cases_lt}
use Rattle.std.proofs.lemmas.List.{get_or_past}
use Rattle.std.proofs.lemmas.Option.{slice_get-get_or}
use Rattle.model_disk.specs.Joint.{JointCall, Disks, bytes_of, content, AreHonestSince}
use Rattle.model_disk.specs.Runs.{Makes, no_write}
use Rattle.model_disk.proofs.LawLemmas.{parts_are_honest}
use Rattle.pool_slots.specs.Opens.{IsKnown, AreKnown, IsHighest, IsFoundOn, FoundAt, AreFitting, IsBareOn, IsHighestOf, FindsIfUsed, FindsAll, uberblock_of}
use Rattle.pool_slots.specs.Slots.{AreThere, InUse, slot_at, Shows}
use Rattle.pool_slots.specs.declared.found.Found.{Found}
use Rattle.pool_slots.proofs.Failing.{fails_later}
use Rattle.pool_slots.specs.declared.refusal.Refusal.{Refusal}
use Rattle.pool_slots.specs.declared.refusal.Refusal.TheVariants.{NoMemory, DiskFault, NoUberblock, NoLabel, UsedUp}
use Rattle.pool_slots.proofs.OneDisk.{shows_same}
use Rattle.pool_slots.proofs.Phases.{none_same}
use Rattle.pool_slots.proofs.Reading.{longer}

-- ---- the same of disks on which nothing was written since

pub known_on : (old new : Disks) (which : ℕ) → Makes no_write old new → IsKnown old which → IsKnown new which
known_on old new which makes known i inside =
    let P : List (List ℕ) → Type 0 = λ starts. i < length (bytes_of starts which) in
    let it = known i (subst P makes.starts inside) in
    (it.0, none_same old new which i makes ∙ it.1)

pub known_later : (out : List Bool) (old new : Disks) → Makes no_write old new → AreKnown out old → AreKnown out new
known_later out old new makes known which used = known_on old new which makes (known which used)

-- an honest run is so up to an earlier moment, and from a later one on
pub honest_before : (first : ℕ) (may : ℕ → ℕ → List ℕ → Type 0) (mid new : Disks) → Makes may mid new → AreHonestSince first new.starts new.calls → AreHonestSince first mid.starts mid.calls
honest_before first may mid new makes honest =
    let P : List (List ℕ) → Type 0 = λ them. AreHonestSince first them new.calls in
    let Q : List JointCall → Type 0 = AreHonestSince first mid.starts in
    parts_are_honest mid.starts first first makes.newer mid.calls (omega arith) (subst Q makes.calls (subst P makes.starts honest))

pub honest_since : (first later : ℕ) (new : Disks) → first ≤ later → AreHonestSince first new.starts new.calls → AreHonestSince later new.starts new.calls
honest_since first later new le honest = parts_are_honest new.starts first later [] new.calls le honest

pub highest_same : (size : ℕ) (held held' : ℕ → Option ℕ) (found : Found) → ((i : ℕ) → held' i ≡ held i) → IsHighest size held found → IsHighest size held' found
highest_same size held held' found same it =
    let back : (label slot : ℕ) (v : Uberblock) → Shows held' (slot_at size label slot) slot v → Shows held (slot_at size label slot) slot v = λ label slot v shows.
    shows_same held' held (slot_at size label slot) slot v (λ i below. sym (same (slot_at size label slot + i))) shows in
    record {
      label = it.label;
      slot = it.slot;
      is_slot = it.is_slot;
      shows = shows_same held held' (slot_at size it.label it.slot) it.slot found.uberblock (λ i below. same (slot_at size it.label it.slot + i)) it.shows;
      alone = λ v shows. it.alone v (back it.label it.slot v shows);
      half = it.half;
      greatest = λ other number is v shows. it.greatest other number is v (back other number v shows);
    }

-- ---- disk by disk

-- what is known of a disk that was scanned
abbrev pub IsScanned : List Bool → Disks → Disks → ℕ → Option Found → Type 0
IsScanned out first now which None =
    InUse out which → AreKnown out first → AreHonestSince (length first.calls) now.starts now.calls → IsBareOn (length (bytes_of first.starts which)) (content first which)
IsScanned out first now which (Some found) =
    InUse out which × Fits found.uberblock
    × (AreKnown out first → AreHonestSince (length first.calls) now.starts now.calls → IsHighest (length (bytes_of first.starts which)) (content first which) found)

abbrev pub AreScanned : List Bool → Disks → Disks → List (Option Found) → Type 0
AreScanned out first now all = (which : ℕ) (found : Option Found) → slice_get all which ≡ Some found → IsScanned out first now which found

scanned_later : (out : List Bool) (first loop new : Disks) (which : ℕ) (found : Option Found) → Makes no_write loop new → IsScanned out first loop which found → IsScanned out first new which found
scanned_later out first loop new which None makes it = λ used known honest. it used known (honest_before (length first.calls) no_write loop new makes honest)
scanned_later out first loop new which (Some found) makes it =
    (it.0, it.1, λ known honest. it.2 known (honest_before (length first.calls) no_write loop new makes honest))

pub highest_at_first : (first loop : Disks) (which : ℕ) (found : Found) → Makes no_write first loop → IsHighest (length (bytes_of loop.starts which)) (content loop which) found
    → IsHighest (length (bytes_of first.starts which)) (content first which) found
highest_at_first first loop which found before it =
    let P : List (List ℕ) → Type 0 = λ starts. IsHighest (length (bytes_of starts which)) (content first which) found in
    subst P before.starts (highest_same (length (bytes_of loop.starts which)) (content loop which) (content first which) found (λ i. sym (none_same first loop which i before)) it)

pub bare_at_first : (first loop : Disks) (which : ℕ) → Makes no_write first loop → IsBareOn (length (bytes_of loop.starts which)) (content loop which)
    → IsBareOn (length (bytes_of first.starts which)) (content first which)
bare_at_first first loop which before bare =
    let P : List (List ℕ) → Type 0 = λ starts. IsBareOn (length (bytes_of starts which)) (content first which) in
    let size = length (bytes_of loop.starts which) in
    let here : IsBareOn size (content first which) = λ label slot is u shows.
    bare label slot is u (shows_same (content first which) (content loop which) (slot_at size label slot) slot u (λ i below. none_same first loop which (slot_at size label slot + i) before) shows) in
    subst P before.starts here

scanned_here : (out : List Bool) (first loop new : Disks) (which : ℕ) (found : Option Found) → Makes no_write first loop → FindsIfUsed out loop new which (Ok found) → IsScanned out first new which found
scanned_here out first loop new which None before it = λ used known honest.
    bare_at_first first loop which before
    (it used (known_on first loop which before (known which used)) (honest_since (length first.calls) (length loop.calls) new (longer first loop no_write before) honest))
scanned_here out first loop new which (Some found) before it = (
  it.0,
  it.1.0,
  λ known honest. highest_at_first first loop which found before
      (it.1.1 (known_on first loop which before (known which it.0)) (honest_since (length first.calls) (length loop.calls) new (longer first loop no_write before) honest)),
)

push_cases : {X : Type 0} (xs : List X) (y x : X) (i : ℕ) → slice_get (xs ++ y ∷ []) i ≡ Some x → (slice_get xs i ≡ Some x) ⊎ ((i ≡ length xs) × (y ≡ x))
push_cases [] y x zero is = inr (refl, cc)
push_cases [] y x (suc i) is = absurd (cc)
push_cases (z ∷ xs) y x zero is = inl is
push_cases (z ∷ xs) y x (suc i) is = elim (push_cases xs y x i is) [ inl before ↦ inl before | inr last ↦ inr (ap suc last.0, last.1) ]

pub scans_next : (out : List Bool) (first loop new : Disks) (which : ℕ) (all : List (Option Found)) (found : Option Found) → length all ≡ which → Makes no_write first loop → Makes no_write loop new
    → AreScanned out first loop all → FindsIfUsed out loop new which (Ok found) → AreScanned out first new (all ++ found ∷ [])
scans_next out first loop new which all found count before makes scanned one w it at =
    elim (push_cases all found it w at) [
      | inl earlier ↦ scanned_later out first loop new w it makes (scanned w it earlier)
      | inr here ↦
          let P : ℕ → Type 0 = λ d. IsScanned out first new d it in
          let Q : Option Found → Type 0 = λ f. IsScanned out first new which f in
          subst P (sym count ∙ sym here.0) (subst Q here.1 (scanned_here out first loop new which found before one))
    ]

-- why a scan ended on a disk
pub scan_refused : (out : List Bool) (first loop new : Disks) (which : ℕ) (refusal : Refusal) → Makes no_write first loop → FindsIfUsed out loop new which (Err refusal)
    → FindsAll out first new (Err refusal)
scan_refused out first loop new which NoMemory before it = tt
scan_refused out first loop new which (DiskFault d) before it = fails_later no_write first loop new before d it.1
scan_refused out first loop new which NoUberblock before it = absurd it.1
scan_refused out first loop new which NoLabel before it = absurd it.1
scan_refused out first loop new which UsedUp before it = absurd it.1

found_case : (out : List Bool) (first now : Disks) (which : ℕ) (found : Option Found) → IsScanned out first now which found → AreKnown out first → AreHonestSince (length first.calls) now.starts now.calls
    → IsFoundOn out first which found
found_case out first now which None it known honest = λ used. it used known honest
found_case out first now which (Some found) it known honest = (it.0, it.2 known honest)

found_within : (all : List (Option Found)) (k : ℕ) (found : Found) → FoundAt all k found → k < length all
found_within all k found at =
    elim (cases_lt k (length all)) [
      | inl less ↦ less
      | inr more ↦ let e : None ≡ Some found = sym (get_or_past all k None more) ∙ at in absurd cc
    ]

-- one that was found was scanned
scanned_at : (out : List Bool) (first now : Disks) (all : List (Option Found)) (which : ℕ) (found : Found) → AreScanned out first now all → FoundAt all which found → IsScanned out first now which (Some found)
scanned_at out first now all which found scanned at =
    scanned which (Some found) (slice_get-get_or all which None (found_within all which found at) ∙ ap (λ (o : Option Found). Some o) at)

found_there : (out : List Bool) (first now : Disks) (all : List (Option Found)) (which : ℕ) → AreThere out first.starts → length all ≡ length first.starts → AreScanned out first now all
    → AreKnown out first → AreHonestSince (length first.calls) now.starts now.calls → IsFoundOn out first which (get_or all which None)
found_there out first now all which there count scanned known honest =
    elim (cases_lt which (length all)) [
      | inl less ↦ found_case out first now which (get_or all which None) (scanned which (get_or all which None) (slice_get-get_or all which None less)) known honest
      | inr more ↦
          let P : Option Found → Type 0 = IsFoundOn out first which in
          subst P (sym (get_or_past all which None more)) (λ used. absurd (omega (arith, there which used, count, more)))
    ]

pub scans_done : (out : List Bool) (first now : Disks) (all : Vec (Option Found) Global) → AreThere out first.starts → length all.items ≡ length first.starts → AreScanned out first now all.items
    → FindsAll out first now (Ok all)
scans_done out first now all there count scanned = (
  count,
  λ which found at. (scanned_at out first now all.items which found scanned at).0,
  λ which found at. (scanned_at out first now all.items which found scanned at).1,
  λ known honest which. found_there out first now all.items which there count scanned known honest,
)

-- ---- the highest of them

index_map : (all : List (Option Found)) (i : ℕ) (u : Uberblock) → Has (map uberblock_of all) i u → (found : Found) × FoundAt all i found × (u ≡ found.uberblock)
index_map [] i u has = absurd cc
index_map (None ∷ all) zero u has = absurd cc
index_map (Some found ∷ all) zero u has = let same : found.uberblock ≡ u = cc in (found, refl, sym same)
index_map (found ∷ all) (suc i) u has = index_map all i u has

map_index : (all : List (Option Found)) (i : ℕ) (found : Found) → FoundAt all i found → Has (map uberblock_of all) i found.uberblock
map_index [] i found at = absurd cc
map_index (None ∷ all) zero found at = absurd cc
map_index (Some it ∷ all) zero found at = let same : it ≡ found = cc in ap (λ (f : Found). Some f.uberblock) same
map_index (it ∷ all) (suc i) found at = map_index all i found at

pub highest_found : (all : List (Option Found)) (uberblocks : List (Option Uberblock)) (which : ℕ) (u : Uberblock) → AreFitting all → uberblocks ≡ map uberblock_of all
    → IsHighestSlot uberblocks which → get_or uberblocks which None ≡ Some u → IsHighestOf all u × Fits u
highest_found all uberblocks which u fits is highest here =
    let P : List (Option Uberblock) → Type 0 = λ us. Has us which u in
    let it = index_map all which u (subst P is here) in
    let F : Uberblock → Type 0 = Fits in
    let same : highest.0 ≡ u = let e : Some highest.0 ≡ Some u = sym highest.1 ∙ here in cc in (
      record {
        which = which;
        found = it.0;
        at = it.1;
        is = it.2;
        greatest = λ other found at.
            let H : List (Option Uberblock) → Type 0 = λ us. Has us other found.uberblock in
            let R : Uberblock → Type 0 = λ v. RanksUpTo found.uberblock v in
            subst R same (highest.2 other found.uberblock (subst H (sym is) (map_index all other found at)));
      },
      subst F (sym it.2) (fits which it.0 it.1),
    )

pub none_found : (all : List (Option Found)) (uberblocks : List (Option Uberblock)) → uberblocks ≡ map uberblock_of all → ((i : ℕ) (u : Uberblock) → ¬ Has uberblocks i u)
    → (which : ℕ) (found : Found) → ¬ FoundAt all which found
none_found all uberblocks is none which found at =
    let H : List (Option Uberblock) → Type 0 = λ us. Has us which found.uberblock in
    none which found.uberblock (subst H (sym is) (map_index all which found at))

same_default : (uberblocks : List (Option Uberblock)) (k : ℕ) (d : Option Uberblock) (u : Uberblock) → get_or uberblocks k None ≡ Some u → get_or uberblocks k d ≡ get_or uberblocks k None
same_default [] k d u has = absurd cc
same_default (x ∷ xs) zero d u has = refl
same_default (x ∷ xs) (suc k) d u has = same_default xs k d u has

-- an item is the same whatever stands for one that isn't there
pub index_is : (uberblocks : List (Option Uberblock)) (k : ℕ) (d v : Option Uberblock) → IsHighestSlot uberblocks k → d ≡ get_or uberblocks k d → d ≡ v → get_or uberblocks k None ≡ v
index_is uberblocks k d v highest at is = sym (same_default uberblocks k d highest.0 highest.1) ∙ sym at ∙ is

pub not_none : (uberblocks : List (Option Uberblock)) (k : ℕ) → IsHighestSlot uberblocks k → get_or uberblocks k None ≡ None → ⊥
not_none uberblocks k highest none = let e : None ≡ Some highest.0 = sym none ∙ highest.1 in cc
