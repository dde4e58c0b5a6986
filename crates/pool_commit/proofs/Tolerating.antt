-- Disks that are lost, and disks that are absent.
use Rattle.std.proofs.Common.{ℕ, zero, suc, ◌≡◌, ⊎_elim, ◌+◌, ◌≤◌, ◌<◌, ◌==◌, ◌&&◌, ◌||◌, nat_le, if◌then◌else◌, Bool, true, false, List, [], ◌∷◌, ◌++◌, length, Option, Some, Contains, refl, sym, ap, ◌∙◌, subst, arith}
use Rattle.std.specs.Prelude.{slice_get}
use Rattle.std.specs.List.{list_any}
use Rattle.std.specs.Option.{option_map}
use Rattle.std.proofs.lemmas.Bool.{eq-eqb, cases_lt}
use Rattle.std.proofs.lemmas.Bool.Decides.{nat_tests}
use Rattle.std.proofs.lemmas.List.{length-append}
use Rattle.std.proofs.lemmas.List.Elements.{Contains-append_left, Contains-append_right, Contains-append_cases}
use Rattle.std.proofs.lemmas.Option.{slice_get-map}
use Rattle.model_disk.specs.Call.{Call, Read, FailedRead, Wrote, FailedWrite, Flushed, FailedFlush, is_failed}
use Rattle.model_disk.specs.Joint.{Disks, JointCall, failed_since}
use Rattle.raidz_io.specs.Reads.{IsRead, AreReads, OnlyReads}
use Rattle.raidz_io.proofs.Calls.{Contains-front, Contains-cases, Contains-none}
use Rattle.block_store.specs.declared.shape.VdevShape.{VdevShape}
use Rattle.block_store.specs.Spaces.{VdevSpace}
use Rattle.block_store.specs.Places.{shapes_of}
use Rattle.disk_set.specs.Outs.{is_in}
use Rattle.disk_set.specs.declared.stale.GroupSpan.{GroupSpan}
use Rattle.block_store.specs.Store.{Store, outs, missed, is_out, is_stale, stale_from}
use Rattle.block_store.proofs.Outs.{in_is_out}
use Rattle.pool_model.specs.View.{View, lost_in}
use Rattle.pool_commit.specs.Calls.{unread_call, told_since, unread_between}
use Rattle.pool_commit.specs.Config.{shown, vdevs_of}
use Rattle.pool_commit.specs.Reading.{is_lost}

-- ---- the lost disks of a vdev

abbrev pub one_if : Bool → ℕ → List ℕ
one_if lost disk = if lost then disk ∷ [] else []

abbrev pub lost_disks : (ℕ → Bool) → ℕ → ℕ → List ℕ
lost_disks lost first zero = []
lost_disks lost first (suc n) = lost_disks lost first n ++ one_if (lost (first + n)) (first + n)

length_one : (lost : Bool) (disk : ℕ) → length (one_if lost disk) ≡ (if lost then 1 else 0)
length_one true disk = refl
length_one false disk = refl

pub length_lost : (lost : ℕ → Bool) (first n : ℕ) → length (lost_disks lost first n) ≡ lost_in lost first n
length_lost lost first zero = refl
length_lost lost first (suc n) =
    length-append (lost_disks lost first n) (one_if (lost (first + n)) (first + n))
    ∙ ap (λ k. k + length (one_if (lost (first + n)) (first + n))) (length_lost lost first n)
    ∙ ap (λ k. lost_in lost first n + k) (length_one (lost (first + n)) (first + n))

in_one : (lost : Bool) (disk : ℕ) → lost ≡ true → Contains (one_if lost disk) disk
in_one true disk is = Contains-front disk []
in_one false disk is = absurd (cc)

pub among_lost : (lost : ℕ → Bool) (first n child : ℕ) → child < n → lost (first + child) ≡ true → Contains (lost_disks lost first n) (first + child)
among_lost lost first zero child below is = absurd (omega arith)
among_lost lost first (suc n) child below is =
    ⊎_elim
    (λ less. Contains-append_left (lost_disks lost first n) (one_if (lost (first + n)) (first + n)) (first + child) (among_lost lost first n child less is))
    (λ at_least. let last : child ≡ n = omega arith in
    Contains-append_right (lost_disks lost first n) (one_if (lost (first + n)) (first + n)) (first + child)
    (subst (λ (k : ℕ). Contains (one_if (lost (first + k)) (first + k)) (first + child)) last (in_one (lost (first + child)) (first + child) is)))
    (cases_lt child n)

-- ---- the vdevs of a pool

pub vdev_at : (spaces : List VdevSpace) (v : ℕ) (space : VdevSpace) → slice_get spaces v ≡ Some space → slice_get (vdevs_of spaces) v ≡ Some (shown space.shape.vdev)
vdev_at spaces v space found =
    slice_get-map (λ (shape : VdevShape). shown shape.vdev) (shapes_of spaces) v
    ∙ ap (option_map (λ (shape : VdevShape). shown shape.vdev)) (slice_get-map (λ (s : VdevSpace). s.shape) spaces v ∙ ap (option_map (λ (s : VdevSpace). s.shape)) found)

-- ---- absent disks are lost

or_left : (a b : Bool) → a ≡ true → (a || b) ≡ true
or_left true b is = refl
or_left false b is = absurd (cc)

or_right : (a b : Bool) → b ≡ true → (a || b) ≡ true
or_right true b is = refl
or_right false b is = is

any_of : (disks : List ℕ) (disk : ℕ) → Contains disks disk → list_any (λ d. d == disk) disks ≡ true
any_of [] disk held = absurd (Contains-none disk held)
any_of (first ∷ disks) disk held =
    ⊎_elim (λ same. or_left (first == disk) (list_any (λ d. d == disk) disks) (eq-eqb first disk (sym same)))
    (λ later. or_right (first == disk) (list_any (λ d. d == disk) disks) (any_of disks disk later)) (Contains-cases first disks disk held)

-- a read that failed
read_is_in : (late : Bool) (call : Call) (which disk : ℕ) (failures unread : List ℕ) → IsRead call → (Contains failures disk → Contains unread disk)
    → Contains (if late && is_failed call then which ∷ failures else failures) disk → Contains (unread ++ (if late then unread_call which call else [])) disk
read_is_in true (FailedRead at n) which disk failures unread is before held =
    ⊎_elim (λ same. Contains-append_right unread (which ∷ []) disk (rw same (Contains-front which [])))
    (λ later. Contains-append_left unread (which ∷ []) disk (before later)) (Contains-cases which failures disk held)
read_is_in true (Read at bytes) which disk failures unread is before held = Contains-append_left unread [] disk (before held)
read_is_in true (Wrote at bytes) which disk failures unread is before held = absurd is
read_is_in true (FailedWrite at bytes) which disk failures unread is before held = absurd is
read_is_in true Flushed which disk failures unread is before held = absurd is
read_is_in true FailedFlush which disk failures unread is before held = absurd is
read_is_in false call which disk failures unread is before held = Contains-append_left unread [] disk (before held)

none_failed : (n : ℕ) (calls : List JointCall) (disk : ℕ) → length calls ≤ n → ¬ Contains (failed_since n calls) disk
none_failed n [] disk le held = Contains-none disk held
none_failed n (made ∷ calls) disk le held =
    none_failed n calls disk (omega arith)
    (subst (λ (b : Bool). Contains (if b && is_failed made.call then made.which ∷ failed_since n calls else failed_since n calls) disk) (early n (length calls) (omega arith)) held)
  where
    early : (m k : ℕ) → k < m → nat_le m k ≡ false
    early m k lt = grind (arith, nat_tests)

failed_is_unread : (n : ℕ) (newer calls : List JointCall) (disk : ℕ) → length calls ≤ n → AreReads newer → Contains (failed_since n (newer ++ calls)) disk
    → Contains (told_since unread_call n (newer ++ calls)) disk
failed_is_unread n [] calls disk le are held = absurd (none_failed n calls disk le held)
failed_is_unread n (made ∷ newer) calls disk le are held =
    read_is_in (nat_le n (length (newer ++ calls))) made.call made.which disk (failed_since n (newer ++ calls)) (told_since unread_call n (newer ++ calls)) are.0
    (failed_is_unread n newer calls disk le are.1) held

-- a disk that missed a group is stale for it
from_stale : (stale : List (Option GroupSpan)) (birth first disk : ℕ) → Contains (stale_from first stale birth) disk
    → (k : ℕ) × (disk ≡ first + k) × (is_stale stale k birth ≡ true)
from_stale [] birth first disk held = absurd (Contains-none disk held)
from_stale (span ∷ stale) birth first disk held = cases (is_in span birth) refl (λ behind. from_stale stale birth (suc first) disk behind) held
  where
    next : (k : ℕ) × (disk ≡ suc first + k) × (is_stale stale k birth ≡ true) → (k : ℕ) × (disk ≡ first + k) × (is_stale (span ∷ stale) k birth ≡ true)
    next there = (suc there.0, omega (arith, there.1), there.2)

    cases : (is : Bool) → is_in span birth ≡ is
        → (Contains (stale_from (suc first) stale birth) disk → (k : ℕ) × (disk ≡ suc first + k) × (is_stale stale k birth ≡ true))
        → Contains (if is then first ∷ stale_from (suc first) stale birth else stale_from (suc first) stale birth) disk
        → (k : ℕ) × (disk ≡ first + k) × (is_stale (span ∷ stale) k birth ≡ true)
    cases true is later among = ⊎_elim (λ same. (0, omega (arith, same), is)) (λ behind. next (later behind)) (Contains-cases first (stale_from (suc first) stale birth) disk among)
    cases false is later among = next (later among)

missed_is_stale : (store : Store) (birth disk : ℕ) → Contains (missed store birth) disk → is_stale store.spans.stale disk birth ≡ true
missed_is_stale store birth disk held =
    let there = from_stale store.spans.stale birth 0 disk held in
    let same : disk ≡ there.0 = omega (arith, there.1) in
    subst (λ k. is_stale store.spans.stale k birth ≡ true) (sym same) there.2

pub absent_is_lost : (old : Store) (v : View) (missing : List ℕ) (birth : ℕ) (new : Disks) → OnlyReads old.disks new → ((disk : ℕ) → v.out disk ≡ is_out old.out disk)
    → ((disk birth : ℕ) → v.stale disk birth ≡ is_stale old.spans.stale disk birth)
    → (disk : ℕ) → Contains (((outs old ++ missing) ++ missed old birth) ++ failed_since (length old.disks.calls) new.calls) disk
    → is_lost v missing (unread_between old.disks new) birth disk ≡ true
absent_is_lost old v missing birth new reads out stale disk held =
    let unread : List ℕ = unread_between old.disks new in
    let named : Bool = list_any (λ d. d == disk) missing in
    let failed : Bool = list_any (λ d. d == disk) unread in
    let lacks : Bool = v.stale disk birth in
    ⊎_elim
    (λ before. ⊎_elim
    (λ called. ⊎_elim (λ is. or_left (v.out disk) (lacks || (named || failed)) (out disk ∙ in_is_out old disk is))
    (λ is. or_right (v.out disk) (lacks || (named || failed)) (or_right lacks (named || failed) (or_left named failed (any_of missing disk is))))
    (Contains-append_cases (outs old) missing disk called))
    (λ missed_it. or_right (v.out disk) (lacks || (named || failed)) (or_left lacks (named || failed) (stale disk birth ∙ missed_is_stale old birth disk missed_it)))
    (Contains-append_cases (outs old ++ missing) (missed old birth) disk before))
    (λ since. or_right (v.out disk) (lacks || (named || failed)) (or_right lacks (named || failed) (or_right named failed (any_of unread disk
    (subst (λ (calls : List JointCall). Contains (told_since unread_call (length old.disks.calls) calls) disk) (sym reads.calls)
    (failed_is_unread (length old.disks.calls) reads.newer old.disks.calls disk (omega arith) reads.are_reads
    (subst (λ (calls : List JointCall). Contains (failed_since (length old.disks.calls) calls) disk) reads.calls since)))))))
    (Contains-append_cases ((outs old ++ missing) ++ missed old birth) (failed_since (length old.disks.calls) new.calls) disk held)
