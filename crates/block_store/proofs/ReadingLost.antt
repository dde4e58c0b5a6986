-- The disks that are absent for a part of the reads.
use Rattle.std.proofs.Common.{ℕ, ◌≡◌, inl, inr, ◌+◌, ◌≤◌, ◌&&◌, nat_le, Bool, true, false, if◌then◌else◌, List, [], ◌∷◌, length, Contains, refl, sym, subst, arith}
use Rattle.std.proofs.lemmas.Bool.Decides.{nat_tests}
use Rattle.std.proofs.lemmas.List.Elements.{Contains-append_left, Contains-append_right, Contains-append_cases}
use Rattle.model_disk.specs.Call.{is_failed}
use Rattle.model_disk.specs.Joint.{JointCall, Disks, content, failed_since}
use Rattle.model_disk.specs.Laws.{PartsAreHonest}
use Rattle.raidz_io.specs.declared.vdev.Extent.{Extent}
use Rattle.raidz_io.specs.declared.vdev.Vdev.{Vdev}
use Rattle.raidz_io.specs.Elsewhere.{StandsWhileKept, StandsWithMoreAbsent}
use Rattle.raidz_io.specs.Reads.{OnlyReads, IsHonestSince, absent_since, FewAreLost, ReadsKeepContents}
use Rattle.raidz_io.specs.Stands.{ExtentStands}
use Rattle.raidz_io.proofs.Calls.{Contains-front, Contains-later, Contains-cases, length-OnlyReads}
use Rattle.raidz_io.proofs.Placed.{placed_at}
use Rattle.block_store.specs.Reading.{FewAreAbsent}

at_earlier : (n m count : ℕ) → n ≤ m → nat_le m count ≡ true → nat_le n count ≡ true
at_earlier n m count le is = grind (arith, nat_tests)

either : (a b failed : Bool) (x disk : ℕ) (xs ys : List ℕ) → (a ≡ true → b ≡ true) → (Contains xs disk → Contains ys disk)
    → Contains (if a && failed then x ∷ xs else xs) disk → Contains (if b && failed then x ∷ ys else ys) disk
either true true true x disk xs ys too more held =
    elim (Contains-cases x xs disk held) [ inl same ↦ rw same (Contains-front x ys) | inr later ↦ Contains-later x ys disk (more later) ]
either true true false x disk xs ys too more held = more held
either true false failed x disk xs ys too more held = absurd (let no : false ≡ true = too refl in cc)
either false true true x disk xs ys too more held = Contains-later x ys disk (more held)
either false true false x disk xs ys too more held = more held
either false false failed x disk xs ys too more held = more held

-- what failed since a call failed since an earlier one
pub failed_earlier : (n m : ℕ) (calls : List JointCall) (disk : ℕ) → n ≤ m → Contains (failed_since m calls) disk → Contains (failed_since n calls) disk
failed_earlier n m [] disk le held = held
failed_earlier n m (made ∷ calls) disk le held =
    either (nat_le m (length calls)) (nat_le n (length calls)) (is_failed made.call) made.which disk (failed_since m calls) (failed_since n calls)
    (at_earlier n m (length calls) le) (failed_earlier n m calls disk le) held

pub absent_earlier : (old mid new : Disks) (absent : List ℕ) (disk : ℕ) → OnlyReads old mid → Contains (absent_since mid new absent) disk
    → Contains (absent_since old new absent) disk
absent_earlier old mid new absent disk before held =
    elim (Contains-append_cases absent (failed_since (length mid.calls) new.calls) disk held) [
      | inl was ↦ Contains-append_left absent (failed_since (length old.calls) new.calls) disk was
      | inr failed ↦ Contains-append_right absent (failed_since (length old.calls) new.calls) disk
          (failed_earlier (length old.calls) (length mid.calls) new.calls disk (length-OnlyReads old mid before) failed)
    ]

-- the later reads of an honest run are honest
pub honest_later : PartsAreHonest → (old mid new : Disks) → OnlyReads old mid → IsHonestSince old new → IsHonestSince mid new
honest_later law old mid new before honest = law new.starts (length old.calls) (length mid.calls) [] new.calls (length-OnlyReads old mid before) honest

-- a block that stood stands while other blocks are read, and where more disks are absent
pub stands_later : ReadsKeepContents → StandsWhileKept → StandsWithMoreAbsent → (old mid : Disks) (absent more : List ℕ) (extent : Extent) (bytes : List ℕ)
    → OnlyReads old mid → ((disk : ℕ) → Contains absent disk → Contains more disk)
    → ExtentStands (content old) absent extent bytes → ExtentStands (content mid) more extent bytes
stands_later keep kept law old mid absent more extent bytes before among stands =
    law (content mid) absent more extent bytes among (kept (content old) (content mid) absent extent bytes (λ disk i of. keep old mid before disk i) stands)

-- where few disks of a vdev are absent, few columns of its extents are lost
pub few_lost : (vdev : Vdev) (extent : Extent) (absent fewer : List ℕ) → extent.vdev ≡ vdev → ((disk : ℕ) → Contains fewer disk → Contains absent disk)
    → FewAreAbsent vdev absent → FewAreLost extent fewer
few_lost vdev extent absent fewer same among few =
    let here : FewAreAbsent extent.vdev absent = subst (λ (v : Vdev). FewAreAbsent v absent) (sym same) few in
    record {
      disks = here.disks;
      few = here.few;
      all = λ disk holds held.
          let child = (placed_at extent holds.k holds.column holds.below holds.is_column).child in
          subst (λ n. Contains here.disks n) (sym holds.which) (here.all holds.column.child child (among (extent.vdev.first + holds.column.child) (subst (λ n. Contains fewer n) holds.which held)));
    }
