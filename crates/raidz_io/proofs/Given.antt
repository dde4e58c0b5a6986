-- What reads gave.
use Rattle.std.proofs.Common.{ℕ, zero, suc, ◌≡◌, ◌<◌, ◌≤◌, ◌+◌, inl, inr, List, [], ◌∷◌, ◌++◌, length, Some, refl, sym, ap, subst, ◌∙◌, arith}
use Rattle.std.specs.List.{slice_get}
use Rattle.std.proofs.lemmas.Option.{slice_get_within}
use Rattle.model_disk.specs.Call.{Read}
use Rattle.model_disk.specs.Honest.{IsTrueAnswer}
use Rattle.model_disk.specs.Joint.{JointCall, Disks, on, bytes_of, calls_on, content, AreHonestSince}
use Rattle.raidz_io.specs.declared.vdev.Extent.{Extent}
use Rattle.raidz_io.specs.Choices.{IsChoice, DigestsTell, LaterChoicesStay, PartsTell}
use Rattle.raidz_io.specs.Places.{Stands, disk_of, offset_of}
use Rattle.raidz_io.specs.Reads.{AreReads, GaveSince, GivesTruly, HonestDisksGiveTruly, IsHonestSince, IsRead, OnlyReads, PartsGiveTruly}
use Rattle.raidz_io.specs.Stands.{ExtentStands}
use Rattle.raidz_io.proofs.Calls.{OnlyReads-more, OnlyReads-none, content-OnlyReads, length-OnlyReads}
use Rattle.raidz_io.proofs.Written.{same_some}

-- ---- what was given once

none_gave : (n : ℕ) (calls : List JointCall) (disk at : ℕ) (bytes : List ℕ) → length calls ≤ n → ¬ GaveSince n calls disk at bytes
none_gave n [] disk at bytes le gave = gave
none_gave n (made ∷ calls) disk at bytes le gave = elim gave [
  | inl (since, is) ↦ omega (arith, since, le)
  | inr earlier ↦ none_gave n calls disk at bytes (omega arith) earlier
]

gave_more : (n : ℕ) (newer calls : List JointCall) (disk at : ℕ) (bytes : List ℕ) → GaveSince n calls disk at bytes → GaveSince n (newer ++ calls) disk at bytes
gave_more n [] calls disk at bytes gave = gave
gave_more n (made ∷ newer) calls disk at bytes gave = inr (gave_more n newer calls disk at bytes gave)

gave_from : (n m : ℕ) (calls : List JointCall) (disk at : ℕ) (bytes : List ℕ) → n ≤ m → GaveSince m calls disk at bytes → GaveSince n calls disk at bytes
gave_from n m [] disk at bytes le gave = gave
gave_from n m (made ∷ calls) disk at bytes le gave = elim gave [
  | inl (since, is) ↦ inl (omega arith, is)
  | inr earlier ↦ inr (gave_from n m calls disk at bytes le earlier)
]

-- what earlier reads gave was given once more are made
gave_later : (old mid new : Disks) (disk at : ℕ) (bytes : List ℕ) → OnlyReads mid new → GaveSince (length old.calls) mid.calls disk at bytes
    → GaveSince (length old.calls) new.calls disk at bytes
gave_later old mid new disk at bytes later gave =
    subst (λ (calls : List JointCall). GaveSince (length old.calls) calls disk at bytes) (sym later.calls)
    (gave_more (length old.calls) later.newer mid.calls disk at bytes gave)

-- what later reads gave was given since an earlier moment too
gave_since : (old mid new : Disks) (disk at : ℕ) (bytes : List ℕ) → OnlyReads old mid → GaveSince (length mid.calls) new.calls disk at bytes
    → GaveSince (length old.calls) new.calls disk at bytes
gave_since old mid new disk at bytes first gave =
    gave_from (length old.calls) (length mid.calls) new.calls disk at bytes (length-OnlyReads old mid first) gave

-- ---- true answers

-- the bytes are what is known of the disk from that one on
IsNow : Disks → ℕ → ℕ → List ℕ → Type 0
IsNow disks disk at bytes = (i value : ℕ) → i < length bytes → content disks disk (at + i) ≡ Some value → slice_get bytes i ≡ Some value

still : (starts : List (List ℕ)) (made : JointCall) (calls : List JointCall) (disk at : ℕ) (bytes : List ℕ) → IsRead made.call
    → IsNow (record { starts = starts; calls = calls }) disk at bytes → IsNow (record { starts = starts; calls = made ∷ calls }) disk at bytes
unfolding IsNow
still starts made calls disk at bytes is_read now i value within is =
    let old : Disks = record { starts = starts; calls = calls } in
    let new : Disks = record { starts = starts; calls = made ∷ calls } in
    now i value within (sym (content-OnlyReads old new (OnlyReads-more old old new made (OnlyReads-none old) is_read refl refl) disk (at + i)) ∙ is)

given : (starts : List (List ℕ)) (made : JointCall) (calls : List JointCall) (disk at : ℕ) (bytes : List ℕ) → made ≡ on disk (Read at bytes)
    → IsTrueAnswer (bytes_of starts made.which) (calls_on made.which calls) made.call → IsNow (record { starts = starts; calls = calls }) disk at bytes
unfolding IsNow
given starts made calls disk at bytes is answer =
    subst (λ (m : JointCall). IsTrueAnswer (bytes_of starts m.which) (calls_on m.which calls) m.call) is answer

gave_now : (starts : List (List ℕ)) (newer calls : List JointCall) (disk at : ℕ) (bytes : List ℕ) → AreReads newer
    → AreHonestSince (length calls) starts (newer ++ calls) → GaveSince (length calls) (newer ++ calls) disk at bytes
    → IsNow (record { starts = starts; calls = newer ++ calls }) disk at bytes
unfolding IsNow
gave_now starts [] calls disk at bytes are honest gave = absurd (none_gave (length calls) calls disk at bytes (omega arith) gave)
gave_now starts (made ∷ newer) calls disk at bytes are honest gave = elim gave [
  | inl (since, is) ↦
      still starts made (newer ++ calls) disk at bytes are.0
      (given starts made (newer ++ calls) disk at bytes is (honest.0 since))
  | inr earlier ↦ still starts made (newer ++ calls) disk at bytes are.0 (gave_now starts newer calls disk at bytes are.1 honest.1 earlier)
]

gave_is_now : (old new : Disks) (disk at : ℕ) (bytes : List ℕ) → OnlyReads old new → IsHonestSince old new
    → GaveSince (length old.calls) new.calls disk at bytes → (i value : ℕ) → i < length bytes → content new disk (at + i) ≡ Some value
    → slice_get bytes i ≡ Some value
unfolding IsNow
gave_is_now old new disk at bytes reads honest gave =
    let P : List JointCall → Type 0 = λ calls. IsNow (record { starts = new.starts; calls = calls }) disk at bytes in
    subst P (sym reads.calls)
    (gave_now new.starts reads.newer old.calls disk at bytes reads.are_reads
    (subst (λ (calls : List JointCall). AreHonestSince (length old.calls) new.starts calls) reads.calls honest)
    (subst (λ (calls : List JointCall). GaveSince (length old.calls) calls disk at bytes) reads.calls gave))

same_list : (xs ys : List ℕ) → length xs ≡ length ys → ((i x y : ℕ) → slice_get xs i ≡ Some x → slice_get ys i ≡ Some y → x ≡ y) → xs ≡ ys
same_list [] [] long each = refl
same_list [] (y ∷ ys) long each = absurd (omega (arith, long))
same_list (x ∷ xs) [] long each = absurd (omega (arith, long))
same_list (x ∷ xs) (y ∷ ys) long each =
    ap (λ z. z ∷ xs) (each zero x y refl refl) ∙ ap (λ zs. y ∷ zs) (same_list xs ys (omega (arith, long)) (λ i a b is is'. each (suc i) a b is is'))

pub honest_disks_give_truly : HonestDisksGiveTruly
honest_disks_give_truly old new reads honest disk at bytes part gave long there =
    same_list bytes part long (λ i x y is is'.
    let within : i < length part = slice_get_within part i y is' in
    same_some x y (sym is ∙ gave_is_now old new disk at bytes reads honest gave i y (omega (arith, within, long))
    (content-OnlyReads old new reads disk (at + i) ∙ there i within ∙ is')))

-- ---- parts of reads

still_there : (old mid : Disks) (disk at : ℕ) (part : List ℕ) → OnlyReads old mid → Stands (content mid) disk at part → Stands (content old) disk at part
still_there old mid disk at part first there = λ i within. sym (content-OnlyReads old mid first disk (at + i)) ∙ there i within

still_stands : (old mid : Disks) (absent : List ℕ) (extent : Extent) (block : List ℕ) → OnlyReads old mid → ExtentStands (content mid) absent extent block
    → ExtentStands (content old) absent extent block
still_stands old mid absent extent block first stands = record {
  layout = stands.layout;
  columns = stands.columns;
  is_layout = stands.is_layout;
  are_bytes = stands.are_bytes;
  stand = λ i column bytes at at' there.
      still_there old mid (disk_of extent.vdev column) (offset_of column) bytes first (stands.stand i column bytes at at' there);
}

pub parts_give_truly : PartsGiveTruly
parts_give_truly old mid new first later disk truly = (
  λ at bytes part gave long there. truly at bytes part (gave_later old mid new disk at bytes later gave) long there,
  λ at bytes part gave long there. truly at bytes part (gave_since old mid new disk at bytes first gave) long (still_there old mid disk at part first there),
)

earlier_choice : (old mid new : Disks) (extent : Extent) (block : List ℕ) → OnlyReads mid new → IsChoice old mid extent block → IsChoice old new extent block
earlier_choice old mid new extent block later choice = record {
  layout = choice.layout;
  columns = choice.columns;
  is_layout = choice.is_layout;
  are_bytes = choice.are_bytes;
  wrong = choice.wrong;
  few = choice.few;
  given = λ i column bytes at at' kept.
      gave_later old mid new (disk_of extent.vdev column) (offset_of column) bytes later (choice.given i column bytes at at' kept);
}

pub later_choices_stay : LaterChoicesStay
later_choices_stay old mid new extent block first choice = record {
  layout = choice.layout;
  columns = choice.columns;
  is_layout = choice.is_layout;
  are_bytes = choice.are_bytes;
  wrong = choice.wrong;
  few = choice.few;
  given = λ i column bytes at at' kept.
      gave_since old mid new (disk_of extent.vdev column) (offset_of column) bytes first (choice.given i column bytes at at' kept);
}

pub parts_tell : PartsTell
parts_tell old mid new first later tell = (
  λ extent absent block other few stands choice same.
      tell extent absent block other few stands (earlier_choice old mid new extent other later choice) same,
  λ extent absent block other few stands choice same.
      tell extent absent block other few (still_stands old mid absent extent block first stands) (later_choices_stay old mid new extent other first choice) same,
)
