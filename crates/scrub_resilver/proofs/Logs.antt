-- What single calls, and more of them, tell.
use Rattle.std.proofs.Common.{ℕ, ◌≡◌, ◌⊎◌, inl, inr, ◌≤◌, Bool, true, false, Option, Some, None, Result, Ok, Err, IfErr, IfOk, IsErrAnd, get_or, ◌<◌, List, [], ◌∷◌, ◌++◌, length, take, drop, Contains, refl, sym, ap, subst, ◌∙◌, append_assoc, arith}
use Rattle.std.proofs.lemmas.Bool.{cases_lt}
use Rattle.std.proofs.lemmas.Option.{get_or_from_slice_get, slice_get-get_or}
use Rattle.std.proofs.lemmas.Grind.{common_steps}
use Rattle.std.proofs.lemmas.List.{take-append-le}
use Rattle.std.proofs.lemmas.List.Elements.{Contains-append_left, Contains-append_right, Contains-append_cases}
use Rattle.model_disk.specs.Call.{Call, Read, FailedRead}
use Rattle.model_disk.specs.Joint.{JointCall, Disks, on, failed_since}
use Rattle.model_disk.proofs.JointLemmas.{calls_on-other}
use Rattle.raidz_io.specs.Reads.{AreReads, AreUntouched, GaveSince, OnlyReads, absent_since}
use Rattle.raidz_io.proofs.Calls.{Contains-none, OnlyReads-more, OnlyReads-none, OnlyReads-same, failed_since-cases, failed_since-more, failed_since-new, failed_since-none, length-OnlyReads}
use Rattle.block_pointer.specs.declared.block.Block.{Block}
use Rattle.block_pointer.specs.declared.dva.Dva.{Dva}
use Rattle.block_store.specs.declared.shape.VdevShape.{VdevShape}
use Rattle.scrub_resilver.specs.Copies.{AreUnread, IsUnreadAt}
use Rattle.scrub_resilver.specs.Looking.{IsFilled, IsJudged, ReadFailedSince}
use Rattle.scrub_resilver.specs.declared.fault.Fault.{Fault}
use Rattle.scrub_resilver.specs.declared.fault.Fault.TheVariants.{Unreadable, Wrong}

-- what the outcome of a read is
pub record IsRead (old new : Disks) (missing : List ℕ) (disk at : ℕ) (bytes : List ℕ) (is_read : Bool) : Type 0 where
  pub reads : OnlyReads old new
  pub untouched : AreUntouched missing old new
  pub gave : is_read ≡ true → GaveSince (length old.calls) new.calls disk at bytes
  pub unread : is_read ≡ false → Contains missing disk ⊎ ReadFailedSince (length old.calls) new.calls disk at (length bytes)

spares_missing : (old new : Disks) (disk : ℕ) (call : Call) (missing : List ℕ) → ¬ Contains missing disk
    → new.calls ≡ on disk call ∷ old.calls → AreUntouched missing old new
spares_missing old new disk call missing there calls other gone =
    rw calls (calls_on-other disk other call old.calls (λ same. there (subst (Contains missing) same gone)))

never : {A : Type 0} (b : Bool) → b ≡ true → b ≡ false → A
never b was_read unread = cc

pub filled_reads : (old new : Disks) (missing : List ℕ) (disk at : ℕ) (bytes : List ℕ) (is_read : Bool)
    → IsFilled old new missing disk at bytes is_read → IsRead old new missing disk at bytes is_read
filled_reads old new missing disk at bytes is_read one =
    elim one.outcome [
      | inl (was_read, there, calls) ↦ record {
        reads = OnlyReads-more old old new (on disk (Read at bytes)) (OnlyReads-none old) tt one.starts calls;
        untouched = spares_missing old new disk (Read at bytes) missing there calls;
        gave = λ _. rw calls (inl (omega arith, refl));
        unread = λ not. never is_read was_read not;
      }
      | inr (inl (unread, there, calls)) ↦
          let made : JointCall = on disk (FailedRead at (length bytes)) in record {
            reads = OnlyReads-more old old new made (OnlyReads-none old) tt one.starts calls;
            untouched = spares_missing old new disk (FailedRead at (length bytes)) missing there calls;
            gave = λ was_read. never is_read was_read unread;
            unread = λ _.
                inr (subst (λ (c : List JointCall). ReadFailedSince (length old.calls) c disk at (length bytes)) (sym calls) (inl (omega arith, refl)));
          }
      | inr (inr (unread, gone, calls)) ↦ record {
        reads = OnlyReads-same old old new (OnlyReads-none old) one.starts calls;
        untouched = λ other _. rw calls refl;
        gave = λ was_read. never is_read was_read unread;
        unread = λ _. inl gone;
      }
    ]

-- a buffer that is filled whole has what it was filled with
pub filled : (filling items : List ℕ) (n : ℕ) → length filling ≡ n → take n (filling ++ drop (length filling) items) ≡ filling
filled filling items n full = grind (arith, common_steps, take-append-le)

-- ---- one run behind another

are_reads_too : (newer calls : List JointCall) → AreReads newer → AreReads calls → AreReads (newer ++ calls)
are_reads_too [] calls are are' = are'
are_reads_too (made ∷ newer) calls are are' = (are.0, are_reads_too newer calls are.1 are')

pub reads_on : (old mid new : Disks) → OnlyReads old mid → OnlyReads mid new → OnlyReads old new
reads_on old mid new first second = record {
  starts = second.starts ∙ first.starts;
  newer = second.newer ++ first.newer;
  calls = second.calls ∙ ap (λ calls. second.newer ++ calls) first.calls ∙ sym (append_assoc second.newer first.newer old.calls);
  are_reads = are_reads_too second.newer first.newer second.are_reads first.are_reads;
}

pub untouched_on : (absent : List ℕ) (old mid new : Disks) → AreUntouched absent old mid → AreUntouched absent mid new → AreUntouched absent old new
untouched_on absent old mid new first second disk held = second disk held ∙ first disk held

gave_more : (n : ℕ) (newer calls : List JointCall) (disk at : ℕ) (bytes : List ℕ) → GaveSince n calls disk at bytes → GaveSince n (newer ++ calls) disk at bytes
gave_more n [] calls disk at bytes gave = gave
gave_more n (made ∷ newer) calls disk at bytes gave = inr (gave_more n newer calls disk at bytes gave)

gave_from : (n m : ℕ) (calls : List JointCall) (disk at : ℕ) (bytes : List ℕ) → n ≤ m → GaveSince m calls disk at bytes → GaveSince n calls disk at bytes
gave_from n m [] disk at bytes le gave = gave
gave_from n m (made ∷ calls) disk at bytes le gave = elim gave [
  | inl (since, is) ↦ inl (omega arith, is)
  | inr earlier ↦ inr (gave_from n m calls disk at bytes le earlier)
]

failed_more : (n : ℕ) (newer calls : List JointCall) (disk : ℕ) → Contains (failed_since n calls) disk → Contains (failed_since n (newer ++ calls)) disk
failed_more n [] calls disk failed = failed
failed_more n (made ∷ newer) calls disk failed = failed_since-more n made (newer ++ calls) disk (failed_more n newer calls disk failed)

failed_from : (n m : ℕ) (calls : List JointCall) (disk : ℕ) → n ≤ m → Contains (failed_since m calls) disk → Contains (failed_since n calls) disk
failed_from n m [] disk le failed = failed
failed_from n m (made ∷ calls) disk le failed =
    elim (cases_lt (length calls) m) [
      | inl early ↦
          failed_since-more n made calls disk (failed_from n m calls disk le
          (absurd (Contains-none disk (subst (λ (xs : List ℕ). Contains xs disk) (failed_since-none m (made ∷ calls) (omega arith)) failed))))
      | inr late ↦ elim (failed_since-cases m made calls disk failed) [
        | inl (same, was) ↦ subst (λ d. Contains (failed_since n (made ∷ calls)) d) (sym same) (failed_since-new n made calls (omega arith) was)
        | inr earlier ↦ failed_since-more n made calls disk (failed_from n m calls disk le earlier)
      ]
    ]

pub gave_later : (old mid new : Disks) (disk at : ℕ) (bytes : List ℕ) → OnlyReads mid new → GaveSince (length old.calls) mid.calls disk at bytes
    → GaveSince (length old.calls) new.calls disk at bytes
gave_later old mid new disk at bytes reads gave =
    subst (λ (calls : List JointCall). GaveSince (length old.calls) calls disk at bytes) (sym reads.calls) (gave_more (length old.calls) reads.newer mid.calls disk at bytes gave)

pub gave_since : (old mid new : Disks) (disk at : ℕ) (bytes : List ℕ) → OnlyReads old mid → GaveSince (length mid.calls) new.calls disk at bytes
    → GaveSince (length old.calls) new.calls disk at bytes
gave_since old mid new disk at bytes reads gave = gave_from (length old.calls) (length mid.calls) new.calls disk at bytes (length-OnlyReads old mid reads) gave

read_failed_more : (n : ℕ) (newer calls : List JointCall) (disk at count : ℕ) → ReadFailedSince n calls disk at count
    → ReadFailedSince n (newer ++ calls) disk at count
read_failed_more n [] calls disk at count failed = failed
read_failed_more n (made ∷ newer) calls disk at count failed = inr (read_failed_more n newer calls disk at count failed)

pub read_failed_from : (n m : ℕ) (calls : List JointCall) (disk at count : ℕ) → n ≤ m → ReadFailedSince m calls disk at count → ReadFailedSince n calls disk at count
read_failed_from n m [] disk at count le failed = failed
read_failed_from n m (made ∷ calls) disk at count le failed = elim failed [
  | inl (since, is) ↦ inl (omega arith, is)
  | inr earlier ↦ inr (read_failed_from n m calls disk at count le earlier)
]

pub absent_later : (old mid new : Disks) (missing : List ℕ) (disk : ℕ) → OnlyReads mid new → Contains (absent_since old mid missing) disk
    → Contains (absent_since old new missing) disk
absent_later old mid new missing disk reads held = elim (Contains-append_cases missing (failed_since (length old.calls) mid.calls) disk held) [
  | inl gone ↦ Contains-append_left missing (failed_since (length old.calls) new.calls) disk gone
  | inr failed ↦
      Contains-append_right missing (failed_since (length old.calls) new.calls) disk
      (subst (λ (calls : List JointCall). Contains (failed_since (length old.calls) calls) disk) (sym reads.calls)
      (failed_more (length old.calls) reads.newer mid.calls disk failed))
]

pub absent_from : (old mid new : Disks) (missing : List ℕ) (disk : ℕ) → OnlyReads old mid → Contains (absent_since mid new missing) disk
    → Contains (absent_since old new missing) disk
absent_from old mid new missing disk reads held = elim (Contains-append_cases missing (failed_since (length mid.calls) new.calls) disk held) [
  | inl gone ↦ Contains-append_left missing (failed_since (length old.calls) new.calls) disk gone
  | inr failed ↦
      Contains-append_right missing (failed_since (length old.calls) new.calls) disk
      (failed_from (length old.calls) (length mid.calls) new.calls disk (length-OnlyReads old mid reads) failed)
]

pub judged_later : (old mid new : Disks) (missing : List ℕ) (known : Bool) (disk at : ℕ) (bytes : List ℕ) (fault : Option Fault) → OnlyReads mid new
    → IsJudged old mid missing known disk at bytes fault → IsJudged old new missing known disk at bytes fault
judged_later old mid new missing known disk at bytes None reads (is, gave) = (is, gave_later old mid new disk at bytes reads gave)
judged_later old mid new missing known disk at bytes (Some Unreadable) reads unread = elim unread [
  | inl gone ↦ inl gone
  | inr failed ↦ inr (subst (λ (calls : List JointCall). ReadFailedSince (length old.calls) calls disk at (length bytes)) (sym reads.calls)
      (read_failed_more (length old.calls) reads.newer mid.calls disk at (length bytes) failed))
]
judged_later old mid new missing known disk at bytes (Some Wrong) reads (others, gave, size, apart) =
    (others, gave_later old mid new disk at others reads gave, size, apart)

pub judged_from : (old mid new : Disks) (missing : List ℕ) (known : Bool) (disk at : ℕ) (bytes : List ℕ) (fault : Option Fault) → OnlyReads old mid
    → IsJudged mid new missing known disk at bytes fault → IsJudged old new missing known disk at bytes fault
judged_from old mid new missing known disk at bytes None reads (is, gave) = (is, gave_since old mid new disk at bytes reads gave)
judged_from old mid new missing known disk at bytes (Some Unreadable) reads unread = elim unread [
  | inl gone ↦ inl gone
  | inr failed ↦ inr (read_failed_from (length old.calls) (length mid.calls) new.calls disk at (length bytes) (length-OnlyReads old mid reads) failed)
]
judged_from old mid new missing known disk at bytes (Some Wrong) reads (others, gave, size, apart) =
    (others, gave_since old mid new disk at others reads gave, size, apart)

pub unread_around : (old first last new : Disks) (shapes : List VdevShape) (missing : List ℕ) (block : Block) (place : Dva) → OnlyReads old first → OnlyReads last new
    → IsUnreadAt shapes first last missing block place → IsUnreadAt shapes old new missing block place
unread_around old first last new shapes missing block place before after (extent, at, is) = (
  extent,
  at,
  record { before = is.before; after = is.after; first = reads_on old first is.before before is.first; later = reads_on is.after last new is.later after; cause = is.cause },
)

pub all_unread_around : (old first last new : Disks) (shapes : List VdevShape) (missing : List ℕ) (block : Block) (places : List Dva) → OnlyReads old first
    → OnlyReads last new → AreUnread shapes first last missing block places → AreUnread shapes old new missing block places
all_unread_around old first last new shapes missing block [] before after are = tt
all_unread_around old first last new shapes missing block (place ∷ places) before after are =
    (unread_around old first last new shapes missing block place before after are.0, all_unread_around old first last new shapes missing block places before after are.1)

-- one more copy
pub one_more_unread : (shapes : List VdevShape) (old new : Disks) (missing : List ℕ) (block : Block) (places : List Dva) (place : Dva)
    → AreUnread shapes old new missing block places → IsUnreadAt shapes old new missing block place
    → AreUnread shapes old new missing block (places ++ place ∷ [])
one_more_unread shapes old new missing block [] place are is = (is, tt)
one_more_unread shapes old new missing block (first ∷ places) place are is = (are.0, one_more_unread shapes old new missing block places place are.1 is)

pub judged_at : (old new : Disks) (missing : List ℕ) (known : Bool) (disk disk' at at' : ℕ) (bytes bytes' : List ℕ) (fault : Option Fault) → disk ≡ disk' → at ≡ at'
    → bytes ≡ bytes' → IsJudged old new missing known disk at bytes fault → IsJudged old new missing known disk' at' bytes' fault
judged_at old new missing known disk disk' at at' bytes bytes' fault same_disk same_at same_bytes is =
    subst (λ b. IsJudged old new missing known disk' at' b fault) same_bytes
    (subst (λ a. IsJudged old new missing known disk' a bytes fault) same_at
    (subst (λ d. IsJudged old new missing known d at bytes fault) same_disk is))

pub ok_more : {T E : Type 0} (result : Result T E) (P Q : T → Type 0) → ((x : T) → P x → Q x) → IfOk result P → IfOk result Q
ok_more (Ok x) P Q more held = more x held
ok_more (Err e) P Q more held = tt

pub err_at : {T E : Type 0} (result : Result T E) (e : E) (Q : E → Type 0) → IsErrAnd result (λ x. x ≡ e) → Q e → IfErr result Q
err_at (Ok x) e Q is held = tt
err_at (Err x) e Q is held = subst Q (sym is) held

-- an element of a list that code goes over
pub held_at : {X : Type 0} (xs : List X) (i : ℕ) (d : X) → i < length xs → Contains xs (get_or xs i d)
held_at xs i d within = (i, within, get_or_from_slice_get xs i (get_or xs i d) (get_or xs i d) (slice_get-get_or xs i d within))

pub err_more : {T E : Type 0} (result : Result T E) (P Q : E → Type 0) → ((x : E) → P x → Q x) → IfErr result P → IfErr result Q
err_more (Ok x) P Q more held = tt
err_more (Err e) P Q more held = more e held
