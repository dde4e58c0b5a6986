-- What single writes, and more calls, mend.
use Rattle.std.proofs.Common.{ℕ, below_more, get_or, take, ◌≡◌, ◌≢◌, ◌⊎◌, inl, inr, ◌<◌, ◌≤◌, ◌+◌, Bool, true, false, Option, Some, None, Result, Ok, Err, OnOk, List, [], ◌∷◌, ◌++◌, length, All, Contains, refl, sym, ap, subst, ◌∙◌, append_assoc, length-append, arith}
use Rattle.std.specs.List.{slice_get}
use Rattle.std.proofs.lemmas.Bool.{cases_lt}
use Rattle.std.proofs.lemmas.List.Elements.{Contains-push, Contains-push_cases, All-nil, All-cons, Contains-append_left}
use Rattle.std.proofs.lemmas.Option.{slice_get_within, slice_get-get_or}
use Rattle.std.proofs.lemmas.List.{take_more}
use Rattle.sha2.specs.Sha256.{sha256}
use Rattle.model_disk.specs.Call.{Call, Read, FailedRead, Wrote, FailedWrite, Flushed, FailedFlush}
use Rattle.model_disk.specs.Joint.{JointCall, Disks, on, calls_on, failed_since}
use Rattle.model_disk.specs.Runs.{Makes, WritesOnly, no_write}
use Rattle.model_disk.proofs.JointLemmas.{calls_on-other, calls_on-same}
use Rattle.model_disk.proofs.RunLemmas.{Makes-more, Makes-none, Makes-wider}
use Rattle.block_pointer.specs.Copies.{dvas}
use Rattle.block_pointer.specs.declared.block.Block.{Block as PointedBlock}
use Rattle.block_pointer.specs.declared.dva.Dva.{Dva}
use Rattle.block_store.specs.declared.shape.VdevShape.{VdevShape}
use Rattle.raidz_map.specs.declared.column.Column.{Column}
use Rattle.raidz_parity.specs.Layout.{Block}
use Rattle.raidz_io.specs.declared.vdev.Extent.{Extent}
use Rattle.raidz_io.specs.Places.{IsOnDisks, disk_of, offset_of}
use Rattle.raidz_io.specs.Reads.{AreReads, AreUntouched, GaveSince, IsRead, OnlyReads}
use Rattle.raidz_io.proofs.Calls.{Contains-none, failed_since-cases, failed_since-more, failed_since-new, failed_since-none}
use Rattle.raidz_io.specs.Stands.{AreBytesOf, IsLayout, all_columns}
use Rattle.scrub_resilver.proofs.Logs.{judged_at, read_failed_from, untouched_on}
use Rattle.scrub_resilver.specs.Looking.{IsJudged}
use Rattle.scrub_resilver.specs.declared.fault.Fault.{Fault}
use Rattle.scrub_resilver.specs.declared.fault.Fault.TheVariants.{Unreadable, Wrong}
use Rattle.scrub_resilver.specs.Columns.{IsSpread}
use Rattle.scrub_resilver.specs.Copies.{AreUnread, IsExtentOn}
use Rattle.scrub_resilver.specs.Mending.{AreDue, AreFlushedBelow, AreMendedBelow, ArePlacesMended, GoesOn, IsBlockMended, IsFlushed, IsFlushTried, IsColumnIn, IsColumnMended, IsColumnOf, IsCopyMended, IsDue, IsMendedAt, IsPlaceMended, IsPut, IsRightColumn, OnlyMends, Repairs, WasFaulty, WasMadeSince}
use Rattle.scrub_resilver.specs.declared.spread.SpreadBlock.{SpreadBlock}

-- ---- runs

only_read : (may : ℕ → List ℕ → Type 0) (call : Call) → IsRead call → WritesOnly may call
only_read may (Read at bytes) is = tt
only_read may (FailedRead at n) is = tt
only_read may (Wrote at bytes) is = absurd is
only_read may (FailedWrite at bytes) is = absurd is
only_read may Flushed is = absurd is
only_read may FailedFlush is = absurd is

only_reads : (may : ℕ → ℕ → List ℕ → Type 0) (newer : List JointCall) → AreReads newer → All (λ made. WritesOnly (may made.which) made.call) newer
only_reads may [] are = All-nil (λ (made : JointCall). WritesOnly (may made.which) made.call)
only_reads may (made ∷ newer) are =
    All-cons (λ (it : JointCall). WritesOnly (may it.which) it.call) made newer (only_read (may made.which) made.call are.0) (only_reads may newer are.1)

pub reads_go_on : (old new : Disks) → OnlyReads old new → GoesOn old new
reads_go_on old new is = record { starts = is.starts; newer = is.newer; calls = is.calls }

pub goes_none : (old : Disks) → GoesOn old old
goes_none old = record { starts = refl; newer = []; calls = refl }

pub goes_further : (old mid new : Disks) → GoesOn old mid → GoesOn mid new → GoesOn old new
goes_further old mid new first second = record {
  starts = second.starts ∙ first.starts;
  newer = second.newer ++ first.newer;
  calls = second.calls ∙ ap (λ calls. second.newer ++ calls) first.calls ∙ sym (append_assoc second.newer first.newer old.calls);
}

no_fewer : (old new : Disks) → GoesOn old new → length old.calls ≤ length new.calls
no_fewer old new on_it = omega (arith, ap length on_it.calls, length-append on_it.newer old.calls)

-- ---- what is seen in a log is seen in a longer one

gave_more : (n : ℕ) (newer calls : List JointCall) (disk at : ℕ) (bytes : List ℕ) → GaveSince n calls disk at bytes → GaveSince n (newer ++ calls) disk at bytes
gave_more n [] calls disk at bytes gave = gave
gave_more n (made ∷ newer) calls disk at bytes gave = inr (gave_more n newer calls disk at bytes gave)

gave_from : (n m : ℕ) (calls : List JointCall) (disk at : ℕ) (bytes : List ℕ) → n ≤ m → GaveSince m calls disk at bytes → GaveSince n calls disk at bytes
gave_from n m [] disk at bytes le gave = gave
gave_from n m (made ∷ calls) disk at bytes le gave = elim gave [
  | inl (since, is) ↦ inl (omega arith, is)
  | inr earlier ↦ inr (gave_from n m calls disk at bytes le earlier)
]

made_more : (n : ℕ) (newer calls : List JointCall) (call : JointCall) → WasMadeSince n calls call → WasMadeSince n (newer ++ calls) call
made_more n [] calls call was = was
made_more n (made ∷ newer) calls call was = inr (made_more n newer calls call was)

made_from : (n m : ℕ) (calls : List JointCall) (call : JointCall) → n ≤ m → WasMadeSince m calls call → WasMadeSince n calls call
made_from n m [] call le was = was
made_from n m (made ∷ calls) call le was = elim was [
  | inl (since, is) ↦ inl (omega arith, is)
  | inr earlier ↦ inr (made_from n m calls call le earlier)
]

failed_more : (n : ℕ) (newer calls : List JointCall) (disk : ℕ) → Contains (failed_since n calls) disk → Contains (failed_since n (newer ++ calls)) disk
failed_more n [] calls disk failed = failed
failed_more n (made ∷ newer) calls disk failed = failed_since-more n made (newer ++ calls) disk (failed_more n newer calls disk failed)

failed_from : (n m : ℕ) (calls : List JointCall) (disk : ℕ) → n ≤ m → Contains (failed_since m calls) disk → Contains (failed_since n calls) disk
failed_from n m [] disk le failed = failed
failed_from n m (made ∷ calls) disk le failed =
    elim (cases_lt (length calls) m) [
      | inl early ↦
          failed_since-more n made calls disk (failed_from n m calls disk le
          (absurd (Contains-none disk (subst (λ (xs : List ℕ). Contains xs disk) (failed_since-none m (made ∷ calls) (omega arith)) failed))))
      | inr late ↦ elim (failed_since-cases m made calls disk failed) [
        | inl (same, was) ↦ subst (λ d. Contains (failed_since n (made ∷ calls)) d) (sym same) (failed_since-new n made calls (omega arith) was)
        | inr earlier ↦ failed_since-more n made calls disk (failed_from n m calls disk le earlier)
      ]
    ]

pub failed_later : (old mid new : Disks) (disk : ℕ) → GoesOn mid new → Contains (failed_since (length old.calls) mid.calls) disk
    → Contains (failed_since (length old.calls) new.calls) disk
failed_later old mid new disk later failed =
    subst (λ (calls : List JointCall). Contains (failed_since (length old.calls) calls) disk) (sym later.calls)
    (failed_more (length old.calls) later.newer mid.calls disk failed)

pub failed_since_then : (old mid new : Disks) (disk : ℕ) → GoesOn old mid → Contains (failed_since (length mid.calls) new.calls) disk
    → Contains (failed_since (length old.calls) new.calls) disk
failed_since_then old mid new disk before failed = failed_from (length old.calls) (length mid.calls) new.calls disk (no_fewer old mid before) failed

made_later : (old mid new : Disks) (call : JointCall) → GoesOn mid new → WasMadeSince (length old.calls) mid.calls call → WasMadeSince (length old.calls) new.calls call
made_later old mid new call later was =
    subst (λ (calls : List JointCall). WasMadeSince (length old.calls) calls call) (sym later.calls) (made_more (length old.calls) later.newer mid.calls call was)

pub mended_later : (old mid new : Disks) (missing : List ℕ) (disk at : ℕ) (bytes : List ℕ) → GoesOn mid new → IsColumnMended old mid missing disk at bytes
    → IsColumnMended old new missing disk at bytes
mended_later old mid new missing disk at bytes later is = elim is [
  | inl gone ↦ inl gone
  | inr (inl gave) ↦
      inr (inl (subst (λ (calls : List JointCall). GaveSince (length old.calls) calls disk at bytes) (sym later.calls)
      (gave_more (length old.calls) later.newer mid.calls disk at bytes gave)))
  | inr (inr (inl wrote)) ↦ inr (inr (inl (made_later old mid new (on disk (Wrote at bytes)) later wrote)))
  | inr (inr (inr failed)) ↦ inr (inr (inr (made_later old mid new (on disk (FailedWrite at bytes)) later failed)))
]

pub mended_from : (old mid new : Disks) (missing : List ℕ) (disk at : ℕ) (bytes : List ℕ) → GoesOn old mid → IsColumnMended mid new missing disk at bytes
    → IsColumnMended old new missing disk at bytes
mended_from old mid new missing disk at bytes before is =
    let le = no_fewer old mid before in
    elim is [
      | inl gone ↦ inl gone
      | inr (inl gave) ↦ inr (inl (gave_from (length old.calls) (length mid.calls) new.calls disk at bytes le gave))
      | inr (inr (inl wrote)) ↦ inr (inr (inl (made_from (length old.calls) (length mid.calls) new.calls (on disk (Wrote at bytes)) le wrote)))
      | inr (inr (inr failed)) ↦ inr (inr (inr (made_from (length old.calls) (length mid.calls) new.calls (on disk (FailedWrite at bytes)) le failed)))
    ]

-- ---- writes that are due

due_none : (n : ℕ) (calls : List JointCall) → length calls ≤ n → AreDue n calls
due_none n [] le = tt
due_none n (made ∷ calls) le = (λ since. absurd (omega arith), due_none n calls (omega arith))

read_is_due : (n : ℕ) (calls : List JointCall) (disk : ℕ) (call : Call) → IsRead call → IsDue n calls disk call
read_is_due n calls disk (Read at bytes) is = tt
read_is_due n calls disk (FailedRead at count) is = tt
read_is_due n calls disk (Wrote at bytes) is = absurd is
read_is_due n calls disk (FailedWrite at bytes) is = absurd is
read_is_due n calls disk Flushed is = absurd is
read_is_due n calls disk FailedFlush is = absurd is

reads_are_due : (newer calls : List JointCall) → AreReads newer → AreDue (length calls) (newer ++ calls)
reads_are_due [] calls are = due_none (length calls) calls (omega arith)
reads_are_due (made ∷ newer) calls are =
    (λ since. read_is_due (length calls) (newer ++ calls) made.which made.call are.0, reads_are_due newer calls are.1)

faulty_from : (n m : ℕ) (calls : List JointCall) (disk at : ℕ) (bytes : List ℕ) → n ≤ m → WasFaulty m calls disk at bytes → WasFaulty n calls disk at bytes
faulty_from n m calls disk at bytes le (inl failed) = inl (read_failed_from n m calls disk at (length bytes) le failed)
faulty_from n m calls disk at bytes le (inr (others, size, apart, gave)) = inr (others, size, apart, gave_from n m calls disk at others le gave)

due_from : (n m : ℕ) (calls : List JointCall) (disk : ℕ) (call : Call) → n ≤ m → IsDue m calls disk call → IsDue n calls disk call
due_from n m calls disk (Read at bytes) le is = tt
due_from n m calls disk (FailedRead at count) le is = tt
due_from n m calls disk (Wrote at bytes) le is = faulty_from n m calls disk at bytes le is
due_from n m calls disk (FailedWrite at bytes) le is = faulty_from n m calls disk at bytes le is
due_from n m calls disk Flushed le is = tt
due_from n m calls disk FailedFlush le is = tt

due_on : (n : ℕ) (newer calls : List JointCall) → n ≤ length calls → AreDue n calls → AreDue (length calls) (newer ++ calls) → AreDue n (newer ++ calls)
due_on n [] calls le first second = first
due_on n (made ∷ newer) calls le first second = (
  λ since. due_from n (length calls) (newer ++ calls) made.which made.call le (second.0 (omega (arith, length-append newer calls))),
  due_on n newer calls le first second.1,
)

-- what was judged to be faulty was found so
found_faulty : (old mid : Disks) (missing : List ℕ) (disk at : ℕ) (bytes : List ℕ) (fault : Fault) → IsJudged old mid missing true disk at bytes (Some fault)
    → ¬ Contains missing disk → WasFaulty (length old.calls) mid.calls disk at bytes
found_faulty old mid missing disk at bytes Unreadable is there = elim is [
  | inl gone ↦ absurd (there gone)
  | inr failed ↦ inl failed
]
found_faulty old mid missing disk at bytes Wrong (others, gave, size, apart) there = inr (others, size, apart refl, gave)

-- ---- repairs

-- reads write nothing
pub reads_repair : (may : ℕ → ℕ → List ℕ → Type 0) (missing : List ℕ) (old new : Disks) → OnlyReads old new → AreUntouched missing old new
    → Repairs may missing old new
reads_repair may missing old new reads untouched = record {
  makes = record { starts = reads.starts; newer = reads.newer; calls = reads.calls; writes = only_reads may reads.newer reads.are_reads };
  untouched = untouched;
  due = subst (λ (calls : List JointCall). AreDue (length old.calls) calls) (sym reads.calls) (reads_are_due reads.newer old.calls reads.are_reads);
}

pub repairs_none : (may : ℕ → ℕ → List ℕ → Type 0) (missing : List ℕ) (old : Disks) → Repairs may missing old old
repairs_none may missing old =
    record { makes = Makes-none may old; untouched = λ disk held. refl; due = due_none (length old.calls) old.calls (omega arith) }

pub goes_on : (may : ℕ → ℕ → List ℕ → Type 0) (missing : List ℕ) (old new : Disks) → Repairs may missing old new → GoesOn old new
goes_on may missing old new is = record { starts = is.makes.starts; newer = is.makes.newer; calls = is.makes.calls }

pub repairs_on : (may : ℕ → ℕ → List ℕ → Type 0) (missing : List ℕ) (old mid new : Disks) → Repairs may missing old mid → Repairs may missing mid new
    → Repairs may missing old new
repairs_on may missing old mid new first second = record {
  makes = Makes-more may old mid new first.makes second.makes;
  untouched = untouched_on missing old mid new first.untouched second.untouched;
  due = subst (λ (calls : List JointCall). AreDue (length old.calls) calls) (sym second.makes.calls)
      (due_on (length old.calls) second.makes.newer mid.calls (no_fewer old mid (goes_on may missing old mid first)) first.due
      (subst (λ (calls : List JointCall). AreDue (length mid.calls) calls) second.makes.calls second.due));
}

pub repairs_wider : (may also : ℕ → ℕ → List ℕ → Type 0) (missing : List ℕ) (old new : Disks)
    → ((disk at : ℕ) (bytes : List ℕ) → may disk at bytes → also disk at bytes) → Repairs may missing old new → Repairs also missing old new
repairs_wider may also missing old new wider is = record { makes = Makes-wider may also old new wider is.makes; untouched = is.untouched; due = is.due }

spares_missing : (old new : Disks) (disk : ℕ) (call : Call) (missing : List ℕ) → ¬ Contains missing disk
    → new.calls ≡ on disk call ∷ old.calls → AreUntouched missing old new
spares_missing old new disk call missing there calls other gone =
    rw calls (calls_on-other disk other call old.calls (λ same. there (subst (Contains missing) same gone)))

one_call : (may : ℕ → ℕ → List ℕ → Type 0) (old new : Disks) (disk : ℕ) (call : Call) → new.starts ≡ old.starts → new.calls ≡ on disk call ∷ old.calls
    → WritesOnly (may disk) call → Makes may old new
one_call may old new disk call starts calls is =
    let P : JointCall → Type 0 = λ made. WritesOnly (may made.which) made.call in
    record { starts = starts; newer = on disk call ∷ []; calls = calls; writes = All-cons P (on disk call) [] is (All-nil P) }

-- one call more
one_more_call : (may : ℕ → ℕ → List ℕ → Type 0) (missing : List ℕ) (old mid new : Disks) (disk : ℕ) (call : Call) → Repairs may missing old mid
    → new.starts ≡ mid.starts → new.calls ≡ on disk call ∷ mid.calls → ¬ Contains missing disk → WritesOnly (may disk) call
    → IsDue (length old.calls) mid.calls disk call → Repairs may missing old new
one_more_call may missing old mid new disk call is starts calls there right due = record {
  makes = Makes-more may old mid new is.makes (one_call may mid new disk call starts calls right);
  untouched = untouched_on missing old mid new is.untouched (spares_missing mid new disk call missing there calls);
  due = subst (λ (them : List JointCall). AreDue (length old.calls) them) (sym calls) (λ since. due, is.due);
}

no_more_calls : (may : ℕ → ℕ → List ℕ → Type 0) (missing : List ℕ) (old mid new : Disks) → Repairs may missing old mid → new.starts ≡ mid.starts
    → new.calls ≡ mid.calls → Repairs may missing old new
no_more_calls may missing old mid new is starts calls = record {
  makes = record { starts = starts ∙ is.makes.starts; newer = is.makes.newer; calls = calls ∙ is.makes.calls; writes = is.makes.writes };
  untouched = λ disk held. ap (calls_on disk) calls ∙ is.untouched disk held;
  due = subst (λ (them : List JointCall). AreDue (length old.calls) them) (sym calls) is.due;
}

-- ---- one write

-- what reads and a write behind them do
pub record IsPutWell (may : ℕ → ℕ → List ℕ → Type 0) (old new : Disks) (missing : List ℕ) (disk at : ℕ) (bytes : List ℕ) : Type 0 where
  pub repairs : Repairs may missing old new
  pub mended : IsColumnMended old new missing disk at bytes

pub put_well : (may : ℕ → ℕ → List ℕ → Type 0) (old mid new : Disks) (missing : List ℕ) (disk at : ℕ) (bytes : List ℕ) → Repairs may missing old mid
    → may disk at bytes → (¬ Contains missing disk → WasFaulty (length old.calls) mid.calls disk at bytes) → IsPut mid new missing disk at bytes
    → IsPutWell may old new missing disk at bytes
put_well may old mid new missing disk at bytes before right faulty one =
    let le : length old.calls ≤ length mid.calls = no_fewer old mid (goes_on may missing old mid before) in
    elim one.outcome [
      | inl (there, calls) ↦ record {
        repairs = one_more_call may missing old mid new disk (Wrote at bytes) before one.starts calls there right (faulty there);
        mended = inr (inr (inl (rw calls (inl (le, refl)))));
      }
      | inr (inl (there, calls)) ↦ record {
        repairs = one_more_call may missing old mid new disk (FailedWrite at bytes) before one.starts calls there right (faulty there);
        mended = inr (inr (inr (rw calls (inl (le, refl)))));
      }
      | inr (inr (gone, calls)) ↦ record {
        repairs = no_more_calls may missing old mid new before one.starts calls;
        mended = inl gone;
      }
    ]

-- ---- one column

-- what has no fault was read
pub unfaulted : (old new : Disks) (missing : List ℕ) (disk at : ℕ) (bytes : List ℕ) (fault : Option Fault) → fault ≡ None
    → IsJudged old new missing true disk at bytes fault → IsColumnMended old new missing disk at bytes
unfaulted old new missing disk at bytes None none is = inr (inl is.1)
unfaulted old new missing disk at bytes (Some fault) none is = absurd (cc)

-- the disks are those that they were
pub on_disks_later : (extent : Extent) (old new : Disks) → new.starts ≡ old.starts → IsOnDisks extent old.starts → IsOnDisks extent new.starts
on_disks_later extent old new same on_them = subst (λ (starts : List (List ℕ)). IsOnDisks extent starts) (sym same) on_them

-- the bytes of a column that code takes, put at the place that it makes
column_in : (extent : Extent) (layout : List Column) (columns : List (List ℕ)) (k : ℕ) (column : Column) (disk at : ℕ) (bytes : List ℕ)
    → slice_get layout k ≡ Some column → slice_get columns k ≡ Some bytes → disk ≡ disk_of extent.vdev column → at ≡ offset_of column
    → IsColumnIn extent layout columns disk at bytes
column_in extent layout columns k column disk at bytes place is which from =
    record { k = k; column = column; place_is = place; bytes_are = is; disk_is = which; at_is = from }

same_some : {X : Type 0} (x y : X) → Some x ≡ Some y → x ≡ y
same_some x y same = cc

-- what is mended by the place and the bytes that code takes is so by those that stand there
mended_at : (old new : Disks) (missing : List ℕ) (extent : Extent) (layout : List Column) (columns : List (List ℕ)) (k : ℕ) (column : Column) (disk at : ℕ)
    (bytes : List ℕ) → slice_get layout k ≡ Some column → slice_get columns k ≡ Some bytes → disk ≡ disk_of extent.vdev column → at ≡ offset_of column
    → IsColumnMended old new missing disk at bytes → IsMendedAt old new missing extent layout columns k
mended_at old new missing extent layout columns k column disk at bytes place is which from mended column' bytes' place' is' =
    let same : column ≡ column' = same_some _ _ (sym place ∙ place') in
    let same_bytes : bytes ≡ bytes' = same_some _ _ (sym is ∙ is') in
    subst (λ (b : List ℕ). IsColumnMended old new missing (disk_of extent.vdev column') (offset_of column') b) same_bytes
    (subst (λ a. IsColumnMended old new missing (disk_of extent.vdev column') a bytes) (from ∙ ap (λ (c : Column). offset_of c) same)
    (subst (λ d. IsColumnMended old new missing d at bytes) (which ∙ ap (λ (c : Column). disk_of extent.vdev c) same) mended))

-- what is done of a column where a fault is found
pub record IsColumnWell (old new : Disks) (missing : List ℕ) (extent : Extent) (layout : List Column) (columns : List (List ℕ)) (k : ℕ) : Type 0 where
  pub repairs : Repairs (IsColumnIn extent layout columns) missing old new
  pub mended : IsMendedAt old new missing extent layout columns k

pub column_well : (old mid new : Disks) (missing : List ℕ) (extent : Extent) (layout : List Column) (columns : List (List ℕ)) (k : ℕ) (column : Column) (disk at : ℕ)
    (bytes : List ℕ) (judged : Option Fault) (fault : Fault) → slice_get layout k ≡ Some column → slice_get columns k ≡ Some bytes → disk ≡ disk_of extent.vdev column
    → at ≡ offset_of column → OnlyReads old mid → AreUntouched missing old mid → judged ≡ Some fault
    → IsJudged old mid missing true (disk_of extent.vdev column) (offset_of column) bytes judged → IsPut mid new missing disk at bytes
    → IsColumnWell old new missing extent layout columns k
column_well old mid new missing extent layout columns k column disk at bytes judged fault place are which from reads untouched is said put =
    let may : ℕ → ℕ → List ℕ → Type 0 = IsColumnIn extent layout columns in
    let here : IsJudged old mid missing true disk at bytes (Some fault) =
    judged_at old mid missing true (disk_of extent.vdev column) disk (offset_of column) at bytes bytes (Some fault) (sym which) (sym from) refl
    (subst (λ (it : Option Fault). IsJudged old mid missing true (disk_of extent.vdev column) (offset_of column) bytes it) is said) in
    let well : IsPutWell may old new missing disk at bytes =
    put_well may old mid new missing disk at bytes (reads_repair may missing old mid reads untouched)
    (column_in extent layout columns k column disk at bytes place are which from) (found_faulty old mid missing disk at bytes fault here) put in
    record {
      repairs = well.repairs;
      mended = mended_at old new missing extent layout columns k column disk at bytes place are which from well.mended;
    }

-- ---- columns of a copy

pub mended_at_later : (old mid new : Disks) (missing : List ℕ) (extent : Extent) (layout : List Column) (columns : List (List ℕ)) (k : ℕ) → GoesOn mid new
    → IsMendedAt old mid missing extent layout columns k → IsMendedAt old new missing extent layout columns k
mended_at_later old mid new missing extent layout columns k later is column bytes at at' =
    mended_later old mid new missing (disk_of extent.vdev column) (offset_of column) bytes later (is column bytes at at')

pub mended_at_from : (old mid new : Disks) (missing : List ℕ) (extent : Extent) (layout : List Column) (columns : List (List ℕ)) (k : ℕ) → GoesOn old mid
    → IsMendedAt mid new missing extent layout columns k → IsMendedAt old new missing extent layout columns k
mended_at_from old mid new missing extent layout columns k before is column bytes at at' =
    mended_from old mid new missing (disk_of extent.vdev column) (offset_of column) bytes before (is column bytes at at')

-- one column more
pub one_more_mended : (old mid new : Disks) (missing : List ℕ) (extent : Extent) (layout : List Column) (columns : List (List ℕ)) (n : ℕ) → GoesOn old mid
    → GoesOn mid new → AreMendedBelow old mid missing extent layout columns n → IsMendedAt mid new missing extent layout columns n
    → AreMendedBelow old new missing extent layout columns (n + 1)
one_more_mended old mid new missing extent layout columns n before later are is =
    below_more (λ k. IsMendedAt old new missing extent layout columns k) n
    (λ k below. mended_at_later old mid new missing extent layout columns k later (are k below))
    (mended_at_from old mid new missing extent layout columns n before is)

-- all columns
pub copy_mended : (old new : Disks) (missing : List ℕ) (extent : Extent) (content : List ℕ) (layout : List Column) (columns : Block) → IsLayout extent layout
    → AreBytesOf extent content layout columns → AreMendedBelow old new missing extent layout (all_columns columns) (length layout)
    → IsCopyMended old new missing extent content
copy_mended old new missing extent content layout columns is_layout are_bytes are = record {
  layout = layout;
  columns = columns;
  is_layout = is_layout;
  are_bytes = are_bytes;
  each = λ k column bytes at at'. are k (slice_get_within layout k column at) column bytes at at';
}

-- ---- a copy of a block

-- the columns of a copy are those of the block
pub place_repairs : (shapes : List VdevShape) (block : PointedBlock) (place : Dva) (content bytes : List ℕ) (extent : Extent) (spread : SpreadBlock) (missing : List ℕ)
    (old new : Disks) → IsExtentOn shapes block.property.sectors place extent → bytes ≡ content → IsSpread extent bytes spread
    → Repairs (IsColumnIn extent spread.layout.items (all_columns spread.columns)) missing old new
    → Repairs (IsColumnOf shapes block place content) missing old new
place_repairs shapes block place content bytes extent spread missing old new at same is =
    repairs_wider (IsColumnIn extent spread.layout.items (all_columns spread.columns)) (IsColumnOf shapes block place content) missing old new
    (λ disk at' written one. record {
      extent = extent;
      extent_is = at;
      layout = spread.layout.items;
      columns = spread.columns;
      is_layout = is.is_layout;
      are_bytes = subst (λ (b : List ℕ). AreBytesOf extent b spread.layout.items spread.columns) same is.are_bytes;
      is_column = one;
    })

pub place_mended : (shapes : List VdevShape) (block : PointedBlock) (place : Dva) (content bytes : List ℕ) (extent : Extent) (spread : SpreadBlock) (missing : List ℕ)
    (old new : Disks) → IsExtentOn shapes block.property.sectors place extent → bytes ≡ content → IsSpread extent bytes spread
    → AreMendedBelow old new missing extent spread.layout.items (all_columns spread.columns) (length spread.layout.items)
    → IsPlaceMended shapes old new missing block content place
place_mended shapes block place content bytes extent spread missing old new at same is are = (
  extent,
  at,
  copy_mended old new missing extent content spread.layout.items spread.columns is.is_layout
      (subst (λ (b : List ℕ). AreBytesOf extent b spread.layout.items spread.columns) same is.are_bytes) are,
)

-- ---- all copies of a block

copy_later : (old mid new : Disks) (missing : List ℕ) (extent : Extent) (content : List ℕ) → GoesOn mid new → IsCopyMended old mid missing extent content
    → IsCopyMended old new missing extent content
copy_later old mid new missing extent content later is = record {
  layout = is.layout;
  columns = is.columns;
  is_layout = is.is_layout;
  are_bytes = is.are_bytes;
  each = λ k. mended_at_later old mid new missing extent is.layout (all_columns is.columns) k later (is.each k);
}

copy_from : (old mid new : Disks) (missing : List ℕ) (extent : Extent) (content : List ℕ) → GoesOn old mid → IsCopyMended mid new missing extent content
    → IsCopyMended old new missing extent content
copy_from old mid new missing extent content before is = record {
  layout = is.layout;
  columns = is.columns;
  is_layout = is.is_layout;
  are_bytes = is.are_bytes;
  each = λ k. mended_at_from old mid new missing extent is.layout (all_columns is.columns) k before (is.each k);
}

place_later : (shapes : List VdevShape) (old mid new : Disks) (missing : List ℕ) (block : PointedBlock) (content : List ℕ) (place : Dva) → GoesOn mid new
    → IsPlaceMended shapes old mid missing block content place → IsPlaceMended shapes old new missing block content place
place_later shapes old mid new missing block content place later (extent, at, is) = (extent, at, copy_later old mid new missing extent content later is)

place_from : (shapes : List VdevShape) (old mid new : Disks) (missing : List ℕ) (block : PointedBlock) (content : List ℕ) (place : Dva) → GoesOn old mid
    → IsPlaceMended shapes mid new missing block content place → IsPlaceMended shapes old new missing block content place
place_from shapes old mid new missing block content place before (extent, at, is) = (extent, at, copy_from old mid new missing extent content before is)

pub places_later : (shapes : List VdevShape) (old mid new : Disks) (missing : List ℕ) (block : PointedBlock) (content : List ℕ) (places : List Dva) → GoesOn mid new
    → ArePlacesMended shapes old mid missing block content places → ArePlacesMended shapes old new missing block content places
places_later shapes old mid new missing block content [] later are = tt
places_later shapes old mid new missing block content (place ∷ places) later are = (
  place_later shapes old mid new missing block content place later are.0,
  places_later shapes old mid new missing block content places later are.1,
)

pub places_from : (shapes : List VdevShape) (old mid new : Disks) (missing : List ℕ) (block : PointedBlock) (content : List ℕ) (places : List Dva) → GoesOn old mid
    → ArePlacesMended shapes mid new missing block content places → ArePlacesMended shapes old new missing block content places
places_from shapes old mid new missing block content [] before are = tt
places_from shapes old mid new missing block content (place ∷ places) before are = (
  place_from shapes old mid new missing block content place before are.0,
  places_from shapes old mid new missing block content places before are.1,
)

joined_places : (shapes : List VdevShape) (old new : Disks) (missing : List ℕ) (block : PointedBlock) (content : List ℕ) (places : List Dva) (place : Dva)
    → ArePlacesMended shapes old new missing block content places → IsPlaceMended shapes old new missing block content place
    → ArePlacesMended shapes old new missing block content (places ++ place ∷ [])
joined_places shapes old new missing block content [] place are is = (is, tt)
joined_places shapes old new missing block content (first ∷ places) place are is =
    (are.0, joined_places shapes old new missing block content places place are.1 is)

-- one copy more
pub one_more_place : (shapes : List VdevShape) (old mid new : Disks) (missing : List ℕ) (block : PointedBlock) (content : List ℕ) (places : List Dva) (n : ℕ) (d : Dva)
    → n < length places → GoesOn old mid → GoesOn mid new → ArePlacesMended shapes old mid missing block content (take n places)
    → IsPlaceMended shapes mid new missing block content (get_or places n d) → ArePlacesMended shapes old new missing block content (take (n + 1) places)
one_more_place shapes old mid new missing block content places n d below before later are is =
    subst (λ (them : List Dva). ArePlacesMended shapes old new missing block content them) (sym (take_more places n d below))
    (joined_places shapes old new missing block content (take n places) (get_or places n d)
    (places_later shapes old mid new missing block content (take n places) later are)
    (place_from shapes old mid new missing block content (get_or places n d) before is))

-- the columns of a copy of bytes with the digest are right
pub right_repairs : (shapes : List VdevShape) (block : PointedBlock) (content : List ℕ) (places : List Dva) (n : ℕ) (d : Dva) (missing : List ℕ) (old new : Disks)
    → places ≡ dvas block.copies → n < length places → sha256 content ≡ block.checksum
    → Repairs (IsColumnOf shapes block (get_or places n d) content) missing old new → OnlyMends shapes (block ∷ []) missing old new
right_repairs shapes block content places n d missing old new copies below digest =
    repairs_wider (IsColumnOf shapes block (get_or places n d) content) (IsRightColumn shapes (block ∷ [])) missing old new
    (λ disk at bytes one. record {
      block = block;
      is_one = Contains-push [] block;
      i = n;
      extent = one.extent;
      is_copy = record {
        place = get_or places n d;
        is_copy = ap (λ (them : List Dva). slice_get them n) (sym copies) ∙ slice_get-get_or places n d below;
        extent_is = one.extent_is;
      };
      content = content;
      digest = digest;
      layout = one.layout;
      columns = one.columns;
      is_layout = one.is_layout;
      are_bytes = one.are_bytes;
      is_column = one.is_column;
    })

-- ---- a block

-- none of its copies could be read
pub unread_block : (shapes : List VdevShape) (old new : Disks) (missing : List ℕ) (block : PointedBlock) → AreUnread shapes old new missing block (dvas block.copies)
    → IsBlockMended shapes old new missing block
unread_block shapes old new missing block are = inr (record { first = old; last = new; before = goes_none old; after = goes_none new; unread = are })

pub ok_after : {T E : Type 0} (result : Result T E) (P Q : Type 0) → (P → Q) → OnOk result P → OnOk result Q
ok_after (Ok x) P Q more held = more held
ok_after (Err e) P Q more held = tt

pub block_mended : (shapes : List VdevShape) (old mid new : Disks) (missing : List ℕ) (block : PointedBlock) (content : List ℕ) (places : List Dva) → GoesOn old mid
    → places ≡ dvas block.copies → sha256 content ≡ block.checksum → ArePlacesMended shapes mid new missing block content places
    → IsBlockMended shapes old new missing block
block_mended shapes old mid new missing block content places before copies digest are = inl (
  content,
  digest,
  subst (λ (them : List Dva). ArePlacesMended shapes old new missing block content them) copies
      (places_from shapes old mid new missing block content places before are),
)

block_later : (shapes : List VdevShape) (old mid new : Disks) (missing : List ℕ) (block : PointedBlock) → GoesOn mid new → IsBlockMended shapes old mid missing block
    → IsBlockMended shapes old new missing block
block_later shapes old mid new missing block later is = elim is [
  | inl (content, digest, are) ↦ inl (content, digest, places_later shapes old mid new missing block content (dvas block.copies) later are)
  | inr none ↦ inr (record { first = none.first; last = none.last; before = none.before; after = goes_further none.last mid new none.after later; unread = none.unread })
]

block_from : (shapes : List VdevShape) (old mid new : Disks) (missing : List ℕ) (block : PointedBlock) → GoesOn old mid → IsBlockMended shapes mid new missing block
    → IsBlockMended shapes old new missing block
block_from shapes old mid new missing block before is = elim is [
  | inl (content, digest, are) ↦ inl (content, digest, places_from shapes old mid new missing block content (dvas block.copies) before are)
  | inr none ↦ inr (record { first = none.first; last = none.last; before = goes_further old mid none.first before none.before; after = none.after; unread = none.unread })
]

-- ---- blocks

pub blocks_later : (shapes : List VdevShape) (old mid new : Disks) (missing : List ℕ) (blocks : List PointedBlock) → GoesOn mid new
    → ((block : PointedBlock) → Contains blocks block → IsBlockMended shapes old mid missing block) → (block : PointedBlock) → Contains blocks block
    → IsBlockMended shapes old new missing block
blocks_later shapes old mid new missing blocks later are block held = block_later shapes old mid new missing block later (are block held)

pub one_more_block : (shapes : List VdevShape) (old mid new : Disks) (missing : List ℕ) (blocks : List PointedBlock) (n : ℕ) (d : PointedBlock) → n < length blocks
    → GoesOn old mid → GoesOn mid new → ((block : PointedBlock) → Contains (take n blocks) block → IsBlockMended shapes old mid missing block)
    → IsBlockMended shapes mid new missing (get_or blocks n d)
    → (block : PointedBlock) → Contains (take (n + 1) blocks) block → IsBlockMended shapes old new missing block
one_more_block shapes old mid new missing blocks n d below before later are is block held =
    elim (Contains-push_cases (take n blocks) (get_or blocks n d) block (subst (λ (them : List PointedBlock). Contains them block) (take_more blocks n d below) held)) [
      | inl earlier ↦ block_later shapes old mid new missing block later (are block earlier)
      | inr same ↦
          subst (λ (b : PointedBlock). IsBlockMended shapes old new missing b) same
          (block_from shapes old mid new missing (get_or blocks n d) before is)
    ]

-- what is right of one block is right of all of them
pub one_of : (shapes : List VdevShape) (block : PointedBlock) (blocks : List PointedBlock) (missing : List ℕ) (old new : Disks) → Contains blocks block
    → OnlyMends shapes (block ∷ []) missing old new → OnlyMends shapes blocks missing old new
one_of shapes block blocks missing old new held =
    repairs_wider (IsRightColumn shapes (block ∷ [])) (IsRightColumn shapes blocks) missing old new
    (λ disk at bytes one. record {
      block = one.block;
      is_one = elim (Contains-push_cases [] block one.block one.is_one) [
        | inl none ↦ absurd (omega (arith, none.1))
        | inr same ↦ subst (λ (b : PointedBlock). Contains blocks b) same held
      ];
      i = one.i;
      extent = one.extent;
      is_copy = one.is_copy;
      content = one.content;
      digest = one.digest;
      layout = one.layout;
      columns = one.columns;
      is_layout = one.is_layout;
      are_bytes = one.are_bytes;
      is_column = one.is_column;
    })

-- what writes nothing writes nothing wrong
pub none_written : (may : ℕ → ℕ → List ℕ → Type 0) (missing : List ℕ) (old new : Disks) → Repairs no_write missing old new → Repairs may missing old new
none_written may missing old new = repairs_wider no_write may missing old new (λ disk at bytes never. absurd never)

-- ---- flushes

-- what one flush does
pub record IsFlushedWell (old new : Disks) (missing : List ℕ) (disk : ℕ) (well : Bool) : Type 0 where
  pub repairs : Repairs no_write missing old new
  pub others : (other : ℕ) → other ≢ disk → calls_on other new.calls ≡ calls_on other old.calls
  pub flushed : ¬ Contains missing disk → well ≡ true → IsFlushed disk new.calls
  pub failed : well ≡ false → Contains (failed_since (length old.calls) new.calls) disk

pub flushed_well : (old new : Disks) (missing : List ℕ) (disk : ℕ) (well : Bool) → IsFlushTried old new missing disk well
    → IsFlushedWell old new missing disk well
flushed_well old new missing disk well one = elim one.outcome [
  | inl (there, went, calls) ↦ record {
    repairs = one_more_call no_write missing old old new disk Flushed (repairs_none no_write missing old) one.starts calls there tt tt;
    others = λ other apart. rw calls (calls_on-other disk other Flushed old.calls apart);
    flushed = λ _ _. (calls_on disk old.calls, rw calls (calls_on-same disk Flushed old.calls));
    failed = λ lost. absurd (cc);
  }
  | inr (inl (there, lost, calls)) ↦
      let made : JointCall = on disk FailedFlush in record {
        repairs = one_more_call no_write missing old old new disk FailedFlush (repairs_none no_write missing old) one.starts calls there tt tt;
        others = λ other apart. rw calls (calls_on-other disk other FailedFlush old.calls apart);
        flushed = λ _ went. absurd (cc);
        failed = λ _. subst (λ (c : List JointCall). Contains (failed_since (length old.calls) c) disk) (sym calls)
            (failed_since-new (length old.calls) made old.calls (omega arith) refl);
      }
  | inr (inr (gone, went, calls)) ↦ record {
    repairs = no_more_calls no_write missing old old new (repairs_none no_write missing old) one.starts calls;
    others = λ other apart. rw calls refl;
    flushed = λ there _. absurd (there gone);
    failed = λ lost. absurd (cc);
  }
]

same_or_before : (disk n : ℕ) → disk < n + 1 → (disk ≡ n) ⊎ ((disk < n) × (disk ≢ n))
same_or_before disk n below = grind arith

pub flushed_none : (old : Disks) (missing : List ℕ) → AreFlushedBelow old old missing [] 0
flushed_none old missing = record {
  flushed = λ disk below there kept. absurd (omega (arith, below));
  only = λ disk held. absurd (omega (arith, held.1));
}

-- one disk more, that is flushed
pub one_more_flushed : (old mid new : Disks) (missing failed : List ℕ) (n : ℕ) (well : Bool) → well ≡ true → GoesOn old mid
    → IsFlushedWell mid new missing n well → AreFlushedBelow old mid missing failed n → AreFlushedBelow old new missing failed (n + 1)
one_more_flushed old mid new missing failed n well went before is are = record {
  flushed = λ disk below there kept. elim (same_or_before disk n below) [
    | inl same ↦ subst (λ d. IsFlushed d new.calls) (sym same) (is.flushed (subst (λ d. ¬ Contains missing d) same there) went)
    | inr (earlier, apart) ↦
        let (calls, flushed) = are.flushed disk earlier there kept in
        (calls, is.others disk apart ∙ flushed)
  ];
  only = λ disk held. failed_later old mid new disk (goes_on no_write missing mid new is.repairs) (are.only disk held);
}

-- one disk more, whose flush failed
pub one_more_failed : (old mid new : Disks) (missing failed : List ℕ) (n : ℕ) (well : Bool) → well ≡ false → GoesOn old mid
    → IsFlushedWell mid new missing n well → AreFlushedBelow old mid missing failed n → AreFlushedBelow old new missing (failed ++ n ∷ []) (n + 1)
one_more_failed old mid new missing failed n well lost before is are = record {
  flushed = λ disk below there kept. elim (same_or_before disk n below) [
    | inl same ↦ absurd (kept (subst (λ d. Contains (failed ++ n ∷ []) d) (sym same) (Contains-push failed n)))
    | inr (earlier, apart) ↦
        let (calls, flushed) = are.flushed disk earlier there (λ held. kept (Contains-append_left failed (n ∷ []) disk held)) in
        (calls, is.others disk apart ∙ flushed)
  ];
  only = λ disk held. elim (Contains-push_cases failed n disk held) [
    | inl earlier ↦ failed_later old mid new disk (goes_on no_write missing mid new is.repairs) (are.only disk earlier)
    | inr same ↦ subst (λ d. Contains (failed_since (length old.calls) new.calls) d) same (failed_since_then old mid new n before (is.failed lost))
  ];
}

-- flushes after other calls
pub flushed_from : (old mid new : Disks) (missing failed : List ℕ) (n : ℕ) → GoesOn old mid → AreFlushedBelow mid new missing failed n
    → AreFlushedBelow old new missing failed n
flushed_from old mid new missing failed n before are = record {
  flushed = are.flushed;
  only = λ disk held. failed_since_then old mid new disk before (are.only disk held);
}
