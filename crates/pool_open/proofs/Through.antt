-- Moments of an open of disks that are in order.
use Rattle.std.proofs.Common.{◌≡◌, inl, ℕ, Bool, List, [], ◌∷◌, length, All}
use Rattle.std.proofs.lemmas.List.Elements.{All-nil, All-cons}
use Rattle.model_disk.specs.Call.{Call, Read, FailedRead, Wrote, FailedWrite, Flushed, FailedFlush}
use Rattle.model_disk.specs.Joint.{JointCall, Disks}
use Rattle.model_disk.specs.Runs.{Makes, WritesOnly, no_write}
use Rattle.raidz_io.specs.Reads.{IsRead, AreReads, OnlyReads, IsHonestSince}
use Rattle.pool_slots.specs.Surveys.{Surveyed, IsSurveyed}
use Rattle.pool_slots.proofs.Finding.{honest_before, honest_since}
use Rattle.pool_slots.proofs.OpenSteps.{leads_before}
use Rattle.pool_slots.proofs.Opened.{marks_before}
use Rattle.pool_slots.proofs.Phases.{both_made}
use Rattle.pool_slots.proofs.ReadRuns.{reads_made}
use Rattle.pool_slots.proofs.Reading.{longer}
use Rattle.pool_slots.proofs.Used.{are_there}
use Rattle.pool_open.specs.Opening.{AreReadThrough, IsKeptThrough}

-- ---- reads write nothing

no_write_call : (may : ℕ → List ℕ → Type 0) (call : Call) → IsRead call → WritesOnly may call
no_write_call may (Read at bytes) is = tt
no_write_call may (FailedRead at n) is = tt
no_write_call may (Wrote at bytes) is = absurd is
no_write_call may (FailedWrite at bytes) is = absurd is
no_write_call may Flushed is = absurd is
no_write_call may FailedFlush is = absurd is

no_write_calls : (newer : List JointCall) → AreReads newer → All (λ made. WritesOnly (no_write made.which) made.call) newer
no_write_calls [] are = All-nil (λ made. WritesOnly (no_write made.which) made.call)
no_write_calls (made ∷ earlier) are =
    All-cons (λ (it : JointCall). WritesOnly (no_write it.which) it.call) made earlier (no_write_call (no_write made.which) made.call are.0) (no_write_calls earlier are.1)

pub block_reads_made : (old new : Disks) → OnlyReads old new → Makes no_write old new
block_reads_made old new run = record { starts = run.starts; newer = run.newer; calls = run.calls; writes = no_write_calls run.newer run.are_reads }

pub through_made : (out later : List Bool) (old new : Disks) → AreReadThrough out later old new → Makes no_write old new
through_made out later old new it =
    both_made no_write old it.surveyed new (reads_made it.absent.only) (block_reads_made it.surveyed new it.blocks.only)

-- ---- so all is kept

pub kept_by_reads : (out later : List Bool) (rewind : ℕ) (old new : Disks) → AreReadThrough out later old new → length later ≡ length old.starts
    → IsKeptThrough later rewind old new
kept_by_reads out later rewind old new it count =
    let makes = through_made out later old new it in
    let there = are_there later old.starts count in
    record {
      leads = λ trees p can honest. inl (leads_before trees later old new p there can makes);
      marks = λ trees p claim can marked honest. marks_before trees later rewind old new p claim there can marked makes;
      configures = λ known settled four honest. inl makes;
      rewrites = λ known honest. inl makes;
    }

-- ---- what was surveyed still is

pub surveyed_still : (out : List Bool) (rewind : ℕ) (old mid new : Disks) (s : Surveyed) → IsSurveyed out rewind old mid s → Makes no_write mid new
    → IsSurveyed out rewind old new s
surveyed_still out rewind old mid new s it makes =
    record {
      unwritten = both_made no_write old mid new it.unwritten makes;
      says = λ known honest. it.says known (honest_before (length old.calls) no_write mid new makes honest);
    }

-- ---- honest answers

-- of a run in three parts the middle one is honest where all are
pub honest_within : (may : ℕ → ℕ → List ℕ → Type 0) (old mid read new : Disks) → Makes no_write old mid → Makes may read new → IsHonestSince old new → IsHonestSince mid read
honest_within may old mid read new first last honest =
    honest_since (length old.calls) (length mid.calls) read (longer old mid no_write first) (honest_before (length old.calls) may read new last honest)
