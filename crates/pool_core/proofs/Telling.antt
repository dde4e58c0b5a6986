-- What the disks answered, in the parts of a run.
use Rattle.std.proofs.Common.{ℕ, ◌≡◌, inl, inr, [], Contains, refl, ap}
use Rattle.raidz_io.specs.Reads.{OnlyReads, IsHonestSince}
use Rattle.block_store.specs.Places.{shapes_of}
use Rattle.block_store.specs.Steps.{AnswersTell, StaysLost}
use Rattle.block_store.specs.Store.{Store, outs}
use Rattle.block_store.proofs.Outs.{in_is_out, more_out, out_is_in}
use Rattle.block_store.proofs.Telling.{lost_same, tell_between}
use Rattle.pool_model.specs.declared.step.Step.{Step}
use Rattle.pool_model.specs.declared.step.Step.TheVariants as steps
use Rattle.pool_commit.specs.Calls.{GrewTo}
use Rattle.pool_commit.specs.Reading.{OnlyReadsPool, PoolAnswersTell}
use Rattle.pool_commit.specs.State.{State}
use Rattle.pool_commit.specs.Writing.{PlansFrom}
use Rattle.pool_commit.proofs.Growing.{true_after, true_before}
use Rattle.pool_commit.proofs.Made.{GrewTo-none}
use Rattle.pool_core.specs.Moves.{Moves}
use Rattle.pool_core.specs.State.{CoreState, disks_of}
use Rattle.pool_core.specs.Steps.{AnswersTellThroughout, CameFrom}

-- ---- what was lost stays lost

same_loss : (old new : State) → new ≡ old → StaysLost old.store new.store
same_loss old new same =
    lost_same old.store new.store (ap (λ (s : State). shapes_of s.store.spaces) same) (ap (λ (s : State). s.store.out) same) (ap (λ (s : State). s.store.spans.stale) same)

reads_lose_none : (old new : State) → OnlyReadsPool old new [] → StaysLost old.store new.store
reads_lose_none old new reads =
    lost_same old.store new.store (ap (λ (s : State). shapes_of s.store.spaces) reads.rest) (ap (λ (s : State). s.store.out) reads.rest)
    (ap (λ (s : State). s.store.spans.stale) reads.rest)

plans_lose_none : (old new : State) → PlansFrom old new → StaysLost old.store new.store
plans_lose_none old new plans = lost_same old.store new.store plans.shapes plans.out plans.stale

-- more disks are out, and the same were missed
outs_more : (old new : Store) → shapes_of new.spaces ≡ shapes_of old.spaces → ((disk : ℕ) → Contains (outs old) disk → Contains (outs new) disk)
    → new.spans.stale ≡ old.spans.stale → StaysLost old new
outs_more old new shapes out stale = record { shapes = shapes; out = out; stale = (lost_same old (record old { spans = new.spans }) refl refl stale).stale }

still_lost : (step : Step) (old new : State) → Moves step old new → StaysLost old.store new.store
still_lost (steps.Hold writer) old new moves = same_loss old new moves
still_lost (steps.Write write) old new moves = same_loss old new moves
still_lost (steps.Act action) old new moves = same_loss old new moves
still_lost (steps.Release writer) old new moves = same_loss old new moves
still_lost steps.Close old new moves = same_loss old new moves
still_lost steps.Quiesce old new moves = same_loss old new moves
still_lost (steps.Plan timestamp) old new moves = elim moves [
  | inl same ↦ same_loss old new same
  | inr plans ↦ plans_lose_none old new plans.from
]
still_lost steps.Device old new moves = elim moves [
  | inl same ↦ same_loss old new same
  | inr writes ↦ outs_more old.store new.store writes.shapes
      (λ disk held. out_is_in new.store disk (writes.out.still disk (in_is_out old.store disk held))) writes.stale
]
still_lost (steps.DiskOut disk) old new moves = elim moves [
  | inl same ↦ same_loss old new same
  | inr takes ↦ outs_more old.store new.store takes.shapes (more_out old.store new.store disk takes.out) takes.stale
]
still_lost (steps.Read name offset len) old new moves = reads_lose_none old new moves
still_lost (steps.ReadUnder group name offset len) old new moves = reads_lose_none old new moves

-- ---- states that come from each other

pub came_by : (step : Step) (old new : CoreState) → GrewTo (disks_of old) (disks_of new) → Moves step old.commit new.commit → CameFrom old new
came_by step old new grew moves = record { grew = grew; lost = still_lost step old.commit new.commit moves }

-- ---- where answers tell throughout

-- in a step that only reads
only_reads : (old new : CoreState) → OnlyReads (disks_of old) (disks_of new) → StaysLost old.commit.store new.commit.store → AnswersTellThroughout old new
    → PoolAnswersTell old.commit new.commit []
only_reads old new reads lost tell =
    tell_between (record new.commit.store { disks = disks_of old }) (record new.commit.store { disks = disks_of new }) old.commit.store new.commit.store [] refl refl
    (record { shapes = lost.shapes; out = lost.out; stale = lost.stale })
    (tell (disks_of old) (disks_of new) (record { before = GrewTo-none (disks_of old); reads = reads; after = GrewTo-none (disks_of new) }))

pub tell_read : (old new : CoreState) → OnlyReadsPool old.commit new.commit [] → AnswersTellThroughout old new → PoolAnswersTell old.commit new.commit []
tell_read old new reads = only_reads old new reads.reads (reads_lose_none old.commit new.commit reads)

pub tell_plan : (old new : CoreState) → OnlyReads (disks_of old) (disks_of new) → PlansFrom old.commit new.commit → AnswersTellThroughout old new
    → PoolAnswersTell old.commit new.commit []
tell_plan old new reads plans = only_reads old new reads (plans_lose_none old.commit new.commit plans)

-- true answers tell
pub truth_tells : (old new : CoreState) → IsHonestSince (disks_of old) (disks_of new) → AnswersTellThroughout old new
truth_tells old new honest from to part =
    inl (true_after (disks_of old) from to part.before (true_before (disks_of old) to (disks_of new) part.after honest))
