-- What a run of the machine is, in words of what was accepted, committed and read.
use Rattle.std.specs.Prelude.{◌≡◌, ◌⊎◌, ℕ, suc, ◌+◌, ◌≤◌, ◌||◌, ◌==◌, List, [], ◌∷◌, length, Bool, true, Some, None, nat_le, if◌then◌else◌}
use Rattle.pool_model.specs.declared.refusal.Refusal.TheVariants.{NoMemory}
use Rattle.pool_model.specs.declared.step.Step.{Step}
use Rattle.pool_model.specs.declared.step.Step.TheVariants.{Device, DiskOut, Read, ReadUnder}
use Rattle.pool_model.specs.declared.step.Reply.{Reply}
use Rattle.pool_model.specs.declared.step.Reply.TheVariants.{Closed, Out, Bytes, Refused}
use Rattle.pool_model.specs.Pools.{PlainPool, Ledger, upto}
use Rattle.pool_model.specs.View.{View, Given, open_group, is_fault_on}
use Rattle.pool_model.specs.Refusals.{refusal_of}
use Rattle.pool_model.specs.Machine.{AreBytesOf, MayAnswer, MayLack, StepOf}
use Rattle.pool_model.specs.Sound.{IsSound}
use Rattle.pool_model.specs.Flow.{flow_of}
use Rattle.pool_model.specs.Accepted.{with_item, ledger_with, CountsFrom, OnceInOrder}
use Rattle.pool_model.specs.Groups.{counters_of, AreInOrder, GroupsMove, commits}

-- ---- pools and reads

-- the pool of group n, from the pools that were committed as the run began and what was accepted by its end
abbrev pub pool_by : View → Ledger → ℕ → PlainPool
pool_by v ledger n = if nat_le n v.committed then v.pools n else upto v.committed (v.pools v.committed) ledger n

-- each read under a group gave the bytes of that group's pool, where the disks' answers are known to be true
abbrev pub ReadsUnder : (ℕ → PlainPool) → List Step → List Given → List Reply → Type 0
ReadsUnder pool (ReadUnder group name offset len ∷ steps) (given ∷ givens) (Bytes bytes ∷ replies) = (given.trusted ≡ true → AreBytesOf (pool group) name offset len bytes) × ReadsUnder pool steps givens replies
ReadsUnder pool (step ∷ steps) (given ∷ givens) (reply ∷ replies) = ReadsUnder pool steps givens replies
ReadsUnder pool [] [] [] = Unit {0}
ReadsUnder pool steps givens replies = ⊥

-- the open group after a reply
abbrev pub open_then : ℕ → Reply → ℕ
open_then group (Closed closed) = suc group
open_then group reply = group

-- each read gave the bytes of the pool after all that was accepted before it, where the disks' answers are known to be
-- true: `pool` is that of group c, and the ledger has what is accepted so far
abbrev pub ReadsNow : ℕ → PlainPool → Ledger → ℕ → List Step → List Given → List Reply → Type 0
ReadsNow c pool ledger opened (Read name offset len ∷ steps) (given ∷ givens) (Bytes bytes ∷ replies) = (given.trusted ≡ true → AreBytesOf (upto c pool ledger opened) name offset len bytes) × ReadsNow c pool ledger opened steps givens replies
ReadsNow c pool ledger opened (step ∷ steps) (given ∷ givens) (reply ∷ replies) = ReadsNow c pool (ledger_with ledger (with_item step reply [])) (open_then opened reply) steps givens replies
ReadsNow c pool ledger opened [] [] [] = Unit {0}
ReadsNow c pool ledger opened steps givens replies = ⊥

-- ---- refusals

-- a refusal names the first cause; or it is want of memory, in a step that takes some; or, where the view has no cause,
-- what was given is one. Any other reply is given only where there is no cause.
abbrev pub IsRightlyAnswered : View → Given → Step → Reply → View → Type 0
IsRightlyAnswered v given step (Refused cause) w = ((refusal_of v step ≡ Some cause) × (w ≡ v)) ⊎ (((cause ≡ NoMemory) × MayLack v step) ⊎ ((refusal_of v step ≡ None) × MayAnswer v given step (Refused cause) w))
IsRightlyAnswered v given step reply w = refusal_of v step ≡ None

-- so it is at each step, on the views of the run, from the first to the last
abbrev pub RightlyAnswered : View → List Step → List Given → List Reply → View → Type 0
RightlyAnswered v [] [] [] w = w ≡ v
RightlyAnswered v (step ∷ steps) (given ∷ givens) (reply ∷ replies) w = (mid : View) × StepOf v given step reply mid × IsRightlyAnswered v given step reply mid × RightlyAnswered mid steps givens replies w
RightlyAnswered v steps givens replies w = ⊥

-- ---- disks that are out

-- a disk goes out by a write or flush of a Device step that fails, and by DiskOut, and by nothing else
abbrev pub OutsBy : (ℕ → Bool) → Step → Given → Reply → (ℕ → Bool) → Type 0
OutsBy out Device given reply after = (disk : ℕ) → after disk ≡ (is_fault_on given.fault disk || out disk)
OutsBy out (DiskOut gone) given Out after = (disk : ℕ) → after disk ≡ ((disk == gone) || out disk)
OutsBy out step given reply after = (disk : ℕ) → after disk ≡ out disk

-- a run's steps change which disks are out from `out` to `after`, each as OutsBy says
abbrev pub OutsMove : (ℕ → Bool) → List Step → List Given → List Reply → (ℕ → Bool) → Type 0
OutsMove out [] [] [] after = (disk : ℕ) → after disk ≡ out disk
OutsMove out (step ∷ steps) (given ∷ givens) (reply ∷ replies) after = (mid : ℕ → Bool) × OutsBy out step given reply mid × OutsMove mid steps givens replies after
OutsMove out steps givens replies after = ⊥

-- ---- the whole

-- what a run from v to w tells
pub record Headline (v : View) (steps : List Step) (givens : List Given) (replies : List Reply) (w : View) : Type 0 where
  -- each item with a receipt stands once, in order and for good in its group
  pub once : OnceInOrder (flow_of v) steps replies (flow_of w)
  -- groups move as stated, and those committed are the next ones in order, none left out
  pub moves : GroupsMove (counters_of v) steps replies (counters_of w)
  pub in_order : AreInOrder (counters_of w)
  pub commit_order : CountsFrom (suc v.committed) (commits replies)
  pub committed : w.committed ≡ v.committed + length (commits replies)
  -- a committed group's pool is the one that it had, or is made by all that was accepted up to it
  pub pools : (group : ℕ) → group ≤ w.committed → w.pools group ≡ pool_by v w.ledger group
  pub reads_under : ReadsUnder (pool_by v w.ledger) steps givens replies
  pub reads_now : ReadsNow v.committed (v.pools v.committed) v.ledger (open_group v) steps givens replies
  -- each refusal has its cause, and nothing without a cause is refused
  pub refusals : RightlyAnswered v steps givens replies w
  -- a disk goes out by a failed write or flush of a Device step, or by DiskOut, and by nothing else
  pub outs : OutsMove v.out steps givens replies w.out
  -- whether commits end in slots never changes
  pub slots : w.slots ≡ v.slots
  pub sound : IsSound w
