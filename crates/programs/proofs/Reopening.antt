-- What a reopening comes to.
use Rattle.std.proofs.Common.{◌≡◌, ◌⊎◌, inl, inr, List, Some, None, refl, sym, ap, ◌∙◌, subst}
use Rattle.model_disk.specs.contracts.memory.MemDiskDisk.TheImpl.{ghosts}
use Rattle.model_disk.specs.declared.memory.MemDisk.{MemDisk}
use Rattle.pool_create.specs.CoreState.{CoreState}
use Rattle.pool_create.specs.Opens.{IsOpened, OpenRefuses, refusal_of}
use Rattle.pool_create.specs.NotOpened.{NotOpened}
use Rattle.pool_create.specs.OpenRefusal.{Refusal}
use Rattle.schedule_lines.specs.declared.command.ReopenLine.{ReopenLine}
use Rattle.uberblock_ring.specs.declared.uberblock.Uberblock.{Uberblock}
use Rattle.programs.specs.DisksKept.{AreCopies, present}
use Rattle.programs.specs.OnDisks.{Closes, GoesOn, KeepsClaim, Opens, PoolState, Reopens, StopsInClaim, claim_stop}
use Rattle.programs.specs.declared.outcome.Outcome.{Outcome}
use Rattle.programs.specs.declared.outcome.Outcome.TheVariants.{Unopened}
use Rattle.programs.proofs.StatesOf.{state_with}

-- the core is dropped, and copies are made of the disks in use
pub record AreHandedIn (old : PoolState) (line : ReopenLine) (before : PoolState) (copies : List MemDisk) : Type 0 where
  pub none : before.core ≡ None
  pub closes : Closes old.core old.disks before.disks
  pub absent : before.absent ≡ line.absent
  pub stop : before.stop ≡ old.stop
  pub copied : AreCopies (present before.absent before.disks) copies

pub reopened : (old before new : PoolState) (line : ReopenLine) (copies : List MemDisk) (core : CoreState) (claimed : Uberblock) (outcome : Outcome) → AreHandedIn old line before copies
    → IsOpened ghosts copies line.rewind claimed core → GoesOn before core claimed line.rewind outcome new → Reopens old line outcome new ⊎ StopsInClaim old line outcome new
reopened old before new line copies core claimed outcome are opened (inl free) = inl (record {
  disks = before.disks;
  closes = are.closes;
  copies = copies;
  copied = subst (λ out. AreCopies (present out before.disks) copies) are.absent are.copied;
  core = Some core;
  opens = subst (λ o. Opens copies line.rewind o (Some core)) (sym free.1) (core, refl, claimed, opened, refl, refl);
  endless = inr (ap claim_stop (sym are.stop) ∙ free.0);
  same = free.2 ∙ (λ i. state_with (Some core) before.disks (are.absent i) (are.stop i));
})
reopened old before new line copies core claimed outcome are opened (inr stops) = inr (record {
  disks = before.disks;
  closes = are.closes;
  copies = copies;
  copied = subst (λ out. AreCopies (present out before.disks) copies) are.absent are.copied;
  core = core;
  claimed = claimed;
  opens = opened;
  reached = stops.0;
  set = ap claim_stop (sym are.stop) ∙ stops.1;
  keeps = subst (λ b. KeepsClaim b stops.0 line.rewind outcome new) (λ i. state_with (are.none i) before.disks (are.absent i) (are.stop i)) stops.2;
})

pub unopened : (old before : PoolState) (line : ReopenLine) (copies : List MemDisk) (failed : NotOpened MemDisk) (refusal : Refusal) → AreHandedIn old line before copies
    → refusal ≡ refusal_of failed → OpenRefuses ghosts copies line.rewind failed → Reopens old line (Unopened refusal) before
unopened old before line copies failed refusal are same refused = record {
  disks = before.disks;
  closes = are.closes;
  copies = copies;
  copied = subst (λ out. AreCopies (present out before.disks) copies) are.absent are.copied;
  core = None;
  opens = (refl, failed, same, refused);
  endless = inl refl;
  same = λ i. state_with (are.none i) before.disks (are.absent i) (are.stop i);
}
