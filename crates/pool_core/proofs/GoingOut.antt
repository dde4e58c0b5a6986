-- Disks that are taken out of use.
use Rattle.std.proofs.Common.{◌≡◌, Bool, true, false, List, [], ◌∷◌, ℕ, Some, None, refl, sym, ap, ◌∙◌, subst, inr, length}
use Rattle.std.specs.Prelude.{filter, not, ◌==◌, if◌then◌else◌}
use Rattle.model_disk.specs.Joint.{Disks, calls_on}
use Rattle.pool_model.specs.declared.refusal.Refusal.{Refusal as Cause}
use Rattle.pool_model.specs.declared.refusal.Refusal.TheVariants as causes
use Rattle.pool_model.specs.declared.step.Step.TheVariants.{DiskOut}
use Rattle.pool_model.specs.declared.step.Reply.TheVariants.{Out}
use Rattle.pool_model.specs.Flow.{flow_of}
use Rattle.pool_model.specs.Machine.{calls_without, dropped, gone_out, is_late_sync, without_disk}
use Rattle.pool_model.specs.Refusals.{first_cause, is_no_disk, refusal_of}
use Rattle.pool_model.specs.View.{View, Vdev, Given, Sync, Idle, Unplanned, Due, DueCall, nothing_given}
use Rattle.pool_model.proofs.Plans.{may_nothing}
use Rattle.pool_intake.proofs.Stepping.{followed}
use Rattle.pool_commit.specs.Absence.{TakesOut}
use Rattle.pool_commit.specs.Backs.{Backs}
use Rattle.pool_commit.specs.Calls.{made_between, faults_between, unread_between}
use Rattle.pool_commit.specs.State.{State}
use Rattle.pool_core.specs.Represents.{Represents}
use Rattle.pool_core.specs.State.{CoreState, disks_of}
use Rattle.pool_core.specs.Steps.{Goes, IsGiven}
use Rattle.pool_core.proofs.Fronting.{nothing_is_given}

-- groups, holds and pools stay
record StaysAside (v w : View) : Type 0 where
  flow : flow_of w ≡ flow_of v
  pools : w.pools ≡ v.pools
  first : w.first ≡ v.first

stays_aside : (v : View) (disk : ℕ) → StaysAside v (gone_out v disk)
stays_aside v disk = by_sync v.sync
  where
    by_late : (left : List DueCall) (late : Bool) → StaysAside (record v { sync = Due left })
        (if late then record (without_disk (record v { sync = Due left }) disk) { sync = calls_without (Due left) disk } else dropped (record v { sync = Due left }) disk)
    by_late left true = record { flow = refl; pools = refl; first = refl }
    by_late left false = record { flow = refl; pools = refl; first = refl }

    by_sync : (s : Sync) → StaysAside (record v { sync = s }) (gone_out (record v { sync = s }) disk)
    by_sync Idle = record { flow = refl; pools = refl; first = refl }
    by_sync Unplanned = record { flow = refl; pools = refl; first = refl }
    by_sync (Due left) = by_late left (is_late_sync (Due left))

-- there is no such disk
pub no_disk : (v : View) (disk : ℕ) (has : Bool) → has ≡ not (is_no_disk v disk) → has ≡ false → refusal_of v (DiskOut disk) ≡ Some causes.OutOfRange
no_disk v disk has is none = ap (λ b. first_cause ((b, causes.OutOfRange) ∷ (v.out disk, causes.NotNow) ∷ [])) (turned (is_no_disk v disk) (sym is ∙ none))
  where
    turned : (b : Bool) → not b ≡ false → b ≡ true
    turned true e = refl
    turned false e = sym e

-- it is out already
pub out_already : (v : View) (disk : ℕ) → is_no_disk v disk ≡ false → v.out disk ≡ true → refusal_of v (DiskOut disk) ≡ Some causes.NotNow
out_already v disk there out = (λ i. first_cause ((there i, causes.OutOfRange) ∷ (out i, causes.NotNow) ∷ []))

-- nothing speaks against it
pub may_go : (v : View) (disk : ℕ) → is_no_disk v disk ≡ false → v.out disk ≡ false → refusal_of v (DiskOut disk) ≡ None
may_go v disk there out = (λ i. first_cause ((there i, causes.OutOfRange) ∷ (out i, causes.NotNow) ∷ []))

pub is_there : (v : View) (disk : ℕ) (has : Bool) → has ≡ not (is_no_disk v disk) → has ≡ true → is_no_disk v disk ≡ false
is_there v disk has is there = turned (is_no_disk v disk) (sym is ∙ there)
  where
    turned : (b : Bool) → not b ≡ true → b ≡ false
    turned true e = sym e
    turned false e = refl

-- the disk goes out, and no disk is called
pub goes_out : (s : CoreState) (commit : State) (v : View) (trusted : Bool) (disk : ℕ) → Represents s v → TakesOut disk s.commit commit → Backs commit (gone_out v disk)
    → is_no_disk v disk ≡ false → v.out disk ≡ false → Goes s v trusted (DiskOut disk) Out (record s { commit = commit })
goes_out s commit v trusted disk r takes backs there out = record {
  given = nothing_given;
  trust = λ e. refl;
  after = gone_out v disk;
  link = record {
    is_given = record {
      made = subst (λ (d : Disks). [] ≡ made_between (disks_of s) d) (sym takes.disks) none.made;
      fault = subst (λ (d : Disks). [] ≡ faults_between (disks_of s) d) (sym takes.disks) none.fault;
      unread = subst (λ (d : Disks). [] ≡ unread_between (disks_of s) d) (sym takes.disks) none.unread;
      lost = λ vdev e. absurd (cc);
      full = none.full;
    };
    is_step = inr (inr (record { none = may_go v disk there out; answered = refl; calls = may_nothing (DiskOut disk) }));
    represents = record { follows = followed s.intake v (gone_out v disk) r.follows aside.flow aside.pools aside.first; backs = backs };
    flushed = tt;
    shown = tt;
    untouched = λ other away. ap (λ (d : Disks). calls_on other d.calls) takes.disks;
    only = tt;
  };
}
  where
    aside : StaysAside v (gone_out v disk)
    aside = stays_aside v disk

    none : IsGiven s v (DiskOut disk) s nothing_given
    none = nothing_is_given s v (DiskOut disk) s.intake
