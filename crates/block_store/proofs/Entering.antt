-- The group of a plan.
use Rattle.std.proofs.Common.{ℕ, ◌≡◌, ◌≤◌, Contains, sym, ap, subst}
use Rattle.model_disk.specs.Joint.{Disks, content}
use Rattle.raidz_io.proofs.Kept.{stands_while_kept, more_absent}
use Rattle.block_store.specs.Places.{shapes_of}
use Rattle.block_store.specs.Plans.{KeepsPlans}
use Rattle.block_store.specs.Store.{Store, Keeps, in_group, outs_from}
use Rattle.block_store.proofs.Kept.{IsKept, keeps_plans}
use Rattle.block_store.proofs.Lost.{lose_in}
use Rattle.block_store.proofs.Planning.{holds_by}

pub entered : (old new : Store) (group : ℕ) → new.disks ≡ old.disks → new.out ≡ old.out → new.spaces ≡ old.spaces → new.spans ≡ in_group old.spans group
    → Keeps old new
entered old new group disks out spaces spans = holds_by old new disks (lose_in old new group out spans) (ap shapes_of spaces)

pub entered_plans : (old new : Store) (group : ℕ) → new.disks ≡ old.disks → new.out ≡ old.out → new.spaces ≡ old.spaces → new.due ≡ old.due
    → new.stray ≡ old.stray → new.spans ≡ in_group old.spans group → new.spans.group ≤ old.spans.group → KeepsPlans old new
entered_plans old new group disks out spaces due stray spans le =
    let kept : IsKept old new = record {
      spaces = spaces;
      due = due;
      stray = stray;
      contents = λ disk i for. ap (λ (d : Disks). content d disk i) disks;
      more_out = λ disk held. subst (λ flags. Contains (outs_from 0 flags) disk) (sym out) held;
      more_lost = lose_in old new group out spans;
      group = le;
    } in keeps_plans stands_while_kept more_absent old new kept

pub keeps_through : (old mid new : Store) → Keeps old mid → Keeps mid new → Keeps old new
keeps_through old mid new before after stored holds = after stored (before stored holds)

pub plans_through : (old mid new : Store) → KeepsPlans old mid → KeepsPlans mid new → KeepsPlans old new
plans_through old mid new before after stored planned plans = after stored planned (before stored planned plans)
