use Rattle.std.proofs.Common.{◌≡◌, ap, Option, None, Some, refl, sym, ◌∙◌, subst}
use Rattle.model_disk.specs.Joint.{Disks}
use Rattle.block_store.specs.Places.{shapes_of}
use Rattle.pool_model.specs.Machine.{gone_out}
use Rattle.pool_model.specs.View.{View}
use Rattle.pool_commit.specs.declared.kept.Planned.{Planned}
use Rattle.pool_commit.specs.Absence.{LeavesPlan}
use Rattle.pool_commit.specs.Backs.{Backs}
use Rattle.pool_commit.specs.Calls.{GrewTo}
use Rattle.pool_commit.specs.Progress.{with_plan}
use Rattle.pool_commit.specs.State.{State}
use Rattle.pool_commit.specs.StateOf.{state_of}
use Rattle.pool_commit.proofs.GoingOut.{leaves_backs, leaves_takes, unplanned_backs}
use Rattle.pool_commit.proofs.Made.{GrewTo-none, gone_stale}
use Rattle.pool_commit.proofs.commit.Commit.take_out.Goals as goal

with_it : (s : State) (plan : Planned) (v : View) → Some plan ≡ s.planned → Backs s v → Backs (record s { planned = Some plan }) v
with_it s plan v is backs = subst (λ (o : Option Planned). Backs (record s { planned = o }) v) (sym is) backs

pub returns-in-Some-clause-takes : goal.returns-in-Some-clause-takes
returns-in-Some-clause-takes g c =
    let s : State = state_of c.args.self.now in
    leaves_takes s c.put_out.new.self c.in-Some.planned c.args.disk (state_of c.leave_out.new.self) (sym c.in-Some.is ∙ c.take.ensures.value) c.put_out.ensures.disks
    c.put_out.ensures.spaces (gone_stale c.args.self.now.store c.args.disk c.put_out.new.self c.put_out.ensures.gone) c.put_out.ensures.out
    (subst (λ (o : Option Planned). LeavesPlan c.args.disk (record s { store = c.put_out.new.self; planned = o }) c.in-Some.planned (state_of c.leave_out.new.self))
    c.take.ensures.after c.leave_out.ensures)

pub returns-in-Some-clause-backs : goal.returns-in-Some-clause-backs
returns-in-Some-clause-backs g c v backs =
    let s : State = record (state_of c.args.self.now) { planned = None } in
    leaves_backs s c.put_out.new.self c.in-Some.planned v c.args.disk (state_of c.leave_out.new.self)
    (with_it (state_of c.args.self.now) c.in-Some.planned v (sym c.in-Some.is ∙ c.take.ensures.value) backs) refl
    (record {
      spaces = c.put_out.ensures.spaces;
      grew = subst (λ (d : Disks). GrewTo c.args.self.now.store.disks d) (sym c.put_out.ensures.disks) (GrewTo-none c.args.self.now.store.disks);
      stale = gone_stale c.args.self.now.store c.args.disk c.put_out.new.self c.put_out.ensures.gone;
      plans = c.put_out.ensures.plans;
    })
    c.put_out.ensures.disks c.put_out.ensures.due c.put_out.ensures.out
    (subst (λ (o : Option Planned). LeavesPlan c.args.disk (record s { store = c.put_out.new.self; planned = o }) c.in-Some.planned (state_of c.leave_out.new.self))
    c.take.ensures.after c.leave_out.ensures)

pub returns-in_default-clause-takes : goal.returns-in_default-clause-takes
returns-in_default-clause-takes g c = record {
  disks = c.put_out.ensures.disks;
  out = c.put_out.ensures.out;
  stale = gone_stale c.args.self.now.store c.args.disk c.put_out.new.self c.put_out.ensures.gone;
  shapes = ap shapes_of c.put_out.ensures.spaces;
  kept = refl;
  stamp = refl;
  plan = λ later is. absurd (let no : None ≡ Some later = sym c.take.ensures.after ∙ is in cc);
}

pub returns-in_default-clause-backs : goal.returns-in_default-clause-backs
returns-in_default-clause-backs g c v backs =
    let s : State = state_of c.args.self.now in
    let none : s.planned ≡ None = sym c.take.ensures.value ∙ c.in_default.is in
    subst (λ (o : Option Planned). Backs (record s { store = c.put_out.new.self; planned = o }) (gone_out v c.args.disk)) (none ∙ sym c.take.ensures.after)
    (unplanned_backs s c.put_out.new.self v c.args.disk backs none
    (record {
      spaces = c.put_out.ensures.spaces;
      grew = subst (λ (d : Disks). GrewTo c.args.self.now.store.disks d) (sym c.put_out.ensures.disks) (GrewTo-none c.args.self.now.store.disks);
      stale = gone_stale c.args.self.now.store c.args.disk c.put_out.new.self c.put_out.ensures.gone;
      plans = c.put_out.ensures.plans;
    })
    c.put_out.ensures.out)
