use Rattle.std.proofs.Common.{◌≡◌, Option, Some, sym, ap, ◌∙◌, subst}
use Rattle.pool_model.specs.View.{View, is_planned}
use Rattle.pool_commit.specs.declared.kept.Planned.{Planned}
use Rattle.pool_commit.specs.Backs.{Backs}
use Rattle.pool_commit.specs.declared.device.Progress.{Progress}
use Rattle.pool_commit.specs.Progress.{Progresses, with_plan}
use Rattle.pool_commit.specs.State.{State}
use Rattle.pool_commit.specs.StateOf.{state_of}
use Rattle.pool_commit.specs.Writing.{WritesPlan}
use Rattle.pool_commit.proofs.commit.Commit.device.Goals as goal

pub write-requires-clause-there : goal.write-requires-clause-there
write-requires-clause-there g c plan is = c.args.self.now.disks plan (sym c.in_ok-planned.ensures.value ∙ is)

pub flush-requires-clause-there : goal.flush-requires-clause-there
flush-requires-clause-there g c plan is = c.args.self.now.disks plan (sym c.in_ok-planned.ensures.value ∙ is)

pub write_slots-requires-clause-there : goal.write_slots-requires-clause-there
write_slots-requires-clause-there g c plan is = c.args.self.now.disks plan (sym c.in_ok-planned.ensures.value ∙ is)

pub flush_slots-requires-clause-there : goal.flush_slots-requires-clause-there
flush_slots-requires-clause-there g c plan is = c.args.self.now.disks plan (sym c.in_ok-planned.ensures.value ∙ is)

with_it : (s : State) (plan : Planned) (v : View) → Some plan ≡ s.planned → Backs s v → Backs (with_plan s plan) v
with_it s plan v is backs = subst (λ (o : Option Planned). Backs (record s { planned = o }) v) (sym is) backs

-- so it is with the progress of the plan that was taken
its_progress : (s : State) (plan : Planned) → Some plan ≡ s.planned → (progress : Progress) (new : State) (v : View) → Progresses (with_plan s plan) progress new v
    → Progresses s progress new v
its_progress s plan is progress new v goes = subst (λ (o : Option Planned). Progresses (record s { planned = o }) progress new v) is goes

pub returns-then-due_count-gt0-clause-some : goal.returns-then-due_count-gt0-clause-some
returns-then-due_count-gt0-clause-some g c v backs low =
    let with_one = with_it (state_of c.args.self.now) c.in_ok-planned.planned v c.in_ok-planned.ensures.value backs in
    (ap is_planned with_one.blocks.plan.sync, its_progress (state_of c.args.self.now) c.in_ok-planned.planned c.in_ok-planned.ensures.value c.write.result (state_of c.write.new.self) v (c.write.ensures.goes v with_one low))

pub returns-then-not-is_empty-clause-some : goal.returns-then-not-is_empty-clause-some
returns-then-not-is_empty-clause-some g c v backs low =
    let with_one = with_it (state_of c.args.self.now) c.in_ok-planned.planned v c.in_ok-planned.ensures.value backs in
    (ap is_planned with_one.blocks.plan.sync, its_progress (state_of c.args.self.now) c.in_ok-planned.planned c.in_ok-planned.ensures.value c.flush.result (state_of c.flush.new.self) v (c.flush.ensures.goes v with_one low))

pub returns-then-not-is_empty-2-clause-some : goal.returns-then-not-is_empty-2-clause-some
returns-then-not-is_empty-2-clause-some g c v backs low =
    let with_one = with_it (state_of c.args.self.now) c.in_ok-planned.planned v c.in_ok-planned.ensures.value backs in
    (ap is_planned with_one.blocks.plan.sync, its_progress (state_of c.args.self.now) c.in_ok-planned.planned c.in_ok-planned.ensures.value c.write_slots.result (state_of c.write_slots.new.self) v (c.write_slots.ensures.goes v with_one low))

pub returns-clause-some : goal.returns-clause-some
returns-clause-some g c v backs low =
    let with_one = with_it (state_of c.args.self.now) c.in_ok-planned.planned v c.in_ok-planned.ensures.value backs in
    (ap is_planned with_one.blocks.plan.sync, its_progress (state_of c.args.self.now) c.in_ok-planned.planned c.in_ok-planned.ensures.value c.flush_slots.result (state_of c.flush_slots.new.self) v (c.flush_slots.ensures.goes v with_one low))

-- the plan that was taken is the one that there was
of_it : (s : State) (plan : Planned) (new : State) → Some plan ≡ s.planned → WritesPlan (with_plan s plan) new → WritesPlan s new
of_it s plan new is writes = subst (λ (o : Option Planned). WritesPlan (record s { planned = o }) new) is writes

pub returns-then-due_count-gt0-clause-writes : goal.returns-then-due_count-gt0-clause-writes
returns-then-due_count-gt0-clause-writes g c = of_it (state_of c.args.self.now) c.in_ok-planned.planned (state_of c.write.new.self) c.in_ok-planned.ensures.value c.write.ensures.writes

pub returns-then-not-is_empty-clause-writes : goal.returns-then-not-is_empty-clause-writes
returns-then-not-is_empty-clause-writes g c = of_it (state_of c.args.self.now) c.in_ok-planned.planned (state_of c.flush.new.self) c.in_ok-planned.ensures.value c.flush.ensures.writes

pub returns-then-not-is_empty-2-clause-writes : goal.returns-then-not-is_empty-2-clause-writes
returns-then-not-is_empty-2-clause-writes g c = of_it (state_of c.args.self.now) c.in_ok-planned.planned (state_of c.write_slots.new.self) c.in_ok-planned.ensures.value c.write_slots.ensures.writes

pub returns-clause-writes : goal.returns-clause-writes
returns-clause-writes g c = of_it (state_of c.args.self.now) c.in_ok-planned.planned (state_of c.flush_slots.new.self) c.in_ok-planned.ensures.value c.flush_slots.ensures.writes
