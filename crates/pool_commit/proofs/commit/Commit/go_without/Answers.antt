use Rattle.std.proofs.Common.{◌≡◌, inr, length, refl, sym, ◌∙◌, subst}
use Rattle.pool_commit.specs.HasDisks.{IsPlannedOn}
use Rattle.pool_commit.specs.declared.kept.Planned.{Planned}
use Rattle.pool_commit.proofs.GoingOut.{there_still}
use Rattle.pool_commit.proofs.commit.Commit.go_without.Goals as goal

pub go_on-requires-clause-there : goal.go_on-requires-clause-there
go_on-requires-clause-there g c =
    (λ plan is. let same : record c.args.planned { behind = c.leave_out.new.self } ≡ plan = cc in
    subst (λ (p : Planned). IsPlannedOn (length c.args.self.now.store.disks.starts) p) same
    (there_still (length c.args.self.now.store.disks.starts) c.args.failed.disk c.args.planned c.leave_out.new.self (c.requires.there c.args.planned refl) c.leave_out.ensures))

pub returns-clause-goes : goal.returns-clause-goes
returns-clause-goes g c = inr (sym c.args.self.now.suspension ∙ c.if-self.false, c.leave_out.new.self, c.leave_out.ensures, c.go_on.ensures)
