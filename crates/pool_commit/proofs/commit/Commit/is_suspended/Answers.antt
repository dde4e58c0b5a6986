use Rattle.std.proofs.Common.{ap, sym, ◌∙◌}
use Rattle.std.specs.Prelude.{not}
use Rattle.pool_model.specs.View.{is_tolerable}
use Rattle.pool_commit.proofs.commit.Commit.is_suspended.Goals as goal

pub returns : goal.returns
returns g c v backs = c.args.self.now.suspension ∙ ap not (λ i. is_tolerable (sym backs.vdevs i) (λ disk. sym (backs.out disk) i))
