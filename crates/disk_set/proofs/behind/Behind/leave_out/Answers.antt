use Rattle.std.proofs.Common.{refl, rules}
use Rattle.std.proofs.lemmas.Fn.{filter_same}
use Rattle.disk_set.proofs.behind.Behind.leave_out.Goals as goal

pub returns : goal.returns
returns c = (
  refl,
  filter_same _ _ _ (λ x b f' k. search rules) _ _ c.retain.ensures.filtered,
  filter_same _ _ _ (λ x b f' k. search rules) _ _ c.retain-2.ensures.filtered,
)
