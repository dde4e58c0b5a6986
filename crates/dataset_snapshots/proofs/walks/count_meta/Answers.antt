use Rattle.std.proofs.Common.{inr}
use Rattle.std.proofs.lemmas.Result.{IfErr-weaker}
use Rattle.dataset_snapshots.proofs.walks.count_meta.Goals as goal

pub returns-clause-refused : goal.returns-clause-refused
returns-clause-refused g c = IfErr-weaker c.read_meta.result _ _ (λ refusal why. inr why) c.read_meta.ensures.refused

pub returns-clause-known : goal.returns-clause-known
returns-clause-known g c =
    IfErr-weaker c.read_meta.result _ _ (λ refusal known stored set held is kind some tell. known stored set held is kind tell) c.read_meta.ensures.known
