use Rattle.std.proofs.lemmas.Result.{IfOk-weaker}
use Rattle.pool_maps.proofs.changing.change_of.Goals as goal

pub returns-then-wants_condensing-clause-value : goal.returns-then-wants_condensing-clause-value
returns-then-wants_condensing-clause-value c =
    IfOk-weaker c.shortest_map-then-wants_condensing.result _ _ (λ change value object before ends has leads. value object before has) c.shortest_map-then-wants_condensing.ensures.value

pub returns-in_default-clause-value : goal.returns-in_default-clause-value
returns-in_default-clause-value c =
    IfOk-weaker c.shortest_map.result _ _ (λ change value object before ends has leads. value object before has) c.shortest_map.ensures.value
