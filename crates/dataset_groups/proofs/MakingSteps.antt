-- Actions one after the other.
use Rattle.std.proofs.Common.{◌≡◌, ◌+◌, ◌<◌, ℕ, true, List, [], ◌∷◌, ◌++◌, length, take, get_or, sym, ap, subst, ◌∙◌}
use Rattle.std.specs.Prelude.{fold}
use Rattle.std.proofs.lemmas.List.{take_more}
use Rattle.pool_model.specs.declared.item.Action.{Action}
use Rattle.pool_model.specs.Pools.{PlainPool, changed}
use Rattle.volume_rules.proofs.NowMoves.{fold_push}
use Rattle.volume_rules.specs.GoodChanges.{is_good_making}
use Rattle.dataset_groups.specs.NewVolumes.{AreGoodChanges}

-- each of the actions is good where all are
pub one_good : (actions : List Action) (i : ℕ) (action : Action) → i < length actions → action ≡ get_or actions i action → AreGoodChanges actions → is_good_making action.change ≡ true
one_good actions i action low is good = subst (λ (a : Action). is_good_making a.change ≡ true) (sym is) (good i action low)

-- the pool after one action more
pub pool_more : (group : ℕ) (pool : PlainPool) (actions : List Action) (i : ℕ) (action : Action) → i < length actions → action ≡ get_or actions i action
    → changed group (fold (λ p a. changed group p a.change) pool (take i actions)) action.change ≡ fold (λ p a. changed group p a.change) pool (take (i + 1) actions)
pool_more group pool actions i action low is =
    let step : PlainPool → Action → PlainPool = λ p a. changed group p a.change in
    sym (fold_push step pool (take i actions) action)
    ∙ ap (fold step pool) (sym (take_more actions i action low ∙ ap (λ (a : Action). take i actions ++ a ∷ []) (sym is)))
