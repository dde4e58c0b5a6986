use Rattle.std.proofs.Common.{◌≡◌, List, [], ◌∷◌, length, true, fold, refl, sym, ◌∙◌, arith}
use Rattle.std.specs.Prelude.{◌==◌}
use Rattle.std.proofs.lemmas.Bool.{eqb-true}
use Rattle.pool_model.specs.declared.item.Action.{Action}
use Rattle.pool_model.specs.Pools.{PlainPool, applied, written}
use Rattle.volume_rules.specs.Index.{Knows}
use Rattle.volume_rules.proofs.NowMoves.{knows_along}
use Rattle.volume_rules.proofs.Volumes.{shapes_of_writes}
use Rattle.raidz_io.proofs.Rebuilt.{IfOk-map}
use Rattle.pool_commit.proofs.plan.names_after.Goals as goal

none_there : (actions : List Action) → true ≡ (length actions == 0) → actions ≡ []
none_there [] is = refl
none_there (a ∷ actions) is = let none : length (a ∷ actions) ≡ 0 = eqb-true (length (a ∷ actions)) 0 (sym is) in absurd (omega (arith, none))

pub returns-then-is_empty : goal.returns-then-is_empty
returns-then-is_empty c =
    IfOk-map c.try_clone.result (λ after. after.value ≡ c.args.last.now.value)
    (λ after. (pool : PlainPool) → Knows c.args.last.now.value pool → Knows after.value (applied c.args.group pool c.args.items.now))
    (λ after same pool knows.
    let before : PlainPool = fold written pool c.args.items.now.writes in
    let none : c.args.items.now.actions ≡ [] = sym c.actions.ensures ∙ none_there c.actions.result.now (c.if-is_empty.ensures) in
    rw (none, same) (knows_along c.args.last.now.value pool before (shapes_of_writes pool c.args.items.now.writes) knows))
    c.try_clone.ensures
