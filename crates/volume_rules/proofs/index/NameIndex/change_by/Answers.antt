use Rattle.std.proofs.Common.{sym, ap, ◌∙◌, subst}
use Rattle.std.specs.Prelude.{◌≡◌, false, is_some}
use Rattle.pool_model.specs.Names.{name_of}
use Rattle.volume_rules.specs.Index.{MakesShape}
use Rattle.volume_rules.specs.Shapes.{shape_at}
use Rattle.volume_rules.proofs.Indexes.{makes_new}
use Rattle.volume_rules.proofs.index.NameIndex.change_by.Goals as goal

pub returns : goal.returns
returns c = λ pool k.
    let change = c.args.change.now in
    let none : is_some (shape_at (name_of change) pool) ≡ false =
    ap (λ name. is_some (shape_at name pool)) (sym c.in_ok-name.ensures)
    ∙ (sym (ap is_some (c.find.ensures pool k)) ∙ (sym c.is_some.ensures ∙ c.if-is_some.false)) in
    makes_new c.args.group pool change (record { name = c.in_ok-name.name; entry = record { shape = c.in-Some.shape; origin = c.in_ok-origin.origin } })
    c.in_ok-name.ensures c.in_ok-origin.ensures none
    (subst (MakesShape c.args.group pool change) c.in-Some.is (c.shape_by.ensures pool k))
