use Rattle.std.proofs.Common.{◌≡◌, Bool, true, false, IsTrue, Option, Some, None, refl, ap, ◌∙◌}
use Rattle.std.specs.Prelude.{is_some, not}
use Rattle.objset.specs.declared.shape.ObjectShape.{ObjectShape}
use Rattle.objset.specs.Objects.{Object}
use Rattle.objset.specs.Shapes.{HasShape}
use Rattle.dataset_snapshots.proofs.numbering.is_unused.Goals as goal

-- an object of which no shape is found isn't there
not_there : (object : Option Object) (found : Option ObjectShape) (test : Bool) → is_some found ≡ not test → IsTrue test → HasShape object found → object ≡ None
not_there None found test is told has = refl
not_there (Some object) None test is told has = absurd has
not_there (Some object) (Some shape) test is told has = let clash : true ≡ false = is ∙ ap not told in absurd cc

pub returns-in-Ok-clause-unused : goal.returns-in-Ok-clause-unused
returns-in-Ok-clause-unused g c = λ told stored objects own blocks held are tell.
    not_there (objects c.args.number) c.in-Ok.found c.is_none.result c.is_none.ensures told (c.in-Ok.ensures.value stored objects own blocks held are tell)
