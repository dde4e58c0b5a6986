use Rattle.std.proofs.Common.{List, ℕ, None, subst, ◌∙◌}
use Rattle.std.proofs.lemmas.Result.{IfOk-weaker}
use Rattle.objset.specs.Changes.{after_change}
use Rattle.object_table.specs.Tables.{HasTable}
use Rattle.meta_objset.specs.Reading.{config_kind}
use Rattle.meta_objset.proofs.config.config_creation.Goals as goal

pub returns-clause-made : goal.returns-clause-made
returns-clause-made c =
    IfOk-weaker c.creation.result _ _
    (λ change made. (
      c.requires.fits,
      subst (λ (rows : List ℕ). HasTable config_kind (after_change change None) rows) (c.deref.ensures.value ∙ c.in_ok-rows.ensures) made,
    ))
    c.creation.ensures.made
