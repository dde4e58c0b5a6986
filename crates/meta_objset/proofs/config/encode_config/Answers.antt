use Rattle.std.proofs.Common.{ℕ, List, subst, ◌∙◌}
use Rattle.std.proofs.lemmas.Result.{IfOk-weaker}
use Rattle.object_table.specs.Rows.{SpellsRows}
use Rattle.meta_objset.specs.Config.{config_shape}
use Rattle.meta_objset.proofs.config.encode_config.Goals as goal

pub returns-clause-spells : goal.returns-clause-spells
returns-clause-spells c =
    IfOk-weaker c.encode-2.result _ _
    (λ bytes spells. (c.requires.fits, subst (λ (rows : List ℕ). SpellsRows config_shape bytes.items rows) (c.deref.ensures.value ∙ c.in_ok-rows.ensures) spells))
    c.encode-2.ensures.spells
