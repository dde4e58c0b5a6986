use Rattle.std.proofs.Common.{◌∙◌}
use Rattle.volume_rules.proofs.Rows.{rows_are}
use Rattle.volume_rules.proofs.index.NameIndex.rows.Goals as goal

pub returns : goal.returns
returns c = λ pool k.
    c.in_ok-rows.ensures.are ∙ rows_are (λ key. key.items) c.in_ok-shapes.shapes pool c.in_ok-rows.ensures.ordered k.ascending (c.in_ok-shapes.ensures pool k)
