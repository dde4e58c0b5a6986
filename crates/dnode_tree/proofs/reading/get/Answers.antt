use Rattle.std.proofs.Common.{sym, ap, ◌∙◌}
use Rattle.dnode_tree.specs.Ways.{bytes_in}
use Rattle.dnode_tree.proofs.reading.get.Goals as goal

pub returns-in-Some-clause-value : goal.returns-in-Some-clause-value
returns-in-Some-clause-value g c = λ stored array blocks held tree tell.
    sym (ap bytes_in c.in-Some.is) ∙ c.in_ok-block.ensures.value stored array blocks held tree tell

pub returns-in-None-clause-value : goal.returns-in-None-clause-value
returns-in-None-clause-value g c = λ stored array blocks held tree tell.
    sym (ap bytes_in c.in-None.is) ∙ c.in_ok-block.ensures.value stored array blocks held tree tell
