use Rattle.std.proofs.Common.{[], sym, ◌∙◌}
use Rattle.nvlist.proofs.Views.{last_pair_named}
use Rattle.nvlist.proofs.list.last_name.Goals as goal

pub returns-in-Some : goal.returns-in-Some
returns-in-Some c = c.as_bytes.ensures.value ∙ sym (last_pair_named [] c.args.pairs.now c.in-Some.pair.now c.in-Some.ensures.value)
