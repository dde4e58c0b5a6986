use Rattle.dnode_tree.proofs.Leaving.{is_new, keys_more}
use Rattle.dnode_tree.proofs.freeing.add.Goals as goal

pub returns-clause-new : goal.returns-clause-new
returns-clause-new c = is_new _ _ _ c.in_ok-insert.ensures.added

pub returns-clause-kept : goal.returns-clause-kept
returns-clause-kept c = keys_more _ _ _ _ c.in_ok-insert.ensures.added c.in_ok-insert.ensures.keys
