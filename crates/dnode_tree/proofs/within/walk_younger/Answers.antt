use Rattle.std.proofs.lemmas.Result.{IfOk-weaker}
use Rattle.dnode_tree.proofs.PickedWalks.{walked_younger}
use Rattle.dnode_tree.proofs.within.walk_younger.Goals as goal

pub returns-clause-younger : goal.returns-clause-younger
returns-clause-younger g c =
    IfOk-weaker c.walk.result _ _ (λ found walked. walked_younger c.args.since c.args.store.now.spaces c.args.node.now c.args.birth found.items walked) c.walk.ensures.found
