use Rattle.std.proofs.Common.{inl}
use Rattle.dnode_tree.proofs.Refusing.{passed_on}
use Rattle.dnode_tree.proofs.descent.read_indirect.Goals as goal

pub returns-in_err-bytes-clause-known : goal.returns-in_err-bytes-clause-known
returns-in_err-bytes-clause-known g c =
    passed_on _ _ _ c.from_residual.ensures.1
    (λ stored bytes pointers held there spelled asks tell. c.in_err-bytes.ensures.known stored bytes held there asks tell)
