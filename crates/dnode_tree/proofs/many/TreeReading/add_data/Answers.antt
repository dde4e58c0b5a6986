use Rattle.std.proofs.Common.{inl}
use Rattle.dnode_tree.proofs.Refusing.{passed_on}
use Rattle.dnode_tree.proofs.many.TreeReading.add_data.Goals as goal

pub returns-in_err-bytes-clause-known : goal.returns-in_err-bytes-clause-known
returns-in_err-bytes-clause-known g c =
    passed_on _ _ _ c.from_residual.ensures.1
    (λ stored bytes held there asks tell. c.in_err-bytes.ensures.known stored bytes held there asks tell)

pub returns-clause-added : goal.returns-clause-added
returns-clause-added g c = record {
  bytes = c.in_ok-bytes.bytes;
  added = c.in_ok-push.ensures.ok;
  read = record { readable = c.in_ok-bytes.ensures.readable; size = c.in_ok-bytes.ensures.size; digest = c.in_ok-bytes.ensures.digest };
  value = λ stored known held there tell. c.in_ok-bytes.ensures.bytes stored known held there tell;
}
