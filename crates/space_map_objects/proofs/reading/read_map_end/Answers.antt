use Rattle.std.proofs.Common.{inl, inr, ⊎_elim}
use Rattle.dnode_tree.proofs.Refusing.{passed_on}
use Rattle.space_map_objects.proofs.Unread.{end_unread, unread_is_caused, lossy}
use Rattle.space_map_objects.proofs.reading.read_map_end.Goals as goal

pub returns-in_err-end-clause-refused : goal.returns-in_err-end-clause-refused
returns-in_err-end-clause-refused g c = passed_on _ _ _ c.from_residual.ensures.1 (end_unread _ _ _ _ _ _ _ c.in_err-end.ensures.refused)

pub returns-in_err-end-clause-known : goal.returns-in_err-end-clause-known
returns-in_err-end-clause-known g c =
    passed_on _ _ _ c.from_residual.ensures.1
    (λ stored objects own blocks held are tell.
    ⊎_elim (λ loss. inl (lossy _ loss)) (λ bad. inr bad.1) (c.in_err-end.ensures.known stored objects own blocks held are tell))

pub returns-in_err-end-clause-caused : goal.returns-in_err-end-clause-caused
returns-in_err-end-clause-caused g c =
    passed_on _ _ _ c.from_residual.ensures.1 (unread_is_caused _ _ _ _ c.in_err-end.ensures.caused)
