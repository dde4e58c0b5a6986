use Rattle.std.proofs.Common.{List, ⊎_elim, subst}
use Rattle.dnode_tree.proofs.Refusing.{passed_on}
use Rattle.meta_objset.specs.declared.directory.DirectoryRow.{DirectoryRow}
use Rattle.dataset_snapshots.specs.Finding.{IsNumberIn}
use Rattle.dataset_snapshots.proofs.finding.object_of.Goals as goal

pub returns-in_err-directory-clause-refused : goal.returns-in_err-directory-clause-refused
returns-in_err-directory-clause-refused g c = passed_on _ _ _ c.from_residual.ensures.1 c.in_err-directory.ensures.refused

pub returns-in_err-directory-clause-known : goal.returns-in_err-directory-clause-known
returns-in_err-directory-clause-known g c =
    passed_on _ _ _ c.from_residual.ensures.1
    (λ stored objects own blocks rows held are has tell.
    ⊎_elim (λ loss. loss) (λ bad. absurd (bad.1 rows has)) (c.in_err-directory.ensures.known stored objects own blocks held are tell))

pub returns-clause-value : goal.returns-clause-value
returns-clause-value g c = λ stored objects own blocks rows held are has tell.
    subst (λ (rows : List DirectoryRow). IsNumberIn rows c.args.name.now c.number_in.result) (c.in_ok-directory.ensures.one stored objects own blocks held are tell rows has) c.number_in.ensures

pub returns-clause-found : goal.returns-clause-found
returns-clause-found g c = (_, c.in_ok-directory.ensures.found, c.number_in.ensures)
