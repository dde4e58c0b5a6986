use Rattle.std.proofs.Common.{◌≡◌, sym, ap, ◌∙◌}
use Rattle.dnode.specs.declared.object_set.ObjectSet.{ObjectSet}
use Rattle.dnode.specs.declared.object_set.ObjectSetKind.TheVariants.{Meta, Volume}
use Rattle.dnode_tree.proofs.Refusing.{passed_on}
use Rattle.dataset_snapshots.proofs.finding.read_meta.Goals as goal

pub returns-in_err-set-clause-known : goal.returns-in_err-set-clause-known
returns-in_err-set-clause-known g c =
    passed_on _ _ _ c.from_residual.ensures.1 (λ stored set held is kind tell. c.in_err-set.ensures.known stored set held is tell)

pub returns-in-Volume-clause-known : goal.returns-in-Volume-clause-known
returns-in-Volume-clause-known g c = λ stored set held is kind tell.
    let same = c.in_ok-set.ensures.value stored set held is tell in
    let clash : Volume ≡ Meta = sym c.in-Volume.is ∙ ap (λ (s : ObjectSet). s.kind) same ∙ kind in
    absurd cc
