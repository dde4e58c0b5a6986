use Rattle.std.proofs.Common.{◌^◌, ◌<◌, Option, sym, ap, subst, ◌∙◌}
use Rattle.std.specs.Prelude.{IfSome}
use Rattle.dnode_tree.proofs.Refusing.{passed_on}
use Rattle.objset.specs.Nodes.{birth_of}
use Rattle.objset.specs.declared.shape.ObjectShape.{ObjectShape}
use Rattle.objset.specs.Shapes.{HasShape, shape_of_dnode}
use Rattle.objset.proofs.Shapes.{has_shape, highest_fits}
use Rattle.objset.proofs.finding.find.Goals as goal

pub returns-in_err-found-clause-known : goal.returns-in_err-found-clause-known
returns-in_err-found-clause-known g c =
    passed_on _ _ _ c.from_residual.ensures.1 (λ stored objects own blocks held are tell. c.in_err-found.ensures.known stored are.nodes own held are.dnodes tell)

pub returns-in_err-found-clause-refused : goal.returns-in_err-found-clause-refused
returns-in_err-found-clause-refused g c = passed_on _ _ _ c.from_residual.ensures.1 c.in_err-found.ensures.refused

pub returns-clause-value : goal.returns-clause-value
returns-clause-value g c = λ stored objects own blocks held are tell.
    let same = c.of_dnode.ensures ∙ ap shape_of_dnode (c.in_ok-found.ensures.value stored are.nodes own held are.dnodes tell) in
    subst (λ (found : Option ObjectShape). HasShape (objects c.args.number) found) (sym same) (has_shape stored (birth_of are.dnodes.births c.args.number) (are.nodes c.args.number) (objects c.args.number) (blocks c.args.number) (are.each c.args.number))

pub returns-clause-found : goal.returns-clause-found
returns-clause-found g c = (c.in_ok-found.found.dnode, c.in_ok-found.found.birth, c.in_ok-found.ensures.found, c.of_dnode.ensures)

pub returns-clause-fits : goal.returns-clause-fits
returns-clause-fits g c =
    subst (λ (found : Option ObjectShape). IfSome found (λ shape. shape.highest < 128 ^ 5)) (sym c.of_dnode.ensures) (highest_fits c.in_ok-found.found.dnode c.in_ok-found.ensures.fits)
