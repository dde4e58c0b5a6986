use Rattle.std.proofs.Common.{◌∙◌}
use Rattle.dnode_tree.proofs.Refusing.{passed_on}
use Rattle.dnode_tree.proofs.WholeTree.{tree_later}
use Rattle.objset.proofs.Exchanged.{appended}
use Rattle.block_store.proofs.Steps.{steps_read}
use Rattle.objset.proofs.changing.free_object.Goals as goal

pub returns-in_err-blocks-clause-known : goal.returns-in_err-blocks-clause-known
returns-in_err-blocks-clause-known g c =
    passed_on _ _ _ c.from_residual.ensures.1
    (λ stored planned bound array blocks plans tree le tell.
    c.in_err-blocks.ensures.known stored array blocks plans.held (tree_later stored bound c.args.birth c.args.node.now array blocks le tree) tell)

pub returns-clause-noted : goal.returns-clause-noted
returns-clause-noted g c = λ stored planned bound array blocks plans tree le tell. (
  c.in_ok-blocks.ensures.reads.plans stored planned plans,
  appended c.args.replaced.now.items c.deref.result.now c.extend_from_slice.new.self.items blocks c.in_ok-extend_from_slice.ensures.items
      (c.deref.ensures.value ∙ c.in_ok-blocks.ensures.blocks stored array blocks plans.held (tree_later stored bound c.args.birth c.args.node.now array blocks le tree) tell),
)

pub returns-in_err-blocks-clause-steps : goal.returns-in_err-blocks-clause-steps
returns-in_err-blocks-clause-steps g c = steps_read _ _ _ c.in_err-blocks.ensures.reads

pub returns-in_err-extend_from_slice-clause-steps : goal.returns-in_err-extend_from_slice-clause-steps
returns-in_err-extend_from_slice-clause-steps g c = steps_read _ _ _ c.in_ok-blocks.ensures.reads

pub returns-clause-steps : goal.returns-clause-steps
returns-clause-steps g c = steps_read _ _ _ c.in_ok-blocks.ensures.reads
