use Rattle.std.proofs.Common.{◌∙◌, ◌-◌, inl, inr, subst}
use Rattle.dnode.specs.Levels.{levels_of}
use Rattle.block_store.proofs.Steps.{reads_on}
use Rattle.dnode_tree.proofs.FurtherReads.{told_before, told_after}
use Rattle.dnode_tree.proofs.Refusing.{passed_on}
use Rattle.dnode_tree.proofs.FreeRefused.{walk_refused_on}
use Rattle.dnode_tree.proofs.Walks.{refused_for_memory}
use Rattle.dnode_tree.specs.Tree.{property_of}
use Rattle.dnode_tree.specs.Ways.{root_of}
use Rattle.dnode_tree.proofs.WholeTree.{tree_later}
use Rattle.dnode_tree.specs.Freeing.{AreOnlyIn}
use Rattle.block_store.proofs.Causes.{caused_behind_reads}
use Rattle.dnode_tree.proofs.freeing.free_blocks.Goals as goal

pub returns-in_err-others-clause-known : goal.returns-in_err-others-clause-known
returns-in_err-others-clause-known g c =
    passed_on _ _ _ c.from_residual.ensures.1
    (λ stored bound array later blocks others held tree le after tell. c.in_err-others.ensures.known stored later others held after tell)

pub returns-in_err-blocks-clause-reads : goal.returns-in_err-blocks-clause-reads
returns-in_err-blocks-clause-reads g c = reads_on _ _ _ _ c.in_ok-others.ensures.reads c.in_err-blocks.ensures.reads

pub returns-in_err-blocks-clause-known : goal.returns-in_err-blocks-clause-known
returns-in_err-blocks-clause-known g c =
    passed_on _ _ _ c.from_residual-in_err-blocks.ensures.1
    (λ stored bound array later blocks others held tree le after tell.
    c.in_err-blocks.ensures.known stored array blocks (c.in_ok-others.ensures.reads.keeps stored held) (tree_later stored bound c.args.birth c.args.before.now array blocks le tree)
    (told_after _ _ _ _ c.in_ok-others.ensures.reads c.in_err-blocks.ensures.reads tell))

pub returns-in_err-blocks_without-clause-reads : goal.returns-in_err-blocks_without-clause-reads
returns-in_err-blocks_without-clause-reads g c = reads_on _ _ _ _ c.in_ok-others.ensures.reads c.in_ok-blocks.ensures.reads

pub returns-clause-reads : goal.returns-clause-reads
returns-clause-reads g c = reads_on _ _ _ _ c.in_ok-others.ensures.reads c.in_ok-blocks.ensures.reads

pub returns-clause-freed : goal.returns-clause-freed
returns-clause-freed g c = λ stored bound array later blocks others held tree le after tell.
    let first = c.in_ok-others.ensures.blocks stored later others held after (told_before _ _ _ _ c.in_ok-others.ensures.reads c.in_ok-blocks.ensures.reads tell) in
    let second = c.in_ok-blocks.ensures.blocks stored array blocks (c.in_ok-others.ensures.reads.keeps stored held) (tree_later stored bound c.args.birth c.args.before.now array blocks le tree)
    (told_after _ _ _ _ c.in_ok-others.ensures.reads c.in_ok-blocks.ensures.reads tell) in
    subst (λ bs. AreOnlyIn bs others c.in_ok-blocks_without.field-0.items) (c.deref.ensures.value ∙ second)
    (subst (λ os. AreOnlyIn c.deref.result.now os c.in_ok-blocks_without.field-0.items) (c.deref-2.ensures.value ∙ first) c.in_ok-blocks_without.ensures)

-- ---- refusals

pub returns-in_err-others-clause-refused : goal.returns-in_err-others-clause-refused
returns-in_err-others-clause-refused g c = passed_on _ _ _ c.from_residual.ensures.1 (inl c.in_err-others.ensures.refused)

pub returns-in_err-blocks-clause-refused : goal.returns-in_err-blocks-clause-refused
returns-in_err-blocks-clause-refused g c =
    passed_on _ _ _ c.from_residual-in_err-blocks.ensures.1
    (inr (walk_refused_on _ _ _ c.args.missing.now (property_of c.args.before.now) (root_of c.args.before.now c.args.birth) _ c.in_ok-others.ensures.reads c.in_err-blocks.ensures.refused))

pub returns-in_err-blocks_without-clause-refused : goal.returns-in_err-blocks_without-clause-refused
returns-in_err-blocks_without-clause-refused g c =
    passed_on _ _ _ c.from_residual-in_err-blocks_without.ensures.1
    (inl (refused_for_memory _ _ c.args.missing.now (property_of c.args.after.now) (levels_of c.args.after.now.highest - 1) c.args.birth c.args.after.now.pointer))

pub returns-in_err-blocks-clause-caused : goal.returns-in_err-blocks-clause-caused
returns-in_err-blocks-clause-caused g c =
    passed_on _ _ _ c.from_residual-in_err-blocks.ensures.1
    (caused_behind_reads _ _ _ _ _ c.in_ok-others.ensures.reads c.in_err-blocks.ensures.caused)
