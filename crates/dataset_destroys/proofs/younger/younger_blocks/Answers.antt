use Rattle.std.proofs.Common.{◌≡◌, ◌≤◌, ◌∷◌, ◌∙◌, inr, sym, ap, subst, arith, inl}
use Rattle.block_store.proofs.Steps.{reads_on}
use Rattle.dnode.specs.declared.object_set.ObjectSet.{ObjectSet}
use Rattle.dnode_tree.proofs.FurtherReads.{told_before, told_after}
use Rattle.dnode_tree.specs.Younger.{younger}
use Rattle.objset.specs.Objects.{AreObjects}
use Rattle.objset.specs.Within.{blocks_of_objects, blocks_of_set, reads_of}
use Rattle.dataset_destroys.proofs.Refusing.{passed_on}
use Rattle.dataset_destroys.proofs.YoungerBlocks.{few_reads, first_younger, none_younger, set_later, volume_once}
use Rattle.block_store.proofs.Causes.{caused_behind_reads}
use Rattle.dataset_destroys.proofs.younger.younger_blocks.Goals as goal

pub returns-then-block-since-clause-value : goal.returns-then-block-since-clause-value
returns-then-block-since-clause-value g c = λ stored bound size block_size array held is le tell.
    c.new.ensures.items ∙ sym (none_younger c.args.since stored bound size block_size array c.args.block.now is c.if-block-since.true)

pub returns-in_err-set-clause-known : goal.returns-in_err-set-clause-known
returns-in_err-set-clause-known g c =
    passed_on _ _ _ c.from_residual.ensures.1 (λ stored bound size block_size array held is le once enough tell.
    c.in_err-set.ensures.known stored is.set held (set_later stored bound c.args.birth c.args.block.now is.set le is.is_set) is.kind (omega (arith, enough)) tell)

pub returns-in_err-below-clause-reads : goal.returns-in_err-below-clause-reads
returns-in_err-below-clause-reads g c = reads_on _ _ _ _ c.in_ok-set.ensures.reads c.in_err-below.ensures.reads

pub returns-in_err-below-clause-refused : goal.returns-in_err-below-clause-refused
returns-in_err-below-clause-refused g c =
    passed_on _ _ _ c.from_residual-in_err-below.ensures.1 (inr (inr (record {
      set = c.in_ok-set.set;
      is_set = c.in_ok-set.ensures.found;
      kind = c.in_ok-set.ensures.kind;
      left = c.counted_set.new.left;
      count = omega (arith, c.in_ok-set.ensures.count);
      mid = c.counted_set.new.store;
      first = c.in_ok-set.ensures.reads;
      why = c.in_err-below.ensures.refused;
    })))

pub returns-in_err-below-clause-known : goal.returns-in_err-below-clause-known
returns-in_err-below-clause-known g c =
    let first = c.in_ok-set.ensures.reads in
    let rest = c.in_err-below.ensures.reads in
    passed_on _ _ _ c.from_residual-in_err-below.ensures.1 (λ stored bound size block_size array held is le once enough tell.
    let same : c.in_ok-set.set ≡ is.set =
    c.in_ok-set.ensures.value stored is.set held (set_later stored bound c.args.birth c.args.block.now is.set le is.is_set) (told_before _ _ _ _ first rest tell) in
    c.in_err-below.ensures.known stored is.has.objects is.has.own is.has.blocks (first.keeps stored held)
    (subst (λ (set : ObjectSet). AreObjects stored c.args.block.now.birth set is.has.objects is.has.own is.has.blocks) (sym same) is.has.are)
    (volume_once stored c.args.block.now.birth c.args.block.now is.set is.has.objects is.has.own is.has.blocks is.has.are once)
    (subst (λ (set : ObjectSet). reads_of (younger c.args.since is.has.own) (younger c.args.since (blocks_of_objects set is.has.blocks)) ≤ c.counted_set.new.left) (sym same)
    (few_reads c.args.since c.counted_set.new.left c.args.block.now is.set is.has.own is.has.blocks (omega (arith, enough, c.in_ok-set.ensures.count))))
    (told_after _ _ _ _ first rest tell))

pub returns-in_err-with_first-clause-reads : goal.returns-in_err-with_first-clause-reads
returns-in_err-with_first-clause-reads g c = reads_on _ _ _ _ c.in_ok-set.ensures.reads c.in_ok-below.ensures.reads

pub returns-clause-reads : goal.returns-clause-reads
returns-clause-reads g c = reads_on _ _ _ _ c.in_ok-set.ensures.reads c.in_ok-below.ensures.reads

pub returns-clause-value : goal.returns-clause-value
returns-clause-value g c = λ stored bound size block_size array held is le tell.
    let first = c.in_ok-set.ensures.reads in
    let rest = c.in_ok-below.ensures.reads in
    let same : c.in_ok-set.set ≡ is.set =
    c.in_ok-set.ensures.value stored is.set held (set_later stored bound c.args.birth c.args.block.now is.set le is.is_set) (told_before _ _ _ _ first rest tell) in
    c.in_ok-with_first.ensures
    ∙ ap (λ blocks. c.args.block.now ∷ blocks)
    (c.in_ok-below.ensures.blocks stored is.has.objects is.has.own is.has.blocks (first.keeps stored held)
    (subst (λ (set : ObjectSet). AreObjects stored c.args.block.now.birth set is.has.objects is.has.own is.has.blocks) (sym same) is.has.are)
    (told_after _ _ _ _ first rest tell)
    ∙ ap (λ (set : ObjectSet). younger c.args.since (blocks_of_set set is.has.own is.has.blocks)) same)
    ∙ first_younger c.args.since c.args.block.now is.set is.has.own is.has.blocks c.if-block-since.false

pub returns-in_err-set-clause-caused : goal.returns-in_err-set-clause-caused
returns-in_err-set-clause-caused g c = passed_on _ _ _ c.from_residual.ensures.1 c.in_err-set.ensures.caused

pub returns-in_err-below-clause-caused : goal.returns-in_err-below-clause-caused
returns-in_err-below-clause-caused g c = passed_on _ _ _ c.from_residual-in_err-below.ensures.1 (caused_behind_reads _ _ _ _ _ c.in_ok-set.ensures.reads c.in_err-below.ensures.caused)

pub returns-in_err-set-clause-refused : goal.returns-in_err-set-clause-refused
returns-in_err-set-clause-refused g c = passed_on _ _ _ c.from_residual.ensures.1 (inr (inl c.in_err-set.ensures.refused))
