use Rattle.std.proofs.Common.{All, ◌<◌, ◌++◌, inl, inr, refl, ap, sym, ◌∙◌, subst, arith, append_assoc, append-nil, [], IsTrue}
use Rattle.std.specs.Prelude.{not, ◌==◌}
use Rattle.std.proofs.lemmas.List.Elements.{All-append}
use Rattle.block_pointer.specs.declared.block.Block.{Block}
use Rattle.block_store.proofs.Steps.{reads_none, reads_on}
use Rattle.dnode_tree.proofs.Exchanging.{count_by-append}
use Rattle.dnode_tree.proofs.FurtherReads.{told_before, told_after}
use Rattle.dnode_tree.proofs.Refusing.{passed_on}
use Rattle.dnode_tree.specs.Rewriting.{AreDistinct}
use Rattle.objset.proofs.WithinLemmas.{whole_once}
use Rattle.objset.proofs.YoungerLemmas.{parts_there, found_all, next_part, next_refused, object_refused, younger_once}
use Rattle.objset.specs.Within.{blocks_of_set}
use Rattle.block_store.proofs.Causes.{caused_behind_reads}
use Rattle.objset.proofs.within.walk_younger.Goals as goal

pub returns-in_err-blocks-clause-refused : goal.returns-in_err-blocks-clause-refused
returns-in_err-blocks-clause-refused g c = passed_on _ _ _ c.from_residual.ensures.1 (inr (inl c.in_err-blocks.ensures.refused))

pub returns-in_err-blocks-clause-known : goal.returns-in_err-blocks-clause-known
returns-in_err-blocks-clause-known g c =
    passed_on _ _ _ c.from_residual.ensures.1
    (λ stored objects own blocks held are once enough tell.
    c.in_err-blocks.ensures.known stored are.nodes own held are.dnodes
    (younger_once c.args.since own once.own_once) (omega (arith, enough)) tell)

pub returns-in_err-more-clause-reads : goal.returns-in_err-more-clause-reads
returns-in_err-more-clause-reads g c =
    reads_on _ _ _ _ c.in_ok-blocks.ensures.reads (reads_on _ _ _ _ c.loop-it.invariant.reads c.in_err-more.ensures.reads)

pub returns-in_err-more-clause-refused : goal.returns-in_err-more-clause-refused
returns-in_err-more-clause-refused g c =
    passed_on _ _ _ c.from_residual-in_err-more.ensures.1
    (inr (inr (inl (object_refused c.args.since c.args.store.now c.loop-it.store c.walk_younger.new.store c.args.missing.now c.args.set.now c.args.birth c.walk_younger.new.left _ c.in_ok-blocks.field-0.blocks.items
    c.in_ok-blocks.field-0.nodes.items c.deref-it-items.result.now c.loop-it.it-index _ _ c.deref-it-items.ensures.value c.in_ok-blocks.ensures.found c.in_ok-blocks.ensures.from c.loop-it-test.true refl
    (reads_on _ _ _ _ c.in_ok-blocks.ensures.reads c.loop-it.invariant.reads) c.in_err-more.ensures.refused))))

pub returns-in_err-more-clause-known : goal.returns-in_err-more-clause-known
returns-in_err-more-clause-known g c =
    let sooner = reads_on _ _ _ _ c.in_ok-blocks.ensures.reads c.loop-it.invariant.reads in
    let later = reads_on _ _ _ _ c.loop-it.invariant.reads c.in_err-more.ensures.reads in
    passed_on _ _ _ c.from_residual-in_err-more.ensures.1
    (λ stored objects own blocks held are once enough tell.
    let there = c.in_ok-blocks.ensures.value stored are.nodes own held are.dnodes (told_before _ _ _ _ c.in_ok-blocks.ensures.reads later tell) in
    let parts = parts_there c.args.since stored c.args.birth c.args.set.now objects own blocks c.deref-it-items.result.now are (c.deref-it-items.ensures.value ∙ there.1) in
    next_refused c.args.since stored c.args.set.now own c.in_ok-blocks.field-0.blocks.items blocks c.deref-it-items.result.now c.loop-it.it-index _ _ c.loop-it.invariant.below
    c.args.left.now c.nodes_younger.new.left c.loop-it.left _ c.loop-it-test.true refl parts
    (c.loop-it.invariant.value stored parts.parts (c.in_ok-blocks.ensures.reads.keeps stored held) parts.trees
    (told_before _ _ _ _ c.loop-it.invariant.reads c.in_err-more.ensures.reads (told_after _ _ _ _ c.in_ok-blocks.ensures.reads later tell)))
    once there.0 c.in_ok-blocks.ensures.count c.loop-it.invariant.count enough
    (λ array part tree distinct left. c.in_err-more.ensures.known stored array part (sooner.keeps stored held) tree distinct left
    (told_after _ _ _ _ sooner c.in_err-more.ensures.reads tell)))

pub returns-in_err-add-clause-reads : goal.returns-in_err-add-clause-reads
returns-in_err-add-clause-reads g c =
    reads_on _ _ _ _ c.in_ok-blocks.ensures.reads (reads_on _ _ _ _ c.loop-it.invariant.reads c.in_ok-more.ensures.reads)

pub loop-it-init : goal.loop-it-init
loop-it-init g c = record {
  reads = reads_none _ _;
  fewer = omega arith;
  below = [];
  are = sym (append-nil c.in_ok-blocks.field-0.blocks.items);
  young = c.in_ok-blocks.ensures.younger;
  count = omega arith;
  value = λ stored parts held have tell. refl;
}

pub loop-it-preserved : goal.loop-it-preserved
loop-it-preserved g c = record {
  reads = reads_on _ _ _ _ c.loop-it.invariant.reads c.in_ok-more.ensures.reads;
  fewer = omega (arith, c.loop-it.invariant.fewer, c.in_ok-more.ensures.fewer);
  young = subst (All (λ (block : Block). c.args.since < block.birth)) (sym (c.in_ok-add.ensures ∙ ap (λ back. c.loop-it.found.items ++ back) c.deref.ensures.value))
      (All-append (λ (block : Block). c.args.since < block.birth) c.loop-it.found.items c.in_ok-more.more.items c.loop-it.invariant.young c.in_ok-more.ensures.younger);
  below = c.loop-it.invariant.below ++ c.in_ok-more.more.items;
  are = c.in_ok-add.ensures ∙ ap (λ back. c.loop-it.found.items ++ back) c.deref.ensures.value ∙ ap (λ front. front ++ c.in_ok-more.more.items) c.loop-it.invariant.are
      ∙ append_assoc c.in_ok-blocks.field-0.blocks.items c.loop-it.invariant.below c.in_ok-more.more.items;
  count = omega (
    arith,
    c.loop-it.invariant.count,
    c.in_ok-more.ensures.count,
    count_by-append (λ b. not (b.property.level == 0)) c.loop-it.invariant.below c.in_ok-more.more.items,
  );
  value = λ stored parts held have tell.
      next_part c.args.since stored c.deref-it-items.result.now parts c.loop-it.it-index _ _ c.loop-it.invariant.below c.in_ok-more.more.items c.loop-it-test.true refl have
      (c.loop-it.invariant.value stored parts held have (told_before _ _ _ _ c.loop-it.invariant.reads c.in_ok-more.ensures.reads tell))
      (λ array part tree. c.in_ok-more.ensures.blocks stored array part (c.loop-it.invariant.reads.keeps stored held) tree
      (told_after _ _ _ _ c.loop-it.invariant.reads c.in_ok-more.ensures.reads tell));
}

pub returns-in_err-is_once-clause-reads : goal.returns-in_err-is_once-clause-reads
returns-in_err-is_once-clause-reads g c = reads_on _ _ _ _ c.in_ok-blocks.ensures.reads c.loop-it.invariant.reads

pub returns-then-not-is_once-clause-reads : goal.returns-then-not-is_once-clause-reads
returns-then-not-is_once-clause-reads g c = reads_on _ _ _ _ c.in_ok-blocks.ensures.reads c.loop-it.invariant.reads

pub returns-then-not-is_once-clause-refused : goal.returns-then-not-is_once-clause-refused
returns-then-not-is_once-clause-refused g c =
    inr (inr (inr (
      refl,
      record {
        found = c.loop-it.found.items;
        walked = record {
          own = c.in_ok-blocks.field-0.blocks.items;
          below = c.loop-it.invariant.below;
          are = c.loop-it.invariant.are;
          walked = c.in_ok-blocks.ensures.found;
          count = omega (arith, c.loop-it.invariant.count, c.in_ok-blocks.ensures.count);
        };
        twice = λ distinct.
            let told : IsTrue c.in_ok-is_once.is_once = c.in_ok-is_once.ensures.1 (subst (λ bs. AreDistinct bs) (sym c.deref-2.ensures.value) distinct) in
            absurd cc;
      },
    )))

pub returns-then-not-is_once-clause-known : goal.returns-then-not-is_once-clause-known
returns-then-not-is_once-clause-known g c = λ stored objects own blocks held are once enough tell.
    let there = c.in_ok-blocks.ensures.value stored are.nodes own held are.dnodes (told_before _ _ _ _ c.in_ok-blocks.ensures.reads c.loop-it.invariant.reads tell) in
    let all = found_all c.args.since stored c.args.birth c.args.set.now objects own blocks c.in_ok-blocks.field-0.blocks.items c.loop-it.invariant.below c.loop-it.found.items c.deref-it-items.result.now c.loop-it.it-index
    are c.loop-it.invariant.are there.0 (c.deref-it-items.ensures.value ∙ there.1) c.loop-it-test.false
    (λ parts have. c.loop-it.invariant.value stored parts (c.in_ok-blocks.ensures.reads.keeps stored held) have (told_after _ _ _ _ c.in_ok-blocks.ensures.reads c.loop-it.invariant.reads tell)) in
    let told : IsTrue c.in_ok-is_once.is_once = c.in_ok-is_once.ensures.1 (subst (λ bs. AreDistinct bs) (sym (c.deref-2.ensures.value ∙ all)) (younger_once c.args.since (blocks_of_set c.args.set.now own blocks) (whole_once c.args.set.now own blocks once))) in
    absurd cc

pub returns-clause-reads : goal.returns-clause-reads
returns-clause-reads g c = reads_on _ _ _ _ c.in_ok-blocks.ensures.reads c.loop-it.invariant.reads

pub returns-clause-blocks : goal.returns-clause-blocks
returns-clause-blocks g c = λ stored objects own blocks held are tell.
    let there = c.in_ok-blocks.ensures.value stored are.nodes own held are.dnodes (told_before _ _ _ _ c.in_ok-blocks.ensures.reads c.loop-it.invariant.reads tell) in
    found_all c.args.since stored c.args.birth c.args.set.now objects own blocks c.in_ok-blocks.field-0.blocks.items c.loop-it.invariant.below c.loop-it.found.items c.deref-it-items.result.now c.loop-it.it-index
    are c.loop-it.invariant.are there.0 (c.deref-it-items.ensures.value ∙ there.1) c.loop-it-test.false
    (λ parts have. c.loop-it.invariant.value stored parts (c.in_ok-blocks.ensures.reads.keeps stored held) have (told_after _ _ _ _ c.in_ok-blocks.ensures.reads c.loop-it.invariant.reads tell))

pub returns-in_err-more-clause-caused : goal.returns-in_err-more-clause-caused
returns-in_err-more-clause-caused g c =
    passed_on _ _ _ c.from_residual-in_err-more.ensures.1 (caused_behind_reads _ _ _ _ _ (reads_on _ _ _ _ c.in_ok-blocks.ensures.reads c.loop-it.invariant.reads) c.in_err-more.ensures.caused)
