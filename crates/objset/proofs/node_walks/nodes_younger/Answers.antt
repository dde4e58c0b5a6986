use Rattle.std.proofs.Common.{◌≡◌, ◌≤◌, ◌-◌, length, refl, ap, sym, ◌∙◌, subst, arith}
use Rattle.std.specs.List.{All, flat_map}
use Rattle.std.proofs.lemmas.List.{take_all}
use Rattle.block_store.proofs.Steps.{reads_on}
use Rattle.block_store.specs.Steps.{OnlyReadsBlocks, AnswersTell}
use Rattle.dnode.specs.Node.{FitsNode}
use Rattle.dnode_tree.proofs.FurtherReads.{told_before, told_after}
use Rattle.dnode_tree.proofs.Ids.{HaveIds, at_id, as_many}
use Rattle.dnode_tree.proofs.Refusing.{passed_on}
use Rattle.dnode_tree.specs.Within.{indirect_count}
use Rattle.dnode_tree.specs.Younger.{younger}
use Rattle.objset.specs.declared.node_walks.FoundNode.{FoundNode}
use Rattle.objset.specs.NodesWithin.{objects_in, IsNodeOfOne}
use Rattle.objset.proofs.NodesWithinLemmas.{no_more, more, within_all, still_one, data_at, next_data, next_above, slots_there, from_more}
use Rattle.objset.proofs.YoungerNodes.{younger_there, one_refused}
use Rattle.objset.proofs.node_walks.nodes_younger.Goals.{then-block-eq0+in_ok-read_nodes, else-block-eq0}
use Rattle.block_store.proofs.Causes.{caused_behind_reads}
use Rattle.objset.proofs.node_walks.nodes_younger.Goals as goal

pub returns-in_err-blocks-clause-known : goal.returns-in_err-blocks-clause-known
returns-in_err-blocks-clause-known g c =
    passed_on _ _ _ c.from_residual.ensures.1
    (λ stored nodes blocks held has once enough tell.
    c.in_err-blocks.ensures.known stored has.array blocks held has.tree once (omega (arith, enough, within_all (younger c.args.since blocks))) tell)

pub returns-in_err-read_nodes-clause-reads : goal.returns-in_err-read_nodes-clause-reads
returns-in_err-read_nodes-clause-reads g c =
    reads_on _ _ _ _ c.in_ok-blocks.ensures.reads (reads_on _ _ _ _ c.loop-block.invariant.reads c.in_err-read_nodes.ensures.reads)

pub returns-in_err-read_nodes-clause-refused : goal.returns-in_err-read_nodes-clause-refused
returns-in_err-read_nodes-clause-refused g c =
    passed_on _ _ _ c.from_residual-in_err-read_nodes.ensures.1
    (one_refused c.args.since c.args.store.now c.loop-block.store c.read_nodes.new.store c.args.missing.now c.args.set.now c.args.birth c.read_nodes.new.left _ c.in_ok-blocks.blocks.items c.deref-block-items.result.now
    c.loop-block.block-index _ _ c.deref-block-items.ensures.value c.in_ok-blocks.ensures.found c.loop-block-test.true refl c.if-block-eq0.true
    (reads_on _ _ _ _ c.in_ok-blocks.ensures.reads c.loop-block.invariant.reads) c.in_err-read_nodes.ensures.refused)

pub returns-in_err-read_nodes-clause-known : goal.returns-in_err-read_nodes-clause-known
returns-in_err-read_nodes-clause-known g c =
    let sooner = reads_on _ _ _ _ c.in_ok-blocks.ensures.reads c.loop-block.invariant.reads in
    let later = reads_on _ _ _ _ c.loop-block.invariant.reads c.in_err-read_nodes.ensures.reads in
    passed_on _ _ _ c.from_residual-in_err-read_nodes.ensures.1
    (λ stored nodes blocks held has once enough tell.
    let walked = c.in_ok-blocks.ensures.blocks stored has.array blocks held has.tree (told_before _ _ _ _ c.in_ok-blocks.ensures.reads later tell) in
    let items_are = c.deref-block-items.ensures.value ∙ walked in
    let all = younger_there c.args.since stored c.args.birth c.args.set.now nodes blocks c.requires has in
    let have = subst (λ bs. HaveIds stored c.args.set.now.dnodes has.array has.births bs all.ids) (sym items_are) all.have in
    let (id, at, there) = data_at stored c.args.set.now.dnodes has.array has.births c.deref-block-items.result.now all.ids c.loop-block.block-index _ _ have c.loop-block-test.true refl c.if-block-eq0.true in
    let some = still_one c.deref-block-items.result.now c.loop-block.block-index _ _ c.loop-block-test.true refl c.if-block-eq0.true in
    let as_long : length c.deref-block-items.result.now ≡ length (younger c.args.since blocks) = ap length items_are in
    let counted = ap indirect_count c.deref-block-items.ensures.value in
    c.in_err-read_nodes.ensures.known stored id there.bytes nodes (sooner.keeps stored held) there.known (slots_there has.array nodes id there.bytes there.there has.each)
    (there.property ∙ ap (λ t. record { level = 0; object_type = t; sectors = c.args.set.now.dnodes.data_sectors }) c.requires.1.object_type
    ∙ ap (λ s. record { level = 0; object_type = 10; sectors = s }) c.requires.1.sectors)
    (omega (arith, some, as_long, counted, enough, c.loop-block.invariant.count, c.in_ok-blocks.ensures.count))
    (told_after _ _ _ _ sooner c.in_err-read_nodes.ensures.reads tell))

pub loop-block-preserved : goal.loop-block-preserved
loop-block-preserved g c = elim c.if-block-eq0.branch [
  | then-block-eq0+in_ok-read_nodes w ↦ record {
    reads = subst (λ s. OnlyReadsBlocks c.walk_younger.new.store s c.args.missing.now) (sym w.store-is) (reads_on _ _ _ _ c.loop-block.invariant.reads w.in_ok-read_nodes.ensures.reads);
    fewer = omega (arith, w.left-is, c.loop-block.invariant.fewer, w.in_ok-read_nodes.ensures.fewer);
    count = omega (
      arith,
      no_more c.deref-block-items.result.now c.loop-block.block-index _ _ c.loop-block-test.true refl w.if-block-eq0.true,
      w.left-is,
      c.loop-block.invariant.count,
      w.in_ok-read_nodes.ensures.count,
    );
    fits = subst (λ (n : _). All (λ (it : FoundNode). FitsNode it.node) n.items) (sym w.nodes-is) (w.in_ok-read_nodes.ensures.fits c.loop-block.invariant.fits);
    from = from_more c.walk_younger.new.store.spaces c.loop-block.store.spaces c.deref-block-items.result.now c.loop-block.block-index _ _ c.loop-block.nodes.items c.if-block-eq0.nodes.items w.in_ok-read_nodes.ensures.from.0
        (ap (λ s. s.spaces) c.loop-block.invariant.reads.rest) c.loop-block-test.true refl c.loop-block.invariant.from (ap (λ n. n.items) w.nodes-is ∙ w.in_ok-read_nodes.ensures.from.1) w.in_ok-read_nodes.ensures.from.2;
    value = λ stored array nodes births ids held are have tell.
        let all_true : AnswersTell c.walk_younger.new.store w.read_nodes.new.store c.args.missing.now = subst (λ s. AnswersTell c.walk_younger.new.store s c.args.missing.now) w.store-is tell in
        let (id, at, there) = data_at stored c.args.set.now.dnodes array births c.deref-block-items.result.now ids c.loop-block.block-index _ _ have c.loop-block-test.true refl w.if-block-eq0.true in
        ap (λ n. n.items) w.nodes-is
        ∙ next_data stored c.args.set.now.dnodes array births c.deref-block-items.result.now ids c.loop-block.block-index _ _ have c.loop-block-test.true refl (objects_in nodes births) w.if-block-eq0.true
        c.loop-block.nodes.items w.read_nodes.new.nodes.items
        (c.loop-block.invariant.value stored array nodes births ids held are have (told_before _ _ _ _ c.loop-block.invariant.reads w.in_ok-read_nodes.ensures.reads all_true))
        (w.in_ok-read_nodes.ensures.value stored id there.bytes nodes births (c.loop-block.invariant.reads.keeps stored held) there.known (slots_there array nodes id there.bytes there.there are) there.born
        (told_after _ _ _ _ c.loop-block.invariant.reads w.in_ok-read_nodes.ensures.reads all_true));
  }
  | else-block-eq0 w ↦ record {
    reads = subst (λ s. OnlyReadsBlocks c.walk_younger.new.store s c.args.missing.now) (sym w.store-is) c.loop-block.invariant.reads;
    fewer = omega (arith, w.left-is, c.loop-block.invariant.fewer);
    count = omega (arith, more c.deref-block-items.result.now c.loop-block.block-index _ _ c.loop-block-test.true refl w.if-block-eq0.false, w.left-is, c.loop-block.invariant.count);
    fits = subst (λ (n : _). All (λ (it : FoundNode). FitsNode it.node) n.items) (sym w.nodes-is) c.loop-block.invariant.fits;
    from = subst (λ (n : _). All (IsNodeOfOne c.walk_younger.new.store.spaces c.deref-block-items.result.now) n.items) (sym w.nodes-is) c.loop-block.invariant.from;
    value = λ stored array nodes births ids held are have tell.
        let all_true : AnswersTell c.walk_younger.new.store c.loop-block.store c.args.missing.now = subst (λ s. AnswersTell c.walk_younger.new.store s c.args.missing.now) w.store-is tell in
        ap (λ n. n.items) w.nodes-is
        ∙ next_above stored c.args.set.now.dnodes array births c.deref-block-items.result.now ids c.loop-block.block-index _ _ have c.loop-block-test.true refl (objects_in nodes births) w.if-block-eq0.false
        c.loop-block.nodes.items (c.loop-block.invariant.value stored array nodes births ids held are have all_true);
  }
]

pub returns-clause-reads : goal.returns-clause-reads
returns-clause-reads g c = reads_on _ _ _ _ c.in_ok-blocks.ensures.reads c.loop-block.invariant.reads

pub returns-clause-value : goal.returns-clause-value
returns-clause-value g c = λ stored nodes blocks held has tell.
    let walked = c.in_ok-blocks.ensures.blocks stored has.array blocks held has.tree (told_before _ _ _ _ c.in_ok-blocks.ensures.reads c.loop-block.invariant.reads tell) in
    let items_are = c.deref-block-items.ensures.value ∙ walked in
    let all = younger_there c.args.since stored c.args.birth c.args.set.now nodes blocks c.requires has in
    let have = subst (λ bs. HaveIds stored c.args.set.now.dnodes has.array has.births bs all.ids) (sym items_are) all.have in
    let past : length all.ids ≤ c.loop-block.block-index =
    omega (arith, as_many stored c.args.set.now.dnodes has.array has.births c.deref-block-items.result.now all.ids have, c.loop-block-test.false) in (
      walked,
      c.loop-block.invariant.value stored has.array nodes has.births all.ids (c.in_ok-blocks.ensures.reads.keeps stored held) has.each have
          (told_after _ _ _ _ c.in_ok-blocks.ensures.reads c.loop-block.invariant.reads tell)
          ∙ ap (flat_map (at_id (objects_in nodes has.births))) (take_all c.loop-block.block-index all.ids past)
          ∙ all.all,
    )

pub returns-clause-from : goal.returns-clause-from
returns-clause-from g c =
    subst (λ (bs : _). All (IsNodeOfOne c.args.store.now.spaces bs) c.loop-block.nodes.items) c.deref-block-items.ensures.value
    (subst (λ (spaces : _). All (IsNodeOfOne spaces c.deref-block-items.result.now) c.loop-block.nodes.items) (ap (λ s. s.spaces) c.in_ok-blocks.ensures.reads.rest) c.loop-block.invariant.from)

pub returns-in_err-read_nodes-clause-caused : goal.returns-in_err-read_nodes-clause-caused
returns-in_err-read_nodes-clause-caused g c =
    passed_on _ _ _ c.from_residual-in_err-read_nodes.ensures.1 (caused_behind_reads _ _ _ _ _ (reads_on _ _ _ _ c.in_ok-blocks.ensures.reads c.loop-block.invariant.reads) c.in_err-read_nodes.ensures.caused)
