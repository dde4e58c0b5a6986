use Rattle.std.proofs.Common.{◌≡◌, inr, ◌+◌, ◌*◌, ◌/◌, List, All, refl, sym, subst, arith}
use Rattle.std.specs.List.{Any}
use Rattle.dnode_tree.specs.declared.writes.BlockWrite.{BlockWrite}
use Rattle.dnode_tree.specs.Writes.{written}
use Rattle.block_store.proofs.Steps.{reads_none, reads_on}
use Rattle.dnode_tree.proofs.FurtherReads.{told_after}
use Rattle.dnode_tree.proofs.Refusing.{passed_on}
use Rattle.objset.specs.declared.node_writes.NodeWrite.{NodeWrite}
use Rattle.objset.specs.Nodes.{AreNodesOf}
use Rattle.objset.specs.NodeWrites.{written_nodes}
use Rattle.objset.proofs.ChangedBlocks.{IsChanging, changing_begins, block_changed, front_is_all, run_here}
use Rattle.objset.proofs.Refusing.{first_unread}
use Rattle.block_store.proofs.Causes.{caused_behind_reads}
use Rattle.objset.proofs.node_changes.block_writes.Goals as goal

pub loop-first-init : goal.loop-first-init
loop-first-init g c = changing_begins c.args.set.now c.args.store.now c.args.missing.now c.args.birth c.args.writes.now c.new-changed.result.items
    (reads_none c.args.store.now c.args.missing.now) c.requires.writes c.new-changed.ensures.items

pub changed_block-requires-clause-here : goal.changed_block-requires-clause-here
changed_block-requires-clause-here g c =
    subst (All (λ (w : NodeWrite). w.number / 32 ≡ c.in-Some.first.now.number / 32)) (sym c.split_at.ensures.front)
    (run_here c.loop-first.rest.now c.in-Some.first.now c.count_before.result (c.in-Some.first.now.number / 32) (32 * (c.in-Some.first.now.number / 32 + 1))
    c.loop-first.invariant.left c.in-Some.ensures.item.3.0 c.in-Some.ensures.item.1 refl refl c.count_before.ensures.before c.count_before.ensures.behind)

pub returns-in_err-bytes-clause-reads : goal.returns-in_err-bytes-clause-reads
returns-in_err-bytes-clause-reads g c = reads_on _ _ _ _ c.loop-first.invariant.reads c.in_err-bytes.ensures.reads

pub returns-in_err-bytes-clause-known : goal.returns-in_err-bytes-clause-known
returns-in_err-bytes-clause-known g c =
    passed_on _ _ _ c.from_residual.ensures.1
    (λ stored array blocks held tree tell.
    c.in_err-bytes.ensures.known stored array blocks (c.loop-first.invariant.reads.keeps stored held) tree
    (told_after _ _ _ _ c.loop-first.invariant.reads c.in_err-bytes.ensures.reads tell))

pub loop-first-preserved : goal.loop-first-preserved
loop-first-preserved g c =
    subst (λ changed. IsChanging c.args.set.now c.args.store.now c.changed_block.new.store c.args.missing.now c.args.birth c.args.writes.now c.split_at.result.1.now changed)
    (sym c.in_ok-push.ensures)
    (block_changed c.args.set.now c.args.store.now c.loop-first.store c.changed_block.new.store c.args.missing.now c.args.birth c.args.writes.now c.loop-first.rest.now
    c.split_at.result.0.now c.split_at.result.1.now c.loop-first.changed.items (record { id = c.in-Some.first.now.number / 32; bytes = c.in_ok-bytes.bytes })
    c.loop-first.invariant c.in_ok-bytes.ensures.reads c.in-Some.first.now c.count_before.result c.in-Some.ensures.item.3.0 c.in-Some.ensures.item.1 refl
    c.count_before.ensures.before c.count_before.ensures.behind c.split_at.ensures.front c.split_at.ensures.front_len c.split_at.ensures.back
    (omega (arith, c.in_ok-bytes.ensures.size, c.requires.set.1.sectors)) c.in_ok-bytes.ensures.value)

pub returns-in_err-push-clause-reads : goal.returns-in_err-push-clause-reads
returns-in_err-push-clause-reads g c = reads_on _ _ _ _ c.loop-first.invariant.reads c.in_ok-bytes.ensures.reads

pub returns-clause-reached : goal.returns-clause-reached
returns-clause-reached g c =
    subst (All (λ (w : NodeWrite). Any (λ (b : BlockWrite). b.id ≡ w.number / 32) c.loop-first.changed.items))
    (front_is_all _ _ _ _ _ _ _ _ c.loop-first.invariant c.in_default.ensures.item.3) c.loop-first.invariant.reached

pub returns-clause-only : goal.returns-clause-only
returns-clause-only g c =
    subst (λ (writes : List NodeWrite). All (λ (b : BlockWrite). Any (λ (w : NodeWrite). w.number / 32 ≡ b.id) writes) c.loop-first.changed.items)
    (front_is_all _ _ _ _ _ _ _ _ c.loop-first.invariant c.in_default.ensures.item.3) c.loop-first.invariant.only

pub returns-clause-value : goal.returns-clause-value
returns-clause-value g c = λ stored array nodes blocks held tree are tell.
    subst (λ writes. AreNodesOf (written c.loop-first.changed.items array) (written_nodes writes nodes))
    (front_is_all _ _ _ _ _ _ _ _ c.loop-first.invariant c.in_default.ensures.item.3)
    (c.loop-first.invariant.value stored array nodes blocks held tree are tell)

pub returns-in_err-bytes-clause-refused : goal.returns-in_err-bytes-clause-refused
returns-in_err-bytes-clause-refused g c =
    passed_on _ _ _ c.from_residual.ensures.1
    (inr (first_unread c.args.store.now c.loop-first.store c.changed_block.new.store c.args.missing.now c.args.set.now c.args.birth c.args.writes.now c.loop-first.invariant.front
    c.loop-first.rest.now c.in-Some.first.now _ c.loop-first.invariant.all c.in-Some.ensures.item.3.0 (sym c.in-Some.ensures.item.1) c.loop-first.invariant.reads
    c.in_err-bytes.ensures.refused))

pub returns-in_err-bytes-clause-caused : goal.returns-in_err-bytes-clause-caused
returns-in_err-bytes-clause-caused g c =
    passed_on _ _ _ c.from_residual.ensures.1 (caused_behind_reads _ _ _ _ _ c.loop-first.invariant.reads c.in_err-bytes.ensures.caused)
