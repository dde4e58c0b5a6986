use Rattle.std.proofs.Common.{get_or, refl, subst}
use Rattle.std.proofs.lemmas.List.{take_all, get_or_default}
use Rattle.dnode.specs.declared.dnode.Dnode.TheVariants.{Free}
use Rattle.objset.specs.declared.node_writes.NodeWrite.{NodeWrite}
use Rattle.objset.specs.NodeSlots.{HasSlots}
use Rattle.objset.specs.NodeWrites.{written_nodes}
use Rattle.objset.proofs.NodeLists.{slots_more}
use Rattle.objset.proofs.node_slots.put_nodes.Goals as goal

pub loop-write-preserved : goal.loop-write-preserved
loop-write-preserved c = λ id nodes same has.
    let none : NodeWrite = record { number = 0; node = Free } in
    let write : NodeWrite = get_or c.args.writes.now c.loop-write.write-index none in
    slots_more c.loop-write.block c.put_node.new.block id nodes c.args.writes.now c.loop-write.write-index write _ c.loop-write-test.true
    (get_or_default c.args.writes.now c.loop-write.write-index none write c.loop-write-test.true) c.requires.order same refl
    (c.requires.fits c.loop-write.write-index none c.loop-write-test.true) c.put_node.ensures.here c.put_node.ensures.others
    (c.loop-write.invariant id nodes same has)

pub returns : goal.returns
returns c = λ id nodes same has.
    subst (λ writes. HasSlots c.loop-write.block id (written_nodes writes nodes)) (take_all c.loop-write.write-index c.args.writes.now c.loop-write-test.false)
    (c.loop-write.invariant id nodes same has)
