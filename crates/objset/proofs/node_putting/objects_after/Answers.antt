use Rattle.std.proofs.Common.{◌<◌, subst, All, arith}
use Rattle.std.proofs.lemmas.List.{take_all}
use Rattle.std.proofs.lemmas.List.Elements.{All-more, All-weaker}
use Rattle.dnode.specs.declared.dnode.Dnode.TheVariants.{Free}
use Rattle.objset.specs.declared.node_writes.NodeWrite.{NodeWrite}
use Rattle.objset.proofs.node_putting.objects_after.Goals as goal

pub loop-write-preserved : goal.loop-write-preserved
loop-write-preserved c =
    let none : NodeWrite = record { number = 0; node = Free } in
    record {
      from = omega (arith, c.max-objects.ensures, c.loop-write.invariant.from);
      room = All-more (λ (w : NodeWrite). w.number < c.max-objects.result) c.args.writes.now c.loop-write.write-index none c.loop-write-test.true
          (All-weaker (λ w. w.number < c.loop-write.objects) (λ w. w.number < c.max-objects.result) (λ w low. omega (arith, low, c.max-objects.ensures)) _ c.loop-write.invariant.room)
          (omega (arith, c.max-objects.ensures));
      least = λ objects le all.
          omega (arith, c.max-objects.ensures, c.loop-write.invariant.least objects le all, all c.loop-write.write-index none c.loop-write-test.true);
    }

pub returns-clause-room : goal.returns-clause-room
returns-clause-room c =
    subst (λ ws. All (λ (w : NodeWrite). w.number < c.loop-write.objects) ws) (take_all c.loop-write.write-index c.args.writes.now c.loop-write-test.false) c.loop-write.invariant.room
