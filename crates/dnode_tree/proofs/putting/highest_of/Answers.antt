use Rattle.std.proofs.Common.{◌≤◌, ap, subst, All, arith}
use Rattle.std.proofs.lemmas.List.{take_all}
use Rattle.std.proofs.lemmas.List.Elements.{All-more, All-weaker}
use Rattle.dnode_tree.specs.declared.writes.BlockWrite.{BlockWrite}
use Rattle.dnode_tree.proofs.Raised.{highest_from, highest_room, highest_least}
use Rattle.dnode_tree.specs.Writes.{highest_with}
use Rattle.dnode_tree.proofs.putting.highest_of.Goals as goal

pub loop-write-preserved : goal.loop-write-preserved
loop-write-preserved c =
    let here = ap (λ (w : BlockWrite). w.id) c.write-item.is in
    let low = c.requires.ids c.loop-write.write-index c.write-item.result c.loop-write-test.true in
    record {
      small = omega (arith, c.max-highest.ensures, c.loop-write.invariant.small, here, low);
      from = omega (arith, c.max-highest.ensures, c.loop-write.invariant.from);
      room = All-more (λ w. w.id ≤ c.max-highest.result) _ _ c.write-item.result c.loop-write-test.true
          (All-weaker (λ w. w.id ≤ c.loop-write.highest) (λ w. w.id ≤ c.max-highest.result) (λ w le. omega (arith, le, c.max-highest.ensures)) _ c.loop-write.invariant.room)
          (omega (arith, here, c.max-highest.ensures));
      least = λ highest le all.
          omega (arith, c.max-highest.ensures, c.loop-write.invariant.least highest le all, here, all c.loop-write.write-index c.write-item.result c.loop-write-test.true);
    }

pub returns-clause-room : goal.returns-clause-room
returns-clause-room c =
    subst (λ ws. All (λ (w : BlockWrite). w.id ≤ c.loop-write.highest) ws) (take_all c.loop-write.write-index c.args.writes.now c.loop-write-test.false) c.loop-write.invariant.room

pub returns-clause-value : goal.returns-clause-value
returns-clause-value c =
    let room = subst (λ ws. All (λ (w : BlockWrite). w.id ≤ c.loop-write.highest) ws) (take_all c.loop-write.write-index c.args.writes.now c.loop-write-test.false) c.loop-write.invariant.room in
    omega (
      arith,
      c.loop-write.invariant.least (highest_with c.args.writes.now c.args.before) (highest_from c.args.writes.now c.args.before) (highest_room c.args.writes.now c.args.before),
      highest_least c.args.writes.now c.args.before c.loop-write.highest c.loop-write.invariant.from room,
    )
