use Rattle.std.proofs.Common.{◌+◌, sym, subst, Global}
use Rattle.std.specs.declared.collections.VecDeque.{VecDeque}
use Rattle.worker_items.specs.declared.items.Made.{Made}
use Rattle.worker_items.specs.Parts.{IsPart}
use Rattle.worker_items.proofs.Growing.{part_made, part_passed}
use Rattle.worker_items.proofs.making.made_by.Goals as goal
use Rattle.worker_items.proofs.making.made_by.Goals.{then-number-workers+in_ok-item+in_ok-push_back, else-number-workers}

pub loop-number-preserved : goal.loop-number-preserved
loop-number-preserved g c =
    let is_item = g.I.Items.is_item c.args.items.now in
    let number = c.loop-number.number in
    elim c.if-number-workers.branch [
      | then-number-workers+in_ok-item+in_ok-push_back w ↦
          subst (λ (row : VecDeque (Made g.row.T.Denot) Global). IsPart is_item c.args.workers c.args.worker 0 (number + 1) row.items) (sym w.row-is)
          (part_made is_item c.args.workers c.args.worker number w.in_ok-item.item c.loop-number.row.items w.push_back.new.self.items
          c.loop-number.invariant w.if-number-workers.true w.in_ok-item.ensures w.in_ok-push_back.ensures.items)
      | else-number-workers w ↦
          subst (λ (row : VecDeque (Made g.row.T.Denot) Global). IsPart is_item c.args.workers c.args.worker 0 (number + 1) row.items) (sym w.row-is)
          (part_passed is_item c.args.workers c.args.worker number c.loop-number.row.items c.loop-number.invariant w.if-number-workers.false)
    ]
