use Rattle.worker_items.specs.Parts.{IsPart}
use Rattle.worker_items.proofs.making.made_by.Given as goal

-- of the items before this number the worker has made its own
abbrev pub invariant-loop-number : goal.invariant-loop-number
invariant-loop-number g l = IsPart (g.I.Items.is_item l.items) l.workers l.worker 0 l.number l.row.items
