use Rattle.std.proofs.Common.{drop, slice_index, ◌∙◌, ap}
use Rattle.std.proofs.lemmas.List.{get_or-take, get_or-drop}
use Rattle.raidz_parity.proofs.sums.lanes_at.Goals.{then-at-column, else-at-column}
use Rattle.raidz_parity.proofs.sums.lanes_at.Goals as goal

pub returns-clause-lanes : goal.returns-clause-lanes
returns-clause-lanes c = elim c.if-at-column.branch [
  | then-at-column w ↦ λ k within.
      ap (λ xs. slice_index xs k) w.result-is
      ∙ get_or-take 64 (drop c.args.at c.args.column.now) k 0 within
      ∙ get_or-drop c.args.at c.args.column.now k 0
  | else-at-column w ↦ λ k within. ap (λ xs. slice_index xs k) w.result-is ∙ w.last_lanes.ensures k within
]
