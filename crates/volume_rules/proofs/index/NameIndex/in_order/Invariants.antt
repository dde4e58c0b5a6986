use Rattle.volume_rules.proofs.Rows.{IsSorting}
use Rattle.volume_rules.proofs.index.NameIndex.in_order.Given as goal

-- what is put so far and what is left have the shape of each entry
abbrev pub invariant-loop-key : goal.invariant-loop-key
invariant-loop-key l = IsSorting (λ key. key.items) l.self.entries.entries l.key-iterator l.shapes.entries
