use Rattle.std.proofs.Common.{◌≡◌}
use Rattle.std.specs.Prelude.{map}
use Rattle.metaslab.proofs.Elements.{HasBecome}
use Rattle.metaslab.proofs.Groups.{IsSettled}
use Rattle.metaslab.proofs.planned.settle_each.Given as goal

-- the metaslabs so far are settled, the rest are as they were, and none has a plan's copy
abbrev pub invariant-loop-metaslab : goal.invariant-loop-metaslab
invariant-loop-metaslab l =
    HasBecome (IsSettled l.pins l.group) l.initial.metaslabs.items l.metaslabs.items l.metaslab × (map (λ m. m.planned) l.metaslabs.items ≡ map (λ m. m.kept) l.metaslabs.items)
