use Rattle.std.proofs.Common.{◌≡◌}
use Rattle.metaslab.proofs.Elements.{HasBecome}
use Rattle.metaslab.proofs.Groups.{IsDropped}
use Rattle.metaslab.proofs.group.MetaslabGroup.drop_planned.Given as goal

-- the metaslabs so far, and the rest as they were
abbrev pub invariant-loop-metaslab : goal.invariant-loop-metaslab
invariant-loop-metaslab l =
    HasBecome IsDropped l.initial.self-inside.metaslabs.items l.self-inside.metaslabs.items l.metaslab × (l.self-inside.pins ≡ l.initial.self-inside.pins)
