use Rattle.std.proofs.Common.{◌≡◌, length}
use Rattle.std.specs.Prelude.{map, All}
use Rattle.metaslab.specs.Spaces.{IsWhollyFree}
use Rattle.metaslab.proofs.group.MetaslabGroup.new.Given as goal

-- so many metaslabs, all wholly free and without a plan
abbrev pub invariant-loop : goal.invariant-loop
invariant-loop l =
    (length l.metaslabs.items ≡ l.counter) × All (λ m. IsWhollyFree m.kept l.sectors) l.metaslabs.items
    × (map (λ m. m.planned) l.metaslabs.items ≡ map (λ m. m.kept) l.metaslabs.items)
