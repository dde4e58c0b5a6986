use Rattle.std.proofs.lemmas.List.Elements.{All-map}
use Rattle.metaslab.specs.Spaces.{IsWhollyFree}
use Rattle.metaslab.proofs.group.MetaslabGroup.new.Goals as goal

pub returns-clause-free : goal.returns-clause-free
returns-clause-free c = All-map (λ space. IsWhollyFree space c.args.sectors) (λ m. m.kept) c.loop.metaslabs.items c.loop.invariant.1
