use Rattle.std.specs.Prelude.{Contains}
use Rattle.std.specs.List.{AllWithin}
use Rattle.uberblock_ring.specs.Ranking.{RanksUpTo}
use Rattle.uberblock_ring.proofs.ranking.best.Given as goal

abbrev pub invariant-loop-u : goal.invariant-loop-u
invariant-loop-u l = Contains l.uberblocks l.best × AllWithin (λ u. RanksUpTo u l.best) l.uberblocks 0 l.u-index
