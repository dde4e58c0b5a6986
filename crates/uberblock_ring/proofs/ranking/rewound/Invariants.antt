use Rattle.uberblock_ring.proofs.Ranks.{NoneRewound}
use Rattle.uberblock_ring.proofs.ranking.rewound.Given as goal

abbrev pub invariant-loop-i : goal.invariant-loop-i
invariant-loop-i l = NoneRewound l.i l.slots l.from l.groups
