use Rattle.std.proofs.Common.{◌<◌, arith}
use Rattle.volume_rules.proofs.InPieces.{covering_touches}
use Rattle.volume_rules.proofs.pieces.places_over.Goals as goal

pub returns-then-len-eq0-clause-named : goal.returns-then-len-eq0-clause-named
returns-then-len-eq0-clause-named c = λ position has. (c.places_of.ensures.exactly position).0 has

pub returns-then-len-eq0-clause-all : goal.returns-then-len-eq0-clause-all
returns-then-len-eq0-clause-all c = λ position size at. (c.places_of.ensures.exactly position).1 (at.0, at.1, at.2, at.3.0)

pub returns-else-len-eq0-clause-named : goal.returns-else-len-eq0-clause-named
returns-else-len-eq0-clause-named c = λ position has.
    let at = (c.places_at.ensures.exactly position).0 has in
    (at.0, at.1, at.2, at.3.0)

pub returns-else-len-eq0-clause-all : goal.returns-else-len-eq0-clause-all
returns-else-len-eq0-clause-all c = λ position size at.
    let some : 0 < c.args.len = omega arith in
    (c.places_at.ensures.exactly position).1 (at.0, at.1, at.2, (at.3.0, covering_touches size c.args.offset c.args.len at.0 some at.3.1))
