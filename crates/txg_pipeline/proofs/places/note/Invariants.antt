use Rattle.std.proofs.Common.{◌≡◌, ℕ, ◌++◌, ◌<◌, [], ◌∷◌}
use Rattle.std.specs.Prelude.{cond, nat_le, nat_lt, ◌&&◌}
use Rattle.txg_pipeline.specs.Positions.{listed_in}
use Rattle.txg_pipeline.proofs.places.note.Given as goal

-- the pieces so far have the position
abbrev pub invariant-loop-piece : goal.invariant-loop-piece
invariant-loop-piece l = record {
  noted : (q : ℕ) → listed_in l.pieces q ≡ listed_in l.fn.pieces q ++ cond (nat_le l.first q && nat_lt q l.piece) (l.position ∷ []) [];
  none : l.end < l.first → l.piece ≡ l.first;
}
