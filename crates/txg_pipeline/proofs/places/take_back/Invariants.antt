use Rattle.std.proofs.Common.{◌≡◌, ℕ, ◌-◌, ◌<◌, length, take}
use Rattle.std.specs.Prelude.{cond, nat_le, nat_lt, ◌&&◌}
use Rattle.txg_pipeline.specs.Positions.{listed_in}
use Rattle.txg_pipeline.proofs.places.take_back.Given as goal

-- the pieces so far have lost their last position
abbrev pub invariant-loop-piece : goal.invariant-loop-piece
invariant-loop-piece l = record {
  taken : (q : ℕ) → listed_in l.pieces q ≡ cond (nat_le l.first q && nat_lt q l.piece) (take (length (listed_in l.fn.pieces q) - 1) (listed_in l.fn.pieces q)) (listed_in l.fn.pieces q);
  none : l.end < l.first → l.piece ≡ l.first;
}
