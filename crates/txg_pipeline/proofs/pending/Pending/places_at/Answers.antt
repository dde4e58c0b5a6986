use Rattle.std.proofs.Common.{ℕ, List, sym, subst}
use Rattle.pool_model.specs.Pools.{Entry}
use Rattle.txg_pipeline.specs.Positions.{AreTouching, listed_at}
use Rattle.txg_pipeline.proofs.pending.Pending.places_at.Goals as goal

pub returns : goal.returns
returns c =
    subst (λ (positions : List ℕ). AreTouching c.args.name.now c.args.piece c.args.self.now.writes positions) (sym c.at.ensures)
    (subst (λ (e : Entry). AreTouching c.args.name.now c.args.piece e.writes (listed_at c.self.inside.places c.args.name.now c.args.piece)) c.self.view_is (c.self.invariant.touching c.args.name.now c.args.piece))
