use Rattle.std.proofs.Common.{ℕ, List, sym, subst}
use Rattle.pool_model.specs.Pools.{Entry}
use Rattle.txg_pipeline.specs.Positions.{AreOf, listed_of}
use Rattle.txg_pipeline.proofs.pending.Pending.places_of.Goals as goal

pub returns : goal.returns
returns c =
    subst (λ (positions : List ℕ). AreOf c.args.name.now c.args.self.now.writes positions) (sym c.of.ensures)
    (subst (λ (e : Entry). AreOf c.args.name.now e.writes (listed_of c.self.inside.places c.args.name.now)) c.self.view_is (c.self.invariant.all c.args.name.now))
