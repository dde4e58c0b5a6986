use Rattle.std.proofs.Common.{Some, None, ◌≡◌}
use Rattle.block_store.specs.Store.{is_out, is_stale}
use Rattle.pool_commit.specs.Config.{vdevs_of}
use Rattle.pool_model.specs.Pools.{no_volumes}
use Rattle.pool_core.proofs.pool.Core.empty.Goals as goal

pub returns-clause-represents : goal.returns-clause-represents
returns-clause-represents g c = record {
  follows = c.opened.ensures (vdevs_of c.args.store.spaces) (is_out c.args.store.out) (is_stale c.args.store.spans.stale) no_volumes c.new.ensures
      (record {
        older = λ name volume found. absurd (let clash : None ≡ Some volume = found in cc);
        named = λ name volume found. absurd (let clash : None ≡ Some volume = found in cc);
      });
  backs = c.in_ok-commit.ensures.backs;
}
