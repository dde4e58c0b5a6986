use Rattle.std.proofs.Common.{◌≡◌, take}
use Rattle.block_store.specs.Store.{outs_from}
use Rattle.pool_scrub.proofs.counting.missing_of.Given as goal

abbrev pub invariant-loop-disk : goal.invariant-loop-disk
invariant-loop-disk l = l.missing.items ≡ outs_from 0 (take l.disk l.out)
