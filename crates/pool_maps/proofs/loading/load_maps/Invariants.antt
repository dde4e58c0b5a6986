use Rattle.std.proofs.Common.{◌≡◌, ◌++◌}
use Rattle.pool_maps.proofs.LoadedStores.{LoadedUpTo}
use Rattle.pool_maps.proofs.loading.load_maps.Given as goal

-- those so far were loaded, and these are left
abbrev pub invariant-loop-read : goal.invariant-loop-read
invariant-loop-read g l = LoadedUpTo l.fn.store l.store l.yielded × (l.fn.maps.items ≡ l.yielded ++ l.read-iterator.rest.items)
