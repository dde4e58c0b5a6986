use Rattle.std.proofs.Common.{take}
use Rattle.std.specs.Prelude.{fold}
use Rattle.pool_model.specs.Pools.{PlainPool, changed}
use Rattle.volume_rules.specs.Index.{Knows}
use Rattle.volume_rules.proofs.index.NameIndex.make_all.Given as goal

-- the actions so far are made
abbrev pub invariant-loop-action : goal.invariant-loop-action
invariant-loop-action l = (pool : PlainPool) → Knows l.fn.self pool → Knows l.self (fold (λ p a. changed l.group p a.change) pool (take l.action-index l.actions))
