use Rattle.pool_command.specs.Reading.{new_pool}
use Rattle.pool_command.proofs.Passing.{after, fails_on, passed_on}
use Rattle.pool_command.proofs.reading.new_pool.Goals as goal

pub returns-in_err-parities : goal.returns-in_err-parities
unfolding new_pool
returns-in_err-parities c =
    passed_on _ c.from_residual-in_err-parities.result _ _ c.from_residual-in_err-parities.ensures.1
    (after _ _ _ _ c.in_ok-seed.ensures (after _ _ _ _ c.in_ok-bytes.ensures (after _ _ _ _ c.in_ok-meta.ensures (after _ _ _ _ c.in_ok-shift.ensures
    (after _ _ _ _ c.in_ok-name.ensures (fails_on _ _ _ c.in_err-parities.ensures))))))
