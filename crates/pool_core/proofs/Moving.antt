-- What steps do to what is committed.
use Rattle.std.proofs.Common.{inl, refl}
use Rattle.pool_model.specs.declared.step.Step.{Step}
use Rattle.pool_model.specs.declared.step.Step.TheVariants as steps
use Rattle.pool_commit.specs.State.{State}
use Rattle.pool_core.specs.Moves.{Moves}
use Rattle.pool_core.proofs.ReadSteps.{reads_nothing}

-- nothing was done, whatever the step
pub moves_nothing : (step : Step) (s : State) → Moves step s s
moves_nothing (steps.Hold writer) s = refl
moves_nothing (steps.Write write) s = refl
moves_nothing (steps.Act action) s = refl
moves_nothing (steps.Release writer) s = refl
moves_nothing steps.Close s = refl
moves_nothing steps.Quiesce s = refl
moves_nothing (steps.Plan timestamp) s = inl refl
moves_nothing steps.Device s = inl refl
moves_nothing (steps.DiskOut disk) s = inl refl
moves_nothing (steps.Read name offset len) s = reads_nothing s
moves_nothing (steps.ReadUnder group name offset len) s = reads_nothing s
