-- Runs keep what uberblocks say of the configuration.
use Rattle.std.proofs.Common.{◌≡◌, List, [], ◌∷◌, ⊎_elim, sym, ap, ◌∙◌}
use Rattle.pool_open.specs.CommitState.{State}
use Rattle.pool_open.specs.Moves.{Moves}
use Rattle.pool_open.specs.CoreRuns.{Chain}
use Rattle.pool_open.specs.CoreState.{CoreState}
use Rattle.pool_model.specs.View.{Given, View}
use Rattle.pool_model.specs.declared.step.Reply.{Reply}
use Rattle.pool_model.specs.declared.step.Step.{Step}
use Rattle.pool_model.specs.declared.step.Step.TheVariants.{Hold, Write, Act, Release, Close, Quiesce, Plan, Device, DiskOut, Read, ReadUnder}

step_stamp : (step : Step) (old new : State) → Moves step old new → new.stamp ≡ old.stamp
step_stamp (Hold x) old new moves = ap (λ s. s.stamp) moves
step_stamp (Write x) old new moves = ap (λ s. s.stamp) moves
step_stamp (Act x) old new moves = ap (λ s. s.stamp) moves
step_stamp (Release x) old new moves = ap (λ s. s.stamp) moves
step_stamp Close old new moves = ap (λ s. s.stamp) moves
step_stamp Quiesce old new moves = ap (λ s. s.stamp) moves
step_stamp (Plan t) old new moves = ⊎_elim (λ same. ap (λ s. s.stamp) same) (λ plans. plans.from.stamp) moves
step_stamp Device old new moves = ⊎_elim (λ same. ap (λ s. s.stamp) same) (λ writes. writes.stamp) moves
step_stamp (DiskOut d) old new moves = ⊎_elim (λ same. ap (λ s. s.stamp) same) (λ takes. takes.stamp) moves
step_stamp (Read a b c) old new moves = ap (λ s. s.stamp) moves.rest
step_stamp (ReadUnder g a b c) old new moves = ap (λ s. s.stamp) moves.rest

pub chain_stamp : (old : CoreState) (v : View) (steps : List Step) (givens : List Given) (replies : List Reply) (new : CoreState) (w : View) → Chain old v steps givens replies new w
    → new.commit.stamp ≡ old.commit.stamp
chain_stamp old v [] [] [] new w chain = ap (λ (s : CoreState). s.commit.stamp) (sym chain.0)
chain_stamp old v (step ∷ steps) (given ∷ givens) (reply ∷ replies) new w chain =
    chain_stamp chain.0 chain.1 steps givens replies new w chain.5 ∙ step_stamp step old.commit (chain.0).commit chain.4
chain_stamp old v steps givens replies new w chain = absurd chain
