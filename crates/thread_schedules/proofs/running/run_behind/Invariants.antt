use Rattle.pool_create.specs.CoreStateOf.{state_of}
use Rattle.pool_create.specs.Represents.{Represents}
use Rattle.thread_schedules.proofs.running.run_behind.Given as goal

abbrev pub ghosts-run_begun-J-Beginning : goal.ghosts-run_begun-J-Beginning
ghosts-run_begun-J-Beginning g a = record { represents = λ v. Represents (state_of a.core) v }

abbrev pub ghosts-run_begun-L-Ledger : goal.ghosts-run_begun-L-Ledger
ghosts-run_begun-L-Ledger g a = record { name = a.steps.name; parts = a.steps.parts }

abbrev pub ghosts-run_begun-M-Ledger : goal.ghosts-run_begun-M-Ledger
ghosts-run_begun-M-Ledger g a = record { name = a.calls.name; parts = a.calls.parts }
