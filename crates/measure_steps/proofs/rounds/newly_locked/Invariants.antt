use Rattle.measure_steps.proofs.rounds.newly_locked.Given as goal

abbrev pub ghosts-locked-L-Ledger : goal.ghosts-locked-L-Ledger
ghosts-locked-L-Ledger g a = record { name = a.steps.name; parts = a.steps.parts }

abbrev pub ghosts-locked-M-Ledger : goal.ghosts-locked-M-Ledger
ghosts-locked-M-Ledger g a = record { name = a.calls.name; parts = a.calls.parts }
