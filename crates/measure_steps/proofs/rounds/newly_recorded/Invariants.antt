use Rattle.measure_steps.proofs.rounds.newly_recorded.Given as goal

abbrev pub ghosts-in_record-L-Ledger : goal.ghosts-in_record-L-Ledger
ghosts-in_record-L-Ledger g a = record { name = a.steps.name; parts = a.steps.parts }

abbrev pub ghosts-in_record-M-Ledger : goal.ghosts-in_record-M-Ledger
ghosts-in_record-M-Ledger g a = record { name = a.calls.name; parts = a.calls.parts }
