use Rattle.tests_threads.proofs.in_threads.four_writers_in_one_to_four_threads.Given as goal

abbrev pub ghosts-played-L-Ledger : goal.ghosts-played-L-Ledger
ghosts-played-L-Ledger g a = record { name = a.steps.name; parts = a.steps.parts }

abbrev pub ghosts-played-M-Ledger : goal.ghosts-played-M-Ledger
ghosts-played-M-Ledger g a = record { name = a.calls.name; parts = a.calls.parts }
