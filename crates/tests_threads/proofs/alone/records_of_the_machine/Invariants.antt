use Rattle.tests_threads.proofs.alone.records_of_the_machine.Given as goal

abbrev pub ghosts-over_the_machine-L-Ledger : goal.ghosts-over_the_machine-L-Ledger
ghosts-over_the_machine-L-Ledger g a = record { name = a.steps.name; parts = a.steps.parts }

abbrev pub ghosts-over_the_machine-M-Ledger : goal.ghosts-over_the_machine-M-Ledger
ghosts-over_the_machine-M-Ledger g a = record { name = a.calls.name; parts = a.calls.parts }
