use Rattle.tests_threads.proofs.failing_disks.shared_text.Given as goal

abbrev pub ghosts-in_threads-L-Ledger : goal.ghosts-in_threads-L-Ledger
ghosts-in_threads-L-Ledger g a = record { name = a.steps.name; parts = a.steps.parts }

abbrev pub ghosts-in_threads-M-Ledger : goal.ghosts-in_threads-M-Ledger
ghosts-in_threads-M-Ledger g a = record { name = a.calls.name; parts = a.calls.parts }
