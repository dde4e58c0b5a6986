use Rattle.tests_threads.proofs.failing_disks.disks_are_taken_out_by_the_syncer.Given as goal

abbrev pub ghosts-taken_out-L-Ledger : goal.ghosts-taken_out-L-Ledger
ghosts-taken_out-L-Ledger g a = record { name = a.steps.name; parts = a.steps.parts }

abbrev pub ghosts-taken_out-M-Ledger : goal.ghosts-taken_out-M-Ledger
ghosts-taken_out-M-Ledger g a = record { name = a.calls.name; parts = a.calls.parts }
