use Rattle.tests_threads.proofs.failing_disks.taken_out.Goals as goal

pub new-requires-clause-sound : goal.new-requires-clause-sound
new-requires-clause-sound g c = λ truly. absurd truly
