use denote.Param.Send.{sendable}
use Rattle.tests_threads.proofs.Sending.{core_field_goes, core_goes}
use Rattle.tests_threads.proofs.failing_disks.in_threads.Goals as goal

pub new-requires-clause-sound : goal.new-requires-clause-sound
new-requires-clause-sound g c = λ truly. absurd truly

pub run_in_threads-requires-send-C : goal.run_in_threads-requires-send-C
run_in_threads-requires-send-C g c κs within = search (sendable, core_goes, core_field_goes) depth 20
