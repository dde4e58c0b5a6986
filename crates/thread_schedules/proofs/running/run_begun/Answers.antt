use denote.Param.Send.{sendable}
use Rattle.pool_create.specs.CoreStateOf.{state_of}
use Rattle.thread_schedules.proofs.Going.{core_field_goes, core_goes}
use Rattle.thread_schedules.proofs.Recorded.{all_runs}
use Rattle.thread_schedules.proofs.running.run_begun.Goals as goal

pub new-requires-clause-sound : goal.new-requires-clause-sound
new-requires-clause-sound g c = λ truly. (truly.0, (c.requires.begins truly.0).0 truly.1)

pub run_in_threads-requires-send-C : goal.run_in_threads-requires-send-C
run_in_threads-requires-send-C g c κs within = search (sendable, core_goes, core_field_goes) depth 20

pub returns-in-Ok-run_in_threads-clause-ok : goal.returns-in-Ok-run_in_threads-clause-ok
returns-in-Ok-run_in_threads-clause-ok g c =
    all_runs _ (λ it. state_of it.core) (λ it v represents. represents) (λ old v step given reply new w link. link) (state_of c.args.core)
    (λ first last v represents. (v, (c.requires.begins v).1 represents)) (g.W.Write.contents c.args.output.now) (g.W.Write.contents c.run_in_threads.new.output) c.in-Ok-run_in_threads.ensures
