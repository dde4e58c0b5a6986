use Rattle.thread_schedules.proofs.running.run_behind.Goals as goal

pub run_begun-requires-clause-begins : goal.run_begun-requires-clause-begins
run_begun-requires-clause-begins g c κs within = λ v. ((λ represents. represents), (λ represents. represents))
