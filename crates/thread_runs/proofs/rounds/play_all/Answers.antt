use denote.Param.Send.{sendable}
use Rattle.std.proofs.alloc.Global.TheSendSync as heap
use Rattle.shared_pool.proofs.Sent.{shared_sync}
use Rattle.thread_runs.proofs.signals.Signals.TheSendSync as signals
use Rattle.thread_runs.proofs.rounds.play_all.Goals as goal

pub map_vec-requires-sync-F : goal.map_vec-requires-sync-F
map_vec-requires-sync-F g c κs within = search (sendable, heap.the_sync, signals.the_sync, shared_sync) depth 20
