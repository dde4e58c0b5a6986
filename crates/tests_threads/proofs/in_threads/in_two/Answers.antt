use denote.Param.Send.{sendable}
use Rattle.std.below.std_heap.proofs.GlobalAllocator.TheSendSync as allocator
use Rattle.std.proofs.alloc.Global.TheSendSync as heap
use Rattle.std.proofs.sync.ledger.Share.TheSendSync as share
use Rattle.shared_pool.proofs.counts.Shares.TheSendSync as shares
use Rattle.shared_pool.proofs.Sent.{shared_sync}
use Rattle.tests_threads.proofs.in_threads.in_two.Goals as goal

pub join-low-requires-send-F : goal.join-low-requires-send-F
join-low-requires-send-F g c κs within = search (sendable, heap.the_send, heap.the_sync, allocator.the_frees, share.the_send, shares.the_send, shared_sync) depth 20
