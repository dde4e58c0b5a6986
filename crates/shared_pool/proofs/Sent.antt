-- What may go to another thread.
use denote.RattleType.{RattleType}
use denote.Param.Send.{IsSend, IsSync, sendable, struct_send, recorded_send as row_send}
use denote.Struct.Declared.{shape}
use Rattle.std.below.std_heap.proofs.GlobalAllocator.TheSendSync as allocator
use Rattle.std.proofs.alloc.Global.TheSendSync as heap
use Rattle.std.proofs.vec.Vec.TheSendSync as vec
use Rattle.std.proofs.sync.ledger.Book.TheSendSync as book
use Rattle.std.proofs.sync.Mutex.TheSendSync as mutex
use Rattle.std.specs.contracts.snapshot.Snapshot.{the_row as snapshot_row}
use Rattle.std.specs.declared.sync.ledger.Ledger.{Ghosts as LedgerGhosts}
use Rattle.pool_steps.specs.declared.steps.PoolSteps.{Ghosts}
use Rattle.std.specs.contracts.sync.ledger.Book.{the_row as book_row}
use Rattle.std.specs.contracts.vec.Vec.{the_row as vec_row}
use Rattle.std.specs.contracts.alloc.Global.{the_row as heap_row}
use Rattle.std.specs.contracts.impls.GlobalAllocator.TheImpl.{ghosts as heap_ghosts}
use Rattle.shared_pool.specs.contracts.recorded.Entry.{the_row as entry_row}
use Rattle.shared_pool.specs.contracts.counts.Books.{the_field as books_field}
use Rattle.shared_pool.specs.contracts.recorded.Recorded.{the_row as recorded_row}
use Rattle.shared_pool.specs.contracts.recorded.Recorded.TheInside as inside
use Rattle.shared_pool.specs.contracts.pool.SharedPool.{the_row as shared_row}
use Rattle.shared_pool.proofs.recorded.Entry.TheSendSync as entry

pub snapshot_send : (C : RattleType) → IsSend (snapshot_row C)
snapshot_send C = record { owned = λ x vs. search sendable depth 8; leaving = λ k f vs. search sendable }

pub inside_send : (C L M : RattleType) (g : Ghosts C.Denot) (l : LedgerGhosts L.Denot) (m : LedgerGhosts M.Denot) → IsSend C → IsSend (inside.the_row C L M g l m)
inside_send C L M g l m c =
    let entries_send : IsSend (vec_row entry_row heap_row heap_ghosts) = search (sendable, entry.the_send, vec.the_send, heap.the_send, allocator.the_frees) depth 16 in
    let books_send : IsSend (books_field L M l m).row = search (sendable, book.the_send) depth 16 in
    row_send (inside.the_field C L M g l m).row _ _ (inside.the_type C L M g l m).to_one
    (struct_send (shape (inside.the_type C L M g l m)) (heap.the_field_send, (c, (snapshot_send C, (snapshot_send C, (entries_send, (search sendable, (books_send, (snapshot_send (book_row M m), tt)))))))))

pub recorded_send : (C L M : RattleType) (g : Ghosts C.Denot) (l : LedgerGhosts L.Denot) (m : LedgerGhosts M.Denot) → IsSend C → IsSend (recorded_row C L M g l m)
recorded_send C L M g l m c = search (sendable, inside_send)

pub shared_sync : (C L M : RattleType) (g : Ghosts C.Denot) (l : LedgerGhosts L.Denot) (m : LedgerGhosts M.Denot) → IsSend C → IsSync (shared_row C L M g l m)
shared_sync C L M g l m c = search (sendable, recorded_send, mutex.the_sync, heap.the_sync) depth 16
