use Rattle.std.proofs.Common.{◌≡◌, ◌∙◌, ℕ, Err, slice_set, true, sym, subst, arith}
use Rattle.std.specs.Prelude.{Vec}
use Rattle.std.specs.declared.alloc.Global.{Global}
use Rattle.pool_slots.specs.Reads.{OnlyReads, nowhere}
use Rattle.pool_slots.specs.Slots.{InUse, is_disk}
use Rattle.pool_slots.proofs.ReadRuns.{reads_on}
use Rattle.pool_export.specs.Faults.{EndsAtFault, is_fault}
use Rattle.pool_export.specs.Reads.{ReadsArea}
use Rattle.pool_export.specs.declared.unread.Unread.{Unread}
use Rattle.pool_export.proofs.Absence.{go_kept, go_out, put_out, used_at}
use Rattle.pool_export.proofs.Scans.{fault_is, reads_faulty, reads_one}
use Rattle.pool_export.proofs.reading.read_or_put_out.Goals as goal

pub returns-in-Ok-clause-absent : goal.returns-in-Ok-clause-absent
returns-in-Ok-clause-absent g c =
    let out = c.args.out.now.items in
    let old = c.args.disks.now in
    let new = c.read_area.new.disks in
    go_kept out old new c.args.which (reads_on c.read_area.ensures.only).alone c.in-Ok.ensures.ends

pub returns-in-Ok-clause-only : goal.returns-in-Ok-clause-only
returns-in-Ok-clause-only g c =
    let out = c.args.out.now.items in
    let old = c.args.disks.now in
    let new = c.read_area.new.disks in
    reads_one out out c.args.which old new nowhere (used_at out c.args.which c.index.result.now (omega arith) c.index.ensures c.if-index.false) (λ disk none. absurd none) c.in-Ok.ensures.only

pub returns-in-Err-NoMemory-clause-absent : goal.returns-in-Err-NoMemory-clause-absent
returns-in-Err-NoMemory-clause-absent g c =
    let out = c.args.out.now.items in
    let old = c.args.disks.now in
    let new = c.read_area.new.disks in
    let E : Unread → Type 0 = λ e. EndsAtFault {T = Vec ℕ Global} (Err e) old new c.args.which in
    go_kept out old new c.args.which (reads_on c.read_area.ensures.only).alone (subst E c.in-Err-NoMemory.field-0-is c.in-Err-NoMemory.ensures.ends)

pub returns-in-Err-NoMemory-clause-only : goal.returns-in-Err-NoMemory-clause-only
returns-in-Err-NoMemory-clause-only g c =
    let out = c.args.out.now.items in
    let old = c.args.disks.now in
    let new = c.read_area.new.disks in
    let O : Unread → Type 0 = λ e. OnlyReads (is_disk c.args.which) (is_fault e) old new in
    reads_one out out c.args.which old new nowhere (used_at out c.args.which c.index.result.now (omega arith) c.index.ensures c.if-index.false) (λ disk none. absurd none) (subst O c.in-Err-NoMemory.field-0-is c.in-Err-NoMemory.ensures.only)

pub returns-in-Err-NoLabel-clause-absent : goal.returns-in-Err-NoLabel-clause-absent
returns-in-Err-NoLabel-clause-absent g c =
    let out = c.args.out.now.items in
    let old = c.args.disks.now in
    let new = c.read_area.new.disks in
    let E : Unread → Type 0 = λ e. EndsAtFault {T = Vec ℕ Global} (Err e) old new c.args.which in
    go_kept out old new c.args.which (reads_on c.read_area.ensures.only).alone (subst E c.in-Err-NoLabel.field-0-is c.in-Err-NoLabel.ensures.ends)

pub returns-in-Err-NoLabel-clause-only : goal.returns-in-Err-NoLabel-clause-only
returns-in-Err-NoLabel-clause-only g c =
    let out = c.args.out.now.items in
    let old = c.args.disks.now in
    let new = c.read_area.new.disks in
    let O : Unread → Type 0 = λ e. OnlyReads (is_disk c.args.which) (is_fault e) old new in
    reads_one out out c.args.which old new nowhere (used_at out c.args.which c.index.result.now (omega arith) c.index.ensures c.if-index.false) (λ disk none. absurd none) (subst O c.in-Err-NoLabel.field-0-is c.in-Err-NoLabel.ensures.only)

pub returns-in-Err-DiskFault-clause-absent : goal.returns-in-Err-DiskFault-clause-absent
returns-in-Err-DiskFault-clause-absent g c =
    let out = c.args.out.now.items in
    let old = c.args.disks.now in
    let new = c.read_area.new.disks in
    let E : Unread → Type 0 = λ e. EndsAtFault {T = Vec ℕ Global} (Err e) old new c.args.which in
    let R : Unread → Type 0 = λ e. ReadsArea c.args.uberblock.now old new c.args.which (Err e) in
    go_out out old new c.args.which (used_at out c.args.which c.index.result.now (omega arith) c.index.ensures c.if-index.false) (reads_on c.read_area.ensures.only).alone
    (subst E c.in-Err-DiskFault.field-0-is c.in-Err-DiskFault.ensures.ends)
    (fault_is c.args.which c.in-Err-DiskFault.field-0-0 old new (is_fault c.in-Err-DiskFault.field-0) c.in-Err-DiskFault.ensures.only (subst R c.in-Err-DiskFault.field-0-is c.in-Err-DiskFault.ensures.reads))

pub returns-in-Err-DiskFault-clause-only : goal.returns-in-Err-DiskFault-clause-only
returns-in-Err-DiskFault-clause-only g c =
    let out = c.args.out.now.items in
    let old = c.args.disks.now in
    let new = c.read_area.new.disks in
    let O : Unread → Type 0 = λ e. OnlyReads (is_disk c.args.which) (is_fault e) old new in
    let later = slice_set out c.args.which true in
    let put = put_out out c.args.which (used_at out c.args.which c.index.result.now (omega arith) c.index.ensures c.if-index.false) in
    reads_faulty out later c.args.which old new (is_fault c.in-Err-DiskFault.field-0) (used_at out c.args.which c.index.result.now (omega arith) c.index.ensures c.if-index.false) put.here c.in-Err-DiskFault.ensures.only

pub returns-in-Err-DiskFault-clause-reads : goal.returns-in-Err-DiskFault-clause-reads
returns-in-Err-DiskFault-clause-reads g c in_use =
    let out = c.args.out.now.items in
    absurd ((put_out out c.args.which (used_at out c.args.which c.index.result.now (omega arith) c.index.ensures c.if-index.false)).here in_use)

pub returns-in-Err-NoLabel-clause-reads : goal.returns-in-Err-NoLabel-clause-reads
returns-in-Err-NoLabel-clause-reads g c =
    let out = c.args.out.now.items in
    let old = c.args.disks.now in
    let new = c.read_area.new.disks in
    let R : Unread → Type 0 = λ e. ReadsArea c.args.uberblock.now old new c.args.which (Err e) in
    let it = subst R c.in-Err-NoLabel.field-0-is c.in-Err-NoLabel.ensures.reads in
    (it.0, (used_at out c.args.which c.index.result.now (omega arith) c.index.ensures c.if-index.false), it.1)
