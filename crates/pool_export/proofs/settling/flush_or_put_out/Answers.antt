use Rattle.std.proofs.Common.{◌∙◌, sym, arith}
use Rattle.model_disk.specs.Call.{flush_call}
use Rattle.model_disk.specs.Runs.{no_write}
use Rattle.pool_slots.specs.Slots.{InUse}
use Rattle.pool_slots.proofs.Phases.{MakesOn-none}
use Rattle.pool_slots.proofs.Writing.{flush_makes, flush_gives}
use Rattle.pool_export.proofs.Absence.{alone_one, ends_answered, ends_failed, ends_flush, go_kept, go_none, go_out, on_answered, put_out, used_at}
use Rattle.pool_export.proofs.settling.flush_or_put_out.Goals as goal

pub returns-then-index-clause-absent : goal.returns-then-index-clause-absent
returns-then-index-clause-absent g c = go_none c.args.out.now.items c.args.disks.now

pub returns-then-is_err-clause-absent : goal.returns-then-is_err-clause-absent
returns-then-is_err-clause-absent g c =
    let out = c.args.out.now.items in
    let old = c.args.disks.now in
    let new = c.flush.new.self in
    let ends = ends_failed c.flush.result old new c.args.which (sym c.is_err.ensures.value ∙ c.if-is_err.true) (ends_flush c.flush.result old new c.args.which c.flush.ensures.calls) in
    go_out out old new c.args.which (used_at out c.args.which c.index.result.now (omega arith) c.index.ensures c.if-index.false)
    (alone_one old new c.args.which (flush_call c.flush.result) c.flush.ensures.calls) ends.0 ends.1

pub returns-else-is_err-clause-absent : goal.returns-else-is_err-clause-absent
returns-else-is_err-clause-absent g c =
    let out = c.args.out.now.items in
    let old = c.args.disks.now in
    let new = c.flush.new.self in
    go_kept out old new c.args.which (alone_one old new c.args.which (flush_call c.flush.result) c.flush.ensures.calls)
    (ends_answered c.flush.result old new c.args.which (sym c.is_err.ensures.value ∙ c.if-is_err.false) (ends_flush c.flush.result old new c.args.which c.flush.ensures.calls))

pub returns-then-is_err-clause-makes : goal.returns-then-is_err-clause-makes
returns-then-is_err-clause-makes g c =
    let out = c.args.out.now.items in
    flush_makes c.flush.result out c.args.disks.now c.flush.new.self c.args.which (used_at out c.args.which c.index.result.now (omega arith) c.index.ensures c.if-index.false)
    c.flush.ensures.starts c.flush.ensures.calls

pub returns-else-is_err-clause-makes : goal.returns-else-is_err-clause-makes
returns-else-is_err-clause-makes g c =
    let out = c.args.out.now.items in
    flush_makes c.flush.result out c.args.disks.now c.flush.new.self c.args.which (used_at out c.args.which c.index.result.now (omega arith) c.index.ensures c.if-index.false)
    c.flush.ensures.starts c.flush.ensures.calls

pub returns-then-is_err-clause-settles : goal.returns-then-is_err-clause-settles
returns-then-is_err-clause-settles g c in_use =
    let out = c.args.out.now.items in
    absurd ((put_out out c.args.which (used_at out c.args.which c.index.result.now (omega arith) c.index.ensures c.if-index.false)).here in_use)

pub returns-else-is_err-clause-settles : goal.returns-else-is_err-clause-settles
returns-else-is_err-clause-settles g c in_use =
    on_answered c.flush.result _ (sym c.is_err.ensures.value ∙ c.if-is_err.false)
    (flush_gives c.flush.result c.args.out.now.items c.args.disks.now c.flush.new.self c.args.which c.flush.ensures.calls) in_use
