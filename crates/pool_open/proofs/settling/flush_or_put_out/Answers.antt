use Rattle.std.proofs.Common.{◌∙◌, sym, arith}
use Rattle.pool_open.proofs.Outs.{put_out, used_at}
use Rattle.pool_slots.proofs.Writing.{flush_makes}
use Rattle.pool_open.proofs.Flushing.{flush_has_failed, flush_has_settled, flushing_kept, flushing_put_out}
use Rattle.pool_open.proofs.settling.flush_or_put_out.Goals as goal

pub returns-then-is_err-clause-gone : goal.returns-then-is_err-clause-gone
returns-then-is_err-clause-gone g c =
    let out = c.args.out.now.items in
    let used = used_at out c.args.which c.index.result.now (omega arith) c.index.ensures c.if-index.false in
    flushing_put_out out c.args.which c.args.disks.now c.flush.new.self used
    (flush_makes c.flush.result out c.args.disks.now c.flush.new.self c.args.which used c.flush.ensures.starts c.flush.ensures.calls)
    (flush_has_failed c.flush.result c.args.disks.now c.flush.new.self c.args.which c.flush.ensures.calls (sym c.is_err.ensures.value ∙ c.if-is_err.true))

pub returns-then-is_err-clause-settles : goal.returns-then-is_err-clause-settles
returns-then-is_err-clause-settles g c in_use =
    let out = c.args.out.now.items in
    absurd ((put_out out c.args.which (used_at out c.args.which c.index.result.now (omega arith) c.index.ensures c.if-index.false)).here in_use)

pub returns-else-is_err-clause-gone : goal.returns-else-is_err-clause-gone
returns-else-is_err-clause-gone g c =
    let out = c.args.out.now.items in
    flushing_kept out c.args.disks.now c.flush.new.self
    (flush_makes c.flush.result out c.args.disks.now c.flush.new.self c.args.which (used_at out c.args.which c.index.result.now (omega arith) c.index.ensures c.if-index.false)
    c.flush.ensures.starts c.flush.ensures.calls)

pub returns-else-is_err-clause-settles : goal.returns-else-is_err-clause-settles
returns-else-is_err-clause-settles g c =
    flush_has_settled c.flush.result c.args.out.now.items c.args.disks.now c.flush.new.self c.args.which c.flush.ensures.calls
    (sym c.is_err.ensures.value ∙ c.if-is_err.false)
