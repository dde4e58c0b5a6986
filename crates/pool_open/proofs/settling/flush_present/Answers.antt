use Rattle.std.proofs.Common.{arith, ap, sym, ◌∙◌, length}
use Rattle.pool_slots.proofs.Used.{are_there}
use Rattle.pool_open.proofs.Flushing.{flushing_none, flushing_on, settled_on}
use Rattle.pool_open.proofs.settling.flush_present.Goals as goal

pub loop-which-init : goal.loop-which-init
loop-which-init g c = record {
  gone = flushing_none c.args.out.now.items c.args.disks.now;
  settled = λ which used below. absurd (omega (arith, below));
}

pub loop-which-preserved : goal.loop-which-preserved
loop-which-preserved g c = record {
  gone = flushing_on c.args.out.now.items c.loop-which.out.items c.flush_or_put_out.new.out.items c.args.disks.now c.loop-which.disks c.flush_or_put_out.new.disks
      c.loop-which.invariant.gone c.flush_or_put_out.ensures.gone;
  settled = settled_on c.loop-which.out.items c.flush_or_put_out.new.out.items c.loop-which.disks c.flush_or_put_out.new.disks c.loop-which.which
      c.flush_or_put_out.ensures.gone c.flush_or_put_out.ensures.settles c.loop-which.invariant.settled;
}

pub returns-clause-settled : goal.returns-clause-settled
returns-clause-settled g c which used =
    let gone = c.loop-which.invariant.gone in
    c.loop-which.invariant.settled which used
    (omega (
      arith,
      are_there c.loop-which.out.items c.loop-which.disks.starts (gone.count ∙ c.requires.count ∙ ap length (sym gone.flushes.makes.starts)) which used,
      c.loop-which-test.false,
      c.len-which-end.ensures,
      ap length gone.flushes.makes.starts,
    ))
