use Rattle.std.proofs.Common.{length, arith, ap, sym, ◌∙◌}
use Rattle.model_disk.specs.Runs.{no_write}
use Rattle.pool_slots.specs.Slots.{InUse}
use Rattle.pool_slots.proofs.Phases.{MakesOn-more, MakesOn-none, MakesOn-wider}
use Rattle.pool_slots.proofs.Used.{are_there}
use Rattle.pool_slots.proofs.Writing.{settled_next}
use Rattle.pool_export.proofs.Absence.{go_none, go_on}
use Rattle.pool_export.proofs.settling.flush_all.Goals as goal

pub loop-which-init : goal.loop-which-init
loop-which-init g c = record {
  absent = go_none c.args.out.now.items c.args.disks.now;
  makes = MakesOn-none (InUse c.args.out.now.items) no_write c.args.disks.now;
  settled = λ d used below. absurd (omega (arith, below));
}

pub loop-which-preserved : goal.loop-which-preserved
loop-which-preserved g c =
    let first = c.args.out.now.items in
    let out = c.loop-which.out.items in
    let later = c.flush_or_put_out.new.out.items in
    let old = c.args.disks.now in
    let loop = c.loop-which.disks in
    let new = c.flush_or_put_out.new.disks in
    let before = c.loop-which.invariant in
    let it = c.flush_or_put_out.ensures in
    record {
      absent = go_on no_write no_write first out later old loop new before.absent it.absent before.makes.makes it.makes;
      makes = MakesOn-more (InUse first) no_write old loop new before.makes (MakesOn-wider (InUse out) (InUse first) no_write no_write loop new before.absent.stay (λ w at bytes none. none) it.makes);
      settled = settled_next later loop new c.loop-which.which it.makes.makes it.settles (λ d used below. before.settled d (it.absent.stay d used) below);
    }

pub returns-clause-settled : goal.returns-clause-settled
returns-clause-settled g c = λ which used.
    let absent = c.loop-which.invariant.absent in
    let starts = ap length c.loop-which.invariant.makes.makes.starts in
    c.loop-which.invariant.settled which used
    (omega (arith, are_there c.loop-which.out.items c.loop-which.disks.starts (absent.count ∙ c.requires.out ∙ sym starts) which used, c.loop-which-test.false, c.len-which-end.ensures, starts))
