use Rattle.std.proofs.Common.{length, ap, arith}
use Rattle.model_disk.specs.Joint.{content}
use Rattle.pool_slots.specs.Slots.{InUse}
use Rattle.pool_slots.specs.Writes.{InHalf}
use Rattle.pool_slots.proofs.Phases.{MakesOn-none}
use Rattle.pool_export.specs.Writes.{IsUsedWrite}
use Rattle.pool_export.proofs.Absence.{go_none, go_on}
use Rattle.pool_export.proofs.Halves.{made_more, on_used, stand_all, stand_next}
use Rattle.pool_export.proofs.label_writes.write_half.Goals as goal

pub loop-which-init : goal.loop-which-init
loop-which-init g c =
    let out = c.args.out.now.items in
    record {
      absent = go_none out c.args.disks.now;
      makes = MakesOn-none (InUse out) (IsUsedWrite out c.args.disks.now.starts c.args.areas.now (InHalf c.args.half)) c.args.disks.now;
      stand = λ d used below. absurd (omega (arith, below));
    }

pub loop-which-preserved : goal.loop-which-preserved
loop-which-preserved g c =
    let first = c.args.out.now.items in
    let out = c.loop-which.out.items in
    let later = c.write_or_put_out.new.out.items in
    let old = c.args.disks.now in
    let loop = c.loop-which.disks in
    let new = c.write_or_put_out.new.disks in
    let areas = c.args.areas.now in
    let half = InHalf c.args.half in
    let before = c.loop-which.invariant in
    let it = c.write_or_put_out.ensures in
    let made = on_used out (IsUsedWrite out loop.starts areas half) c.loop-which.which loop new it.makes in
    record {
      absent = go_on (IsUsedWrite first old.starts areas half) (IsUsedWrite out loop.starts areas half) first out later old loop new before.absent it.absent before.makes.makes made;
      makes = made_more first out old loop new areas half half half before.absent.stay (λ n is picked. picked) (λ n is picked. picked) before.makes made;
      stand = stand_next out later old loop new areas half c.loop-which.which before.makes.makes.starts it.absent.stay it.makes before.stand it.stands;
    }

pub returns-clause-stand : goal.returns-clause-stand
returns-clause-stand g c =
    stand_all c.loop-which.out.items (content c.loop-which.disks) c.args.disks.now.starts c.args.areas.now (InHalf c.args.half) c.loop-which.which
    (omega (arith, c.requires.count, ap length c.loop-which.invariant.makes.makes.starts, c.loop-which-test.false, c.loop-which.auto.which-end, c.len-which-end.ensures)) c.loop-which.invariant.stand
