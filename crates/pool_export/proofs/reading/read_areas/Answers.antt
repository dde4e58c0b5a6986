use Rattle.std.proofs.Common.{rules, ◌≡◌, ◌∙◌, ℕ, Option, ◌∷◌, [], ◌++◌, Result, length, ap, sym, subst, arith}
use Rattle.std.specs.Prelude.{Vec}
use Rattle.std.specs.declared.alloc.Global.{Global}
use Rattle.std.proofs.lemmas.List.{length-append}
use Rattle.model_disk.specs.Runs.{no_write}
use Rattle.pool_slots.specs.Present.{is_out}
use Rattle.pool_slots.specs.Slots.{InUse}
use Rattle.pool_slots.proofs.ReadRuns.{reads_made, reads_none, reads_on}
use Rattle.pool_slots.proofs.Results.{err_use}
use Rattle.pool_slots.proofs.Used.{are_there}
use Rattle.pool_export.specs.Reads.{ReadsAreas}
use Rattle.pool_export.specs.Writes.{Areas}
use Rattle.pool_export.specs.declared.refusal.Refusal.{Refusal}
use Rattle.pool_export.proofs.Absence.{go_none, go_on}
use Rattle.pool_export.proofs.Scans.{AreScanned, reads_on_more, scans_done, scans_next, scans_refused}
use Rattle.pool_export.proofs.reading.read_areas.Goals as goal

pub loop-which-init : goal.loop-which-init
loop-which-init g c =
    let out = c.args.out.now.items in
    record {
      absent = go_none out c.args.disks.now;
      only = reads_none (InUse out) (is_out out) c.args.disks.now;
      count = search rules;
      scanned = search rules;
    }

pub returns-in_err-area-clause-absent : goal.returns-in_err-area-clause-absent
returns-in_err-area-clause-absent g c =
    go_on no_write no_write c.args.out.now.items c.loop-which.out.items c.read_or_put_out.new.out.items c.args.disks.now c.loop-which.disks c.read_or_put_out.new.disks
    c.loop-which.invariant.absent c.read_or_put_out.ensures.absent (reads_made c.loop-which.invariant.only) (reads_on c.read_or_put_out.ensures.only)

pub returns-in_err-area-clause-only : goal.returns-in_err-area-clause-only
returns-in_err-area-clause-only g c =
    reads_on_more c.args.out.now.items c.loop-which.out.items c.read_or_put_out.new.out.items c.args.disks.now c.loop-which.disks c.read_or_put_out.new.disks
    c.loop-which.invariant.absent.stay c.read_or_put_out.ensures.absent.stay c.loop-which.invariant.only c.read_or_put_out.ensures.only

pub returns-in_err-area-clause-reads : goal.returns-in_err-area-clause-reads
returns-in_err-area-clause-reads g c =
    let later = c.read_or_put_out.new.out.items in
    let P : Result (Vec (Option (Vec ℕ Global)) Global) Refusal → Type 0 = ReadsAreas later c.args.uberblock.now c.args.disks.now c.read_or_put_out.new.disks in
    let cause = c.in_err-area.field-0.0 in
    err_use c.from_residual.result cause P c.from_residual.ensures.1
    (scans_refused later c.args.uberblock.now c.args.disks.now c.loop-which.disks c.read_or_put_out.new.disks c.loop-which.which cause (reads_made c.loop-which.invariant.only) c.in_err-area.ensures.reads)

pub returns-in_err-push-clause-absent : goal.returns-in_err-push-clause-absent
returns-in_err-push-clause-absent g c =
    go_on no_write no_write c.args.out.now.items c.loop-which.out.items c.read_or_put_out.new.out.items c.args.disks.now c.loop-which.disks c.read_or_put_out.new.disks
    c.loop-which.invariant.absent c.read_or_put_out.ensures.absent (reads_made c.loop-which.invariant.only) (reads_on c.read_or_put_out.ensures.only)

pub returns-in_err-push-clause-only : goal.returns-in_err-push-clause-only
returns-in_err-push-clause-only g c =
    reads_on_more c.args.out.now.items c.loop-which.out.items c.read_or_put_out.new.out.items c.args.disks.now c.loop-which.disks c.read_or_put_out.new.disks
    c.loop-which.invariant.absent.stay c.read_or_put_out.ensures.absent.stay c.loop-which.invariant.only c.read_or_put_out.ensures.only

pub loop-which-preserved : goal.loop-which-preserved
loop-which-preserved g c =
    let items : c.push.new.self.items ≡ c.loop-which.all.items ++ c.in_ok-area.area ∷ [] = c.in_ok-push.ensures.items in
    let out = c.loop-which.out.items in
    let later = c.read_or_put_out.new.out.items in
    let old = c.args.disks.now in
    let loop = c.loop-which.disks in
    let new = c.read_or_put_out.new.disks in
    let before = c.loop-which.invariant in
    let it = c.read_or_put_out.ensures in
    let P : Areas → Type 0 = AreScanned later c.args.uberblock.now old new in
    record {
      absent = go_on no_write no_write c.args.out.now.items out later old loop new before.absent it.absent (reads_made before.only) (reads_on it.only);
      only = reads_on_more c.args.out.now.items out later old loop new before.absent.stay it.absent.stay before.only it.only;
      count = ap length items ∙ length-append c.loop-which.all.items (c.in_ok-area.area ∷ []) ∙ omega (arith, before.count);
      scanned = subst P (sym items) (scans_next out later c.args.uberblock.now old loop new c.loop-which.which c.loop-which.all.items c.in_ok-area.area
          before.count it.absent.stay (reads_made before.only) (reads_made it.only) before.scanned c.in_ok-area.ensures.reads);
    }

pub returns-clause-reads : goal.returns-clause-reads
returns-clause-reads g c =
    let absent = c.loop-which.invariant.absent in
    scans_done c.loop-which.out.items c.args.uberblock.now c.args.disks.now c.loop-which.disks c.loop-which.all
    (are_there c.loop-which.out.items c.args.disks.now.starts (absent.count ∙ c.requires.out))
    (omega (arith, c.loop-which.invariant.count, c.loop-which-test.false, c.loop-which.auto.which-end, c.len-which-end.ensures)) c.loop-which.invariant.scanned
