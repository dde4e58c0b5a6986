use Rattle.std.proofs.Common.{◌≡◌, ◌∙◌, List, Option, ◌∷◌, [], ◌++◌, Result, length, ap, sym, subst, arith}
use Rattle.std.specs.Prelude.{Vec}
use Rattle.std.specs.declared.alloc.Global.{Global}
use Rattle.std.proofs.lemmas.List.{length-append}
use Rattle.pool_slots.specs.LabelReads.{ReadsFour}
use Rattle.pool_slots.specs.Reads.{nowhere}
use Rattle.pool_slots.specs.declared.labeled.Shown.{Shown}
use Rattle.pool_slots.specs.declared.refusal.Refusal.{Refusal}
use Rattle.pool_slots.proofs.LabelScans.{AreReadTo, read_next, read_done, read_refused}
use Rattle.pool_slots.proofs.ReadRuns.{reads_any, reads_err, reads_made, reads_then}
use Rattle.pool_slots.proofs.Results.{err_use}
use Rattle.pool_slots.proofs.label_scan.read_four.Goals as goal

pub returns-in_err-shown-clause-only : goal.returns-in_err-shown-clause-only
returns-in_err-shown-clause-only g c = reads_err c.from_residual.result c.in_err-shown.field-0.0 c.from_residual.ensures.1 (reads_then c.loop-number.invariant.only c.in_err-shown.ensures.only)

pub returns-in_err-shown-clause-reads : goal.returns-in_err-shown-clause-reads
returns-in_err-shown-clause-reads g c =
    let P : Result (Vec (Option Shown) Global) Refusal → Type 0 = ReadsFour c.args.disks.now c.read_shown.new.disks c.args.which in
    let cause = c.in_err-shown.field-0.0 in
    err_use c.from_residual.result cause P c.from_residual.ensures.1
    (read_refused c.args.disks.now c.loop-number.disks c.read_shown.new.disks c.args.which c.loop-number.number cause (reads_made c.loop-number.invariant.only) c.in_err-shown.ensures.reads)

pub returns-in_err-push-clause-only : goal.returns-in_err-push-clause-only
returns-in_err-push-clause-only g c = reads_any (reads_then c.loop-number.invariant.only c.in_ok-shown.ensures.only)

pub loop-number-preserved : goal.loop-number-preserved
loop-number-preserved g c =
    let items : c.push.new.self.items ≡ c.loop-number.all.items ++ c.in_ok-shown.shown ∷ [] = c.in_ok-push.ensures.items in
    let P : List (Option Shown) → Type 0 = AreReadTo c.args.disks.now c.read_shown.new.disks c.args.which in
    record {
      only = reads_then {faulty = nowhere} c.loop-number.invariant.only c.in_ok-shown.ensures.only;
      count = ap length items ∙ length-append c.loop-number.all.items (c.in_ok-shown.shown ∷ []) ∙ omega (arith, c.loop-number.invariant.count);
      read = subst P (sym items) (read_next c.args.disks.now c.loop-number.disks c.read_shown.new.disks c.args.which c.loop-number.number c.loop-number.all.items c.in_ok-shown.shown
          c.loop-number.invariant.count (reads_made c.loop-number.invariant.only) (reads_made c.read_shown.ensures.only) c.loop-number.invariant.read c.in_ok-shown.ensures.reads);
    }

pub returns-clause-reads : goal.returns-clause-reads
returns-clause-reads g c =
    read_done c.args.disks.now c.loop-number.disks c.args.which c.loop-number.all (omega (arith, c.loop-number.invariant.count, c.loop-number-test.false, c.loop-number.auto.number-end)) c.loop-number.invariant.read

pub returns-clause-only : goal.returns-clause-only
returns-clause-only g c = reads_any c.loop-number.invariant.only
