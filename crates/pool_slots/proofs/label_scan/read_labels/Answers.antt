use Rattle.std.proofs.Common.{◌≡◌, ◌∙◌, List, Option, ◌∷◌, [], ◌++◌, Result, length, ap, sym, subst, arith}
use Rattle.std.specs.Prelude.{Vec}
use Rattle.std.specs.declared.alloc.Global.{Global}
use Rattle.std.proofs.lemmas.List.{length-append}
use Rattle.pool_slots.specs.LabelReads.{ReadsAll}
use Rattle.pool_slots.specs.Reads.{nowhere}
use Rattle.pool_slots.specs.declared.labeled.Labeled.{Labeled}
use Rattle.pool_slots.specs.declared.refusal.Refusal.{Refusal}
use Rattle.pool_slots.proofs.LabelScans.{AreLabelsScanned, labels_next, labels_refused, labels_done}
use Rattle.pool_slots.proofs.ReadRuns.{reads_any, reads_err, reads_made, reads_then}
use Rattle.pool_slots.proofs.Results.{err_use}
use Rattle.pool_slots.proofs.Used.{are_there}
use Rattle.pool_slots.proofs.label_scan.read_labels.Goals as goal

pub returns-in_err-labeled-clause-only : goal.returns-in_err-labeled-clause-only
returns-in_err-labeled-clause-only g c = reads_err c.from_residual.result c.in_err-labeled.field-0.0 c.from_residual.ensures.1 (reads_then c.loop-which.invariant.only c.in_err-labeled.ensures.only)

pub returns-in_err-labeled-clause-reads : goal.returns-in_err-labeled-clause-reads
returns-in_err-labeled-clause-reads g c =
    let P : Result (Vec (Option Labeled) Global) Refusal → Type 0 = ReadsAll c.args.out.now c.args.digest.now c.args.disks.now c.read_if_used.new.disks in
    let cause = c.in_err-labeled.field-0.0 in
    err_use c.from_residual.result cause P c.from_residual.ensures.1
    (labels_refused c.args.out.now c.args.digest.now c.args.disks.now c.loop-which.disks c.read_if_used.new.disks c.loop-which.which cause (reads_made c.loop-which.invariant.only) c.in_err-labeled.ensures.reads)

pub returns-in_err-push-clause-only : goal.returns-in_err-push-clause-only
returns-in_err-push-clause-only g c = reads_any (reads_then c.loop-which.invariant.only c.in_ok-labeled.ensures.only)

pub loop-which-preserved : goal.loop-which-preserved
loop-which-preserved g c =
    let items : c.push.new.self.items ≡ c.loop-which.all.items ++ c.in_ok-labeled.labeled ∷ [] = c.in_ok-push.ensures.items in
    let P : List (Option Labeled) → Type 0 = AreLabelsScanned c.args.out.now c.args.digest.now c.args.disks.now c.read_if_used.new.disks in
    record {
      only = reads_then {faulty = nowhere} c.loop-which.invariant.only c.in_ok-labeled.ensures.only;
      count = ap length items ∙ length-append c.loop-which.all.items (c.in_ok-labeled.labeled ∷ []) ∙ omega (arith, c.loop-which.invariant.count);
      scanned = subst P (sym items) (labels_next c.args.out.now c.args.digest.now c.args.disks.now c.loop-which.disks c.read_if_used.new.disks c.loop-which.which c.loop-which.all.items c.in_ok-labeled.labeled
          c.loop-which.invariant.count (reads_made c.loop-which.invariant.only) (reads_made c.read_if_used.ensures.only) c.loop-which.invariant.scanned c.in_ok-labeled.ensures.reads);
    }

pub returns-clause-reads : goal.returns-clause-reads
returns-clause-reads g c =
    labels_done c.args.out.now c.args.digest.now c.args.disks.now c.loop-which.disks c.loop-which.all (are_there c.args.out.now c.args.disks.now.starts c.requires.out)
    (omega (arith, c.loop-which.invariant.count, c.loop-which-test.false, c.loop-which.auto.which-end, c.len-which-end.ensures)) c.loop-which.invariant.scanned

pub returns-clause-only : goal.returns-clause-only
returns-clause-only g c = reads_any c.loop-which.invariant.only
