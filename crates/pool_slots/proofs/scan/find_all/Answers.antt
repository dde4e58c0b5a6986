use Rattle.std.proofs.Common.{◌≡◌, ◌∙◌, List, Option, ◌∷◌, [], ◌++◌, Result, length, ap, sym, subst, arith}
use Rattle.std.specs.Prelude.{Vec}
use Rattle.std.specs.declared.alloc.Global.{Global}
use Rattle.std.proofs.lemmas.List.{length-append}
use Rattle.pool_slots.specs.Opens.{FindsAll}
use Rattle.pool_slots.specs.Reads.{nowhere}
use Rattle.pool_slots.specs.declared.found.Found.{Found}
use Rattle.pool_slots.specs.declared.refusal.Refusal.{Refusal}
use Rattle.pool_slots.proofs.Finding.{AreScanned, scans_next, scan_refused, scans_done}
use Rattle.pool_slots.proofs.ReadRuns.{reads_any, reads_err, reads_made, reads_then}
use Rattle.pool_slots.proofs.Results.{err_use}
use Rattle.pool_slots.proofs.Used.{are_there}
use Rattle.pool_slots.proofs.scan.find_all.Goals as goal

pub returns-in_err-found-clause-only : goal.returns-in_err-found-clause-only
returns-in_err-found-clause-only g c = reads_err c.from_residual.result c.in_err-found.field-0.0 c.from_residual.ensures.1 (reads_then c.loop-which.invariant.only c.in_err-found.ensures.only)

pub returns-in_err-found-clause-finds : goal.returns-in_err-found-clause-finds
returns-in_err-found-clause-finds g c =
    let P : Result (Vec (Option Found) Global) Refusal → Type 0 = FindsAll c.args.out.now c.args.disks.now c.find_if_used.new.disks in
    let cause = c.in_err-found.field-0.0 in
    err_use c.from_residual.result cause P c.from_residual.ensures.1
    (scan_refused c.args.out.now c.args.disks.now c.loop-which.disks c.find_if_used.new.disks c.loop-which.which cause (reads_made c.loop-which.invariant.only) c.in_err-found.ensures.finds)

pub returns-in_err-push-clause-only : goal.returns-in_err-push-clause-only
returns-in_err-push-clause-only g c = reads_any (reads_then c.loop-which.invariant.only c.in_ok-found.ensures.only)

pub loop-which-preserved : goal.loop-which-preserved
loop-which-preserved g c =
    let items : c.push.new.self.items ≡ c.loop-which.all.items ++ c.in_ok-found.found ∷ [] = c.in_ok-push.ensures.items in
    let P : List (Option Found) → Type 0 = AreScanned c.args.out.now c.args.disks.now c.find_if_used.new.disks in
    record {
      only = reads_then {faulty = nowhere} c.loop-which.invariant.only c.in_ok-found.ensures.only;
      count = ap length items ∙ length-append c.loop-which.all.items (c.in_ok-found.found ∷ []) ∙ omega (arith, c.loop-which.invariant.count);
      scanned = subst P (sym items) (scans_next c.args.out.now c.args.disks.now c.loop-which.disks c.find_if_used.new.disks c.loop-which.which c.loop-which.all.items c.in_ok-found.found
          c.loop-which.invariant.count (reads_made c.loop-which.invariant.only) (reads_made c.find_if_used.ensures.only) c.loop-which.invariant.scanned c.in_ok-found.ensures.finds);
    }

pub returns-clause-finds : goal.returns-clause-finds
returns-clause-finds g c =
    scans_done c.args.out.now c.args.disks.now c.loop-which.disks c.loop-which.all (are_there c.args.out.now c.args.disks.now.starts c.requires.out)
    (omega (arith, c.loop-which.invariant.count, c.loop-which-test.false, c.loop-which.auto.which-end, c.len-which-end.ensures)) c.loop-which.invariant.scanned

pub returns-clause-only : goal.returns-clause-only
returns-clause-only g c = reads_any c.loop-which.invariant.only
