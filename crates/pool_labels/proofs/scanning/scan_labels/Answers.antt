use Rattle.std.proofs.Common.{◌≡◌, ℕ, suc, ◌+◌, List, ◌∷◌, [], ◌++◌, sym, subst, arith}
use Rattle.pool_labels.specs.declared.scanned.ScannedLabel.{ScannedLabel}
use Rattle.pool_labels.proofs.FourLabels.{FourTo, four_next}
use Rattle.pool_labels.proofs.ScanSteps.{both_read}
use Rattle.pool_labels.proofs.scanning.scan_labels.Goals as goal

pub returns-in_err-label-clause-only : goal.returns-in_err-label-clause-only
returns-in_err-label-clause-only g c = both_read c.loop-number.invariant.only c.in_err-label.ensures.only

pub returns-in_err-push-clause-only : goal.returns-in_err-push-clause-only
returns-in_err-push-clause-only g c = both_read c.loop-number.invariant.only c.in_ok-label.ensures.only

pub loop-number-preserved : goal.loop-number-preserved
loop-number-preserved g c =
    let n = c.loop-number.number in
    let items : c.push.new.self.items ≡ c.loop-number.labels.items ++ c.in_ok-label.label ∷ [] = c.in_ok-push.ensures.items in
    let count : suc n ≡ n + 1 = omega arith in
    let P : List ScannedLabel → Type 0 = FourTo c.args.disks.now c.scan_label.new.disks c.args.which (n + 1) in
    let Q : ℕ → Type 0 = λ k. FourTo c.args.disks.now c.scan_label.new.disks c.args.which k (c.loop-number.labels.items ++ c.in_ok-label.label ∷ []) in
    subst P (sym items)
    (subst Q count (four_next c.args.disks.now c.loop-number.disks c.scan_label.new.disks c.args.which n c.loop-number.labels.items c.in_ok-label.label c.loop-number.invariant c.in_ok-label.ensures.only
    c.in_ok-label.ensures.scans c.scan_label.ensures.few))
