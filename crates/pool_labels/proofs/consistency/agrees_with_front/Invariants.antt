use Rattle.std.proofs.Common.{◌≡◌, ℕ, ◌<◌, slice_get, Some}
use Rattle.pool_labels.specs.Choices.{LabelsAgree}
use Rattle.pool_labels.specs.declared.scanned.ScannedLabel.{ScannedLabel}
use Rattle.pool_labels.proofs.consistency.agrees_with_front.Given as goal

abbrev pub invariant-loop-j : goal.invariant-loop-j
invariant-loop-j l = (k : ℕ) (s t : ScannedLabel) → k < l.j → slice_get l.labels k ≡ Some s → slice_get l.labels l.i ≡ Some t → LabelsAgree s t
