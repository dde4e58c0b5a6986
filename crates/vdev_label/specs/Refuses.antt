-- Why pairs are not read.
use Rattle.std.specs.Prelude.{◌≡◌}
use Rattle.vdev_label.specs.declared.refusal.Breach.TheVariants as breach
use Rattle.vdev_label.specs.declared.refusal.Refusal.{Refusal}
use Rattle.vdev_label.specs.declared.refusal.Refusal.TheVariants.{NoMemory, DiskFault, BadLabel}

-- the pairs are refused for this cause, or memory ran out
abbrev pub Refuses : Refusal → Type 0 → Type 0
Refuses NoMemory Cause = Unit {0}
Refuses DiskFault Cause = ⊥
Refuses (BadLabel it) Cause = (it ≡ breach.Pairs) × Cause

-- the list is refused for this cause, or memory ran out
abbrev pub RefusesList : Refusal → Type 0 → Type 0
RefusesList NoMemory Cause = Unit {0}
RefusesList DiskFault Cause = ⊥
RefusesList (BadLabel it) Cause = (it ≡ breach.List) × Cause
