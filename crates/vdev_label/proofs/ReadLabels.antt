-- What was read of a label.
use Rattle.std.proofs.Common.{ℕ, List, inr}
use Rattle.std.specs.Prelude.{Result, Ok, Err, IfOk, IfErr}
use Rattle.model_disk.specs.Joint.{Disks}
use Rattle.vdev_label.specs.Area.{Spells, IsCause}
use Rattle.vdev_label.specs.Plain.{label_view}
use Rattle.vdev_label.specs.Reads.{ReadsArea, ReadsLabel}
use Rattle.vdev_label.specs.declared.label.Label.{Label}
use Rattle.vdev_label.specs.declared.refusal.Refusal.{Refusal}
use Rattle.vdev_label.specs.declared.refusal.Refusal.TheVariants.{NoMemory, DiskFault, BadLabel}

pub read_answer : (old new : Disks) (which number : ℕ) (r : Result Label Refusal) (area : List ℕ) → ReadsArea old new which number area
    → IfOk r (λ label. Spells area (label_view label)) → IfErr r (λ refusal. IsCause area refusal) → ReadsLabel old new which number r
read_answer old new which number (Ok label) area reads found cause = (area, reads, found)
read_answer old new which number (Err NoMemory) area reads found cause = inr (area, reads)
read_answer old new which number (Err DiskFault) area reads found cause = absurd cause
read_answer old new which number (Err (BadLabel it)) area reads found cause = (area, reads, cause)
