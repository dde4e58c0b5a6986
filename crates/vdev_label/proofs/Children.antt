-- The pairs of a disk of a vdev.
use Rattle.std.proofs.Common.{◌≡◌, ◌≢◌, ◌≤◌, ℕ, [], Some, refl, ap}
use Rattle.std.specs.Prelude.{codes}
use Rattle.nvlist.specs.Find.{find}
use Rattle.nvlist.specs.Grammar.{FitsBehind}
use Rattle.nvlist.specs.Plain.{PlainList, number, pair_count}
use Rattle.vdev_label.proofs.Found.{exactly, fits_ascend}
use Rattle.vdev_label.specs.Pairs.{child_pairs}
use Rattle.vdev_label.specs.Refuses.{Refuses}
use Rattle.vdev_label.specs.declared.refusal.Refusal.{Refusal}
use Rattle.vdev_label.specs.declared.refusal.Refusal.TheVariants.{NoMemory, DiskFault, BadLabel}

-- a cause goes on
pub refuses : (r : Refusal) (P Q : Type 0) → (P → Q) → Refuses r P → Refuses r Q
refuses NoMemory P Q f it = tt
refuses DiskFault P Q f it = it
refuses (BadLabel b) P Q f it = (it.0, f it.1)

pub no_child_guid : (r : Refusal) (l : PlainList) (id : ℕ) → Refuses r ((n : ℕ) → find (codes "guid") l ≢ Some (number n))
    → Refuses r ((guid : ℕ) → l ≢ child_pairs id guid)
no_child_guid r l id = refuses r _ _ (λ none guid is. none guid (ap (find (codes "guid")) is))

pub is_child : (l : PlainList) (id guid : ℕ) → FitsBehind [] l → find (codes "guid") l ≡ Some (number guid) → find (codes "id") l ≡ Some (number id)
    → pair_count l ≤ 2 → l ≡ child_pairs id guid
is_child l id guid fits has_guid has_id count = exactly [] l (child_pairs id guid) (fits_ascend [] l fits) (refl, (refl, tt)) (has_guid, (has_id, tt)) count
