-- An area, by its list.
use Rattle.std.proofs.Common.{◌≡◌, ◌≢◌, ◌∙◌, ℕ, List, refl, sym, ap, subst}
use Rattle.std.specs.Prelude.{Result, Ok, Err, IfOk, IfErr}
use Rattle.nvlist.specs.Plain.{PlainList}
use Rattle.words.specs.Seal.{sealed}
use Rattle.words.specs.declared.sealing.SealFault.{SealFault}
use Rattle.words.specs.declared.sealing.SealFault.TheVariants as fault
use Rattle.vdev_label.proofs.Unique.{label_same}
use Rattle.vdev_label.specs.Area.{front_of, HasRoom, Spells, Finds}
use Rattle.vdev_label.specs.Pairs.{label_pairs, InRange}
use Rattle.vdev_label.specs.Plain.{PlainLabel, label_view}
use Rattle.vdev_label.specs.Refuses.{Refuses}
use Rattle.vdev_label.specs.declared.label.Label.{Label}
use Rattle.vdev_label.specs.declared.refusal.Refusal.{Refusal}
use Rattle.vdev_label.specs.declared.refusal.Refusal.TheVariants.{NoMemory, DiskFault, BadLabel}

pub found_label : (r : Result Label Refusal) (area : List ℕ) (l : PlainList) → area ≡ sealed (front_of l) → HasRoom l
    → IfOk r (λ label. l ≡ label_pairs (label_view label)) → IfOk r (λ label. InRange (label_view label))
    → IfOk r (λ label. Spells area (label_view label))
found_label (Ok label) area l bytes room is ok =
    record { in_range = ok; room = subst HasRoom is room; bytes = bytes ∙ ap (λ it. sealed (front_of it)) is }
found_label (Err refusal) area l bytes room is ok = tt

pub only_label : (r : Result Label Refusal) (l : PlainList) (v : PlainLabel) → InRange v → l ≡ label_pairs v
    → IfOk r (λ label. l ≡ label_pairs (label_view label))
    → IfErr r (λ refusal. Refuses refusal ((w : PlainLabel) → InRange w → l ≢ label_pairs w)) → Finds r v
only_label (Ok label) l v ok is found bad = label_same (label_view label) v (sym found ∙ is)
only_label (Err NoMemory) l v ok is found bad = refl
only_label (Err DiskFault) l v ok is found bad = absurd bad
only_label (Err (BadLabel b)) l v ok is found bad = absurd (bad.1 v ok is)

pub not_both : {T : Type 0} (a b : Result T SealFault) (f : SealFault) → f ≡ fault.Digest → a ≡ b → a ≡ Err f → b ≡ Err fault.Word → ⊥
not_both a b f digest same left right = cc
