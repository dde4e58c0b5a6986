-- What was chosen of disks, by its label.
use Rattle.std.proofs.Common.{◌≡◌, ℕ, List, Some, sym, ap, ◌∙◌, subst}
use Rattle.model_disk.specs.Joint.{Disks}
use Rattle.vdev_label.specs.Plain.{config_view}
use Rattle.vdev_label.specs.declared.label.Label.{Label}
use Rattle.pool_labels.specs.Choices.{IsChoice, IsValidAt}
use Rattle.pool_labels.specs.Scans.{IsScanOf}
use Rattle.pool_labels.specs.declared.choice.Choice.{Choice}
use Rattle.pool_labels.specs.declared.scanned.Reading.TheVariants.{Valid}
use Rattle.pool_labels.specs.declared.scanned.Scan.{Scan}
use Rattle.pool_labels.specs.declared.scanned.ScannedLabel.{ScannedLabel}
use Rattle.pool_open.specs.Finding.{IsLaidOut, IsLayoutOf, identity_of}
use Rattle.pool_open.specs.declared.finding.Layout.{Layout}

same_some : {X : Type 0} (x y : X) → Some x ≡ Some y → x ≡ y
same_some x y is = cc

same_valid : (l m : Label) → Valid l ≡ Valid m → l ≡ m
same_valid l m is = cc

-- one label stands at a place
pub same_label : (labels : List ScannedLabel) (i : ℕ) (s t : ScannedLabel) (l m : Label) → IsValidAt labels i s l → IsValidAt labels i t m → l ≡ m
same_label labels i s t l m one other =
    let same : s ≡ t = same_some s t (sym one.at ∙ other.at) in
    same_valid l m (sym one.valid ∙ ap (λ (it : ScannedLabel). it.reading) same ∙ other.valid)

pub laid_out : (old new : Disks) (rewind : ℕ) (scan : Scan) (choice : Choice) (layout : Layout) (s : ScannedLabel) (m : Label) → IsScanOf old new scan → (is : IsChoice scan rewind choice)
    → IsValidAt scan.labels.items choice.source s m → IsLaidOut (config_view m.config) choice layout → layout.identity ≡ identity_of m → IsLayoutOf old new rewind layout
laid_out old new rewind scan choice layout s m read is at laid named =
    let same : m ≡ is.l = same_label scan.labels.items choice.source s is.configured.s m is.l at is.configured.source.at in
    record {
      scan = scan;
      read = read;
      choice = choice;
      chosen = is;
      laid_out = subst (λ (l : Label). IsLaidOut (config_view l.config) choice layout) same laid;
      identity = named ∙ ap identity_of same;
    }
