-- What a stop in an export leaves may be opened.
use Rattle.std.proofs.Common.{◌≡◌, ℕ, ◌<◌, Bool, List, length, subst, sym}
use Rattle.model_disk.specs.Joint.{bytes_of}
use Rattle.pool_slots.specs.Commits.{AreOffLabels}
use Rattle.pool_slots.specs.Possible.{Trees}
use Rattle.pool_slots.specs.Slots.{AreThere, IsOffLabels}
use Rattle.pool_open.specs.ExportStops.{ExportsMayBeReopened}
use Rattle.pool_open.proofs.Stops.{stopped_can_be_opened}

off_of_images : (trees : Trees) (out : List Bool) (starts : List (List ℕ)) (images : List (List ℕ)) → AreThere out starts → AreOffLabels trees out starts
    → ((which : ℕ) → which < length starts → length (bytes_of images which) ≡ length (bytes_of starts which)) → AreOffLabels trees out images
off_of_images trees out starts images there off same root which i value used is =
    subst (λ (size : ℕ). IsOffLabels size i) (sym (same which (there which used))) (off root which i value used is)

pub exports_may_be_reopened : ExportsMayBeReopened
exports_may_be_reopened trees out p u claim old new earlier images may leads configures marks moment left untorn =
    record {
      opens = stopped_can_be_opened trees out p images may.some
          (λ which used. subst (λ (n : ℕ). which < n) (sym left.count) (may.there which used))
          (off_of_images trees out old.starts images may.there may.leading.off_labels (λ which inside. (left.each which inside).size))
          (leads trees p may.leading earlier moment images left untorn);
      configured = configures may.configured earlier moment images left;
      marked = marks claim may.no_less may.marked earlier moment images left;
    }
