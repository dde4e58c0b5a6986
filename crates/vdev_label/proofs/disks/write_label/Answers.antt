use Rattle.std.proofs.Common.{◌≡◌, ◌≢◌, ◌⊎◌, ◌≤◌, ◌<◌, ◌∙◌, ℕ, ◌+◌, List, length, sym, ap, subst}
use Rattle.std.specs.Prelude.{OnOk}
use Rattle.model_disk.specs.Joint.{Stands}
use Rattle.vdev_label.proofs.Fronts.{area_length}
use Rattle.vdev_label.proofs.WriteLabels.{written_stands, written_keeps}
use Rattle.vdev_label.specs.Pairs.{label_pairs}
use Rattle.vdev_label.specs.Plain.{label_view}
use Rattle.vdev_label.specs.Reads.{place_of}
use Rattle.vdev_label.proofs.disks.write_label.Goals as goal

pub write_area-requires-clause-len : goal.write_area-requires-clause-len
write_area-requires-clause-len g c =
    ap length (c.deref.ensures.value ∙ c.in_ok-area.ensures) ∙ area_length (label_pairs (label_view c.args.label.now)) c.requires.room

pub returns-clause-stands : goal.returns-clause-stands
returns-clause-stands g c =
    let at = place_of c.args.disks.now c.args.which c.args.number in
    let P : List ℕ → Type 0 = λ area. OnOk c.write_area.result (Stands c.write_area.new.disks c.args.which at area) in
    subst P (c.deref.ensures.value ∙ c.in_ok-area.ensures)
    (written_stands c.write_area.result c.args.disks.now c.write_area.new.disks c.args.which at c.deref.result.now c.write_area.ensures.starts c.write_area.ensures.calls)

pub returns-clause-elsewhere : goal.returns-clause-elsewhere
returns-clause-elsewhere g c other i place =
    let at = place_of c.args.disks.now c.args.which c.args.number in
    let len : length c.deref.result.now ≡ 114688 =
    ap length (c.deref.ensures.value ∙ c.in_ok-area.ensures) ∙ area_length (label_pairs (label_view c.args.label.now)) c.requires.room in
    let P : ℕ → Type 0 = λ n. (other ≢ c.args.which) ⊎ ((i < at) ⊎ (at + n ≤ i)) in
    written_keeps c.write_area.result c.args.disks.now c.write_area.new.disks c.args.which at c.deref.result.now c.write_area.ensures.starts
    c.write_area.ensures.calls other i (subst P (sym len) place)
