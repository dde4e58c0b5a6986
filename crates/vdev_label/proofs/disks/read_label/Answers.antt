use Rattle.std.proofs.Common.{◌≡◌, ◌∙◌, ◌∷◌, drop, length, sym, ap, arith}
use Rattle.std.proofs.lemmas.List.{take_at}
use Rattle.model_disk.specs.Call.{Read}
use Rattle.model_disk.specs.Joint.{on}
use Rattle.vdev_label.specs.Reads.{place_of}
use Rattle.vdev_label.proofs.ReadLabels.{read_answer}
use Rattle.vdev_label.proofs.disks.read_label.Goals as goal

pub returns-clause-calls : goal.returns-clause-calls
returns-clause-calls g c =
    let full : length c.read_area.new.area ≡ c.in_ok-area.area.len = grind (arith, c.in_ok-area.ensures, c.in_ok-read_area.ensures.len) in
    let is : c.deref.result.now ≡ c.read_area.new.area =
    c.deref.ensures.value ∙ take_at c.read_area.new.area (drop (length c.read_area.new.area) c.in_ok-area.area.items) c.in_ok-area.area.len full in
    read_answer c.args.disks.now c.read_area.new.disks c.args.which c.args.number c.decode_area.result c.deref.result.now (
      ap length is ∙ c.in_ok-read_area.ensures.len,
      c.in_ok-read_area.ensures.calls ∙ ap (λ area. on c.args.which (Read (place_of c.args.disks.now c.args.which c.args.number) area) ∷ c.args.disks.now.calls) (sym is),
    )
    c.decode_area.ensures.found c.decode_area.ensures.cause
