use Rattle.std.proofs.Common.{◌≡◌, ◌∙◌, ◌++◌, refl, ap}
use Rattle.nvlist.specs.View.{list_view}
use Rattle.nvlist.specs.Grammar.{spelling}
use Rattle.vdev_label.proofs.Fronts.{made_area}
use Rattle.vdev_label.specs.Pairs.{label_pairs}
use Rattle.vdev_label.specs.Plain.{label_view}
use Rattle.vdev_label.proofs.encoding.encode_area.Goals as goal

pub returns : goal.returns
returns c =
    let l = label_pairs (label_view c.args.label.now) in
    let items : c.encode.new.out.items ≡ spelling l =
    c.in_ok-encode.ensures.ok ∙ ap (λ front. front ++ spelling (list_view c.in_ok-list.list)) c.in_ok-area.ensures.items ∙ ap spelling c.in_ok-list.ensures in
    made_area l c.encode.new.out.items c.resize.new.self.items c.deref_mut.result.now c.seal.new.area c.encode.new.out.len c.resize.new.self.len 114688 114648
    c.requires.room refl items c.encode.new.out.ok.0 c.in_ok-resize.ensures.items c.resize.new.self.ok.0 c.deref_mut.ensures.value c.seal.ensures
