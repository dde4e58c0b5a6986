use Rattle.std.proofs.Common.{rules, ◌≡◌, ◌+◌, ◌<◌, [], ◌∷◌, ◌++◌, length, map, take, sym, ap, ◌∙◌, arith}
use Rattle.std.proofs.lemmas.List.{length-map, map-append}
use Rattle.nvlist.specs.View.{list_view}
use Rattle.vdev_label.proofs.Numbered.{view_at, view_below, view_fits, none_of_them, numbered_next, one_longer}
use Rattle.vdev_label.specs.Pairs.{numbered, vdev_pairs}
use Rattle.vdev_label.specs.Plain.{vdev_view}
use Rattle.vdev_label.proofs.reading.vdevs_of.Goals as goal

pub vdev_of-requires : goal.vdev_of-requires
vdev_of-requires c =
    view_fits list_view c.args.lists.now c.loop-id.id c.index-lists-id.result (grind (arith, c.loop-id-test.true)) c.index-lists-id.is c.requires

pub returns-in_err-vdev_of-clause-bad : goal.returns-in_err-vdev_of-clause-bad
returns-in_err-vdev_of-clause-bad c =
    let below : c.loop-id.id < length c.args.lists.now = grind (arith, c.loop-id-test.true) in
    let bad = none_of_them vdev_pairs c.in_err-vdev_of.field-0.0 (map list_view c.args.lists.now) c.loop-id.id (list_view c.index-lists-id.result)
    (view_below list_view c.args.lists.now c.loop-id.id below)
    (view_at list_view c.args.lists.now c.loop-id.id c.index-lists-id.result below c.index-lists-id.is) c.in_err-vdev_of.ensures.bad in
    search (rules, bad)

pub loop-id-preserved : goal.loop-id-preserved
loop-id-preserved c =
    let below : c.loop-id.id < length c.args.lists.now = grind (arith, c.loop-id-test.true) in
    let more : take (c.loop-id.id + 1) (map list_view c.args.lists.now) ≡ numbered vdev_pairs 0 (map vdev_view c.loop-id.vdevs.items ++ vdev_view c.in_ok-vdev_of.field-0 ∷ []) =
    numbered_next vdev_pairs (map list_view c.args.lists.now) c.loop-id.id (map vdev_view c.loop-id.vdevs.items) (vdev_view c.in_ok-vdev_of.field-0)
    (view_below list_view c.args.lists.now c.loop-id.id below)
    (view_at list_view c.args.lists.now c.loop-id.id c.index-lists-id.result below c.index-lists-id.is ∙ c.in_ok-vdev_of.ensures.found)
    (length-map c.loop-id.vdevs.items vdev_view ∙ c.loop-id.invariant.0) c.loop-id.invariant.1 in
    (one_longer c.loop-id.vdevs.items c.push.new.self.items c.in_ok-vdev_of.field-0 c.loop-id.id c.in_ok-push.ensures.items c.loop-id.invariant.0, more ∙ ap (numbered vdev_pairs 0) (sym (map-append vdev_view c.loop-id.vdevs.items (c.in_ok-vdev_of.field-0 ∷ [])) ∙ ap (map vdev_view) (sym c.in_ok-push.ensures.items)))
