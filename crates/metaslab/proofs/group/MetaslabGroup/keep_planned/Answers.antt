use Rattle.std.proofs.Common.{rules, ◌≡◌, ◌≤◌, Some, length, refl}
use Rattle.std.specs.List.{slice_get}
use Rattle.std.proofs.lemmas.Option.{slice_get_read}
use Rattle.metaslab.proofs.Elements.{one_more}
use Rattle.metaslab.proofs.Groups.{IsKept, all_kept}
use Rattle.metaslab.proofs.group.MetaslabGroup.keep_planned.Goals as goal

pub loop-metaslab-preserved : goal.loop-metaslab-preserved
loop-metaslab-preserved c =
    let items = c.loop-metaslab.self-inside.metaslabs.items in
    let at : slice_get items c.loop-metaslab.metaslab ≡ Some c.index_mut.result.now =
    slice_get_read items (length items) c.loop-metaslab.metaslab c.index_mut.result.now refl (search rules) c.index_mut.ensures.value in (
      one_more IsKept c.self.inside.metaslabs.items items c.loop-metaslab.metaslab c.index_mut.result.now c.keep_planned.new.self c.loop-metaslab.invariant.0 at
          (c.keep_planned.ensures.kept, c.keep_planned.ensures.planned),
      c.loop-metaslab.invariant.1,
    )

pub returns : goal.returns
returns c =
    let enough : length c.loop-metaslab.self-inside.metaslabs.items ≤ c.loop-metaslab.metaslab = search rules in
    rw (← c.self.view_is, c.loop-metaslab.invariant.1)
    (all_kept c.self.inside.metaslabs.items c.loop-metaslab.self-inside.metaslabs.items c.self.inside.pins.items c.loop-metaslab.metaslab enough c.loop-metaslab.invariant.0)
