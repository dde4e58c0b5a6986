use Rattle.std.proofs.Common.{◌≡◌, Some}
use Rattle.std.specs.List.{slice_get}
use Rattle.metaslab.proofs.Groups.{at_number}
use Rattle.metaslab.proofs.Maps.{one_loaded, on_true_weaker}
use Rattle.metaslab.proofs.group.MetaslabGroup.load.Goals as goal

pub returns-clause-loaded : goal.returns-clause-loaded
returns-clause-loaded c =
    let items = c.self.inside.metaslabs.items in
    let at : slice_get items c.args.metaslab ≡ Some c.index_mut.result.now =
    at_number items c.self.inside.pins.items c.args.self.now c.args.metaslab c.index_mut.result.now c.self.view_is c.requires c.index_mut.ensures.value in
    rw (← c.self.view_is) (on_true_weaker c.load.result (one_loaded items c.self.inside.pins.items c.args.metaslab c.index_mut.result.now c.load.new.self c.args.free at) c.load.ensures.loaded)
