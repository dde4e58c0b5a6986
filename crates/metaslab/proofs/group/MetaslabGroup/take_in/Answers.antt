use Rattle.std.proofs.Common.{◌≡◌, Some}
use Rattle.std.specs.List.{slice_get}
use Rattle.metaslab.proofs.Groups.{at_number, free_in, took_in}
use Rattle.metaslab.proofs.group.MetaslabGroup.take_in.Goals as goal

pub returns-clause-free : goal.returns-clause-free
returns-clause-free c =
    let items = c.self.inside.metaslabs.items in
    let at : slice_get items c.args.metaslab ≡ Some c.index_mut.result.now =
    at_number items c.self.inside.pins.items c.args.self.now c.args.metaslab c.index_mut.result.now c.self.view_is c.requires.is_there c.index_mut.ensures.value in
    rw (← c.self.view_is) (free_in items c.args.metaslab c.index_mut.result.now c.args.run c.take_in.result at c.take_in.ensures.free)

pub returns-clause-kept : goal.returns-clause-kept
returns-clause-kept c =
    let items = c.self.inside.metaslabs.items in
    let at : slice_get items c.args.metaslab ≡ Some c.index_mut.result.now =
    at_number items c.self.inside.pins.items c.args.self.now c.args.metaslab c.index_mut.result.now c.self.view_is c.requires.is_there c.index_mut.ensures.value in
    rw (← c.self.view_is) (took_in (λ m. m.kept) items c.args.metaslab c.index_mut.result.now c.take_in.new.self c.args.run c.take_in.result at c.take_in.ensures.free
    (λ both. both.0) c.take_in.ensures.kept)

pub returns-clause-planned : goal.returns-clause-planned
returns-clause-planned c =
    let items = c.self.inside.metaslabs.items in
    let at : slice_get items c.args.metaslab ≡ Some c.index_mut.result.now =
    at_number items c.self.inside.pins.items c.args.self.now c.args.metaslab c.index_mut.result.now c.self.view_is c.requires.is_there c.index_mut.ensures.value in
    rw (← c.self.view_is) (took_in (λ m. m.planned) items c.args.metaslab c.index_mut.result.now c.take_in.new.self c.args.run c.take_in.result at c.take_in.ensures.free
    (λ both. both.1) c.take_in.ensures.planned)
