use Rattle.std.proofs.lemmas.Result.{on_ok_weaker}
use Rattle.std.specs.Prelude.{slice_set, map}
use Rattle.metaslab.specs.Calls.{Changes}
use Rattle.metaslab.specs.State.{InUse, Released}
use Rattle.metaslab.specs.Spaces.{ChangesIn}
use Rattle.metaslab.proofs.Groups.{at_run, changes_in, rest_stays}
use Rattle.metaslab.proofs.group.MetaslabGroup.release.Goals as goal

pub returns-clause-released : goal.returns-clause-released
returns-clause-released c =
    let items = c.self.inside.metaslabs.items in
    let (at, in_use) = at_run items c.self.inside.pins.items c.args.self.now c.args.metaslab c.index_mut.result.now c.args.run c.self.view_is c.requires.in_use c.index_mut.ensures.value in
    let changed : Changes c.index_mut.result.now.planned c.release.new.self.planned c.args.run (Released c.args.group)
    → ChangesIn (map (λ m. m.planned) items) (map (λ m. m.planned) (slice_set items c.args.metaslab c.release.new.self)) c.args.metaslab c.args.run InUse (Released c.args.group) =
    λ changes. changes_in items c.args.metaslab c.index_mut.result.now c.release.new.self c.args.run InUse (Released c.args.group) at in_use changes in
    rw (← c.self.view_is) (on_ok_weaker c.release.result changed c.release.ensures.released)

pub returns-clause-rest : goal.returns-clause-rest
returns-clause-rest c =
    let items = c.self.inside.metaslabs.items in
    let (at, in_use) = at_run items c.self.inside.pins.items c.args.self.now c.args.metaslab c.index_mut.result.now c.args.run c.self.view_is c.requires.in_use c.index_mut.ensures.value in
    rw (← c.self.view_is) (rest_stays items c.self.inside.pins.items c.args.metaslab c.index_mut.result.now c.release.new.self at c.release.ensures.kept)
