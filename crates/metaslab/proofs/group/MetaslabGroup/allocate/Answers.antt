use Rattle.std.proofs.Common.{rules, ◌≡◌, Some, subst}
use Rattle.std.specs.Prelude.{slice_set, map}
use Rattle.std.specs.List.{slice_get}
use Rattle.metaslab.specs.State.{Free, InUse}
use Rattle.metaslab.specs.Spaces.{ChangesIn, IsInUseIn}
use Rattle.metaslab.proofs.Groups.{at_number, changes_in, in_use_now, rest_stays, no_room}
use Rattle.metaslab.proofs.group.MetaslabGroup.allocate.Goals as goal

pub returns-in_err-run-clause-no_space : goal.returns-in_err-run-clause-no_space
returns-in_err-run-clause-no_space c =
    let items = c.self.inside.metaslabs.items in
    let at : slice_get items c.args.metaslab ≡ Some c.index_mut.result.now =
    at_number items c.self.inside.pins.items c.args.self.now c.args.metaslab c.index_mut.result.now c.self.view_is c.requires.is_there c.index_mut.ensures.value in
    λ is. rw (← c.self.view_is) (no_room items c.args.metaslab c.index_mut.result.now c.args.sectors at (c.in_err-run.ensures.no_space (search rules)))

pub returns-clause-taken : goal.returns-clause-taken
returns-clause-taken c =
    let items = c.self.inside.metaslabs.items in
    let at : slice_get items c.args.metaslab ≡ Some c.index_mut.result.now =
    at_number items c.self.inside.pins.items c.args.self.now c.args.metaslab c.index_mut.result.now c.self.view_is c.requires.is_there c.index_mut.ensures.value in
    let run = c.in_ok-run.run' in
    let done = changes_in items c.args.metaslab c.index_mut.result.now c.allocate.new.self run Free InUse at c.in_ok-run.ensures.free c.in_ok-run.ensures.taken in
    rw (← c.self.view_is)
    (subst (λ n. ChangesIn (map (λ m. m.planned) items) (map (λ m. m.planned) (slice_set items c.args.metaslab c.allocate.new.self)) c.args.metaslab (record { start = run.start; len = n }) Free InUse)
    c.in_ok-run.ensures.len done)

pub returns-clause-in_use : goal.returns-clause-in_use
returns-clause-in_use c =
    let items = c.self.inside.metaslabs.items in
    let at : slice_get items c.args.metaslab ≡ Some c.index_mut.result.now =
    at_number items c.self.inside.pins.items c.args.self.now c.args.metaslab c.index_mut.result.now c.self.view_is c.requires.is_there c.index_mut.ensures.value in
    let run = c.in_ok-run.run' in
    subst (λ n. IsInUseIn (map (λ m. m.planned) (slice_set items c.args.metaslab c.allocate.new.self)) c.args.metaslab (record { start = run.start; len = n }))
    c.in_ok-run.ensures.len
    (in_use_now items c.args.metaslab c.index_mut.result.now c.allocate.new.self run Free at c.in_ok-run.ensures.free c.in_ok-run.ensures.taken)

pub returns-clause-rest : goal.returns-clause-rest
returns-clause-rest c =
    let items = c.self.inside.metaslabs.items in
    let at : slice_get items c.args.metaslab ≡ Some c.index_mut.result.now =
    at_number items c.self.inside.pins.items c.args.self.now c.args.metaslab c.index_mut.result.now c.self.view_is c.requires.is_there c.index_mut.ensures.value in
    rw (← c.self.view_is) (rest_stays items c.self.inside.pins.items c.args.metaslab c.index_mut.result.now c.allocate.new.self at c.allocate.ensures.kept)
