use Rattle.std.proofs.Common.{rules, ◌≡◌, ◌≤◌, Some, length, refl}
use Rattle.std.specs.List.{slice_get}
use Rattle.std.proofs.lemmas.Option.{slice_get_read}
use Rattle.metaslab.proofs.Elements.{one_more}
use Rattle.metaslab.proofs.Groups.{IsSettled, all_settled, settled_in_part, none_planned}
use Rattle.metaslab.proofs.planned.settle_each.Goals as goal

pub returns-in_err-settle-clause-err : goal.returns-in_err-settle-clause-err
returns-in_err-settle-clause-err c =
    let items = c.loop-metaslab.metaslabs.items in
    let at : slice_get items c.loop-metaslab.metaslab ≡ Some c.index_mut.result.now =
    slice_get_read items (length items) c.loop-metaslab.metaslab c.index_mut.result.now refl (search rules) c.index_mut.ensures.value in
    let part = settled_in_part c.args.pins.now c.args.group c.args.metaslabs.now.items items c.loop-metaslab.metaslab c.index_mut.result.now c.settle.new.self c.loop-metaslab.invariant.0 at c.in_err-settle.ensures.err in
    search rules

pub returns-in_err-settle-clause-planned : goal.returns-in_err-settle-clause-planned
returns-in_err-settle-clause-planned c = none_planned c.loop-metaslab.metaslabs.items c.loop-metaslab.metaslab c.settle.new.self c.loop-metaslab.invariant.1 c.settle.ensures.planned

pub loop-metaslab-preserved : goal.loop-metaslab-preserved
loop-metaslab-preserved c =
    let items = c.loop-metaslab.metaslabs.items in
    let at : slice_get items c.loop-metaslab.metaslab ≡ Some c.index_mut.result.now =
    slice_get_read items (length items) c.loop-metaslab.metaslab c.index_mut.result.now refl (search rules) c.index_mut.ensures.value in (
      one_more (IsSettled c.args.pins.now c.args.group) c.args.metaslabs.now.items items c.loop-metaslab.metaslab c.index_mut.result.now c.settle.new.self c.loop-metaslab.invariant.0 at c.in_ok-settle.ensures.settled,
      none_planned items c.loop-metaslab.metaslab c.settle.new.self c.loop-metaslab.invariant.1 c.settle.ensures.planned,
    )

pub returns-clause-settled : goal.returns-clause-settled
returns-clause-settled c =
    let enough : length c.loop-metaslab.metaslabs.items ≤ c.loop-metaslab.metaslab = search rules in
    all_settled c.args.pins.now c.args.group c.args.metaslabs.now.items c.loop-metaslab.metaslabs.items c.loop-metaslab.metaslab enough c.loop-metaslab.invariant.0
