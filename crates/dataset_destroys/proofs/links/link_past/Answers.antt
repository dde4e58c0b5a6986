use Rattle.std.proofs.Common.{sym, subst}
use Rattle.meta_objset.specs.declared.record.DatasetRecord.{DatasetRecord}
use Rattle.dataset_destroys.proofs.RecordSteps.{before_later, passed_over}
use Rattle.dataset_destroys.specs.Places.{after_of}
use Rattle.dataset_destroys.specs.Steps.{IsPutNow}
use Rattle.dataset_destroys.proofs.links.link_past.Goals as goal

pub returns-clause-value : goal.returns-clause-value
returns-clause-value c = λ objects over placed apart.
    let place = c.args.place.now in
    let put = c.put_record.new.changes in
    let linked = c.link_before.new.changes in
    let first : IsPutNow objects c.args.changes.now put place.gone.next (after_of place) =
    subst (λ (r : DatasetRecord). IsPutNow objects c.args.changes.now put place.gone.next r) c.follower.ensures (c.in_ok-put_record.ensures.value objects place.after over placed.after_is.has) in
    let second = c.in_ok-link_before.ensures.value objects first.over
    (before_later objects c.args.changes.now put place.gone.next place.gone.previous (after_of place) place.before first apart.ends placed.before_is) in
    let gone = second.stay place.number place.gone ((first.others place.number place.gone (λ e. apart.next (sym e))).0 placed.gone_is.has) in
    passed_over objects c.args.changes.now put linked c.take_out.new.changes place.number place.gone.previous place.gone.next place.after place.before first second
    (c.in_ok-take_out.ensures.value objects _ second.over gone) apart.next apart.ends
