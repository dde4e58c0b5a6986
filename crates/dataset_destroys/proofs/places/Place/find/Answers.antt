use Rattle.std.proofs.Common.{inl, inr}
use Rattle.block_store.proofs.Steps.{reads_on}
use Rattle.dataset_destroys.proofs.Finding.{after_there, before_first, before_there, kept_on, lone_there, snapshot_as}
use Rattle.dataset_destroys.proofs.ReadSteps.{one_set_on, record_lost_on, same_on, tells_first, tells_rest, the_record_first}
use Rattle.dataset_destroys.proofs.Refusing.{passed_on}
use Rattle.block_store.proofs.Causes.{caused_behind_reads}
use Rattle.dataset_destroys.proofs.places.Place.find.Goals as goal

pub returns-in_err-gone-clause-known : goal.returns-in_err-gone-clause-known
returns-in_err-gone-clause-known g c =
    passed_on _ _ _ c.from_residual.ensures.1 (λ stored known group objects pool readings told spells may.
    let there = lone_there known group objects c.args.changes.now pool readings spells c.args.number may.0 may.1 in
    c.in_err-gone.ensures.known stored objects told spells.over there.behind there.r there.has there.kind there.clones)

pub returns-in_err-after-clause-reads : goal.returns-in_err-after-clause-reads
returns-in_err-after-clause-reads g c = reads_on _ _ _ _ c.in_ok-gone.ensures.reads c.in_err-after.ensures.reads

pub returns-in_err-after-clause-refused : goal.returns-in_err-after-clause-refused
returns-in_err-after-clause-refused g c =
    passed_on _ _ _ c.from_residual-in_err-after.ensures.1 (kept_on _ c.lone_snapshot.new.store _ c.args.changes.now c.lone_snapshot.new.changes c.follower.new.changes c.args.number _ c.in_ok-gone.ensures.reads c.in_ok-gone.ensures.one_set
    (c.in_err-after.ensures.refused c.in_ok-gone.ensures.known_as))

pub returns-in_err-after-clause-known : goal.returns-in_err-after-clause-known
returns-in_err-after-clause-known g c =
    let first = c.in_ok-gone.ensures.reads in
    let rest = c.in_err-after.ensures.reads in
    passed_on _ _ _ c.from_residual-in_err-after.ensures.1 (λ stored known group objects pool readings told spells may.
    let it = c.in_ok-gone.ensures.value stored objects (tells_first _ _ _ _ _ _ first rest told) spells.over in
    let there = after_there known group objects c.args.changes.now pool readings spells c.args.number c.in_ok-gone.gone may.0 it.1 in
    c.in_err-after.ensures.known stored objects (tells_rest _ _ _ _ _ _ _ c.in_ok-gone.ensures.one_set first rest told) it.0.over there.behind there.r
    ((it.0.records c.in_ok-gone.gone.next there.r).0 there.has) there.linked)

pub returns-in_err-before-clause-reads : goal.returns-in_err-before-clause-reads
returns-in_err-before-clause-reads g c =
    reads_on _ _ _ _ c.in_ok-gone.ensures.reads (reads_on _ _ _ _ c.in_ok-after.ensures.reads c.in_err-before.ensures.reads)

pub returns-in_err-before-clause-refused : goal.returns-in_err-before-clause-refused
returns-in_err-before-clause-refused g c =
    let reads = reads_on _ _ _ _ c.in_ok-gone.ensures.reads c.in_ok-after.ensures.reads in
    let one_set = one_set_on c.args.changes.now c.lone_snapshot.new.changes c.follower.new.changes c.in_ok-gone.ensures.one_set c.in_ok-after.ensures.one_set in
    passed_on _ _ _ c.from_residual-in_err-before.ensures.1 (inr (inr (inr (inl (record_lost_on _ _ _ c.args.changes.now c.follower.new.changes _ reads one_set c.in_err-before.ensures.refused)))))

pub returns-in_err-before-clause-known : goal.returns-in_err-before-clause-known
returns-in_err-before-clause-known g c =
    let first = c.in_ok-gone.ensures.reads in
    let second = c.in_ok-after.ensures.reads in
    let third = c.in_err-before.ensures.reads in
    passed_on _ _ _ c.from_residual-in_err-before.ensures.1 (λ stored known group objects pool readings told spells may.
    let told_first = tells_first _ _ _ _ _ _ first (reads_on _ _ _ _ second third) told in
    let it = c.in_ok-gone.ensures.value stored objects told_first spells.over in
    let told_rest = tells_rest _ _ _ _ _ _ _ c.in_ok-gone.ensures.one_set first (reads_on _ _ _ _ second third) told in
    let next = c.in_ok-after.ensures.value stored objects (tells_first _ _ _ _ _ _ second third told_rest) it.0.over in
    let same = same_on objects _ _ _ it.0 next.0 in
    let tells = snapshot_as known group objects c.args.changes.now pool readings spells c.args.number c.in_ok-gone.gone may.0 it.1 in
    c.in_err-before.ensures.known stored objects (tells_rest _ _ _ _ _ _ _ c.in_ok-after.ensures.one_set second third told_rest)
    (λ some. let there = before_there known group objects c.args.changes.now pool readings spells c.args.number c.in_ok-gone.gone tells some in
    (there.0, (there.1.0, (same.records c.in_ok-gone.gone.previous there.1.0).0 there.1.1))))

pub returns-clause-reads : goal.returns-clause-reads
returns-clause-reads g c = reads_on _ _ _ _ c.in_ok-gone.ensures.reads (reads_on _ _ _ _ c.in_ok-after.ensures.reads c.in_ok-before.ensures.reads)

pub returns-clause-value : goal.returns-clause-value
returns-clause-value g c = λ stored objects told over.
    let first = c.in_ok-gone.ensures.reads in
    let second = c.in_ok-after.ensures.reads in
    let third = c.in_ok-before.ensures.reads in
    let told_first = tells_first _ _ _ _ _ _ first (reads_on _ _ _ _ second third) told in
    let it = c.in_ok-gone.ensures.value stored objects told_first over in
    let told_rest = tells_rest _ _ _ _ _ _ _ c.in_ok-gone.ensures.one_set first (reads_on _ _ _ _ second third) told in
    let next = c.in_ok-after.ensures.value stored objects (tells_first _ _ _ _ _ _ second third told_rest) it.0.over in
    let last = c.in_ok-before.ensures.value stored objects (tells_rest _ _ _ _ _ _ _ c.in_ok-after.ensures.one_set second third told_rest) next.0.over in
    let same = same_on objects _ _ _ it.0 next.0 in (
      same_on objects _ _ _ same last.0,
      record {
        gone_is = it.1;
        after_is = the_record_first objects _ _ c.in_ok-gone.gone.next c.in_ok-after.after it.0 next.1;
        before_is = before_first objects _ _ c.in_ok-gone.gone.previous c.in_ok-before.before same last.1;
      },
    )

pub returns-in_err-after-clause-caused : goal.returns-in_err-after-clause-caused
returns-in_err-after-clause-caused g c = passed_on _ _ _ c.from_residual-in_err-after.ensures.1 (caused_behind_reads _ _ _ _ _ c.in_ok-gone.ensures.reads c.in_err-after.ensures.caused)

pub returns-in_err-before-clause-caused : goal.returns-in_err-before-clause-caused
returns-in_err-before-clause-caused g c = passed_on _ _ _ c.from_residual-in_err-before.ensures.1 (caused_behind_reads _ _ _ _ _ (reads_on _ _ _ _ c.in_ok-gone.ensures.reads c.in_ok-after.ensures.reads) c.in_err-before.ensures.caused)
