use Rattle.std.proofs.Common.{inl, inr}
use Rattle.block_store.proofs.Steps.{reads_on}
use Rattle.dataset_destroys.proofs.Finding.{before_first, before_there, head_as}
use Rattle.dataset_destroys.proofs.HeadFinding.{head_there, is_good, unfit_by}
use Rattle.dataset_destroys.proofs.ReadSteps.{record_lost_on, same_on, tells_first, tells_rest}
use Rattle.dataset_destroys.proofs.Refusing.{passed_on}
use Rattle.block_store.proofs.Causes.{caused_behind_reads}
use Rattle.dnode_tree.proofs.Refusing.{caused_by_pointer}
use Rattle.dataset_destroys.proofs.head_places.HeadPlace.find.Goals as goal

pub returns-in_err-gone-clause-known : goal.returns-in_err-gone-clause-known
returns-in_err-gone-clause-known g c =
    passed_on _ _ _ c.from_residual.ensures.1 (λ stored known group objects pool readings told spells may.
    let there = head_there known group objects c.args.changes.now pool readings spells c.args.number may in
    c.in_err-gone.ensures.known stored objects told spells.over there.behind there.r there.has there.kind)

pub returns-in_err-before-clause-reads : goal.returns-in_err-before-clause-reads
returns-in_err-before-clause-reads g c = reads_on _ _ _ _ c.in_ok-gone.ensures.reads c.in_err-before.ensures.reads

pub returns-in_err-before-clause-refused : goal.returns-in_err-before-clause-refused
returns-in_err-before-clause-refused g c =
    passed_on _ _ _ c.from_residual-in_err-before.ensures.1 (inr (inr (inr (inl
    (record_lost_on _ _ _ c.args.changes.now c.head_record.new.changes _ c.in_ok-gone.ensures.reads c.in_ok-gone.ensures.one_set c.in_err-before.ensures.refused)))))

pub returns-in_err-before-clause-known : goal.returns-in_err-before-clause-known
returns-in_err-before-clause-known g c =
    let first = c.in_ok-gone.ensures.reads in
    let rest = c.in_err-before.ensures.reads in
    passed_on _ _ _ c.from_residual-in_err-before.ensures.1 (λ stored known group objects pool readings told spells may.
    let it = c.in_ok-gone.ensures.value stored objects (tells_first _ _ _ _ _ _ first rest told) spells.over in
    let tells = head_as known group objects c.args.changes.now pool readings spells c.args.number c.in_ok-gone.gone may.0 it.1 in
    c.in_err-before.ensures.known stored objects (tells_rest _ _ _ _ _ _ _ c.in_ok-gone.ensures.one_set first rest told)
    (λ some. let there = before_there known group objects c.args.changes.now pool readings spells c.args.number c.in_ok-gone.gone tells some in
    (there.0, (there.1.0, (it.0.records c.in_ok-gone.gone.previous there.1.0).0 there.1.1))))

pub returns-in_err-judged-clause-reads : goal.returns-in_err-judged-clause-reads
returns-in_err-judged-clause-reads g c = reads_on _ _ _ _ c.in_ok-gone.ensures.reads c.in_ok-before.ensures.reads

pub returns-in_err-judged-clause-refused : goal.returns-in_err-judged-clause-refused
returns-in_err-judged-clause-refused g c =
    passed_on _ _ _ c.from_residual-in_err-judged.ensures.1 (unfit_by _ _ c.args.changes.now c.record_before.new.changes c.args.number c.in_ok-gone.gone c.in_ok-before.before _
    (c.in_ok-before.ensures.keeps c.args.number c.in_ok-gone.gone c.in_ok-gone.ensures.known_as) c.in_ok-before.ensures.known_as c.in_err-judged.ensures.cause c.in_err-judged.ensures.refused)

pub returns-in_err-judged-clause-known : goal.returns-in_err-judged-clause-known
returns-in_err-judged-clause-known g c =
    let first = c.in_ok-gone.ensures.reads in
    let rest = c.in_ok-before.ensures.reads in
    passed_on _ _ _ c.from_residual-in_err-judged.ensures.1 (λ stored known group objects pool readings told spells may.
    let it = c.in_ok-gone.ensures.value stored objects (tells_first _ _ _ _ _ _ first rest told) spells.over in
    let tells = head_as known group objects c.args.changes.now pool readings spells c.args.number c.in_ok-gone.gone may.0 it.1 in
    let last = c.in_ok-before.ensures.value stored objects (tells_rest _ _ _ _ _ _ _ c.in_ok-gone.ensures.one_set first rest told) it.0.over in
    absurd (is_good known group objects c.args.changes.now pool readings spells c.args.number may c.in_ok-gone.gone c.in_ok-before.before tells
    (before_first objects c.args.changes.now c.head_record.new.changes c.in_ok-gone.gone.previous c.in_ok-before.before it.0 last.1) c.in_err-judged.ensures.refused))

pub returns-clause-reads : goal.returns-clause-reads
returns-clause-reads g c = reads_on _ _ _ _ c.in_ok-gone.ensures.reads c.in_ok-before.ensures.reads

pub returns-clause-value : goal.returns-clause-value
returns-clause-value g c = λ stored objects told over.
    let first = c.in_ok-gone.ensures.reads in
    let rest = c.in_ok-before.ensures.reads in
    let it = c.in_ok-gone.ensures.value stored objects (tells_first _ _ _ _ _ _ first rest told) over in
    let last = c.in_ok-before.ensures.value stored objects (tells_rest _ _ _ _ _ _ _ c.in_ok-gone.ensures.one_set first rest told) it.0.over in (
      same_on objects _ _ _ it.0 last.0,
      record { gone_is = it.1; before_is = before_first objects c.args.changes.now c.head_record.new.changes c.in_ok-gone.gone.previous c.in_ok-before.before it.0 last.1 },
    )

pub returns-clause-known_as : goal.returns-clause-known_as
returns-clause-known_as g c = c.in_ok-before.ensures.keeps c.args.number c.in_ok-gone.gone c.in_ok-gone.ensures.known_as

pub returns-in_err-before-clause-caused : goal.returns-in_err-before-clause-caused
returns-in_err-before-clause-caused g c = passed_on _ _ _ c.from_residual-in_err-before.ensures.1 (caused_behind_reads _ _ _ _ _ c.in_ok-gone.ensures.reads c.in_err-before.ensures.caused)

pub returns-in_err-judged-clause-caused : goal.returns-in_err-judged-clause-caused
returns-in_err-judged-clause-caused g c = passed_on _ _ _ c.from_residual-in_err-judged.ensures.1 (caused_by_pointer _ _ _ _ c.in_err-judged.ensures.cause)
