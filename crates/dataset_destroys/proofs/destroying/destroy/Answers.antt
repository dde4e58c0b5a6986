use Rattle.std.proofs.Common.{inl}
use Rattle.std.proofs.lemmas.Result.{IfErr-weaker, on_ok_weaker}
use Rattle.block_store.proofs.Steps.{reads_on}
use Rattle.dataset_chains.proofs.Touching.{read_at_most}
use Rattle.meta_objset.specs.declared.record.DatasetKind.TheVariants.{Volume, Snapshot}
use Rattle.dataset_destroys.proofs.EachKind.{behind, is_used, kept_behind, made_of_head, made_of_snapshot, may_head, may_snapshot}
use Rattle.dataset_destroys.proofs.Refusing.{passed_on}
use Rattle.dataset_destroys.proofs.Touching.{own_lists_behind, touched_behind}
use Rattle.block_store.proofs.Causes.{caused_behind_reads}
use Rattle.dataset_destroys.proofs.destroying.destroy.Goals as goal

pub returns-in_err-dataset-clause-refused : goal.returns-in_err-dataset-clause-refused
returns-in_err-dataset-clause-refused g c = passed_on _ _ _ c.from_residual.ensures.1 (inl c.in_err-dataset.ensures.refused)

pub returns-in_err-dataset-clause-known : goal.returns-in_err-dataset-clause-known
returns-in_err-dataset-clause-known g c = passed_on _ _ _ c.from_residual.ensures.1 (λ stored objects own blocks pool readings held are tell spells may enough.
    let has = spells.each c.args.number (is_used pool c.args.number may) in
    c.in_err-dataset.ensures.known stored objects own blocks held are tell has.behind has.r has.has)

pub returns-in-Snapshot-clause-reads : goal.returns-in-Snapshot-clause-reads
returns-in-Snapshot-clause-reads g c = reads_on _ _ _ _ c.in_ok-dataset.ensures.reads c.destroy_snapshot.ensures.reads

pub returns-in-Snapshot-clause-value : goal.returns-in-Snapshot-clause-value
returns-in-Snapshot-clause-value g c = on_ok_weaker c.destroy_snapshot.result (λ value stored objects own blocks pool readings held are tell spells may.
    let at = behind _ _ _ c.args.changes.now c.record.new.self c.args.number c.args.group c.in_ok-dataset.dataset c.in_ok-dataset.ensures.reads c.record.ensures.one_set c.destroy_snapshot.ensures.reads
    c.record.ensures.lists c.in_ok-dataset.ensures.kept c.in_ok-dataset.ensures.value stored objects own blocks pool readings held are tell spells Snapshot c.in-Snapshot.is in
    let done = value stored stored c.args.group objects own blocks pool readings at.held at.are at.tell at.spells (may_snapshot pool c.args.number at.kind_as may) in
    (done.0, done.1, done.2, made_of_snapshot pool c.args.number done.0 done.2 at.kind_as done.3, done.4)) c.destroy_snapshot.ensures.value

pub returns-in-Snapshot-clause-refused : goal.returns-in-Snapshot-clause-refused
returns-in-Snapshot-clause-refused g c = IfErr-weaker c.destroy_snapshot.result _ _
    (kept_behind _ _ _ c.args.changes.now c.record.new.self c.args.number c.args.group c.in_ok-dataset.dataset c.in_ok-dataset.ensures.reads c.record.ensures.one_set
    c.destroy_snapshot.new.changes c.args.left.now c.args.left.now Snapshot c.in_ok-dataset.ensures.known_as c.in-Snapshot.is) c.destroy_snapshot.ensures.refused

pub returns-in-Snapshot-clause-known : goal.returns-in-Snapshot-clause-known
returns-in-Snapshot-clause-known g c = IfErr-weaker c.destroy_snapshot.result _ _ (λ refusal known stored objects own blocks pool readings held are tell spells may enough.
    let at = behind _ _ _ c.args.changes.now c.record.new.self c.args.number c.args.group c.in_ok-dataset.dataset c.in_ok-dataset.ensures.reads c.record.ensures.one_set c.destroy_snapshot.ensures.reads
    c.record.ensures.lists c.in_ok-dataset.ensures.kept c.in_ok-dataset.ensures.value stored objects own blocks pool readings held are tell spells Snapshot c.in-Snapshot.is in
    known stored stored c.args.group objects own blocks pool readings at.held at.are at.tell at.spells (may_snapshot pool c.args.number at.kind_as may)) c.destroy_snapshot.ensures.known

pub returns-in-Volume-clause-reads : goal.returns-in-Volume-clause-reads
returns-in-Volume-clause-reads g c = reads_on _ _ _ _ c.in_ok-dataset.ensures.reads c.destroy_head.ensures.reads

pub returns-in-Volume-clause-value : goal.returns-in-Volume-clause-value
returns-in-Volume-clause-value g c = on_ok_weaker c.destroy_head.result (λ value stored objects own blocks pool readings held are tell spells may.
    let at = behind _ _ _ c.args.changes.now c.record.new.self c.args.number c.args.group c.in_ok-dataset.dataset c.in_ok-dataset.ensures.reads c.record.ensures.one_set c.destroy_head.ensures.reads
    c.record.ensures.lists c.in_ok-dataset.ensures.kept c.in_ok-dataset.ensures.value stored objects own blocks pool readings held are tell spells Volume c.in-Volume.is in
    let done = value stored objects own blocks pool readings at.held at.are at.tell at.spells (may_head pool c.args.number at.kind_as may) in
    (done.0, done.1, done.2, made_of_head pool c.args.number done.0 done.2 at.kind_as done.3, done.4)) c.destroy_head.ensures.value

pub returns-in-Volume-clause-refused : goal.returns-in-Volume-clause-refused
returns-in-Volume-clause-refused g c = IfErr-weaker c.destroy_head.result _ _
    (kept_behind _ _ _ c.args.changes.now c.record.new.self c.args.number c.args.group c.in_ok-dataset.dataset c.in_ok-dataset.ensures.reads c.record.ensures.one_set
    c.destroy_head.new.changes c.args.left.now c.destroy_head.new.left Volume c.in_ok-dataset.ensures.known_as c.in-Volume.is) c.destroy_head.ensures.refused

pub returns-in-Volume-clause-known : goal.returns-in-Volume-clause-known
returns-in-Volume-clause-known g c = IfErr-weaker c.destroy_head.result _ _ (λ refusal known stored objects own blocks pool readings held are tell spells may enough.
    let at = behind _ _ _ c.args.changes.now c.record.new.self c.args.number c.args.group c.in_ok-dataset.dataset c.in_ok-dataset.ensures.reads c.record.ensures.one_set c.destroy_head.ensures.reads
    c.record.ensures.lists c.in_ok-dataset.ensures.kept c.in_ok-dataset.ensures.value stored objects own blocks pool readings held are tell spells Volume c.in-Volume.is in
    known stored objects own blocks pool readings at.held at.are at.tell at.spells (may_head pool c.args.number at.kind_as may) (enough at.kind_as)) c.destroy_head.ensures.known

pub returns-in-Snapshot-clause-touched : goal.returns-in-Snapshot-clause-touched
returns-in-Snapshot-clause-touched g c = on_ok_weaker c.destroy_snapshot.result (touched_behind c.args.changes.now c.record.new.self c.destroy_snapshot.new.changes c.args.number c.record.ensures.one_set
    (read_at_most c.args.changes.now c.record.new.self c.args.number c.in_ok-dataset.dataset c.in_ok-dataset.ensures.kept) c.record.ensures.lists) c.destroy_snapshot.ensures.touched

pub returns-in-Volume-clause-touched : goal.returns-in-Volume-clause-touched
returns-in-Volume-clause-touched g c = on_ok_weaker c.destroy_head.result (touched_behind c.args.changes.now c.record.new.self c.destroy_head.new.changes c.args.number c.record.ensures.one_set
    (read_at_most c.args.changes.now c.record.new.self c.args.number c.in_ok-dataset.dataset c.in_ok-dataset.ensures.kept) c.record.ensures.lists) c.destroy_head.ensures.touched

pub returns-in-Snapshot-clause-own_lists : goal.returns-in-Snapshot-clause-own_lists
returns-in-Snapshot-clause-own_lists g c = on_ok_weaker c.destroy_snapshot.result (λ there stored objects own blocks pool readings held are tell spells may.
    let at = behind _ _ _ c.args.changes.now c.record.new.self c.args.number c.args.group c.in_ok-dataset.dataset c.in_ok-dataset.ensures.reads c.record.ensures.one_set c.destroy_snapshot.ensures.reads
    c.record.ensures.lists c.in_ok-dataset.ensures.kept c.in_ok-dataset.ensures.value stored objects own blocks pool readings held are tell spells Snapshot c.in-Snapshot.is in
    own_lists_behind objects c.args.changes.now c.record.new.self c.destroy_snapshot.new.changes c.record.ensures.lists
    (there stored stored c.args.group objects own blocks pool readings at.held at.are at.tell at.spells (may_snapshot pool c.args.number at.kind_as may))) c.destroy_snapshot.ensures.own_lists

pub returns-in-Volume-clause-own_lists : goal.returns-in-Volume-clause-own_lists
returns-in-Volume-clause-own_lists g c = on_ok_weaker c.destroy_head.result (λ there stored objects own blocks pool readings held are tell spells may.
    let at = behind _ _ _ c.args.changes.now c.record.new.self c.args.number c.args.group c.in_ok-dataset.dataset c.in_ok-dataset.ensures.reads c.record.ensures.one_set c.destroy_head.ensures.reads
    c.record.ensures.lists c.in_ok-dataset.ensures.kept c.in_ok-dataset.ensures.value stored objects own blocks pool readings held are tell spells Volume c.in-Volume.is in
    own_lists_behind objects c.args.changes.now c.record.new.self c.destroy_head.new.changes c.record.ensures.lists
    (there stored objects own blocks pool readings at.held at.are at.tell at.spells (may_head pool c.args.number at.kind_as may))) c.destroy_head.ensures.own_lists

pub returns-in-Snapshot-clause-caused : goal.returns-in-Snapshot-clause-caused
returns-in-Snapshot-clause-caused g c = IfErr-weaker c.destroy_snapshot.result _ _ (λ refusal. caused_behind_reads _ _ _ _ refusal c.in_ok-dataset.ensures.reads) c.destroy_snapshot.ensures.caused

pub returns-in-Volume-clause-caused : goal.returns-in-Volume-clause-caused
returns-in-Volume-clause-caused g c = IfErr-weaker c.destroy_head.result _ _ (λ refusal. caused_behind_reads _ _ _ _ refusal c.in_ok-dataset.ensures.reads) c.destroy_head.ensures.caused
