use Rattle.std.proofs.Common.{⊎_elim, inl, inr, sym, ℕ, subst, ◌∙◌}
use Rattle.block_store.proofs.Steps.{reads_on}
use Rattle.dnode_tree.proofs.FurtherReads.{told_before, told_after}
use Rattle.dnode_tree.proofs.Refusing.{passed_on}
use Rattle.dataset_chains.specs.Passing.{IsNextPassed}
use Rattle.dataset_chains.proofs.Chained.{objects_on}
use Rattle.dataset_chains.proofs.ReadRecords.{head_read}
use Rattle.dataset_chains.proofs.Refusing.{lost_later}
use Rattle.dataset_chains.proofs.Snapped.{head_kept, snapped}
use Rattle.dataset_chains.proofs.Touching.{takes}
use Rattle.dataset_chains.proofs.Unused.{new_list_on}
use Rattle.block_store.proofs.Causes.{caused_behind_reads}
use Rattle.dataset_chains.proofs.taking.snapshot.Goals as goal

pub returns-clause-value : goal.returns-clause-value
returns-clause-value g c = λ stored known objects own blocks pool readings held are tell spells head unused fresh.
    let group = c.args.group in
    let n = c.args.numbers.dataset in
    let list = c.args.numbers.dead_list in
    let h = c.args.head in
    let found = c.in_ok-dataset.dataset in
    let c0 = c.args.changes.now in
    let c1 = c.record_of_kind.new.changes in
    let c2 = c.pass_next.new.changes in
    let r1 = c.record_of_kind.ensures.reads in
    let r2 = c.pass_next.ensures.reads in
    let first = c.in_ok-dataset.ensures.value stored known group objects own blocks pool readings held are (told_before _ _ _ _ r1 r2 tell) spells in
    let second = c.in_ok-pass_next.ensures.value stored objects own blocks (r1.keeps stored held) (objects_on stored objects own blocks c0 c1 c.record_of_kind.ensures.one_set are)
    (told_after _ _ _ _ r1 r2 tell) first.0.over in
    let it = head_read known group objects pool readings c1 h found first.0 first.1 head in
    let passed = subst (λ (before : ℕ). IsNextPassed objects c1 c2 before h n) (sym it.before) second.1 in
    let news = new_list_on objects c0 c1 n list c.record_of_kind.ensures.lists fresh in
    let kind = c.in_ok-dataset.ensures.kind in
    let over3 = c.in_ok-make_record.ensures.over objects second.0 fresh.no_object.0 in
    let over4 = c.in_ok-change_record.ensures.over objects found over3
    (head_kept known group objects c1 pool readings first.0 h n list found first.1 kind head unused news c2 c.make_record.new.self passed c.in_ok-make_record.ensures.put) in
    let over5 = c.in_ok-make_list.ensures.over objects over4 fresh.no_object.1 in
    snapped known group objects c1 pool readings first.0 h n list found first.1 kind head unused news c2 c.make_record.new.self c.change_record.new.self c.make_list.new.self
    passed c.in_ok-make_record.ensures.put c.in_ok-change_record.ensures.put c.make_list.ensures.records
    c.pass_next.ensures.lists c.make_record.ensures.lists c.change_record.ensures.lists c.in_ok-make_list.ensures.put over5

pub returns-in_err-dataset-clause-known : goal.returns-in_err-dataset-clause-known
returns-in_err-dataset-clause-known g c =
    passed_on _ _ _ c.from_residual.ensures.1
    (λ stored known objects own blocks pool readings held are tell spells head.
    c.in_err-dataset.ensures.known stored known c.args.group objects own blocks pool readings held are tell spells head)

pub returns-in_err-pass_next-clause-reads : goal.returns-in_err-pass_next-clause-reads
returns-in_err-pass_next-clause-reads g c = reads_on _ _ _ _ c.record_of_kind.ensures.reads c.pass_next.ensures.reads

pub returns-in_err-make_record-clause-reads : goal.returns-in_err-make_record-clause-reads
returns-in_err-make_record-clause-reads g c = reads_on _ _ _ _ c.record_of_kind.ensures.reads c.pass_next.ensures.reads

pub returns-in_err-change_record-clause-reads : goal.returns-in_err-change_record-clause-reads
returns-in_err-change_record-clause-reads g c = reads_on _ _ _ _ c.record_of_kind.ensures.reads c.pass_next.ensures.reads

pub returns-in_err-make_list-clause-reads : goal.returns-in_err-make_list-clause-reads
returns-in_err-make_list-clause-reads g c = reads_on _ _ _ _ c.record_of_kind.ensures.reads c.pass_next.ensures.reads

pub returns-clause-reads : goal.returns-clause-reads
returns-clause-reads g c = reads_on _ _ _ _ c.record_of_kind.ensures.reads c.pass_next.ensures.reads

pub returns-in_err-pass_next-clause-refused : goal.returns-in_err-pass_next-clause-refused
returns-in_err-pass_next-clause-refused g c =
    passed_on _ _ _ c.from_residual-in_err-pass_next.ensures.1
    (⊎_elim (λ memory. inl memory) (λ lost. inr (inl (lost_later _ _ _ _ _ _ c.record_of_kind.ensures.reads c.record_of_kind.ensures.one_set lost))) c.in_err-pass_next.ensures.refused)

pub returns-in_err-pass_next-clause-known : goal.returns-in_err-pass_next-clause-known
returns-in_err-pass_next-clause-known g c =
    passed_on _ _ _ c.from_residual-in_err-pass_next.ensures.1
    (λ stored known objects own blocks pool readings held are tell spells head.
    let r1 = c.record_of_kind.ensures.reads in
    let r2 = c.pass_next.ensures.reads in
    let group = c.args.group in
    let first = c.in_ok-dataset.ensures.value stored known group objects own blocks pool readings held are (told_before _ _ _ _ r1 r2 tell) spells in
    let it = head_read known group objects pool readings c.record_of_kind.new.changes c.args.head c.in_ok-dataset.dataset first.0 first.1 head in
    c.in_err-pass_next.ensures.known stored known group objects own blocks pool readings (r1.keeps stored held)
    (objects_on stored objects own blocks c.args.changes.now c.record_of_kind.new.changes c.record_of_kind.ensures.one_set are) (told_after _ _ _ _ r1 r2 tell) first.0 c.args.head it.before)

pub returns-clause-touched : goal.returns-clause-touched
returns-clause-touched g c =
    takes c.args.changes.now c.record_of_kind.new.changes c.pass_next.new.changes c.make_record.new.self c.change_record.new.self c.make_list.new.self
    c.args.head c.args.numbers.dataset c.args.numbers.dead_list c.in_ok-dataset.dataset _ _ _
    c.record_of_kind.ensures.one_set c.in_ok-dataset.ensures.known_as c.in_ok-dataset.ensures.touched c.in_ok-pass_next.ensures.touched
    c.in_ok-make_record.ensures.put c.in_ok-change_record.ensures.put c.make_list.ensures.records
    (λ one. c.change_record.ensures.lists one ∙ c.make_record.ensures.lists one ∙ c.pass_next.ensures.lists one ∙ c.record_of_kind.ensures.lists one)
    c.in_ok-make_list.ensures.put

pub returns-in_err-dataset-clause-caused : goal.returns-in_err-dataset-clause-caused
returns-in_err-dataset-clause-caused g c = passed_on _ _ _ c.from_residual.ensures.1 c.in_err-dataset.ensures.caused

pub returns-in_err-pass_next-clause-caused : goal.returns-in_err-pass_next-clause-caused
returns-in_err-pass_next-clause-caused g c = passed_on _ _ _ c.from_residual-in_err-pass_next.ensures.1 (caused_behind_reads _ _ _ _ _ c.record_of_kind.ensures.reads c.in_err-pass_next.ensures.caused)
