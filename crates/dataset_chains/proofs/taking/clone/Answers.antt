use Rattle.std.proofs.Common.{◌≡◌, ◌-◌, ◌^◌, ◌∙◌, inl, inr, refl, rules}
use Rattle.dnode_tree.proofs.Refusing.{passed_on}
use Rattle.dataset_chains.proofs.Cloned.{cloned}
use Rattle.dataset_chains.proofs.Touching.{clones}
use Rattle.dataset_chains.proofs.Unused.{new_list_on}
use Rattle.dataset_chains.proofs.taking.clone.Goals as goal

pub returns-in_err-origin-clause-known : goal.returns-in_err-origin-clause-known
returns-in_err-origin-clause-known g c =
    passed_on _ _ _ c.from_residual.ensures.1
    (λ stored known objects own blocks pool readings held are tell spells snapshot.
    inl (c.in_err-origin.ensures.known stored known c.args.group objects own blocks pool readings held are tell spells snapshot))

pub returns-in_default-clause-known : goal.returns-in_default-clause-known
returns-in_default-clause-known g c = λ stored known objects own blocks pool readings held are tell spells snapshot.
    let full : c.in_ok-origin.origin.clones ≡ 2 ^ 64 - 1 = search rules in
    inr (refl, (c.in_ok-origin.origin, c.in_ok-origin.ensures.known_as, full))

pub returns-clause-value : goal.returns-clause-value
returns-clause-value g c = λ stored known objects own blocks pool readings held are tell spells snapshot unused fresh.
    let n = c.args.numbers.dataset in
    let list = c.args.numbers.dead_list in
    let s = c.args.snapshot in
    let found = c.in_ok-origin.origin in
    let c0 = c.args.changes.now in
    let c1 = c.record_of_kind.new.changes in
    let first = c.in_ok-origin.ensures.value stored known c.args.group objects own blocks pool readings held are tell spells in
    let over2 = c.in_ok-change_record.ensures.over objects found first.0.over ((first.1 found).1 refl) in
    let over = c.in_ok-make_list.ensures.over objects (c.in_ok-make_record.ensures.over objects over2 fresh.no_object.0) fresh.no_object.1 in
    cloned known c.args.group objects c1 pool readings first.0 s n list c.in-Some.clones found first.1 snapshot unused (new_list_on objects c0 c1 n list c.record_of_kind.ensures.lists fresh) (search rules)
    c.change_record.new.self c.make_record.new.self c.make_list.new.self c.in_ok-change_record.ensures.put c.in_ok-make_record.ensures.put c.make_list.ensures.records
    c.change_record.ensures.lists c.make_record.ensures.lists c.in_ok-make_list.ensures.put over

pub returns-clause-touched : goal.returns-clause-touched
returns-clause-touched g c =
    clones c.args.changes.now c.record_of_kind.new.changes c.change_record.new.self c.make_record.new.self c.make_list.new.self c.args.snapshot c.args.numbers.dataset c.args.numbers.dead_list _ _ _
    c.in_ok-origin.ensures.touched c.in_ok-change_record.ensures.put c.in_ok-make_record.ensures.put c.make_list.ensures.records
    (λ one. c.make_record.ensures.lists one ∙ c.change_record.ensures.lists one ∙ c.record_of_kind.ensures.lists one) c.in_ok-make_list.ensures.put

pub returns-in_err-origin-clause-caused : goal.returns-in_err-origin-clause-caused
returns-in_err-origin-clause-caused g c = passed_on _ _ _ c.from_residual.ensures.1 (inl c.in_err-origin.ensures.caused)

pub returns-in_default-clause-caused : goal.returns-in_default-clause-caused
returns-in_default-clause-caused g c = let full : c.in_ok-origin.origin.clones ≡ 2 ^ 64 - 1 = search rules in inr (refl, (c.in_ok-origin.origin, c.in_ok-origin.ensures.known_as, full))

pub returns-in_err-origin-clause-refused : goal.returns-in_err-origin-clause-refused
returns-in_err-origin-clause-refused g c = passed_on _ _ _ c.from_residual.ensures.1 (inr c.in_err-origin.ensures.refused)
