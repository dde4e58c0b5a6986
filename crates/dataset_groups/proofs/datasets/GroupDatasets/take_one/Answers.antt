use Rattle.std.proofs.Common.{◌≡◌, ℕ, ◌+◌, ◌≤◌, true, List, [], inr, refl, sym, subst, arith, inl}
use Rattle.std.proofs.lemmas.Result.{IfErr-weaker, IfOk-weaker, on_ok_weaker}
use Rattle.dead_list.specs.Datasets.{Head}
use Rattle.object_table.proofs.Tables.{spaces_stay}
use Rattle.pool_model.specs.declared.item.Change.TheVariants.{Snapshot}
use Rattle.pool_model.specs.Names.{is_name}
use Rattle.volume_rules.specs.GoodChanges.{is_good_making}
use Rattle.dataset_groups.specs.Adding.{IsTaken}
use Rattle.dataset_groups.specs.NewVolumes.{numbers_end}
use Rattle.dataset_groups.proofs.GoodNames.{both}
use Rattle.dataset_groups.proofs.MoreDatasets.{passed_over}
use Rattle.dataset_groups.proofs.OneChange.{for_room, is_making, is_row_there, makes_one, not_made, row_of}
use Rattle.dataset_groups.proofs.RowNames.{is_none, is_there}
use Rattle.dataset_groups.proofs.TakenDatasets.{name_there, row_is_head, snapshot_made, volume_not_there}
use Rattle.dataset_groups.proofs.Causes.{caused_by_name}
use Rattle.dnode_tree.proofs.Refusing.{passed_on}
use Rattle.dataset_groups.proofs.datasets.GroupDatasets.take_one.Goals as goal

good_volume : (volume part : List ℕ) → is_good_making (Snapshot volume part) ≡ true → is_name volume ≡ true
good_volume volume part good = (both (is_name volume) (is_name part) good).0

-- ---- its name is there

pub returns-then-is_some-clause-value : goal.returns-then-is_some-clause-value
returns-then-is_some-clause-value g c = λ stored known objects own blocks pool readings plain held are tell spells.
    let there = is_there c.get.result _ _ c.is_some.ensures c.if-is_some.true c.get.ensures.found in
    passed_over c.args.self.now c.args.group known objects pool readings plain _
    (name_there c.args.group pool readings c.args.self.now.directory plain (record { name = c.in_ok-name.name; object = there.0 }) c.args.volume.now c.args.part.now there.1 c.in_ok-name.ensures.named
    spells.names) spells

-- ---- its volume isn't there

pub returns-in_default-clause-value : goal.returns-in_default-clause-value
returns-in_default-clause-value g c = λ stored known objects own blocks pool readings plain held are tell spells.
    passed_over c.args.self.now c.args.group known objects pool readings plain _
    (volume_not_there c.args.group pool readings c.args.self.now.directory plain c.args.volume.now c.args.part.now (c.object_of.ensures.none c.in_default.is) spells.names) spells

-- ---- it is taken

pub returns-clause-value : goal.returns-clause-value
returns-clause-value g c =
    let old = c.args.self.now in
    let volume = c.args.volume.now in
    let part = c.args.part.now in
    let lacks = c.get.ensures.none (is_none _ _ c.is_some.ensures c.if-is_some.false) in
    let has = row_of old.directory volume _ _ c.in-Some.is c.object_of.ensures.found in
    let within : old.next + 2 ≤ numbers_end = omega arith in
    let left : old.next + 2 ≤ old.bounds.end = omega arith in
    IfOk-weaker c.take.result (λ done. IsTaken c.args.store.now c.take.new.store c.args.group c.in-Some.head old c.in_ok-name.name c.take.new.self) _
    (λ done taken stored known objects own blocks pool readings plain held are tell spells.
    snapshot_made c.reach_has_each_block_once.ensures c.args.store.now c.take.new.store old c.take.new.self c.args.group c.in_ok-name.name volume part has.0 stored known objects own blocks pool
    readings plain c.requires.behind within left c.object_of.ensures.order c.in_ok-name.ensures.named (good_volume volume part c.in_ok-name.ensures.good) lacks has.1 has.2
    (subst (λ h. IsTaken c.args.store.now c.take.new.store c.args.group h old c.in_ok-name.name c.take.new.self) (sym has.3) taken) held are tell spells)
    c.take.ensures.taken

pub returns-clause-known : goal.returns-clause-known
returns-clause-known g c =
    let old = c.args.self.now in
    let volume = c.args.volume.now in
    let has = row_of old.directory volume _ _ c.in-Some.is c.object_of.ensures.found in
    IfErr-weaker c.take.result _ _
    (λ refusal known_for stored known objects own blocks pool readings plain good held are tell spells.
    let is = row_is_head pool readings old.directory plain has.0 volume c.object_of.ensures.order has.1 has.2 (good_volume volume c.args.part.now good) spells.names in
    for_room refusal (known_for stored known objects own blocks pool readings held are tell spells.chains (subst (λ h. (pool.datasets h).kind ≡ Head) has.3 is)))
    c.take.ensures.known

pub returns-clause-places : goal.returns-clause-places
returns-clause-places g c =
    let old = c.args.self.now in
    let change = Snapshot c.args.volume.now c.args.part.now in
    let lacks = c.get.ensures.none (is_none _ _ c.is_some.ensures c.if-is_some.false) in
    let has = row_of old.directory c.args.volume.now _ _ c.in-Some.is c.object_of.ensures.found in
    let making = is_making old.directory change c.in_ok-name.name c.in_ok-name.ensures.named lacks (is_row_there old.directory c.args.volume.now _ has) in
    IfOk-weaker c.take.result (λ done. IsTaken c.args.store.now c.take.new.store c.args.group c.in-Some.head old c.in_ok-name.name c.take.new.self) _
    (λ done taken.
    makes_one c.args.store.now c.take.new.store old c.take.new.self c.args.group change c.in_ok-name.name c.in_ok-name.ensures.named making taken.row taken.next taken.bounds
    (spaces_stay c.args.store.now c.take.new.store [] c.take.ensures.reads))
    c.take.ensures.taken

pub returns-clause-refused : goal.returns-clause-refused
returns-clause-refused g c =
    let old = c.args.self.now in
    let change = Snapshot c.args.volume.now c.args.part.now in
    let lacks = c.get.ensures.none (is_none _ _ c.is_some.ensures c.if-is_some.false) in
    let has = row_of old.directory c.args.volume.now _ _ c.in-Some.is c.object_of.ensures.found in
    let making = is_making old.directory change c.in_ok-name.name c.in_ok-name.ensures.named lacks (is_row_there old.directory c.args.volume.now _ has) in
    IfErr-weaker c.take.result _ _
    (λ refusal why.
    not_made c.args.store.now c.take.new.store old.changes c.args.group old.directory old.next old.bounds.end change refusal making
    (record { head = c.in-Some.head; is = inr has; far = old.changes; one_set = (refl, refl); last = why.0; why = why.1 }))
    c.take.ensures.refused

pub returns-in_err-name-clause-caused : goal.returns-in_err-name-clause-caused
returns-in_err-name-clause-caused g c = passed_on _ _ _ c.from_residual.ensures.1 (inl (caused_by_name c.args.store.now _ _ c.in_err-name.ensures.refused))

pub returns-then-saturating_sub-lt2-clause-caused : goal.returns-then-saturating_sub-lt2-clause-caused
returns-then-saturating_sub-lt2-clause-caused g c = inr (refl, omega arith)

pub returns-clause-caused : goal.returns-clause-caused
returns-clause-caused g c = IfErr-weaker c.take.result _ _ (λ refusal cause. inl cause) c.take.ensures.caused

pub returns-clause-idle : goal.returns-clause-idle
returns-clause-idle g c = on_ok_weaker c.take.result (λ taken same. let next = taken.next in absurd (omega (arith, next, same))) c.take.ensures.taken
