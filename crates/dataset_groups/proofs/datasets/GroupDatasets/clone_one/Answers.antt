use Rattle.std.proofs.Common.{◌≡◌, ℕ, ◌+◌, ◌≤◌, true, List, [], inr, refl, sym, subst, arith, inl, ⊎_elim}
use Rattle.std.proofs.lemmas.Result.{IfErr-weaker, IfOk-weaker, on_ok_weaker}
use Rattle.dead_list.specs.Datasets.{Snapshot as ASnapshot}
use Rattle.object_table.proofs.Tables.{spaces_stay}
use Rattle.pool_model.specs.declared.item.Change.TheVariants.{Clone}
use Rattle.pool_model.specs.declared.volume.VolumeKind.TheVariants.{Snapshot as SnapshotKind}
use Rattle.pool_model.specs.Names.{is_name, is_name_for}
use Rattle.volume_rules.specs.GoodChanges.{is_good_making}
use Rattle.dataset_groups.specs.Adding.{IsCloned}
use Rattle.dataset_groups.specs.NewVolumes.{numbers_end}
use Rattle.dataset_groups.proofs.GoodNames.{both}
use Rattle.dataset_groups.proofs.MoreDatasets.{passed_over}
use Rattle.dataset_groups.proofs.OneChange.{for_clone, is_making, is_row_there, makes_one, not_made, row_of}
use Rattle.dataset_groups.proofs.RowNames.{is_none, is_there}
use Rattle.dataset_groups.proofs.ClonedDatasets.{clone_made, clone_there, row_is_snapshot, snapshot_not_there}
use Rattle.dataset_groups.proofs.Causes.{caused_by_name}
use Rattle.dnode_tree.proofs.Refusing.{passed_on}
use Rattle.dataset_groups.proofs.datasets.GroupDatasets.clone_one.Goals as goal

good_names : (snapshot name : List ℕ) → is_good_making (Clone snapshot name) ≡ true → (is_name_for SnapshotKind snapshot ≡ true) × (is_name name ≡ true)
good_names snapshot name good = both (is_name_for SnapshotKind snapshot) (is_name name) good

-- ---- its name is there

pub returns-then-is_some-clause-value : goal.returns-then-is_some-clause-value
returns-then-is_some-clause-value g c = λ stored known objects own blocks pool readings plain held are tell spells.
    let there = is_there c.get.result _ _ c.is_some.ensures c.if-is_some.true c.get.ensures.found in
    passed_over c.args.self.now c.args.group known objects pool readings plain _
    (clone_there c.args.group pool readings c.args.self.now.directory plain (record { name = c.in_ok-name.name; object = there.0 }) c.args.snapshot.now c.args.name.now there.1 c.in_ok-name.ensures.named
    spells.names) spells

-- ---- its snapshot isn't there

pub returns-in_default-clause-value : goal.returns-in_default-clause-value
returns-in_default-clause-value g c = λ stored known objects own blocks pool readings plain held are tell spells.
    passed_over c.args.self.now c.args.group known objects pool readings plain _
    (snapshot_not_there c.args.group pool readings c.args.self.now.directory plain c.args.snapshot.now c.args.name.now (c.object_of.ensures.none c.in_default.is) spells.names) spells

-- ---- it is made

pub returns-clause-value : goal.returns-clause-value
returns-clause-value g c =
    let old = c.args.self.now in
    let snapshot = c.args.snapshot.now in
    let name = c.args.name.now in
    let lacks = c.get.ensures.none (is_none _ _ c.is_some.ensures c.if-is_some.false) in
    let has = row_of old.directory snapshot _ _ c.in-Some.is c.object_of.ensures.found in
    let names = good_names snapshot name c.in_ok-name.ensures.good in
    let within : old.next + 2 ≤ numbers_end = omega arith in
    let left : old.next + 2 ≤ old.bounds.end = omega arith in
    IfOk-weaker c.clone_as.result (λ done. IsCloned c.args.store.now c.clone_as.new.store c.args.group c.in-Some.origin old c.in_ok-name.name c.clone_as.new.self) _
    (λ done cloned stored known objects own blocks pool readings plain held are tell spells.
    clone_made c.reach_has_each_block_once.ensures c.args.store.now c.clone_as.new.store old c.clone_as.new.self c.args.group c.in_ok-name.name snapshot name has.0 stored known objects own blocks pool
    readings plain c.requires.behind within left c.object_of.ensures.order c.in_ok-name.ensures.named names.0 names.1 lacks has.1 has.2
    (subst (λ h. IsCloned c.args.store.now c.clone_as.new.store c.args.group h old c.in_ok-name.name c.clone_as.new.self) (sym has.3) cloned) held are tell spells)
    c.clone_as.ensures.cloned

pub returns-clause-known : goal.returns-clause-known
returns-clause-known g c =
    let old = c.args.self.now in
    let snapshot = c.args.snapshot.now in
    let has = row_of old.directory snapshot _ _ c.in-Some.is c.object_of.ensures.found in
    IfErr-weaker c.clone_as.result _ _
    (λ refusal known_for stored known objects own blocks pool readings plain good held are tell spells.
    let is = row_is_snapshot pool readings old.directory plain has.0 snapshot c.object_of.ensures.order has.1 has.2 (good_names snapshot c.args.name.now good).0 spells.names in
    for_clone refusal (known_for stored known objects own blocks pool readings held are tell spells.chains (subst (λ h. (pool.datasets h).kind ≡ ASnapshot) has.3 is)))
    c.clone_as.ensures.known

pub returns-clause-places : goal.returns-clause-places
returns-clause-places g c =
    let old = c.args.self.now in
    let change = Clone c.args.snapshot.now c.args.name.now in
    let lacks = c.get.ensures.none (is_none _ _ c.is_some.ensures c.if-is_some.false) in
    let has = row_of old.directory c.args.snapshot.now _ _ c.in-Some.is c.object_of.ensures.found in
    let making = is_making old.directory change c.in_ok-name.name c.in_ok-name.ensures.named lacks (is_row_there old.directory c.args.snapshot.now _ has) in
    IfOk-weaker c.clone_as.result (λ done. IsCloned c.args.store.now c.clone_as.new.store c.args.group c.in-Some.origin old c.in_ok-name.name c.clone_as.new.self) _
    (λ done cloned.
    makes_one c.args.store.now c.clone_as.new.store old c.clone_as.new.self c.args.group change c.in_ok-name.name c.in_ok-name.ensures.named making cloned.row cloned.next cloned.bounds
    (spaces_stay c.args.store.now c.clone_as.new.store [] c.clone_as.ensures.reads))
    c.clone_as.ensures.cloned

pub returns-clause-refused : goal.returns-clause-refused
returns-clause-refused g c =
    let old = c.args.self.now in
    let change = Clone c.args.snapshot.now c.args.name.now in
    let lacks = c.get.ensures.none (is_none _ _ c.is_some.ensures c.if-is_some.false) in
    let has = row_of old.directory c.args.snapshot.now _ _ c.in-Some.is c.object_of.ensures.found in
    let making = is_making old.directory change c.in_ok-name.name c.in_ok-name.ensures.named lacks (is_row_there old.directory c.args.snapshot.now _ has) in
    IfErr-weaker c.clone_as.result _ _
    (λ refusal why.
    not_made c.args.store.now c.clone_as.new.store old.changes c.args.group old.directory old.next old.bounds.end change refusal making
    (record { origin = c.in-Some.origin; is = inr has; far = old.changes; one_set = (refl, refl); last = why.0; why = why.1 }))
    c.clone_as.ensures.refused

pub returns-in_err-name-clause-caused : goal.returns-in_err-name-clause-caused
returns-in_err-name-clause-caused g c = passed_on _ _ _ c.from_residual.ensures.1 (inl (caused_by_name c.args.store.now _ _ c.in_err-name.ensures.refused))

pub returns-then-saturating_sub-lt2-clause-caused : goal.returns-then-saturating_sub-lt2-clause-caused
returns-then-saturating_sub-lt2-clause-caused g c = inr (inl (refl, omega arith))

pub returns-clause-caused : goal.returns-clause-caused
returns-clause-caused g c =
    IfErr-weaker c.clone_as.result _ _ (λ refusal. ⊎_elim (λ cause. inl cause) (λ most. inr (inr (c.in-Some.origin, most)))) c.clone_as.ensures.caused

pub returns-clause-idle : goal.returns-clause-idle
returns-clause-idle g c = on_ok_weaker c.clone_as.result (λ cloned same. let next = cloned.next in absurd (omega (arith, next, same))) c.clone_as.ensures.cloned
