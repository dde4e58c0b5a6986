use Rattle.std.proofs.Common.{[], List, ◌∙◌, refl, ap, subst, arith}
use Rattle.dataset_groups.specs.Leaving.{IsReachExchanged}
use Rattle.dataset_groups.specs.Names.{reach_by}
use Rattle.dnode_tree.proofs.Refusing.{passed_on}
use Rattle.meta_objset.specs.declared.directory.DirectoryRow.{DirectoryRow}
use Rattle.pool_model.specs.Pools.{no_volumes}
use Rattle.volume.proofs.Made.{no_objects}
use Rattle.dataset_snapshots.specs.FirstGroup.{empty_meta}
use Rattle.dataset_groups.specs.declared.datasets.NumberBounds.{NumberBounds}
use Rattle.dataset_snapshots.proofs.FirstRoots.{chains_none, first_actions_refused, first_are, first_objects, names_none, no_datasets, no_readings, nothing}
use Rattle.dataset_snapshots.proofs.first_root.first_volumes.Goals as goal

pub returns-in_err-act_all-clause-known : goal.returns-in_err-act_all-clause-known
returns-in_err-act_all-clause-known g c =
    passed_on _ _ _ c.from_residual.ensures.1 (λ stored planned plans tell good.
    let group = c.args.group in
    let before = c.new-datasets.ensures in
    let begins = before.value planned group group nothing [] (λ number. []) (no_datasets group) no_readings no_volumes (no_objects planned group empty_meta refl) (chains_none planned group)
    (omega arith) (names_none group c.new.result c.new.ensures) in
    c.in_err-act_all.ensures.known stored planned nothing [] (λ number. []) (no_datasets group) no_readings no_volumes good plans
    (first_objects stored c.new-datasets.result.changes before.of_set.0) tell begins)

pub returns-in_err-act_all-clause-refused : goal.returns-in_err-act_all-clause-refused
returns-in_err-act_all-clause-refused g c =
    let before = c.new-datasets.ensures in
    passed_on _ _ _ c.from_residual.ensures.1
    (first_actions_refused c.args.store.now c.act_all.new.store c.args.group c.args.actions.now c.new-datasets.result (before.directory ∙ c.new.ensures) before.next before.none _ before.bounds.0
    c.in_err-act_all.ensures.refused)

pub returns-clause-value : goal.returns-clause-value
returns-clause-value g c = λ stored planned plans tell.
    let group = c.args.group in
    let before = c.new-datasets.ensures in
    let no_rows = before.directory ∙ c.new.ensures in
    let begins = before.value planned group group nothing [] (λ number. []) (no_datasets group) no_readings no_volumes (no_objects planned group empty_meta refl) (chains_none planned group)
    (omega arith) (names_none group c.new.result c.new.ensures) in
    let made = c.in_ok-act_all.ensures.value stored planned nothing [] (λ number. []) (no_datasets group) no_readings no_volumes plans
    (first_objects stored c.new-datasets.result.changes before.of_set.0) tell begins in
    let acted = made.3 in (
      made.0,
      made.1,
      made.2,
      acted.after,
      acted.readings,
      acted.spells,
      subst (λ (rows : List DirectoryRow). IsReachExchanged group planned made.0 (reach_by (no_datasets group) rows) (reach_by acted.after c.act_all.new.self.directory) []) no_rows acted.exchanged,
      acted.adds,
    )

pub returns-clause-places : goal.returns-clause-places
returns-clause-places g c =
    let before = c.new-datasets.ensures in
    first_are c.args.store.now c.act_all.new.store c.args.group c.args.actions.now c.new-datasets.result (before.directory ∙ c.new.ensures) before.next before.none c.act_all.new.self before.of_set.0
    c.act_all.ensures.one_set c.in_ok-act_all.ensures.places

pub returns-clause-behind : goal.returns-clause-behind
returns-clause-behind g c =
    let before = c.new-datasets.ensures in
    let within = c.act_all.ensures.within (omega (arith, before.bounds.0)) in
    (c.act_all.ensures.behind, omega (arith, within, before.bounds.0))

pub returns-clause-bounds : goal.returns-clause-bounds
returns-clause-bounds g c =
    let before = c.new-datasets.ensures in
    let made = c.in_ok-act_all.ensures.places in
    let same = ap (λ (b : NumberBounds). b.behind) c.act_all.ensures.bounds in
    omega (arith, before.bounds.1, before.next, made.names.next, same)
