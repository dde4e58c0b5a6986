use Rattle.std.proofs.Common.{[], List, All, AllPairs, inl, refl, sym, ap, subst, ◌∙◌, ◌<◌, arith}
use Rattle.std.specs.Prelude.{fold}
use Rattle.std.proofs.lemmas.Result.{IfErr-weaker}
use Rattle.block_store.proofs.Steps.{steps_on, steps_read}
use Rattle.block_store.proofs.Telling.{tell_before, tell_after}
use Rattle.block_store.specs.Store.{Store}
use Rattle.dataset_groups.specs.Groups.{SpellsGroup}
use Rattle.dataset_groups.specs.NewVolumes.{AreGoodChanges}
use Rattle.dnode.specs.declared.object_set.ObjectSetKind.TheVariants as sets
use Rattle.dnode_tree.proofs.Refusing.{passed_on}
use Rattle.objset.specs.declared.changes.ObjectChange.{ObjectChange}
use Rattle.objset.specs.Changes.{MayChange, changed}
use Rattle.objset.specs.Within.{blocks_of_set}
use Rattle.pool_maps.specs.Beside.{AreSameBefore}
use Rattle.pool_model.specs.declared.item.Action.{Action}
use Rattle.pool_model.specs.Pools.{PlainPool, applied, no_volumes}
use Rattle.pool_model.specs.Pools.{changed as pool_changed}
use Rattle.vdev_label.specs.Plain.{config_view}
use Rattle.volume.proofs.Made.{no_objects}
use Rattle.volume_rules.specs.Parting.{with_made}
use Rattle.dataset_snapshots.specs.Creating.{stale_after}
use Rattle.dataset_snapshots.specs.Demands.{HasRootPlaces, IsRootRefused}
use Rattle.dataset_snapshots.specs.FirstGroup.{AreFirstVolumes, empty_meta}
use Rattle.dataset_snapshots.proofs.FirstMaps.{first_of_others, first_value, unused_still}
use Rattle.dataset_snapshots.proofs.FirstRoots.{first_datasets_known, first_datasets_refused, first_has, first_maps_refused, first_set_refused, first_volumes_refused, nothing, pool_first}
use Rattle.dataset_snapshots.proofs.GroupReach.{IsRootGiven}
use Rattle.dataset_snapshots.proofs.MetaPlaces.{root_places_same}
use Rattle.dataset_snapshots.proofs.first_root.first_group.Goals as goal

pub returns-in_err-datasets-clause-known : goal.returns-in_err-datasets-clause-known
returns-in_err-datasets-clause-known g c =
    passed_on _ _ _ c.from_residual.ensures.1 (λ stored planned plans unused tell good.
    c.in_err-datasets.ensures.known stored planned plans tell (subst AreGoodChanges (sym c.made.ensures) good))

pub returns-in_err-datasets-clause-refused : goal.returns-in_err-datasets-clause-refused
returns-in_err-datasets-clause-refused g c =
    passed_on _ _ _ c.from_residual.ensures.1
    (first_volumes_refused c.args.store.now c.first_volumes.new.store c.args.next.now.number (config_view c.args.config.now) (stale_after c.args.next.now.spans []) (with_made c.args.items.now c.args.parted.now) c.made.result.now _ c.made.ensures
    c.in_err-datasets.ensures.refused)

pub returns-in_err-made-clause-known : goal.returns-in_err-made-clause-known
returns-in_err-made-clause-known g c =
    passed_on _ _ _ c.from_residual-in_err-made.ensures.1 (λ stored planned plans unused tell good.
    let volumes = c.in_ok-datasets.ensures.value stored planned plans tell in
    first_datasets_known volumes.0 c.args.next.now.number c.in_ok-datasets.datasets volumes.3 volumes.4 _ _ c.in_ok-datasets.ensures.bounds volumes.5 c.in_err-made.ensures.refused)

pub returns-in_err-made-clause-refused : goal.returns-in_err-made-clause-refused
returns-in_err-made-clause-refused g c =
    let volumes = subst (λ (actions : List Action). AreFirstVolumes c.args.store.now c.first_volumes.new.store c.args.next.now.number actions c.in_ok-datasets.datasets) c.made.ensures
    c.in_ok-datasets.ensures.places in
    passed_on _ _ _ c.from_residual-in_err-made.ensures.1
    (first_datasets_refused c.args.store.now c.first_volumes.new.store c.args.next.now.number (config_view c.args.config.now) (stale_after c.args.next.now.spans []) (with_made c.args.items.now c.args.parted.now) c.in_ok-datasets.datasets _ c.in_ok-datasets.ensures.steps volumes
    c.in_err-made.ensures.refused)

pub returns-in_err-changes-clause-steps : goal.returns-in_err-changes-clause-steps
returns-in_err-changes-clause-steps g c = steps_on _ _ _ _ c.in_ok-datasets.ensures.steps (steps_read _ _ _ c.in_err-changes.ensures.reads)

pub returns-in_err-changes-clause-known : goal.returns-in_err-changes-clause-known
returns-in_err-changes-clause-known g c =
    let made = c.in_ok-made.made in
    passed_on _ _ _ c.from_residual-in_err-changes.ensures.1 (λ stored planned plans unused tell good.
    let steps = c.in_ok-datasets.ensures.steps in
    let volumes = c.in_ok-datasets.ensures.value stored planned plans
    (tell_before c.args.store.now c.first_volumes.new.store c.first_maps.new.store [] steps (steps_read _ _ _ c.in_err-changes.ensures.reads) tell) in
    let pool = fold (λ p a. pool_changed c.args.next.now.number p a.change) no_volumes c.made.result.now in
    inl (c.in_err-changes.ensures.known
    (first_of_others (config_view c.args.config.now) (stale_after c.args.next.now.spans []) c.in_ok-datasets.datasets made.changes.items c.in_ok-made.ensures.tables made.next
    c.in_ok-made.ensures.next volumes.0 c.args.next.now.number volumes.3 volumes.4 pool volumes.5)
    (unused_still c.args.store.now c.first_volumes.new.store steps unused)
    (tell_after c.args.store.now c.first_volumes.new.store c.first_maps.new.store [] steps (steps_read _ _ _ c.in_err-changes.ensures.reads) tell)))

pub returns-in_err-changes-clause-refused : goal.returns-in_err-changes-clause-refused
returns-in_err-changes-clause-refused g c =
    let made = c.in_ok-made.made in
    let volumes = subst (λ (actions : List Action). AreFirstVolumes c.args.store.now c.first_volumes.new.store c.args.next.now.number actions c.in_ok-datasets.datasets) c.made.ensures
    c.in_ok-datasets.ensures.places in
    IfErr-weaker c.from_residual-in_err-changes.result _ _
    (λ refusal why.
    first_maps_refused c.args.store.now c.first_volumes.new.store c.args.next.now.number (config_view c.args.config.now) (stale_after c.args.next.now.spans []) (with_made c.args.items.now c.args.parted.now) c.in_ok-datasets.datasets made.changes.items made.next
    c.in_ok-datasets.ensures.steps volumes c.in_ok-made.ensures.tables c.in_ok-made.ensures.next_is c.first_maps.new.store refusal why)
    (passed_on _ _ _ c.from_residual-in_err-changes.ensures.1 c.in_err-changes.ensures.refused)

pub plan_root-requires-clause-order : goal.plan_root-requires-clause-order
plan_root-requires-clause-order g c =
    subst (AllPairs (λ (change later : ObjectChange). change.number < later.number)) (sym c.deref.ensures.value) c.in_ok-changes.ensures.ordered.order

pub returns-in_err-root-clause-steps : goal.returns-in_err-root-clause-steps
returns-in_err-root-clause-steps g c =
    steps_on _ _ _ _ c.in_ok-datasets.ensures.steps (steps_on _ _ _ _ (steps_read _ _ _ c.in_ok-changes.ensures.reads) c.in_err-root.ensures.steps)

pub returns-clause-steps : goal.returns-clause-steps
returns-clause-steps g c = steps_on _ _ _ _ c.in_ok-datasets.ensures.steps (steps_on _ _ _ _ (steps_read _ _ _ c.in_ok-changes.ensures.reads) c.in_ok-root.ensures.steps)

pub returns-clause-value : goal.returns-clause-value
returns-clause-value g c = λ stored planned plans unused tell.
    let first : Store = c.args.store.now in
    let second : Store = c.first_volumes.new.store in
    let third : Store = c.first_maps.new.store in
    let last : Store = c.plan_root.new.store in
    let datasets = c.in_ok-datasets.datasets in
    let made = c.in_ok-made.made in
    let whole : List ObjectChange = c.in_ok-changes.changes.items in
    let root = c.in_ok-root.root in
    let steps = c.in_ok-datasets.ensures.steps in
    let reads = c.in_ok-changes.ensures.reads in
    let behind = steps_on second third last [] (steps_read second third [] reads) c.in_ok-root.ensures.steps in
    let later = tell_after first second last [] steps behind tell in
    let volumes = c.in_ok-datasets.ensures.value stored planned plans (tell_before first second last [] steps behind tell) in
    let spells = subst (λ (pool : PlainPool). SpellsGroup volumes.0 c.args.next.now.number nothing datasets volumes.3 volumes.4 pool)
    (pool_first c.args.next.now.number (with_made c.args.items.now c.args.parted.now) c.made.result.now c.made.ensures) volumes.5 in
    let maps = c.in_ok-changes.ensures.value
    (first_of_others (config_view c.args.config.now) (stale_after c.args.next.now.spans []) datasets made.changes.items c.in_ok-made.ensures.tables made.next
    c.in_ok-made.ensures.next volumes.0 c.args.next.now.number volumes.3 volumes.4 (applied c.args.next.now.number no_volumes (with_made c.args.items.now c.args.parted.now)) spells)
    (unused_still first second steps unused) (tell_before second third last [] (steps_read second third [] reads) c.in_ok-root.ensures.steps later) in
    let planned_root = c.in_ok-root.ensures.value stored volumes.0 0 nothing [] (λ number. []) (reads.plans stored volumes.0 volumes.1) (no_objects stored 0 empty_meta refl) (omega arith)
    (tell_after second third last [] (steps_read second third [] reads) c.in_ok-root.ensures.steps later) in
    let given : IsRootGiven volumes.0 planned_root.0 c.args.next.now.number root sets.Meta (changed whole nothing) (blocks_of_set empty_meta [] (λ number. [])) planned_root.4 =
    subst (λ (cs : List ObjectChange). IsRootGiven volumes.0 planned_root.0 c.args.next.now.number root sets.Meta (changed cs nothing) (blocks_of_set empty_meta [] (λ number. [])) planned_root.4)
    c.deref.ensures.value (planned_root.3, planned_root.6) in
    let places = subst (λ (cs : List ObjectChange). HasRootPlaces third last empty_meta c.args.next.now.number cs) c.deref.ensures.value c.in_ok-root.ensures.places in
    let same = subst (λ spaces. AreSameBefore spaces last.spaces) (ap (λ (s : Store). s.spaces) reads.rest) (root_places_same third last empty_meta c.args.next.now.number whole places) in
    let is = first_value planned volumes.0 planned_root.0 c.args.next.now.number (config_view c.args.config.now) (stale_after c.args.next.now.spans []) datasets made.changes.items c.in_ok-made.ensures.tables made.next
    c.in_ok-made.ensures.next whole c.in_ok-changes.ensures.others.0 maps.3 root volumes.3 volumes.4 (applied c.args.next.now.number no_volumes (with_made c.args.items.now c.args.parted.now)) second.spaces last.spaces planned_root.4 spells
    volumes.2 planned_root.2 volumes.6 volumes.7 given planned_root.7 c.in_ok-root.ensures.born (maps.1, maps.2) same in (
      planned_root.0,
      planned_root.1,
      λ block bytes known. planned_root.2 block bytes (volumes.2 block bytes known),
      is.0,
      is.1,
      is.2,
      is.3,
      c.new-directory.ensures ∙ c.in_ok-made.ensures.directory ∙ is.4,
      is.5,
    )

pub returns-in_err-root-clause-known : goal.returns-in_err-root-clause-known
returns-in_err-root-clause-known g c =
    let first : Store = c.args.store.now in
    let second : Store = c.first_volumes.new.store in
    let third : Store = c.first_maps.new.store in
    let last : Store = c.plan_root.new.store in
    let made = c.in_ok-made.made in
    let steps = c.in_ok-datasets.ensures.steps in
    let reads = c.in_ok-changes.ensures.reads in
    passed_on _ _ _ c.from_residual-in_err-root.ensures.1 (λ stored planned plans unused tell good.
    let behind = steps_on second third last [] (steps_read second third [] reads) c.in_err-root.ensures.steps in
    let later = tell_after first second last [] steps behind tell in
    let volumes = c.in_ok-datasets.ensures.value stored planned plans (tell_before first second last [] steps behind tell) in
    let pool = fold (λ p a. pool_changed c.args.next.now.number p a.change) no_volumes c.made.result.now in
    let maps = c.in_ok-changes.ensures.value
    (first_of_others (config_view c.args.config.now) (stale_after c.args.next.now.spans []) c.in_ok-datasets.datasets made.changes.items c.in_ok-made.ensures.tables made.next
    c.in_ok-made.ensures.next volumes.0 c.args.next.now.number volumes.3 volumes.4 pool volumes.5)
    (unused_still first second steps unused) (tell_before second third last [] (steps_read second third [] reads) c.in_err-root.ensures.steps later) in
    c.in_err-root.ensures.known stored volumes.0 0 nothing [] (λ number. []) (reads.plans stored volumes.0 volumes.1) (no_objects stored 0 empty_meta refl) (omega arith) (omega arith)
    (tell_after second third last [] (steps_read second third [] reads) c.in_err-root.ensures.steps later)
    (subst (All (λ (change : ObjectChange). MayChange change.change (nothing change.number))) (sym c.deref.ensures.value) maps.0))

pub returns-clause-places : goal.returns-clause-places
returns-clause-places g c =
    let made = c.in_ok-made.made in
    let volumes = subst (λ (actions : List Action). AreFirstVolumes c.args.store.now c.first_volumes.new.store c.args.next.now.number actions c.in_ok-datasets.datasets) c.made.ensures
    c.in_ok-datasets.ensures.places in
    first_has c.args.store.now c.first_volumes.new.store c.args.next.now.number (config_view c.args.config.now) (stale_after c.args.next.now.spans []) (with_made c.args.items.now c.args.parted.now) c.in_ok-datasets.datasets made.changes.items made.next
    c.in_ok-datasets.ensures.steps volumes c.in_ok-made.ensures.tables c.in_ok-made.ensures.next_is c.first_maps.new.store c.plan_root.new.store c.in_ok-changes.changes.items
    c.in_ok-changes.ensures.reads c.in_ok-changes.ensures.others
    (subst (λ (cs : List ObjectChange). HasRootPlaces c.first_maps.new.store c.plan_root.new.store empty_meta c.args.next.now.number cs) c.deref.ensures.value c.in_ok-root.ensures.places)

pub returns-in_err-root-clause-refused : goal.returns-in_err-root-clause-refused
returns-in_err-root-clause-refused g c =
    let made = c.in_ok-made.made in
    let volumes = subst (λ (actions : List Action). AreFirstVolumes c.args.store.now c.first_volumes.new.store c.args.next.now.number actions c.in_ok-datasets.datasets) c.made.ensures
    c.in_ok-datasets.ensures.places in
    IfErr-weaker c.from_residual-in_err-root.result _ _
    (λ refusal why.
    first_set_refused c.args.store.now c.first_volumes.new.store c.args.next.now.number (config_view c.args.config.now) (stale_after c.args.next.now.spans []) (with_made c.args.items.now c.args.parted.now) c.in_ok-datasets.datasets made.changes.items made.next
    c.in_ok-datasets.ensures.steps volumes c.in_ok-made.ensures.tables c.in_ok-made.ensures.next_is c.first_maps.new.store c.plan_root.new.store c.in_ok-changes.changes.items refusal
    c.in_ok-changes.ensures.reads c.in_ok-changes.ensures.others
    (subst (λ (cs : List ObjectChange). IsRootRefused c.first_maps.new.store c.plan_root.new.store empty_meta c.args.next.now.number c.args.next.now.number cs refusal) c.deref.ensures.value why))
    (passed_on _ _ _ c.from_residual-in_err-root.ensures.1 c.in_err-root.ensures.refused)
