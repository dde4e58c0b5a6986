use Rattle.std.proofs.Common.{◌-◌, ◌≤◌, ◌++◌, [], List, ap, sym, subst, ◌∙◌, refl, arith, ◌≡◌, ◌∷◌, inl}
use Rattle.std.specs.Prelude.{All}
use Rattle.std.proofs.lemmas.Result.{IfErr-weaker}
use Rattle.block_store.proofs.Steps.{steps_on, steps_read}
use Rattle.block_store.proofs.Telling.{tell_after, tell_before}
use Rattle.dnode_tree.proofs.Losses.{loss_in_plan}
use Rattle.dnode_tree.proofs.Refusing.{passed_on}
use Rattle.objset.specs.declared.changes.ObjectChange.{ObjectChange}
use Rattle.objset.specs.Changes.{MayChange}
use Rattle.pool_model.specs.declared.item.Action.{Action}
use Rattle.pool_model.specs.Pools.{applied}
use Rattle.dnode.specs.declared.object_set.ObjectSet.{ObjectSet}
use Rattle.block_pointer.specs.declared.block.Block.{Block}
use Rattle.pool_model.specs.Pools.{PlainPool, all_destroyed}
use Rattle.dataset_snapshots.specs.Reach.{volume_blocks_of}
use Rattle.dataset_snapshots.proofs.GroupReach.{items_given, replaced_are, root_given}
use Rattle.dataset_groups.specs.NewVolumes.{AreGoodChanges}
use Rattle.volume_rules.specs.Parting.{with_made}
use Rattle.objset.specs.Objects.{AreObjects}
use Rattle.std.specs.Prelude.{AllPairs}
use Rattle.std.proofs.Common.{◌<◌}
use Rattle.block_store.specs.Places.{filled}
use Rattle.block_store.specs.Spaces.{VdevSpace}
use Rattle.block_store.specs.Store.{Store}
use Rattle.pool_maps.specs.Maps.{AreMapsOf}
use Rattle.dataset_snapshots.specs.Mapped.{StandsOnce}
use Rattle.dataset_snapshots.proofs.FewBlocks.{few_blocks}
use Rattle.dataset_snapshots.proofs.MetaPlaces.{root_places_same}
use Rattle.dataset_snapshots.proofs.NextMaps.{group_value}
use Rattle.dataset_snapshots.specs.Demands.{AreMappedRefused, HasMappedPlaces, HasRootPlaces, IsRootRefused}
use Rattle.dataset_snapshots.proofs.GroupDemands.{group_changes_refused, group_has, group_unread, group_volumes_refused}
use Rattle.dataset_snapshots.proofs.groups.after_group.Goals as goal
use Rattle.block_store.specs.declared.refusal.Refusal.TheVariants.{NoMemory}

pub returns-in_err-opened-clause-steps : goal.returns-in_err-opened-clause-steps
returns-in_err-opened-clause-steps g c = steps_read _ _ _ c.in_err-opened.ensures.reads

pub returns-in_err-opened-clause-known : goal.returns-in_err-opened-clause-known
returns-in_err-opened-clause-known g c =
    passed_on _ _ _ c.from_residual.ensures.1 (λ stored planned pool plans is same maps stands tell may good.
    loss_in_plan _ (c.in_err-opened.ensures.known stored pool plans.held is same may (few_blocks c.args.store.now stored planned plans (omega (arith, c.vdev_count-vdevs.ensures.count, c.vdev_count-vdevs.ensures.few)) _ c.args.root.now pool is) tell))

pub mapped_changes-requires-clause-opened : goal.mapped_changes-requires-clause-opened
mapped_changes-requires-clause-opened g c = (c.args.items.now.writes, c.in_ok-opened.ensures.opened)

pub returns-in_err-made-clause-steps : goal.returns-in_err-made-clause-steps
returns-in_err-made-clause-steps g c = steps_on _ _ _ _ (steps_read _ _ _ c.in_ok-opened.ensures.reads) c.mapped_changes.ensures.steps

pub returns-in_err-made-clause-known : goal.returns-in_err-made-clause-known
returns-in_err-made-clause-known g c =
    let old : Store = c.args.store.now in
    let read : Store = c.open_group.new.store in
    let mid : Store = c.mapped_changes.new.store in
    let first = c.in_ok-opened.ensures.reads in
    let unchanged : old.spaces ≡ read.spaces = sym (ap (λ (s : Store). s.spaces) first.rest) in
    passed_on _ _ _ c.from_residual-in_err-made.ensures.1 (λ stored planned pool plans is same maps stands tell may good.
    let before = tell_before old read mid [] (steps_read old read [] first) c.mapped_changes.ensures.steps tell in
    let after = tell_after old read mid [] (steps_read old read [] first) c.mapped_changes.ensures.steps tell in
    let early = c.in_ok-opened.ensures.early in
    c.in_err-made.ensures.known stored planned _ c.args.root.now pool _ (first.plans stored planned plans) is c.args.parted.now.destroyed refl (omega (arith, early)) c.in_ok-opened.ensures.opened
    (c.in_ok-opened.ensures.value stored pool plans.held is same may before) (subst (λ (spaces : List VdevSpace). AreMapsOf is.objects spaces filled) unchanged maps.maps)
    (subst (λ (spaces : List VdevSpace). StandsOnce spaces is) unchanged stands) after (subst AreGoodChanges (sym c.made.ensures) good))

pub returns-clause-steps : goal.returns-clause-steps
returns-clause-steps g c = steps_on _ _ _ _ (steps_on _ _ _ _ (steps_read _ _ _ c.in_ok-opened.ensures.reads) c.in_ok-made.ensures.steps) c.plan_root.ensures.steps

pub returns-clause-value : goal.returns-clause-value
returns-clause-value g c =
    let old : Store = c.args.store.now in
    let read : Store = c.open_group.new.store in
    let mid : Store = c.mapped_changes.new.store in
    let new : Store = c.plan_root.new.store in
    let first = c.in_ok-opened.ensures.reads in
    let second = c.in_ok-made.ensures.steps in
    let unchanged : old.spaces ≡ read.spaces = sym (ap (λ (s : Store). s.spaces) first.rest) in
    let both = steps_on old read mid [] (steps_read old read [] first) second in
    let root = c.in_ok-root.root in
    let gone : List Block = c.mapped_changes.new.gone.items in
    λ stored planned pool plans is same maps may tell.
    let so_far = tell_before old mid new [] both c.plan_root.ensures.steps tell in
    let early = c.in_ok-opened.ensures.early in
    let below : c.args.root.now.birth < c.args.next.now.number = omega (arith, early) in
    let le : c.args.root.now.birth ≤ c.args.next.now.number = omega (arith, below) in
    let from = c.in_ok-opened.ensures.value stored pool plans.held is same may (tell_before old read mid [] (steps_read old read [] first) second so_far) in
    let changes = c.in_ok-made.ensures.value stored planned _ c.args.root.now pool _ (first.plans stored planned plans) is c.args.parted.now.destroyed refl below c.in_ok-opened.ensures.opened from
    (subst (λ (spaces : List VdevSpace). AreMapsOf is.objects spaces filled) unchanged maps.maps) (tell_after old read mid [] (steps_read old read [] first) second so_far) in
    let are = subst (λ (s : ObjectSet). AreObjects stored c.args.root.now.birth s is.objects is.own is.blocks) (sym from.set) is.are in
    let made = c.in_ok-root.ensures.value stored changes.0 c.args.root.now.birth is.objects is.own is.blocks changes.1 are le
    (tell_after old mid new [] both c.plan_root.ensures.steps tell) in
    let list : List ObjectChange = c.in_ok-made.made.changes.items in
    let before : List Block = volume_blocks_of is in
    let after : PlainPool = all_destroyed c.args.parted.now.destroyed pool in
    let set = root_given changes.0 made.0 c.args.next.now.number root c.in_ok-opened.opened.set is.set c.deref-2.result.now list is.objects is.own is.blocks made.4 c.deref-2.ensures.value
    c.in_ok-opened.ensures.kind from.set (made.3, made.6) in
    let of_items = items_given planned changes.0 c.args.next.now.number is.objects list c.args.next.now.spans after (with_made c.args.items.now c.args.parted.now) c.made.result.now before gone c.in_ok-directory.directory c.made.ensures
    (changes.3, changes.4, changes.5 ∙ sym c.in_ok-directory.ensures) in
    let replaced_is = replaced_are c.args.root.now c.in_ok-replaced.replaced.items c.extend_from_slice.new.self.items gone c.deref.result.now made.4 c.plan_root.new.replaced.items
    c.in_ok-replaced.ensures c.in_ok-extend_from_slice.ensures.items c.deref.ensures.value made.5 in
    let places = subst (λ (cs : List ObjectChange). HasRootPlaces mid new c.in_ok-opened.opened.set c.args.next.now.number cs) c.deref-2.ensures.value c.in_ok-root.ensures.places in
    let same_before = root_places_same mid new c.in_ok-opened.opened.set c.args.next.now.number list places in
    group_value stored planned changes.0 made.0 (c.args.next.now.number - 1) c.args.next.now.number c.args.root.now root pool (applied c.args.next.now.number after (with_made c.args.items.now c.args.parted.now)) is maps.copied list c.args.next.now.spans
    gone made.4 c.plan_root.new.replaced.items c.in_ok-directory.directory mid new changes.1.held made.1 changes.2 made.2 of_items changes.6 set made.7 c.in_ok-root.ensures.born replaced_is changes.7 same_before

pub returns-in_err-root-clause-steps : goal.returns-in_err-root-clause-steps
returns-in_err-root-clause-steps g c = steps_on _ _ _ _ (steps_on _ _ _ _ (steps_read _ _ _ c.in_ok-opened.ensures.reads) c.in_ok-made.ensures.steps) c.plan_root.ensures.steps

pub returns-in_err-replaced-clause-steps : goal.returns-in_err-replaced-clause-steps
returns-in_err-replaced-clause-steps g c = steps_on _ _ _ _ (steps_read _ _ _ c.in_ok-opened.ensures.reads) c.in_ok-made.ensures.steps

pub returns-in_err-root-clause-known : goal.returns-in_err-root-clause-known
returns-in_err-root-clause-known g c =
    let old : Store = c.args.store.now in
    let read : Store = c.open_group.new.store in
    let mid : Store = c.mapped_changes.new.store in
    let new : Store = c.plan_root.new.store in
    let first = c.in_ok-opened.ensures.reads in
    let second = c.in_ok-made.ensures.steps in
    let unchanged : old.spaces ≡ read.spaces = sym (ap (λ (s : Store). s.spaces) first.rest) in
    let both = steps_on old read mid [] (steps_read old read [] first) second in
    passed_on _ _ _ c.from_residual-in_err-root.ensures.1 (λ stored planned pool plans is same maps stands tell may good.
    let so_far = tell_before old mid new [] both c.plan_root.ensures.steps tell in
    let early = c.in_ok-opened.ensures.early in
    let below : c.args.root.now.birth < c.args.next.now.number = omega (arith, early) in
    let le : c.args.root.now.birth ≤ c.args.next.now.number = omega (arith, below) in
    let from = c.in_ok-opened.ensures.value stored pool plans.held is same may (tell_before old read mid [] (steps_read old read [] first) second so_far) in
    let changes = c.in_ok-made.ensures.value stored planned _ c.args.root.now pool _ (first.plans stored planned plans) is c.args.parted.now.destroyed refl below c.in_ok-opened.ensures.opened from
    (subst (λ (spaces : List VdevSpace). AreMapsOf is.objects spaces filled) unchanged maps.maps) (tell_after old read mid [] (steps_read old read [] first) second so_far) in
    let are = subst (λ (s : ObjectSet). AreObjects stored c.args.root.now.birth s is.objects is.own is.blocks) (sym from.set) is.are in
    c.in_err-root.ensures.known stored changes.0 c.args.root.now.birth is.objects is.own is.blocks changes.1 are (omega arith) le
    (tell_after old mid new [] both c.plan_root.ensures.steps tell)
    (subst (All (λ (change : ObjectChange). MayChange change.change (is.objects change.number))) (sym c.deref-2.ensures.value) changes.3.may))

pub returns-in_err-opened-clause-refused : goal.returns-in_err-opened-clause-refused
returns-in_err-opened-clause-refused g c =
    passed_on _ _ _ c.from_residual.ensures.1
    (group_unread c.args.store.now c.open_group.new.store c.args.root.now c.args.directory.now c.args.next.now.number c.args.next.now.spans c.args.parted.now.destroyed (with_made c.args.items.now c.args.parted.now) c.args.parted.now.destroyed _ refl c.in_err-opened.ensures.refused)

pub returns-in_err-made-clause-refused : goal.returns-in_err-made-clause-refused
returns-in_err-made-clause-refused g c =
    let opened = c.in_ok-opened.opened in
    let found = c.in_ok-opened.ensures.found in
    let room = c.in_ok-opened.ensures.room in
    IfErr-weaker c.from_residual-in_err-made.result _ _
    (λ refusal why.
    group_volumes_refused c.args.store.now c.open_group.new.store c.open_group.new.store c.mapped_changes.new.store c.args.root.now c.args.directory.now c.args.next.now.number c.args.next.now.spans c.args.parted.now.destroyed (with_made c.args.items.now c.args.parted.now) opened c.in_ok-opened.ensures.reads found room refusal
    (subst (λ (actions : List Action). AreMappedRefused c.open_group.new.store c.mapped_changes.new.store c.args.root.now.birth c.args.next.now.number c.args.next.now.spans opened actions refusal) c.made.ensures why))
    (passed_on _ _ _ c.from_residual-in_err-made.ensures.1 c.in_err-made.ensures.refused)

pub plan_root-requires-clause-order : goal.plan_root-requires-clause-order
plan_root-requires-clause-order g c =
    subst (AllPairs (λ (change later : ObjectChange). change.number < later.number)) (sym c.deref-2.ensures.value) c.in_ok-made.ensures.ordered.order

pub returns-clause-places : goal.returns-clause-places
returns-clause-places g c =
    let opened = c.in_ok-opened.opened in
    let list : List ObjectChange = c.in_ok-made.made.changes.items in
    let found = c.in_ok-opened.ensures.found in
    let room = c.in_ok-opened.ensures.room in
    let gone : List Block = c.mapped_changes.new.gone.items in
    let behind = c.in_ok-root.ensures.behind in
    let volumes = subst (λ (actions : List Action). HasMappedPlaces c.open_group.new.store c.mapped_changes.new.store c.args.root.now.birth c.args.next.now.number c.args.next.now.spans opened actions gone list) c.made.ensures
    c.in_ok-made.ensures.places in
    group_has c.args.store.now c.open_group.new.store c.mapped_changes.new.store c.plan_root.new.store c.args.root.now c.args.directory.now c.args.next.now.number c.args.next.now.spans c.args.parted.now.destroyed (with_made c.args.items.now c.args.parted.now) opened c.in_ok-opened.ensures.reads found room gone behind.0 c.plan_root.new.replaced.items list
    c.in_ok-made.ensures.steps volumes
    (subst (λ (cs : List ObjectChange). HasRootPlaces c.mapped_changes.new.store c.plan_root.new.store opened.set c.args.next.now.number cs) c.deref-2.ensures.value c.in_ok-root.ensures.places)
    (behind.1 ∙ ap (λ (bs : List Block). bs ++ behind.0) (c.in_ok-extend_from_slice.ensures.items ∙ ap (λ (bs : List Block). bs ++ c.deref.result.now) c.in_ok-replaced.ensures
    ∙ ap (λ (bs : List Block). (c.args.root.now ∷ []) ++ bs) c.deref.ensures.value))

pub returns-in_err-root-clause-refused : goal.returns-in_err-root-clause-refused
returns-in_err-root-clause-refused g c =
    let opened = c.in_ok-opened.opened in
    let list : List ObjectChange = c.in_ok-made.made.changes.items in
    let found = c.in_ok-opened.ensures.found in
    let room = c.in_ok-opened.ensures.room in
    let gone : List Block = c.mapped_changes.new.gone.items in
    let volumes = subst (λ (actions : List Action). HasMappedPlaces c.open_group.new.store c.mapped_changes.new.store c.args.root.now.birth c.args.next.now.number c.args.next.now.spans opened actions gone list) c.made.ensures
    c.in_ok-made.ensures.places in
    IfErr-weaker c.from_residual-in_err-root.result _ _
    (λ refusal why.
    group_changes_refused c.args.store.now c.open_group.new.store c.mapped_changes.new.store c.plan_root.new.store c.args.root.now c.args.directory.now c.args.next.now.number c.args.next.now.spans c.args.parted.now.destroyed (with_made c.args.items.now c.args.parted.now) opened c.in_ok-opened.ensures.reads found room gone list refusal
    c.in_ok-made.ensures.steps volumes
    (subst (λ (cs : List ObjectChange). IsRootRefused c.mapped_changes.new.store c.plan_root.new.store opened.set c.args.root.now.birth c.args.next.now.number cs refusal) c.deref-2.ensures.value why))
    (passed_on _ _ _ c.from_residual-in_err-root.ensures.1 c.in_err-root.ensures.refused)

pub returns-in_err-extend_from_slice-clause-steps : goal.returns-in_err-extend_from_slice-clause-steps
returns-in_err-extend_from_slice-clause-steps g c = steps_on _ _ _ _ (steps_read _ _ _ c.in_ok-opened.ensures.reads) c.in_ok-made.ensures.steps

pub returns-in_err-replaced-clause-known : goal.returns-in_err-replaced-clause-known
returns-in_err-replaced-clause-known g c =
    passed_on _ NoMemory _ c.from_residual-in_err-replaced.ensures.1 (λ stored planned pool plans is same maps stands tell may good. inl (inl refl))

pub returns-in_err-extend_from_slice-clause-known : goal.returns-in_err-extend_from_slice-clause-known
returns-in_err-extend_from_slice-clause-known g c =
    passed_on _ NoMemory _ c.from_residual-in_err-extend_from_slice.ensures.1 (λ stored planned pool plans is same maps stands tell may good. inl (inl refl))

pub returns-in_err-directory-clause-steps : goal.returns-in_err-directory-clause-steps
returns-in_err-directory-clause-steps g c = steps_on _ _ _ _ (steps_on _ _ _ _ (steps_read _ _ _ c.in_ok-opened.ensures.reads) c.in_ok-made.ensures.steps) c.plan_root.ensures.steps

pub returns-in_err-directory-clause-known : goal.returns-in_err-directory-clause-known
returns-in_err-directory-clause-known g c =
    passed_on _ NoMemory _ c.from_residual-in_err-directory.ensures.1 (λ stored planned pool plans is same maps stands tell may good. inl (inl refl))
