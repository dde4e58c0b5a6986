use Rattle.std.proofs.Common.{◌++◌, List, [], inl, inr, sym, ap, subst, ◌∙◌, ⊎_elim, arith}
use Rattle.block_pointer.specs.declared.block.Block.{Block}
use Rattle.block_store.proofs.Steps.{steps_on, steps_read}
use Rattle.block_store.proofs.Telling.{tell_after, tell_before}
use Rattle.block_store.specs.Spaces.{VdevSpace}
use Rattle.dnode_tree.proofs.Losses.{loss_in_plan}
use Rattle.dnode_tree.proofs.Refusing.{passed_on}
use Rattle.dnode.specs.declared.object_set.ObjectSet.{ObjectSet}
use Rattle.objset.specs.Objects.{AreObjects}
use Rattle.pool_maps.specs.Plans.{AreSparing, MapAnew}
use Rattle.pool_maps.proofs.Givable.{sized_given_back}
use Rattle.pool_maps.proofs.Underway.{spaces_stay}
use Rattle.dataset_groups.specs.Names.{reach_by}
use Rattle.dataset_groups.specs.Leaving.{IsReachExchanged}
use Rattle.dataset_snapshots.specs.Reach.{volume_blocks_of}
use Rattle.dataset_snapshots.proofs.MappedGroups.{others_are, spells_with_maps, unmade_from}
use Rattle.dataset_snapshots.proofs.MapsUnderway.{gone_in_use, gone_once, gone_stored, have_filled, maps_on}
use Rattle.dataset_snapshots.proofs.groups.mapped_changes.Goals as goal

pub returns-in_err-made-clause-known : goal.returns-in_err-made-clause-known
returns-in_err-made-clause-known g c =
    passed_on _ _ _ c.from_residual.ensures.1 (λ stored planned birth root pool writes plans is destroyed born le opens from maps stands tell good.
    c.in_err-made.ensures.known stored planned birth root pool writes plans is destroyed (omega (arith, born, le)) opens from tell good)

pub returns-in_err-made-clause-refused : goal.returns-in_err-made-clause-refused
returns-in_err-made-clause-refused g c = passed_on _ _ _ c.from_residual.ensures.1 (inl c.in_err-made.ensures.refused)

pub returns-in_err-changes-clause-steps : goal.returns-in_err-changes-clause-steps
returns-in_err-changes-clause-steps g c = steps_on _ _ _ _ c.changes_of.ensures.steps (steps_read _ _ _ c.plan_maps.ensures.reads)

pub returns-clause-steps : goal.returns-clause-steps
returns-clause-steps g c = steps_on _ _ _ _ c.changes_of.ensures.steps (steps_read _ _ _ c.plan_maps.ensures.reads)

pub returns-in_err-changes-clause-refused : goal.returns-in_err-changes-clause-refused
returns-in_err-changes-clause-refused g c =
    passed_on _ _ _ c.from_residual-in_err-changes.ensures.1 (⊎_elim
    (λ memory. inl (inl memory))
    (λ why. inr (record {
      mid = c.changes_of.new.store;
      before = c.changes_of.ensures.steps;
      changes = c.in_ok-made.made.changes.items;
      next = c.in_ok-made.made.next;
      volumes = c.in_ok-made.ensures.places;
      gone = c.deref.result.now;
      why = why;
    }))
    c.in_err-changes.ensures.refused)

pub returns-clause-places : goal.returns-clause-places
returns-clause-places g c =
    let others = c.in_ok-changes.ensures.others in record {
      mid = c.changes_of.new.store;
      steps = c.changes_of.ensures.steps;
      changes = c.in_ok-made.made.changes.items;
      next = c.in_ok-made.made.next;
      volumes = c.in_ok-made.ensures.places;
      reads = c.plan_maps.ensures.reads;
      with_maps = record {
        maps = others.0;
        found = others.1;
        others = others.2;
        sparing = subst (λ (them : List Block). AreSparing c.changes_of.new.store.spaces them others.0 c.in_ok-made.made.next c.in_ok-made.made.changes.items c.in_ok-changes.changes.items) c.deref.ensures.value others.3;
      };
    }

pub returns-in_err-changes-clause-known : goal.returns-in_err-changes-clause-known
returns-in_err-changes-clause-known g c =
    let old = c.args.store.now in
    let mid = c.changes_of.new.store in
    let new = c.plan_maps.new.store in
    let steps = c.changes_of.ensures.steps in
    let changes = c.in_ok-made.made.changes.items in
    let next = c.in_ok-made.made.next in
    let volumes = c.in_ok-made.ensures.places in
    let gone_is = c.deref.ensures.value in
    passed_on _ _ _ c.from_residual-in_err-changes.ensures.1 (λ stored planned birth root pool writes plans is destroyed born le opens from maps stands tell good.
    let before = tell_before old mid new [] steps (steps_read _ _ _ c.plan_maps.ensures.reads) tell in
    let made = c.in_ok-made.ensures.value stored planned birth root pool writes plans is destroyed (omega (arith, born, le)) opens from before in
    let Given : List Block → Type 0 =
    λ them. IsReachExchanged c.args.group.now.number planned made.0 (volume_blocks_of is) (reach_by made.3.datasets made.3.rows) them in
    let given : Given c.deref.result.now = subst Given (sym (gone_is ∙ (made.5 ∙ ap (λ (front : List Block). front ++ made.4) c.requires.none))) made.6 in
    let now = maps_on is.objects old.spaces mid.spaces steps.shapes (have_filled old.spaces mid.spaces steps.filled) maps in
    let unmade = unmade_from stored birth root pool is c.args.opened.set next _ from.set volumes.next_is in
    let others = others_are is.objects mid.spaces now changes next c.in_ok-made.ensures.next unmade made.9 made.3.may in
    let released = sized_given_back mid stored made.0 c.deref.result.now c.args.group.now.number made.1 (gone_stored stored birth root pool is c.args.group.now.number planned made.0 _ _ given)
    (gone_once stored birth root pool is c.args.group.now.number planned made.0 _ _ given old mid stands) (gone_in_use stored birth root pool is c.args.group.now.number planned made.0 _ _ given old mid stands steps) c.are_sized.ensures in
    let are = subst (λ n. AreObjects stored n c.args.opened.set is.objects is.own is.blocks) born (subst (λ (s : ObjectSet). AreObjects stored root.birth s is.objects is.own is.blocks) (sym from.set) is.are) in
    ⊎_elim (λ loss. loss_in_plan _ loss) (λ space. inl (inr space))
    (c.in_err-changes.ensures.known stored is.objects is.own is.blocks made.1.held are (tell_after old mid new [] steps (steps_read _ _ _ c.plan_maps.ensures.reads) tell) now others released.0 c.args.group.now.number released.1))

pub returns-clause-value : goal.returns-clause-value
returns-clause-value g c = λ stored planned birth root pool writes plans is destroyed born le opens from maps tell.
    let old = c.args.store.now in
    let mid = c.changes_of.new.store in
    let new = c.plan_maps.new.store in
    let steps = c.changes_of.ensures.steps in
    let changes = c.in_ok-made.made.changes.items in
    let next = c.in_ok-made.made.next in
    let all = c.in_ok-changes.changes.items in
    let volumes = c.in_ok-made.ensures.places in
    let before = tell_before old mid new [] steps (steps_read _ _ _ c.plan_maps.ensures.reads) tell in
    let made = c.in_ok-made.ensures.value stored planned birth root pool writes plans is destroyed (omega (arith, born, le)) opens from before in
    let Given : List Block → Type 0 =
    λ them. IsReachExchanged c.args.group.now.number planned made.0 (volume_blocks_of is) (reach_by made.3.datasets made.3.rows) them in
    let now = maps_on is.objects old.spaces mid.spaces steps.shapes (have_filled old.spaces mid.spaces steps.filled) maps in
    let unmade = unmade_from stored birth root pool is c.args.opened.set next _ from.set volumes.next_is in
    let others = others_are is.objects mid.spaces now changes next c.in_ok-made.ensures.next unmade made.9 made.3.may in
    let are = subst (λ n. AreObjects stored n c.args.opened.set is.objects is.own is.blocks) born (subst (λ (s : ObjectSet). AreObjects stored root.birth s is.objects is.own is.blocks) (sym from.set) is.are) in
    let planned_maps = c.in_ok-changes.ensures.value stored is.objects is.own is.blocks made.1.held are (tell_after old mid new [] steps (steps_read _ _ _ c.plan_maps.ensures.reads) tell) now others in
    let replaced = c.changes_of.new.replaced.items in
    let spells = spells_with_maps is.objects mid.spaces now changes next c.in_ok-made.ensures.next unmade made.9 all planned_maps.2 planned_maps.3 planned_maps.0 made.0 c.args.group.now.number c.args.group.now.spans _ made.3 in
    let given : Given replaced = subst Given (sym (made.5 ∙ ap (λ (front : List Block). front ++ made.4) c.requires.none)) made.6 in
    let same = spaces_stay mid new [] c.plan_maps.ensures.reads in (
      made.0,
      c.plan_maps.ensures.reads.plans stored made.0 made.1,
      made.2,
      spells,
      given,
      made.7,
      made.8,
      subst (λ (spaces : List VdevSpace). MapAnew is.objects spaces replaced all) (sym same)
          (subst (λ (them : List Block). MapAnew is.objects mid.spaces them all) c.deref.ensures.value planned_maps.1),
    )
