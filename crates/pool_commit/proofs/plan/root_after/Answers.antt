use Rattle.std.proofs.Common.{ℕ, ◌≡◌, ◌-◌, ◌∙◌, List, [], Option, Some, None, ap, arith, refl, sym, subst}
use Rattle.block_pointer.specs.declared.block.Block.{Block}
use Rattle.block_store.proofs.Steps.{steps_none}
use Rattle.dataset_snapshots.proofs.GoodNames.{good_changes_may_be_made}
use Rattle.dnode_tree.proofs.Refusing.{passed_on}
use Rattle.pool_model.specs.Pools.{Entry, MayBeDestroyed, PlainPool, all_destroyed, applied, no_volumes}
use Rattle.block_store.specs.Blocks.{Contents}
use Rattle.block_store.specs.Spaces.{VdevSpace}
use Rattle.dataset_snapshots.specs.Creating.{LeavesSpans, stale_after}
use Rattle.dataset_snapshots.specs.Laws.{AreGoodChanges}
use Rattle.dataset_snapshots.proofs.Readings.{roots_spell_one_pool}
use Rattle.dataset_snapshots.specs.Groups.{IsReachExchanged}
use Rattle.dataset_snapshots.specs.Reach.{reach_of}
use Rattle.meta_objset.specs.Reading.{HasStaleSpans}
use Rattle.meta_objset.specs.declared.directory.DirectoryRow.{DirectoryRow}
use Rattle.meta_objset.specs.declared.stale_spans.StaleSpan.{StaleSpan}
use Rattle.pool_commit.specs.Configs.{HasConfigAs}
use Rattle.objset.specs.Objects.{Object}
use Rattle.vdev_label.specs.Plain.{PlainVdev, config_view}
use Rattle.vdev_label.specs.declared.label.Config.{Config}
use Rattle.volume_rules.proofs.PartActions.{parted_good}
use Rattle.volume_rules.specs.GoodChanges.{MakesGoodVolumes}
use Rattle.volume_rules.specs.Parting.{Parted, made_by, parted_of, with_made}
use Rattle.pool_commit.specs.Backs.{BeginsWithMaps, LeadsTo, LeavesMaps, SpellsRoot}
use Rattle.pool_commit.specs.Directories.{SpellsBy}
use Rattle.pool_commit.proofs.Directories.{config_led, first_refused, later_refused, rows_led, spans_led}
use Rattle.pool_commit.proofs.Parted.{first_parted, may_parted, same_parted}
use Rattle.pool_commit.proofs.plan.root_after.Given as given
use Rattle.pool_commit.proofs.plan.root_after.Goals as goal

-- a root was planned that spells this pool
abbrev IsNext : List VdevSpace → Contents → Contents → ℕ → Block → List DirectoryRow → List PlainVdev → List StaleSpan → List Block → List Block → PlainPool → Type 0
IsNext spaces planned later group root rows vdevs table before gone pool =
    SpellsRoot later group (Some root) pool
    × (reach : List Block) × LeadsTo later group (Some root) pool reach × IsReachExchanged group planned later before reach gone
    × SpellsBy later group (Some root) pool rows vdevs table × LeavesMaps spaces gone later group root pool

-- the object's table has the spans behind the group
spans_left : (spans : Option (List StaleSpan)) (kept : List StaleSpan) (old new : Option Object) → LeavesSpans spans old new → HasStaleSpans old kept
    → HasStaleSpans new (stale_after spans kept)
spans_left None kept old new same has = subst (λ (o : Option Object). HasStaleSpans o kept) (sym same) has
spans_left (Some spans) kept old new has was = has

good_parted : (items : Entry) (parted : Parted) → parted ≡ parted_of items.actions → MakesGoodVolumes items → AreGoodChanges parted.made
good_parted items parted is good = subst (λ (p : Parted). AreGoodChanges p.made) (sym is) (good_changes_may_be_made (made_by items) (parted_good items good))

pub returns-in_err-parted-clause-steps : goal.returns-in_err-parted-clause-steps
returns-in_err-parted-clause-steps g c = steps_none c.args.store.now []

pub returns-in-Some-clause-value : goal.returns-in-Some-clause-value
returns-in-Some-clause-value g c = λ stored planned pool before plans spells leads begins tell effects.
    let led = subst (λ (o : Option Block). LeadsTo stored (c.args.next.now.number - 1) o pool before) c.in-Some.is leads in
    let (is, maps, stands) = subst (λ (o : Option Block). BeginsWithMaps c.args.store.now.spaces stored (c.args.next.now.number - 1) o pool) c.in-Some.is begins in
    let one = roots_spell_one_pool stored (c.args.next.now.number - 1) (c.args.next.now.number - 1) c.in-Some.root pool pool led.0 is in
    let by = rows_led stored (c.args.next.now.number - 1) c.args.last.now pool _ _ is spells c.in-Some.is c.kept_directory.ensures in
    let items : Entry = c.args.items.now in
    let parted : c.in_ok-parted.parted ≡ parted_of items.actions = c.in_ok-parted.ensures ∙ ap parted_of c.actions.ensures in
    let may : MayBeDestroyed (c.in_ok-parted.parted).destroyed pool =
    subst (λ (p : Parted). MayBeDestroyed p.destroyed pool) (sym parted) (may_parted stored (c.args.next.now.number - 1) c.args.next.now.number c.args.last.now pool items spells effects) in
    let same : applied c.args.next.now.number (all_destroyed (c.in_ok-parted.parted).destroyed pool) (with_made items c.in_ok-parted.parted) ≡ applied c.args.next.now.number pool items =
    ap (λ (p : Parted). applied c.args.next.now.number (all_destroyed p.destroyed pool) (with_made items p)) parted ∙ same_parted stored (c.args.next.now.number - 1) c.args.next.now.number c.args.last.now pool items spells effects in
    let there = c.in_ok-next-in-Some.ensures.value stored planned pool plans is by maps may tell in
    let vdevs : List PlainVdev = config_view c.args.last.now.config.value in
    let config : HasConfigAs (there.3.objects 2) vdevs =
    subst (λ (o : Option Object). HasConfigAs o vdevs) (sym there.4.objects.config)
    (config_led stored (c.args.next.now.number - 1) c.args.last.now pool c.in-Some.root is spells c.in-Some.is) in
    let kept : List StaleSpan = c.args.last.now.spans_under.value in
    let table : List StaleSpan = stale_after c.args.next.now.spans kept in
    let spans : HasStaleSpans (there.3.objects 3) table =
    spans_left c.args.next.now.spans kept (is.objects 3) (there.3.objects 3) there.4.objects.stale
    (spans_led stored (c.args.next.now.number - 1) c.args.last.now pool c.in-Some.root is spells c.in-Some.is) in
    let next : IsNext c.after_group.new.store.spaces planned there.0 c.args.next.now.number c.in_ok-next-in-Some.next.root c.in_ok-next-in-Some.next.directory vdevs table before c.in_ok-next-in-Some.next.replaced.items (applied c.args.next.now.number pool items) =
    subst (IsNext c.after_group.new.store.spaces planned there.0 c.args.next.now.number c.in_ok-next-in-Some.next.root c.in_ok-next-in-Some.next.directory vdevs table before c.in_ok-next-in-Some.next.replaced.items) same (
      there.3,
      reach_of there.3,
      (there.3, refl),
      subst (λ (blocks : List Block). IsReachExchanged c.args.next.now.number planned there.0 blocks (reach_of there.3) c.in_ok-next-in-Some.next.replaced.items)
          (sym one.1 ∙ led.1) there.5,
      (there.3, there.6, config, spans),
      (there.3, there.7),
    ) in (there.0, there.1, there.2, next.0, next.1, next.2, next.3, next.4, next.5)

pub returns-in_err-next-in-Some-clause-known : goal.returns-in_err-next-in-Some-clause-known
returns-in_err-next-in-Some-clause-known g c =
    passed_on _ _ _ c.from_residual-in_err-next-in-Some.ensures.1
    (λ stored planned pool plans spells begins tell good effects.
    let (is, maps, stands) = subst (λ (o : Option Block). BeginsWithMaps c.args.store.now.spaces stored (c.args.next.now.number - 1) o pool) c.in-Some.is begins in
    let by = rows_led stored (c.args.next.now.number - 1) c.args.last.now pool _ _ is spells c.in-Some.is c.kept_directory.ensures in
    let items : Entry = c.args.items.now in
    let parted : c.in_ok-parted.parted ≡ parted_of items.actions = c.in_ok-parted.ensures ∙ ap parted_of c.actions.ensures in
    let may : MayBeDestroyed (c.in_ok-parted.parted).destroyed pool =
    subst (λ (p : Parted). MayBeDestroyed p.destroyed pool) (sym parted) (may_parted stored (c.args.next.now.number - 1) c.args.next.now.number c.args.last.now pool items spells effects) in
    c.in_err-next-in-Some.ensures.known stored planned pool plans is by maps stands tell may (good_parted items c.in_ok-parted.parted parted good))

pub returns-clause-value : goal.returns-clause-value
returns-clause-value g c = λ stored planned pool before plans spells leads begins tell effects.
    let root : Block = c.in_ok-first-in-None.first.root in
    let rows : List DirectoryRow = c.in_ok-first-in-None.first.directory in
    let empty : pool ≡ no_volumes = subst (λ (o : Option Block). SpellsRoot stored (c.args.next.now.number - 1) o pool) c.in-None.is spells.root in
    let nothing : before ≡ [] = subst (λ (o : Option Block). LeadsTo stored (c.args.next.now.number - 1) o pool before) c.in-None.is leads in
    let unused = subst (λ (o : Option Block). BeginsWithMaps c.args.store.now.spaces stored (c.args.next.now.number - 1) o pool) c.in-None.is begins in
    let items : Entry = c.args.items.now in
    let parted : c.in_ok-parted.parted ≡ parted_of items.actions = c.in_ok-parted.ensures ∙ ap parted_of c.actions.ensures in
    let same : applied c.args.next.now.number no_volumes (with_made items c.in_ok-parted.parted) ≡ applied c.args.next.now.number pool items =
    ap (λ (p : Parted). applied c.args.next.now.number no_volumes (with_made items p)) parted
    ∙ first_parted c.args.next.now.number pool items (same_parted stored (c.args.next.now.number - 1) c.args.next.now.number c.args.last.now pool items spells effects) empty in
    let there = c.in_ok-first-in-None.ensures.value stored planned plans unused tell in
    let vdevs : List PlainVdev = config_view c.args.last.now.config.value in
    let none : c.args.last.now.spans_under.value ≡ [] =
    (subst (λ (o : Option Block). SpellsBy stored (c.args.next.now.number - 1) o pool c.args.last.now.directory.value (config_view c.args.last.now.config.value) c.args.last.now.spans_under.value) c.in-None.is spells.directory).1 in
    let table : List StaleSpan = stale_after c.args.next.now.spans c.args.last.now.spans_under.value in
    let by = subst (λ (config : Config). SpellsBy there.0 c.args.next.now.number (Some root) (applied c.args.next.now.number no_volumes (with_made items c.in_ok-parted.parted)) rows (config_view config) table)
    c.config.ensures
    (subst (λ (kept : List StaleSpan). SpellsBy there.0 c.args.next.now.number (Some root) (applied c.args.next.now.number no_volumes (with_made items c.in_ok-parted.parted)) rows (config_view c.config.result.now) (stale_after c.args.next.now.spans kept))
    (sym none) there.7) in
    let first : IsNext c.first_root.new.store.spaces planned there.0 c.args.next.now.number root rows vdevs table [] [] (applied c.args.next.now.number pool items) =
    subst (IsNext c.first_root.new.store.spaces planned there.0 c.args.next.now.number root rows vdevs table [] []) same (there.3, there.4, there.5, there.6, by, there.8) in (
      there.0,
      there.1,
      there.2,
      first.0,
      first.1,
      first.2,
      subst (λ (gone : List Block). IsReachExchanged c.args.next.now.number planned there.0 before first.1 gone) (sym c.new.ensures.items)
          (subst (λ (blocks : List Block). IsReachExchanged c.args.next.now.number planned there.0 blocks first.1 []) (sym nothing) first.3),
      first.4,
      subst (λ (gone : List Block). LeavesMaps c.first_root.new.store.spaces gone there.0 c.args.next.now.number root (applied c.args.next.now.number pool items)) (sym c.new.ensures.items) first.5,
    )

pub returns-in_err-first-in-None-clause-known : goal.returns-in_err-first-in-None-clause-known
returns-in_err-first-in-None-clause-known g c =
    passed_on _ _ _ c.from_residual-in_err-first-in-None.ensures.1 (λ stored planned pool plans spells begins tell good effects.
    c.in_err-first-in-None.ensures.known stored planned plans
    (subst (λ (o : Option Block). BeginsWithMaps c.args.store.now.spaces stored (c.args.next.now.number - 1) o pool) c.in-None.is begins) tell
    (good_parted c.args.items.now c.in_ok-parted.parted (c.in_ok-parted.ensures ∙ ap parted_of c.actions.ensures) good))

pub returns-in_err-first-in-None-clause-refused : goal.returns-in_err-first-in-None-clause-refused
returns-in_err-first-in-None-clause-refused g c =
    passed_on _ _ _ c.from_residual-in_err-first-in-None.ensures.1
    (first_refused c.args.store.now c.first_root.new.store c.args.last.now c.args.next.now.number c.args.next.now.spans c.args.items.now c.in_ok-parted.parted _ _
    (c.in_ok-parted.ensures ∙ ap parted_of c.actions.ensures) c.in-None.is c.config.ensures c.in_err-first-in-None.ensures.refused)

pub returns-in_err-next-in-Some-clause-refused : goal.returns-in_err-next-in-Some-clause-refused
returns-in_err-next-in-Some-clause-refused g c =
    passed_on _ _ _ c.from_residual-in_err-next-in-Some.ensures.1
    (later_refused c.args.store.now c.after_group.new.store c.args.last.now _ c.args.next.now.number c.args.next.now.spans c.args.items.now c.in_ok-parted.parted _ _
    (c.in_ok-parted.ensures ∙ ap parted_of c.actions.ensures) c.in-Some.is c.kept_directory.ensures c.in_err-next-in-Some.ensures.refused)
