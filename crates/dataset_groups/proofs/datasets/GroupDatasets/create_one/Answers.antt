use Rattle.std.proofs.Common.{◌≡◌, ℕ, ◌+◌, ◌≤◌, true, [], List, inl, inr, refl, ap, subst, arith}
use Rattle.std.proofs.lemmas.Result.{IfErr-weaker, on_ok_weaker}
use Rattle.block_store.proofs.Steps.{steps_none}
use Rattle.block_store.specs.Store.{Store}
use Rattle.block_store.specs.declared.refusal.Refusal.{Refusal}
use Rattle.dnode_tree.proofs.Refusing.{passed_on, caused_by_memory}
use Rattle.meta_objset.specs.declared.directory.DirectoryRow.{DirectoryRow}
use Rattle.meta_objset.specs.declared.record.DatasetRecord.{DatasetRecord}
use Rattle.meta_objset.specs.Directory.{LacksName}
use Rattle.pool_model.specs.declared.item.Change.TheVariants.{Create}
use Rattle.pool_model.specs.Names.{is_name}
use Rattle.volume_rules.specs.GoodChanges.{is_good_making, is_good_size}
use Rattle.dataset_groups.specs.declared.new_volume.NewVolume.{NewVolume}
use Rattle.dataset_groups.specs.Demands.{HasNewPlaces, IsMaking, IsNewRefused}
use Rattle.dataset_groups.specs.NewVolumes.{IsNewVolume, numbers_end}
use Rattle.dataset_groups.proofs.AddedDatasets.{volume_made, volume_passed}
use Rattle.dataset_groups.proofs.GoodNames.{both}
use Rattle.dataset_groups.proofs.MakingDemands.{has_name}
use Rattle.dataset_groups.proofs.NewTouches.{touches_one}
use Rattle.dataset_groups.proofs.OneChange.{is_idle, is_making, makes_one}
use Rattle.dataset_groups.proofs.RowNames.{is_none, is_there}
use Rattle.dataset_groups.proofs.Causes.{caused_by_name}
use Rattle.dataset_groups.proofs.datasets.GroupDatasets.create_one.Goals as goal

pub returns-in_err-new-clause-steps : goal.returns-in_err-new-clause-steps
returns-in_err-new-clause-steps g c = steps_none c.args.store.now []

pub returns-then-is_some-clause-steps : goal.returns-then-is_some-clause-steps
returns-then-is_some-clause-steps g c = steps_none c.args.store.now []

pub returns-then-is_some-clause-value : goal.returns-then-is_some-clause-value
returns-then-is_some-clause-value g c = λ stored planned plans tell.
    let there = is_there c.get.result _ _ c.is_some.ensures c.if-is_some.true c.get.ensures.found in (
      planned,
      plans,
      λ block bytes known. known,
      λ objects pool readings plain spells.
          volume_passed c.args.self.now c.args.name.now c.args.size c.args.block_size c.in_ok-new.new c.args.group there.0 planned objects pool readings plain c.in_ok-new.ensures.is there.1 spells,
    )

pub returns-then-is_some-clause-places : goal.returns-then-is_some-clause-places
returns-then-is_some-clause-places g c =
    let there = is_there c.get.result _ _ c.is_some.ensures c.if-is_some.true c.get.ensures.found in
    inl (
      is_idle c.args.self.now.directory (Create c.args.name.now c.args.size c.args.block_size)
          (has_name c.args.self.now.directory c.in_ok-new.new.name c.args.name.now there.0 c.in_ok-new.ensures.is.0 there.1),
      refl,
      refl,
    )

pub returns-then-saturating_sub-lt2-clause-steps : goal.returns-then-saturating_sub-lt2-clause-steps
returns-then-saturating_sub-lt2-clause-steps g c = steps_none c.args.store.now []

-- the name is new
makes : (rows : List DirectoryRow) (name : List ℕ) (size block_size : ℕ) (v : NewVolume) → IsNewVolume name size block_size v → LacksName rows v.name
    → IsMaking rows [] (Create name size block_size)
makes rows name size block_size v is lacks = is_making rows (Create name size block_size) v.name is.0 lacks tt

pub returns-then-saturating_sub-lt2-clause-refused : goal.returns-then-saturating_sub-lt2-clause-refused
returns-then-saturating_sub-lt2-clause-refused g c =
    let lacks = c.get.ensures.none (is_none _ _ c.is_some.ensures c.if-is_some.false) in
    inr (inr (makes c.args.self.now.directory c.args.name.now c.args.size c.args.block_size c.in_ok-new.new c.in_ok-new.ensures.is lacks, inl (refl, omega arith)))

sized_refused : (old new : Store) (group size other : ℕ) (refusal : Refusal) → size ≡ other → IsNewRefused old new group size refusal → IsNewRefused old new group other refusal
sized_refused old new group size other refusal same why = subst (λ n. IsNewRefused old new group n refusal) same why

pub returns-in_err-object_set-clause-refused : goal.returns-in_err-object_set-clause-refused
returns-in_err-object_set-clause-refused g c =
    let lacks = c.get.ensures.none (is_none _ _ c.is_some.ensures c.if-is_some.false) in
    let is = c.in_ok-new.ensures.is in
    passed_on _ _ _ c.from_residual-in_err-object_set.ensures.1
    (inr (inr (
      makes c.args.self.now.directory c.args.name.now c.args.size c.args.block_size c.in_ok-new.new is lacks,
      inr (sized_refused c.args.store.now c.planned.new.store c.args.group _ _ _ is.2 c.in_err-object_set.ensures.refused),
    )))

pub add-requires-clause-lacks : goal.add-requires-clause-lacks
add-requires-clause-lacks g c = c.get.ensures.none (is_none _ _ c.is_some.ensures c.if-is_some.false)

good_name : (name : List ℕ) (size block_size : ℕ) → is_good_making (Create name size block_size) ≡ true → is_name name ≡ true
good_name name size block_size good = (both (is_name name) (is_good_size size block_size) good).0

pub returns-clause-value : goal.returns-clause-value
returns-clause-value g c =
    let lacks = c.get.ensures.none (is_none _ _ c.is_some.ensures c.if-is_some.false) in
    let within : c.args.self.now.next + 2 ≤ numbers_end = omega arith in
    let left : c.args.self.now.next + 2 ≤ c.args.self.now.bounds.end = omega arith in
    on_ok_weaker c.add.result
    (λ added stored planned plans tell.
    let is = c.in_ok-object_set.ensures.value stored planned plans tell in (
      is.0,
      is.1,
      is.2,
      λ objects pool readings plain spells.
          volume_made c.args.self.now c.add.new.self c.args.name.now c.args.size c.args.block_size c.in_ok-new.new c.args.group c.in_ok-object_set.object_set c.record-dataset.result planned is.0 objects
          pool readings plain c.in_ok-new.ensures.is (good_name c.args.name.now c.args.size c.args.block_size c.in_ok-new.ensures.good) c.requires.born c.requires.behind within left lacks added
          c.record-dataset.ensures.value is.2 is.3 is.4 is.5 spells,
    ))
    c.add.ensures.added

pub returns-clause-known : goal.returns-clause-known
returns-clause-known g c = IfErr-weaker c.add.result _ _ (λ refusal memory good stored planned plans tell. inl (inl memory.0)) c.add.ensures.refused

pub returns-clause-places : goal.returns-clause-places
returns-clause-places g c =
    let lacks = c.get.ensures.none (is_none _ _ c.is_some.ensures c.if-is_some.false) in
    let is = c.in_ok-new.ensures.is in
    on_ok_weaker c.add.result
    (λ added.
    makes_one c.args.store.now c.planned.new.store c.args.self.now c.add.new.self c.args.group (Create c.args.name.now c.args.size c.args.block_size) c.in_ok-new.new.name is.0
    (makes c.args.self.now.directory c.args.name.now c.args.size c.args.block_size c.in_ok-new.new is lacks) added.row added.next added.bounds
    (subst (λ n. HasNewPlaces c.args.store.now c.planned.new.store c.args.group n) is.2 c.in_ok-object_set.ensures.places))
    c.add.ensures.added

pub returns-clause-touched : goal.returns-clause-touched
returns-clause-touched g c =
    on_ok_weaker c.add.result
    (λ added.
    inr (touches_one c.args.self.now.changes c.add.new.self.changes c.args.self.now.next c.record-dataset.result.dead_list
    (ap (λ (r : DatasetRecord). r.dead_list) c.record-dataset.ensures.value) added.touched))
    c.add.ensures.added

pub returns-in_err-new-clause-caused : goal.returns-in_err-new-clause-caused
returns-in_err-new-clause-caused g c = passed_on _ _ _ c.from_residual.ensures.1 (inl (caused_by_name c.args.store.now _ _ (inr c.in_err-new.ensures.refused)))

pub returns-then-saturating_sub-lt2-clause-caused : goal.returns-then-saturating_sub-lt2-clause-caused
returns-then-saturating_sub-lt2-clause-caused g c = inr (refl, omega arith)

pub returns-in_err-object_set-clause-caused : goal.returns-in_err-object_set-clause-caused
returns-in_err-object_set-clause-caused g c = passed_on _ _ _ c.from_residual-in_err-object_set.ensures.1 (inl c.in_err-object_set.ensures.caused)

pub returns-clause-caused : goal.returns-clause-caused
returns-clause-caused g c =
    IfErr-weaker c.add.result _ _ (λ refusal memory. inl (caused_by_memory c.args.store.now c.planned.new.store [] refusal memory.0)) c.add.ensures.refused

pub returns-clause-idle : goal.returns-clause-idle
returns-clause-idle g c = on_ok_weaker c.add.result (λ added same. let next = added.next in absurd (omega (arith, next, same))) c.add.ensures.added
