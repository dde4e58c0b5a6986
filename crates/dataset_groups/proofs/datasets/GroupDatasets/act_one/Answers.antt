use Rattle.std.proofs.Common.{◌≡◌, true, [], inl, inr, refl, sym, ap, subst, ⊎_elim}
use Rattle.std.proofs.lemmas.Result.{IfErr-weaker, on_ok_weaker}
use Rattle.block_store.proofs.Steps.{steps_none, steps_read}
use Rattle.pool_model.specs.declared.item.Change.{Change}
use Rattle.pool_model.specs.Pools.{changed}
use Rattle.volume_rules.specs.GoodChanges.{is_good_making}
use Rattle.dataset_groups.specs.Actions.{AreActed}
use Rattle.dataset_groups.specs.Demands.{MakesOne, IsMakingRefused}
use Rattle.dataset_groups.specs.Causes.{IsCloning}
use Rattle.dataset_groups.proofs.datasets.GroupDatasets.act_one.Goals as goal

-- ---- a volume

pub returns-in-Create-clause-value : goal.returns-in-Create-clause-value
returns-in-Create-clause-value g c = on_ok_weaker c.create_one.result (λ value stored planned plans tell.
    let done = value stored planned plans tell in (
      done.0,
      done.1,
      done.2,
      λ objects own blocks pool readings plain are spells.
          subst (λ (change : Change). AreActed c.args.group objects planned done.0 c.args.self.now c.create_one.new.self pool (changed c.args.group plain change)) (sym c.in-Create.is)
          (done.3 objects pool readings plain spells),
    )) c.create_one.ensures.value

pub returns-in-Create-clause-known : goal.returns-in-Create-clause-known
returns-in-Create-clause-known g c = IfErr-weaker c.create_one.result _ _ (λ refusal known stored planned objects own blocks pool readings plain good plans are tell spells.
    known (subst (λ (change : Change). is_good_making change ≡ true) c.in-Create.is good) stored planned plans tell) c.create_one.ensures.known

pub returns-in-Create-clause-places : goal.returns-in-Create-clause-places
returns-in-Create-clause-places g c = on_ok_weaker c.create_one.result (λ places.
    subst (λ (change : Change). MakesOne c.args.store.now c.create_one.new.store c.args.group c.args.self.now c.create_one.new.self change) (sym c.in-Create.is) places) c.create_one.ensures.places

-- ---- a snapshot

pub returns-in-Snapshot-clause-steps : goal.returns-in-Snapshot-clause-steps
returns-in-Snapshot-clause-steps g c = steps_read c.args.store.now c.take_one.new.store [] c.take_one.ensures.reads

pub returns-in-Snapshot-clause-value : goal.returns-in-Snapshot-clause-value
returns-in-Snapshot-clause-value g c = on_ok_weaker c.take_one.result (λ value stored planned plans tell. (
  planned,
  c.take_one.ensures.reads.plans stored planned plans,
  λ block bytes known. known,
  λ objects own blocks pool readings plain are spells.
      subst (λ (change : Change). AreActed c.args.group objects planned planned c.args.self.now c.take_one.new.self pool (changed c.args.group plain change)) (sym c.in-Snapshot.is)
      (value stored planned objects own blocks pool readings plain plans.held are tell spells),
)) c.take_one.ensures.value

pub returns-in-Snapshot-clause-known : goal.returns-in-Snapshot-clause-known
returns-in-Snapshot-clause-known g c = IfErr-weaker c.take_one.result _ _ (λ refusal known stored planned objects own blocks pool readings plain good plans are tell spells.
    known stored planned objects own blocks pool readings plain (subst (λ (change : Change). is_good_making change ≡ true) c.in-Snapshot.is good) plans.held are tell spells) c.take_one.ensures.known

pub returns-in-Snapshot-clause-places : goal.returns-in-Snapshot-clause-places
returns-in-Snapshot-clause-places g c = on_ok_weaker c.take_one.result (λ places.
    subst (λ (change : Change). MakesOne c.args.store.now c.take_one.new.store c.args.group c.args.self.now c.take_one.new.self change) (sym c.in-Snapshot.is) places) c.take_one.ensures.places

-- ---- a clone

pub returns-in-Clone-clause-steps : goal.returns-in-Clone-clause-steps
returns-in-Clone-clause-steps g c = steps_read c.args.store.now c.clone_one.new.store [] c.clone_one.ensures.reads

pub returns-in-Clone-clause-value : goal.returns-in-Clone-clause-value
returns-in-Clone-clause-value g c = on_ok_weaker c.clone_one.result (λ value stored planned plans tell. (
  planned,
  c.clone_one.ensures.reads.plans stored planned plans,
  λ block bytes known. known,
  λ objects own blocks pool readings plain are spells.
      subst (λ (change : Change). AreActed c.args.group objects planned planned c.args.self.now c.clone_one.new.self pool (changed c.args.group plain change)) (sym c.in-Clone.is)
      (value stored planned objects own blocks pool readings plain plans.held are tell spells),
)) c.clone_one.ensures.value

pub returns-in-Clone-clause-known : goal.returns-in-Clone-clause-known
returns-in-Clone-clause-known g c = IfErr-weaker c.clone_one.result _ _ (λ refusal known stored planned objects own blocks pool readings plain good plans are tell spells.
    known stored planned objects own blocks pool readings plain (subst (λ (change : Change). is_good_making change ≡ true) c.in-Clone.is good) plans.held are tell spells) c.clone_one.ensures.known

pub returns-in-Clone-clause-places : goal.returns-in-Clone-clause-places
returns-in-Clone-clause-places g c = on_ok_weaker c.clone_one.result (λ places.
    subst (λ (change : Change). MakesOne c.args.store.now c.clone_one.new.store c.args.group c.args.self.now c.clone_one.new.self change) (sym c.in-Clone.is) places) c.clone_one.ensures.places

-- ---- a destroy is none of these

pub returns-in-Destroy-clause-refused : goal.returns-in-Destroy-clause-refused
returns-in-Destroy-clause-refused g c = inr (inl (refl, ap is_good_making c.in-Destroy.is))

-- ---- a destroy

pub returns-in-Destroy-clause-steps : goal.returns-in-Destroy-clause-steps
returns-in-Destroy-clause-steps g c = steps_none c.args.store.now []

-- ---- why it is refused

pub returns-in-Create-clause-caused : goal.returns-in-Create-clause-caused
returns-in-Create-clause-caused g c = IfErr-weaker c.create_one.result _ _ (λ refusal. ⊎_elim (λ cause. inl cause) (λ lacks. inr (lacks.0, inl lacks.1))) c.create_one.ensures.caused

pub returns-in-Snapshot-clause-caused : goal.returns-in-Snapshot-clause-caused
returns-in-Snapshot-clause-caused g c = IfErr-weaker c.take_one.result _ _ (λ refusal. ⊎_elim (λ cause. inl cause) (λ lacks. inr (lacks.0, inl lacks.1))) c.take_one.ensures.caused

pub returns-in-Clone-clause-caused : goal.returns-in-Clone-clause-caused
returns-in-Clone-clause-caused g c =
    IfErr-weaker c.clone_one.result _ _
    (λ refusal. ⊎_elim (λ cause. inl cause)
    (⊎_elim (λ lacks. inr (lacks.0, inl lacks.1)) (λ most. inr (most.1.0, inr (subst IsCloning (sym c.in-Clone.is) tt)))))
    c.clone_one.ensures.caused

pub returns-in-Destroy-clause-caused : goal.returns-in-Destroy-clause-caused
returns-in-Destroy-clause-caused g c = inl tt

pub returns-in-Create-clause-refused : goal.returns-in-Create-clause-refused
returns-in-Create-clause-refused g c = IfErr-weaker c.create_one.result _ _ (λ refusal why.
    subst (λ (change : Change). IsMakingRefused c.args.store.now c.create_one.new.store c.args.self.now.changes c.args.group c.args.self.now.directory [] c.args.self.now.next c.args.self.now.bounds.end change
    refusal) (sym c.in-Create.is) why) c.create_one.ensures.refused

pub returns-in-Snapshot-clause-refused : goal.returns-in-Snapshot-clause-refused
returns-in-Snapshot-clause-refused g c = IfErr-weaker c.take_one.result _ _ (λ refusal why.
    subst (λ (change : Change). IsMakingRefused c.args.store.now c.take_one.new.store c.args.self.now.changes c.args.group c.args.self.now.directory [] c.args.self.now.next c.args.self.now.bounds.end change
    refusal) (sym c.in-Snapshot.is) why) c.take_one.ensures.refused

pub returns-in-Clone-clause-refused : goal.returns-in-Clone-clause-refused
returns-in-Clone-clause-refused g c = IfErr-weaker c.clone_one.result _ _ (λ refusal why.
    subst (λ (change : Change). IsMakingRefused c.args.store.now c.clone_one.new.store c.args.self.now.changes c.args.group c.args.self.now.directory [] c.args.self.now.next c.args.self.now.bounds.end change
    refusal) (sym c.in-Clone.is) why) c.clone_one.ensures.refused
