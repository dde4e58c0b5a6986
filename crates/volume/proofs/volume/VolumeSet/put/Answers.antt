use Rattle.std.proofs.Common.{◌≡◌, [], inl, inr, refl, sym, subst, arith}
use Rattle.block_pointer.specs.declared.block.Block.{Block}
use Rattle.block_store.proofs.Steps.{steps_read, steps_on}
use Rattle.block_store.proofs.Telling.{tell_after, tell_before}
use Rattle.dnode.specs.declared.object_set.ObjectSet.{ObjectSet}
use Rattle.dnode_tree.proofs.Losses.{loss_in_plan}
use Rattle.objset.specs.Objects.{AreObjects}
use Rattle.objset.specs.declared.changes.Change.TheVariants.{Put}
use Rattle.volume.specs.Placing.{IsSetPlanned}
use Rattle.volume.proofs.Demanding.{places_behind}
use Rattle.volume.proofs.Putting.{data_with, planned_spells, may_put, good_writes, lacks_on, volume_as}
use Rattle.volume.proofs.Refusing.{passed_on}
use Rattle.block_store.proofs.Causes.{caused_behind_reads}
use Rattle.volume.proofs.volume.VolumeSet.put.Goals as goal

pub returns-in_err-set-clause-steps : goal.returns-in_err-set-clause-steps
returns-in_err-set-clause-steps g c = steps_read _ _ _ c.in_err-set.ensures.reads

pub returns-in_err-set-clause-known : goal.returns-in_err-set-clause-known
returns-in_err-set-clause-known g c =
    passed_on _ _ _ c.from_residual.ensures.1 (λ stored planned bound array plans is le tell.
    loss_in_plan _ (c.in_err-set.ensures.known stored bound array plans.held is le tell))

pub plan_change-requires-clause-good : goal.plan_change-requires-clause-good
plan_change-requires-clause-good g c = good_writes c.args.self.now c.args.blocks.items c.requires.blocks

pub returns-in_err-planned-clause-steps : goal.returns-in_err-planned-clause-steps
returns-in_err-planned-clause-steps g c = steps_on _ _ _ _ (steps_read _ _ _ c.in_ok-set.ensures.reads) c.plan_change.ensures.steps

pub returns-in_err-planned-clause-no_room : goal.returns-in_err-planned-clause-no_room
returns-in_err-planned-clause-no_room g c =
    passed_on _ _ _ c.from_residual-in_err-planned.ensures.1
    (λ is. lacks_on c.args.store.now c.open.new.store c.plan_change.new.store (steps_read _ _ _ c.in_ok-set.ensures.reads) (c.in_err-planned.ensures.no_room is))

pub returns-in_err-planned-clause-known : goal.returns-in_err-planned-clause-known
returns-in_err-planned-clause-known g c =
    let first = steps_read c.args.store.now c.open.new.store [] c.in_ok-set.ensures.reads in
    passed_on _ _ _ c.from_residual-in_err-planned.ensures.1 (λ stored planned bound array plans is le tell.
    let same : c.in_ok-set.set ≡ is.set =
    c.in_ok-set.ensures.value stored bound array plans.held is le
    (tell_before c.args.store.now c.open.new.store c.plan_change.new.store [] first c.plan_change.ensures.steps tell) in
    c.in_err-planned.ensures.known stored planned c.args.self.now.block.birth is.has.objects is.has.own is.has.blocks (c.in_ok-set.ensures.reads.plans stored planned plans)
    (subst (λ (set : ObjectSet). AreObjects stored c.args.self.now.block.birth set is.has.objects is.has.own is.has.blocks) (sym same) is.has.are) (omega arith)
    (let early = is.is_set.asks.birth in omega arith)
    (may_put c.args.self.now is.has.objects array c.args.blocks is.has.data_is c.requires.blocks)
    (tell_after c.args.store.now c.open.new.store c.plan_change.new.store [] first c.plan_change.ensures.steps tell))

pub returns-in_err-rewritten-clause-steps : goal.returns-in_err-rewritten-clause-steps
returns-in_err-rewritten-clause-steps g c = steps_on _ _ _ _ (steps_read _ _ _ c.in_ok-set.ensures.reads) c.plan_change.ensures.steps

pub returns-in_err-rewritten-clause-known : goal.returns-in_err-rewritten-clause-known
returns-in_err-rewritten-clause-known g c =
    passed_on _ _ _ c.from_residual-in_err-rewritten.ensures.1 (λ stored planned bound array plans is le tell. inl (inl refl))

pub returns-clause-steps : goal.returns-clause-steps
returns-clause-steps g c = steps_on _ _ _ _ (steps_read _ _ _ c.in_ok-set.ensures.reads) c.plan_change.ensures.steps

pub returns-clause-value : goal.returns-clause-value
returns-clause-value g c = λ stored planned bound array plans is le tell.
    let first = steps_read c.args.store.now c.open.new.store [] c.in_ok-set.ensures.reads in
    let same : c.in_ok-set.set ≡ is.set =
    c.in_ok-set.ensures.value stored bound array plans.held is le
    (tell_before c.args.store.now c.open.new.store c.plan_change.new.store [] first c.plan_change.ensures.steps tell) in
    let did = c.in_ok-planned.ensures.value stored planned c.args.self.now.block.birth is.has.objects is.has.own is.has.blocks (c.in_ok-set.ensures.reads.plans stored planned plans)
    (subst (λ (set : ObjectSet). AreObjects stored c.args.self.now.block.birth set is.has.objects is.has.own is.has.blocks) (sym same) is.has.are)
    (let early = is.is_set.asks.birth in omega arith)
    (tell_after c.args.store.now c.open.new.store c.plan_change.new.store [] first c.plan_change.ensures.steps tell) in
    let planned_is : IsSetPlanned planned did.0 c.args.birth is.set (Put c.args.blocks) is.has.objects is.has.own is.has.blocks c.in_ok-planned.planned.block c.in_ok-planned.planned.replaced.items =
    subst (λ (set : ObjectSet). IsSetPlanned planned did.0 c.args.birth set (Put c.args.blocks) is.has.objects is.has.own is.has.blocks c.in_ok-planned.planned.block c.in_ok-planned.planned.replaced.items) same did.2 in (
      did.0,
      did.1,
      λ block bytes known. planned_is.adds.kept block bytes (planned_is.objects_are.kept block bytes known),
      λ after with. volume_as did.0 c.args.birth c.in_ok-rewritten.field-0.volume c.in_ok-planned.planned.block c.args.self.now.size c.args.self.now.block_size after
          c.in_ok-rewritten.ensures.block c.in_ok-rewritten.ensures.shape.0 c.in_ok-rewritten.ensures.shape.1
          (planned_spells planned did.0 c.args.birth is.set (Put c.args.blocks) is.has.objects is.has.own is.has.blocks c.in_ok-planned.planned.block c.in_ok-planned.planned.replaced.items
          c.args.self.now.size c.args.self.now.block_size after planned_is is.kind (data_with c.args.self.now is.has.objects array after c.args.blocks is.has.data_is c.requires.blocks with)),
      record {
        gone = c.in_ok-planned.planned.replaced.items;
        planned_is = subst (λ (block : Block). IsSetPlanned planned did.0 c.args.birth is.set (Put c.args.blocks) is.has.objects is.has.own is.has.blocks block c.in_ok-planned.planned.replaced.items)
            (sym c.in_ok-rewritten.ensures.block) planned_is;
        replaced = c.in_ok-rewritten.ensures.replaced;
      },
    )

pub returns-in_err-set-clause-refused : goal.returns-in_err-set-clause-refused
returns-in_err-set-clause-refused g c = passed_on _ _ _ c.from_residual.ensures.1 (inr (inl c.in_err-set.ensures.refused))

pub returns-in_err-planned-clause-refused : goal.returns-in_err-planned-clause-refused
returns-in_err-planned-clause-refused g c =
    passed_on _ _ _ c.from_residual-in_err-planned.ensures.1 (inr (inr (record {
      set = c.in_ok-set.set;
      is_set = c.in_ok-set.ensures.found;
      mid = c.open.new.store;
      before = c.in_ok-set.ensures.reads;
      why = c.in_err-planned.ensures.refused;
    })))

pub returns-in_err-rewritten-clause-refused : goal.returns-in_err-rewritten-clause-refused
returns-in_err-rewritten-clause-refused g c = passed_on _ _ _ c.from_residual-in_err-rewritten.ensures.1 (inl refl)

pub returns-clause-places : goal.returns-clause-places
returns-clause-places g c =
    places_behind c.args.store.now c.open.new.store c.plan_change.new.store c.args.self.now c.args.birth c.in_ok-set.set c.args.blocks c.in_ok-set.ensures.reads c.in_ok-set.ensures.found
    c.in_ok-planned.ensures.places

pub returns-in_err-set-clause-caused : goal.returns-in_err-set-clause-caused
returns-in_err-set-clause-caused g c = passed_on _ _ _ c.from_residual.ensures.1 c.in_err-set.ensures.caused

pub returns-in_err-planned-clause-caused : goal.returns-in_err-planned-clause-caused
returns-in_err-planned-clause-caused g c = passed_on _ _ _ c.from_residual-in_err-planned.ensures.1 (caused_behind_reads _ _ _ _ _ c.in_ok-set.ensures.reads c.in_err-planned.ensures.caused)

pub returns-in_err-rewritten-clause-caused : goal.returns-in_err-rewritten-clause-caused
returns-in_err-rewritten-clause-caused g c = passed_on _ _ _ c.from_residual-in_err-rewritten.ensures.1 tt
