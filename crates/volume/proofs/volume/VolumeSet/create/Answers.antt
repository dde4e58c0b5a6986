use Rattle.std.proofs.Common.{[], None, refl, arith}
use Rattle.volume.proofs.Made.{no_objects, data_of_zeros, made}
use Rattle.volume.proofs.Putting.{planned_spells, volume_as}
use Rattle.volume.proofs.Refusing.{passed_on}
use Rattle.volume.proofs.Sizes.{some_block}
use Rattle.volume.proofs.volume.VolumeSet.create.Goals as goal

pub returns-in_err-planned-clause-known : goal.returns-in_err-planned-clause-known
returns-in_err-planned-clause-known g c =
    passed_on _ _ _ c.from_residual.ensures.1 (λ stored planned plans tell.
    c.in_err-planned.ensures.known stored planned 0 (λ number. None) [] (λ number. []) plans (no_objects stored 0 _ refl) (omega arith) (omega arith) refl tell)

pub returns-clause-value : goal.returns-clause-value
returns-clause-value g c = λ stored planned plans tell.
    let did = c.in_ok-planned.ensures.value stored planned 0 (λ number. None) [] (λ number. []) plans (no_objects stored 0 _ refl) (omega arith) tell in (
      did.0,
      did.1,
      λ block bytes known. did.2.adds.kept block bytes (did.2.objects_are.kept block bytes known),
      volume_as did.0 c.args.birth c.new-2.result c.in_ok-planned.planned.block c.args.size c.args.block_size _ c.new-2.ensures.block c.new-2.ensures.shape.0 c.new-2.ensures.shape.1
          (planned_spells planned did.0 c.args.birth _ _ (λ number. None) [] (λ number. []) c.in_ok-planned.planned.block c.in_ok-planned.planned.replaced.items
          c.args.size c.args.block_size _ did.2 refl (data_of_zeros c.args.size c.args.block_size _ c.new.result c.new.ensures.items refl
          (some_block c.args.size c.args.block_size c.requires.block_sized c.requires.least))),
      made planned did.0 c.args.birth c.new-2.result _ _ c.new.result c.args.block_size c.in_ok-planned.planned.block c.in_ok-planned.planned.replaced.items c.new-2.ensures.block c.new-2.ensures.shape.1 refl
          c.new.ensures.items refl did.2,
    )

pub returns-in_err-planned-clause-refused : goal.returns-in_err-planned-clause-refused
returns-in_err-planned-clause-refused g c =
    passed_on _ _ _ c.from_residual.ensures.1 (_, (c.new.result, c.new.ensures.items, refl), c.in_err-planned.ensures.refused)

pub returns-clause-places : goal.returns-clause-places
returns-clause-places g c = (_, (c.new.result, c.new.ensures.items, refl), c.in_ok-planned.ensures.places)

pub returns-in_err-planned-clause-caused : goal.returns-in_err-planned-clause-caused
returns-in_err-planned-clause-caused g c = passed_on _ _ _ c.from_residual.ensures.1 c.in_err-planned.ensures.caused
