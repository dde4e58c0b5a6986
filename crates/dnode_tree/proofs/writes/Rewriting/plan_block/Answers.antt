use Rattle.block_pointer.specs.Copies.{dvas}
use Rattle.std.proofs.Common.{◌<◌, ◌∙◌, [], ap, sym, subst, arith}
use Rattle.block_store.specs.Blocks.{count_of}
use Rattle.block_store.specs.Places.{RanOut}
use Rattle.block_pointer.specs.Property.{FitsProperty}
use Rattle.dnode_tree.proofs.Fitting.{chosen_fit, property_fits}
use Rattle.dnode_tree.proofs.Refusing.{passed_on, only_no_space}
use Rattle.block_store.proofs.Steps.{no_room_now, steps_plan}
use Rattle.dnode_tree.specs.Tree.{property_of}
use Rattle.block_store.specs.Places.{AreChosen}
use Rattle.dnode_tree.proofs.Spots.{one_placed, none_placed}
use Rattle.block_store.proofs.Causes.{plan_is_caused}
use Rattle.dnode_tree.proofs.writes.Rewriting.plan_block.Goals as goal

pub returns-clause-fits : goal.returns-clause-fits
returns-clause-fits g c =
    let block = c.in_ok-planned.ensures.block in
    let property = property_fits c.args.self.node.now c.args.level c.requires.node c.requires.low in
    let same = block.property ∙ c.property_at.ensures in
    let some : 0 < c.property_at.result.sectors = subst (λ p. 0 < p.sectors) (sym c.property_at.ensures) property.not_empty in
    record {
      copies = chosen_fit _ _ _ _ _ _ some c.vdevs_are_short.ensures c.in_ok-planned.ensures.places;
      property = subst FitsProperty (sym same) property;
      born = omega (arith, block.birth);
      birth = omega (arith, block.birth);
      filled = omega (arith, block.fill, c.requires.filled);
      fill = omega (arith, block.fill, c.ranges.fill.fits);
      fill_of_data = λ at. block.fill ∙ c.requires.fill_of_data (ap (λ p. p.level) (sym same) ∙ at);
    }

pub returns-in_err-planned-clause-no_room : goal.returns-in_err-planned-clause-no_room
returns-in_err-planned-clause-no_room g c =
    passed_on _ _ _ c.from_residual.ensures.1
    (λ is missing. (
      c.args.level,
      no_room_now c.args.store.now c.plan_write.new.self missing _ _
          (subst (λ n. RanOut c.args.store.now.spaces (property_of c.args.self.node.now c.args.level).sectors n c.plan_write.new.self.spaces) c.at.ensures
          (subst (λ p. RanOut c.args.store.now.spaces p.sectors (count_of c.at.result) c.plan_write.new.self.spaces) c.property_at.ensures
          (only_no_space _ _ c.in_err-planned.ensures.refused is))),
    ))

pub returns-in_err-planned-clause-steps : goal.returns-in_err-planned-clause-steps
returns-in_err-planned-clause-steps g c =
    λ missing. steps_plan _ _ missing _ _ _ c.plan_write.result _ c.plan_write.ensures.disks c.plan_write.ensures.out c.plan_write.ensures.spans c.plan_write.ensures.shapes c.plan_write.ensures.keeps
    c.plan_write.ensures.places c.plan_write.ensures.err_spaces c.plan_write.ensures.due c.plan_write.ensures.err_due c.plan_write.ensures.planned c.plan_write.ensures.err

pub returns-clause-steps : goal.returns-clause-steps
returns-clause-steps g c =
    λ missing. steps_plan _ _ missing _ _ _ c.plan_write.result _ c.plan_write.ensures.disks c.plan_write.ensures.out c.plan_write.ensures.spans c.plan_write.ensures.shapes c.plan_write.ensures.keeps
    c.plan_write.ensures.places c.plan_write.ensures.err_spaces c.plan_write.ensures.due c.plan_write.ensures.err_due c.plan_write.ensures.planned c.plan_write.ensures.err

pub returns-in_err-planned-clause-no_place : goal.returns-in_err-planned-clause-no_place
returns-in_err-planned-clause-no_place g c =
    passed_on _ _ _ c.from_residual.ensures.1
    (λ is first.
    none_placed c.args.self.node.now c.args.self.copies _ _ c.args.level first
    (subst (λ n. RanOut c.args.store.now.spaces (property_of c.args.self.node.now c.args.level).sectors n c.plan_write.new.self.spaces) c.at.ensures
    (subst (λ p. RanOut c.args.store.now.spaces p.sectors (count_of c.at.result) c.plan_write.new.self.spaces) c.property_at.ensures
    (only_no_space _ _ c.in_err-planned.ensures.refused is))))

pub returns-clause-place : goal.returns-clause-place
returns-clause-place g c =
    λ first.
    one_placed c.args.self.node.now c.args.self.copies _ _ c.args.level first _ (c.in_ok-planned.ensures.block.count ∙ c.at.ensures)
    (subst (λ n. AreChosen c.args.store.now.spaces [] (property_of c.args.self.node.now c.args.level).sectors n (dvas c.in_ok-planned.planned.copies) c.plan_write.new.self.spaces)
    c.at.ensures
    (subst (λ p. AreChosen c.args.store.now.spaces [] p.sectors (count_of c.at.result) (dvas c.in_ok-planned.planned.copies) c.plan_write.new.self.spaces) c.property_at.ensures
    c.in_ok-planned.ensures.places))

pub returns-in_err-planned-clause-caused : goal.returns-in_err-planned-clause-caused
returns-in_err-planned-clause-caused g c =
    λ missing. passed_on _ _ _ c.from_residual.ensures.1
    (plan_is_caused c.args.store.now c.plan_write.new.self missing c.property_at.result c.at.result _
    (subst FitsProperty (sym c.property_at.ensures) (property_fits c.args.self.node.now c.args.level c.requires.node c.requires.low)) c.in_err-planned.ensures.refused)
