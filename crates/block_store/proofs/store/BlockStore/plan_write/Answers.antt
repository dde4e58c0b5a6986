use Rattle.std.proofs.Common.{◌∙◌, [], sym, ap, subst}
use Rattle.block_pointer.specs.Copies.{dvas}
use Rattle.block_store.specs.Blocks.{count_of}
use Rattle.block_store.specs.Places.{shapes_of, AreChosen, TookSome}
use Rattle.block_store.proofs.Adding.{chosen_stores, took_keeps, took_keeps_plans}
use Rattle.block_store.proofs.Entering.{keeps_through, plans_through}
use Rattle.block_store.proofs.Fitting.{took_some}
use Rattle.block_store.proofs.store.BlockStore.plan_write.Goals as goal

pub returns-in-Ok-clause-planned : goal.returns-in-Ok-clause-planned
returns-in-Ok-clause-planned g c stored planned plans = c.in-Ok.ensures.planned stored planned (c.reach.ensures.plans stored planned plans)

pub returns-in-Err-clause-keeps : goal.returns-in-Err-clause-keeps
returns-in-Err-clause-keeps g c =
    let sectors = c.args.new.property.sectors in
    let some : TookSome c.reach.new.self.spaces sectors (count_of c.args.copies) c.note_stray.new.self.spaces =
    subst (λ xs. TookSome c.reach.new.self.spaces sectors (count_of c.args.copies) xs) (sym c.note_stray.ensures.spaces) c.in-Err.ensures.err_spaces in
    let took = took_some c.reach.new.self c.note_stray.new.self sectors (count_of c.args.copies) (c.note_stray.ensures.disks ∙ c.in-Err.ensures.disks)
    (c.note_stray.ensures.out ∙ c.in-Err.ensures.out) (c.note_stray.ensures.spans ∙ c.in-Err.ensures.spans) (c.note_stray.ensures.due ∙ c.in-Err.ensures.err_due) some in
    keeps_through _ _ _ c.reach.ensures.keeps (took_keeps c.reach.new.self c.note_stray.new.self sectors (count_of c.args.copies) took.0 took.1)

pub returns-in-Err-clause-err : goal.returns-in-Err-clause-err
returns-in-Err-clause-err g c =
    let sectors = c.args.new.property.sectors in
    let some : TookSome c.reach.new.self.spaces sectors (count_of c.args.copies) c.note_stray.new.self.spaces =
    subst (λ xs. TookSome c.reach.new.self.spaces sectors (count_of c.args.copies) xs) (sym c.note_stray.ensures.spaces) c.in-Err.ensures.err_spaces in
    let took = took_some c.reach.new.self c.note_stray.new.self sectors (count_of c.args.copies) (c.note_stray.ensures.disks ∙ c.in-Err.ensures.disks)
    (c.note_stray.ensures.out ∙ c.in-Err.ensures.out) (c.note_stray.ensures.spans ∙ c.in-Err.ensures.spans) (c.note_stray.ensures.due ∙ c.in-Err.ensures.err_due) some in
    plans_through _ _ _ c.reach.ensures.plans (took_keeps_plans c.reach.new.self c.note_stray.new.self sectors (count_of c.args.copies) took.0 took.1 c.note_stray.ensures.stray)

pub returns-in-Ok-clause-stores : goal.returns-in-Ok-clause-stores
returns-in-Ok-clause-stores g c =
    let sectors = c.args.new.property.sectors in
    let places = dvas c.in-Ok.block.copies in
    let chosen : AreChosen c.args.self.now.spaces [] sectors (count_of c.args.copies) places c.place_block.new.self.spaces =
    subst (λ xs. AreChosen xs [] sectors (count_of c.args.copies) places c.place_block.new.self.spaces) c.reach.ensures.spaces c.in-Ok.ensures.places in
    chosen_stores c.args.self.now c.place_block.new.self sectors (count_of c.args.copies) places chosen (keeps_through _ _ _ c.reach.ensures.keeps c.in-Ok.ensures.keeps)

pub returns-in-Err-clause-stores : goal.returns-in-Err-clause-stores
returns-in-Err-clause-stores g c =
    let sectors = c.args.new.property.sectors in
    let some : TookSome c.reach.new.self.spaces sectors (count_of c.args.copies) c.note_stray.new.self.spaces =
    subst (λ xs. TookSome c.reach.new.self.spaces sectors (count_of c.args.copies) xs) (sym c.note_stray.ensures.spaces) c.in-Err.ensures.err_spaces in
    let chosen : AreChosen c.args.self.now.spaces [] sectors (count_of c.args.copies) some.0 c.note_stray.new.self.spaces =
    subst (λ xs. AreChosen xs [] sectors (count_of c.args.copies) some.0 c.note_stray.new.self.spaces) c.reach.ensures.spaces some.2 in
    chosen_stores c.args.self.now c.note_stray.new.self sectors (count_of c.args.copies) some.0 chosen (returns-in-Err-clause-keeps g c)

pub returns-in-Ok-clause-disks : goal.returns-in-Ok-clause-disks
returns-in-Ok-clause-disks g c = c.in-Ok.ensures.disks ∙ c.reach.ensures.disks

pub returns-in-Err-clause-disks : goal.returns-in-Err-clause-disks
returns-in-Err-clause-disks g c = c.note_stray.ensures.disks ∙ c.in-Err.ensures.disks ∙ c.reach.ensures.disks

pub returns-in-Ok-clause-out : goal.returns-in-Ok-clause-out
returns-in-Ok-clause-out g c = c.in-Ok.ensures.out ∙ c.reach.ensures.out

pub returns-in-Err-clause-out : goal.returns-in-Err-clause-out
returns-in-Err-clause-out g c = c.note_stray.ensures.out ∙ c.in-Err.ensures.out ∙ c.reach.ensures.out

pub returns-in-Ok-clause-spans : goal.returns-in-Ok-clause-spans
returns-in-Ok-clause-spans g c = c.in-Ok.ensures.spans ∙ c.reach.ensures.spans

pub returns-in-Err-clause-spans : goal.returns-in-Err-clause-spans
returns-in-Err-clause-spans g c = c.note_stray.ensures.spans ∙ c.in-Err.ensures.spans ∙ c.reach.ensures.spans

pub returns-in-Ok-clause-shapes : goal.returns-in-Ok-clause-shapes
returns-in-Ok-clause-shapes g c = c.in-Ok.ensures.shapes ∙ ap shapes_of c.reach.ensures.spaces

pub returns-in-Err-clause-shapes : goal.returns-in-Err-clause-shapes
returns-in-Err-clause-shapes g c = ap shapes_of c.note_stray.ensures.spaces ∙ c.in-Err.ensures.shapes ∙ ap shapes_of c.reach.ensures.spaces

pub returns-in-Ok-clause-keeps : goal.returns-in-Ok-clause-keeps
returns-in-Ok-clause-keeps g c = keeps_through _ _ _ c.reach.ensures.keeps c.in-Ok.ensures.keeps

pub returns-in-Ok-clause-places : goal.returns-in-Ok-clause-places
returns-in-Ok-clause-places g c =
    subst (λ xs. AreChosen xs [] c.args.new.property.sectors (count_of c.args.copies) (dvas c.in-Ok.block.copies) c.place_block.new.self.spaces) c.reach.ensures.spaces
    c.in-Ok.ensures.places

pub returns-in-Ok-clause-stray : goal.returns-in-Ok-clause-stray
returns-in-Ok-clause-stray g c = c.in-Ok.ensures.stray ∙ c.reach.ensures.stray

pub returns-in-Err-clause-err_due : goal.returns-in-Err-clause-err_due
returns-in-Err-clause-err_due g c = c.note_stray.ensures.due ∙ c.in-Err.ensures.err_due ∙ c.reach.ensures.due

pub returns-in-Err-clause-err_spaces : goal.returns-in-Err-clause-err_spaces
returns-in-Err-clause-err_spaces g c =
    let sectors = c.args.new.property.sectors in
    subst (λ xs. TookSome xs sectors (count_of c.args.copies) c.note_stray.new.self.spaces) c.reach.ensures.spaces
    (subst (λ xs. TookSome c.reach.new.self.spaces sectors (count_of c.args.copies) xs) (sym c.note_stray.ensures.spaces) c.in-Err.ensures.err_spaces)
