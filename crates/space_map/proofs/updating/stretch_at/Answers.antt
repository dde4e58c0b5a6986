use Rattle.std.proofs.Common.{◌+◌, true, false, List, ◌∷◌, sym, subst, arith}
use Rattle.space_map.specs.declared.entry.Run.{Run}
use Rattle.space_map.specs.Sectors.{AreBetween}
use Rattle.space_map.specs.Stretches.{IsStretch, EndFrom}
use Rattle.space_map.proofs.Stretches.{not_free_up_to, free_up_to, fits_sectors}
use Rattle.space_map.proofs.updating.stretch_at.Goals as goal

pub returns-then-at-run : goal.returns-then-at-run
returns-then-at-run c =
    let r = c.in-Some.run'.now in
    let rs = c.in-Some.field-0-1.now in
    let is = c.in-Some.ensures.cases.0 in
    subst (λ (x : List Run). IsStretch c.args.sectors x c.args.at (record { free = false; end = r.start })) (sym is)
    (not_free_up_to c.args.sectors c.args.at r rs (subst (AreBetween 0 (c.args.sectors + 1)) is c.requires.apart) c.if-at-run.true)

pub overflow_add-result : goal.overflow_add-result
overflow_add-result c =
    let is = c.in-Some.ensures.cases.0 in
    omega (arith, fits_sectors c.args.sectors _ _ (subst (AreBetween 0 (c.args.sectors + 1)) is c.requires.apart), c.requires.few)

pub returns : goal.returns
returns c =
    let r = c.in-Some.run'.now in
    let rs = c.in-Some.field-0-1.now in
    let is = c.in-Some.ensures.cases.0 in
    let end : EndFrom (c.args.at + 1) (r ∷ rs) = subst (EndFrom (c.args.at + 1)) is c.requires.end in
    subst (λ (x : List Run). IsStretch c.args.sectors x c.args.at (record { free = true; end = r.start + r.len })) (sym is)
    (free_up_to c.args.sectors c.args.at r rs (subst (AreBetween 0 (c.args.sectors + 1)) is c.requires.apart) c.if-at-run.false (omega arith))
