use Rattle.std.proofs.Common.{◌+◌, List, ◌∷◌, sym, subst, arith}
use Rattle.space_map.specs.declared.entry.Run.{Run}
use Rattle.space_map.specs.Sectors.{AreBetween}
use Rattle.space_map.specs.Stretches.{AreAhead, EndFrom}
use Rattle.space_map.proofs.Stretches.{drop_ended}
use Rattle.space_map.proofs.updating.ahead.Goals as goal

pub returns-in-Some : goal.returns-in-Some
returns-in-Some c = λ sectors apart.
    let r = c.in-Some.run'.now in
    let rs = c.in-Some.others.now in
    let at = c.args.at in
    let is = c.in-Some.ensures.cases.0 in
    let end : EndFrom at (r ∷ rs) = subst (EndFrom at) is c.requires in
    subst (λ (x : List Run). AreAhead sectors x at rs) (sym is) (drop_ended sectors at r rs end (omega arith) (subst (AreBetween 0 (sectors + 1)) is apart))
