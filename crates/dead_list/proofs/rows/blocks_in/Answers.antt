use Rattle.std.proofs.Common.{◌<◌, inr, length, arith}
use Rattle.std.proofs.lemmas.Bool.Decides.{nat_tests}
use Rattle.dead_list.specs.Rows.{SpellsNoList}
use Rattle.dead_list.proofs.RowLists.{reading_goes_on, reading_stops, reading_ends, passed_on}
use Rattle.dead_list.proofs.rows.blocks_in.Goals as goal

pub returns-in_err-block-clause-refused : goal.returns-in_err-block-clause-refused
returns-in_err-block-clause-refused c =
    let some : 0 < length c.loop-rest.rest.now = grind (arith, nat_tests) in
    let none : SpellsNoList c.args.bytes.now = λ whole spelled.
    reading_stops c.args.bytes.now c.loop-rest.rest.now c.loop-rest.blocks.items c.loop-rest.invariant some (λ b more fits parts. absurd (c.in_err-block.ensures.only b more fits parts)) whole spelled.each spelled.spelled in
    passed_on _ _ _ c.from_residual.ensures.1 (inr (c.in_err-block.ensures.refused, none))

pub loop-rest-preserved : goal.loop-rest-preserved
loop-rest-preserved c =
    let some : 0 < length c.loop-rest.rest.now = grind (arith, nat_tests) in
    let next = reading_goes_on c.args.bytes.now c.loop-rest.rest.now c.in_ok-block.after.now c.loop-rest.blocks.items c.in_ok-block.block c.loop-rest.invariant some c.in_ok-block.ensures.fits c.in_ok-block.ensures.found c.in_ok-block.ensures.only in
    rw c.in_ok-push.ensures.ok next

pub returns-clause-only : goal.returns-clause-only
returns-clause-only c = λ whole spelled. reading_ends c.args.bytes.now c.loop-rest.rest.now c.loop-rest.blocks.items c.loop-rest.invariant (grind (arith, nat_tests)) whole spelled.each spelled.spelled
