use Rattle.std.proofs.Common.{◌∙◌, arith}
use Rattle.raidz_io.specs.Places.{sizes_of}
use Rattle.raidz_io.proofs.Sizes.{length-sizes}
use Rattle.raidz_io.proofs.Found.{some_at, none_at, one_more, none_more, sized_below}
use Rattle.raidz_io.proofs.choice.try_one_more.Goals as goal

pub returns-in-Some-clause-found : goal.returns-in-Some-clause-found
returns-in-Some-clause-found c =
    one_more c.args.parity (sizes_of c.args.data.now) c.args.bytes.now c.args.wrong.now c.as_slice.result.now c.in-Some.block.items c.args.digest.now
    c.loop-column.column c.requires.few (sized_below (sizes_of c.args.data.now) _ _ _ (length-sizes c.args.data.now) c.requires.below)
    (omega (arith, c.loop-column-test.true, length-sizes c.args.data.now)) (c.as_slice.ensures.value ∙ c.with_column-choice.ensures)
    (some_at c.in_ok-found.found c.in-Some.block _ c.in-Some.is c.in_ok-found.ensures.found)

pub loop-column-preserved : goal.loop-column-preserved
loop-column-preserved c =
    none_more c.args.digest.now c.args.parity (sizes_of c.args.data.now) c.args.bytes.now c.args.wrong.now c.as_slice.result.now c.args.from
    c.loop-column.column c.loop-column.invariant (c.as_slice.ensures.value ∙ c.with_column-choice.ensures)
    (none_at c.in_ok-found.found _ c.in_default.is c.in_ok-found.ensures.none)

pub returns-clause-none : goal.returns-clause-none
returns-clause-none c k from below = c.loop-column.invariant k from (omega (arith, below, c.loop-column-test.false))
