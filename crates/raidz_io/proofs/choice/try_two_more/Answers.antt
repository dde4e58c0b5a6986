use Rattle.std.proofs.Common.{◌∙◌, arith}
use Rattle.raidz_io.specs.Places.{sizes_of}
use Rattle.raidz_io.proofs.Found.{some_at, none_at, two_more, none_two_more}
use Rattle.raidz_io.proofs.choice.try_two_more.Goals as goal

pub returns-in-Some-clause-found : goal.returns-in-Some-clause-found
returns-in-Some-clause-found c =
    two_more c.args.parity (sizes_of c.args.data.now) c.args.bytes.now c.args.wrong.now c.as_slice.result.now c.in-Some.block.items c.args.digest.now
    c.loop-column.column (c.as_slice.ensures.value ∙ c.with_column-choice.ensures)
    (some_at c.in_ok-found.found c.in-Some.block _ c.in-Some.is c.in_ok-found.ensures.found)

pub loop-column-preserved : goal.loop-column-preserved
loop-column-preserved c =
    none_two_more c.args.digest.now c.args.parity (sizes_of c.args.data.now) c.args.bytes.now c.args.wrong.now c.as_slice.result.now
    _ c.loop-column.column c.loop-column.invariant (c.as_slice.ensures.value ∙ c.with_column-choice.ensures)
    (none_at c.in_ok-found.found _ c.in_default.is c.in_ok-found.ensures.none)

pub returns-clause-none : goal.returns-clause-none
returns-clause-none c i k less below = c.loop-column.invariant i k (omega (arith, less, below, c.loop-column-test.false)) less below
