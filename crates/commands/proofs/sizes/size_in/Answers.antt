use Rattle.std.proofs.Common.{◌≡◌, string_bytes, true, false, sym, ap, ◌∙◌, arith}
use Rattle.pool_model.specs.Names.{same}
use Rattle.commands.proofs.FoundRows.{no_row, none_before, row_found, row_passed}
use Rattle.commands.proofs.sizes.size_in.Goals as goal

pub loop-i-init : goal.loop-i-init
loop-i-init c = none_before c.args.rows.now c.args.name.now

pub loop-i-preserved : goal.loop-i-preserved
loop-i-preserved c =
    let other : same (string_bytes c.index-rows-i.result.name) c.args.name.now ≡ false = ap (λ l. same l c.args.name.now) (sym c.as_bytes.ensures.value) ∙ (ap (same c.as_bytes.result.now) (sym c.as_slice.ensures) ∙ (sym c.eq.ensures ∙ c.if-eq.false)) in
    row_passed c.args.rows.now c.args.name.now c.loop-i.i c.index-rows-i.result c.loop-i.invariant (omega (arith, c.loop-i-test.true)) c.index-rows-i.is other

pub returns-then-eq : goal.returns-then-eq
returns-then-eq c =
    let same_name : same (string_bytes c.index-rows-i.result.name) c.args.name.now ≡ true = ap (λ l. same l c.args.name.now) (sym c.as_bytes.ensures.value) ∙ (ap (same c.as_bytes.result.now) (sym c.as_slice.ensures) ∙ (sym c.eq.ensures ∙ c.if-eq.true)) in
    row_found c.args.rows.now c.args.name.now c.loop-i.i c.index-rows-i.result c.loop-i.invariant (omega (arith, c.loop-i-test.true)) c.index-rows-i.is same_name

pub returns : goal.returns
returns c = no_row c.args.rows.now c.args.name.now c.loop-i.i c.loop-i.invariant (omega (arith, c.loop-i-test.false))
