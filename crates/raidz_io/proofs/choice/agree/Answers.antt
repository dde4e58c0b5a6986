use Rattle.std.proofs.Common.{◌≡◌, Some, sym, ap, ◌∙◌, arith}
use Rattle.std.specs.List.{slice_get}
use Rattle.std.proofs.lemmas.Option.{slice_get_within}
use Rattle.raidz_parity.specs.Layout.{columns_of}
use Rattle.raidz_io.proofs.Parts.{length-columns_of}
use Rattle.raidz_io.proofs.Written.{same_some}
use Rattle.raidz_io.proofs.Tries.{part_at, part_fits, part_after, same_more}
use Rattle.raidz_io.proofs.choice.agree.Goals as goal

pub split_at-requires : goal.split_at-requires
split_at-requires c =
    part_fits c.args.sizes.now c.loop-index.index 0 c.args.whole.now _ c.loop-index-test.true c.requires.whole c.loop-index.invariant.whole_rest

pub split_at-requires-in-loop-index : goal.split_at-requires-in-loop-index
split_at-requires-in-loop-index c =
    part_fits c.args.sizes.now c.loop-index.index 0 c.args.bytes.now _ c.loop-index-test.true c.requires.bytes c.loop-index.invariant.bytes_rest

pub loop-index-preserved : goal.loop-index-preserved
loop-index-preserved c = record {
  whole_rest =
      part_after c.args.sizes.now c.loop-index.index 0 c.args.whole.now _ _ c.loop-index-test.true c.loop-index.invariant.whole_rest c.split_at.ensures.back;
  bytes_rest =
      part_after c.args.sizes.now c.loop-index.index 0 c.args.bytes.now _ _ c.loop-index-test.true c.loop-index.invariant.bytes_rest
      c.split_at-in-loop-index.ensures.back;
  same =
      same_more c.args.sizes.now c.loop-index.index c.args.whole.now c.args.bytes.now c.args.wrong.now _ _ c.loop-index.invariant.same
      (part_at c.args.sizes.now c.loop-index.index 0 c.args.whole.now _ c.loop-index-test.true c.loop-index.invariant.whole_rest
      ∙ ap (λ p. Some p) (sym c.split_at.ensures.front))
      (part_at c.args.sizes.now c.loop-index.index 0 c.args.bytes.now _ c.loop-index-test.true c.loop-index.invariant.bytes_rest
      ∙ ap (λ p. Some p) (sym c.split_at-in-loop-index.ensures.front))
      (c.column_agrees.ensures.yes c.if-not-column_agrees.false);
}

pub returns-then-not-column_agrees-clause-no : goal.returns-then-not-column_agrees-clause-no
returns-then-not-column_agrees-clause-no c matches =
    let here : slice_get (columns_of c.args.sizes.now c.args.whole.now) c.loop-index.index ≡ Some c.split_at.result.0.now =
    part_at c.args.sizes.now c.loop-index.index 0 c.args.whole.now _ c.loop-index-test.true c.loop-index.invariant.whole_rest
    ∙ ap (λ p. Some p) (sym c.split_at.ensures.front) in
    let here' : slice_get (columns_of c.args.sizes.now c.args.bytes.now) c.loop-index.index ≡ Some c.split_at-in-loop-index.result.0.now =
    part_at c.args.sizes.now c.loop-index.index 0 c.args.bytes.now _ c.loop-index-test.true c.loop-index.invariant.bytes_rest
    ∙ ap (λ p. Some p) (sym c.split_at-in-loop-index.ensures.front) in
    sym c.if-not-column_agrees.true
    ∙ c.column_agrees.ensures.no (λ kept.
    same_some c.split_at.result.0.now c.split_at-in-loop-index.result.0.now (sym (matches c.loop-index.index c.split_at.result.0.now kept here) ∙ here'))

pub returns-clause-yes : goal.returns-clause-yes
returns-clause-yes c all k part kept at =
    c.loop-index.invariant.same k part
    (omega (
      arith,
      c.loop-index-test.false,
      slice_get_within (columns_of c.args.sizes.now c.args.whole.now) k part at,
      length-columns_of c.args.sizes.now c.args.whole.now,
    )) kept at
