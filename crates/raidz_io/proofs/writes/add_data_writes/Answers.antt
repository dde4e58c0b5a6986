use Rattle.std.proofs.Common.{ℕ, ◌≡◌, ◌+◌, ◌-◌, List, ◌∷◌, [], length, take, drop, sum, sym, ap, ◌∙◌, arith, length-append}
use Rattle.std.proofs.lemmas.List.{take-append-le}
use Rattle.std.proofs.lemmas.Option.{slice_get-get_or}
use Rattle.raidz_map.specs.declared.column.Column.{Column}
use Rattle.raidz_io.specs.Places.{sizes_of}
use Rattle.raidz_io.proofs.DataWrites.{column_within, size_more, data_written}
use Rattle.raidz_io.proofs.writes.add_data_writes.Goals as goal

none : Column
none = record { child = 0; sector = 0; sectors = 0 }

pub overflow_add-to : goal.overflow_add-to
unfolding none
overflow_add-to c = record {
  fits = omega (
    arith,
    column_within c.args.layout.now c.loop-column.column-index none c.loop-column-test.true,
    c.requires.fits,
    c.loop-column.invariant.from,
    c.size_of.ensures,
    c.args.block.now.value.ok.0,
    c.args.block.now.value.ok.1,
    c.args.block.now.value.small,
  );
}

pub part-requires-clause-named : goal.part-requires-clause-named
part-requires-clause-named c = c.requires.named c.loop-column.column-index _ (slice_get-get_or c.args.layout.now c.loop-column.column-index _ c.loop-column-test.true)

pub part-requires-clause-within : goal.part-requires-clause-within
unfolding none
part-requires-clause-within c =
    omega (
      arith,
      column_within c.args.layout.now c.loop-column.column-index none c.loop-column-test.true,
      c.requires.fits,
      c.loop-column.invariant.from,
      c.size_of.ensures,
    )

pub loop-column-preserved : goal.loop-column-preserved
loop-column-preserved c =
    let before = c.loop-column.invariant in
    let n : ℕ = length c.args.writes.now.items in
    let block : List ℕ = c.args.block.now.value.items in
    let from : ℕ = c.loop-column.from in
    let size : ℕ = c.size_of.result in
    let back : from + size - from ≡ size = omega arith in
    rw c.in_ok-push.ensures.items (record {
      count = omega (arith, before.count, length-append c.loop-column.writes.items (c.in_ok-part.field-0 ∷ []));
      before = take-append-le n c.loop-column.writes.items (c.in_ok-part.field-0 ∷ []) (omega (arith, before.count)) ∙ before.before;
      from = ap (λ m. m + size) before.from ∙ ap (λ m. sum (sizes_of (take c.loop-column.column-index c.args.layout.now)) + m) c.size_of.ensures
          ∙ sym (size_more c.args.layout.now c.loop-column.column-index _ c.loop-column-test.true);
      made =
          data_written c.args.vdev c.args.layout.now block c.loop-column.writes.items c.in_ok-part.field-0 n c.loop-column.column-index _ (drop from block) _
          c.loop-column-test.true before.count (ap (λ m. drop m block) before.from)
          (ap (λ m. take m (drop from block)) (back ∙ c.size_of.ensures))
          c.in_ok-part.ensures before.made;
    })
