use Rattle.std.proofs.Common.{ap, ◌∙◌, arith}
use Rattle.std.specs.Prelude.{min, slice_set}
use Rattle.std.proofs.lemmas.List.{length-set}
use Rattle.std.proofs.lemmas.List.Edits.{map_over_more}
use Rattle.disk_set.proofs.absence.lower_all.Goals as goal

pub loop-disk-preserved : goal.loop-disk-preserved
loop-disk-preserved c =
    let before = c.loop-disk.invariant in
    record {
      count = simp length-set before.count;
      items = ap (λ n. slice_set c.loop-disk.since.items c.loop-disk.disk n) c.min.ensures
          ∙ map_over_more (min c.args.group) c.args.since.now.items c.loop-disk.since.items c.loop-disk.disk c.index.result.now
          (omega (arith, c.loop-disk-test.true, before.count)) before.items c.index.ensures;
    }
