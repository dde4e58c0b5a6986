use Rattle.std.proofs.Common.{[]}
use Rattle.pool_open.specs.Held.{IsStoreOver}
use Rattle.pool_open.proofs.Stages.{laid_of}
use Rattle.pool_open.proofs.opening.fitting.Goals as goal

pub returns-in-Ok-clause-laid : goal.returns-in-Ok-clause-laid
returns-in-Ok-clause-laid g c =
    let over : IsStoreOver c.args.disks c.args.shapes.now c.args.out.now [] c.in-Ok.store = record {
      disks_are = c.in-Ok.ensures.disks;
      shapes_are = c.in-Ok.ensures.shapes;
      out_is = c.in-Ok.ensures.out;
      since = c.in-Ok.ensures.since;
      stale_is = c.in-Ok.ensures.stale;
    } in
    laid_of c.labels_of_opened_lie.ensures c.args.disks c.args.shapes.now c.args.out.now c.in-Ok.store over c.in-Ok.ensures.may
