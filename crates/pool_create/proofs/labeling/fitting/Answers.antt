use Rattle.std.proofs.Common.{◌∙◌, Bool, List, [], subst}
use Rattle.block_store.specs.Opened.{MayBeOpened}
use Rattle.block_store.specs.declared.shape.VdevShape.{VdevShape}
use Rattle.pool_open.specs.Held.{IsStoreOver}
use Rattle.pool_open.proofs.Stages.{laid_of}
use Rattle.pool_create.proofs.labeling.fitting.Goals as goal

pub returns-in-Ok-clause-may : goal.returns-in-Ok-clause-may
returns-in-Ok-clause-may g c =
    subst (λ (o : List Bool). MayBeOpened c.args.disks.starts c.args.pool.now.shapes.items o) c.deref-2.ensures.value
    (subst (λ (s : List VdevShape). MayBeOpened c.args.disks.starts s c.deref-2.result.now) c.deref.ensures.value c.in-Ok.ensures.may)

pub returns-in-Ok-clause-laid : goal.returns-in-Ok-clause-laid
returns-in-Ok-clause-laid g c =
    let over : IsStoreOver c.args.disks c.args.pool.now.shapes.items c.args.pool.now.out.items [] c.in-Ok.store = record {
      disks_are = c.in-Ok.ensures.disks;
      shapes_are = c.in-Ok.ensures.shapes ∙ c.deref.ensures.value;
      out_is = c.in-Ok.ensures.out ∙ c.deref-2.ensures.value;
      since = c.in-Ok.ensures.since;
      stale_is = c.in-Ok.ensures.stale;
    } in
    let may = subst (λ (o : List Bool). MayBeOpened c.args.disks.starts c.args.pool.now.shapes.items o) c.deref-2.ensures.value
    (subst (λ (s : List VdevShape). MayBeOpened c.args.disks.starts s c.deref-2.result.now) c.deref.ensures.value c.in-Ok.ensures.may) in
    laid_of c.labels_of_opened_lie.ensures c.args.disks c.args.pool.now.shapes.items c.args.pool.now.out.items c.in-Ok.store over may
