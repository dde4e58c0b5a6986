use Rattle.std.proofs.Common.{◌∙◌, Bool, Option, List, [], subst}
use Rattle.block_store.specs.Places.{shapes_of}
use Rattle.disk_set.specs.declared.stale.GroupSpan.{GroupSpan}
use Rattle.block_store.specs.Store.{is_out, is_stale}
use Rattle.block_store.specs.declared.shape.VdevShape.{VdevShape}
use Rattle.pool_open.specs.Represents.{Represents}
use Rattle.pool_open.specs.CoreStateOf.{state_of}
use Rattle.pool_model.specs.Pools.{no_volumes}
use Rattle.pool_model.specs.View.{opened_as}
use Rattle.pool_open.specs.Held.{IsStoreOver}
use Rattle.pool_open.specs.Words.{vdevs_in}
use Rattle.pool_open.proofs.Stages.{lies_of}
use Rattle.pool_create.proofs.first_group.core_in_front.Goals as goal

pub empty-requires-clause-labels : goal.empty-requires-clause-labels
empty-requires-clause-labels g c =
    let over : IsStoreOver c.args.disks c.args.pool.now.shapes.items c.args.pool.now.out.items [] c.in-Ok-opened.store = record {
      disks_are = c.in-Ok-opened.ensures.disks;
      shapes_are = c.in-Ok-opened.ensures.shapes ∙ c.deref.ensures.value;
      out_is = c.in-Ok-opened.ensures.out ∙ c.deref-2.ensures.value;
      since = c.in-Ok-opened.ensures.since;
      stale_is = c.in-Ok-opened.ensures.stale;
    } in
    lies_of c.labels_of_opened_lie.ensures c.args.disks c.args.pool.now.shapes.items c.args.pool.now.out.items [] c.in-Ok-opened.store over c.requires.may

pub returns-in-Ok-empty-clause-in_front : goal.returns-in-Ok-empty-clause-in_front
returns-in-Ok-empty-clause-in_front g c =
    let core = state_of c.in-Ok-empty.core in
    let S : List VdevShape → List Bool → List (Option GroupSpan) → Type 0 = λ s o m. Represents core (opened_as (vdevs_in s) (is_out o) (is_stale m) 2 no_volumes) in
    record {
      disks_are = c.in-Ok-empty.ensures.disks ∙ c.in-Ok-opened.ensures.disks;
      stamp_is = c.in-Ok-empty.ensures.stamp;
      represents = subst (λ (s : List VdevShape). S s c.args.pool.now.out.items []) (c.in-Ok-opened.ensures.shapes ∙ c.deref.ensures.value)
          (subst (λ (o : List Bool). S (shapes_of c.in-Ok-opened.store.spaces) o []) (c.in-Ok-opened.ensures.out ∙ c.deref-2.ensures.value)
          (subst (λ (m : List (Option GroupSpan)). S (shapes_of c.in-Ok-opened.store.spaces) c.in-Ok-opened.store.out m) c.in-Ok-opened.ensures.stale c.in-Ok-empty.ensures.represents));
      untouched = c.in-Ok-empty.ensures.spans;
    }
