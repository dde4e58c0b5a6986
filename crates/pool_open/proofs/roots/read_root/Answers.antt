use Rattle.std.proofs.Common.{[], subst, sym}
use Rattle.std.proofs.lemmas.Result.{IfErr-weaker, IfOk-weaker}
use Rattle.model_disk.specs.Joint.{Disks}
use Rattle.space_map_objects.specs.declared.refusal.Refusal.{Refusal}
use Rattle.pool_open.specs.Held.{IsStoreOver}
use Rattle.pool_open.specs.Roots.{AreReadBeside, IsRootNotRead}
use Rattle.pool_open.proofs.Knowing.{beside_of}
use Rattle.pool_open.proofs.Reading.{refused_at_once}
use Rattle.pool_open.proofs.roots.read_root.Goals as goal

pub returns-in-Err-clause-refused : goal.returns-in-Err-clause-refused
returns-in-Err-clause-refused g c =
    let N : Disks → Refusal → Type 0 = λ new refusal. IsRootNotRead c.args.disks new c.args.shapes.now c.args.out.now [] c.args.group c.args.root.now c.args.left refusal in
    subst (λ (new : Disks). N new c.from.result) (sym c.in-Err.ensures.back)
    (subst (N c.args.disks) (sym c.from.ensures)
    (refused_at_once c.args.disks c.args.shapes.now c.args.out.now [] c.args.group c.args.root.now c.args.left c.in-Err.refusal c.in-Err.ensures.refused))

pub returns-in-Ok : goal.returns-in-Ok
returns-in-Ok g c =
    let over : IsStoreOver c.args.disks c.args.shapes.now c.args.out.now [] c.in-Ok.store = record {
      disks_are = c.in-Ok.ensures.disks;
      shapes_are = c.in-Ok.ensures.shapes;
      out_is = c.in-Ok.ensures.out;
      since = c.in-Ok.ensures.since;
      stale_is = c.in-Ok.ensures.stale;
    } in
    record {
      only = IfOk-weaker c.read_through.result (λ read. AreReadBeside c.in-Ok.store.out c.in-Ok.store.disks read.disks) (λ read. AreReadBeside c.args.out.now c.args.disks read.disks)
          (λ read only. beside_of c.in-Ok.store.out c.args.out.now c.in-Ok.store.disks c.args.disks read.disks over.out_is over.disks_are only) c.read_through.ensures.only;
      contents = IfOk-weaker c.read_through.result _ _ (λ read are. are c.args.disks c.args.shapes.now c.args.out.now [] over) c.read_through.ensures.contents;
      refused = IfErr-weaker c.read_through.result _ _ (λ failed are. are c.args.disks c.args.shapes.now c.args.out.now [] over) c.read_through.ensures.refused;
    }
