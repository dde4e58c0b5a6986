use Rattle.std.proofs.Common.{subst, sym}
use Rattle.std.proofs.lemmas.Result.{IfErr-weaker, IfOk-weaker}
use Rattle.model_disk.specs.Joint.{Disks}
use Rattle.space_map_objects.specs.declared.refusal.Refusal.{Refusal}
use Rattle.pool_open.specs.Roots.{AreReadBeside, IsRootNotRead}
use Rattle.pool_open.proofs.Knowing.{beside_of, over_disks}
use Rattle.pool_open.proofs.Reading.{refused_at_once}
use Rattle.pool_open.proofs.roots.read_stale.Goals as goal

pub returns-in-Err-clause-refused : goal.returns-in-Err-clause-refused
returns-in-Err-clause-refused g c =
    let N : Disks → Refusal → Type 0 = λ new refusal.
    IsRootNotRead c.args.disks new c.args.shapes.now c.args.out.now c.args.stale.items c.args.taken.now.group c.args.taken.now.root c.args.left refusal in
    subst (λ (new : Disks). N new c.from.result) (sym c.in-Err.ensures.back)
    (subst (N c.args.disks) (sym c.from.ensures)
    (refused_at_once c.args.disks c.args.shapes.now c.args.out.now c.args.stale.items c.args.taken.now.group c.args.taken.now.root c.args.left c.in-Err.refusal c.in-Err.ensures.refused))

pub returns-in-Ok : goal.returns-in-Ok
returns-in-Ok g c =
    let store = c.mark_stale.new.self in
    let over = over_disks c.args.disks c.args.shapes.now c.args.out.now c.args.stale.items c.in-Ok.store store c.in-Ok.ensures.disks c.in-Ok.ensures.shapes c.in-Ok.ensures.out
    c.in-Ok.ensures.since c.mark_stale.ensures.marked in
    record {
      only = IfOk-weaker c.read_through.result (λ read. AreReadBeside store.out store.disks read.disks) (λ read. AreReadBeside c.args.out.now c.args.disks read.disks)
          (λ read only. beside_of store.out c.args.out.now store.disks c.args.disks read.disks over.out_is over.disks_are only) c.read_through.ensures.only;
      contents = IfOk-weaker c.read_through.result _ _ (λ read are. are c.args.disks c.args.shapes.now c.args.out.now c.args.stale.items over) c.read_through.ensures.contents;
      refused = IfErr-weaker c.read_through.result _ _ (λ failed are. are c.args.disks c.args.shapes.now c.args.out.now c.args.stale.items over) c.read_through.ensures.refused;
    }
