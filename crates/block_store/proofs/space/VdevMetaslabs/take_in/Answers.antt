use Rattle.std.proofs.Common.{IfOk, subst}
use Rattle.std.specs.Prelude.{◌↔◌, IsTrue}
use Rattle.metaslab.specs.Spaces.{GroupSpaces, IsFreeIn}
use Rattle.block_store.specs.declared.shape.VdevShape.{VdevShape}
use Rattle.block_store.specs.Places.{run_at, EachSector, IsFree}
use Rattle.block_store.specs.Shapes.{metaslab_of, IsPlace}
use Rattle.block_store.specs.Spaces.{VdevSpace}
use Rattle.block_store.proofs.Slots.{still_taken, free_places}
use Rattle.block_store.proofs.space.VdevMetaslabs.take_in.Goals as goal

pub invariant_of-self : goal.invariant_of-self
invariant_of-self c =
    let is = c.take_in.ensures in
    record {
      kept = still_taken c.self.inside.shape (λ (g : GroupSpaces). g.kept) c.self.inside.metaslabs c.take_in.new.self _ _ c.take_in.result is.kept is.left is.err c.self.invariant.kept;
      planned = still_taken c.self.inside.shape (λ (g : GroupSpaces). g.planned) c.self.inside.metaslabs c.take_in.new.self _ _ c.take_in.result is.planned is.left is.err c.self.invariant.planned;
    }

pub returns-clause-free : goal.returns-clause-free
returns-clause-free c =
    let shape : VdevShape = c.self.inside.shape in
    let group : GroupSpaces = c.self.inside.metaslabs in
    let is_place : IsPlace shape c.args.sectors c.args.place = rw (← c.self.view_is) at c.requires.is_place in
    let found : IfOk c.take_in.result (λ is_free. IsTrue is_free
    ↔ (IsFreeIn group.kept (metaslab_of shape c.args.place) (run_at shape c.args.place) × IsFreeIn group.planned (metaslab_of shape c.args.place) (run_at shape c.args.place))) =
    rw (c.metaslab_of-metaslab.ensures, c.run_at-run.ensures, ← c.self.view_is) at c.take_in.ensures.free in
    subst (λ (s : VdevSpace). IfOk c.take_in.result (λ is_free. IsTrue is_free ↔ (EachSector IsFree s.kept s.shape c.args.place × EachSector IsFree s.planned s.shape c.args.place)))
    c.self.view_is
    (free_places shape c.args.sectors group.kept group.planned c.args.place c.take_in.result is_place c.self.invariant.kept c.self.invariant.planned found)
