use Rattle.std.proofs.Common.{◌≡◌, ◌<◌, length, sym, ap, subst, ◌∙◌}
use Rattle.std.specs.Prelude.{◌↔◌, IsTrue}
use Rattle.space_map.specs.declared.entry.Run.{Run}
use Rattle.metaslab.specs.Spaces.{IsInUseIn}
use Rattle.block_store.specs.declared.shape.VdevShape.{VdevShape}
use Rattle.block_store.specs.Places.{run_at, EachSector}
use Rattle.block_store.specs.Shapes.{metaslab_of, IsPlace}
use Rattle.block_store.specs.Spaces.{VdevSpace}
use Rattle.block_store.specs.Uses.{IsInUse}
use Rattle.block_store.proofs.Slots.{place_some, are_in_use}
use Rattle.block_store.proofs.space.VdevMetaslabs.is_in_use.Goals as goal

pub is_in_use-requires-clause-is_there : goal.is_in_use-requires-clause-is_there
is_in_use-requires-clause-is_there c =
    let shape : VdevShape = c.self.inside.shape in
    let is_place : IsPlace shape c.args.sectors c.args.place = subst (λ (s : VdevSpace). IsPlace s.shape c.args.sectors c.args.place) (sym c.self.view_is) c.requires.is_place in
    subst (λ m. m < length c.self.inside.metaslabs.planned) (sym c.metaslab_of.ensures)
    (subst (λ n. metaslab_of shape c.args.place < n) (sym c.self.invariant.planned.0) is_place.metaslab)

pub is_in_use-requires-clause-some : goal.is_in_use-requires-clause-some
is_in_use-requires-clause-some c =
    subst (λ (r : Run). 0 < r.len) (sym c.run_at-run.ensures) (place_some c.args.self.now.shape c.args.sectors c.args.place c.requires.some c.requires.is_place)

pub returns : goal.returns
returns c =
    let shape : VdevShape = c.self.inside.shape in
    let is_place : IsPlace shape c.args.sectors c.args.place = subst (λ (s : VdevSpace). IsPlace s.shape c.args.sectors c.args.place) (sym c.self.view_is) c.requires.is_place in
    let run_is : c.run_at-run.result ≡ run_at shape c.args.place = c.run_at-run.ensures ∙ ap (λ (s : VdevSpace). run_at s.shape c.args.place) (sym c.self.view_is) in
    let found : IsTrue c.is_in_use.result ↔ IsInUseIn c.self.inside.metaslabs.planned (metaslab_of shape c.args.place) (run_at shape c.args.place) =
    subst (λ m. IsTrue c.is_in_use.result ↔ IsInUseIn c.self.inside.metaslabs.planned m (run_at shape c.args.place)) c.metaslab_of.ensures
    (subst (λ r. IsTrue c.is_in_use.result ↔ IsInUseIn c.self.inside.metaslabs.planned c.metaslab_of.result r) run_is c.is_in_use.ensures) in
    subst (λ (s : VdevSpace). IsTrue c.is_in_use.result ↔ EachSector IsInUse s.planned s.shape c.args.place) c.self.view_is
    (are_in_use shape c.args.sectors c.self.inside.metaslabs.planned c.args.place c.is_in_use.result is_place c.self.invariant.planned found)
