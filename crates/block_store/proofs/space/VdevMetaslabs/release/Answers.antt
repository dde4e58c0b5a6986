use Rattle.std.proofs.Common.{◌≡◌, ◌<◌, sym, ap, subst, ◌∙◌}
use Rattle.std.specs.Prelude.{OnOk}
use Rattle.std.proofs.lemmas.Result.{on_err_weaker}
use Rattle.space_map.specs.declared.entry.Run.{Run}
use Rattle.metaslab.specs.State.{InUse, Released}
use Rattle.metaslab.specs.Spaces.{GroupSpaces, ChangesIn, IsInUseIn}
use Rattle.block_store.specs.declared.shape.VdevShape.{VdevShape}
use Rattle.block_store.specs.Places.{run_at, EachSector}
use Rattle.block_store.specs.Shapes.{metaslab_of, IsPlace}
use Rattle.block_store.specs.Spaces.{VdevSpace, AreMetaslabsOf}
use Rattle.block_store.specs.Uses.{IsInUse}
use Rattle.block_store.proofs.Slots.{still_released, place_some, of_place_in_use}
use Rattle.block_store.proofs.space.VdevMetaslabs.release.Goals as goal

-- the vdev's space, of what its metaslabs show
abbrev shown : VdevShape → GroupSpaces → VdevSpace
shown shape group = record { shape = shape; kept = group.kept; planned = group.planned; pins = group.pins }

pub release-requires-clause-some : goal.release-requires-clause-some
release-requires-clause-some c =
    subst (λ (r : Run). 0 < r.len) (sym c.run_at-run.ensures) (place_some c.args.self.now.shape c.args.sectors c.args.place c.requires.some c.requires.is_place)

pub release-requires-clause-in_use : goal.release-requires-clause-in_use
release-requires-clause-in_use c =
    let shape : VdevShape = c.self.inside.shape in
    let is_place : IsPlace shape c.args.sectors c.args.place = subst (λ (s : VdevSpace). IsPlace s.shape c.args.sectors c.args.place) (sym c.self.view_is) c.requires.is_place in
    let in_use : EachSector IsInUse c.self.inside.metaslabs.planned shape c.args.place =
    subst (λ (s : VdevSpace). EachSector IsInUse s.planned s.shape c.args.place) (sym c.self.view_is) c.requires.in_use in
    let run_is : c.run_at-run.result ≡ run_at shape c.args.place = c.run_at-run.ensures ∙ ap (λ (s : VdevSpace). run_at s.shape c.args.place) (sym c.self.view_is) in
    subst (λ m. IsInUseIn c.self.inside.metaslabs.planned m c.run_at-run.result) (sym c.metaslab_of-metaslab.ensures)
    (subst (λ r. IsInUseIn c.self.inside.metaslabs.planned (metaslab_of shape c.args.place) r) (sym run_is)
    (of_place_in_use shape c.args.sectors c.self.inside.metaslabs.planned c.args.place is_place c.self.invariant.planned in_use))

pub invariant_of-self : goal.invariant_of-self
invariant_of-self c = record {
  kept = subst (λ them. AreMetaslabsOf c.self.inside.shape them) (sym (ap (λ (g : GroupSpaces). g.kept) c.release.ensures.rest)) c.self.invariant.kept;
  planned = still_released c.self.inside.shape c.self.inside.metaslabs c.release.new.self _ _ _ _ c.release.result c.release.ensures.released c.release.ensures.err
      c.self.invariant.planned;
}

pub returns-clause-released : goal.returns-clause-released
returns-clause-released c =
    let shape : VdevShape = c.self.inside.shape in
    let new : GroupSpaces = c.release.new.self in
    let run_is : c.run_at-run.result ≡ run_at shape c.args.place = c.run_at-run.ensures ∙ ap (λ (s : VdevSpace). run_at s.shape c.args.place) (sym c.self.view_is) in
    subst (λ (s : VdevSpace). OnOk c.release.result
    (ChangesIn s.planned new.planned (metaslab_of s.shape c.args.place) (run_at s.shape c.args.place) InUse (Released c.args.group))) c.self.view_is
    (subst (λ m. OnOk c.release.result (ChangesIn c.self.inside.metaslabs.planned new.planned m (run_at shape c.args.place) InUse (Released c.args.group)))
    c.metaslab_of-metaslab.ensures
    (subst (λ r. OnOk c.release.result (ChangesIn c.self.inside.metaslabs.planned new.planned c.metaslab_of-metaslab.result r InUse (Released c.args.group))) run_is
    c.release.ensures.released))

pub returns-clause-rest : goal.returns-clause-rest
returns-clause-rest c =
    ap (λ (g : GroupSpaces). shown c.self.inside.shape g) c.release.ensures.rest
    ∙ ap (λ (s : VdevSpace). record s { planned = c.release.new.self.planned }) c.self.view_is

pub returns-clause-err : goal.returns-clause-err
returns-clause-err c =
    on_err_weaker c.release.result (λ same. ap (λ (g : GroupSpaces). shown c.self.inside.shape g) same ∙ c.self.view_is) c.release.ensures.err
