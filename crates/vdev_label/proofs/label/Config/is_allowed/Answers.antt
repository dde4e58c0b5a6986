use Rattle.std.proofs.Common.{◌≡◌, ◌∙◌, ◌∷◌, List, map, ap, subst, refl, arith}
use Rattle.std.specs.Prelude.{All}
use Rattle.vdev_label.specs.Config.{guids}
use Rattle.vdev_label.specs.Limits.{IsAllowedVdev}
use Rattle.vdev_label.specs.Plain.{vdev_view}
use Rattle.vdev_label.specs.declared.label.Vdev.{Vdev}
use Rattle.vdev_label.proofs.Allowed.{by_guids}
use Rattle.vdev_label.proofs.label.Config.is_allowed.Goals as goal

pub returns : goal.returns
returns c =
    let vdevs = c.args.self.now.vdevs.items in
    let are : c.deref-3.result.now ≡ c.args.pool_guid ∷ guids (map vdev_view vdevs) =
    c.deref-3.ensures.value ∙ c.in_ok-guids.ensures ∙ ap (λ (vs : List Vdev). c.args.pool_guid ∷ guids (map vdev_view vs)) c.deref-2.ensures.value in
    let each : All IsAllowedVdev (map vdev_view vdevs) = subst (λ (vs : List Vdev). All IsAllowedVdev (map vdev_view vs)) c.deref.ensures.value (c.if-not-are_allowed.ensures.0 refl) in
    let len = c.args.self.now.vdevs.ok.0 in
    by_guids c.args.pool_guid vdevs c.deref-3.result.now c.are_guids.result are (omega (arith, len, c.if-count-eq0.false)) (omega (arith, len, c.if-count-gt-MAX_VDEVS.false)) each c.are_guids.ensures
