use Rattle.std.proofs.Common.{refl, arith}
use Rattle.std.proofs.lemmas.Bool.Decides.{nat_tests}
use Rattle.std.proofs.lemmas.Option.{slice_get_within}
use Rattle.pool_maps.proofs.Underway.{before_at, place_at}
use Rattle.pool_maps.proofs.judging.is_place.Goals as goal

pub returns-then-vdev-vdev_count : goal.returns-then-vdev-vdev_count
returns-then-vdev-vdev_count g c = (
  λ yes. let first = c.first_meta.ensures in
      place_at c.args.store.now.spaces c.args.place.vdev c.args.place.index c.shape.result c.shape.ensures.shape (grind (arith, nat_tests, yes, first)),
  λ is. let first = c.first_meta.ensures in
      let less = before_at c.args.store.now.spaces c.args.place.vdev c.shape.result c.args.place c.shape.ensures.shape is refl in
      grind (arith, nat_tests, less, first),
)

pub returns-else-vdev-vdev_count : goal.returns-else-vdev-vdev_count
returns-else-vdev-vdev_count g c = (
  λ yes. absurd (let no = c.if-vdev-vdev_count.false in grind (arith, nat_tests, yes, no)),
  λ is. absurd (let low = slice_get_within c.args.store.now.spaces c.args.place.vdev is.space is.found in let count = c.vdev_count.ensures.count in let no = c.if-vdev-vdev_count.false in
      omega (arith, low, count, no)),
)
