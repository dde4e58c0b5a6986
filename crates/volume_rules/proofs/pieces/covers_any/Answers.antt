use Rattle.std.proofs.Common.{ℕ, ◌≡◌, true≢false, List, get_or, refl, sym, subst, arith}
use Rattle.pool_model.specs.declared.item.Write.{Write}
use Rattle.txg_pipeline.specs.Positions.{IsAt}
use Rattle.volume_rules.specs.Covering.{AreCovering, CoversRange}
use Rattle.volume_rules.proofs.InPieces.{is_listed, position_within, none_more, one_covers, none_covers}
use Rattle.volume_rules.proofs.pieces.covers_any.Goals as goal

pub bounds-writes-position : goal.bounds-writes-position
bounds-writes-position c =
    position_within (λ write. write.volume ≡ c.args.name.now) c.args.items.now.writes c.writes-writes.result.now c.places_over-places.result.now c.loop-position.position-index c.writes-writes.ensures c.places_over-places.ensures.named c.loop-position-test.true

pub offset_bounds-writes-position : goal.offset_bounds-writes-position
offset_bounds-writes-position c =
    let within = position_within (λ write. write.volume ≡ c.args.name.now) c.args.items.now.writes c.writes-writes.result.now c.places_over-places.result.now c.loop-position.position-index c.writes-writes.ensures c.places_over-places.ensures.named c.loop-position-test.true in
    omega arith

pub loop-position-preserved : goal.loop-position-preserved
loop-position-preserved c =
    none_more c.args.size c.args.offset c.args.len c.writes-writes.result.now c.places_over-places.result.now c.loop-position.position-index c.index-writes-position.result c.covers.result c.covers.ensures c.if-covers.false
    (position_within (λ write. write.volume ≡ c.args.name.now) c.args.items.now.writes c.writes-writes.result.now c.places_over-places.result.now c.loop-position.position-index c.writes-writes.ensures c.places_over-places.ensures.named c.loop-position-test.true)
    c.index-writes-position.is c.loop-position.invariant

pub returns-then-covers : goal.returns-then-covers
returns-then-covers c =
    let p : ℕ = get_or c.places_over-places.result.now c.loop-position.position-index 0 in
    let at = c.places_over-places.ensures.named p (is_listed c.places_over-places.result.now c.loop-position.position-index p c.loop-position-test.true refl) in
    let found : AreCovering c.args.name.now c.args.size c.args.offset c.args.len c.writes-writes.result.now =
    one_covers c.args.name.now c.args.size c.args.offset c.args.len c.writes-writes.result.now p c.index-writes-position.result c.covers.result c.covers.ensures c.if-covers.true
    (subst (λ (writes : List Write). IsAt (λ write. write.volume ≡ c.args.name.now) writes p) (sym c.writes-writes.ensures) at) c.index-writes-position.is in
    (λ t. subst (AreCovering c.args.name.now c.args.size c.args.offset c.args.len) c.writes-writes.ensures found, λ any. refl)

pub returns : goal.returns
returns c = (
  λ t. absurd (true≢false (sym t)),
  λ any. absurd (none_covers c.args.name.now c.args.size c.args.offset c.args.len c.writes-writes.result.now c.places_over-places.result.now c.loop-position.position-index c.loop-position-test.false
      (λ position at. c.places_over-places.ensures.all position c.args.size (subst (λ (writes : List Write). IsAt (λ write. (write.volume ≡ c.args.name.now) × CoversRange c.args.size c.args.offset c.args.len write) writes position) c.writes-writes.ensures at))
      c.loop-position.invariant
      (subst (AreCovering c.args.name.now c.args.size c.args.offset c.args.len) (sym c.writes-writes.ensures) any)),
)
