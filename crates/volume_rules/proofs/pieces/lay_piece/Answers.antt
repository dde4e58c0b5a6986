use Rattle.std.proofs.Common.{◌≡◌, ◌/◌, List, get_or, refl, sym, subst, arith}
use Rattle.pool_model.specs.declared.item.Write.{Write}
use Rattle.txg_pipeline.specs.Positions.{AreTouching, HasByteIn}
use Rattle.volume_rules.specs.Overlay.{after_writes, HasRange}
use Rattle.volume_rules.proofs.InPieces.{position_within, laid_none, laid_more, laid_all}
use Rattle.volume_rules.proofs.pieces.lay_piece.Goals as goal

pub bounds-writes-position : goal.bounds-writes-position
bounds-writes-position c =
    position_within (λ write. (write.volume ≡ c.args.name.now) × HasByteIn (c.args.offset / 131072) write) c.args.items.now.writes c.writes-writes.result.now c.places_at-places.result.now c.loop-position.position-index c.writes-writes.ensures
    (λ p. (c.places_at-places.ensures.exactly p).0) c.loop-position-test.true

pub offset_bounds-writes-position : goal.offset_bounds-writes-position
offset_bounds-writes-position c =
    let within = position_within (λ write. (write.volume ≡ c.args.name.now) × HasByteIn (c.args.offset / 131072) write) c.args.items.now.writes c.writes-writes.result.now c.places_at-places.result.now c.loop-position.position-index c.writes-writes.ensures
    (λ p. (c.places_at-places.ensures.exactly p).0) c.loop-position-test.true in
    omega arith

pub loop-position-init : goal.loop-position-init
loop-position-init c = λ volume n named writable size h le reach.
    let are = subst (λ (writes : List Write). AreTouching c.args.name.now (c.args.offset / 131072) writes c.places_at-places.result.now) (sym c.writes-writes.ensures) c.places_at-places.ensures in
    laid_none volume c.writes-writes.result.now c.args.name.now c.args.buffer.now c.places_at-places.result.now c.args.offset n are named writable c.requires.within
    (let fits = c.requires.fits in omega (arith, fits, size)) le reach h

pub loop-position-preserved : goal.loop-position-preserved
loop-position-preserved c = λ volume n named writable size h le reach.
    let are = subst (λ (writes : List Write). AreTouching c.args.name.now (c.args.offset / 131072) writes c.places_at-places.result.now) (sym c.writes-writes.ensures) c.places_at-places.ensures in
    let was = c.loop-position.auto.buffer in
    let now = c.lay_one.auto.buffer in
    let fits = c.requires.fits in
    let within = c.requires.within in
    laid_more volume c.writes-writes.result.now c.args.name.now c.loop-position.buffer c.lay_one.new.buffer c.places_at-places.result.now c.index-writes-position.result c.args.offset c.args.size c.loop-position.position-index n (get_or c.places_at-places.result.now c.loop-position.position-index 0) are named writable
    (omega (arith, within, was, now)) (omega (arith, fits, size, was, now)) size c.loop-position-test.true refl c.index-writes-position.is
    (λ m low r. c.loop-position.invariant volume m named writable size h low r) c.lay_one.ensures le reach

pub returns : goal.returns
returns c = λ volume named writable size h.
    let are = subst (λ (writes : List Write). AreTouching c.args.name.now (c.args.offset / 131072) writes c.places_at-places.result.now) (sym c.writes-writes.ensures) c.places_at-places.ensures in
    subst (λ (writes : List Write). HasRange c.loop-position.buffer (after_writes volume writes).bytes c.args.offset) c.writes-writes.ensures
    (laid_all volume c.writes-writes.result.now c.args.name.now c.loop-position.buffer c.places_at-places.result.now c.args.offset c.loop-position.position-index are c.loop-position-test.false
    (λ n le reach. c.loop-position.invariant volume n named writable size h le reach))
