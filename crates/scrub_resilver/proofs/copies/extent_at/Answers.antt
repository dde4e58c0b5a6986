use Rattle.std.proofs.Common.{ℕ, ◌≡◌, ◌<◌, Some, List, length, get_or, refl, ap, sym, ◌∙◌, arith}
use Rattle.std.specs.List.{slice_get}
use Rattle.std.proofs.lemmas.Option.{slice_get-get_or, slice_get_within}
use Rattle.raidz_map.specs.Layout.{asize}
use Rattle.block_store.specs.declared.shape.VdevShape.{VdevShape}
use Rattle.block_store.specs.Shapes.{vdev_sectors}
use Rattle.scrub_resilver.proofs.copies.extent_at.Goals as goal

-- a vdev that is one of these has no other end
same_end : (shapes : List VdevShape) (v sectors : ℕ) (a b : VdevShape) → slice_get shapes v ≡ Some a → slice_get shapes v ≡ Some b
    → (asize a.vdev.geometry sectors ≡ asize b.vdev.geometry sectors) × (vdev_sectors a ≡ vdev_sectors b)
same_end shapes v sectors a b is_a is_b =
    let same : a ≡ b = cc in
    (ap (λ (s : VdevShape). asize s.vdev.geometry sectors) same, ap (λ (s : VdevShape). vdev_sectors s) same)

found : (shapes : List VdevShape) (v : ℕ) (shape : VdevShape) → v < length shapes → get_or shapes v shape ≡ shape → slice_get shapes v ≡ Some shape
found shapes v shape within is = slice_get-get_or shapes v shape within ∙ ap (λ s. Some s) is

pub returns-in_default-clause-only : goal.returns-in_default-clause-only
returns-in_default-clause-only c none extent some is =
    absurd (omega (arith, slice_get_within c.args.shapes.now c.args.place.vdev is.shape is.found, c.in_default.ensures.lookup.3))

pub returns-clause-at : goal.returns-clause-at
returns-clause-at c = record {
  shape = c.in-Some.shape.now;
  found = found c.args.shapes.now c.args.place.vdev c.in-Some.shape.now c.in-Some.ensures.lookup.3.0 (sym c.in-Some.ensures.lookup.1);
  vdev = refl;
  start = refl;
  sectors_are = refl;
  within = omega (arith, c.asize-size.ensures, c.sectors-end.ensures.value, c.if-end-size.false, c.if-end-size-2.false);
}

pub returns-clause-fits : goal.returns-clause-fits
returns-clause-fits c starts room =
    c.extent_fits.ensures _ c.in-Some.shape.now.child_sectors starts (room c.args.place.vdev c.in-Some.shape.now
    (found c.args.shapes.now c.args.place.vdev c.in-Some.shape.now c.in-Some.ensures.lookup.3.0 (sym c.in-Some.ensures.lookup.1)))
    (omega (arith, c.asize-size.ensures, c.sectors-end.ensures.value, c.if-end-size.false, c.if-end-size-2.false))
