-- Vdevs, one after the other.
use Rattle.std.proofs.Common.{◌≡◌, ◌≤◌, ◌+◌, ◌*◌, ℕ, zero, suc, Bool, false, List, [], ◌∷◌, length, Some, slice_get, slice_index_or, take, min, ap, refl, subst, arith}
use Rattle.block_store.specs.declared.shape.VdevShape.{VdevShape}
use Rattle.pool_core.specs.Config.{shown}
use Rattle.pool_open.specs.Words.{sectors_in, vdevs_in}

-- none is out that isn't there
pub none_beyond : (xs : List Bool) (i : ℕ) → length xs ≤ i → slice_index_or xs i false ≡ false
none_beyond [] i beyond = refl
none_beyond (x ∷ xs) zero beyond = absurd (omega (arith, beyond))
none_beyond (x ∷ xs) (suc i) beyond = none_beyond xs i (omega (arith, beyond))

pub vdev_at : (shapes : List VdevShape) (i : ℕ) (shape : VdevShape) → slice_get shapes i ≡ Some shape → slice_get (vdevs_in shapes) i ≡ Some (shown shape.vdev)
vdev_at [] i shape at = absurd (cc)
vdev_at (s ∷ shapes) zero shape at = let same : s ≡ shape = cc in ap (λ (x : VdevShape). Some (shown x.vdev)) same
vdev_at (s ∷ shapes) (suc i) shape at = vdev_at shapes i shape at

pub sectors_next : (shapes : List VdevShape) (i : ℕ) (shape : VdevShape) → slice_get shapes i ≡ Some shape
    → sectors_in (take (suc i) shapes) ≡ sectors_in (take i shapes) + shape.child_sectors * shape.vdev.geometry.children
sectors_next [] i shape at = absurd (cc)
sectors_next (s ∷ shapes) zero shape at =
    let same : s ≡ shape = cc in
    subst (λ (x : VdevShape). s.child_sectors * s.vdev.geometry.children + 0 ≡ 0 + x.child_sectors * x.vdev.geometry.children) same (omega arith)
sectors_next (s ∷ shapes) (suc i) shape at = omega (arith, sectors_next shapes i shape at)

pub min_more : (m a b p q c : ℕ) → a ≡ min p m → b ≡ min q m → c ≡ min (a + b) m → c ≡ min (p + q) m
min_more m a b p q c = grind arith
