-- The vdevs of a configuration, one after the other.
use Rattle.std.proofs.Common.{◌≡◌, ℕ, suc, ◌+◌, ◌<◌, List, [], ◌∷◌, ◌++◌, length, map, All, drop, get_or, sym, ap, ◌∙◌, subst, arith, add-one, drop-cons, append_assoc}
use Rattle.std.proofs.lemmas.List.{append-nil, length-map}
use Rattle.std.proofs.lemmas.List.Elements.{All-get_or}
use Rattle.std.proofs.Math.ListN.{get_or-map}
use Rattle.std.proofs.Math.Seq.{drop-length}
use Rattle.block_store.specs.declared.shape.VdevShape.{VdevShape}
use Rattle.vdev_label.specs.declared.label.Vdev.{Vdev}
use Rattle.vdev_label.specs.Limits.{IsAllowedVdev}
use Rattle.vdev_label.specs.Plain.{vdev_view}
use Rattle.pool_open.specs.Shapes.{AreShapesOf, IsShapeOf}

-- each vdev is allowed where all are
pub allowed_at : (vdevs : List Vdev) (i : ℕ) (vdev : Vdev) → i < length vdevs → vdev ≡ get_or vdevs i vdev → All IsAllowedVdev (map vdev_view vdevs) → IsAllowedVdev (vdev_view vdev)
allowed_at vdevs i vdev there is all =
    subst IsAllowedVdev (get_or-map vdev_view vdevs i vdev ∙ ap vdev_view (sym is))
    (All-get_or IsAllowedVdev (map vdev_view vdevs) i (vdev_view vdev) (omega (arith, there, length-map vdevs vdev_view)) all)

-- the first so many vdevs have these shapes, up to that disk: with those of the others behind them they are all
abbrev pub AreShapesBefore : List Vdev → ℕ → ℕ → List VdevShape → Type 0
AreShapesBefore vdevs i first shapes =
    (rest : List VdevShape) → AreShapesOf (map vdev_view (drop i vdevs)) first rest → AreShapesOf (map vdev_view vdevs) 0 (shapes ++ rest)

pub before_none : (vdevs : List Vdev) → AreShapesBefore vdevs 0 0 []
before_none vdevs rest are = are

pub before_more : (vdevs : List Vdev) (i first : ℕ) (shapes : List VdevShape) (vdev : Vdev) (shape : VdevShape) → i < length vdevs → vdev ≡ get_or vdevs i vdev
    → IsShapeOf (vdev_view vdev) first shape → AreShapesBefore vdevs i first shapes
    → AreShapesBefore vdevs (i + 1) (first + length vdev.children.items) (shapes ++ shape ∷ [])
before_more vdevs i first shapes vdev shape there is one before rest are =
    let tail : drop i vdevs ≡ vdev ∷ drop (suc i) vdevs = drop-cons vdevs i vdev there ∙ ap (λ (v : Vdev). v ∷ drop (suc i) vdevs) (sym is) in
    let P : List Vdev → Type 0 = λ them. AreShapesOf (map vdev_view them) first (shape ∷ rest) in
    let behind : AreShapesOf (map vdev_view (drop (suc i) vdevs)) (first + length vdev.children.items) rest =
    subst (λ (n : ℕ). AreShapesOf (map vdev_view (drop n vdevs)) (first + length vdev.children.items) rest) (add-one i) are in
    subst (AreShapesOf (map vdev_view vdevs) 0) (sym (append_assoc shapes (shape ∷ []) rest))
    (before (shape ∷ rest) (subst P (sym tail) (one, behind)))

pub before_all : (vdevs : List Vdev) (i first : ℕ) (shapes : List VdevShape) → i ≡ length vdevs → AreShapesBefore vdevs i first shapes → AreShapesOf (map vdev_view vdevs) 0 shapes
before_all vdevs i first shapes end before =
    let none : drop i vdevs ≡ [] = ap (λ (n : ℕ). drop n vdevs) end ∙ drop-length vdevs in
    let P : List Vdev → Type 0 = λ them. AreShapesOf (map vdev_view them) first [] in
    subst (AreShapesOf (map vdev_view vdevs) 0) (append-nil shapes) (before [] (subst P (sym none) tt))
