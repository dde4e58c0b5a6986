-- The columns of an extent.
use Rattle.std.proofs.Common.{ℕ, suc, ◌≡◌, ◌<◌, ◌+◌, ◌-◌, List, [], ◌∷◌, length, Some, refl, sym, subst, ◌∙◌, arith}
use Rattle.std.specs.List.{slice_get}
use Rattle.raidz_map.specs.declared.column.Column.{Column}
use Rattle.raidz_map.specs.Layout.{Place, Covers, IsColumn}
use Rattle.raidz_map.specs.Extent.{ChildHoldsOneColumn}
use Rattle.raidz_io.specs.declared.vdev.Extent.{Extent}
use Rattle.raidz_io.specs.Places.{disk_of}
use Rattle.raidz_io.specs.Stands.{IsLayout}
use Rattle.raidz_io.proofs.Placed.{IsPlaced, placed}

pub same_list : {X : Type 0} (xs ys : List X) → length xs ≡ length ys
    → ((i : ℕ) (x y : X) → slice_get xs i ≡ Some x → slice_get ys i ≡ Some y → x ≡ y) → xs ≡ ys
same_list [] [] long same = refl
same_list [] (y ∷ ys) long same = absurd (omega arith)
same_list (x ∷ xs) [] long same = absurd (omega arith)
same_list (x ∷ xs) (y ∷ ys) long same =
    cc (same 0 x y refl refl, same_list xs ys (omega arith) (λ i a b at at'. same (suc i) a b at at'))

same_fields : (a b : Column) → a.child ≡ b.child → a.sector ≡ b.sector → a.sectors ≡ b.sectors → a ≡ b
same_fields a b child sector sectors =
    let P : ℕ → Type 0 = λ n. a ≡ record { child = n; sector = a.sector; sectors = a.sectors } in
    let Q : ℕ → Type 0 = λ n. a ≡ record { child = b.child; sector = n; sectors = a.sectors } in
    let R : ℕ → Type 0 = λ n. a ≡ record { child = b.child; sector = b.sector; sectors = n } in
    subst R sectors (subst Q sector (subst P child refl))

first_of_column : Column → Place
first_of_column c = record { child = c.child; sector = c.sector }

last_of_column : Column → Place
last_of_column c = record { child = c.child; sector = c.sector + c.sectors - 1 }

-- the set of its places makes a column
pub same_column : (extent : Extent) (i : ℕ) (a b : Column) → IsPlaced extent a → IsPlaced extent b
    → IsColumn extent.vdev.geometry extent.start extent.sectors i a → IsColumn extent.vdev.geometry extent.start extent.sectors i b → a ≡ b
unfolding first_of_column last_of_column
same_column extent i a b in_a in_b is_a is_b =
    let there : (place : Place) → Covers a place → Covers b place = λ place covers. (is_b place).1 ((is_a place).0 covers) in
    let back : (place : Place) → Covers b place → Covers a place = λ place covers. (is_a place).1 ((is_b place).0 covers) in
    let some_a : 0 < a.sectors = in_a.some in
    let some_b : 0 < b.sectors = in_b.some in
    let first : Covers b (first_of_column a) = there (first_of_column a) (record { same_child = refl; from_first = omega arith; before_end = omega arith }) in
    let first' : Covers a (first_of_column b) = back (first_of_column b) (record { same_child = refl; from_first = omega arith; before_end = omega arith }) in
    let last : Covers b (last_of_column a) = there (last_of_column a) (record { same_child = refl; from_first = omega arith; before_end = omega arith }) in
    let last' : Covers a (last_of_column b) = back (last_of_column b) (record { same_child = refl; from_first = omega arith; before_end = omega arith }) in
    let sector : a.sector ≡ b.sector = omega (arith, first.from_first, first'.from_first) in
    same_fields a b first.same_child sector (omega (arith, sector, last.before_end, last'.before_end))

pub layouts_agree : (extent : Extent) (a b : List Column) → IsLayout extent a → IsLayout extent b → a ≡ b
layouts_agree extent a b is_a is_b =
    same_list a b (is_a.count ∙ sym is_b.count) (λ i x y at at'.
    same_column extent i x y (placed extent a i x is_a at) (placed extent b i y is_b at') (is_a.places i x at) (is_b.places i y at'))

-- columns on one disk are one column
pub apart_at : ChildHoldsOneColumn → (extent : Extent) (i k : ℕ) (a b : Column) → IsPlaced extent a → IsPlaced extent b
    → IsColumn extent.vdev.geometry extent.start extent.sectors i a → IsColumn extent.vdev.geometry extent.start extent.sectors k b
    → disk_of extent.vdev a ≡ disk_of extent.vdev b → i ≡ k
unfolding first_of_column
apart_at law extent i k a b in_a in_b is_a is_b same =
    let some_a : 0 < a.sectors = in_a.some in
    let some_b : 0 < b.sectors = in_b.some in
    law extent.vdev.geometry extent.start extent.sectors i k a b is_a is_b
    (first_of_column a) (first_of_column b)
    (record { same_child = refl; from_first = omega arith; before_end = omega arith })
    (record { same_child = refl; from_first = omega arith; before_end = omega arith })
    (omega arith)

pub apart : ChildHoldsOneColumn → (extent : Extent) (layout : List Column) (i k : ℕ) (a b : Column) → IsLayout extent layout
    → slice_get layout i ≡ Some a → slice_get layout k ≡ Some b → disk_of extent.vdev a ≡ disk_of extent.vdev b → i ≡ k
apart law extent layout i k a b is_layout at at' =
    apart_at law extent i k a b (placed extent layout i a is_layout at) (placed extent layout k b is_layout at') (is_layout.places i a at) (is_layout.places k b at')
