-- An item of a list that is changed in its place, and what is said of it.
use Rattle.std.proofs.Common.{ℕ, zero, suc, ◌≡◌, ◌<◌, ◌≤◌, ◌^◌, Bool, true, false, Result, Ok, Err, Some, List, [], ◌∷◌, refl, sym, ap, subst, ◌∙◌, arith}
use Rattle.std.specs.Prelude.{slice_set, replicate, IfOk}
use Rattle.std.specs.Bool.{OnFalse}
use Rattle.std.specs.List.{slice_get}
use Rattle.raidz_io.proofs.Written.{same_some}
use Rattle.block_store.specs.Spaces.{VdevSpace}
use Rattle.block_store.specs.Places.{HasRoomIn, HasRoomAt}
use Rattle.block_store.specs.Shapes.{metaslabs}
use Rattle.block_store.specs.Store.{is_out}

-- an item that is set to what it was
pub set_same : {X : Type 0} (xs : List X) (i : ℕ) (x y : X) → slice_get xs i ≡ Some x → y ≡ x → slice_set xs i y ≡ xs
set_same [] i x y found same = refl
set_same (z ∷ xs) zero x y found same = ap (λ w. w ∷ xs) (same ∙ sym (same_some z x found))
set_same (z ∷ xs) (suc i) x y found same = ap (λ ys. z ∷ ys) (set_same xs i x y found same)

-- the number of one of few vdevs
pub few_vdevs : (v n : ℕ) → v < n → n ≤ 8 → v < 2 ^ 32
few_vdevs v n within few = omega arith

-- the metaslab of this vdev that has room
pub room_here : (spaces : List VdevSpace) (sectors v metaslab : ℕ) (space : VdevSpace) → slice_get spaces v ≡ Some space → HasRoomAt spaces sectors v metaslab
    → (metaslab < metaslabs space.shape) × HasRoomIn space metaslab sectors
room_here spaces sectors v metaslab space found has =
    subst (λ (s : VdevSpace). (metaslab < metaslabs s.shape) × HasRoomIn s metaslab sectors) (same_some has.space space (sym has.found ∙ found)) (has.is_there, has.room)

-- what is so where a test fails
pub at_false : {E P Q : Type 0} (result : Result Bool E) → (P → Q) → IfOk result (λ b. OnFalse b P) → IfOk result (λ b. OnFalse b Q)
at_false (Ok true) f holds = tt
at_false (Ok false) f holds = f holds
at_false (Err e) f holds = tt

-- none of so many is out
pub none_out : (n disk : ℕ) → is_out (replicate n false) disk ≡ false
none_out zero disk = refl
none_out (suc n) zero = refl
none_out (suc n) (suc disk) = none_out n disk

pub never : (b : Bool) → b ≡ true → b ≡ false → ⊥
never b is not = absurd (cc)

pub below_count : (m n count at : ℕ) → m < n → count ≡ n → count ≤ at → m < at
below_count m n count at less is reached = omega arith
