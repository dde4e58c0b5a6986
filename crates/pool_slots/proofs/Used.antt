-- Disks that are out, and disks in use.
use Rattle.std.proofs.Common.{◌≡◌, ◌<◌, ◌∙◌, ℕ, zero, suc, Bool, true, false, List, [], ◌∷◌, length, slice_get, slice_index_or, Some, refl, sym, ap, arith}
use Rattle.std.proofs.lemmas.Option.{slice_get_within}
use Rattle.pool_slots.specs.Slots.{AreThere, InUse}

at_index : (xs : List Bool) (i : ℕ) → i < length xs → slice_get xs i ≡ Some (slice_index_or xs i false)
at_index [] i below = absurd (omega arith)
at_index (x ∷ xs) zero below = refl
at_index (x ∷ xs) (suc i) below = at_index xs i (omega arith)

pub used_here : (out : List Bool) (which : ℕ) → which < length out → slice_index_or out which false ≡ false → InUse out which
used_here out which below is = at_index out which below ∙ ap (λ (b : Bool). Some b) is

pub out_here : (out : List Bool) (which : ℕ) → which < length out → slice_index_or out which false ≡ true → ¬ InUse out which
out_here out which below is used =
    let e : Some true ≡ Some false = ap (λ (b : Bool). Some b) (sym is) ∙ sym (at_index out which below) ∙ used in cc

-- a disk in use is there
pub are_there : (out : List Bool) (starts : List (List ℕ)) → length out ≡ length starts → AreThere out starts
are_there out starts same which used = omega (arith, same, slice_get_within out which false used)
