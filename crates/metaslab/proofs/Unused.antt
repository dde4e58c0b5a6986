-- What a metaslab leaves unused, and whether it is all free.
use Rattle.std.proofs.Common.{◌≡◌, ℕ, ◌+◌, ◌<◌, ◌≤◌, inl, inr, Bool, true, false, not, ltb, cond, refl, sym, ap, ◌∙◌, arith}
use Rattle.std.proofs.lemmas.Bool.{cases_lt}
use Rattle.std.proofs.lemmas.Bool.Decides.{nat_tests}
use Rattle.space_map.specs.FreeRuns.{FreeRuns, AreFree}
use Rattle.space_map.specs.Sectors.{contains}
use Rattle.space_map.proofs.RunLemmas.{none_past}
use Rattle.metaslab.specs.Calls.{AreUnused, IsOf}
use Rattle.metaslab.specs.Space.{Space, state, sectors_of}
use Rattle.metaslab.specs.State.{State, Free, InUse, is_in_use}
use Rattle.metaslab.specs.Unused.{is_unused, IsUnusedOf}

none_outside : (free : FreeRuns) (s : ℕ) → AreFree free → free.sectors ≤ s → contains free.runs s ≡ false
none_outside free s are past = none_past 0 (free.sectors + 1) s free.runs are.1 (omega arith)

unused_within : (space : Space) (s : ℕ) → s < sectors_of space → is_unused space s ≡ not (is_in_use (state space s))
unused_within space s below = let t : ltb s (sectors_of space) ≡ true = grind (arith, nat_tests) in rw t refl

unused_outside : (space : Space) (s : ℕ) → sectors_of space ≤ s → is_unused space s ≡ false
unused_outside space s past = let t : ltb s (sectors_of space) ≡ false = grind (arith, nat_tests) in rw t refl

pub set_of_unused : (space : Space) (free : FreeRuns) → AreFree free → AreUnused space free → IsUnusedOf free space
set_of_unused space free are unused = (
  unused.sectors,
  λ s. elim (cases_lt s (sectors_of space)) [
    | inl inside ↦ unused.each s inside ∙ sym (unused_within space s inside)
    | inr past ↦ none_outside free s are (omega (arith, unused.sectors)) ∙ sym (unused_outside space s past)
  ],
)

pub unused_of_set : (space : Space) (free : FreeRuns) → IsUnusedOf free space → AreUnused space free
unused_of_set space free is = record { sectors = is.0; each = λ s below. is.1 s ∙ unused_within space s below }

not_in_use : (b : Bool) → not (is_in_use (cond b Free InUse)) ≡ b
not_in_use true = refl
not_in_use false = refl

pub loaded_is_unused : (space : Space) (free : FreeRuns) → AreFree free → IsOf space free → IsUnusedOf free space
loaded_is_unused space free are is =
    let unused : AreUnused space free = record { sectors = sym is.sectors; each = λ s below. sym (ap (λ (x : State). not (is_in_use x)) (is.states s) ∙ not_in_use (contains free.runs s)) } in
    set_of_unused space free are unused
