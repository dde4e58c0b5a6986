-- What a write is given.
use Rattle.std.specs.Prelude.{◌≡◌, ℕ, ◌-◌, ◌≤◌, ◌^◌, min, List, length, Option, Some, None}
use Rattle.pool_model.specs.declared.refusal.Refusal.TheVariants.{NoMemory}
use Rattle.command_steps.specs.Lengths.{StandsFor}
use Rattle.commands.specs.declared.input.Given.{Given}
use Rattle.commands.specs.declared.stop.Stop.{Stop}
use Rattle.commands.specs.declared.stop.Stop.TheVariants as stop

-- a count of 64 bits stops at the greatest number
abbrev pub counted : ℕ → ℕ
counted n = min n (2 ^ 64 - 1)

-- all bytes of a reader were read, where they are known
abbrev pub IsGiven : Option (List ℕ) → Given → Type 0
IsGiven None given = Unit {0}
IsGiven (Some all) given = (given.len ≡ counted (length all)) × (length all ≤ 2 ^ 20 → given.front.items ≡ all)

-- up to 1 MiB these are all bytes of a reader, and beyond they are as many as stand for them
abbrev pub IsInput : Option (List ℕ) → List ℕ → Type 0
IsInput None bytes = Unit {0}
IsInput (Some all) bytes = (length all ≤ 2 ^ 20 → bytes ≡ all) × StandsFor (counted (length all)) (length bytes)

-- the reader failed, or memory ran out
abbrev pub IsNoInput : {C : Type 0} → Stop C → Type 0
IsNoInput stop.Input = Unit {0}
IsNoInput (stop.Pool cause) = cause ≡ NoMemory
IsNoInput other = ⊥
