-- The numbers that records and dead lists may have.
use Rattle.std.specs.Prelude.{ℕ, ◌*◌, ◌^◌, ◌<◌}

-- the number of an object behind those of the tables
abbrev pub IsNumber : ℕ → Type 0
IsNumber number = (4 < number) × (number < 32 * 128 ^ 5)
