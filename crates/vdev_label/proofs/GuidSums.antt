-- Sums of guids in 64 bits.
use Rattle.std.proofs.Common.{◌≡◌, ◌+◌, ◌%◌, ◌^◌, ℕ}

-- what was added so far, and what is left to add
abbrev pub AddsUp : ℕ → ℕ → ℕ → Type 0
AddsUp so_far left total = (so_far + left) % 2 ^ 64 ≡ total % 2 ^ 64
