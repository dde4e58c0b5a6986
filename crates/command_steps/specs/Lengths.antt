-- Lengths that a write is judged alike by.
use Rattle.std.specs.Prelude.{◌≡◌, ℕ, ◌≤◌, ◌^◌}
use Rattle.pool_model.specs.declared.volume.PlainVolume.{PlainVolume}
use Rattle.pool_model.specs.Refusals.{is_aligned, is_in_range}

-- a write of n bytes stands for one of len bytes: up to 1 MiB it is that one, and beyond it is refused for the same cause
pub record StandsFor (len n : ℕ) : Type 0 where
  pub within : len ≤ 2 ^ 20 → n ≡ len
  pub aligned : (offset : ℕ) → is_aligned offset n ≡ is_aligned offset len
  pub in_range : (offset : ℕ) (volume : PlainVolume) → is_in_range offset n volume ≡ is_in_range offset len volume
