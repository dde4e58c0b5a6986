-- What becomes of what is due behind the block writes of a plan.
use Rattle.std.specs.Prelude.{ℕ, ◌≡◌, ◌==◌, not, filter}
use Rattle.disk_set.specs.declared.behind.Behind.{Behind}

-- the calls on a disk are left out
abbrev pub LeftOut : ℕ → Behind → Behind → Type 0
LeftOut disk old new =
    (new.flushes ≡ old.flushes) × (new.slots.items ≡ filter (λ write. not (write.disk == disk)) old.slots.items)
    × (new.slot_flushes.items ≡ filter (λ flush. not (flush == disk)) old.slot_flushes.items)
