-- What is counted of reads, and when that is told.
use Rattle.std.specs.Prelude.{ℕ, ◌-◌, ◌/◌, ◌%◌, ◌^◌, ◌||◌, nat_eq, nat_le, if◌then◌else◌, Option, Some, None, Result, Ok, Err}

-- how many bytes a read gave for which so many were asked: none where it failed
abbrev pub bytes_given : {T F : Type 0} → Result T F → ℕ → ℕ
bytes_given (Ok _) asked = asked
bytes_given (Err _) asked = 0

-- the MiB of all full intervals, where there is one more than before; none of intervals of no bytes. All but the MiB is in bytes.
abbrev pub mebibytes_due : ℕ → ℕ → ℕ → Option ℕ
mebibytes_due interval before after =
    if nat_eq interval 0 || nat_le (after / interval) (before / interval) then None
    else Some ((after - after % interval) / 2 ^ 20)
