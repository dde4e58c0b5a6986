-- Where a disk has its four labels.
use Rattle.std.specs.Prelude.{◌≤◌, ◌<◌, ℕ, ◌+◌, ◌-◌, ◌*◌, ◌/◌, nat_lt, if◌then◌else◌}

-- a disk's size as its labels count it: a multiple of a label
abbrev pub rounded : ℕ → ℕ
rounded size = size / 262144 * 262144

-- two labels in front and two at the end
abbrev pub label_at : ℕ → ℕ → ℕ
label_at size number = if nat_lt number 2 then number * 262144 else rounded size - (4 - number) * 262144

-- the area of its list, behind what is blank and the boot header
abbrev pub area_at : ℕ → ℕ → ℕ
area_at size number = label_at size number + 16384

-- no two labels of a disk share a byte
abbrev pub LabelsAreApart : Type 0
LabelsAreApart =
    (size i j : ℕ) → 4 * 262144 ≤ size → i < j → j < 4 → (label_at size i + 262144 ≤ label_at size j) × (label_at size j + 262144 ≤ size)
