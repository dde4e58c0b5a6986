-- Bytes as text.
use Rattle.std.specs.Prelude.{ℕ, ◌/◌, ◌%◌, false, List, [], ◌∷◌}
use Rattle.std.specs.Fmt.{digit_glyph}

-- two hexadecimal digits, lower case
abbrev pub byte_text : ℕ → List ℕ
byte_text b = digit_glyph false (b / 16) ∷ digit_glyph false (b % 16) ∷ []
