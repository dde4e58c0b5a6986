-- Printable bytes are text.
use Rattle.std.proofs.Common.{◌≡◌, ◌==◌, ℕ, zero, suc, ◌<◌, Bool, true, false, ◌&&◌, leb, List, [], ◌∷◌, get_or, take, drop, refl, arith}
use Rattle.std.specs.List.{list_all}
use Rattle.std.specs.Str.{IsUtf8}
use Rattle.std.proofs.lemmas.Str.{IsUtf8-from_ascii}
use Rattle.std.proofs.lemmas.Bool.Decides.{nat_tests}
use Rattle.nvlist.specs.Grammar.{is_printable}
use Rattle.nvlist.specs.Reading.{is_padded_text}

both_true : (a b : Bool) → (a && b) ≡ true → (a ≡ true) × (b ≡ true)
both_true true b e = (refl, e)
both_true false b e = absurd cc

printable_byte : (b : ℕ) → (leb 0x20 b && leb b 0x7e) ≡ true → b < 128
printable_byte b e = let p = both_true (leb 0x20 b) (leb b 0x7e) e in grind (arith, nat_tests)

is_printable-ascii : (bytes : List ℕ) → is_printable bytes ≡ true → (i : ℕ) → get_or bytes i 0 < 128
is_printable-ascii [] e i = omega arith
is_printable-ascii (b ∷ bytes) e zero = printable_byte b (both_true (leb 0x20 b && leb b 0x7e) (is_printable bytes) e).0
is_printable-ascii (b ∷ bytes) e (suc i) = is_printable-ascii bytes (both_true (leb 0x20 b && leb b 0x7e) (is_printable bytes) e).1 i

pub printable_is_utf8 : (bytes : List ℕ) → is_printable bytes ≡ true → IsUtf8 bytes
printable_is_utf8 bytes e = IsUtf8-from_ascii bytes (is_printable-ascii bytes e)

-- the text of a padded one is printable
pub padded_is_printable : (n : ℕ) (bytes : List ℕ) → is_padded_text n bytes ≡ true → is_printable (take n bytes) ≡ true
padded_is_printable n bytes e = (both_true (is_printable (take n bytes)) (list_all (λ b. b == 0) (drop n bytes)) e).0
