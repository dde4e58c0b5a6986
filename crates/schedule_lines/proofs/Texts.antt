-- Numbers and their texts.
use Rattle.std.proofs.Common.{◌≡◌, ◌≢◌, ℕ, ◌+◌, ◌*◌, ◌/◌, ◌%◌, ◌^◌, ◌<◌, ◌≤◌, Bool, true, false, ◌&&◌, cond, nat_lt, List, length, get_or, Option, Some, None, Result, Ok, Err, refl, sym, ap, subst, ◌∙◌, arith}
use Rattle.std.specs.Fmt.{decimal, digit_glyph}
use Rattle.std.specs.Char.{digit_value}
use Rattle.std.specs.Str.{bytes_eq, IsUtf8}
use Rattle.std.specs.Str.Parse.{digits_value, ParsesUnsigned}
use Rattle.std.proofs.lemmas.Bool.{ltb-true, lt-ltb, and_parts}
use Rattle.std.proofs.lemmas.Fmt.{decimal_is_IsNumeral, IsAscii-decimal, parse-decimal}
use Rattle.std.specs.Result.{OkIff, result_ok}
use Rattle.std.proofs.lemmas.Slice.Eq.{bytes_eq-Decides, text_from_reads}
use Rattle.std.proofs.lemmas.Str.{digit_value-digit_char, IsUtf8-from_ascii}
use Rattle.schedule_lines.specs.Hexadecimal.{byte_text}
use Rattle.schedule_lines.specs.Reading.{if_text, number_of, byte_of}

guard_passed : {A : Type 0} (b : Bool) (x y : A) → cond b (Some x) None ≡ Some y → (b ≡ true) × (x ≡ y)
guard_passed true x y e = (refl, cc)
guard_passed false x y e = absurd cc

pub if_text_some : (text : ℕ → List ℕ) (limit : ℕ) (word : List ℕ) (n m : ℕ) → if_text text limit word n ≡ Some m → (word ≡ text m) × (m < limit)
if_text_some text limit word n m e =
    let g = guard_passed (nat_lt n limit && bytes_eq (text n) word) n m e in
    let both = and_parts (nat_lt n limit) (bytes_eq (text n) word) g.0 in
    (sym ((bytes_eq-Decides (text n) word).0 both.1) ∙ ap text g.1, subst (λ (k : ℕ). k < limit) g.1 (ltb-true n limit both.0))

pub if_text_again : (text : ℕ → List ℕ) (limit n : ℕ) → n < limit → if_text text limit (text n) n ≡ Some n
if_text_again text limit n small = rw (lt-ltb n limit small, (bytes_eq-Decides (text n) (text n)).1 refl) refl

none_or_some : (r : Option ℕ) → ((m : ℕ) → r ≡ Some m → None ≡ r) → None ≡ r
none_or_some None h = refl
none_or_some (Some m) h = h m refl

pub if_text_none : (text : ℕ → List ℕ) (limit : ℕ) (word : List ℕ) (n : ℕ) → ((m : ℕ) → m < limit → word ≢ text m) → None ≡ if_text text limit word n
if_text_none text limit word n none = none_or_some (if_text text limit word n) (λ m e. let s = if_text_some text limit word n m e in absurd (none m s.1 s.0))

-- ---- decimal numbers

pub number_some : (limit : ℕ) (word : List ℕ) (n : ℕ) → number_of limit word ≡ Some n → (word ≡ decimal n) × (n < limit)
unfolding number_of
number_some limit word n e = if_text_some decimal limit word (digits_value 10 word) n e

pub number_again : (limit n : ℕ) → n < limit → n < 2 ^ 64 → number_of limit (decimal n) ≡ Some n
unfolding number_of
number_again limit n small fits = ap (if_text decimal limit (decimal n)) (decimal_is_IsNumeral n fits).1 ∙ if_text_again decimal limit n small

pub number_none : (limit : ℕ) (word : List ℕ) → ((m : ℕ) → m < limit → word ≢ decimal m) → None ≡ number_of limit word
unfolding number_of
number_none limit word none = if_text_none decimal limit word (digits_value 10 word) none

-- a number that fits less is a number
pub smaller_some : (limit n : ℕ) (word : List ℕ) → number_of (2 ^ 64) word ≡ Some n → n < limit → Some n ≡ number_of limit word
smaller_some limit n word e small =
    let s = number_some (2 ^ 64) word n e in
    sym (ap (number_of limit) s.0 ∙ number_again limit n small s.1)

-- ---- bytes

value_of_glyph : (d : ℕ) → d < 16 → digit_value (digit_glyph false d) ≡ d
value_of_glyph d small = digit_value-digit_char d (omega arith)

value_of_byte_text : (n : ℕ) → n < 2 ^ 8 → digits_value 16 (byte_text n) ≡ n
value_of_byte_text n small =
    let high : n / 16 < 16 = omega arith in
    let low : n % 16 < 16 = omega arith in
    rw (value_of_glyph (n / 16) high, value_of_glyph (n % 16) low) (omega arith)

pub byte_some : (word : List ℕ) (n : ℕ) → byte_of word ≡ Some n → (word ≡ byte_text n) × (n < 2 ^ 8)
unfolding byte_of
byte_some word n e = if_text_some byte_text (2 ^ 8) word (digits_value 16 word) n e

pub byte_again : (n : ℕ) → n < 2 ^ 8 → byte_of (byte_text n) ≡ Some n
unfolding byte_of
byte_again n small = ap (if_text byte_text (2 ^ 8) (byte_text n)) (value_of_byte_text n small) ∙ if_text_again byte_text (2 ^ 8) n small

pub byte_none : (word : List ℕ) → ((m : ℕ) → m < 2 ^ 8 → word ≢ byte_text m) → None ≡ byte_of word
unfolding byte_of
byte_none word none = if_text_none byte_text (2 ^ 8) word (digits_value 16 word) none

pub byte_is : (word : List ℕ) (n : ℕ) → n < 2 ^ 8 → word ≡ byte_text n → Some n ≡ byte_of word
byte_is word n small e = sym (ap byte_of e ∙ byte_again n small)

-- ---- what the code tests

pub not_text : (word : List ℕ) → ¬ (IsUtf8 word) → None ≡ number_of (2 ^ 64) word
not_text word other = number_none (2 ^ 64) word (λ m small e. other (subst IsUtf8 (sym e) (IsUtf8-from_ascii (decimal m) (IsAscii-decimal m small))))

pub not_parsed : {E : Type 0} (word : List ℕ) (r : Result ℕ E) (e : E) → ParsesUnsigned 64 10 word r → r ≡ Err e → None ≡ number_of (2 ^ 64) word
not_parsed word r e parsed fails = number_none (2 ^ 64) word (λ m small spelled. let ok = parse-decimal 64 m word r small small spelled parsed in cc)

pub printed : (word text : List ℕ) (n : ℕ) (same : Bool) → n < 2 ^ 64 → text ≡ decimal n → same ≡ bytes_eq text word → same ≡ true → Some n ≡ number_of (2 ^ 64) word
printed word text n same small spelled tested holds =
    let e : decimal n ≡ word = sym spelled ∙ (bytes_eq-Decides text word).0 (sym tested ∙ holds) in
    sym (ap (number_of (2 ^ 64)) (sym e) ∙ number_again (2 ^ 64) n small small)

pub not_printed : {E : Type 0} (word text : List ℕ) (r : Result ℕ E) (n : ℕ) (same : Bool) → ParsesUnsigned 64 10 word r → r ≡ Ok n → text ≡ decimal n → same ≡ bytes_eq text word → same ≡ false → None ≡ number_of (2 ^ 64) word
not_printed word text r n same parsed ok spelled tested other = number_none (2 ^ 64) word (λ m small e.
    let read = parse-decimal 64 m word r small small e parsed in
    let number : n ≡ m = cc in
    let yes = (bytes_eq-Decides text word).1 (spelled ∙ ap decimal number ∙ sym e) in
    cc)

pub larger_none : (limit : ℕ) (word : List ℕ) → limit ≤ 2 ^ 64 → number_of (2 ^ 64) word ≡ None → None ≡ number_of limit word
larger_none limit word below none = number_none limit word (λ m small e.
    let wide : m < 2 ^ 64 = omega arith in
    let read = ap (number_of (2 ^ 64)) e ∙ number_again (2 ^ 64) m wide wide in
    cc)

pub too_large : (limit : ℕ) (word : List ℕ) (n : ℕ) → limit ≤ 2 ^ 64 → number_of (2 ^ 64) word ≡ Some n → limit ≤ n → None ≡ number_of limit word
too_large limit word n below e large = number_none limit word (λ m small spelled.
    let wide : m < 2 ^ 64 = omega arith in
    let read = ap (number_of (2 ^ 64)) spelled ∙ number_again (2 ^ 64) m wide wide in
    let same : n ≡ m = cc in
    omega arith)

pub narrowed : {E : Type 0} (word : List ℕ) (n : ℕ) (r : Result ℕ E) → number_of (2 ^ 64) word ≡ Some n → OkIff r (n < 2 ^ 32) n → result_ok r ≡ number_of (2 ^ 32) word
narrowed word n (Ok m) e h = ap (λ (k : ℕ). Some k) h.1 ∙ smaller_some (2 ^ 32) n word e h.0
narrowed word n (Err x) e h = too_large (2 ^ 32) word n (omega arith) e (omega (arith, h))

pub two_digits : (word : List ℕ) (high low : ℕ) → length word ≡ 2 → get_or word 0 0 ≡ digit_glyph false high → get_or word 1 0 ≡ digit_glyph false low → high < 16 → low < 16 → Some (16 * high + low) ≡ byte_of word
two_digits word high low two first second above below =
    let front : (16 * high + low) / 16 ≡ high = omega arith in
    let back : (16 * high + low) % 16 ≡ low = omega arith in
    let text : word ≡ byte_text (16 * high + low) = text_from_reads word (byte_text (16 * high + low)) two (first ∙ ap (digit_glyph false) (sym front), (second ∙ ap (digit_glyph false) (sym back), tt)) in
    byte_is word (16 * high + low) (omega arith) text
