-- A word that is read is the text of its value, and the text of a value is read as that value.
use Rattle.std.proofs.Common.{◌≡◌, ℕ, ◌^◌, ◌<◌, ◌≤◌, Bool, true, false, cond, nat_eq, List, [], ◌∷◌, length, Option, Some, None, refl, ap, subst, ◌∙◌, arith}
use Rattle.std.specs.Fmt.{decimal}
use Rattle.std.proofs.lemmas.Bool.{ne_eqb}
use Rattle.std.proofs.lemmas.Fmt.{decimal_nonempty}
use Rattle.schedule_lines.specs.Hexadecimal.{byte_text}
use Rattle.schedule_lines.specs.Reading.{◌>>=◌, word_at, number_at, byte_at, name_at, number_of, byte_of}
use Rattle.schedule_lines.proofs.Texts.{number_some, number_again, byte_some, byte_again}

-- the value of a step that did not fail
pub bind_some : {A B : Type 0} (r : Option A) (f : A → Option B) (y : B) → (r >>= f) ≡ Some y → (x : A) × (r ≡ Some x) × (f x ≡ Some y)
bind_some (Some x) f y e = (x, refl, e)
bind_some None f y e = absurd cc

abbrev pub some : {A : Type 0} → A → Option A
some x = Some x

pub some_is : {A : Type 0} (x y : A) → some x ≡ some y → x ≡ y
some_is x y e = cc

abbrev pub Words : Type 0
Words = List (List ℕ)

abbrev pub IsFull : List ℕ → Type 0
IsFull word = 0 < length word

pub word_taken : (words : Words) (x : List ℕ × Words) → word_at words ≡ Some x → words ≡ x.0 ∷ x.1
word_taken [] x e = absurd cc
word_taken (word ∷ words) x e =
    let same = some_is (word, words) x e in
    ap (λ (y : List ℕ × Words). y.0 ∷ y.1) same

-- ---- numbers

-- the number x.0 stood first, and x.1 is left
pub record Number (words : Words) (limit : ℕ) (x : ℕ × Words) : Type 0 where
  pub word : words ≡ decimal x.0 ∷ x.1
  pub fits : x.0 < limit
  pub full : IsFull (decimal x.0)

pub number_taken : (limit : ℕ) (words : Words) (x : ℕ × Words) → limit ≤ 2 ^ 64 → number_at limit words ≡ Some x → Number words limit x
unfolding number_at
number_taken limit words x fits e =
    let a = bind_some (word_at words) _ x e in
    let b = bind_some (number_of limit a.0.0) _ x a.2 in
    let number = number_some limit a.0.0 b.0 b.1 in
    let made : Number words limit (b.0, a.0.1) = record { word = word_taken words a.0 a.1 ∙ ap (λ (w : List ℕ). w ∷ a.0.1) number.0; fits = number.1; full = decimal_nonempty b.0 (omega arith) } in
    subst (Number words limit) (some_is (b.0, a.0.1) x b.2) made

-- a number first, and then what f reads
pub number_then : {B : Type 0} (limit : ℕ) (words : Words) (f : ℕ × Words → Option B) (y : B) → limit ≤ 2 ^ 64 → (number_at limit words >>= f) ≡ Some y → (x : ℕ × Words) × Number words limit x × (f x ≡ Some y)
number_then limit words f y fits e =
    let a = bind_some (number_at limit words) f y e in
    (a.0, number_taken limit words a.0 fits a.1, a.2)

pub number_read : (limit n : ℕ) (rest : Words) → limit ≤ 2 ^ 64 → n < limit → number_at limit (decimal n ∷ rest) ≡ Some (n, rest)
unfolding number_at
number_read limit n rest fits small = rw (number_again limit n small (omega arith)) refl

-- ---- bytes

pub record Byte (words : Words) (x : ℕ × Words) : Type 0 where
  pub word : words ≡ byte_text x.0 ∷ x.1
  pub fits : x.0 < 2 ^ 8

byte_taken : (words : Words) (x : ℕ × Words) → byte_at words ≡ Some x → Byte words x
unfolding byte_at
byte_taken words x e =
    let a = bind_some (word_at words) _ x e in
    let b = bind_some (byte_of a.0.0) _ x a.2 in
    let byte = byte_some a.0.0 b.0 b.1 in
    let made : Byte words (b.0, a.0.1) = record { word = word_taken words a.0 a.1 ∙ ap (λ (w : List ℕ). w ∷ a.0.1) byte.0; fits = byte.1 } in
    subst (Byte words) (some_is (b.0, a.0.1) x b.2) made

pub byte_then : {B : Type 0} (words : Words) (f : ℕ × Words → Option B) (y : B) → (byte_at words >>= f) ≡ Some y → (x : ℕ × Words) × Byte words x × (f x ≡ Some y)
byte_then words f y e =
    let a = bind_some (byte_at words) f y e in
    (a.0, byte_taken words a.0 a.1, a.2)

pub byte_read : (n : ℕ) (rest : Words) → n < 2 ^ 8 → byte_at (byte_text n ∷ rest) ≡ Some (n, rest)
unfolding byte_at
byte_read n rest small = rw (byte_again n small) refl

-- ---- names

pub record NameWord (words : Words) (x : List ℕ × Words) : Type 0 where
  pub word : words ≡ x.0 ∷ x.1
  pub full : IsFull x.0

guard_some : {A : Type 0} (b : Bool) (x y : A) → cond b None (Some x) ≡ Some y → (b ≡ false) × (x ≡ y)
guard_some true x y e = absurd cc
guard_some false x y e = (refl, cc)

not_empty : (word : List ℕ) → nat_eq (length word) 0 ≡ false → 0 < length word
not_empty [] e = absurd cc
not_empty (b ∷ word) e = omega arith

full_is_not_empty : (word : List ℕ) → 0 < length word → nat_eq (length word) 0 ≡ false
full_is_not_empty [] full = absurd (omega arith)
full_is_not_empty (b ∷ word) full = ne_eqb (length (b ∷ word)) 0 (λ e. omega arith)

name_taken : (words : Words) (x : List ℕ × Words) → name_at words ≡ Some x → NameWord words x
unfolding name_at
name_taken words x e =
    let a = bind_some (word_at words) _ x e in
    let g = guard_some (nat_eq (length a.0.0) 0) a.0 x a.2 in
    subst (NameWord words) g.1 (record { word = word_taken words a.0 a.1; full = not_empty a.0.0 g.0 })

pub name_then : {B : Type 0} (words : Words) (f : List ℕ × Words → Option B) (y : B) → (name_at words >>= f) ≡ Some y → (x : List ℕ × Words) × NameWord words x × (f x ≡ Some y)
name_then words f y e =
    let a = bind_some (name_at words) f y e in
    (a.0, name_taken words a.0 a.1, a.2)

pub name_read : (name : List ℕ) (rest : Words) → IsFull name → name_at (name ∷ rest) ≡ Some (name, rest)
unfolding name_at
name_read name rest full = rw (full_is_not_empty name full) refl
