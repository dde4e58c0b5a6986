-- A field that is read is the field that was written, and what was written is read again.
use Rattle.std.proofs.Common.{◌≡◌, ◌==◌, ℕ, zero, suc, ◌+◌, ◌^◌, ◌<◌, ◌≤◌, Bool, true, false, ◌&&◌, cond, ltb, List, [], ◌∷◌, ◌++◌, length, take, drop, Option, Some, None, refl, sym, ap, subst, ◌∙◌, append_assoc, arith}
use Rattle.std.specs.Prelude.{replicate}
use Rattle.std.specs.List.{list_all}
use Rattle.std.specs.Int.{w32, w64, from_be_bytes, to_be_bytes}
use Rattle.std.proofs.lemmas.Bool.{ltb-false, le-ltb, eqb-true}
use Rattle.std.proofs.lemmas.List.{take_at, drop_at, take-append-drop, length-append, length-take, length-drop, length-replicate}
use Rattle.std.proofs.lemmas.Nat.{be_bytes_4, be_bytes_8, from_be_bytes-to_be_bytes_4, from_be_bytes-to_be_bytes_8}
use Rattle.words.specs.Words.{IsBytes}
use Rattle.words.proofs.WordLemmas.{IsBytes-take, IsBytes-drop}
use Rattle.nvlist.specs.Grammar.{padding_of, text_bytes, is_printable, IsText}
use Rattle.nvlist.specs.Reading.{◌>>=◌, word_at, number_at, padded_at, text_at, is_padded_text}

-- the value of a step that did not fail
pub bind_some : {A B : Type 0} (r : Option A) (f : A → Option B) (y : B) → (r >>= f) ≡ Some y → (x : A) × (r ≡ Some x) × (f x ≡ Some y)
bind_some (Some x) f y e = (x, refl, e)
bind_some None f y e = absurd cc

-- a test that did not fail
pub guard_some : {A : Type 0} (b : Bool) (x y : A) → cond b None (Some x) ≡ Some y → (b ≡ false) × (x ≡ y)
guard_some true x y e = absurd cc
guard_some false x y e = (refl, cc)

pub guard_passed : {A : Type 0} (b : Bool) (x y : A) → cond b (Some x) None ≡ Some y → (b ≡ true) × (x ≡ y)
guard_passed true x y e = (refl, cc)
guard_passed false x y e = absurd cc

pub not_short : {A : Type 0} (b : Bool) (r : Option A) (y : A) → cond b None r ≡ Some y → (b ≡ false) × (r ≡ Some y)
not_short true r y e = absurd cc
not_short false r y e = (refl, e)

abbrev some : {A : Type 0} → A → Option A
some x = Some x

pub some_is : {A : Type 0} (x y : A) → some x ≡ some y → x ≡ y
some_is x y e = cc

-- what a reader took from the front
pub record Takes (bytes taken rest : List ℕ) : Type 0 where
  pub parts : bytes ≡ taken ++ rest
  pub rest_fits : IsBytes rest

pub Takes-then : (a x b y c : List ℕ) → Takes a x b → Takes b y c → Takes a (x ++ y) c
Takes-then a x b y c p q = record { parts = p.parts ∙ ap (λ (t : List ℕ). x ++ t) q.parts ∙ sym (append_assoc x y c); rest_fits = q.rest_fits }

-- k bytes that stand for a number
abbrev chunk_at : ℕ → (List ℕ → ℕ) → List ℕ → Option (ℕ × List ℕ)
chunk_at k from bytes = cond (ltb (length bytes) k) None (Some (from (take k bytes), drop k bytes))

chunk_takes : (k : ℕ) (from : List ℕ → ℕ) (to : ℕ → List ℕ) → ((bs : List ℕ) → length bs ≡ k → IsBytes bs → to (from bs) ≡ bs) → (bytes : List ℕ) (n : ℕ) (rest : List ℕ) → IsBytes bytes → chunk_at k from bytes ≡ Some (n, rest)
    → Takes bytes (to n) rest × (from (take k bytes) ≡ n)
chunk_takes k from to back bytes n rest fits e =
    let g = guard_some (ltb (length bytes) k) (from (take k bytes), drop k bytes) (n, rest) e in
    let long : k ≤ length bytes = ltb-false _ _ g.0 in
    let number : from (take k bytes) ≡ n = ap (λ (p : ℕ × List ℕ). p.0) g.1 in
    let after : drop k bytes ≡ rest = ap (λ (p : ℕ × List ℕ). p.1) g.1 in
    let front : to n ≡ take k bytes = ap to (sym number) ∙ back (take k bytes) (omega (arith, length-take k bytes)) (IsBytes-take k bytes fits) in
    (record { parts = rw (front, ← after) (sym (take-append-drop k bytes)); rest_fits = rw (← after) (IsBytes-drop k bytes fits) }, number)

chunk_again : (k : ℕ) (from : List ℕ → ℕ) (written : List ℕ) (n : ℕ) (rest : List ℕ) → length written ≡ k → from written ≡ n → chunk_at k from (written ++ rest) ≡ Some (n, rest)
chunk_again k from written n rest len is =
    let long : ltb (length (written ++ rest)) k ≡ false = le-ltb _ _ (omega (arith, length-append written rest)) in
    rw (long, take_at written rest k len, drop_at written rest k len, is) refl

pub word_takes : (bytes : List ℕ) (n : ℕ) (rest : List ℕ) → IsBytes bytes → word_at bytes ≡ Some (n, rest) → Takes bytes (to_be_bytes w32 n) rest × (n < 2 ^ 32)
word_takes bytes n rest fits e =
    let t = chunk_takes 4 (from_be_bytes w32) (to_be_bytes w32) (λ bs len each. be_bytes_4 bs (from_be_bytes w32 bs) len each refl) bytes n rest fits e in
    let each = IsBytes-take 4 bytes fits in
    let below : from_be_bytes w32 (take 4 bytes) < 2 ^ 32 = omega (arith, each 0, each 1, each 2, each 3) in
    (t.0, omega (arith, t.1, below))

pub word_again : (n : ℕ) (rest : List ℕ) → n < 2 ^ 32 → word_at (to_be_bytes w32 n ++ rest) ≡ Some (n, rest)
word_again n rest below = chunk_again 4 (from_be_bytes w32) (to_be_bytes w32 n) n rest refl (from_be_bytes-to_be_bytes_4 n below)

pub number_takes : (bytes : List ℕ) (n : ℕ) (rest : List ℕ) → IsBytes bytes → number_at bytes ≡ Some (n, rest) → Takes bytes (to_be_bytes w64 n) rest × (n < 2 ^ 64)
number_takes bytes n rest fits e =
    let t = chunk_takes 8 (from_be_bytes w64) (to_be_bytes w64) (λ bs len each. be_bytes_8 bs (from_be_bytes w64 bs) len each refl) bytes n rest fits e in
    let each = IsBytes-take 8 bytes fits in
    let below : from_be_bytes w64 (take 8 bytes) < 2 ^ 64 = omega (arith, each 0, each 1, each 2, each 3, each 4, each 5, each 6, each 7) in
    (t.0, omega (arith, t.1, below))

pub number_again : (n : ℕ) (rest : List ℕ) → n < 2 ^ 64 → number_at (to_be_bytes w64 n ++ rest) ≡ Some (n, rest)
number_again n rest below = chunk_again 8 (from_be_bytes w64) (to_be_bytes w64 n) n rest refl (from_be_bytes-to_be_bytes_8 n below)

-- ---- texts

both_pass : (a b : Bool) → (a && b) ≡ true → (a ≡ true) × (b ≡ true)
both_pass true b e = (refl, e)
both_pass false b e = absurd cc

zeros_are : (bytes : List ℕ) → list_all (λ b. b == 0) bytes ≡ true → bytes ≡ replicate (length bytes) 0
zeros_are [] e = refl
zeros_are (b ∷ bytes) e =
    let both = both_pass (b == 0) (list_all (λ x. x == 0) bytes) e in
    let first : b ≡ 0 = eqb-true b 0 both.0 in
    let others = zeros_are bytes both.1 in
    cc

zeros_pass : (n : ℕ) → list_all (λ b. b == 0) (replicate n 0) ≡ true
zeros_pass zero = refl
zeros_pass (suc n) = zeros_pass n

pub padded_takes : (n : ℕ) (bytes t rest : List ℕ) → IsBytes bytes → padded_at n bytes ≡ Some (t, rest) → Takes bytes (t ++ replicate (padding_of n) 0) rest × (length t ≡ n) × (is_printable t ≡ true)
unfolding padded_at
padded_takes n bytes t rest fits e =
    let m = n + padding_of n in
    let front = take m bytes in
    let a = not_short (ltb (length bytes) m) (cond (is_padded_text n front) (Some (take n front, drop m bytes)) None) (t, rest) e in
    let long : m ≤ length bytes = ltb-false _ _ a.0 in
    let g = guard_passed (is_padded_text n front) (take n front, drop m bytes) (t, rest) a.1 in
    let both = both_pass (is_printable (take n front)) (list_all (λ b. b == 0) (drop n front)) g.0 in
    let text_is : take n front ≡ t = ap (λ (p : List ℕ × List ℕ). p.0) g.1 in
    let after : drop m bytes ≡ rest = ap (λ (p : List ℕ × List ℕ). p.1) g.1 in
    let front_len : length front ≡ m = omega (arith, length-take m bytes) in
    let pad_len : length (drop n front) ≡ padding_of n = omega (arith, length-drop n front) in
    let pad : drop n front ≡ replicate (padding_of n) 0 = zeros_are (drop n front) both.1 ∙ ap (λ (k : ℕ). replicate k 0) pad_len in
    let whole : t ++ replicate (padding_of n) 0 ≡ front = rw (← text_is, ← pad) (take-append-drop n front) in
    (record { parts = rw (whole, ← after) (sym (take-append-drop m bytes)); rest_fits = rw (← after) (IsBytes-drop m bytes fits) }, ap length (sym text_is) ∙ omega (arith, length-take n front), ap is_printable (sym text_is) ∙ both.0)

pub padded_again : (t rest : List ℕ) → is_printable t ≡ true → padded_at (length t) ((t ++ replicate (padding_of (length t)) 0) ++ rest) ≡ Some (t, rest)
unfolding padded_at
padded_again t rest printable =
    let n = length t in
    let pad = replicate (padding_of n) 0 in
    let len : length (t ++ pad) ≡ n + padding_of n = length-append t pad ∙ ap (λ (k : ℕ). n + k) (length-replicate (padding_of n) 0) in
    let long : ltb (length ((t ++ pad) ++ rest)) (n + padding_of n) ≡ false = le-ltb _ _ (omega (arith, length-append (t ++ pad) rest)) in
    rw (long, take_at (t ++ pad) rest (n + padding_of n) len, take_at t pad n refl, drop_at t pad n refl, printable, zeros_pass (padding_of n), drop_at (t ++ pad) rest (n + padding_of n) len) refl

pub text_takes : (bytes t rest : List ℕ) → IsBytes bytes → text_at bytes ≡ Some (t, rest) → Takes bytes (text_bytes t) rest × IsText t
unfolding text_at
text_takes bytes t rest fits e =
    let b = bind_some (word_at bytes) (λ n. padded_at n.0 n.1) (t, rest) e in
    let first = word_takes bytes b.0.0 b.0.1 fits b.1 in
    let second = padded_takes b.0.0 b.0.1 t rest first.0.rest_fits b.2 in
    let both = Takes-then bytes (to_be_bytes w32 b.0.0) b.0.1 (t ++ replicate (padding_of b.0.0) 0) rest first.0 second.0 in
    (subst (λ (k : ℕ). Takes bytes (to_be_bytes w32 k ++ (t ++ replicate (padding_of k) 0)) rest) (sym second.1) both, record { len = omega (arith, first.1, second.1); printable = second.2 })

pub text_again : (t rest : List ℕ) → IsText t → text_at (text_bytes t ++ rest) ≡ Some (t, rest)
unfolding text_at
text_again t rest fits =
    let regrouped = append_assoc (to_be_bytes w32 (length t)) (t ++ replicate (padding_of (length t)) 0) rest in
    ap text_at regrouped ∙ rw (word_again (length t) ((t ++ replicate (padding_of (length t)) 0) ++ rest) fits.len) (padded_again t rest fits.printable)
