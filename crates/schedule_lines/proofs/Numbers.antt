-- All words that are left, as numbers.
use Rattle.std.proofs.Common.{◌≡◌, ℕ, ◌^◌, ◌<◌, List, [], ◌∷◌, ◌++◌, length, map, Option, Some, None, Result, Ok, Err, option_map, refl, sym, ap, subst, ◌∙◌, arith}
use Rattle.std.specs.List.{AllByRecursion}
use Rattle.std.specs.Result.{IsErrAnd}
use Rattle.std.specs.Fmt.{decimal}
use Rattle.std.proofs.lemmas.Fmt.{decimal_nonempty}
use Rattle.std.proofs.lemmas.List.{append-nil, append_assoc}
use Rattle.schedule_lines.specs.declared.refusal.Refusal.{Refusal}
use Rattle.schedule_lines.specs.declared.refusal.Refusal.TheVariants.{Fault, NoMemory}
use Rattle.schedule_lines.specs.Reading.{◌>>=◌, Fails, number_at, number_of, numbers_of, numbers_at, Gives}
use Rattle.schedule_lines.proofs.Texts.{number_some, number_again}
use Rattle.schedule_lines.proofs.Fields.{bind_some, some_is, Words, IsFull, number_taken}

-- the words are the texts of x.0, and then x.1
pub record Numbers (words : Words) (x : List ℕ × Words) : Type 0 where
  pub parts : words ≡ map decimal x.0 ++ x.1
  pub fits : AllByRecursion (λ n. n < 2 ^ 32) x.0
  pub full : AllByRecursion IsFull (map decimal x.0)

all_numbers : (words : Words) (numbers : List ℕ) → numbers_of words ≡ Some numbers → Numbers words (numbers, [])
all_numbers [] numbers e = subst (λ (ns : List ℕ). Numbers [] (ns, [])) (some_is [] numbers e) (record { parts = refl; fits = tt; full = tt })
all_numbers (word ∷ words) numbers e =
    let a = bind_some (number_of (2 ^ 32) word) _ numbers e in
    let b = bind_some (numbers_of words) _ numbers a.2 in
    let number = number_some (2 ^ 32) word a.0 a.1 in
    let others = all_numbers words b.0 b.1 in
    let made : Numbers (word ∷ words) (a.0 ∷ b.0, []) = record {
      parts = ap (λ (w : List ℕ). w ∷ words) number.0 ∙ ap (λ (w : Words). decimal a.0 ∷ w) others.parts;
      fits = (number.1, others.fits);
      full = (decimal_nonempty a.0 (omega (arith, number.1)), others.full);
    } in
    subst (λ (ns : List ℕ). Numbers (word ∷ words) (ns, [])) (some_is (a.0 ∷ b.0) numbers b.2) made

some_mapped : {A B : Type 0} (f : A → B) (r : Option A) (y : B) → option_map f r ≡ Some y → (x : A) × (r ≡ Some x) × (f x ≡ y)
some_mapped f (Some x) y e = (x, refl, some_is (f x) y e)
some_mapped f None y e = absurd cc

numbers_taken : (words : Words) (x : List ℕ × Words) → numbers_at words ≡ Some x → Numbers words x
unfolding numbers_at
numbers_taken words x e =
    let a = some_mapped (λ (ns : List ℕ). (ns, [])) (numbers_of words) x e in
    subst (Numbers words) a.2 (all_numbers words a.0 a.1)

pub numbers_then : {B : Type 0} (words : Words) (f : List ℕ × Words → Option B) (y : B) → (numbers_at words >>= f) ≡ Some y → (x : List ℕ × Words) × Numbers words x × (f x ≡ Some y)
numbers_then words f y e =
    let a = bind_some (numbers_at words) f y e in
    (a.0, numbers_taken words a.0 a.1, a.2)

numbers_again : (numbers : List ℕ) → AllByRecursion (λ n. n < 2 ^ 32) numbers → numbers_of (map decimal numbers) ≡ Some numbers
numbers_again [] fits = refl
numbers_again (n ∷ numbers) fits = rw (number_again (2 ^ 32) n fits.0 (omega (arith, fits.0)), numbers_again numbers fits.1) refl

pub numbers_read : (numbers : List ℕ) → AllByRecursion (λ n. n < 2 ^ 32) numbers → numbers_at (map decimal numbers) ≡ Some (numbers, [])
unfolding numbers_at
numbers_read numbers fits = rw (numbers_again numbers fits) refl

-- ---- one number after another

-- the numbers of the words are these, and then those of the rest
abbrev pub AreFront : Words → List ℕ → Words → Type 0
AreFront words front rest = numbers_of words ≡ option_map (λ (ns : List ℕ). front ++ ns) (numbers_of rest)

none_in_front : (r : Option (List ℕ)) → r ≡ option_map (λ (ns : List ℕ). [] ++ ns) r
none_in_front (Some ns) = refl
none_in_front None = refl

pub front_none : (words : Words) → AreFront words [] words
front_none words = none_in_front (numbers_of words)

one_in_front : (front : List ℕ) (n : ℕ) (r : Option (List ℕ)) → option_map (λ (ns : List ℕ). front ++ ns) (r >>= (λ ns. Some (n ∷ ns))) ≡ option_map (λ (ns : List ℕ). (front ++ n ∷ []) ++ ns) r
one_in_front front n (Some ns) = ap (λ (ms : List ℕ). Some ms) (sym (append_assoc front (n ∷ []) ns))
one_in_front front n None = refl

numbers_of_first : (n : ℕ) (words : Words) → n < 2 ^ 32 → numbers_of (decimal n ∷ words) ≡ (numbers_of words >>= (λ ns. Some (n ∷ ns)))
numbers_of_first n words small = rw (number_again (2 ^ 32) n small (omega (arith, small))) refl

-- a number more
pub front_more : (words front_words : Words) (front : List ℕ) (x : ℕ × Words) → AreFront words front front_words → number_at (2 ^ 32) front_words ≡ Some x → AreFront words (front ++ x.0 ∷ []) x.1
front_more words rest front x read e =
    let number = number_taken (2 ^ 32) rest x (omega arith) e in
    read
    ∙ ap (λ (w : Words). option_map (λ (ns : List ℕ). front ++ ns) (numbers_of w)) number.word
    ∙ ap (option_map (λ (ns : List ℕ). front ++ ns)) (numbers_of_first x.0 x.1 number.fits)
    ∙ one_in_front front x.0 (numbers_of x.1)

abbrev pair_with : Words → ℕ → Option (ℕ × Words)
pair_with words n = Some (n, words)

no_number : (r : Option ℕ) (words : Words) → (r >>= pair_with words) ≡ None → r ≡ None
no_number (Some n) words e = absurd cc
no_number None words e = refl

no_numbers : (rest : Words) → ¬ (rest ≡ []) → number_at (2 ^ 32) rest ≡ None → numbers_of rest ≡ None
unfolding number_at
no_numbers [] more e = absurd (more refl)
no_numbers (word ∷ words) more e = rw (no_number (number_of (2 ^ 32) word) words e) refl

pub fewer_left : (words : Words) (x : ℕ × Words) → number_at (2 ^ 32) words ≡ Some x → length x.1 < length words
fewer_left words x e =
    let number = number_taken (2 ^ 32) words x (omega arith) e in
    rw number.word (omega arith)

-- a word that is no number
pub front_fails : (words rest : Words) (front : List ℕ) (cause : Refusal) → AreFront words front rest → ¬ (rest ≡ []) → Fails cause (number_at (2 ^ 32) rest) → Fails cause (numbers_at words)
unfolding numbers_at
front_fails words rest front NoMemory read more fails = tt
front_fails words rest front Fault read more fails = rw (read, no_numbers rest more fails) refl

-- no word is left
pub front_all : (words rest : Words) (front : List ℕ) → AreFront words front rest → rest ≡ [] → numbers_at words ≡ Some (front, rest)
unfolding numbers_at
front_all words [] front read done = rw (read, append-nil front) refl
front_all words (word ∷ rest) front read done = absurd cc

-- what an error is passed on for
pub passed_on : {X A : Type 0} (view : X → A) (result : Result X Refusal) (cause : Refusal) (read : Option A) → IsErrAnd result (λ e. e ≡ cause) → Fails cause read → Gives view result read
passed_on view (Ok x) cause read h fails = absurd h
passed_on view (Err e) cause read h fails = subst (λ (c : Refusal). Fails c read) (sym h) fails
