-- Lists of words, cut at spaces and joined by them.
use Rattle.std.proofs.Common.{◌≡◌, ◌≢◌, ℕ, ◌+◌, Bool, true, false, cond, not, nat_lt, nat_eq, List, [], ◌∷◌, ◌++◌, length, take, drop, Option, Some, None, is_some, Bor, IsTrue, ◌↔◌, refl, sym, ap, subst, ◌∙◌, arith}
use Rattle.std.specs.List.{AllByRecursion, slice_split, onto_first, join_with_byte, position, position_or_len}
use Rattle.std.specs.Option.{option_copied}
use Rattle.std.proofs.lemmas.Bool.{ltb-true, ltb-false}
use Rattle.std.proofs.lemmas.Grind.{common_steps}
use Rattle.std.proofs.lemmas.List.Splits.{slice_split_first, slice_split_none}
use Rattle.std.proofs.lemmas.List.Sums.{fails_before_first}
use Rattle.schedule_lines.specs.Reading.{words_left, end_at}

abbrev pub is_space : ℕ → Bool
is_space b = nat_eq b 32

abbrev pub Spaceless : List ℕ → Type 0
Spaceless word = AllByRecursion (λ b. b ≢ 32) word

unended : (t : Bool) (b : ℕ) (ws vs : List (List ℕ)) → end_at (cond t ([] ∷ ws) (onto_first b vs)) ≡ None
unended true b ws vs = refl
unended false b ws [] = refl
unended false b ws (v ∷ vs) = refl

-- a text has a first word
pub some_word_left : (bytes : List ℕ) → end_at (slice_split is_space bytes) ≡ None
some_word_left [] = refl
some_word_left (b ∷ bytes) = unended (is_space b) b (slice_split is_space bytes) (slice_split is_space bytes)

-- words are left behind the last one that was taken, or none are
pub none_left : (rest : Option (Bor (List ℕ))) (done : Bool) (words : List (List ℕ)) → is_some rest ≡ not done → words_left (option_copied rest) ≡ words → IsTrue done ↔ (words ≡ [])
none_left None true words tested e = ((λ is. sym e), (λ none. refl))
none_left None false words tested e = absurd cc
none_left (Some bytes) true words tested e = absurd cc
none_left (Some bytes) false words tested e = ((λ is. absurd cc), (λ none. let first = some_word_left bytes.now in let same = ap end_at (e ∙ none) in absurd cc))

-- ---- one word cut off

space_is : (b : ℕ) → b ≡ 32 → is_space b ≡ true
space_is b e = rw e refl

no_space_is : (b : ℕ) → b ≢ 32 → is_space b ≡ false
no_space_is b h = grind (arith, common_steps)

split_onto : (t : Bool) (b : ℕ) (word : List ℕ) (parts rest : List (List ℕ)) → t ≡ false → parts ≡ word ∷ rest → cond t ([] ∷ parts) (onto_first b parts) ≡ (b ∷ word) ∷ rest
split_onto t b word parts rest other one = rw (other, one) refl

-- a word without a space is one part
pub split_one : (word : List ℕ) → Spaceless word → slice_split is_space word ≡ word ∷ []
split_one [] h = refl
split_one (b ∷ word) h = split_onto (is_space b) b word (slice_split is_space word) [] (no_space_is b h.0) (split_one word h.1)

-- and before a space it is the first part
pub split_before : (word rest : List ℕ) → Spaceless word → slice_split is_space (word ++ 32 ∷ rest) ≡ word ∷ slice_split is_space rest
split_before [] rest h = refl
split_before (b ∷ word) rest h = split_onto (is_space b) b word (slice_split is_space (word ++ 32 ∷ rest)) (slice_split is_space rest) (no_space_is b h.0) (split_before word rest h.1)

-- words joined by spaces are cut at them
pub split_joined : (word : List ℕ) (words : List (List ℕ)) → AllByRecursion Spaceless (word ∷ words) → slice_split is_space (join_with_byte 32 (word ∷ words)) ≡ word ∷ words
split_joined word [] h = split_one word h.0
split_joined word (next ∷ words) h = split_before word (join_with_byte 32 (next ∷ words)) h.0 ∙ ap (λ (ws : List (List ℕ)). word ∷ ws) (split_joined next words h.1)

-- the parts have no space
parts_onto : (t : Bool) (b : ℕ) (parts : List (List ℕ)) → is_space b ≡ t → AllByRecursion Spaceless parts → AllByRecursion Spaceless (cond t ([] ∷ parts) (onto_first b parts))
parts_onto true b parts e h = (tt, h)
parts_onto false b [] e h = ((grind (arith, common_steps), tt), tt)
parts_onto false b (part ∷ parts) e h = ((grind (arith, common_steps), h.0), h.1)

pub parts_spaceless : (bytes : List ℕ) → AllByRecursion Spaceless (slice_split is_space bytes)
parts_spaceless [] = (tt, tt)
parts_spaceless (b ∷ bytes) = parts_onto (is_space b) b (slice_split is_space bytes) refl (parts_spaceless bytes)

-- ---- by the place of the first space

split_at_position : (bytes : List ℕ) (end : ℕ) (t : Bool) → nat_lt (position_or_len is_space bytes) (length bytes) ≡ t → cond t (Some (position_or_len is_space bytes)) None ≡ Some end → slice_split is_space bytes ≡ take end bytes ∷ slice_split is_space (drop (end + 1) bytes)
split_at_position bytes end true l e =
    let at : position_or_len is_space bytes ≡ end = cc in
    subst (λ (n : ℕ). slice_split is_space bytes ≡ take n bytes ∷ slice_split is_space (drop (n + 1) bytes)) at (slice_split_first is_space bytes 0 (ltb-true _ _ l))
split_at_position bytes end false l e = absurd cc

pub split_at_space : (bytes : List ℕ) (end : ℕ) → position is_space bytes ≡ Some end → slice_split is_space bytes ≡ take end bytes ∷ slice_split is_space (drop (end + 1) bytes)
split_at_space bytes end e = split_at_position bytes end (nat_lt (position_or_len is_space bytes) (length bytes)) refl e

unsplit : (t : Bool) (place : ℕ) → cond t (Some place) None ≡ None → t ≡ false
unsplit true place e = absurd cc
unsplit false place e = refl

pub split_at_none : (bytes : List ℕ) → position is_space bytes ≡ None → slice_split is_space bytes ≡ bytes ∷ []
split_at_none bytes e =
    let far = ltb-false _ _ (unsplit (nat_lt (position_or_len is_space bytes) (length bytes)) (position_or_len is_space bytes) e) in
    slice_split_none is_space bytes (λ k d h. fails_before_first is_space bytes k d (omega (arith, far, h)))
