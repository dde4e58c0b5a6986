-- Words that are written one behind the other.
use Rattle.std.specs.Prelude.{ℕ, List, [], ◌∷◌, ◌++◌}

-- a line, and behind it the words, each behind a space
abbrev pub with_words : List ℕ → List (List ℕ) → List ℕ
with_words line [] = line
with_words line (word ∷ words) = with_words (line ++ 32 ∷ word) words

-- the words, one space between two
abbrev pub spelled : List (List ℕ) → List ℕ
spelled [] = []
spelled (word ∷ words) = with_words word words
