-- Lines that are written word by word.
use Rattle.std.proofs.Common.{◌≡◌, ℕ, List, [], ◌∷◌, ◌++◌, map, refl, sym, ◌∙◌}
use Rattle.std.specs.List.{join_with_byte, flat_map}
use Rattle.std.specs.Fmt.{decimal}
use Rattle.std.proofs.lemmas.List.{append-nil, append_assoc}
use Rattle.schedule_lines.specs.Spelling.{with_words, spelled}

-- a word more in front
joined_onto : (line word : List ℕ) (words : List (List ℕ)) → join_with_byte 32 ((line ++ 32 ∷ word) ∷ words) ≡ line ++ (32 ∷ join_with_byte 32 (word ∷ words))
joined_onto line word [] = refl
joined_onto line word (next ∷ words) = append_assoc line (32 ∷ word) (32 ∷ join_with_byte 32 (next ∷ words))

with_words_joined : (line : List ℕ) (words : List (List ℕ)) → with_words line words ≡ join_with_byte 32 (line ∷ words)
with_words_joined line [] = refl
with_words_joined line (word ∷ words) = with_words_joined (line ++ 32 ∷ word) words ∙ joined_onto line word words

pub spelled_joined : (words : List (List ℕ)) → spelled words ≡ join_with_byte 32 words
spelled_joined [] = refl
spelled_joined (word ∷ words) = with_words_joined word words

pub with_numbers : (line : List ℕ) (numbers : List ℕ) → with_words line (map decimal numbers) ≡ line ++ flat_map (λ n. 32 ∷ decimal n) numbers
with_numbers line [] = sym (append-nil line)
with_numbers line (n ∷ numbers) =
    with_numbers (line ++ 32 ∷ decimal n) numbers ∙ append_assoc line (32 ∷ decimal n) (flat_map (λ n. 32 ∷ decimal n) numbers)
