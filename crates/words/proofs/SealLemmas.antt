-- An area with a seal, part by part.
use Rattle.std.proofs.Common.{◌≡◌, ℕ, ◌+◌, ◌-◌, ◌≤◌, List, ◌++◌, length, take, drop, refl, sym, ap, ◌∙◌, append_assoc, arith}
use Rattle.std.specs.Prelude.{replicate}
use Rattle.std.proofs.lemmas.List.{take_at, drop_at, take-append-drop, length-append, length-take}
use Rattle.sha2.specs.Sha256.{sha256}
use Rattle.sha2.proofs.Facts256.{length-sha256}
use Rattle.words.specs.Seal.{seal_word, sealed}

-- the digest that belongs behind these bytes
abbrev pub digest_behind : List ℕ → List ℕ
digest_behind bytes = sha256 (bytes ++ replicate 32 0)

-- the parts of a sealed area, by the places where the code cuts it
pub record SealParts (area front : List ℕ) : Type 0 where
  pub len : length area ≡ length front + 40
  pub front_is : take (length area - 40) area ≡ front
  pub word_is : take 8 (drop (length area - 40) area) ≡ seal_word
  pub digested_is : take (length area - 32) area ≡ front ++ seal_word
  pub digest_is : drop 8 (drop (length area - 40) area) ≡ digest_behind (front ++ seal_word)

pub length-sealed : (front : List ℕ) → length (sealed front) ≡ length front + 40
length-sealed front =
    let digest = digest_behind (front ++ seal_word) in
    let whole : length (sealed front) ≡ length (front ++ seal_word) + length digest = length-append (front ++ seal_word) digest in
    omega (arith, whole, length-append front seal_word, length-sha256 (front ++ seal_word ++ replicate 32 0))

pub seal_parts : (area front : List ℕ) → area ≡ sealed front → SealParts area front
seal_parts area front e =
    let digest = digest_behind (front ++ seal_word) in
    let len : length area ≡ length front + 40 = ap length e ∙ length-sealed front in
    let k : length area - 40 ≡ length front = omega arith in
    let m : length area - 32 ≡ length (front ++ seal_word) = omega (arith, length-append front seal_word) in
    let regrouped : area ≡ front ++ (seal_word ++ digest) = e ∙ append_assoc front seal_word digest in
    let tail : drop (length area - 40) area ≡ seal_word ++ digest = ap (drop (length area - 40)) regrouped ∙ drop_at front (seal_word ++ digest) (length area - 40) (sym k) in
    record {
      len = len;
      front_is = ap (take (length area - 40)) regrouped ∙ take_at front (seal_word ++ digest) (length area - 40) (sym k);
      word_is = ap (take 8) tail ∙ take_at seal_word digest 8 refl;
      digested_is = ap (take (length area - 32)) e ∙ take_at (front ++ seal_word) digest (length area - 32) (sym m);
      digest_is = ap (drop 8) tail ∙ drop_at seal_word digest 8 refl;
    }

-- an area whose word and digest are right is sealed
pub seal_made : (area : List ℕ) → 40 ≤ length area → take 8 (drop (length area - 40) area) ≡ seal_word
    → drop 8 (drop (length area - 40) area) ≡ digest_behind (take (length area - 32) area) → area ≡ sealed (take (length area - 40) area)
seal_made area long word digest =
    let k = length area - 40 in
    let front = take k area in
    let rest = drop 8 (drop k area) in
    let tail : drop k area ≡ seal_word ++ rest = sym (take-append-drop 8 (drop k area)) ∙ ap (λ (x : List ℕ). x ++ rest) word in
    let whole : area ≡ (front ++ seal_word) ++ rest = sym (take-append-drop k area) ∙ ap (λ (x : List ℕ). front ++ x) tail ∙ sym (append_assoc front seal_word rest) in
    let m : length (front ++ seal_word) ≡ length area - 32 = omega (arith, length-append front seal_word, length-take k area) in
    let digested : take (length area - 32) area ≡ front ++ seal_word = ap (take (length area - 32)) whole ∙ take_at (front ++ seal_word) rest (length area - 32) m in
    whole ∙ ap (λ (x : List ℕ). (front ++ seal_word) ++ x) (digest ∙ ap digest_behind digested)
