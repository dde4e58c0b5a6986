-- Cutting the front of a slot into its fields.
use Rattle.std.proofs.Common.{◌≡◌, ℕ, ◌+◌, List, ◌++◌, length, take, drop, sym, ap, ◌∙◌}
use Rattle.std.proofs.lemmas.List.{take_at, drop_at, take-append-drop, drop-drop}

-- the fields of a front, by the places where the code cuts it
pub record Cut (front head root claim digest zeros : List ℕ) : Type 0 where
  pub head_is : take 40 front ≡ head
  pub root_is : take 128 (drop 40 front) ≡ root
  pub claim_is : take 8 (drop 168 front) ≡ claim
  pub digest_is : take 32 (drop 176 front) ≡ digest
  pub zeros_are : drop 208 front ≡ zeros

-- what is left behind one more field
rest_behind : (a b : ℕ) (xs part rest : List ℕ) → drop a xs ≡ part ++ rest → length part ≡ b → drop (a + b) xs ≡ rest
rest_behind a b xs part rest e len = sym (drop-drop b a xs) ∙ ap (drop b) e ∙ drop_at part rest b len

pub cut_front : (front head root claim digest zeros : List ℕ) → length head ≡ 40 → length root ≡ 128 → length claim ≡ 8 → length digest ≡ 32
    → front ≡ head ++ (root ++ (claim ++ (digest ++ zeros))) → Cut front head root claim digest zeros
cut_front front head root claim digest zeros head_len root_len claim_len digest_len e =
    let at40 : drop 40 front ≡ root ++ (claim ++ (digest ++ zeros)) = ap (drop 40) e ∙ drop_at head (root ++ (claim ++ (digest ++ zeros))) 40 head_len in
    let at168 : drop 168 front ≡ claim ++ (digest ++ zeros) = rest_behind 40 128 front root (claim ++ (digest ++ zeros)) at40 root_len in
    let at176 : drop 176 front ≡ digest ++ zeros = rest_behind 168 8 front claim (digest ++ zeros) at168 claim_len in
    record {
      head_is = ap (take 40) e ∙ take_at head (root ++ (claim ++ (digest ++ zeros))) 40 head_len;
      root_is = ap (take 128) at40 ∙ take_at root (claim ++ (digest ++ zeros)) 128 root_len;
      claim_is = ap (take 8) at168 ∙ take_at claim (digest ++ zeros) 8 claim_len;
      digest_is = ap (take 32) at176 ∙ take_at digest zeros 32 digest_len;
      zeros_are = rest_behind 176 32 front digest zeros at176 digest_len;
    }

-- a field and what is left behind it
field_behind : (a b : ℕ) (xs : List ℕ) → drop a xs ≡ take b (drop a xs) ++ drop (a + b) xs
field_behind a b xs = sym (take-append-drop b (drop a xs)) ∙ ap (λ (r : List ℕ). take b (drop a xs) ++ r) (drop-drop b a xs)

pub join_front : (front head root claim digest zeros : List ℕ) → Cut front head root claim digest zeros → front ≡ head ++ (root ++ (claim ++ (digest ++ zeros)))
join_front front head root claim digest zeros parts =
    let at176 : drop 176 front ≡ digest ++ zeros = field_behind 176 32 front ∙ ap (λ (x : List ℕ). x ++ drop 208 front) parts.digest_is ∙ ap (λ (x : List ℕ). digest ++ x) parts.zeros_are in
    let at168 : drop 168 front ≡ claim ++ (digest ++ zeros) = field_behind 168 8 front ∙ ap (λ (x : List ℕ). x ++ drop 176 front) parts.claim_is ∙ ap (λ (x : List ℕ). claim ++ x) at176 in
    let at40 : drop 40 front ≡ root ++ (claim ++ (digest ++ zeros)) = field_behind 40 128 front ∙ ap (λ (x : List ℕ). x ++ drop 168 front) parts.root_is ∙ ap (λ (x : List ℕ). root ++ x) at168 in
    sym (take-append-drop 40 front) ∙ ap (λ (x : List ℕ). x ++ drop 40 front) parts.head_is ∙ ap (λ (x : List ℕ). head ++ x) at40
