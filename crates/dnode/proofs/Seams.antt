-- Cutting blocks into their fields, and joining them.
use Rattle.std.proofs.Common.{◌≡◌, ℕ, ◌+◌, List, ◌++◌, length, take, drop, refl, sym, ap, ◌∙◌}
use Rattle.std.specs.Prelude.{replicate}
use Rattle.std.proofs.lemmas.List.{take_at, drop_at, take-append-drop, drop-drop}

-- what is left behind one more field
rest_behind : (a b : ℕ) (xs part rest : List ℕ) → drop a xs ≡ part ++ rest → length part ≡ b → drop (a + b) xs ≡ rest
rest_behind a b xs part rest e len = sym (drop-drop b a xs) ∙ ap (drop b) e ∙ drop_at part rest b len

-- a field and what is left behind it
field_behind : (a b : ℕ) (xs : List ℕ) → drop a xs ≡ take b (drop a xs) ++ drop (a + b) xs
field_behind a b xs = sym (take-append-drop b (drop a xs)) ∙ ap (λ (r : List ℕ). take b (drop a xs) ++ r) (drop-drop b a xs)

-- the fields of a dnode, by the places where the code cuts it
pub record NodeCut (bytes head words pointer zeros : List ℕ) : Type 0 where
  pub head_is : take 8 bytes ≡ head
  pub words_are : take 56 (drop 8 bytes) ≡ words
  pub pointer_is : take 128 (drop 64 bytes) ≡ pointer
  pub zeros_are : drop 192 bytes ≡ zeros

pub cut_node : (bytes head words pointer zeros : List ℕ) → length head ≡ 8 → length words ≡ 56 → length pointer ≡ 128 → bytes ≡ head ++ (words ++ (pointer ++ zeros)) → NodeCut bytes head words pointer zeros
cut_node bytes head words pointer zeros head_len words_len pointer_len e =
    let at8 : drop 8 bytes ≡ words ++ (pointer ++ zeros) = ap (drop 8) e ∙ drop_at head (words ++ (pointer ++ zeros)) 8 head_len in
    let at64 : drop 64 bytes ≡ pointer ++ zeros = rest_behind 8 56 bytes words (pointer ++ zeros) at8 words_len in
    record {
      head_is = ap (take 8) e ∙ take_at head (words ++ (pointer ++ zeros)) 8 head_len;
      words_are = ap (take 56) at8 ∙ take_at words (pointer ++ zeros) 56 words_len;
      pointer_is = ap (take 128) at64 ∙ take_at pointer zeros 128 pointer_len;
      zeros_are = rest_behind 64 128 bytes pointer zeros at64 pointer_len;
    }

pub join_node : (bytes head words pointer zeros : List ℕ) → NodeCut bytes head words pointer zeros → bytes ≡ head ++ (words ++ (pointer ++ zeros))
join_node bytes head words pointer zeros parts =
    let at64 : drop 64 bytes ≡ pointer ++ zeros = field_behind 64 128 bytes ∙ ap (λ (x : List ℕ). x ++ drop 192 bytes) parts.pointer_is ∙ ap (λ (x : List ℕ). pointer ++ x) parts.zeros_are in
    let at8 : drop 8 bytes ≡ words ++ (pointer ++ zeros) = field_behind 8 56 bytes ∙ ap (λ (x : List ℕ). x ++ drop 64 bytes) parts.words_are ∙ ap (λ (x : List ℕ). words ++ x) at64 in
    sym (take-append-drop 8 bytes) ∙ ap (λ (x : List ℕ). x ++ drop 8 bytes) parts.head_is ∙ ap (λ (x : List ℕ). head ++ x) at8

-- the fields of an object set
pub record SetCut (bytes node words zeros : List ℕ) : Type 0 where
  pub node_is : take 512 bytes ≡ node
  pub words_are : take 16 (drop 512 bytes) ≡ words
  pub zeros_are : drop 528 bytes ≡ zeros

pub cut_set : (bytes node words zeros : List ℕ) → length node ≡ 512 → length words ≡ 16 → bytes ≡ node ++ (words ++ zeros) → SetCut bytes node words zeros
cut_set bytes node words zeros node_len words_len e =
    let at512 : drop 512 bytes ≡ words ++ zeros = ap (drop 512) e ∙ drop_at node (words ++ zeros) 512 node_len in
    record {
      node_is = ap (take 512) e ∙ take_at node (words ++ zeros) 512 node_len;
      words_are = ap (take 16) at512 ∙ take_at words zeros 16 words_len;
      zeros_are = rest_behind 512 16 bytes words zeros at512 words_len;
    }

pub join_set : (bytes node words zeros : List ℕ) → SetCut bytes node words zeros → bytes ≡ node ++ (words ++ zeros)
join_set bytes node words zeros parts =
    let at512 : drop 512 bytes ≡ words ++ zeros = field_behind 512 16 bytes ∙ ap (λ (x : List ℕ). x ++ drop 528 bytes) parts.words_are ∙ ap (λ (x : List ℕ). words ++ x) parts.zeros_are in
    sym (take-append-drop 512 bytes) ∙ ap (λ (x : List ℕ). x ++ drop 512 bytes) parts.node_is ∙ ap (λ (x : List ℕ). node ++ x) at512

-- an object set whose node and words are put over zeros
pub set_put : (node words one two : List ℕ) → length node ≡ 512 → one ≡ node ++ replicate 512 0 → two ≡ take 512 one ++ (words ++ drop 528 one) → two ≡ node ++ (words ++ replicate 496 0)
set_put node words one two len first second =
    let zeros : List ℕ = replicate 512 0 in
    let front : take 512 one ≡ node = ap (take 512) first ∙ take_at node zeros 512 len in
    let back : drop 528 one ≡ replicate 496 0 = rest_behind 512 16 one (replicate 16 0) (replicate 496 0) (ap (drop 512) first ∙ drop_at node zeros 512 len) refl in
    second ∙ rw (front, back) refl
