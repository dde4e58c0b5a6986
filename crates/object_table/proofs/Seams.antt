-- Cutting a table into its parts, and joining them.
use Rattle.std.proofs.Common.{◌≡◌, ℕ, ◌+◌, ◌-◌, ◌≤◌, List, ◌++◌, length, take, drop, sym, ap, ◌∙◌, append_assoc, arith}
use Rattle.std.specs.Prelude.{replicate}
use Rattle.std.proofs.lemmas.List.{take_at, drop_at, take-append-drop, drop-drop, length-append, length-replicate, take-replicate, drop-replicate}

-- the parts of a table, by the places where the code cuts it
pub record TableCut (bytes word blank rows zeros : List ℕ) (first_len len : ℕ) : Type 0 where
  pub word_is : take 8 (take first_len bytes) ≡ word
  pub blank_is : drop 8 (take first_len bytes) ≡ blank
  pub rows_are : take len (drop first_len bytes) ≡ rows
  pub zeros_are : drop len (drop first_len bytes) ≡ zeros

pub cut_table : (bytes word blank rows zeros : List ℕ) (first_len len : ℕ) → length word ≡ 8 → 8 + length blank ≡ first_len → length rows ≡ len
    → bytes ≡ word ++ (blank ++ (rows ++ zeros)) → TableCut bytes word blank rows zeros first_len len
cut_table bytes word blank rows zeros first_len len word_len blank_len rows_len e =
    let whole : bytes ≡ (word ++ blank) ++ (rows ++ zeros) = e ∙ sym (append_assoc word blank (rows ++ zeros)) in
    let front_len : length (word ++ blank) ≡ first_len = omega (arith, length-append word blank) in
    let front : take first_len bytes ≡ word ++ blank = ap (take first_len) whole ∙ take_at (word ++ blank) (rows ++ zeros) first_len front_len in
    let back : drop first_len bytes ≡ rows ++ zeros = ap (drop first_len) whole ∙ drop_at (word ++ blank) (rows ++ zeros) first_len front_len in
    record {
      word_is = ap (take 8) front ∙ take_at word blank 8 word_len;
      blank_is = ap (drop 8) front ∙ drop_at word blank 8 word_len;
      rows_are = ap (take len) back ∙ take_at rows zeros len rows_len;
      zeros_are = ap (drop len) back ∙ drop_at rows zeros len rows_len;
    }

pub join_table : (bytes word blank rows zeros : List ℕ) (first_len len : ℕ) → TableCut bytes word blank rows zeros first_len len
    → bytes ≡ word ++ (blank ++ (rows ++ zeros))
join_table bytes word blank rows zeros first_len len parts =
    let front : take first_len bytes ≡ word ++ blank =
    sym (take-append-drop 8 (take first_len bytes)) ∙ ap (λ (x : List ℕ). x ++ drop 8 (take first_len bytes)) parts.word_is ∙ ap (λ (x : List ℕ). word ++ x) parts.blank_is in
    let back : drop first_len bytes ≡ rows ++ zeros =
    sym (take-append-drop len (drop first_len bytes)) ∙ ap (λ (x : List ℕ). x ++ drop len (drop first_len bytes)) parts.rows_are ∙ ap (λ (x : List ℕ). rows ++ x) parts.zeros_are in
    sym (take-append-drop first_len bytes) ∙ ap (λ (x : List ℕ). x ++ drop first_len bytes) front ∙ ap (λ (x : List ℕ). (word ++ blank) ++ x) back
    ∙ append_assoc word blank (rows ++ zeros)

-- two fields that are put over zeros, one at the front
pub put_over : (len first_len : ℕ) (word rows zeros one two : List ℕ) → length word ≡ 8 → 8 ≤ first_len → first_len + length rows ≤ len → zeros ≡ replicate len 0
    → one ≡ take 0 zeros ++ (word ++ drop (0 + length word) zeros) → two ≡ take first_len one ++ (rows ++ drop (first_len + length rows) one)
    → two ≡ word ++ (replicate (first_len - 8) 0 ++ (rows ++ replicate (len - (first_len + length rows)) 0))
put_over len first_len word rows zeros one two word_len word_fits room are_zeros first second =
    let none : ℕ = 0 in
    let blank : List ℕ = replicate (first_len - 8) 0 in
    let rest : List ℕ = replicate (len - first_len) 0 in
    let tail : drop (0 + length word) zeros ≡ replicate (len - 8) 0 =
    ap (drop (0 + length word)) are_zeros ∙ drop-replicate (0 + length word) len none ∙ ap (λ n. replicate n none) (omega (arith, word_len)) in
    let split : replicate (len - 8) 0 ≡ blank ++ rest =
    sym (take-append-drop (first_len - 8) (replicate (len - 8) none))
    ∙ ap (λ (x : List ℕ). x ++ drop (first_len - 8) (replicate (len - 8) none)) (take-replicate (first_len - 8) (len - 8) none (omega (arith, room)))
    ∙ ap (λ (x : List ℕ). blank ++ x) (drop-replicate (first_len - 8) (len - 8) none ∙ ap (λ n. replicate n none) (omega (arith, word_fits, room))) in
    let whole : one ≡ (word ++ blank) ++ rest = first ∙ ap (λ (x : List ℕ). word ++ x) (tail ∙ split) ∙ sym (append_assoc word blank rest) in
    let front_len : length (word ++ blank) ≡ first_len = omega (arith, length-append word blank, length-replicate (first_len - 8) none, word_len, word_fits) in
    let front : take first_len one ≡ word ++ blank = ap (take first_len) whole ∙ take_at (word ++ blank) rest first_len front_len in
    let back : drop first_len one ≡ rest = ap (drop first_len) whole ∙ drop_at (word ++ blank) rest first_len front_len in
    let behind : drop (first_len + length rows) one ≡ replicate (len - (first_len + length rows)) 0 =
    sym (drop-drop (length rows) first_len one) ∙ ap (drop (length rows)) back ∙ drop-replicate (length rows) (len - first_len) none ∙ ap (λ n. replicate n none) (omega arith) in
    second ∙ ap (λ (x : List ℕ). x ++ (rows ++ drop (first_len + length rows) one)) front ∙ ap (λ (x : List ℕ). (word ++ blank) ++ (rows ++ x)) behind
    ∙ append_assoc word blank (rows ++ replicate (len - (first_len + length rows)) 0)
