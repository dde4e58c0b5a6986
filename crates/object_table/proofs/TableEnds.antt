-- The first and the last block of a table.
use Rattle.std.proofs.Common.{◌≡◌, ℕ, zero, suc, ◌+◌, ◌-◌, ◌*◌, ◌/◌, ◌^◌, ◌<◌, ◌≤◌, List, [], ◌∷◌, ◌++◌, length, take, drop, replicate, refl, sym, ap, subst, ◌∙◌, append_assoc, arith}
use Rattle.std.proofs.lemmas.List.{take_at, drop_at, take_all, take-take, drop-drop, length-append, length-take-le, length-drop, length-replicate}
use Rattle.std.proofs.Math.Nat.{mul-div_cancel}
use Rattle.words.specs.Words.{word_bytes}
use Rattle.words.proofs.WordLemmas.{length-word_bytes}
use Rattle.object_table.specs.declared.shape.RowShape.{RowShape}
use Rattle.object_table.specs.Rows.{SpellsRows}
use Rattle.object_table.specs.Shape.{FitsShape, AreRows}
use Rattle.object_table.specs.Ends.{AreEndsOfSome}
use Rattle.object_table.proofs.Seams.{TableCut, cut_table, join_table}

-- what the two blocks say of so many rows: their number, and zeros beside it and behind them
pub record FitEnds (shape : RowShape) (highest count : ℕ) (first last : List ℕ) : Type 0 where
  pub first_len : length first ≡ 4096
  pub last_len : length last ≡ 4096
  pub word : take 8 (take shape.first_len first) ≡ word_bytes (count ∷ [])
  pub blank : drop 8 (take shape.first_len first) ≡ replicate (shape.first_len - 8) 0
  pub small : count < 2 ^ 64
  pub above : highest * 4096 < shape.first_len + count * shape.row_len
  pub within : shape.first_len + count * shape.row_len ≤ highest * 4096 + 4096
  pub zeros : drop (shape.first_len + count * shape.row_len - highest * 4096) last
      ≡ replicate (highest * 4096 + 4096 - (shape.first_len + count * shape.row_len)) 0

-- bytes whose first and last blocks fit are those of a table
pub some_table : (shape : RowShape) (highest count : ℕ) (first last bytes : List ℕ) → FitsShape shape → FitEnds shape highest count first last → length bytes ≡ (highest + 1) * 4096
    → take 4096 bytes ≡ first → drop (highest * 4096) bytes ≡ last → AreEndsOfSome shape highest count first last
some_table shape highest count first last bytes fits ends size first_is last_is =
    let len : ℕ = count * shape.row_len in
    let place : ℕ = shape.first_len + len in
    let left : ℕ = highest * 4096 + 4096 - place in
    let front : take shape.first_len bytes ≡ take shape.first_len first = sym (take-take shape.first_len 4096 bytes fits.first) ∙ ap (take shape.first_len) first_is in
    let step : highest * 4096 + (place - highest * 4096) ≡ place = omega (arith, ends.above) in
    let back : drop len (drop shape.first_len bytes) ≡ drop (place - highest * 4096) last =
    drop-drop len shape.first_len bytes ∙ sym (ap (λ n. drop n bytes) step) ∙ sym (drop-drop (place - highest * 4096) (highest * 4096) bytes) ∙ ap (drop (place - highest * 4096)) last_is in
    let rows : List ℕ = take len (drop shape.first_len bytes) in
    let rows_len : length rows ≡ len = length-take-le len (drop shape.first_len bytes) (omega (arith, length-drop shape.first_len bytes, size, ends.within)) in
    let cut : TableCut bytes (word_bytes (count ∷ [])) (replicate (shape.first_len - 8) 0) rows (replicate left 0) shape.first_len len = record {
      word_is = ap (take 8) front ∙ ends.word;
      blank_is = ap (drop 8) front ∙ ends.blank;
      rows_are = refl;
      zeros_are = back ∙ ends.zeros;
    } in
    record {
      rows = rows;
      are_rows = rows_len;
      bytes = bytes;
      spelled = record {
        count = count;
        small = ends.small;
        are_rows = rows_len;
        zeros = left;
        few = omega (arith, ends.above);
        blocks = highest + 1;
        whole = size;
        spelled = join_table bytes (word_bytes (count ∷ [])) (replicate (shape.first_len - 8) 0) rows (replicate left 0) shape.first_len len cut;
      };
      size = size;
      first_is = first_is;
      last_is = last_is;
    }

-- two blocks that fit are those of some table
pub ends_of_some : (shape : RowShape) (highest count : ℕ) (first last : List ℕ) → FitsShape shape → FitEnds shape highest count first last → (highest ≡ 0 → last ≡ first)
    → AreEndsOfSome shape highest count first last
ends_of_some shape zero count first last fits ends same =
    some_table shape zero count first last first fits ends (omega (arith, ends.first_len)) (take_all 4096 first (omega (arith, ends.first_len))) (sym (same refl))
ends_of_some shape (suc below) count first last fits ends same =
    let none : ℕ = 0 in
    let middle : List ℕ = replicate (below * 4096) none in
    let middle_len : length middle ≡ below * 4096 = length-replicate (below * 4096) none in
    let before : length (first ++ middle) ≡ suc below * 4096 = omega (arith, length-append first middle, middle_len, ends.first_len) in
    some_table shape (suc below) count first last ((first ++ middle) ++ last) fits ends
    (omega (arith, length-append (first ++ middle) last, before, ends.last_len))
    (ap (take 4096) (append_assoc first middle last) ∙ take_at first (middle ++ last) 4096 ends.first_len)
    (drop_at (first ++ middle) last (suc below * 4096) before)

-- so many rows are no other number
rows_count : (shape : RowShape) (count other : ℕ) (rows : List ℕ) → FitsShape shape → AreRows shape count rows → AreRows shape other rows → count ≡ other
rows_count shape count other rows fits one two =
    sym (mul-div_cancel count fits.some) ∙ ap (λ n. n / shape.row_len) (sym one ∙ two) ∙ mul-div_cancel other fits.some

-- how long a table is
pub spelled_len : (shape : RowShape) (bytes rows : List ℕ) (fits : FitsShape shape) (spells : SpellsRows shape bytes rows) → length bytes ≡ shape.first_len + length rows + spells.zeros
spelled_len shape bytes rows fits spells =
    let none : ℕ = 0 in
    let word = word_bytes (spells.count ∷ []) in
    let blank : List ℕ = replicate (shape.first_len - 8) none in
    let zeros : List ℕ = replicate spells.zeros none in
    omega (
      arith,
      ap length spells.spelled,
      length-append word (blank ++ (rows ++ zeros)),
      length-append blank (rows ++ zeros),
      length-append rows zeros,
      length-word_bytes (spells.count ∷ []),
      length-replicate (shape.first_len - 8) none,
      length-replicate spells.zeros none,
      fits.word,
    )

-- and the two blocks of a table fit
pub ends_fit : (shape : RowShape) (highest count : ℕ) (first last : List ℕ) → FitsShape shape → AreEndsOfSome shape highest count first last → FitEnds shape highest count first last
ends_fit shape highest count first last fits some =
    let none : ℕ = 0 in
    let spells = some.spelled in
    let len : ℕ = count * shape.row_len in
    let place : ℕ = shape.first_len + len in
    let number : spells.count ≡ count = rows_count shape spells.count count some.rows fits spells.are_rows some.are_rows in
    let size : (highest + 1) * 4096 ≡ place + spells.zeros = sym some.size ∙ spelled_len shape some.bytes some.rows fits spells ∙ ap (λ n. shape.first_len + n + spells.zeros) some.are_rows in
    let blank_len : 8 + length (replicate (shape.first_len - 8) none) ≡ shape.first_len = omega (arith, length-replicate (shape.first_len - 8) none, fits.word) in
    let cut = cut_table some.bytes (word_bytes (spells.count ∷ [])) (replicate (shape.first_len - 8) 0) some.rows (replicate spells.zeros 0) shape.first_len len
    (length-word_bytes (spells.count ∷ [])) blank_len some.are_rows spells.spelled in
    let front : take shape.first_len first ≡ take shape.first_len some.bytes = ap (take shape.first_len) (sym some.first_is) ∙ take-take shape.first_len 4096 some.bytes fits.first in
    let above : highest * 4096 < place = omega (arith, size, spells.few) in
    let step : highest * 4096 + (place - highest * 4096) ≡ place = omega (arith, above) in
    let left : spells.zeros ≡ highest * 4096 + 4096 - place = omega (arith, size) in
    record {
      first_len = ap length (sym some.first_is) ∙ length-take-le 4096 some.bytes (omega (arith, some.size));
      last_len = ap length (sym some.last_is) ∙ length-drop (highest * 4096) some.bytes ∙ ap (λ n. n - highest * 4096) some.size ∙ omega arith;
      word = ap (take 8) front ∙ cut.word_is ∙ ap (λ n. word_bytes (n ∷ [])) number;
      blank = ap (drop 8) front ∙ cut.blank_is;
      small = subst (λ n. n < 2 ^ 64) number spells.small;
      above = above;
      within = omega (arith, size);
      zeros = ap (drop (place - highest * 4096)) (sym some.last_is) ∙ drop-drop (place - highest * 4096) (highest * 4096) some.bytes ∙ ap (λ n. drop n some.bytes) step
          ∙ sym (drop-drop len shape.first_len some.bytes) ∙ cut.zeros_are ∙ ap (λ n. replicate n 0) left;
    }

-- so many zeros are as many as they are
pub all_zeros : (bytes : List ℕ) (count : ℕ) → bytes ≡ replicate count 0 → bytes ≡ replicate (length bytes) 0
all_zeros bytes count are = let none : ℕ = 0 in are ∙ ap (λ n. replicate n none) (sym (ap length are ∙ length-replicate count none))
