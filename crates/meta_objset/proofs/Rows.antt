-- Rows of the directory as bytes, and their order.
use Rattle.std.proofs.Common.{◌≡◌, ℕ, ◌-◌, ◌*◌, ◌<◌, List, [], ◌∷◌, ◌++◌, length, take, drop, get_or, All, AllPairs, inl, inr, refl, sym, ap, subst, ◌∙◌, arith}
use Rattle.std.proofs.Math.ListN.{get_or-append}
use Rattle.std.proofs.Math.Seq.{get_or-append_seam, take-length}
use Rattle.std.proofs.lemmas.Bool.{cases_lt}
use Rattle.std.proofs.lemmas.Cmp.{nat_list_cmp_total}
use Rattle.std.proofs.lemmas.List.{length-append, length-drop, take_at, drop_at, take-append-drop}
use Rattle.std.proofs.lemmas.List.Elements.{All-head, All-tail, All-from_get_or}
use Rattle.std.proofs.lemmas.List.Quantifiers.{all_pairs_push}
use Rattle.words.specs.Words.{word_bytes}
use Rattle.words.proofs.WordLemmas.{length-word_bytes}
use Rattle.meta_objset.specs.declared.directory.DirectoryRow.{DirectoryRow}
use Rattle.meta_objset.specs.Directory.{FitsRow, IsDirectory, SpellsRow, row_bytes, rows_bytes}
use Rattle.meta_objset.specs.Names.{IsBefore}
use Rattle.meta_objset.proofs.Naming.{padded_len}
use Rattle.meta_objset.proofs.InOrder.{AreRead, first_left}

pub name_len : (row : DirectoryRow) → FitsRow row → length row.name ≡ 56
name_len row fits = padded_len row.name fits.name.0 fits.name.1

pub row_len : (row : DirectoryRow) → FitsRow row → length (row_bytes row) ≡ 64
row_len row fits = omega (arith, length-append row.name (word_bytes (row.object ∷ [])), length-word_bytes (row.object ∷ []), name_len row fits)

pub rows_len : (rows : List DirectoryRow) → All FitsRow rows → length (rows_bytes rows) ≡ 64 * length rows
rows_len [] each = refl
rows_len (row ∷ rows) each =
    let rest = rows_len rows (All-tail FitsRow row rows each) in
    omega (arith, length-append (row_bytes row) (rows_bytes rows), row_len row (All-head FitsRow row rows each), rest)

pub same_row : (row : DirectoryRow) (name : List ℕ) (object : ℕ) → name ≡ row.name → object ≡ row.object → ◌≡◌ {A = DirectoryRow} (record { name = name; object = object }) row
same_row row name object same_name same_object = λ i. record { name = same_name i; object = same_object i }

abbrev pub Before : DirectoryRow → DirectoryRow → Type 0
Before row later = IsBefore row.name later.name

-- what stands behind the last row stands behind each
pub behind_each : (rows : List DirectoryRow) (last row : DirectoryRow) → AllPairs Before rows → 0 < length rows → get_or rows (length rows - 1) last ≡ last → Before last row → All (λ before. Before before row) rows
behind_each rows last row order some is behind =
    All-from_get_or (λ before. Before before row) rows last
    (λ k lt. elim (cases_lt k (length rows - 1)) [
      | inl before ↦ nat_list_cmp_total.trans (get_or rows k last).name last.name row.name
          (subst (λ (later : DirectoryRow). Before (get_or rows k last) later) is (order k (length rows - 1) last before (omega (arith, some)))) behind
      | inr most ↦ let at : length rows - 1 ≡ k = omega (arith, most, lt) in subst (λ (before : DirectoryRow). Before before row) (sym is ∙ ap (λ n. get_or rows n last) at) behind
    ])

-- a row behind others in a directory stands behind each of them
pub in_front : (rows others : List DirectoryRow) (row : DirectoryRow) → AllPairs Before (rows ++ row ∷ others) → All (λ before. Before before row) rows
in_front rows others row order =
    All-from_get_or (λ before. Before before row) rows row
    (λ k lt. subst (λ (before : DirectoryRow). Before before row) (get_or-append rows (row ∷ others) row k lt)
    (subst (λ (later : DirectoryRow). Before (get_or (rows ++ row ∷ others) k row) later) (get_or-append_seam rows row others row)
    (order k (length rows) row lt (omega (arith, length-append rows (row ∷ others))))))

pub pushed_order : (rows : List DirectoryRow) (row : DirectoryRow) → AllPairs Before rows → All (λ before. Before before row) rows → AllPairs Before (rows ++ row ∷ [])
pushed_order rows row order behind = all_pairs_push Before rows row order (λ k d lt. behind k d lt)

-- the rows read so far
pub record IsUnderway (bytes rest : List ℕ) (rows : List DirectoryRow) : Type 0 where
  pub read : AreRead row_bytes FitsRow bytes rest rows
  pub order : AllPairs Before rows

-- a row that stands at the front of what is left stands behind those that were read, in any directory
pub next_is_behind : (bytes rest more : List ℕ) (rows : List DirectoryRow) (row : DirectoryRow) → AreRead row_bytes FitsRow bytes rest rows → 0 < length rest
    → ((other : DirectoryRow) (behind : List ℕ) → FitsRow other → rest ≡ row_bytes other ++ behind → (row ≡ other) × (more ≡ behind))
    → (whole : List DirectoryRow) → IsDirectory whole → bytes ≡ rows_bytes whole → All (λ before. Before before row) rows
next_is_behind bytes rest more rows row so_far some one whole is spelled =
    let known = so_far.only whole is.each spelled in
    let first = first_left row_bytes FitsRow rest known.0 some known.1 known.3 in
    let same = one first.0 (rows_bytes first.1) first.3 first.4 in
    let back : whole ≡ rows ++ row ∷ first.1 = known.2 ∙ ap (λ (left : List DirectoryRow). rows ++ left) (first.2 ∙ ap (λ (r : DirectoryRow). r ∷ first.1) (sym same.0)) in
    in_front rows first.1 row (subst (AllPairs Before) back is.order)

take_whole : (xs : List ℕ) (n : ℕ) → length xs ≡ n → take n xs ≡ xs
take_whole xs n len = ap (λ k. take k xs) (sym len) ∙ take-length xs

-- a row by the places where the code cuts it
pub row_parts : (bytes : List ℕ) (row : DirectoryRow) → SpellsRow bytes row → (take 56 bytes ≡ row.name) × (take 8 (drop 56 bytes) ≡ word_bytes (row.object ∷ []))
row_parts bytes row spells =
    let word = word_bytes (row.object ∷ []) in
    let len = name_len row spells.0 in (
      ap (take 56) spells.1 ∙ take_at row.name word 56 len,
      ap (take 8) (ap (drop 56) spells.1 ∙ drop_at row.name word 56 len) ∙ take_whole word 8 (length-word_bytes (row.object ∷ [])),
    )

pub row_joined : (bytes name : List ℕ) (object : ℕ) → length bytes ≡ 64 → name ≡ take 56 bytes → take 8 (drop 56 bytes) ≡ word_bytes (object ∷ []) → bytes ≡ name ++ word_bytes (object ∷ [])
row_joined bytes name object len name_is object_is =
    let left : length (drop 56 bytes) ≡ 8 = omega (arith, length-drop 56 bytes, len) in
    sym (take-append-drop 56 bytes) ∙ ap (λ (x : List ℕ). x ++ drop 56 bytes) (sym name_is) ∙ ap (λ (x : List ℕ). name ++ x) (sym (take_whole (drop 56 bytes) 8 left) ∙ object_is)

-- no rows have no bytes
pub none_left : (left : List DirectoryRow) (rest : List ℕ) → All FitsRow left → rest ≡ rows_bytes left → length rest ≡ 0 → left ≡ []
none_left [] rest each e none = refl
none_left (row ∷ rows) rest each e none =
    absurd (omega (arith, ap length e, none, length-append (row_bytes row) (rows_bytes rows), row_len row (All-head FitsRow row rows each)))
