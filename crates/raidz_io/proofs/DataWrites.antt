-- The writes of columns that lie in a block one after the other.
use Rattle.std.proofs.Common.{ℕ, zero, suc, ◌≡◌, ◌+◌, ◌-◌, ◌*◌, ◌<◌, ◌≤◌, List, [], ◌∷◌, ◌++◌, length, map, take, drop, replicate, get_or, slice_index, sum, Some, All, refl, sym, ap, subst, ◌∙◌, arith, length-drop}
use Rattle.std.specs.List.{slice_get}
use Rattle.std.proofs.lemmas.List.{drop-append-le, take-append-drop, length-take-le, length-map, length-replicate, map-append}
use Rattle.std.proofs.lemmas.List.Sums.{sum_by-cons, sum_by-append}
use Rattle.std.proofs.lemmas.Option.{slice_get-get_or}
use Rattle.raidz_map.specs.declared.column.Column.{Column}
use Rattle.raidz_parity.specs.Layout.{Block, columns_of}
use Rattle.raidz_parity.specs.Parity.{IsParity}
use Rattle.raidz_io.specs.declared.vdev.Extent.{Extent}
use Rattle.raidz_io.specs.Stripe.{IsShaped}
use Rattle.raidz_io.specs.declared.vdev.Vdev.{Vdev}
use Rattle.raidz_io.specs.Writes.{ColumnWrite}
use Rattle.raidz_io.specs.Places.{sizes_of}
use Rattle.raidz_io.specs.Stands.{parity_of, all_columns, AreBytesOf, IsWriteOf, AreWritesOf}
use Rattle.raidz_io.proofs.Parts.{drop_drop, lengths-columns_of}
use Rattle.raidz_io.proofs.Sizes.{sizes_of_more}
use Rattle.raidz_io.proofs.Written.{AreWritesOf-push, AreWritesOf-append}

-- column i of the block
pub column_at : (layout : List Column) (i : ℕ) (d : Column) (block : List ℕ) → i < length layout
    → slice_get (columns_of (sizes_of layout) block) i
    ≡ Some (take ((get_or layout i d).sectors * 512) (drop (sum (sizes_of (take i layout))) block))
column_at [] i d block within = absurd (omega arith)
column_at (c ∷ layout) zero d block within = refl
column_at (c ∷ layout) (suc i) d block within =
    let n : ℕ = c.sectors * 512 in
    let rest : List ℕ = sizes_of (take i layout) in
    column_at layout i d (drop n block) (omega arith)
    ∙ ap (λ bytes. Some (take ((get_or layout i d).sectors * 512) bytes))
    (drop_drop n (sum rest) block ∙ ap (λ m. drop m block) (sym (sum_by-cons (λ m. m) n rest)))

pub column_within : (layout : List Column) (i : ℕ) (d : Column) → i < length layout
    → sum (sizes_of (take i layout)) + (get_or layout i d).sectors * 512 ≤ sum (sizes_of layout)
column_within [] i d within = absurd (omega arith)
column_within (c ∷ layout) zero d within = omega (arith, sum_by-cons (λ m. m) (c.sectors * 512) (sizes_of layout))
column_within (c ∷ layout) (suc i) d within =
    omega (
      arith,
      column_within layout i d (omega arith),
      sum_by-cons (λ m. m) (c.sectors * 512) (sizes_of layout),
      sum_by-cons (λ m. m) (c.sectors * 512) (sizes_of (take i layout)),
    )

-- how many bytes the columns have with one more
pub size_more : (layout : List Column) (i : ℕ) (d : Column) → i < length layout
    → sum (sizes_of (take (i + 1) layout)) ≡ sum (sizes_of (take i layout)) + (get_or layout i d).sectors * 512
size_more layout i d within =
    let n : ℕ = (get_or layout i d).sectors * 512 in
    omega (arith, ap sum (sizes_of_more layout i d within), sum_by-append (λ m. m) (sizes_of (take i layout)) (n ∷ []), sum_by-cons (λ m. m) n [])

-- one write more, after n others
pub data_written : (vdev : Vdev) (layout : List Column) (block : List ℕ) (writes : List ColumnWrite) (write : ColumnWrite) (n i : ℕ) (d : Column)
    (rest part : List ℕ) → i < length layout → length writes ≡ n + i → rest ≡ drop (sum (sizes_of (take i layout))) block
    → part ≡ take ((get_or layout i d).sectors * 512) rest → IsWriteOf vdev (get_or layout i d) part write
    → AreWritesOf vdev layout (columns_of (sizes_of layout) block) (drop n writes)
    → AreWritesOf vdev layout (columns_of (sizes_of layout) block) (drop n (writes ++ write ∷ []))
data_written vdev layout block writes write n i d rest part within count is part_is made before =
    let number : length (drop n writes) ≡ i = omega (arith, length-drop n writes, count) in
    let columns : List (List ℕ) = columns_of (sizes_of layout) block in
    let here : slice_get columns i ≡ Some part =
    column_at layout i d block within ∙ ap (λ bytes. Some (take ((get_or layout i d).sectors * 512) bytes)) (sym is) ∙ ap (λ p. Some p) (sym part_is) in
    let P : ℕ → Type 0 = λ k. slice_get layout k ≡ Some (get_or layout i d) in
    let Q : ℕ → Type 0 = λ k. slice_get columns k ≡ Some part in
    rw (drop-append-le n writes (write ∷ []) (omega (arith, count)))
    (AreWritesOf-push vdev layout columns (drop n writes) write (get_or layout i d) part before
    (subst P (sym number) (slice_get-get_or layout i d within)) (subst Q (sym number) here) made)

-- all writes, those of the parity and those of the data
pub writes_together : (vdev : Vdev) (layout : List Column) (p : ℕ) (columns : Block) (first all : List ColumnWrite) → p ≤ length layout
    → length first ≡ p → length columns.parity ≡ p → length all ≡ length first + (length layout - p) → take (length first) all ≡ first
    → AreWritesOf vdev (take p layout) columns.parity first → AreWritesOf vdev (drop p layout) columns.data_columns (drop (length first) all)
    → AreWritesOf vdev layout (all_columns columns) all
writes_together vdev layout p columns first all within count count' more kept parities others =
    let whole : first ++ drop (length first) all ≡ all = ap (λ front. front ++ drop (length first) all) (sym kept) ∙ take-append-drop (length first) all in
    let front : length (take p layout) ≡ p = length-take-le p layout within in
    let P : List Column → Type 0 = λ cs. AreWritesOf vdev cs (all_columns columns) all in
    let Q : List ColumnWrite → Type 0 = λ ws. AreWritesOf vdev (take p layout ++ drop p layout) (all_columns columns) ws in
    subst P (take-append-drop p layout) (subst Q whole
    (AreWritesOf-append vdev (take p layout) (drop p layout) columns.parity columns.data_columns first (drop (length first) all)
    (count ∙ sym front) (count' ∙ sym front) parities others))

-- bytes are below 256
pub are_bytes : (bytes : List ℕ) → ((i : ℕ) → get_or bytes i 0 < 256) → All (λ byte. byte < 256) bytes
are_bytes [] each k d within = absurd (omega arith)
are_bytes (b ∷ bytes) each zero d within = each 0
are_bytes (b ∷ bytes) each (suc k) d within = are_bytes bytes (λ i. each (suc i)) k d (omega arith)

-- the columns that are made of a block
pub made_columns : (extent : Extent) (layout : List Column) (block : List ℕ) (columns : Block) → IsShaped (parity_of extent) extent.sectors layout
    → length block ≡ extent.sectors * 512 → All (λ byte. byte < 256) block
    → map (length {A = ℕ}) columns.parity ≡ replicate (parity_of extent) (slice_index (sizes_of (drop (parity_of extent) layout)) 0)
    → columns.data_columns ≡ columns_of (sizes_of (drop (parity_of extent) layout)) block → IsParity columns
    → AreBytesOf extent block layout columns
made_columns extent layout block columns shape size bytes rows is parity =
    let p : ℕ = parity_of extent in
    let back : List ℕ = sizes_of (drop p layout) in
    record {
      block_size = size;
      bytes = bytes;
      parity_count =
          omega (
            arith,
            length-map columns.parity (length {A = ℕ}),
            ap (length {A = ℕ}) rows,
            length-replicate p (slice_index back 0),
          );
      sizes =
          map-append (length {A = ℕ}) columns.parity columns.data_columns
          ∙ ap (λ front. front ++ map (length {A = ℕ}) columns.data_columns) (rows ∙ sym shape.parity_sizes)
          ∙ ap (λ parts. sizes_of (take p layout) ++ map (length {A = ℕ}) parts) is
          ∙ ap (λ sizes. sizes_of (take p layout) ++ sizes) (lengths-columns_of back block (omega (arith, shape.fits, size)))
          ∙ sym (map-append (λ (c : Column). c.sectors * 512) (take p layout) (drop p layout))
          ∙ ap sizes_of (take-append-drop p layout);
      block_columns = is;
      parity = parity;
    }
