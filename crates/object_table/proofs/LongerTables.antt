-- Tables with rows added behind the others.
use Rattle.std.proofs.Common.{◌≡◌, ◌≢◌, ℕ, zero, suc, ◌+◌, ◌-◌, ◌*◌, ◌/◌, ◌%◌, ◌^◌, ◌<◌, ◌≤◌, ◌==◌, List, [], ◌∷◌, ◌++◌, if◌then◌else◌, length, take, drop, replicate, Option, Some, None, inl, inr, refl, sym, ap, subst, ◌∙◌, append_assoc, append-nil, arith}
use Rattle.std.proofs.lemmas.Bool.{cases_eq, cases_lt, ne_eqb}
use Rattle.std.proofs.lemmas.List.{take_at, drop_at, take-append-le, drop-append-le, length-append, length-take-le, length-drop, length-replicate}
use Rattle.std.proofs.Math.Seq.{take-append-add}
use Rattle.words.specs.Words.{word_bytes}
use Rattle.words.proofs.WordLemmas.{length-word_bytes}
use Rattle.object_table.specs.declared.shape.RowShape.{RowShape}
use Rattle.object_table.specs.Rows.{SpellsRows}
use Rattle.object_table.specs.Shape.{FitsShape, AreRows}
use Rattle.object_table.specs.Tables.{bytes_at, bytes_to, HasWholeBlocks, IsFront, IsTableTo}
use Rattle.object_table.proofs.TableEnds.{spelled_len}
use Rattle.object_table.proofs.WholeArrays.{bytes_to_same, bytes_len, bytes_split, bytes_behind, bytes_before}

-- the first block with another number of rows
abbrev pub counted_block : ℕ → List ℕ → List ℕ
counted_block count first = word_bytes (count ∷ []) ++ drop 8 first

-- the array with another first block
abbrev pub with_first : List ℕ → (ℕ → Option (List ℕ)) → ℕ → Option (List ℕ)
with_first first array id = if 0 == id then Some first else array id

with_others : (first : List ℕ) (array : ℕ → Option (List ℕ)) (id : ℕ) → 0 < id → with_first first array id ≡ array id
with_others first array id lt = ap (λ is. if is then Some first else array id) (ne_eqb 0 id (λ e. absurd (omega (arith, e, lt))))

pub counted_len : (count : ℕ) (first : List ℕ) → length first ≡ 4096 → length (counted_block count first) ≡ 4096
counted_len count first len = omega (arith, length-append (word_bytes (count ∷ [])) (drop 8 first), length-word_bytes (count ∷ []), length-drop 8 first, len)

module _ (shape : RowShape) (array : ℕ → Option (List ℕ)) (highest count : ℕ) (old first : List ℕ)
    (fits : FitsShape shape) (table : IsTableTo shape highest array old) (whole : HasWholeBlocks array) (is : array 0 ≡ Some first) where
  abbrev pub counted : List ℕ
  counted = counted_block count first

  abbrev pub recounted : ℕ → Option (List ℕ)
  recounted = with_first counted array

  -- the bytes of the rows, and all before them
  abbrev pub front : List ℕ
  front = word_bytes (count ∷ []) ++ (replicate (shape.first_len - 8) 0 ++ old)

  recounted_whole : HasWholeBlocks recounted
  recounted_whole id bytes found = elim (cases_eq id 0) [
    | inl none ↦
        let same : Some counted ≡ Some bytes = subst (λ n. with_first counted array n ≡ Some bytes) none found in
        let it : counted ≡ bytes = cc in
        ap length (sym it) ∙ counted_len count first (whole 0 first is)
    | inr other ↦ whole id bytes (sym (with_others counted array id (omega (arith, other))) ∙ found)
  ]

  recounted_some : (id : ℕ) → id ≤ highest → recounted id ≢ None
  recounted_some id le none = elim (cases_eq id 0) [
    | inl zero_is ↦
        let clash : Some counted ≡ None = subst (λ n. with_first counted array n ≡ None) zero_is none in absurd cc
    | inr other ↦ table.no_hole id le (sym (with_others counted array id (omega (arith, other))) ∙ none)
  ]

  -- the table with the other number
  bytes_recounted : bytes_to recounted (highest + 1) ≡ front ++ replicate table.spelled.zeros 0
  bytes_recounted =
      let none : ℕ = 0 in
      let word = word_bytes (table.spelled.count ∷ []) in
      let blank : List ℕ = replicate (shape.first_len - 8) none in
      let zeros : List ℕ = replicate table.spelled.zeros none in
      let rest : List ℕ = bytes_to (λ id. array (1 + id)) highest in
      let others : bytes_to (λ id. recounted (1 + id)) highest ≡ rest = bytes_to_same (λ id. array (1 + id)) (λ id. recounted (1 + id)) highest (λ id lt. with_others counted array (1 + id) (omega arith)) in
      let behind : drop 8 first ++ rest ≡ blank ++ (old ++ zeros) =
      sym (drop-append-le 8 first rest (omega (arith, whole 0 first is))) ∙ ap (drop 8) (sym (bytes_behind array first highest is) ∙ table.spelled.spelled)
      ∙ drop_at word (blank ++ (old ++ zeros)) 8 (length-word_bytes (table.spelled.count ∷ [])) in
      bytes_behind recounted counted highest refl ∙ ap (λ (x : List ℕ). counted ++ x) others ∙ append_assoc (word_bytes (count ∷ [])) (drop 8 first) rest
      ∙ ap (λ (x : List ℕ). word_bytes (count ∷ []) ++ x) (behind ∙ sym (append_assoc blank old zeros)) ∙ sym (append_assoc (word_bytes (count ∷ [])) (blank ++ old) zeros)

  front_len : length front ≡ shape.first_len + length old
  front_len =
      let none : ℕ = 0 in
      let blank : List ℕ = replicate (shape.first_len - 8) none in
      omega (arith, length-append (word_bytes (count ∷ [])) (blank ++ old), length-append blank old, length-word_bytes (count ∷ []), length-replicate (shape.first_len - 8) none, fits.word)

  module _ (place from used : ℕ) (last block : List ℕ) (place_is : place ≡ shape.first_len + length old) (cut : place ≡ from * 4096 + used) (under : used < 4096)
      (last_is : array highest ≡ Some last) (at_first : from ≡ 0 → block ≡ counted) (at_last : 0 < from → block ≡ last) where
    size : (highest + 1) * 4096 ≡ place + table.spelled.zeros
    size =
        sym (bytes_len array (highest + 1) whole (λ id lt. table.no_hole id (omega (arith, lt)))) ∙ spelled_len shape (bytes_to array (highest + 1)) old fits table.spelled
        ∙ ap (λ n. n + table.spelled.zeros) (sym place_is)

    -- the rows end in the last block, or right behind it
    pub ends_in : (from ≤ highest + 1) × (highest ≤ from) × (0 < used → from ≡ highest)
    ends_in =
        let few = table.spelled.few in
        (omega (arith, size, cut), omega (arith, size, cut, few, under), λ some. omega (arith, size, cut, few, some, under))

    block_at : 0 < used → recounted highest ≡ Some block
    block_at some =
        let at : from ≡ highest = ends_in.2 some in
        elim (cases_eq highest 0) [
          | inl none ↦ subst (λ n. with_first counted array n ≡ Some block) (sym none) (ap Some (sym (at_first (omega (arith, at, none)))))
          | inr other ↦ with_others counted array highest (omega (arith, other)) ∙ last_is ∙ ap Some (sym (at_last (omega (arith, at, other))))
        ]

    before_len : length (bytes_to recounted from) ≡ from * 4096
    before_len = bytes_len recounted from recounted_whole (λ id lt. recounted_some id (omega (arith, lt, ends_in.0)))

    front_is : take place (bytes_to recounted (highest + 1)) ≡ front
    front_is = ap (take place) bytes_recounted ∙ take_at front (replicate table.spelled.zeros 0) place (front_len ∙ sym place_is)

    -- what stays of the blocks from the rows' end on
    pub kept : bytes_to recounted from ++ take used block ≡ front
    kept = elim (cases_eq used 0) [
      | inl none ↦
          let more : from + (highest + 1 - from) ≡ highest + 1 = omega (arith, ends_in.0) in
          let split : bytes_to recounted (highest + 1) ≡ bytes_to recounted from ++ bytes_to (λ id. recounted (from + id)) (highest + 1 - from) =
          ap (bytes_to recounted) (sym more) ∙ bytes_split recounted from (highest + 1 - from) in
          ap (λ n. bytes_to recounted from ++ take n block) none ∙ append-nil (bytes_to recounted from)
          ∙ sym (take_at (bytes_to recounted from) (bytes_to (λ id. recounted (from + id)) (highest + 1 - from)) place (omega (arith, before_len, cut, none)))
          ∙ ap (take place) (sym split) ∙ front_is
      | inr other ↦
          let some : 0 < used = omega (arith, other) in
          let at : highest ≡ from = sym (ends_in.2 some) in
          let split : bytes_to recounted (highest + 1) ≡ bytes_to recounted from ++ block =
          bytes_before recounted block highest (block_at some) ∙ ap (λ n. bytes_to recounted n ++ block) at in
          let long : length (bytes_to recounted from) + used ≡ place = omega (arith, before_len, cut) in
          sym (take-append-add (bytes_to recounted from) block used) ∙ ap (λ n. take n (bytes_to recounted from ++ block)) long ∙ ap (take place) (sym split) ∙ front_is
    ]

    module _ (after : ℕ → Option (List ℕ)) (rows tail : List ℕ) (more zeros latest : ℕ) (few : zeros < 4096) (tail_is : tail ≡ take used block ++ (rows ++ replicate zeros 0))
        (are_rows : AreRows shape count (old ++ rows)) (small : count < 2 ^ 64) (before : (id : ℕ) → id < from → after id ≡ recounted id)
        (behind : (id : ℕ) → latest < id → after id ≡ array id) (tail_at : IsFront (λ id. after (from + id)) more tail) (tail_len : length tail ≡ more * 4096)
        (latest_is : latest + 1 ≡ from + more) (some : 0 < more) where
      all_bytes : bytes_to after (latest + 1) ≡ word_bytes (count ∷ []) ++ (replicate (shape.first_len - 8) 0 ++ ((old ++ rows) ++ replicate zeros 0))
      all_bytes =
          let none : ℕ = 0 in
          let word = word_bytes (count ∷ []) in
          let blank : List ℕ = replicate (shape.first_len - 8) none in
          let end : List ℕ = rows ++ replicate zeros none in
          ap (bytes_to after) latest_is ∙ bytes_split after from more ∙ ap (λ (x : List ℕ). bytes_to after from ++ x) (sym tail_at.1 ∙ tail_is)
          ∙ ap (λ (x : List ℕ). x ++ (take used block ++ end)) (bytes_to_same recounted after from before)
          ∙ sym (append_assoc (bytes_to recounted from) (take used block) end) ∙ ap (λ (x : List ℕ). x ++ end) kept
          ∙ append_assoc word (blank ++ old) end ∙ ap (λ (x : List ℕ). word ++ x) (append_assoc blank old end ∙ ap (λ (x : List ℕ). blank ++ x) (sym (append_assoc old rows (replicate zeros none))))

      all_len : length (bytes_to after (latest + 1)) ≡ (latest + 1) * 4096
      all_len =
          let parts : bytes_to after (latest + 1) ≡ bytes_to recounted from ++ tail =
          ap (bytes_to after) latest_is ∙ bytes_split after from more ∙ ap (λ (x : List ℕ). bytes_to after from ++ x) (sym tail_at.1)
          ∙ ap (λ (x : List ℕ). x ++ tail) (bytes_to_same recounted after from before) in
          omega (arith, ap length parts, length-append (bytes_to recounted from) tail, before_len, tail_len, latest_is)

      pub longer_table : IsTableTo shape latest after (old ++ rows)
      longer_table = record {
        no_hole = λ id le none. elim (cases_lt id from) [
          | inl lt ↦ recounted_some id (omega (arith, lt, ends_in.0)) (sym (before id lt) ∙ none)
          | inr ge ↦
              let there : from + (id - from) ≡ id = omega (arith, ge) in
              tail_at.0 (id - from) (omega (arith, le, ge, latest_is)) (ap after there ∙ none)
        ];
        behind = λ id lt. behind id lt ∙ table.behind id (omega (arith, lt, latest_is, some, ends_in.1));
        spelled = record {
          count = count;
          small = small;
          are_rows = are_rows;
          zeros = zeros;
          few = few;
          blocks = latest + 1;
          whole = all_len;
          spelled = all_bytes;
        };
      }
