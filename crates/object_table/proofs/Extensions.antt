-- What is written to add rows to a table, and what comes of it.
use Rattle.std.proofs.Common.{◌≡◌, ◌≢◌, ℕ, zero, suc, ◌+◌, ◌-◌, ◌*◌, ◌/◌, ◌%◌, ◌^◌, ◌<◌, ◌≤◌, ◌==◌, ◌⊎◌, List, [], ◌∷◌, ◌++◌, length, take, All, Option, Some, None, if◌then◌else◌, inl, inr, ⊎_elim, refl, sym, ap, subst, ◌∙◌, arith}
use Rattle.std.specs.Prelude.{Bool, true, false, Vec, replicate}
use Rattle.std.specs.declared.alloc.Global.{Global}
use Rattle.std.proofs.lemmas.Bool.{ne_eqb}
use Rattle.std.proofs.lemmas.List.{length-append, length-take, length-replicate}
use Rattle.std.proofs.lemmas.List.Elements.{All-cons, All-weaker}
use Rattle.std.proofs.lemmas.List.Kept.{AllPairs-cons}
use Rattle.dnode_tree.proofs.NewArrays.{written_others}
use Rattle.dnode_tree.specs.declared.writes.BlockWrite.{BlockWrite}
use Rattle.dnode_tree.specs.Writes.{written}
use Rattle.objset.proofs.Highest.{highest_least, highest_room, highest_from}
use Rattle.objset.specs.Changes.{AreGoodWrites, AreWhole, highest_of}
use Rattle.objset.specs.Objects.{Object}
use Rattle.object_table.specs.declared.ends.TableEnd.{TableEnd}
use Rattle.object_table.specs.declared.kind.TableKind.{TableKind}
use Rattle.object_table.specs.Ends.{IsEndOf}
use Rattle.object_table.specs.Extended.{AreEndWrites, AreTailWrites}
use Rattle.object_table.specs.Made.{AreBlocksOf}
use Rattle.object_table.specs.Shape.{AreRows, FitsShape}
use Rattle.object_table.specs.Tables.{HasTable, HasWholeBlocks, IsFront, IsOfKind, IsTableTo}
use Rattle.object_table.proofs.LongerTables.{counted_block, with_first, ends_in, longer_table}
use Rattle.object_table.proofs.Tables.{front_same}
use Rattle.object_table.proofs.Written.{all_blocks}

-- ---- the end of an object's table

abbrev pub IsEndAt : TableKind → List ℕ → TableEnd → Object → Type 0
IsEndAt kind rows end object =
    IsOfKind kind object × IsTableTo kind.rows object.highest object.array rows × HasWholeBlocks object.array × (object.array 0 ≡ Some end.first.items)
    × (object.array object.highest ≡ Some end.last.items)

pub end_at : (kind : TableKind) (object : Object) (rows : List ℕ) (end : TableEnd) → IsEndOf kind (Some object) rows end → IsEndAt kind rows end object
end_at kind object rows end is =
    let same : is.table.there ≡ object = let e : Some object ≡ Some is.table.there = is.table.is in cc in
    subst (IsEndAt kind rows end) same (is.table.of_kind, is.table.table, is.whole, is.first, is.last)

-- ---- writes over an array

over : (b : Bool) (bytes : List ℕ) (found other : Option (List ℕ)) → (if b then Some bytes else other) ≢ None → (other ≢ None → found ≡ other)
    → (if b then Some bytes else found) ≡ (if b then Some bytes else other)
over true bytes found other some rest = refl
over false bytes found other some rest = rest some

-- what is written is the same over any array
written_over : (writes : List BlockWrite) (array : ℕ → Option (List ℕ)) (id : ℕ) → written writes (λ id. None) id ≢ None → written writes array id ≡ written writes (λ id. None) id
written_over [] array id some = absurd (some refl)
written_over (write ∷ writes) array id some = over (write.id == id) write.bytes.items (written writes array id) (written writes (λ id. None) id) some (written_over writes array id)

module _ (first more : ℕ) (bytes : List ℕ) (writes : List BlockWrite) (are : AreBlocksOf first bytes more writes) (array : ℕ → Option (List ℕ)) where
  written_before : (id : ℕ) → id < first → written writes array id ≡ array id
  written_before id lt =
      written_others writes array id
      (All-weaker (λ (write : BlockWrite). (first ≤ write.id) × (write.id < first + more)) (λ (write : BlockWrite). write.id ≢ id) (λ write there e. absurd (omega (arith, there.0, e, lt))) writes are.ids)

  written_behind : (id : ℕ) → first + more ≤ id → written writes array id ≡ array id
  written_behind id le =
      written_others writes array id
      (All-weaker (λ (write : BlockWrite). (first ≤ write.id) × (write.id < first + more)) (λ (write : BlockWrite). write.id ≢ id) (λ write there e. absurd (omega (arith, there.1, e, le))) writes are.ids)

  written_at : length bytes ≡ more * 4096 → IsFront (λ id. written writes array (first + id)) more bytes
  written_at len =
      let front = all_blocks first bytes more writes are (sym len) in
      front_same (λ id. written writes (λ id. None) (first + id)) (λ id. written writes array (first + id)) more bytes (λ id lt. written_over writes array (first + id) (front.0 id lt)) front

  highest_is : (highest : ℕ) → 0 < more → highest ≤ first → highest_of writes highest + 1 ≡ first + more
  highest_is highest some le =
      let last : ℕ = first + more - 1 in
      let most = highest_least writes highest last (omega (arith, some, le))
      (All-weaker (λ (write : BlockWrite). (first ≤ write.id) × (write.id < first + more)) (λ (write : BlockWrite). write.id ≤ last) (λ write there. omega (arith, there.1)) writes are.ids) in
      let least = highest_least writes 0 (highest_of writes highest) (omega arith) (highest_room writes highest) in
      omega (arith, most, least, are.last some, some)

-- ---- the table after them

module _ (kind : TableKind) (object : Object) (old rows : List ℕ) (end : TableEnd) (first : Vec ℕ Global) (count place : ℕ) (fits : FitsShape kind.rows) (is : IsEndAt kind old end object)
    (first_is : first.items ≡ counted_block count end.first.items) (are_rows : AreRows kind.rows count (old ++ rows)) (small : count < 2 ^ 64)
    (place_is : place ≡ kind.rows.first_len + length old) (some : 0 < length rows) (tail : List BlockWrite) (made : AreTailWrites first.items end.last.items place rows tail) where
  tail_len : length made.bytes ≡ length made.bytes / 4096 * 4096
  tail_len = omega (arith, made.are.whole)

  tail_some : 0 < length made.bytes / 4096
  tail_some =
      let none : ℕ = 0 in
      let zeros : List ℕ = replicate made.are.zeros none in
      let kept : List ℕ = take (place % 4096) made.block in
      omega (arith, made.are.whole, ap length made.are.bytes_are, length-append kept (rows ++ zeros), length-append rows zeros, some)

  at_first : place / 4096 ≡ 0 → made.block ≡ counted_block count end.first.items
  at_first low = made.at_first (omega (arith, low)) ∙ first_is

  at_last : 0 < place / 4096 → made.block ≡ end.last.items
  at_last high = made.at_last (omega (arith, high))

  cut : place ≡ place / 4096 * 4096 + place % 4096
  cut = omega arith

  under : place % 4096 < 4096
  under = omega arith

  in_last : object.highest ≤ place / 4096
  in_last =
      (ends_in kind.rows object.array object.highest count old end.first.items fits is.1 is.2 is.3 place (place / 4096) (place % 4096) end.last.items made.block place_is cut under is.4 at_first
      at_last).1

  -- an array that has the first block and the tail
  tail_table : (after : ℕ → Option (List ℕ)) (latest : ℕ) → ((id : ℕ) → id < place / 4096 → after id ≡ with_first (counted_block count end.first.items) object.array id)
      → ((id : ℕ) → latest < id → after id ≡ object.array id)
      → ((id : ℕ) → id < length made.bytes / 4096 → after (place / 4096 + id) ≡ written tail object.array (place / 4096 + id))
      → latest + 1 ≡ place / 4096 + length made.bytes / 4096 → IsTableTo kind.rows latest after (old ++ rows)
  tail_table after latest before behind at latest_is =
      longer_table kind.rows object.array object.highest count old end.first.items fits is.1 is.2 is.3 place (place / 4096) (place % 4096) end.last.items made.block place_is cut under is.4 at_first
      at_last after rows made.bytes (length made.bytes / 4096) made.are.zeros latest made.are.few made.are.bytes_are are_rows small before behind
      (front_same (λ id. written tail object.array (place / 4096 + id)) (λ id. after (place / 4096 + id)) (length made.bytes / 4096) made.bytes at
      (written_at (place / 4096) (length made.bytes / 4096) made.bytes tail made.blocks object.array tail_len))
      tail_len latest_is tail_some

  highest : highest_of tail object.highest + 1 ≡ place / 4096 + length made.bytes / 4096
  highest = highest_is (place / 4096) (length made.bytes / 4096) made.bytes tail made.blocks object.array object.highest tail_some in_last

  later : (id : ℕ) → 0 < id → (if 0 == id then Some first.items else written tail object.array id) ≡ written tail object.array id
  later id lt = ap (λ is. if is then Some first.items else written tail object.array id) (ne_eqb 0 id (λ e. absurd (omega (arith, e, lt))))

  pub end_table : (writes : List BlockWrite) → ((place < 4096) × (writes ≡ tail)) ⊎ ((4096 ≤ place) × (writes ≡ (record { id = 0; bytes = first }) ∷ tail))
      → IsTableTo kind.rows (highest_of writes object.highest) (written writes object.array) (old ++ rows)
  end_table writes (inl (low, are)) =
      subst (λ (all : List BlockWrite). IsTableTo kind.rows (highest_of all object.highest) (written all object.array) (old ++ rows)) (sym are)
      (tail_table (written tail object.array) (highest_of tail object.highest) (λ id lt. absurd (omega (arith, lt, low)))
      (λ id lt. written_behind (place / 4096) (length made.bytes / 4096) made.bytes tail made.blocks object.array id (omega (arith, lt, highest))) (λ id lt. refl) highest)
  end_table writes (inr (high, are)) =
      let head : BlockWrite = record { id = 0; bytes = first } in
      subst (λ (all : List BlockWrite). IsTableTo kind.rows (highest_of all object.highest) (written all object.array) (old ++ rows)) (sym are)
      (tail_table (written (head ∷ tail) object.array) (highest_of (head ∷ tail) object.highest)
      (λ id lt. ap (λ found. if 0 == id then Some first.items else found) (written_before (place / 4096) (length made.bytes / 4096) made.bytes tail made.blocks object.array id lt)
      ∙ ap (λ (block : List ℕ). with_first block object.array id) first_is)
      (λ id lt. later id (omega (arith, lt))
      ∙ written_behind (place / 4096) (length made.bytes / 4096) made.bytes tail made.blocks object.array id (omega (arith, lt, highest)))
      (λ id lt. later (place / 4096 + id) (omega (arith, high))) (omega (arith, highest)))

-- ---- what is written

-- the blocks from the old end on are few
tail_end : (first last : List ℕ) (place : ℕ) (rows : List ℕ) (writes : List BlockWrite) (made : AreTailWrites first last place rows writes) → place + length rows < 2 ^ 46 + 4096
    → place / 4096 + length made.bytes / 4096 < 128 ^ 5
tail_end first last place rows writes made few =
    let none : ℕ = 0 in
    let zeros : List ℕ = replicate made.are.zeros none in
    let kept : List ℕ = take (place % 4096) made.block in
    omega (
      arith,
      ap length made.are.bytes_are,
      length-append kept (rows ++ zeros),
      length-append rows zeros,
      length-take (place % 4096) made.block,
      length-replicate made.are.zeros none,
      made.are.few,
      few,
    )

-- the first block may be written, and those from the old end on
abbrev AreFrom : ℕ → List BlockWrite → Type 0
AreFrom from writes = AreGoodWrites writes × AreWhole 8 writes × All (λ write. (write.id ≡ 0) ⊎ (from ≤ write.id)) writes

tail_good : (first last : List ℕ) (place : ℕ) (rows : List ℕ) (writes : List BlockWrite) (made : AreTailWrites first last place rows writes) → place + length rows < 2 ^ 46 + 4096
    → AreFrom (place / 4096) writes
tail_good first last place rows writes made few =
    let end = tail_end first last place rows writes made few in
    let count : ℕ = length made.bytes / 4096 in (
      (
        made.blocks.order,
        All-weaker (λ (write : BlockWrite). (place / 4096 ≤ write.id) × (write.id < place / 4096 + count)) (λ (write : BlockWrite). write.id < 128 ^ 5)
            (λ write there. omega (arith, there.1, end)) writes made.blocks.ids,
      ),
      made.blocks.whole,
      All-weaker (λ (write : BlockWrite). (place / 4096 ≤ write.id) × (write.id < place / 4096 + count)) (λ (write : BlockWrite). (write.id ≡ 0) ⊎ (place / 4096 ≤ write.id))
          (λ write there. inr there.0) writes made.blocks.ids,
    )

first_good : (from : ℕ) (first : Vec ℕ Global) (writes : List BlockWrite) → 0 < from → length first.items ≡ 4096 → All (λ write. from ≤ write.id) writes → AreFrom from writes
    → AreFrom from ((record { id = 0; bytes = first }) ∷ writes)
first_good from first writes some len behind good =
    let head : BlockWrite = record { id = 0; bytes = first } in (
      (
        AllPairs-cons (λ (write later : BlockWrite). write.id < later.id) head writes
            (All-weaker (λ (write : BlockWrite). from ≤ write.id) (λ (write : BlockWrite). 0 < write.id) (λ write le. omega (arith, le, some)) writes behind) good.0.0,
        All-cons (λ (write : BlockWrite). write.id < 128 ^ 5) head writes (omega arith) good.0.1,
      ),
      All-cons (λ (write : BlockWrite). length write.bytes.items ≡ 8 * 512) head writes len good.1,
      All-cons (λ (write : BlockWrite). (write.id ≡ 0) ⊎ (from ≤ write.id)) head writes (inl refl) good.2,
    )

pub end_good : (first : Vec ℕ Global) (last : List ℕ) (place : ℕ) (rows : List ℕ) (writes : List BlockWrite) → length first.items ≡ 4096 → place + length rows < 2 ^ 46 + 4096
    → AreEndWrites first last place rows writes → AreFrom (place / 4096) writes
end_good first last place rows writes len few made =
    let tail = tail_good first.items last place rows made.tail made.are few in
    ⊎_elim (λ low. subst (AreFrom (place / 4096)) (sym low.1) tail)
    (λ high. subst (AreFrom (place / 4096)) (sym high.1)
    (first_good (place / 4096) first made.tail (omega (arith, high.0)) len
    (All-weaker (λ (write : BlockWrite). (place / 4096 ≤ write.id) × (write.id < place / 4096 + length made.are.bytes / 4096)) (λ (write : BlockWrite). place / 4096 ≤ write.id)
    (λ write there. there.0) made.tail made.are.blocks.ids) tail))
    made.which
