-- Blocks that are written one after the other.
use Rattle.std.proofs.Common.{◌≡◌, ◌≢◌, ℕ, zero, suc, ◌+◌, ◌-◌, ◌*◌, ◌/◌, ◌^◌, ◌<◌, ◌≤◌, ◌==◌, List, [], ◌∷◌, ◌++◌, length, take, drop, All, Option, Some, None, if◌then◌else◌, refl, sym, ap, subst, ◌∙◌, eq-eqb, arith}
use Rattle.std.specs.Prelude.{replicate}
use Rattle.std.proofs.Math.Seq.{take-add, take-length}
use Rattle.std.proofs.lemmas.Bool.{ne_eqb}
use Rattle.std.proofs.lemmas.List.{length-append, length-drop, length-replicate, length-take-le}
use Rattle.std.proofs.lemmas.List.Elements.{All-nil, All-head, All-tail, All-push, All-weaker}
use Rattle.std.proofs.lemmas.List.Quantifiers.{all_pairs_push}
use Rattle.dnode_tree.proofs.NewArrays.{written_others}
use Rattle.dnode_tree.specs.declared.writes.BlockWrite.{BlockWrite}
use Rattle.dnode_tree.specs.Writes.{written}
use Rattle.object_table.specs.declared.shape.RowShape.{RowShape}
use Rattle.objset.proofs.Highest.{highest_room, highest_least}
use Rattle.objset.proofs.Numbers.{all_last}
use Rattle.objset.specs.Changes.{highest_of}
use Rattle.object_table.specs.Made.{AreBlocksOf, AreTableWrites}
use Rattle.object_table.specs.Rows.{SpellsRows}
use Rattle.object_table.specs.Shape.{FitsShape}
use Rattle.object_table.specs.Tables.{bytes_at, bytes_to, IsFront}
use Rattle.object_table.proofs.Tables.{front_same, one_more}
use Rattle.words.specs.Words.{word_bytes}
use Rattle.words.proofs.WordLemmas.{length-word_bytes}

written_more : (writes : List BlockWrite) (last : BlockWrite) (array : ℕ → Option (List ℕ)) (id : ℕ) → id ≢ last.id → written (writes ++ last ∷ []) array id ≡ written writes array id
written_more [] last array id other = ap (λ is. if is then Some last.bytes.items else array id) (ne_eqb last.id id (λ e. other (sym e)))
written_more (write ∷ writes) last array id other = ap (λ found. if write.id == id then Some write.bytes.items else found) (written_more writes last array id other)

written_last : (writes : List BlockWrite) (last : BlockWrite) (array : ℕ → Option (List ℕ)) → All (λ write. write.id < last.id) writes → written (writes ++ last ∷ []) array last.id ≡ Some last.bytes.items
written_last [] last array below = ap (λ is. if is then Some last.bytes.items else array last.id) (eq-eqb last.id last.id refl)
written_last (write ∷ writes) last array below =
    let first : write.id < last.id = All-head (λ (w : BlockWrite). w.id < last.id) write writes below in
    ap (λ is. if is then Some write.bytes.items else written (writes ++ last ∷ []) array last.id) (ne_eqb write.id last.id (λ e. absurd (omega (arith, e, first))))
    ∙ written_last writes last array (All-tail (λ (w : BlockWrite). w.id < last.id) write writes below)

-- the highest block is the last one
last_is : (end : ℕ) (writes : List BlockWrite) (last : BlockWrite) → All (λ write. write.id < end) writes → last.id ≡ end → highest_of (writes ++ last ∷ []) 0 + 1 ≡ end + 1
last_is end writes last below is =
    let all = All-push (λ (write : BlockWrite). write.id ≤ end) writes last
    (All-weaker (λ (write : BlockWrite). write.id < end) (λ (write : BlockWrite). write.id ≤ end) (λ write lt. omega (arith, lt)) writes below) (omega (arith, is)) in
    let most = highest_least (writes ++ last ∷ []) 0 end (omega arith) all in
    let least = all_last (λ (write : BlockWrite). write.id ≤ highest_of (writes ++ last ∷ []) 0) writes last (highest_room (writes ++ last ∷ []) 0) in
    omega (arith, most, least, is)

pub no_blocks : (first : ℕ) (bytes : List ℕ) → AreBlocksOf first bytes 0 []
no_blocks first bytes = record {
  order = λ i j d lt below. absurd (omega (arith, below));
  ids = All-nil (λ (write : BlockWrite). (first ≤ write.id) × (write.id < first + 0));
  last = λ some. absurd (omega (arith, some));
  whole = All-nil (λ (write : BlockWrite). length write.bytes.items ≡ 8 * 512);
  front = (λ id lt. absurd (omega (arith, lt)), refl);
}

-- the blocks are below what is behind them
all_below : (first count : ℕ) (bytes : List ℕ) (writes : List BlockWrite) (end : ℕ) → AreBlocksOf first bytes count writes → first + count ≡ end → All (λ write. write.id < end) writes
all_below first count bytes writes end are is =
    All-weaker (λ (write : BlockWrite). (first ≤ write.id) × (write.id < first + count)) (λ (write : BlockWrite). write.id < end) (λ write between. omega (arith, between.1, is)) writes are.ids

pub next_block : (first : ℕ) (bytes : List ℕ) (count : ℕ) (writes : List BlockWrite) (last : BlockWrite) → AreBlocksOf first bytes count writes → last.id ≡ first + count
    → last.bytes.items ≡ take 4096 (drop (count * 4096) bytes) → count * 4096 + 4096 ≤ length bytes → AreBlocksOf first bytes (count + 1) (writes ++ last ∷ [])
next_block first bytes count writes last so_far id_is is room =
    let none : ℕ → Option (List ℕ) = λ id. None in
    let array : ℕ → Option (List ℕ) = written (writes ++ last ∷ []) none in
    let below : All (λ (write : BlockWrite). write.id < last.id) writes = all_below first count bytes writes last.id so_far (sym id_is) in
    let at : array (first + count) ≡ Some last.bytes.items = subst (λ n. array n ≡ Some last.bytes.items) id_is (written_last writes last none below) in
    let before : IsFront (λ id. array (first + id)) count (take (count * 4096) bytes) =
    front_same (λ id. written writes none (first + id)) (λ id. array (first + id)) count (take (count * 4096) bytes)
    (λ id lt. written_more writes last none (first + id) (λ e. absurd (omega (arith, lt, e, id_is)))) so_far.front in
    let end : count * 4096 + 4096 ≡ (count + 1) * 4096 = omega arith in
    let joined : take (count * 4096) bytes ++ last.bytes.items ≡ take ((count + 1) * 4096) bytes =
    ap (λ (x : List ℕ). take (count * 4096) bytes ++ x) is ∙ sym (take-add (count * 4096) 4096 bytes) ∙ ap (λ n. take n bytes) end in
    let len : length last.bytes.items ≡ 4096 = ap length is ∙ length-take-le 4096 (drop (count * 4096) bytes) (omega (arith, length-drop (count * 4096) bytes, room)) in
    let next : first + count + 1 ≡ first + (count + 1) = omega arith in
    record {
      order = all_pairs_push (λ (write later : BlockWrite). write.id < later.id) writes last so_far.order (λ k d lt. below k d lt);
      ids = All-push (λ (write : BlockWrite). (first ≤ write.id) × (write.id < first + (count + 1))) writes last
          (All-weaker (λ (write : BlockWrite). (first ≤ write.id) × (write.id < first + count)) (λ (write : BlockWrite). (first ≤ write.id) × (write.id < first + (count + 1)))
          (λ write between. (between.0, omega (arith, between.1))) writes so_far.ids) (omega (arith, id_is), omega (arith, id_is));
      last = λ some. last_is (first + count) writes last (all_below first count bytes writes (first + count) so_far refl) id_is ∙ next;
      whole = All-push (λ (write : BlockWrite). length write.bytes.items ≡ 8 * 512) writes last so_far.whole len;
      front = subst (λ (front : List ℕ). IsFront (λ id. array (first + id)) (count + 1) front) joined
          (one_more (λ id. array (first + id)) count (take (count * 4096) bytes) last.bytes.items before (sym at));
    }

-- nothing is written behind the blocks
none_behind : (bytes : List ℕ) (count : ℕ) (writes : List BlockWrite) (id : ℕ) → AreBlocksOf 0 bytes count writes → count ≤ id → written writes (λ id. None) id ≡ None
none_behind bytes count writes id are le =
    written_others writes (λ id. None) id
    (All-weaker (λ (write : BlockWrite). write.id < count) (λ (write : BlockWrite). write.id ≢ id) (λ write lt e. absurd (omega (arith, lt, e, le))) writes
    (all_below 0 count bytes writes count are (omega arith)))

-- the blocks of whole blocks are all of them
pub all_blocks : (first : ℕ) (bytes : List ℕ) (count : ℕ) (writes : List BlockWrite) → AreBlocksOf first bytes count writes → count * 4096 ≡ length bytes
    → IsFront (λ id. written writes (λ id. None) (first + id)) count bytes
all_blocks first bytes count writes are len =
    subst (λ (front : List ℕ). IsFront (λ id. written writes (λ id. None) (first + id)) count front) (ap (λ n. take n bytes) len ∙ take-length bytes) are.front

from_zero : (array : ℕ → Option (List ℕ)) (count : ℕ) (bytes : List ℕ) → IsFront (λ id. array (0 + id)) count bytes → IsFront array count bytes
from_zero array count bytes front = front_same (λ id. array (0 + id)) array count bytes (λ id lt. let same : id ≡ 0 + id = omega arith in ap array same) front

-- a table has a byte at least
table_some : (shape : RowShape) (bytes rows : List ℕ) → SpellsRows shape bytes rows → 0 < length bytes
table_some shape bytes rows spells =
    let none : ℕ = 0 in
    let word = word_bytes (spells.count ∷ []) in
    let rest : List ℕ = replicate (shape.first_len - 8) none ++ (rows ++ replicate spells.zeros none) in
    omega (arith, ap length spells.spelled, length-append word rest, length-word_bytes (spells.count ∷ []))

-- how long a table is
pub table_len : (shape : RowShape) (bytes rows : List ℕ) → FitsShape shape → SpellsRows shape bytes rows → length bytes < shape.first_len + length rows + 4096
table_len shape bytes rows fits spells =
    let none : ℕ = 0 in
    let word = word_bytes (spells.count ∷ []) in
    let blank : List ℕ = replicate (shape.first_len - 8) none in
    let zeros : List ℕ = replicate spells.zeros none in
    omega (
      arith,
      ap length spells.spelled,
      length-append word (blank ++ (rows ++ zeros)),
      length-append blank (rows ++ zeros),
      length-append rows zeros,
      length-word_bytes (spells.count ∷ []),
      length-replicate (shape.first_len - 8) none,
      length-replicate spells.zeros none,
      fits.word,
      spells.few,
    )

-- the blocks of the bytes of a table are a table
pub table_written : (shape : RowShape) (bytes rows : List ℕ) (writes : List BlockWrite) → AreBlocksOf 0 bytes (length bytes / 4096) writes → SpellsRows shape bytes rows → length bytes < 2 ^ 47
    → AreTableWrites shape rows writes
table_written shape bytes rows writes are spells few =
    let none : ℕ → Option (List ℕ) = λ id. None in
    let count : ℕ = length bytes / 4096 in
    let some : 0 < length bytes = table_some shape bytes rows spells in
    let whole : count * 4096 ≡ length bytes = omega (arith, spells.whole) in
    let front : IsFront (written writes none) count bytes = from_zero (written writes none) count bytes (all_blocks 0 bytes count writes are whole) in
    let last : highest_of writes 0 + 1 ≡ count = omega (arith, are.last (omega (arith, whole, some)), whole, some) in
    record {
      good = (are.order, All-weaker (λ (write : BlockWrite). write.id < count) (λ (write : BlockWrite). write.id < 128 ^ 5) (λ write lt. omega (arith, lt, few)) writes (all_below 0 count bytes writes count are (omega arith)));
      whole = are.whole;
      table = record {
        no_hole = λ id le. front.0 id (omega (arith, le, last));
        behind = λ id lt. none_behind bytes count writes id are (omega (arith, lt, last));
        spelled = subst (λ (all : List ℕ). SpellsRows shape all rows) (front.1 ∙ ap (bytes_to (written writes none)) (sym last)) spells;
      };
    }
