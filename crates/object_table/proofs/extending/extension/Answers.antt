use Rattle.std.proofs.Common.{◌≡◌, ◌+◌, ◌*◌, ◌/◌, ◌^◌, ◌<◌, ◌++◌, [], ◌∷◌, ℕ, List, length, drop, refl, sym, ap, subst, ◌∙◌, arith}
use Rattle.std.proofs.Math.Nat.{div-le_self, le-mul_of_pos_right}
use Rattle.std.proofs.lemmas.List.{length-append}
use Rattle.words.specs.Words.{word_bytes}
use Rattle.object_table.specs.Extended.{AreEndWrites}
use Rattle.object_table.specs.Shape.{AreRows}
use Rattle.object_table.proofs.Extensions.{end_at, end_good, end_table}
use Rattle.object_table.proofs.LongerTables.{counted_block, counted_len}
use Rattle.object_table.proofs.extending.extension.Goals as goal

pub returns-clause-good : goal.returns-clause-good
returns-clause-good c =
    let room = c.has_room.ensures.0 c.if-not-has_room.false in
    let count : ℕ = c.args.end.now.rows + length c.args.rows.now / c.args.kind.rows.row_len in
    let first_is : c.in_ok-first.first.items ≡ counted_block count c.args.end.now.first.items =
    c.in_ok-first.ensures ∙ ap (λ (bytes : List ℕ). word_bytes (count ∷ []) ++ drop 8 bytes) c.deref.ensures.value in
    (end_good c.in_ok-first.first c.deref-2.result.now (c.args.kind.rows.first_len + c.args.end.now.rows * c.args.kind.rows.row_len) c.args.rows.now c.in_ok-writes.writes.items
    (ap length first_is ∙ counted_len count c.args.end.now.first.items room.first) (omega (arith, room.few, c.requires.shape.first)) c.in_ok-writes.ensures.made).0

pub returns-clause-writes : goal.returns-clause-writes
returns-clause-writes c =
    let room = c.has_room.ensures.0 c.if-not-has_room.false in
    let count : ℕ = c.args.end.now.rows + length c.args.rows.now / c.args.kind.rows.row_len in
    let first_is : c.in_ok-first.first.items ≡ counted_block count c.args.end.now.first.items =
    c.in_ok-first.ensures ∙ ap (λ (bytes : List ℕ). word_bytes (count ∷ []) ++ drop 8 bytes) c.deref.ensures.value in
    (end_good c.in_ok-first.first c.deref-2.result.now (c.args.kind.rows.first_len + c.args.end.now.rows * c.args.kind.rows.row_len) c.args.rows.now c.in_ok-writes.writes.items
    (ap length first_is ∙ counted_len count c.args.end.now.first.items room.first) (omega (arith, room.few, c.requires.shape.first)) c.in_ok-writes.ensures.made).2

pub returns-clause-made : goal.returns-clause-made
returns-clause-made c =
    let room = c.has_room.ensures.0 c.if-not-has_room.false in
    let row_len : ℕ = c.args.kind.rows.row_len in
    let rows : List ℕ = c.args.rows.now in
    let more : ℕ = length rows / row_len in
    let count : ℕ = c.args.end.now.rows + more in
    let place : ℕ = c.args.kind.rows.first_len + c.args.end.now.rows * row_len in
    let first_is : c.in_ok-first.first.items ≡ counted_block count c.args.end.now.first.items =
    c.in_ok-first.ensures ∙ ap (λ (bytes : List ℕ). word_bytes (count ∷ []) ++ drop 8 bytes) c.deref.ensures.value in
    let made = subst (λ (last : List ℕ). AreEndWrites c.in_ok-first.first last place rows c.in_ok-writes.writes.items) c.deref-2.ensures.value c.in_ok-writes.ensures.made in
    λ object old is.
    let at = end_at c.args.kind object old c.args.end.now is in
    let are_rows : AreRows c.args.kind.rows count (old ++ rows) = omega (arith, length-append old rows, is.count, c.requires.rows) in
    let small : count < 2 ^ 64 = omega (arith, room.few, le-mul_of_pos_right c.args.end.now.rows c.requires.shape.some, div-le_self (length rows) row_len) in
    record {
      there = _;
      is = refl;
      of_kind = at.0;
      table = end_table c.args.kind object old rows c.args.end.now c.in_ok-first.first count place c.requires.shape at first_is are_rows small
          (omega (arith, is.count)) c.requires.some made.tail made.are c.in_ok-writes.writes.items made.which;
    }
