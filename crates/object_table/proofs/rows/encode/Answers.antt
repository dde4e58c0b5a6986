use Rattle.std.proofs.Common.{◌≡◌, ◌+◌, ◌-◌, ◌*◌, ◌/◌, ◌<◌, ◌≤◌, ℕ, List, length, sym, ap, subst, arith}
use Rattle.std.proofs.lemmas.Grind.{div_ceil_times}
use Rattle.std.proofs.lemmas.List.{take_at}
use Rattle.std.proofs.Math.Nat.{div-le_self}
use Rattle.object_table.specs.Rows.{SpellsRows}
use Rattle.object_table.proofs.rows.encode.Goals as goal

pub returns-clause-spells : goal.returns-clause-spells
returns-clause-spells c =
    let rows : List ℕ = c.args.rows.now in
    let row_len : ℕ = c.args.shape.row_len in
    let end : ℕ = c.args.shape.first_len + length rows in
    let made : List ℕ = c.put_rows.new.bytes in
    let long : length made ≡ c.in_ok-bytes.bytes.len =
    omega (arith, c.put_rows.auto.bytes, ap (λ (bytes : List ℕ). length bytes) c.as_mut_slice.ensures.value, c.in_ok-bytes.bytes.ok.0) in
    let size : length made ≡ c.div_ceil.result * 4096 = omega (arith, long, c.in_ok-bytes.ensures.len) in
    let room : (end ≤ c.div_ceil.result * 4096) × (c.div_ceil.result * 4096 < end + 4096) =
    subst (λ n. (end ≤ n * 4096) × (n * 4096 < end + 4096)) (sym c.div_ceil.ensures) (div_ceil_times end 4096 (omega arith)) in
    let old_len : length c.as_mut_slice.result.now ≡ c.div_ceil.result * 4096 = omega (arith, size, c.put_rows.auto.bytes) in
    subst (λ (bytes : List ℕ). SpellsRows c.args.shape bytes rows) (sym (take_at made _ c.in_ok-bytes.bytes.len long))
    (record {
      count = length rows / row_len;
      small = omega (arith, div-le_self (length rows) row_len, c.requires.few);
      are_rows = c.requires.rows;
      zeros = length c.as_mut_slice.result.now - end;
      few = omega (arith, old_len, room.1, room.0);
      blocks = c.div_ceil.result;
      whole = size;
      spelled = c.put_rows.ensures;
    })
