use Rattle.std.proofs.Common.{◌≡◌, ℕ, ◌+◌, ◌-◌, ◌++◌, ◌∙◌, take, drop, refl, length, arith, ap, sym}
use Rattle.std.proofs.lemmas.List.{length-take, length-drop}
use Rattle.std.specs.Int.{w16, w32, to_be_bytes}
use Rattle.nbd_wire.proofs.Cuts.{joined, named, length-request, count_at}
use Rattle.nbd_wire.proofs.options.decode_info_request.Goals as goal

pub returns-then-data-len-2 : goal.returns-then-data-len-2
returns-then-data-len-2 c = λ name s.
    let block = c.args.data.now in
    let len : c.u32_at-len.result ≡ length name = c.u32_at-len.ensures.only (length name) s.name_len (named block name (to_be_bytes w16 s.count ++ s.kinds) s.bytes_are).len_is in
    let count : c.u16_at-count.result ≡ s.count =
    c.u16_at-count.ensures.only s.count s.count_fits (ap (λ (n : ℕ). take 2 (drop (4 + n) block)) len ∙ count_at block name s) in
    let whole = length-request block name s in
    c.if-data-len-2.true (omega arith)

pub returns : goal.returns
returns c =
    let block = c.args.data.now in
    let len = c.u32_at-len.result in
    let name = take (4 + len - 4) (drop 4 block) in
    let count = c.u16_at-count.result in
    let name_len : length name ≡ len = omega (arith, length-take (4 + len - 4) (drop 4 block), length-drop 4 block) in
    let kinds = drop (6 + len) block in
    let behind = joined block (4 + len) 2 (6 + len) (to_be_bytes w16 count) kinds (omega arith) c.u16_at-count.ensures.found refl in
    let from_name = joined block 4 (4 + len - 4) (4 + len) name (to_be_bytes w16 count ++ kinds) (omega arith) refl behind in record {
      count = count;
      kinds = kinds;
      name_len = omega (arith, c.u32_at-len.type_inv);
      count_fits = c.u16_at-count.type_inv;
      as_many = omega (arith, length-drop (6 + len) block);
      bytes_are =
          joined block 0 4 4 (to_be_bytes w32 len) (name ++ (to_be_bytes w16 count ++ kinds)) refl c.u32_at-len.ensures.found from_name
          ∙ ap (λ (n : ℕ). to_be_bytes w32 n ++ (name ++ (to_be_bytes w16 count ++ kinds))) (sym name_len);
    }
