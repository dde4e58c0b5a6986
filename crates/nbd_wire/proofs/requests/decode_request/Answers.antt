use Rattle.std.proofs.Common.{◌≡◌, ℕ, ◌++◌, ◌∙◌, refl, arith, [], ap}
use Rattle.std.specs.Int.{w16, w32, w64, to_be_bytes}
use Rattle.nbd_wire.proofs.Cuts.{joined, ended}
use Rattle.nbd_wire.proofs.requests.decode_request.Goals as goal

pub returns : goal.returns
returns c =
    let bytes = c.args.bytes.now in
    let flags = to_be_bytes w16 c.u16_at.result in
    let kind = to_be_bytes w16 c.u16_at-2.result in
    let cookie = to_be_bytes w64 c.u64_at.result in
    let offset = to_be_bytes w64 c.u64_at-2.result in
    let len = to_be_bytes w32 c.u32_at-2.result in
    let magic : c.u32_at.result ≡ 0x2560_9513 = c.if-u32_at-ne-REQUEST_MAGIC.false in
    let last = joined bytes 24 4 28 len [] refl c.u32_at-2.ensures.found (ended bytes 28 (omega (arith, c.told-bytes))) in
    let from_offset = joined bytes 16 8 24 offset len refl c.u64_at-2.ensures.found last in
    let from_cookie = joined bytes 8 8 16 cookie (offset ++ len) refl c.u64_at.ensures.found from_offset in
    let from_kind = joined bytes 6 2 8 kind (cookie ++ (offset ++ len)) refl c.u16_at-2.ensures.found from_cookie in
    let from_flags = joined bytes 4 2 6 flags (kind ++ (cookie ++ (offset ++ len))) refl c.u16_at.ensures.found from_kind in record {
      flags = c.u16_at.type_inv;
      kind = c.u16_at-2.type_inv;
      cookie = c.u64_at.type_inv;
      offset = c.u64_at-2.type_inv;
      len = c.u32_at-2.type_inv;
      bytes_are =
          joined bytes 0 4 4 (to_be_bytes w32 c.u32_at.result) (flags ++ (kind ++ (cookie ++ (offset ++ len)))) refl c.u32_at.ensures.found from_flags
          ∙ ap (λ (n : ℕ). to_be_bytes w32 n ++ (flags ++ (kind ++ (cookie ++ (offset ++ len))))) magic;
    }
