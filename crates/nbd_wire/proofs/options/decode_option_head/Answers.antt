use Rattle.std.proofs.Common.{◌≡◌, ℕ, ◌++◌, ◌∙◌, refl, arith, [], ap}
use Rattle.std.specs.Int.{w32, w64, to_be_bytes}
use Rattle.nbd_wire.proofs.Cuts.{joined, ended}
use Rattle.nbd_wire.proofs.options.decode_option_head.Goals as goal

pub returns : goal.returns
returns c =
    let bytes = c.args.bytes.now in
    let option = to_be_bytes w32 c.u32_at.result in
    let len = to_be_bytes w32 c.u32_at-2.result in
    let magic : c.u64_at.result ≡ 0x4948_4156_454f_5054 = c.if-u64_at-ne-OPTION_MAGIC.false in record {
      option = c.u32_at.type_inv;
      len = c.u32_at-2.type_inv;
      bytes_are =
          joined bytes 0 8 8 (to_be_bytes w64 c.u64_at.result) (option ++ len) refl c.u64_at.ensures.found
          (joined bytes 8 4 12 option len refl c.u32_at.ensures.found
          (joined bytes 12 4 16 len [] refl c.u32_at-2.ensures.found (ended bytes 16 (omega (arith, c.told-bytes)))))
          ∙ ap (λ (n : ℕ). to_be_bytes w64 n ++ (option ++ len)) magic;
    }
