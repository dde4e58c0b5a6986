use Rattle.std.proofs.Common.{◌≡◌, take, drop, ap, arith, true, false}
use Rattle.std.specs.Int.{w32, to_be_bytes}
use Rattle.std.specs.Prelude.{if◌then◌else◌}
use Rattle.nbd_wire.specs.Handshake.{client_flags_bytes}
use Rattle.nbd_wire.proofs.handshake.decode_client_flags.Goals as goal

pub returns-in_default : goal.returns-in_default
returns-in_default c = λ flags spells.
    let front : take 4 (drop 0 c.args.bytes.now) ≡ client_flags_bytes flags = ap (λ bs. take 4 (drop 0 bs)) spells in
    elim flags.no_zeroes as (λ b. take 4 (drop 0 c.args.bytes.now) ≡ to_be_bytes w32 (if b then 3 else 1) → ⊥) [
      | true ↦ λ e. let n : c.u32_at.result ≡ 3 = c.u32_at.ensures.only 3 (omega arith) e in omega arith
      | false ↦ λ e. let n : c.u32_at.result ≡ 1 = c.u32_at.ensures.only 1 (omega arith) e in omega arith
    ] front
