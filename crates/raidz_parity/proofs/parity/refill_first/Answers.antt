use Rattle.std.proofs.Common.{ℕ, ◌≡◌, List, length, drop, ap, arith}
use Rattle.raidz_parity.proofs.Filled.{parity_from_filled}
use Rattle.raidz_parity.proofs.Weights.{All-wider}
use Rattle.raidz_parity.proofs.parity.refill_first.Goals as goal

pub returns-clause-parity : goal.returns-clause-parity
returns-clause-parity c =
    let lengths : List ℕ = c.args.lengths.now in
    let items : List ℕ = c.args.first.now.items in
    let len : ℕ = c.args.first.now.len in
    let filled : List ℕ = c.fill_first.new.first in
    let count : length items ≡ len = omega (arith, c.as_mut_slice.ensures.len, ap (length {A = ℕ}) c.as_mut_slice.ensures.value) in
    let kept : length filled ≡ len = omega (arith, c.fill_first.auto.first, c.as_mut_slice.ensures.len) in
    parity_from_filled 0 len lengths c.args.block.now filled (drop (length filled) items)
    c.requires.fits (All-wider lengths (length c.args.first.now.items) len (omega (arith, c.requires)) c.requires.longest) kept c.fill_first.ensures
