use Rattle.std.proofs.Common.{length, ap, ◌∙◌, arith}
use Rattle.words.specs.Seal.{sealed}
use Rattle.words.proofs.SealLemmas.{length-sealed}
use Rattle.uberblock_ring.specs.Slot.{front_bytes}
use Rattle.uberblock_ring.proofs.slot.decode_slot.Goals as goal

pub returns-in_default-clause-only : goal.returns-in_default-clause-only
returns-in_default-clause-only c = λ u spells. absurd (c.in_default.ensures.only (front_bytes u) spells.2)

pub read_front-requires : goal.read_front-requires
read_front-requires c = omega (arith, ap length c.in-Ok.ensures.found, length-sealed c.in-Ok.front.now, c.told-bytes)

pub returns-in_err-uberblock-clause-only : goal.returns-in_err-uberblock-clause-only
returns-in_err-uberblock-clause-only c = λ u spells.
    let front = c.in-Ok.ensures.only (front_bytes u) spells.2 in
    let read = c.in_err-uberblock.ensures.only u spells.0 front in
    absurd cc

pub returns-clause-found : goal.returns-clause-found
returns-clause-found c =
    let found = c.in_ok-uberblock.ensures.found in
    (found.0, omega (arith, c.slot_of.ensures), c.in-Ok.ensures.found ∙ ap sealed found.1)

pub returns-clause-only : goal.returns-clause-only
returns-clause-only c = λ u spells.
    let front = c.in-Ok.ensures.only (front_bytes u) spells.2 in
    let read = c.in_ok-uberblock.ensures.only u spells.0 front in
    cc
