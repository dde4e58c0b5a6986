use Rattle.std.proofs.Common.{length, refl, ◌∙◌}
use Rattle.pool_slots.specs.Failures.{IsFailure}
use Rattle.pool_slots.proofs.Failing.{failure_later, fails_later}
use Rattle.pool_slots.specs.Labels.{AreSlotted}
use Rattle.pool_slots.specs.Opens.{SlotsGive}
use Rattle.pool_slots.specs.Slots.{InUse, AreSettled}
use Rattle.pool_slots.specs.Writes.{IsSlotWrite, in_use, InTurn}
use Rattle.pool_slots.proofs.ClaimPhases.{all_slotted, first_always, between_halves, second_always, claim_done, second_leads, turn_writes}
use Rattle.pool_slots.proofs.CommitPhases.{slots_flushed}
use Rattle.pool_slots.proofs.Phases.{MakesOn-more, flushed_too, both_made}
use Rattle.pool_slots.proofs.Results.{on_ok_use, if_err_is}
use Rattle.pool_slots.proofs.Used.{are_there}
use Rattle.pool_slots.proofs.claiming.claim_slots.Goals as goal

pub returns-in_err-write_turn-clause-makes : goal.returns-in_err-write_turn-clause-makes
returns-in_err-write_turn-clause-makes g c =
    turn_writes c.args.out.now c.args.all.now 0 c.args.disks.now.starts c.args.disks.now c.write_turn.new.disks c.args.uberblock.now refl c.write_turn.ensures.makes

pub returns-in_err-flush_all-clause-makes : goal.returns-in_err-flush_all-clause-makes
returns-in_err-flush_all-clause-makes g c =
    let old = c.args.disks.now in
    flushed_too (InUse c.args.out.now) (IsSlotWrite old.starts c.args.uberblock.now (in_use c.args.out.now)) old c.write_turn.new.disks c.flush_all.new.disks
    (turn_writes c.args.out.now c.args.all.now 0 old.starts old c.write_turn.new.disks c.args.uberblock.now refl c.write_turn.ensures.makes) c.flush_all.ensures.makes

pub returns-in_err-write_turn-2-clause-makes : goal.returns-in_err-write_turn-2-clause-makes
returns-in_err-write_turn-2-clause-makes g c =
    let old = c.args.disks.now in
    let mid = c.flush_all.new.disks in
    let may = IsSlotWrite old.starts c.args.uberblock.now (in_use c.args.out.now) in
    let first = flushed_too (InUse c.args.out.now) may old c.write_turn.new.disks mid
    (turn_writes c.args.out.now c.args.all.now 0 old.starts old c.write_turn.new.disks c.args.uberblock.now refl c.write_turn.ensures.makes) c.flush_all.ensures.makes in
    MakesOn-more (InUse c.args.out.now) may old mid c.write_turn-2.new.disks first
    (turn_writes c.args.out.now c.args.all.now 1 old.starts mid c.write_turn-2.new.disks c.args.uberblock.now first.makes.starts c.write_turn-2.ensures.makes)

pub returns-clause-makes : goal.returns-clause-makes
returns-clause-makes g c =
    let old = c.args.disks.now in
    let mid = c.flush_all.new.disks in
    let may = IsSlotWrite old.starts c.args.uberblock.now (in_use c.args.out.now) in
    let first = flushed_too (InUse c.args.out.now) may old c.write_turn.new.disks mid
    (turn_writes c.args.out.now c.args.all.now 0 old.starts old c.write_turn.new.disks c.args.uberblock.now refl c.write_turn.ensures.makes) c.flush_all.ensures.makes in
    flushed_too (InUse c.args.out.now) may old c.write_turn-2.new.disks c.flush_all-2.new.disks
    (MakesOn-more (InUse c.args.out.now) may old mid c.write_turn-2.new.disks first
    (turn_writes c.args.out.now c.args.all.now 1 old.starts mid c.write_turn-2.new.disks c.args.uberblock.now first.makes.starts c.write_turn-2.ensures.makes)) c.flush_all-2.ensures.makes

pub returns-in_err-write_turn-clause-any_moment : goal.returns-in_err-write_turn-clause-any_moment
returns-in_err-write_turn-clause-any_moment g c = λ trees p may.
    first_always trees c.args.out.now c.args.disks.now c.write_turn.new.disks p c.args.uberblock.now c.args.all.now (are_there c.args.out.now c.args.disks.now.starts c.requires.out) c.requires.labels c.requires.fits may
    c.write_turn.ensures.makes.makes

pub returns-in_err-flush_all-clause-any_moment : goal.returns-in_err-flush_all-clause-any_moment
returns-in_err-flush_all-clause-any_moment g c = λ trees p may.
    first_always trees c.args.out.now c.args.disks.now c.flush_all.new.disks p c.args.uberblock.now c.args.all.now (are_there c.args.out.now c.args.disks.now.starts c.requires.out) c.requires.labels c.requires.fits may
    (both_made (IsSlotWrite c.args.disks.now.starts c.args.uberblock.now (InTurn c.args.out.now c.args.all.now 0)) c.args.disks.now c.write_turn.new.disks c.flush_all.new.disks c.write_turn.ensures.makes.makes c.flush_all.ensures.makes.makes)

pub returns-in_err-write_turn-2-clause-any_moment : goal.returns-in_err-write_turn-2-clause-any_moment
returns-in_err-write_turn-2-clause-any_moment g c = λ trees p may.
    let old = c.args.disks.now in
    let mid = c.flush_all.new.disks in
    let u = c.args.uberblock.now in
    let all = c.args.all.now in
    let there = are_there c.args.out.now old.starts c.requires.out in
    let between = between_halves trees c.args.out.now old mid p u all there c.requires.labels c.requires.fits may
    (both_made (IsSlotWrite old.starts u (InTurn c.args.out.now all 0)) old c.write_turn.new.disks mid c.write_turn.ensures.makes.makes c.flush_all.ensures.makes.makes)
    (slots_flushed c.write_turn.new.disks mid old.starts u (InTurn c.args.out.now all 0) (length old.starts) c.flush_all.ensures.makes.makes c.in_ok-write_turn.ensures.stand) c.in_ok-flush_all.ensures.settled in
    second_always trees c.args.out.now old mid c.write_turn-2.new.disks p u all there c.requires.labels c.requires.fits may between c.write_turn-2.ensures.makes.makes

pub returns-clause-any_moment : goal.returns-clause-any_moment
returns-clause-any_moment g c = λ trees p may.
    let old = c.args.disks.now in
    let mid = c.flush_all.new.disks in
    let u = c.args.uberblock.now in
    let all = c.args.all.now in
    let there = are_there c.args.out.now old.starts c.requires.out in
    let between = between_halves trees c.args.out.now old mid p u all there c.requires.labels c.requires.fits may
    (both_made (IsSlotWrite old.starts u (InTurn c.args.out.now all 0)) old c.write_turn.new.disks mid c.write_turn.ensures.makes.makes c.flush_all.ensures.makes.makes)
    (slots_flushed c.write_turn.new.disks mid old.starts u (InTurn c.args.out.now all 0) (length old.starts) c.flush_all.ensures.makes.makes c.in_ok-write_turn.ensures.stand) c.in_ok-flush_all.ensures.settled in
    second_always trees c.args.out.now old mid c.flush_all-2.new.disks p u all there c.requires.labels c.requires.fits may between
    (both_made (IsSlotWrite mid.starts u (InTurn c.args.out.now all 1)) mid c.write_turn-2.new.disks c.flush_all-2.new.disks c.write_turn-2.ensures.makes.makes c.flush_all-2.ensures.makes.makes)

pub returns-clause-slotted : goal.returns-clause-slotted
returns-clause-slotted g c =
    let out = c.args.out.now in
    let old = c.args.disks.now in
    let mid = c.flush_all.new.disks in
    let new = c.flush_all-2.new.disks in
    let u = c.args.uberblock.now in
    let all = c.args.all.now in
    on_ok_use c.flush_all-2.result (AreSettled out new.calls) (AreSlotted out new u)
    (λ settled. all_slotted out old mid new u all c.requires.labels c.requires.fits
    (c.flush_all.ensures.makes.makes.starts ∙ c.write_turn.ensures.makes.makes.starts)
    (slots_flushed c.write_turn.new.disks mid old.starts u (InTurn c.args.out.now all 0) (length old.starts) c.flush_all.ensures.makes.makes c.in_ok-write_turn.ensures.stand)
    (both_made (IsSlotWrite mid.starts u (InTurn c.args.out.now all 1)) mid c.write_turn-2.new.disks new c.write_turn-2.ensures.makes.makes c.flush_all-2.ensures.makes.makes)
    (slots_flushed c.write_turn-2.new.disks new mid.starts u (InTurn c.args.out.now all 1) (length mid.starts) c.flush_all-2.ensures.makes.makes c.in_ok-write_turn-2.ensures.stand))
    c.flush_all-2.ensures.settled

pub returns-clause-claimed : goal.returns-clause-claimed
returns-clause-claimed g c =
    let out = c.args.out.now in
    let old = c.args.disks.now in
    let mid = c.flush_all.new.disks in
    let new = c.flush_all-2.new.disks in
    let u = c.args.uberblock.now in
    let all = c.args.all.now in
    on_ok_use c.flush_all-2.result (AreSettled out new.calls) (SlotsGive out old u all new)
    (λ settled trees p may.
    let there = are_there out old.starts c.requires.out in
    let between = between_halves trees out old mid p u all there c.requires.labels c.requires.fits may
    (both_made (IsSlotWrite old.starts u (InTurn c.args.out.now all 0)) old c.write_turn.new.disks mid c.write_turn.ensures.makes.makes c.flush_all.ensures.makes.makes)
    (slots_flushed c.write_turn.new.disks mid old.starts u (InTurn c.args.out.now all 0) (length old.starts) c.flush_all.ensures.makes.makes c.in_ok-write_turn.ensures.stand) c.in_ok-flush_all.ensures.settled in
    let wrote = both_made (IsSlotWrite mid.starts u (InTurn c.args.out.now all 1)) mid c.write_turn-2.new.disks new c.write_turn-2.ensures.makes.makes c.flush_all-2.ensures.makes.makes in
    let stand = slots_flushed c.write_turn-2.new.disks new mid.starts u (InTurn c.args.out.now all 1) (length mid.starts) c.flush_all-2.ensures.makes.makes c.in_ok-write_turn-2.ensures.stand in (
      claim_done trees out old mid new p u all there c.requires.labels c.requires.fits may between wrote stand settled,
      second_leads trees out old mid new p u all there c.requires.labels c.requires.fits may between wrote stand,
    ))
    c.flush_all-2.ensures.settled

pub returns-in_err-flush_all-clause-fault : goal.returns-in_err-flush_all-clause-fault
returns-in_err-flush_all-clause-fault g c =
    if_err_is c.from_residual-in_err-flush_all.result c.in_err-flush_all.field-0.0 (IsFailure c.args.disks.now c.flush_all.new.disks) c.from_residual-in_err-flush_all.ensures.1
    (fails_later (IsSlotWrite c.args.disks.now.starts c.args.uberblock.now (InTurn c.args.out.now c.args.all.now 0)) c.args.disks.now c.write_turn.new.disks c.flush_all.new.disks
    c.write_turn.ensures.makes.makes c.in_err-flush_all.field-0.0.disk c.in_err-flush_all.ensures.fault)

pub returns-in_err-write_turn-2-clause-fault : goal.returns-in_err-write_turn-2-clause-fault
returns-in_err-write_turn-2-clause-fault g c =
    if_err_is c.from_residual-in_err-write_turn-2.result c.in_err-write_turn-2.field-0.0 (IsFailure c.args.disks.now c.write_turn-2.new.disks) c.from_residual-in_err-write_turn-2.ensures.1
    (fails_later (IsSlotWrite c.args.disks.now.starts c.args.uberblock.now (InTurn c.args.out.now c.args.all.now 0)) c.args.disks.now c.flush_all.new.disks c.write_turn-2.new.disks
    (both_made (IsSlotWrite c.args.disks.now.starts c.args.uberblock.now (InTurn c.args.out.now c.args.all.now 0)) c.args.disks.now c.write_turn.new.disks c.flush_all.new.disks c.write_turn.ensures.makes.makes c.flush_all.ensures.makes.makes)
    c.in_err-write_turn-2.field-0.0.disk c.in_err-write_turn-2.ensures.fault)

pub returns-clause-fault : goal.returns-clause-fault
returns-clause-fault g c =
    let old = c.args.disks.now in
    let mid = c.flush_all.new.disks in
    let wrote = c.write_turn-2.new.disks in
    let may = IsSlotWrite old.starts c.args.uberblock.now (in_use c.args.out.now) in
    let first = flushed_too (InUse c.args.out.now) may old c.write_turn.new.disks mid
    (turn_writes c.args.out.now c.args.all.now 0 old.starts old c.write_turn.new.disks c.args.uberblock.now refl c.write_turn.ensures.makes) c.flush_all.ensures.makes in
    let all = MakesOn-more (InUse c.args.out.now) may old mid wrote first
    (turn_writes c.args.out.now c.args.all.now 1 old.starts mid wrote c.args.uberblock.now first.makes.starts c.write_turn-2.ensures.makes) in
    failure_later c.flush_all-2.result may old wrote c.flush_all-2.new.disks all.makes c.flush_all-2.ensures.fault
