use Rattle.std.proofs.Common.{arith}
use Rattle.pool_slots.specs.Configs.{of_config}
use Rattle.pool_slots.specs.Writes.{InHalf}
use Rattle.pool_slots.proofs.Used.{are_there}
use Rattle.pool_export.specs.Moments.{of_claim_from}
use Rattle.pool_export.specs.Writes.{IsUsedWrite, is_any}
use Rattle.pool_export.proofs.Absence.{go_on}
use Rattle.pool_export.proofs.Halves.{both_stand, made_more}
use Rattle.pool_export.proofs.Moments.{as_configured, as_marked, labels_always}
use Rattle.pool_export.proofs.settling.settle_labels.Goals as goal

pub returns-clause-absent : goal.returns-clause-absent
returns-clause-absent g c =
    let out = c.args.out.now.items in
    let mid = c.settle_half.new.out.items in
    go_on (IsUsedWrite out c.args.disks.now.starts c.args.areas.now (InHalf 1)) (IsUsedWrite mid c.settle_half.new.disks.starts c.args.areas.now (InHalf 0)) out mid c.settle_half-2.new.out.items
    c.args.disks.now c.settle_half.new.disks c.settle_half-2.new.disks c.settle_half.ensures.absent c.settle_half-2.ensures.absent c.settle_half.ensures.makes.makes c.settle_half-2.ensures.makes

pub returns-clause-makes : goal.returns-clause-makes
returns-clause-makes g c =
    made_more c.args.out.now.items c.settle_half.new.out.items c.args.disks.now c.settle_half.new.disks c.settle_half-2.new.disks c.args.areas.now (InHalf 1) (InHalf 0) is_any
    c.settle_half.ensures.absent.stay (λ n is odd. is) (λ n is even. is) c.settle_half.ensures.makes c.settle_half-2.ensures.makes

pub returns-clause-stand : goal.returns-clause-stand
returns-clause-stand g c =
    both_stand c.settle_half.new.out.items c.settle_half-2.new.out.items c.args.disks.now c.settle_half.new.disks c.settle_half-2.new.disks c.args.areas.now c.requires.whole c.requires.labels
    (omega (arith, c.requires.count)) c.settle_half.ensures.makes.makes.starts c.settle_half-2.ensures.absent.stay c.settle_half.ensures.stand c.settle_half-2.ensures.makes.makes c.settle_half-2.ensures.stand

pub returns-clause-configured : goal.returns-clause-configured
returns-clause-configured g c = λ digest even spell.
    let out = c.args.out.now.items in
    let old = c.args.disks.now in
    let new = c.settle_half-2.new.disks in
    as_configured out old new digest
    (labels_always (of_config digest) out c.settle_half.new.out.items old c.settle_half.new.disks new c.args.areas.now (are_there out old.starts c.requires.out) c.requires.labels c.requires.whole
    c.requires.on even spell c.settle_half.ensures.makes.makes c.settle_half.ensures.settled c.settle_half.ensures.stand c.settle_half-2.ensures.makes.makes)

pub returns-clause-marked : goal.returns-clause-marked
returns-clause-marked g c = λ claim even spell.
    let out = c.args.out.now.items in
    let old = c.args.disks.now in
    let new = c.settle_half-2.new.disks in
    as_marked out old new claim
    (labels_always (of_claim_from claim) out c.settle_half.new.out.items old c.settle_half.new.disks new c.args.areas.now (are_there out old.starts c.requires.out) c.requires.labels c.requires.whole
    c.requires.on even spell c.settle_half.ensures.makes.makes c.settle_half.ensures.settled c.settle_half.ensures.stand c.settle_half-2.ensures.makes.makes)
