use Rattle.std.proofs.Common.{Option, Ok, Result, subst, arith}
use Rattle.uberblock_ring.specs.declared.uberblock.Uberblock.{Uberblock}
use Rattle.pool_slots.specs.Opens.{FindsRewound, FindsRewoundIfUsed}
use Rattle.pool_slots.specs.Reads.{nowhere}
use Rattle.pool_slots.specs.declared.refusal.Refusal.{Refusal}
use Rattle.pool_slots.proofs.BackReads.{none_next, found_here, refused_here, none_there}
use Rattle.pool_slots.proofs.ReadRuns.{reads_any, reads_err, reads_made, reads_then}
use Rattle.pool_slots.proofs.Results.{err_use}
use Rattle.pool_slots.proofs.Used.{are_there}
use Rattle.pool_slots.proofs.going_back.find_rewound.Goals as goal

pub returns-in_err-uberblock-clause-only : goal.returns-in_err-uberblock-clause-only
returns-in_err-uberblock-clause-only g c = reads_err c.from_residual.result c.in_err-uberblock.field-0.0 c.from_residual.ensures.1 (reads_then c.loop-which.invariant.only c.in_err-uberblock.ensures.only)

pub returns-in_err-uberblock-clause-finds : goal.returns-in_err-uberblock-clause-finds
returns-in_err-uberblock-clause-finds g c =
    let first = c.args.disks.now in
    let new = c.find_rewound_if_used.new.disks in
    let P : Result Uberblock Refusal → Type 0 = FindsRewound c.args.out.now c.args.from.now c.args.groups first new in
    let cause = c.in_err-uberblock.field-0.0 in
    err_use c.from_residual.result cause P c.from_residual.ensures.1
    (refused_here c.args.out.now c.args.from.now c.args.groups first c.loop-which.disks new c.loop-which.which cause (reads_made c.loop-which.invariant.only) c.in_err-uberblock.ensures.finds)

pub returns-in-Some-clause-only : goal.returns-in-Some-clause-only
returns-in-Some-clause-only g c = reads_any (reads_then c.loop-which.invariant.only c.in_ok-uberblock.ensures.only)

pub returns-in-Some-clause-finds : goal.returns-in-Some-clause-finds
returns-in-Some-clause-finds g c =
    let new = c.find_rewound_if_used.new.disks in
    let from = c.args.from.now in
    let P : Option Uberblock → Type 0 = λ o. FindsRewoundIfUsed c.args.out.now from c.args.groups c.loop-which.disks new c.loop-which.which (Ok o) in
    found_here c.args.out.now from c.args.groups c.args.disks.now c.loop-which.disks new c.loop-which.which c.in-Some.uberblock (reads_made c.loop-which.invariant.only)
    (subst P c.in-Some.is c.in_ok-uberblock.ensures.finds)

pub loop-which-preserved : goal.loop-which-preserved
loop-which-preserved g c =
    let new = c.find_rewound_if_used.new.disks in
    let from = c.args.from.now in
    let P : Option Uberblock → Type 0 = λ o. FindsRewoundIfUsed c.args.out.now from c.args.groups c.loop-which.disks new c.loop-which.which (Ok o) in
    record {
      only = reads_then {faulty = nowhere} c.loop-which.invariant.only c.in_ok-uberblock.ensures.only;
      without = none_next c.args.out.now from c.args.groups c.args.disks.now c.loop-which.disks new c.loop-which.which (reads_made c.loop-which.invariant.only)
          (reads_made c.find_rewound_if_used.ensures.only) c.loop-which.invariant.without (subst P c.in-None.is c.in_ok-uberblock.ensures.finds);
    }

pub returns-clause-finds : goal.returns-clause-finds
returns-clause-finds g c =
    none_there c.args.out.now c.args.from.now c.args.groups c.args.disks.now c.loop-which.disks c.loop-which.which (are_there c.args.out.now c.args.disks.now.starts c.requires.out)
    (omega (arith, c.loop-which-test.false, c.loop-which.auto.which-end, c.len-which-end.ensures)) c.loop-which.invariant.without

pub returns-clause-only : goal.returns-clause-only
returns-clause-only g c = reads_any c.loop-which.invariant.only
