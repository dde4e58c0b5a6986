use Rattle.std.proofs.Common.{rules, ◌≡◌, true, false, not, Some, Result, Ok, Err, sym, ap, subst, ◌∙◌}
use Rattle.std.specs.Prelude.{OnOk, is_err}
use Rattle.std.specs.List.{slice_get}
use Rattle.std.proofs.lemmas.List.{length-set}
use Rattle.block_store.specs.Spaces.{VdevSpace}
use Rattle.block_store.proofs.Choosing.{at_item}
use Rattle.block_store.proofs.Settled.{SettledUpTo, none_yet, one_more, all_settled, some_settled, none_planned}
use Rattle.block_store.proofs.Taking.{map-set_same}
use Rattle.block_store.proofs.releasing.settle_each.Goals as goal
use Rattle.block_store.proofs.releasing.settle_each.Goals.{then-is_err, else-is_err}

was_ok : {E : Type 0} (result : Result (Unit {0}) E) (P : Type 0) → is_err result ≡ false → OnOk result P → P
was_ok (Ok unit) P is holds = holds
was_ok (Err e) P is holds = absurd (cc)

pub loop-vdev-init : goal.loop-vdev-init
loop-vdev-init c = none_yet c.args.group c.args.spaces.now.items

pub loop-vdev-preserved : goal.loop-vdev-preserved
loop-vdev-preserved c =
    let at : slice_get c.loop-vdev.spaces.items c.loop-vdev.vdev ≡ Some c.index_mut.result.now =
    at_item c.loop-vdev.spaces.items c.loop-vdev.vdev c.index_mut.result.now (search rules) c.index_mut.ensures.value in
    let more = one_more c.args.group c.args.spaces.now.items c.loop-vdev.spaces.items c.loop-vdev.vdev (not c.loop-vdev.failed) (not c.if-is_err.failed) c.index_mut.result.now
    c.settle.new.self c.loop-vdev.invariant at c.settle.ensures.rest c.settle.ensures.some in
    let count = length-set c.loop-vdev.spaces.items c.loop-vdev.vdev c.settle.new.self in
    let shapes = map-set_same (λ s. s.shape) c.loop-vdev.spaces.items c.loop-vdev.vdev c.index_mut.result.now c.settle.new.self at (ap (λ (s : VdevSpace). s.shape) c.settle.ensures.rest) in
    elim c.if-is_err.branch [
      | then-is_err w ↦ more (λ yes. let failed = w.failed-is in absurd (let no : not true ≡ true = ap not (sym failed) ∙ yes in cc)) count shapes
      | else-is_err w ↦ more (λ yes. (ap not (sym w.failed-is) ∙ yes, was_ok c.settle.result _ (sym c.is_err.ensures.value ∙ w.if-is_err.false) c.settle.ensures.settled)) count shapes
    ]

pub returns-then-failed-clause-some : goal.returns-then-failed-clause-some
returns-then-failed-clause-some c = some_settled c.args.group c.args.spaces.now.items c.loop-vdev.spaces.items c.loop-vdev.vdev _ c.loop-vdev.invariant

pub returns-then-failed-clause-free : goal.returns-then-failed-clause-free
returns-then-failed-clause-free c =
    let count = c.loop-vdev.invariant.count in
    none_planned c.args.group c.args.spaces.now.items c.loop-vdev.spaces.items c.loop-vdev.vdev _ (search rules) c.loop-vdev.invariant

pub returns-clause-settled : goal.returns-clause-settled
returns-clause-settled c =
    let count = c.loop-vdev.invariant.count in
    all_settled c.args.group c.args.spaces.now.items c.loop-vdev.spaces.items c.loop-vdev.vdev (search rules)
    (subst (λ failed. SettledUpTo c.args.group c.args.spaces.now.items c.loop-vdev.spaces.items c.loop-vdev.vdev (not failed)) c.if-failed.false c.loop-vdev.invariant)

pub returns-clause-some : goal.returns-clause-some
returns-clause-some c = some_settled c.args.group c.args.spaces.now.items c.loop-vdev.spaces.items c.loop-vdev.vdev _ c.loop-vdev.invariant

pub returns-clause-free : goal.returns-clause-free
returns-clause-free c =
    let count = c.loop-vdev.invariant.count in
    none_planned c.args.group c.args.spaces.now.items c.loop-vdev.spaces.items c.loop-vdev.vdev _ (search rules) c.loop-vdev.invariant
