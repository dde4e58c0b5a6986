use Rattle.std.proofs.Common.{◌≡◌, ◌<◌, ◌∙◌, ℕ, List, length, map, get_or, refl, sym, ap, subst, arith}
use Rattle.std.proofs.lemmas.Option.{slice_get-get_or, slice_get_within}
use Rattle.std.proofs.lemmas.List.{length-map}
use Rattle.model_disk.specs.Joint.{bytes_of, content}
use Rattle.model_disk.proofs.RunLemmas.{Makes-none}
use Rattle.vdev_label.specs.Plain.{PlainLabel, label_view}
use Rattle.pool_slots.specs.Labels.{IsValid}
use Rattle.pool_slots.specs.Slots.{MakesOn, is_disk}
use Rattle.pool_format.specs.Faults.{is_fault}
use Rattle.pool_format.specs.Labels.{AllShow, IsLabelWrite, label_on, of_child}
use Rattle.pool_format.specs.declared.children.Child.{Child}
use Rattle.pool_format.proofs.Failures.{failed_after, failed_err, none_failed, nowhere}
use Rattle.pool_format.proofs.Writes.{child_at, disk_makes, disk_settled, disk_shown}
use Rattle.pool_format.proofs.labeling.label_disks.Goals as goal

pub loop-which-init : goal.loop-which-init
loop-which-init g c = record {
  makes = Makes-none (IsLabelWrite c.args.disks.now.starts (map (of_child (label_view c.args.label.now)) c.args.children.now)) c.args.disks.now;
  same = λ child. refl;
  shown = λ which l below. absurd (omega (arith, below));
  settled = λ which below. absurd (omega (arith, below));
  failed = none_failed c.args.disks.now;
}

pub label_disk-requires-clause-valid : goal.label_disk-requires-clause-valid
label_disk-requires-clause-valid g c =
    let child : Child = get_or c.args.children.now c.loop-which.which (record { top_guid = 0; guid = 0 }) in
    let below : c.loop-which.which < length c.args.children.now = omega (arith, c.loop-which-test.true) in
    subst IsValid (sym (c.set_child.ensures ∙ c.loop-which.invariant.same child)) (c.requires.valid c.loop-which.which (record { top_guid = 0; guid = 0 }) below)

pub returns-in_err-label_disk-clause-makes : goal.returns-in_err-label_disk-clause-makes
returns-in_err-label_disk-clause-makes g c =
    let first = c.args.disks.now in
    let loop = c.loop-which.disks in
    let new = c.label_disk.new.disks in
    let n = c.loop-which.which in
    let l0 = label_view c.args.label.now in
    let child : Child = get_or c.args.children.now n (record { top_guid = 0; guid = 0 }) in
    let below : n < length c.args.children.now = omega (arith, c.loop-which-test.true) in
    let P : PlainLabel → Type 0 = λ l. MakesOn (is_disk n) (label_on loop.starts n l) loop new in
    disk_makes first loop new n (map (of_child l0) c.args.children.now) (of_child l0 child)
    (child_at l0 c.args.children.now n child (slice_get-get_or c.args.children.now n (record { top_guid = 0; guid = 0 }) below)) c.loop-which.invariant.makes
    (subst P (c.set_child.ensures ∙ c.loop-which.invariant.same child) c.label_disk.ensures.makes)

pub returns-in_err-label_disk-clause-failed : goal.returns-in_err-label_disk-clause-failed
returns-in_err-label_disk-clause-failed g c =
    let first = c.args.disks.now in
    let loop = c.loop-which.disks in
    let new = c.label_disk.new.disks in
    let cause = c.in_err-label_disk.field-0.0 in
    failed_err c.from_residual.result cause first new c.from_residual.ensures.1
    (failed_after (IsLabelWrite first.starts (map (of_child (label_view c.args.label.now)) c.args.children.now)) (label_on loop.starts c.loop-which.which (label_view c.set_child.new.label)) (is_fault cause)
    first loop new c.loop-which.invariant.makes c.label_disk.ensures.makes.makes c.loop-which.invariant.failed c.in_err-label_disk.ensures.failed)

pub loop-which-preserved : goal.loop-which-preserved
loop-which-preserved g c =
    let first = c.args.disks.now in
    let loop = c.loop-which.disks in
    let new = c.label_disk.new.disks in
    let n = c.loop-which.which in
    let l0 = label_view c.args.label.now in
    let child : Child = get_or c.args.children.now n (record { top_guid = 0; guid = 0 }) in
    let below : n < length c.args.children.now = omega (arith, c.loop-which-test.true) in
    let l = of_child l0 child in
    let is : label_view c.set_child.new.label ≡ l = c.set_child.ensures ∙ c.loop-which.invariant.same child in
    let at = child_at l0 c.args.children.now n child (slice_get-get_or c.args.children.now n (record { top_guid = 0; guid = 0 }) below) in
    let labels = map (of_child l0) c.args.children.now in
    let P : PlainLabel → Type 0 = λ it. MakesOn (is_disk n) (label_on loop.starts n it) loop new in
    let Q : PlainLabel → Type 0 = λ it. AllShow (length (bytes_of loop.starts n)) (content new n) it in
    let makes = subst P is c.label_disk.ensures.makes in
    record {
      makes = disk_makes first loop new n labels l at c.loop-which.invariant.makes makes;
      same = λ other. ap (λ (it : PlainLabel). of_child it other) c.set_child.ensures ∙ c.loop-which.invariant.same other;
      shown = disk_shown first loop new n labels l at c.loop-which.invariant.makes.starts makes c.loop-which.invariant.shown (subst Q is c.in_ok-label_disk.ensures.shown);
      settled = disk_settled loop new n (label_on loop.starts n l) makes c.loop-which.invariant.settled c.in_ok-label_disk.ensures.settled;
      failed = failed_after (IsLabelWrite first.starts labels) (label_on loop.starts n l) nowhere first loop new c.loop-which.invariant.makes makes.makes c.loop-which.invariant.failed
          c.in_ok-label_disk.ensures.failed;
    }

pub returns-clause-shown : goal.returns-clause-shown
returns-clause-shown g c = λ which l has.
    let l0 = label_view c.args.label.now in
    let labels = map (of_child l0) c.args.children.now in
    let inside : which < length labels = slice_get_within labels which l has in
    let below : which < c.loop-which.which = omega (arith, inside, length-map c.args.children.now (of_child l0), c.loop-which-test.false) in
    let P : List (List ℕ) → Type 0 = λ starts. AllShow (length (bytes_of starts which)) (content c.loop-which.disks which) l in
    subst P (sym c.loop-which.invariant.makes.starts) (c.loop-which.invariant.shown which l below has)
