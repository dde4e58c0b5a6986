use Rattle.std.proofs.Common.{◌≡◌, ◌∙◌, inl, inr, ℕ, true, false, Result, refl, sym}
use Rattle.std.proofs.lemmas.Slice.Eq.{bytes_eq-Decides}
use Rattle.vdev_label.specs.declared.label.Label.{Label}
use Rattle.pool_slots.specs.LabelReads.{MakesLabel, is_either}
use Rattle.pool_slots.specs.Reads.{is_fault, nowhere}
use Rattle.pool_slots.specs.Slots.{is_disk}
use Rattle.pool_slots.specs.declared.refusal.Refusal.{Refusal}
use Rattle.pool_slots.proofs.LabelPlans.{donor_unread, label_given, label_unread}
use Rattle.pool_slots.proofs.ReadRuns.{reads_err, reads_made, reads_then, reads_wider}
use Rattle.pool_slots.proofs.Results.{err_use}
use Rattle.pool_slots.proofs.areas.new_label.Goals as goal

pub returns-in_err-own-clause-only : goal.returns-in_err-own-clause-only
returns-in_err-own-clause-only g c =
    let faulty : ℕ → Type 0 = is_fault c.in_err-own.field-0.0 in
    reads_err c.from_residual.result c.in_err-own.field-0.0 c.from_residual.ensures.1
    (reads_wider (is_disk c.args.which) (is_either c.args.which c.args.donor.disk) faulty faulty c.args.disks.now c.read_again.new.disks (λ w it. inl it) (λ w it. it) c.in_err-own.ensures.only)

pub returns-in_err-own-clause-label : goal.returns-in_err-own-clause-label
returns-in_err-own-clause-label g c =
    let P : Result Label Refusal → Type 0 = MakesLabel c.args.labeled.now c.args.donor c.args.digest.now c.args.disks.now c.read_again.new.disks c.args.which in
    let cause = c.in_err-own.field-0.0 in
    err_use c.from_residual.result cause P c.from_residual.ensures.1
    (label_unread c.args.labeled.now c.args.donor c.args.digest.now c.args.disks.now c.read_again.new.disks c.args.which cause c.in_err-own.ensures.reads)

pub returns-in_err-given-clause-only : goal.returns-in_err-given-clause-only
returns-in_err-given-clause-only g c =
    let either = is_either c.args.which c.args.donor.disk in
    let faulty : ℕ → Type 0 = is_fault c.in_err-given.field-0.0 in
    reads_err c.from_residual-in_err-given.result c.in_err-given.field-0.0 c.from_residual-in_err-given.ensures.1
    (reads_then (reads_wider (is_disk c.args.which) either nowhere nowhere c.args.disks.now c.read_again.new.disks (λ w it. inl it) (λ w it. it) c.in_ok-own.ensures.only)
    (reads_wider (is_disk c.args.donor.disk) either faulty faulty c.read_again.new.disks c.read_again-2.new.disks (λ w it. inr it) (λ w it. it) c.in_err-given.ensures.only))

pub returns-in_err-given-clause-label : goal.returns-in_err-given-clause-label
returns-in_err-given-clause-label g c =
    let P : Result Label Refusal → Type 0 = MakesLabel c.args.labeled.now c.args.donor c.args.digest.now c.args.disks.now c.read_again-2.new.disks c.args.which in
    let cause = c.in_err-given.field-0.0 in
    err_use c.from_residual-in_err-given.result cause P c.from_residual-in_err-given.ensures.1
    (donor_unread c.args.labeled.now c.args.donor c.args.digest.now c.args.disks.now c.read_again.new.disks c.read_again-2.new.disks c.args.which cause (reads_made c.read_again.ensures.only) c.in_err-given.ensures.reads)

pub returns-clause-only : goal.returns-clause-only
returns-clause-only g c =
    let either = is_either c.args.which c.args.donor.disk in
    reads_then (reads_wider (is_disk c.args.which) either nowhere nowhere c.args.disks.now c.read_again.new.disks (λ w it. inl it) (λ w it. it) c.in_ok-own.ensures.only)
    (reads_wider (is_disk c.args.donor.disk) either nowhere nowhere c.read_again.new.disks c.read_again-2.new.disks (λ w it. inr it) (λ w it. it) c.in_ok-given.ensures.only)

pub returns-clause-label : goal.returns-clause-label
returns-clause-label g c =
    let own = c.in_ok-own.own in
    let given = c.in_ok-given.given in
    let it = c.args.labeled.now in
    let digest = c.args.digest.now in
    let other : ¬ (it.config_digest ≡ digest) = λ same.
    let e : false ≡ true = sym c.if-eq.false ∙ c.eq.ensures ∙ (bytes_eq-Decides it.config_digest digest).1 same in
    absurd cc in
    label_given c.args.labeled.now c.args.donor c.args.digest.now c.args.disks.now c.read_again.new.disks c.read_again-2.new.disks c.args.which own given
    (record { claim = given.claim; guid = own.guid; name = given.name; pool_guid = given.pool_guid; state = given.state; top_guid = own.top_guid; group = given.group; config = given.config })
    other (reads_made c.read_again.ensures.only) (reads_made c.read_again-2.ensures.only) c.in_ok-own.ensures.reads c.in_ok-given.ensures.reads refl
