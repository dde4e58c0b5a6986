use Rattle.std.proofs.Common.{ℕ, ◌+◌, List, Option, Result, Ok, Err, length, refl, sym, subst, arith}
use Rattle.uberblock_ring.specs.declared.uberblock.Uberblock.{Uberblock}
use Rattle.pool_slots.specs.LabelReads.{HasLabeled, IsDonor, IsGiven, IsGreatestIn, MakesAreas, NoDonor, PlansClaim}
use Rattle.pool_slots.specs.Reads.{is_fault, nowhere}
use Rattle.pool_slots.specs.Slots.{InUse}
use Rattle.pool_slots.specs.declared.areas.Plan.{Plan}
use Rattle.pool_slots.specs.declared.labeled.Labeled.{Labeled}
use Rattle.pool_slots.specs.declared.refusal.Refusal.{Refusal}
use Rattle.pool_slots.proofs.LabelPlans.{areas_refused, given_by, labeled_used, labels_unread, none_gives, plan_made, plan_used_up}
use Rattle.pool_slots.proofs.ReadRuns.{reads_any, reads_err, reads_made, reads_then, reads_wider}
use Rattle.pool_slots.proofs.Results.{err_use}
use Rattle.pool_slots.proofs.areas.plan_claim.Goals as goal

pub returns-then-greatest-ge-LAST_COUNT-clause-plans : goal.returns-then-greatest-ge-LAST_COUNT-clause-plans
returns-then-greatest-ge-LAST_COUNT-clause-plans g c =
    let least = c.args.highest.now.claim in
    let P : List (Option Labeled) → Type 0 = λ xs. IsGreatestIn xs least (length xs) c.greatest_of-greatest.result in
    plan_used_up c.args.out.now c.args.taken.now c.args.highest.now c.args.disks.now c.read_labels.new.disks c.in_ok-labels.labels.items c.greatest_of-greatest.result c.in_ok-labels.ensures.reads.1
    c.in_ok-labels.ensures.reads.3 (subst P c.deref-2.ensures.value c.greatest_of-greatest.ensures) (omega (arith, c.if-greatest-ge-LAST_COUNT.true))

pub returns-in_err-areas-clause-only : goal.returns-in_err-areas-clause-only
returns-in_err-areas-clause-only g c =
    let faulty : ℕ → Type 0 = is_fault c.in_err-areas.field-0.0 in
    reads_err c.from_residual-in_err-areas.result c.in_err-areas.field-0.0 c.from_residual-in_err-areas.ensures.1
    (reads_then c.in_ok-labels.ensures.only (reads_wider (HasLabeled c.deref-3.result.now) (InUse c.args.out.now) faulty faulty c.read_labels.new.disks c.areas_of.new.disks
    (labeled_used c.args.out.now c.deref-3.result.now c.in_ok-labels.labels.items c.deref-3.ensures.value c.in_ok-labels.ensures.reads.1) (λ which it. it) c.in_err-areas.ensures.only))

pub returns-in_err-areas-clause-plans : goal.returns-in_err-areas-clause-plans
returns-in_err-areas-clause-plans g c =
    let out = c.args.out.now in
    let mid = c.read_labels.new.disks in
    let new = c.areas_of.new.disks in
    let cause = c.in_err-areas.field-0.0 in
    let u : Uberblock = record c.args.taken.now { claim = c.greatest_of-greatest.result + 1 } in
    let P : Result Plan Refusal → Type 0 = PlansClaim out c.args.taken.now c.args.highest.now c.args.disks.now new in
    let Q : List (Option Labeled) → Type 0 = λ xs. MakesAreas xs c.in-Some.donor u mid new (Err cause) in
    let G : List (Option Labeled) → Type 0 = λ xs. IsDonor xs c.args.taken.now.config_digest c.in-Some.donor in
    err_use c.from_residual-in_err-areas.result cause P c.from_residual-in_err-areas.ensures.1
    (areas_refused out c.args.taken.now c.args.highest.now u c.in-Some.donor c.args.disks.now mid new c.in_ok-labels.labels.items cause (reads_made c.read_labels.ensures.only) (reads_made c.areas_of.ensures.only)
    c.in_ok-labels.ensures.reads.1 c.in_ok-labels.ensures.reads.3 (subst G c.deref.ensures.value c.in-Some.ensures.some) (subst Q c.deref-3.ensures.value c.in_err-areas.ensures.areas))

pub returns-clause-only : goal.returns-clause-only
returns-clause-only g c =
    reads_then c.in_ok-labels.ensures.only
    (reads_wider (HasLabeled c.deref-3.result.now) (InUse c.args.out.now) nowhere nowhere c.read_labels.new.disks c.areas_of.new.disks
    (labeled_used c.args.out.now c.deref-3.result.now c.in_ok-labels.labels.items c.deref-3.ensures.value c.in_ok-labels.ensures.reads.1) (λ which it. it) c.in_ok-areas.ensures.only)

pub returns-clause-plans : goal.returns-clause-plans
returns-clause-plans g c =
    let out = c.args.out.now in
    let mid = c.read_labels.new.disks in
    let new = c.areas_of.new.disks in
    let u : Uberblock = record c.args.taken.now { claim = c.greatest_of-greatest.result + 1 } in
    let least = c.args.highest.now.claim in
    let P : List (Option Labeled) → Type 0 = λ xs. IsGreatestIn xs least (length xs) c.greatest_of-greatest.result in
    let Q : List (Option Labeled) → Type 0 = λ xs. MakesAreas xs c.in-Some.donor u mid new (Ok c.in_ok-areas.areas) in
    let G : List (Option Labeled) → Type 0 = λ xs. IsDonor xs c.args.taken.now.config_digest c.in-Some.donor in
    plan_made out c.args.taken.now c.args.highest.now c.in-Some.donor c.args.disks.now mid new c.in_ok-labels.labels.items c.greatest_of-greatest.result (record { claimed = u; areas = c.in_ok-areas.areas }) refl
    c.requires.fits (omega (arith, c.if-greatest-ge-LAST_COUNT.false)) (reads_made c.read_labels.ensures.only) (reads_made c.areas_of.ensures.only) c.in_ok-labels.ensures.reads.0 c.in_ok-labels.ensures.reads.1 c.in_ok-labels.ensures.reads.3
    (subst P c.deref-2.ensures.value c.greatest_of-greatest.ensures) (subst G c.deref.ensures.value c.in-Some.ensures.some) (subst Q c.deref-3.ensures.value c.in_ok-areas.ensures.areas)

pub returns-then-greatest-ge-LAST_COUNT-clause-only : goal.returns-then-greatest-ge-LAST_COUNT-clause-only
returns-then-greatest-ge-LAST_COUNT-clause-only g c = reads_any c.in_ok-labels.ensures.only

pub returns-in_err-labels-clause-only : goal.returns-in_err-labels-clause-only
returns-in_err-labels-clause-only g c = reads_err c.from_residual.result c.in_err-labels.field-0.0 c.from_residual.ensures.1 c.in_err-labels.ensures.only

pub returns-in_err-labels-clause-plans : goal.returns-in_err-labels-clause-plans
returns-in_err-labels-clause-plans g c =
    let P : Result Plan Refusal → Type 0 = PlansClaim c.args.out.now c.args.taken.now c.args.highest.now c.args.disks.now c.read_labels.new.disks in
    let cause = c.in_err-labels.field-0.0 in
    err_use c.from_residual.result cause P c.from_residual.ensures.1
    (labels_unread c.args.out.now c.args.taken.now c.args.highest.now c.args.disks.now c.read_labels.new.disks cause c.in_err-labels.ensures.reads)

pub returns-in_default-clause-plans : goal.returns-in_default-clause-plans
returns-in_default-clause-plans g c =
    let P : List (Option Labeled) → Type 0 = λ xs. NoDonor xs c.args.taken.now.config_digest in
    none_gives c.args.out.now c.args.taken.now c.args.highest.now c.args.disks.now c.read_labels.new.disks c.in_ok-labels.labels.items c.in_ok-labels.ensures.reads.1 c.in_ok-labels.ensures.reads.3
    (subst P c.deref.ensures.value c.in_default.ensures.none)

pub returns-in_default-clause-only : goal.returns-in_default-clause-only
returns-in_default-clause-only g c = reads_any c.in_ok-labels.ensures.only

pub areas_of-requires-clause-given : goal.areas_of-requires-clause-given
areas_of-requires-clause-given g c =
    let P : List (Option Labeled) → Type 0 = λ xs. IsGiven xs c.in-Some.donor in
    let G : List (Option Labeled) → Type 0 = λ xs. IsDonor xs c.args.taken.now.config_digest c.in-Some.donor in
    subst P (sym c.deref-3.ensures.value)
    (given_by c.in_ok-labels.labels.items c.args.taken.now.config_digest c.in-Some.donor c.in_ok-labels.ensures.reads.2 (subst G c.deref.ensures.value c.in-Some.ensures.some))
