use Rattle.std.proofs.Common.{ℕ, List, Option, subst}
use Rattle.pool_slots.specs.Shown.{At, IsLabeledOf}
use Rattle.pool_slots.specs.declared.labeled.Shown.{Shown}
use Rattle.pool_slots.proofs.LabelScans.{four_labeled, four_without}
use Rattle.pool_slots.proofs.label_scan.read_labeled.Goals as goal

pub returns-in-Some-clause-reads : goal.returns-in-Some-clause-reads
returns-in-Some-clause-reads g c =
    let P : List (Option Shown) → Type 0 = λ xs. IsLabeledOf xs c.args.digest.now c.in-Some.labeled in
    four_labeled c.args.digest.now c.args.disks.now c.read_four.new.disks c.args.which c.in_ok-shown.shown c.in-Some.labeled c.in_ok-shown.ensures.reads (subst P c.deref.ensures.value c.in-Some.ensures.some)

pub returns-clause-reads : goal.returns-clause-reads
returns-clause-reads g c =
    let P : List (Option Shown) → Type 0 = λ xs. (k : ℕ) (s : Shown) → ¬ At xs k s in
    four_without c.args.digest.now c.args.disks.now c.read_four.new.disks c.args.which c.in_ok-shown.shown c.in_ok-shown.ensures.reads (subst P c.deref.ensures.value c.in-None.ensures.none)
