use Rattle.std.proofs.Common.{inl, inr, List, Bool, refl, sym, ◌∙◌, subst}
use Rattle.pool_slots.proofs.Results.{if_err_is}
use Rattle.pool_create.specs.ReadingBack.{IsCauseOfReading, IsTakenOf}
use Rattle.pool_create.proofs.Backs.{untaken}
use Rattle.pool_create.proofs.surveying.survey_first.Goals as goal

pub returns-in_err-taken-clause-refused : goal.returns-in_err-taken-clause-refused
returns-in_err-taken-clause-refused g c =
    let cause = c.in_err-taken.field-0.0 in
    let old = c.args.disks.now in
    let new = c.taken_uberblock.new.disks in
    if_err_is c.from_residual.result cause (IsCauseOfReading old new c.args.pool.now c.args.root) c.from_residual.ensures.1
    (untaken old new c.args.pool.now c.args.root cause c.in_err-taken.ensures.refused)

pub returns-then-not-is_same-clause-refused : goal.returns-then-not-is_same-clause-refused
returns-then-not-is_same-clause-refused g c =
    let old = c.args.disks.now in
    let new = c.taken_uberblock.new.disks in
    let u = c.in_ok-taken.taken in
    inr (inr (inr (inl (
      refl,
      inl (
        u,
        subst (λ (flags : List Bool). IsTakenOf old new flags u) (sym c.requires.out) c.in_ok-taken.ensures.taken,
        λ same. let yes = c.is_same.ensures.1 (same ∙ sym c.first_uberblock.ensures) in let fails = c.if-not-is_same.true in cc,
      ),
    ))))

pub returns-clause-taken : goal.returns-clause-taken
returns-clause-taken g c =
    subst (λ (flags : List Bool). IsTakenOf c.args.disks.now c.taken_uberblock.new.disks flags c.in_ok-taken.taken) (sym c.requires.out) c.in_ok-taken.ensures.taken

pub returns-clause-is : goal.returns-clause-is
returns-clause-is g c = c.is_same.ensures.0 c.if-not-is_same.false ∙ c.first_uberblock.ensures
