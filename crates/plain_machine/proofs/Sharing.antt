-- A step, as those see it who run the machine.
use Rattle.std.proofs.Common.{◌≡◌, ⊎_elim, refl, sym, subst}
use Rattle.pool_model.specs.declared.step.Step.{Step}
use Rattle.pool_model.specs.declared.step.Reply.{Reply}
use Rattle.pool_model.specs.View.{nothing_given}
use Rattle.pool_model.specs.Machine.{StepOf}
use Rattle.pool_steps.specs.Goes.{Goes}
use Rattle.pool_steps.specs.Room.{IsWithin}
use Rattle.pool_steps.proofs.Lacking.{lacking}
use Rattle.plain_machine.specs.declared.machine.Machine.{Machine}
use Rattle.plain_machine.specs.Represents.{Represents, TakesStep}

abbrev pub GoesPlainly : Machine → Step → Reply → Machine → Type 0
GoesPlainly = Goes Represents (λ first last. Unit {0}) (λ old v step given reply new w. given ≡ nothing_given)

pub goes_within : (old new : Machine) (step : Step) (reply answer : Reply) → TakesStep old step reply new → IsWithin reply answer → GoesPlainly old step answer new
goes_within old new step reply answer takes within = λ v r truly.
    let one = takes v r in
    ⊎_elim
    (λ same. record { given = nothing_given; trusted = refl; after = one.0; is_step = subst (λ (a : Reply). StepOf v nothing_given step a one.0) (sym same) one.1; represents_after = one.2; link = refl })
    (λ lacks.
    let l = lacking v nothing_given step reply one.0 lacks.0 one.1 in
    record { given = nothing_given; trusted = refl; after = v; is_step = subst (λ (a : Reply). StepOf v nothing_given step a v) (sym lacks.1) l.1; represents_after = subst (Represents new) l.0 one.2; link = refl })
    within
