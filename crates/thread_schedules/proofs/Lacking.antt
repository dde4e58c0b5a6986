-- A step that gives bytes may be answered that memory ran out: so each step of a core may be taken with as many bytes as were asked for.
use Rattle.std.proofs.Common.{◌≡◌, ⊎_elim, inl, inr, List, ℕ, true, refl, sym, subst}
use Rattle.pool_model.specs.declared.step.Step.{Step}
use Rattle.pool_model.specs.declared.step.Step.TheVariants.{Hold, Write, Act, Release, Close, Quiesce, Plan, Device, DiskOut, Read, ReadUnder}
use Rattle.pool_model.specs.declared.step.Reply.{Reply}
use Rattle.pool_model.specs.declared.step.Reply.TheVariants.{Bytes, Refused}
use Rattle.pool_model.specs.declared.refusal.Refusal.TheVariants.{NoMemory}
use Rattle.pool_model.specs.View.{View, Given}
use Rattle.pool_model.specs.Machine.{StepOf, IsAnswered, IsRefused, LacksMemory}
use Rattle.pool_steps.specs.Room.{HasBytes, IsWithin}
use Rattle.pool_create.specs.CoreState.{CoreState}
use Rattle.pool_create.specs.CoreSteps.{Goes, Link}
use Rattle.pool_create.specs.Represents.{Represents}

answered : (v : View) (given : Given) (step : Step) (bytes : List ℕ) (w : View) → IsAnswered v given step (Bytes bytes) w → (w ≡ v) × StepOf v given step (Refused NoMemory) v
answered v given (Read name offset len) bytes w a = (a.answered.1, inr (inl (record { may = refl; answer = refl; leaves = refl; calls = a.calls })))
answered v given (ReadUnder group name offset len) bytes w a = (a.answered.1, inr (inl (record { may = refl; answer = refl; leaves = refl; calls = a.calls })))
answered v given (Hold writer) bytes w a = absurd a.answered
answered v given (Write write) bytes w a = absurd a.answered
answered v given (Act action) bytes w a = absurd a.answered
answered v given (Release writer) bytes w a = absurd a.answered
answered v given Close bytes w a = absurd a.answered
answered v given Quiesce bytes w a = absurd a.answered
answered v given (Plan timestamp) bytes w a = absurd a.answered
answered v given Device bytes w a = absurd a.answered
answered v given (DiskOut disk) bytes w a = absurd a.answered

refused : (v : View) (given : Given) (step : Step) (bytes : List ℕ) (w : View) → IsRefused v given step (Bytes bytes) w → (w ≡ v) × StepOf v given step (Refused NoMemory) v
refused v given step bytes w r = let e = r.answer in absurd (cc)

lacked : (v : View) (given : Given) (step : Step) (bytes : List ℕ) (w : View) → LacksMemory v given step (Bytes bytes) w → (w ≡ v) × StepOf v given step (Refused NoMemory) v
lacked v given step bytes w r = let e = r.answer in absurd (cc)

lacking : (v : View) (given : Given) (step : Step) (reply : Reply) (w : View) → HasBytes reply → StepOf v given step reply w → (w ≡ v) × StepOf v given step (Refused NoMemory) v
lacking v given step (Bytes bytes) w has s =
    ⊎_elim (refused v given step bytes w) (λ r. ⊎_elim (lacked v given step bytes w) (answered v given step bytes w) r) s
lacking v given step reply w has s = absurd has

link_lacking : (old : CoreState) (v : View) (step : Step) (given : Given) (reply : Reply) (new : CoreState) (w : View) → HasBytes reply → Link old v step given reply new w → Link old v step given (Refused NoMemory) new v
link_lacking old v step given reply new w has l =
    let lacks = lacking v given step reply w has l.is_step in
    record { is_given = l.is_given; is_step = lacks.1; represents = subst (Represents new) lacks.0 l.represents; flushed = tt; shown = tt; untouched = l.untouched; only = l.only }

-- a step that is trusted, and the view behind it
pub record GoesWithin (old : CoreState) (v : View) (step : Step) (reply : Reply) (new : CoreState) : Type 0 where
  pub given : Given
  pub trusted : given.trusted ≡ true
  pub after : View
  pub link : Link old v step given reply new after

pub within : (old : CoreState) (v : View) (step : Step) (reply answer : Reply) (new : CoreState) → Goes old v true step reply new → IsWithin reply answer → GoesWithin old v step answer new
within old v step reply answer new one is = ⊎_elim
    (λ same. record { given = one.given; trusted = one.trust refl; after = one.after; link = subst (λ (a : Reply). Link old v step one.given a new one.after) (sym same) one.link })
    (λ lacks. record { given = one.given; trusted = one.trust refl; after = v; link = subst (λ (a : Reply). Link old v step one.given a new v) (sym lacks.1) (link_lacking old v step one.given reply new one.after lacks.0 one.link) })
    is
