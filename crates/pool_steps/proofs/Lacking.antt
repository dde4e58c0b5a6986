-- A step that gives bytes may be answered that memory ran out.
use Rattle.std.proofs.Common.{◌≡◌, ⊎_elim, inl, inr, List, ℕ, refl}
use Rattle.pool_model.specs.declared.step.Step.{Step}
use Rattle.pool_model.specs.declared.step.Step.TheVariants.{Hold, Write, Act, Release, Close, Quiesce, Plan, Device, DiskOut, Read, ReadUnder}
use Rattle.pool_model.specs.declared.step.Reply.{Reply}
use Rattle.pool_model.specs.declared.step.Reply.TheVariants.{Bytes, Refused}
use Rattle.pool_model.specs.declared.refusal.Refusal.TheVariants.{NoMemory}
use Rattle.pool_model.specs.View.{View, Given}
use Rattle.pool_model.specs.Machine.{StepOf, IsAnswered, IsRefused, LacksMemory}
use Rattle.pool_steps.specs.Room.{HasBytes}

answered : (v : View) (given : Given) (step : Step) (bytes : List ℕ) (w : View) → IsAnswered v given step (Bytes bytes) w → (w ≡ v) × StepOf v given step (Refused NoMemory) v
answered v given (Read name offset len) bytes w a = (a.answered.1, inr (inl (record { may = refl; answer = refl; leaves = refl; calls = a.calls })))
answered v given (ReadUnder group name offset len) bytes w a = (a.answered.1, inr (inl (record { may = refl; answer = refl; leaves = refl; calls = a.calls })))
answered v given (Hold writer) bytes w a = absurd a.answered
answered v given (Write write) bytes w a = absurd a.answered
answered v given (Act action) bytes w a = absurd a.answered
answered v given (Release writer) bytes w a = absurd a.answered
answered v given Close bytes w a = absurd a.answered
answered v given Quiesce bytes w a = absurd a.answered
answered v given (Plan timestamp) bytes w a = absurd a.answered
answered v given Device bytes w a = absurd a.answered
answered v given (DiskOut disk) bytes w a = absurd a.answered

refused : (v : View) (given : Given) (step : Step) (bytes : List ℕ) (w : View) → IsRefused v given step (Bytes bytes) w → (w ≡ v) × StepOf v given step (Refused NoMemory) v
refused v given step bytes w r = let e = r.answer in absurd (cc)

lacked : (v : View) (given : Given) (step : Step) (bytes : List ℕ) (w : View) → LacksMemory v given step (Bytes bytes) w → (w ≡ v) × StepOf v given step (Refused NoMemory) v
lacked v given step bytes w r = let e = r.answer in absurd (cc)

pub lacking : (v : View) (given : Given) (step : Step) (reply : Reply) (w : View) → HasBytes reply → StepOf v given step reply w → (w ≡ v) × StepOf v given step (Refused NoMemory) v
lacking v given step (Bytes bytes) w has s =
    ⊎_elim (refused v given step bytes w) (λ r. ⊎_elim (lacked v given step bytes w) (answered v given step bytes w) r) s
lacking v given step reply w has s = absurd has
