-- In a step behind which no disk is out no call of its plan failed.
use Rattle.std.proofs.Common.{◌≡◌, ⊎_elim, ℕ, ◌||◌, Bool, true, false, List, [], None, sym, ap, ◌∙◌, true≢false}
use Rattle.std.specs.Prelude.{◌==◌}
use Rattle.std.proofs.lemmas.Bool.Decides.{nat_tests}
use Rattle.std.proofs.Common.{arith}
use Rattle.pool_model.specs.Machine.{GoesWithout, MayAnswer, StepOf, dropped, without_disk}
use Rattle.pool_model.specs.View.{DueCall, Given, View}
use Rattle.pool_model.specs.declared.step.Phase.{Phase}
use Rattle.pool_model.specs.declared.step.Reply.{Reply}
use Rattle.pool_model.specs.declared.step.Reply.TheVariants.{Held, Receipt, Released, Closed, Quiesced, Planned, Moved, Replan, Committed, Out, Bytes, Refused}
use Rattle.pool_model.specs.declared.step.Step.{Step}
use Rattle.pool_model.specs.declared.step.Step.TheVariants.{Hold, Write, Act, Release, Close, Quiesce, Plan, Device, DiskOut, Read, ReadUnder}

abbrev NoneOut : View → Type 0
NoneOut w = (disk : ℕ) → w.out disk ≡ false

same_number : (n : ℕ) → (n == n) ≡ true
same_number n = grind (arith, nat_tests)

-- a disk that was put out is out
is_out_now : (v : View) (disk : ℕ) → (without_disk v disk).out disk ≡ true
is_out_now v disk = ap (λ (test : Bool). test || v.out disk) (same_number disk)

not_without : (v : View) (given : Given) (phase : Phase) (rest : List DueCall) (w : View) → GoesWithout v given phase rest w → NoneOut w → ⊥
not_without v given phase rest w without none =
    true≢false (sym (ap (λ (x : View). x.out without.disk) without.after ∙ is_out_now v without.disk) ∙ none without.disk)

not_dropped : (v w : View) (disk : ℕ) → w ≡ dropped v disk → NoneOut w → ⊥
not_dropped v w disk same none = true≢false (sym (ap (λ (x : View). x.out disk) same ∙ is_out_now v disk) ∙ none disk)

answered : (v : View) (given : Given) (reply : Reply) (w : View) → MayAnswer v given Device reply w → NoneOut w → given.fault ≡ None
answered v given (Held n) w a none = absurd a
answered v given (Receipt n) w a none = absurd a
answered v given Released w a none = absurd a
answered v given (Closed n) w a none = absurd a
answered v given (Quiesced n) w a none = absurd a
answered v given (Planned n) w a none = absurd a
answered v given (Moved phase) w a none = ⊎_elim (λ well. well.fault) (λ without. absurd (not_without v given phase a.0 w without none)) a.2
answered v given (Replan disk) w a none = absurd (not_dropped v w disk a.3 none)
answered v given (Committed group) w a none = ⊎_elim
    (λ done. done.0.fault)
    (λ (phase, without). absurd (not_without v given phase [] a.1 without (λ disk. ap (λ (x : View). x.out disk) (sym a.3) ∙ none disk)))
    a.2
answered v given Out w a none = absurd a
answered v given (Bytes bytes) w a none = absurd a
answered v given (Refused cause) w a none = absurd (not_dropped v w a.1 a.4 none)

pub no_fault : (v : View) (given : Given) (step : Step) (reply : Reply) (w : View) → StepOf v given step reply w → NoneOut w → given.fault ≡ None
no_fault v given Device reply w is none = ⊎_elim
    (λ refused. refused.quiet.fault)
    (λ rest. ⊎_elim (λ lacks. absurd (true≢false (sym lacks.may))) (λ it. answered v given reply w it.answered none) rest)
    is
no_fault v given (Hold x) reply w is none = ⊎_elim (λ refused. refused.quiet.fault) (λ rest. ⊎_elim (λ lacks. lacks.calls.0.fault) (λ it. it.calls.0.fault) rest) is
no_fault v given (Write x) reply w is none = ⊎_elim (λ refused. refused.quiet.fault) (λ rest. ⊎_elim (λ lacks. lacks.calls.0.fault) (λ it. it.calls.0.fault) rest) is
no_fault v given (Act x) reply w is none = ⊎_elim (λ refused. refused.quiet.fault) (λ rest. ⊎_elim (λ lacks. lacks.calls.0.fault) (λ it. it.calls.0.fault) rest) is
no_fault v given (Release x) reply w is none = ⊎_elim (λ refused. refused.quiet.fault) (λ rest. ⊎_elim (λ lacks. lacks.calls.0.fault) (λ it. it.calls.0.fault) rest) is
no_fault v given Close reply w is none = ⊎_elim (λ refused. refused.quiet.fault) (λ rest. ⊎_elim (λ lacks. lacks.calls.0.fault) (λ it. it.calls.0.fault) rest) is
no_fault v given Quiesce reply w is none = ⊎_elim (λ refused. refused.quiet.fault) (λ rest. ⊎_elim (λ lacks. lacks.calls.0.fault) (λ it. it.calls.0.fault) rest) is
no_fault v given (DiskOut d) reply w is none = ⊎_elim (λ refused. refused.quiet.fault) (λ rest. ⊎_elim (λ lacks. lacks.calls.0.fault) (λ it. it.calls.0.fault) rest) is
no_fault v given (Plan t) reply w is none = ⊎_elim (λ refused. refused.quiet.fault) (λ rest. ⊎_elim (λ lacks. lacks.calls.fault) (λ it. it.calls.fault) rest) is
no_fault v given (Read a b c) reply w is none = ⊎_elim (λ refused. refused.quiet.fault) (λ rest. ⊎_elim (λ lacks. lacks.calls.fault) (λ it. it.calls.fault) rest) is
no_fault v given (ReadUnder n a b c) reply w is none = ⊎_elim (λ refused. refused.quiet.fault) (λ rest. ⊎_elim (λ lacks. lacks.calls.fault) (λ it. it.calls.fault) rest) is
