-- Bytes of disks that are known stay so where no write fails.
use Rattle.std.proofs.Common.{◌≡◌, ◌⊎◌, inl, inr, ℕ, zero, suc, ◌-◌, ◌≤◌, ◌<◌, ◌++◌, ◌||◌, ◌==◌, ◌&&◌, nat_le, Bool, true, false, List, [], ◌∷◌, length, map, Option, Some, None, Contains, refl, sym, ap, ◌∙◌, subst, arith, if◌then◌else◌}
use Rattle.std.specs.Prelude.{slice_get}
use Rattle.std.proofs.lemmas.Bool.Decides.{nat_tests}
use Rattle.std.proofs.lemmas.List.{length-append}
use Rattle.model_disk.specs.Call.{Call, Read, FailedRead, Wrote, FailedWrite, Flushed, FailedFlush, is_failed}
use Rattle.model_disk.specs.Contents.{byte_at, covers}
use Rattle.model_disk.specs.Joint.{Disks, JointCall, bytes_of, calls_on, failed_since}
use Rattle.pool_open.specs.Calls.{GrewTo, disk_call, DiskCall, fault_call, faults_between, told_since}
use Rattle.pool_open.specs.Progress.{fault_list}
use Rattle.pool_open.specs.CoreRuns.{Chain}
use Rattle.pool_open.specs.CoreState.{CoreState, disks_of}
use Rattle.pool_model.specs.Headline.{OutsBy, OutsMove}
use Rattle.pool_model.specs.Machine.{IsQuiet, MayCall, StepOf}
use Rattle.pool_model.specs.View.{DueCall, Given, View, is_fault_on}
use Rattle.pool_model.specs.declared.step.Reply.{Reply}
use Rattle.pool_model.specs.declared.step.Reply.TheVariants.{Out}
use Rattle.std.specs.List.{AllByRecursion}
use Rattle.pool_model.specs.declared.step.Step.{Step}
use Rattle.pool_model.specs.declared.step.Step.TheVariants.{Hold, Write, Act, Release, Close, Quiesce, Plan, Device, DiskOut, Read as ReadStep, ReadUnder}
use Rattle.pool_slots.specs.Failures.{HasFailedOn}
use Rattle.pool_slots.specs.Opens.{AreKnown}
use Rattle.pool_slots.proofs.Among.{first_in}
use Rattle.pool_open.proofs.CommitGrowing.{GrewTo-on}
use Rattle.pool_open.proofs.CommitMade.{GrewTo-none}
use Rattle.pool_create.proofs.Grown.{fails_in}

-- ---- one call

abbrev IsSome : Option ℕ → Type 0
IsSome held = (value : ℕ) × (held ≡ Some value)

some_at : (xs : List ℕ) (i : ℕ) → i < length xs → IsSome (slice_get xs i)
some_at [] i below = absurd (omega (arith, below))
some_at (x ∷ xs) zero below = (x, refl)
some_at (x ∷ xs) (suc i) below = some_at xs i (omega (arith, below))

if_some : (test : Bool) (x y : Option ℕ) → (test ≡ true → IsSome x) → IsSome y → IsSome (if test then x else y)
if_some true x y first second = first refl
if_some false x y first second = second

inside : (at n i : ℕ) → covers at n i ≡ true → i - at < n
inside at n i test = grind (arith, nat_tests)

not_nil : {X : Type 0} (x : X) → x ∷ [] ≡ [] → ⊥
not_nil x is = cc

call_known : (start : List ℕ) (which : ℕ) (call : Call) (earlier : List Call) (i : ℕ) → fault_call which call ≡ [] → IsSome (byte_at start earlier i) → IsSome (byte_at start (call ∷ earlier) i)
call_known start which (Read at bytes) earlier i well known = known
call_known start which (FailedRead at n) earlier i well known = known
call_known start which (Wrote at bytes) earlier i well known =
    if_some (covers at (length bytes) i) (slice_get bytes (i - at)) (byte_at start earlier i) (λ test. some_at bytes (i - at) (inside at (length bytes) i test)) known
call_known start which (FailedWrite at bytes) earlier i well known = absurd (not_nil (record { disk = which; flushes = false }) well)
call_known start which Flushed earlier i well known = known
call_known start which FailedFlush earlier i well known = known

on_if : (start : List ℕ) (which : ℕ) (test : Bool) (call : Call) (earlier : List Call) (i : ℕ) → fault_call which call ≡ [] → IsSome (byte_at start earlier i)
    → IsSome (byte_at start (if test then call ∷ earlier else earlier) i)
on_if start which true call earlier i well known = call_known start which call earlier i well known
on_if start which false call earlier i well known = known

-- ---- many calls

abbrev IsKnownBy : List (List ℕ) → List JointCall → ℕ → Type 0
IsKnownBy starts calls which = (i : ℕ) → i < length (bytes_of starts which) → IsSome (byte_at (bytes_of starts which) (calls_on which calls) i)

joint_known : (starts : List (List ℕ)) (which : ℕ) (made : JointCall) (earlier : List JointCall) → fault_call made.which made.call ≡ [] → IsKnownBy starts earlier which → IsKnownBy starts (made ∷ earlier) which
joint_known starts which made earlier well known i within =
    on_if (bytes_of starts which) made.which (made.which == which) made.call (calls_on which earlier) i well (known i within)

late : (m n : ℕ) → m ≤ n → nat_le m n ≡ true
late m n le = grind (arith, nat_tests)

front_nil : {X : Type 0} (xs ys : List X) → xs ++ ys ≡ [] → xs ≡ []
front_nil [] ys is = refl
front_nil (x ∷ xs) ys is = absurd cc

back_nil : {X : Type 0} (xs ys : List X) → xs ++ ys ≡ [] → ys ≡ []
back_nil [] ys is = is
back_nil (x ∷ xs) ys is = absurd cc

-- each of the newer calls has no fault
calls_known : (starts : List (List ℕ)) (which : ℕ) (newer old : List JointCall) → told_since fault_call (length old) (newer ++ old) ≡ [] → IsKnownBy starts old which → IsKnownBy starts (newer ++ old) which
calls_known starts which [] old well known = known
calls_known starts which (made ∷ newer) old well known =
    let rest = newer ++ old in
    let front = front_nil (told_since fault_call (length old) rest) (if nat_le (length old) (length rest) then fault_call made.which made.call else []) well in
    let back = back_nil (told_since fault_call (length old) rest) (if nat_le (length old) (length rest) then fault_call made.which made.call else []) well in
    let long = late (length old) (length rest) (omega (arith, length-append newer old)) in
    let here : fault_call made.which made.call ≡ [] = subst (λ (b : Bool). (if b then fault_call made.which made.call else []) ≡ []) long back in
    joint_known starts which made rest here (calls_known starts which newer old front known)

pub known_by : (out : List Bool) (old new : Disks) → GrewTo old new → faults_between old new ≡ [] → AreKnown out old → AreKnown out new
known_by out old new grew none known which used =
    let well = subst (λ (calls : List JointCall). told_since fault_call (length old.calls) calls ≡ []) grew.calls none in
    let here = calls_known old.starts which grew.newer old.calls well (known which used) in
    let here' : IsKnownBy old.starts new.calls which = subst (λ (calls : List JointCall). IsKnownBy old.starts calls which) (sym grew.calls) here in
    subst (λ (starts : List (List ℕ)). IsKnownBy starts new.calls which) (sym grew.starts) here'

-- ---- runs in which no call fails

well_call : (which : ℕ) (call : Call) → is_failed call ≡ false → fault_call which call ≡ []
well_call which (Read at bytes) is = refl
well_call which (FailedRead at n) is = refl
well_call which (Wrote at bytes) is = refl
well_call which (FailedWrite at bytes) is = absurd cc
well_call which Flushed is = refl
well_call which FailedFlush is = absurd cc

true_or_false : (b : Bool) → (b ≡ true) ⊎ (b ≡ false)
true_or_false true = inl refl
true_or_false false = inr refl

told_nil : (xs : List DiskCall) (b : Bool) (call : List DiskCall) → xs ≡ [] → call ≡ [] → xs ++ (if b then call else []) ≡ []
told_nil xs true call front here = ap (λ them. them ++ call) front ∙ here
told_nil xs false call front here = ap (λ them. them ++ []) front

early : (m n : ℕ) → n < m → nat_le m n ≡ false
early m n less = grind (arith, nat_tests)

told_same : (calls old : List JointCall) → length calls ≤ length old → told_since fault_call (length old) calls ≡ []
told_same [] old le = refl
told_same (made ∷ calls) old le =
    ap (λ (b : Bool). told_since fault_call (length old) calls ++ (if b then fault_call made.which made.call else [])) (early (length old) (length calls) (omega (arith, le)))
    ∙ ap (λ (them : List DiskCall). them ++ []) (told_same calls old (omega (arith, le)))

none_told : (newer old : List JointCall) → ((disk : ℕ) → ¬ Contains (failed_since (length old) (newer ++ old)) disk) → told_since fault_call (length old) (newer ++ old) ≡ []
none_told [] old none = told_same old old (omega arith)
none_told (made ∷ newer) old none =
    let rest = newer ++ old in
    let long = late (length old) (length rest) (omega (arith, length-append newer old)) in
    let F : Bool → Bool → List ℕ = λ a b. if a && b then made.which ∷ failed_since (length old) rest else failed_since (length old) rest in
    let here : (disk : ℕ) → ¬ Contains (F true (is_failed made.call)) disk = subst (λ (a : Bool). (disk : ℕ) → ¬ Contains (F a (is_failed made.call)) disk) long none in
    elim (true_or_false (is_failed made.call)) [
      | inl fails ↦ absurd (subst (λ (b : Bool). (disk : ℕ) → ¬ Contains (F true b) disk) fails here made.which (first_in made.which (failed_since (length old) rest)))
      | inr well ↦ told_nil (told_since fault_call (length old) rest) (nat_le (length old) (length rest)) (fault_call made.which made.call)
          (none_told newer old (subst (λ (b : Bool). (disk : ℕ) → ¬ Contains (F true b) disk) well here)) (well_call made.which made.call well)
    ]

pub known_unfailed : (out : List Bool) (old new : Disks) → GrewTo old new → ((disk : ℕ) → ¬ HasFailedOn old new disk) → AreKnown out old → AreKnown out new
known_unfailed out old new grew none known =
    let here = subst (λ (calls : List JointCall). (disk : ℕ) → ¬ Contains (failed_since (length old.calls) calls) disk) grew.calls none in
    known_by out old new grew (ap (told_since fault_call (length old.calls)) grew.calls ∙ none_told grew.newer old.calls here) known

-- ---- runs of the machine in which no disk goes out

test_same : (n : ℕ) → (n == n) ≡ true
test_same n = grind (arith, nat_tests)

no_fault_on : (fault : Option DueCall) (out : ℕ → Bool) → ((disk : ℕ) → (is_fault_on fault disk || out disk) ≡ false) → fault ≡ None
no_fault_on None out none = refl
no_fault_on (Some call) out none = absurd (let clash : (true || out call.disk) ≡ false = subst (λ (b : Bool). (b || out call.disk) ≡ false) (test_same call.disk) (none call.disk) in cc)

or_false : (a b : Bool) → (a || b) ≡ false → b ≡ false
or_false true b is = absurd cc
or_false false b is = is

quiet_by : (v : View) (given : Given) (step : Step) (reply : Reply) (w : View) → StepOf v given step reply w → (MayCall step given → IsQuiet given) → given.fault ≡ None
quiet_by v given step reply w (inl refused) quiet = refused.quiet.fault
quiet_by v given step reply w (inr (inl lacks)) quiet = (quiet lacks.calls).fault
quiet_by v given step reply w (inr (inr answered)) quiet = (quiet answered.calls).fault

-- what a step leaves in use was in use before, and its calls went well
step_well : (v : View) (given : Given) (step : Step) (reply : Reply) (w : View) (out mid : ℕ → Bool) → StepOf v given step reply w → OutsBy out step given reply mid → ((disk : ℕ) → mid disk ≡ false)
    → ((disk : ℕ) → out disk ≡ false) × (given.fault ≡ None)
step_well v given (Hold x) reply w out mid is outs none = (λ disk. sym (outs disk) ∙ none disk, quiet_by v given (Hold x) reply w is (λ calls. calls.0))
step_well v given (Write x) reply w out mid is outs none = (λ disk. sym (outs disk) ∙ none disk, quiet_by v given (Write x) reply w is (λ calls. calls.0))
step_well v given (Act x) reply w out mid is outs none = (λ disk. sym (outs disk) ∙ none disk, quiet_by v given (Act x) reply w is (λ calls. calls.0))
step_well v given (Release x) reply w out mid is outs none = (λ disk. sym (outs disk) ∙ none disk, quiet_by v given (Release x) reply w is (λ calls. calls.0))
step_well v given Close reply w out mid is outs none = (λ disk. sym (outs disk) ∙ none disk, quiet_by v given Close reply w is (λ calls. calls.0))
step_well v given Quiesce reply w out mid is outs none = (λ disk. sym (outs disk) ∙ none disk, quiet_by v given Quiesce reply w is (λ calls. calls.0))
step_well v given (Plan x) reply w out mid is outs none = (λ disk. sym (outs disk) ∙ none disk, quiet_by v given (Plan x) reply w is (λ calls. calls))
step_well v given Device reply w out mid is outs none = (
  λ disk. or_false (is_fault_on given.fault disk) (out disk) (sym (outs disk) ∙ none disk),
  no_fault_on given.fault out (λ disk. sym (outs disk) ∙ none disk),
)
step_well v given (DiskOut x) Out w out mid is outs none = (λ disk. or_false (disk == x) (out disk) (sym (outs disk) ∙ none disk), quiet_by v given (DiskOut x) Out w is (λ calls. calls.0))
step_well v given (DiskOut x) reply w out mid is outs none = (λ disk. sym (outs disk) ∙ none disk, quiet_by v given (DiskOut x) reply w is (λ calls. calls.0))
step_well v given (ReadStep x y z) reply w out mid is outs none = (λ disk. sym (outs disk) ∙ none disk, quiet_by v given (ReadStep x y z) reply w is (λ calls. calls))
step_well v given (ReadUnder n x y z) reply w out mid is outs none = (λ disk. sym (outs disk) ∙ none disk, quiet_by v given (ReadUnder n x y z) reply w is (λ calls. calls))

-- so no byte is lost, and the disks were in use all along
pub chain_known : (marked : List Bool) (old : CoreState) (v : View) (steps : List Step) (givens : List Given) (replies : List Reply) (new : CoreState) (w : View) (out after : ℕ → Bool)
    → Chain old v steps givens replies new w → OutsMove out steps givens replies after → ((disk : ℕ) → after disk ≡ false)
    → ((disk : ℕ) → out disk ≡ false) × (AreKnown marked (disks_of old) → AreKnown marked (disks_of new))
chain_known marked old v [] [] [] new w out after chain outs none = (
  λ disk. sym (outs disk) ∙ none disk,
  λ known. subst (λ (s : CoreState). AreKnown marked (disks_of s)) chain.0 known,
)
chain_known marked old v (step ∷ steps) (given ∷ givens) (reply ∷ replies) new w out after chain outs none =
    let rest = chain_known marked chain.0 chain.1 steps givens replies new w outs.0 after chain.5 outs.2 none in
    let here = step_well v given step reply chain.1 out outs.0 chain.3.is_step outs.1 rest.0 in
    let well : faults_between (disks_of old) (disks_of chain.0) ≡ [] =
    sym chain.3.is_given.fault ∙ ap (λ (fault : Option DueCall). map disk_call (fault_list fault)) here.1 in
    (here.0, λ known. rest.1 (known_by marked (disks_of old) (disks_of chain.0) chain.2 well known))
chain_known marked old v steps givens replies new w out after chain outs none = absurd chain

-- ---- runs of the machine in which a disk goes out

some_failed : (newer old : List JointCall) (failed : List ℕ) → failed_since (length old) (newer ++ old) ≡ failed → ¬ (told_since fault_call (length old) (newer ++ old) ≡ [])
    → (disk : ℕ) × Contains (failed_since (length old) (newer ++ old)) disk
some_failed newer old [] is not =
    absurd (not (none_told newer old (λ disk it. let none : Contains [] disk = subst (λ (them : List ℕ). Contains them disk) is it in absurd (omega (arith, none.1)))))
some_failed newer old (disk ∷ failed) is not = (disk, subst (λ (them : List ℕ). Contains them disk) (sym is) (first_in disk failed))

faults_fail : (old new : Disks) → GrewTo old new → ¬ (faults_between old new ≡ []) → (disk : ℕ) × HasFailedOn old new disk
faults_fail old new grew not =
    let F : List JointCall → Type 0 = λ calls. (disk : ℕ) × Contains (failed_since (length old.calls) calls) disk in
    subst F (sym grew.calls) (some_failed grew.newer old.calls (failed_since (length old.calls) (grew.newer ++ old.calls)) refl
    (λ none. not (ap (told_since fault_call (length old.calls)) grew.calls ∙ none)))

-- it takes no disk out
abbrev pub TakesNoneOut : Step → Type 0
TakesNoneOut (DiskOut x) = ⊥
TakesNoneOut step = Unit {0}

-- where no call fails no disk goes out
out_still : (given : Given) (step : Step) (reply : Reply) (out mid : ℕ → Bool) → TakesNoneOut step → given.fault ≡ None → OutsBy out step given reply mid → ((disk : ℕ) → out disk ≡ false) → (disk : ℕ) → mid disk ≡ false
out_still given (Hold x) reply out mid takes well outs none disk = outs disk ∙ none disk
out_still given (Write x) reply out mid takes well outs none disk = outs disk ∙ none disk
out_still given (Act x) reply out mid takes well outs none disk = outs disk ∙ none disk
out_still given (Release x) reply out mid takes well outs none disk = outs disk ∙ none disk
out_still given Close reply out mid takes well outs none disk = outs disk ∙ none disk
out_still given Quiesce reply out mid takes well outs none disk = outs disk ∙ none disk
out_still given (Plan x) reply out mid takes well outs none disk = outs disk ∙ none disk
out_still given Device reply out mid takes well outs none disk = outs disk ∙ ap (λ (fault : Option DueCall). is_fault_on fault disk || out disk) well ∙ none disk
out_still given (DiskOut x) reply out mid takes well outs none disk = absurd takes
out_still given (ReadStep x y z) reply out mid takes well outs none disk = outs disk ∙ none disk
out_still given (ReadUnder n x y z) reply out mid takes well outs none disk = outs disk ∙ none disk

cons_not_nil : {X : Type 0} (x : X) (xs : List X) → x ∷ xs ≡ [] → ⊥
cons_not_nil x xs is = cc

fault_or_none : (fault : Option DueCall) → (fault ≡ None) ⊎ ((call : DueCall) × (fault ≡ Some call))
fault_or_none None = inl refl
fault_or_none (Some call) = inr (call, refl)

chain_grew : (old : CoreState) (v : View) (steps : List Step) (givens : List Given) (replies : List Reply) (new : CoreState) (w : View) → Chain old v steps givens replies new w
    → GrewTo (disks_of old) (disks_of new)
chain_grew old v [] [] [] new w chain = subst (λ (s : CoreState). GrewTo (disks_of old) (disks_of s)) chain.0 (GrewTo-none (disks_of old))
chain_grew old v (step ∷ steps) (given ∷ givens) (reply ∷ replies) new w chain =
    GrewTo-on (disks_of old) (disks_of chain.0) (disks_of new) chain.2 (chain_grew chain.0 chain.1 steps givens replies new w chain.5)
chain_grew old v steps givens replies new w chain = absurd chain

-- so a call failed where one goes out
pub chain_fails : (old : CoreState) (v : View) (steps : List Step) (givens : List Given) (replies : List Reply) (new : CoreState) (w : View) (out after : ℕ → Bool)
    → AllByRecursion TakesNoneOut steps → Chain old v steps givens replies new w → OutsMove out steps givens replies after → ((disk : ℕ) → out disk ≡ false) → (which : ℕ) → after which ≡ true
    → (disk : ℕ) × HasFailedOn (disks_of old) (disks_of new) disk
chain_fails old v [] [] [] new w out after takes chain outs none which is = absurd (let clash : true ≡ false = sym is ∙ outs which ∙ none which in cc)
chain_fails old v (step ∷ steps) (given ∷ givens) (reply ∷ replies) new w out after takes chain outs none which is =
    elim (fault_or_none given.fault) [
      | inl well ↦
          let rest = chain_fails chain.0 chain.1 steps givens replies new w outs.0 after takes.1 chain.5 outs.2 (out_still given step reply out outs.0 takes.0 well outs.1 none) which is in
          (rest.0, fails_in (disks_of old) (disks_of chain.0) (disks_of new) (disks_of new) rest.0 chain.2 (GrewTo-none (disks_of new)) rest.1)
      | inr fails ↦
          let told : disk_call fails.0 ∷ [] ≡ faults_between (disks_of old) (disks_of chain.0) =
          ap (λ (fault : Option DueCall). map disk_call (fault_list fault)) (sym fails.1) ∙ chain.3.is_given.fault in
          let here = faults_fail (disks_of old) (disks_of chain.0) chain.2 (λ none. cons_not_nil (disk_call fails.0) [] (told ∙ none)) in
          (here.0, fails_in (disks_of old) (disks_of old) (disks_of chain.0) (disks_of new) here.0 (GrewTo-none (disks_of old)) (chain_grew chain.0 chain.1 steps givens replies new w chain.5) here.1)
    ]
chain_fails old v steps givens replies new w out after takes chain outs none which is = absurd chain
