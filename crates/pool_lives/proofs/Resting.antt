-- A step that a core at rest may be said to take: one for which memory is short. It calls no disk.
use Rattle.std.proofs.Common.{◌≡◌, inl, inr, ◌<◌, ◌≤◌, ℕ, Bool, false, nat_le, List, [], ◌∷◌, ◌++◌, length, refl, sym, ap, ◌∙◌, arith, true≢false}
use Rattle.std.specs.Prelude.{if◌then◌else◌}
use Rattle.std.proofs.lemmas.Bool.Decides.{nat_tests}
use Rattle.model_disk.specs.Call.{Call}
use Rattle.model_disk.specs.Joint.{JointCall}
use Rattle.pool_create.specs.Calls.{fault_call, plan_call, told_since, unread_call}
use Rattle.pool_create.specs.CoreState.{CoreState, disks_of}
use Rattle.pool_create.specs.CoreSteps.{Link}
use Rattle.pool_create.specs.Represents.{Represents}
use Rattle.pool_model.specs.View.{View, nothing_given}
use Rattle.pool_model.specs.declared.refusal.Refusal.TheVariants.{NoMemory}
use Rattle.pool_model.specs.declared.step.Reply.TheVariants.{Refused}
use Rattle.pool_model.specs.declared.step.Step.TheVariants.{Hold}

not_le : (a b : ℕ) → b < a → nat_le a b ≡ false
not_le a b less = grind (arith, nat_tests)

-- no calls tell nothing
none_told : {A : Type 0} (tells : ℕ → Call → List A) (n : ℕ) (calls : List JointCall) → length calls ≤ n → told_since tells n calls ≡ []
none_told tells n [] few = refl
none_told tells n (made ∷ earlier) few =
    ap (λ (test : Bool). told_since tells n earlier ++ (if test then tells made.which made.call else [])) (not_le n (length earlier) (omega (arith, few)))
    ∙ ap (λ front. front ++ []) (none_told tells n earlier (omega (arith, few)))

pub rests : (core : CoreState) (v : View) → Represents core v → Link core v (Hold 0) nothing_given (Refused NoMemory) core v
rests core v represents =
    let calls : List JointCall = (disks_of core).calls in
    record {
      is_given = record {
        made = sym (none_told plan_call (length calls) calls (omega arith));
        fault = sym (none_told fault_call (length calls) calls (omega arith));
        unread = sym (none_told unread_call (length calls) calls (omega arith));
        lost = λ vdev some. absurd (cc some);
        full = λ some. absurd (true≢false (sym some));
      };
      is_step = inr (inl (record { may = refl; answer = refl; leaves = refl; calls = (record { made = refl; fault = refl }, refl) }));
      represents = represents;
      flushed = tt;
      shown = tt;
      untouched = λ disk away. refl;
      only = tt;
    }
