-- What a missing cause says.
use Rattle.std.proofs.Common.{◌≡◌, ◌≤◌, ◌<◌, ℕ, Bool, true, false, true≢false, Option, Some, None, refl, sym, subst, arith}
use Rattle.std.specs.Prelude.{cond, is_some, not, nat_le, ◌==◌}
use Rattle.std.proofs.lemmas.Bool.Decides.{nat_tests}
use Rattle.pool_model.specs.declared.group.Stage.{Stage}
use Rattle.pool_model.specs.declared.group.Stage.TheVariants.{Quiescing, Quiesced}
use Rattle.pool_model.specs.declared.item.Action.{Action}
use Rattle.pool_model.specs.declared.item.Write.{Write}
use Rattle.pool_model.specs.declared.refusal.Refusal.{Refusal}
use Rattle.pool_model.specs.declared.volume.PlainVolume.{PlainVolume}
use Rattle.pool_model.specs.Pools.{PlainPool}
use Rattle.pool_model.specs.View.{is_quiescing, is_quiesced}
use Rattle.pool_model.specs.Refusals.{greatest, or_else, number_refusal, write_refusal, act_refusal}

pub or_none : (a b : Option Refusal) → or_else a b ≡ None → (a ≡ None) × (b ≡ None)
or_none None b e = (refl, e)
or_none (Some c) b e = absurd (cc)

pub none_of : {A : Type 0} (o : Option A) → is_some o ≡ false → o ≡ None
none_of None e = refl
none_of (Some x) e = absurd (true≢false e)

pub first_none : (b : Bool) (c : Refusal) (rest : Option Refusal) → cond b (Some c) rest ≡ None → (b ≡ false) × (rest ≡ None)
first_none true c rest e = absurd (cc)
first_none false c rest e = (refl, e)

pub not_false : (b : Bool) → not b ≡ false → b ≡ true
not_false true e = refl
not_false false e = absurd (true≢false e)

-- the number is the next one, and not past the last
pub number_none : (expected number : ℕ) → number_refusal expected number ≡ None → (number ≡ expected) × (number ≤ greatest)
number_none expected number e = (grind (arith, nat_tests, e), grind (arith, nat_tests, e))

pub write_none : (w : Write) (expected : ℕ) (found : Option PlainVolume) (hold : Option ℕ) → write_refusal w expected found hold ≡ None → (w.number ≡ expected) × (w.number ≤ greatest)
write_none w expected found None e = absurd (cc)
write_none w expected found (Some group) e = number_none _ _ (or_none _ _ e).0

pub act_none : (a : Action) (expected opened : ℕ) (now : PlainPool) (hold : Option ℕ) → act_refusal a expected opened now hold ≡ None → (a.number ≡ expected) × (a.number ≤ greatest)
act_none a expected opened now None e = absurd (cc)
act_none a expected opened now (Some group) e = number_none _ _ (or_none _ _ e).0

pub quiescing : (waiting : Option Stage) → is_quiescing waiting ≡ true → waiting ≡ Some Quiescing
quiescing (Some Quiescing) e = refl
quiescing (Some Quiesced) e = absurd (true≢false (sym e))
quiescing None e = absurd (true≢false (sym e))

pub quiesced : (waiting : Option Stage) → is_quiesced waiting ≡ true → waiting ≡ Some Quiesced
quiesced (Some Quiesced) e = refl
quiesced (Some Quiescing) e = absurd (true≢false (sym e))
quiesced None e = absurd (true≢false (sym e))

act_open_some : (a : Action) (expected opened group : ℕ) (now : PlainPool) → act_refusal a expected opened now (Some group) ≡ None → group ≡ opened
act_open_some a expected opened group now f =
    let one = or_none _ _ f in
    let two = or_none _ _ one.1 in
    let three = first_none _ _ _ two.0 in
    same_of group opened (not_false _ three.0)
  where
    same_of : (m n : ℕ) → (m == n) ≡ true → m ≡ n
    same_of m n e = grind (arith, nat_tests, e)

-- an action is accepted while its group is open
pub act_open : (a : Action) (expected opened group : ℕ) (now : PlainPool) {hold : Option ℕ} → hold ≡ Some group → act_refusal a expected opened now hold ≡ None → group ≡ opened
act_open a expected opened group now h e = act_open_some a expected opened group now (subst (λ o. act_refusal a expected opened now o ≡ None) h e)

pub below_greatest : (opened : ℕ) → nat_le greatest opened ≡ false → opened < greatest
below_greatest opened h = grind (arith, nat_tests, h)
