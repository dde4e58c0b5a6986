-- One change more among others.
use Rattle.std.proofs.Common.{◌≡◌, ◌≢◌, ◌⊎◌, ℕ, List, [], ◌∷◌, ◌++◌, eqb, cond, Option, All, Contains, refl, sym, ap, subst, ◌∙◌}
use Rattle.std.proofs.lemmas.List.Elements.{All-append, All-cons, All-head, All-tail}
use Rattle.meta_objset.proofs.Edits.{all_left, all_right, in_middle, still_in}
use Rattle.objset.specs.declared.changes.ObjectChange.{ObjectChange}
use Rattle.objset.specs.Changes.{after_change, changed}
use Rattle.objset.specs.Objects.{Object}
use Rattle.objset.proofs.Numbers.{changed_left, passed, taken}
use Rattle.pool_maps.specs.Plans.{IsPutIn}

apart_here : (front back : List ObjectChange) (change : ObjectChange) (objects : ℕ → Option Object) (number : ℕ) → change.number ≢ number
    → changed (front ++ change ∷ back) objects number ≡ changed (front ++ back) objects number
apart_here [] back change objects number other = passed change.number number (after_change change.change (objects number)) (changed back objects number) other
apart_here (first ∷ front) back change objects number other =
    ap (λ rest. cond (eqb first.number number) (after_change first.change (objects number)) rest) (apart_here front back change objects number other)

made_here : (front back : List ObjectChange) (change : ObjectChange) (objects : ℕ → Option Object) → All (λ other. other.number ≢ change.number) (front ++ back)
    → changed (front ++ change ∷ back) objects change.number ≡ after_change change.change (objects change.number)
made_here [] back change objects none = taken change.number change.number (after_change change.change (objects change.number)) (changed back objects change.number) refl
made_here (first ∷ front) back change objects none =
    passed first.number change.number (after_change first.change (objects change.number)) (changed (front ++ change ∷ back) objects change.number)
    (All-head (λ (c : ObjectChange). c.number ≢ change.number) first (front ++ back) none)
    ∙ made_here front back change objects (All-tail (λ (c : ObjectChange). c.number ≢ change.number) first (front ++ back) none)

all_with : {X : Type 0} (P : X → Type 0) (front back : List X) (x : X) → All P (front ++ back) → P x → All P (front ++ x ∷ back)
all_with P front back x all is = All-append P front (x ∷ back) (all_left P front back all) (All-cons P x back is (all_right P front back all))

module _ (old new : List ObjectChange) (change : ObjectChange) (put : IsPutIn old change new) where
  -- other objects are as they were
  pub others_stay : (objects : ℕ → Option Object) (number : ℕ) → change.number ≢ number → changed new objects number ≡ changed old objects number
  others_stay objects number other =
      ap (λ them. changed them objects number) put.is
      ∙ apart_here put.front put.back change objects number other
      ∙ ap (λ them. changed them objects number) (sym put.was)

  -- the object was as before all changes, and is what the change makes of it
  pub becomes : (objects : ℕ → Option Object) → changed new objects change.number ≡ after_change change.change (objects change.number)
  becomes objects =
      ap (λ them. changed them objects change.number) put.is
      ∙ made_here put.front put.back change objects (subst (λ them. All (λ (other : ObjectChange). other.number ≢ change.number) them) put.was put.apart)

  pub was : (objects : ℕ → Option Object) → changed old objects change.number ≡ objects change.number
  was objects = changed_left old objects change.number put.apart

  pub kept : (other : ObjectChange) → Contains old other → Contains new other
  kept other held = subst (λ them. Contains them other) (sym put.is) (still_in put.front put.back change other (subst (λ them. Contains them other) put.was held))

  pub only : (other : ObjectChange) → Contains new other → Contains old other ⊎ (change ≡ other)
  only other held =
      subst (λ them. Contains them other ⊎ (change ≡ other)) (sym put.was) (in_middle put.front put.back change other (subst (λ them. Contains them other) put.is held))

  pub all_put : (P : ObjectChange → Type 0) → All P old → P change → All P new
  all_put P all is = subst (All P) (sym put.is) (all_with P put.front put.back change (subst (All P) put.was all) is)
