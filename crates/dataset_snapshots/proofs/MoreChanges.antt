-- Objects after more changes.
use Rattle.std.proofs.Common.{◌≡◌, ◌≢◌, ℕ, List, [], ◌∷◌, ◌++◌, Option, Some, None, refl, ap, ◌∙◌, arith}
use Rattle.std.specs.Prelude.{All, cond, ◌==◌}
use Rattle.std.proofs.lemmas.Bool.Decides.{nat_tests}
use Rattle.std.proofs.lemmas.List.Elements.{All-head, All-tail}
use Rattle.objset.specs.declared.changes.Change.{Change}
use Rattle.objset.specs.declared.changes.Change.TheVariants.{Create, Put, Free, Replace}
use Rattle.objset.specs.declared.changes.ObjectChange.{ObjectChange}
use Rattle.objset.specs.Changes.{MayChange, after_change, changed}
use Rattle.objset.specs.Objects.{Object}

-- none of the changes is of this object
abbrev pub LacksNumber : List ObjectChange → ℕ → Type 0
LacksNumber changes number = All (λ change. change.number ≢ number) changes

other_number : {X : Type 0} (n number : ℕ) (x y : X) → n ≢ number → cond (n == number) x y ≡ y
other_number n number x y differ = grind (arith, nat_tests)

this_number : {X : Type 0} (n number : ℕ) (x y : X) → n ≡ number → cond (n == number) x y ≡ x
this_number n number x y same = grind (arith, nat_tests)

-- the changes in front are of other objects
pub changed_behind : (front back : List ObjectChange) (objects : ℕ → Option Object) (number : ℕ) → LacksNumber front number
    → changed (front ++ back) objects number ≡ changed back objects number
changed_behind [] back objects number none = refl
changed_behind (change ∷ front) back objects number none =
    other_number change.number number (after_change change.change (objects number)) (changed (front ++ back) objects number)
    (All-head (λ (c : ObjectChange). c.number ≢ number) change front none)
    ∙ changed_behind front back objects number (All-tail (λ (c : ObjectChange). c.number ≢ number) change front none)

pub unchanged : (changes : List ObjectChange) (objects : ℕ → Option Object) (number : ℕ) → LacksNumber changes number → changed changes objects number ≡ objects number
unchanged [] objects number none = refl
unchanged (change ∷ changes) objects number none =
    other_number change.number number (after_change change.change (objects number)) (changed changes objects number)
    (All-head (λ (c : ObjectChange). c.number ≢ number) change changes none)
    ∙ unchanged changes objects number (All-tail (λ (c : ObjectChange). c.number ≢ number) change changes none)

-- those behind are
pub changed_front : (front back : List ObjectChange) (objects : ℕ → Option Object) (number : ℕ) → LacksNumber back number
    → changed (front ++ back) objects number ≡ changed front objects number
changed_front [] back objects number none = unchanged back objects number none
changed_front (change ∷ front) back objects number none =
    ap (λ o. cond (change.number == number) (after_change change.change (objects number)) o) (changed_front front back objects number none)

pub changed_first : (change : ObjectChange) (changes : List ObjectChange) (objects : ℕ → Option Object) (number : ℕ) → change.number ≡ number
    → changed (change ∷ changes) objects number ≡ after_change change.change (objects number)
changed_first change changes objects number same =
    this_number change.number number (after_change change.change (objects number)) (changed changes objects number) same

-- what makes an object where there is none may be done there
pub may_make : (change : Change) (there : Object) → after_change change None ≡ Some there → MayChange change None
may_make (Create object_type sectors writes) there is = refl
may_make (Put writes) there is = let clash : None ≡ Some there = is in absurd cc
may_make Free there is = let clash : None ≡ Some there = is in absurd cc
may_make (Replace writes) there is = let clash : None ≡ Some there = is in absurd cc
