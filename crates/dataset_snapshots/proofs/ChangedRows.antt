-- What lists hold, and what changes make of objects.
use Rattle.std.proofs.Common.{◌≡◌, ◌≢◌, ◌⊎◌, ℕ, zero, suc, ◌≤◌, Bool, true, false, true≢false, eqb, cond, List, [], ◌∷◌, Option, None, All, Contains, inl, inr, ⊎_elim, eqb-true, eq-eqb, refl, sym, ap, subst, ◌∙◌, arith}
use Rattle.std.specs.Prelude.{Any}
use Rattle.std.specs.List.{AllZip}
use Rattle.std.proofs.lemmas.List.Elements.{All-cons, All-nil, Contains-append_cases}
use Rattle.block_pointer.specs.declared.block.Block.{Block}
use Rattle.block_store.specs.Blocks.{Contents}
use Rattle.dnode.specs.declared.dnode.Dnode.{Dnode}
use Rattle.dnode.specs.declared.object_set.ObjectSet.{ObjectSet}
use Rattle.objset.specs.Nodes.{birth_of}
use Rattle.objset.specs.declared.changes.ObjectChange.{ObjectChange}
use Rattle.objset.specs.Changes.{after_change, changed}
use Rattle.objset.specs.Objects.{Object, IsObject, AreObjects}

-- ---- lists

is_one : {X : Type 0} (x other : X) → Contains (x ∷ []) other → x ≡ other
is_one x other (zero, low, is) = is
is_one x other (suc k, low, is) = absurd (omega (arith, low))

pub first_or_later : {X : Type 0} (x other : X) (xs : List X) → Contains (x ∷ xs) other → (x ≡ other) ⊎ Contains xs other
first_or_later x other xs held = elim (Contains-append_cases (x ∷ []) xs other held) [
  | inl one ↦ inl (is_one x other one)
  | inr later ↦ inr later
]

pub is_first : {X : Type 0} (x : X) (xs : List X) → Contains (x ∷ xs) x
is_first x xs = (0, omega arith, refl)

pub is_later : {X : Type 0} (x other : X) (xs : List X) → Contains xs other → Contains (x ∷ xs) other
is_later x other xs (k, low, is) = (suc k, omega (arith, low), is)

pub nothing_in : {X : Type 0} (x : X) → Contains [] x → ⊥
nothing_in x (k, low, is) = omega (arith, low)

-- what is behind a row leads on
pub zip_has : {A B : Type 0} (R : A → B → Type 0) (xs : List A) (ys : List B) (x : A) → AllZip R xs ys → Contains xs x → (y : B) × R x y
zip_has R [] ys x all held = absurd (nothing_in x held)
zip_has R (first ∷ xs) [] x all held = absurd all
zip_has R (first ∷ xs) (y ∷ ys) x all held =
    ⊎_elim (λ is. (y, subst (λ z. R z y) is all.0)) (λ later. zip_has R xs ys x all.1 later) (first_or_later first x xs held)

pub all_from : {X : Type 0} (P : X → Type 0) (xs : List X) → ((x : X) → Contains xs x → P x) → All P xs
all_from P [] each = All-nil P
all_from P (x ∷ xs) each = All-cons P x xs (each x (is_first x xs)) (all_from P xs (λ y held. each y (is_later x y xs held)))

pub any_of : {X : Type 0} (P : X → Type 0) (xs : List X) (x : X) → Contains xs x → P x → Any P xs
any_of P xs x held is = (held.0, x, held.1, held.2, is)

-- ---- changes

-- what a list of changes makes of an object: nothing, or what one of them does
abbrev pub IsChangedOrNot : List ObjectChange → (ℕ → Option Object) → ℕ → Type 0
IsChangedOrNot changes objects number =
    (((change : ObjectChange) → Contains changes change → change.number ≢ number) × (changed changes objects number ≡ objects number))
    ⊎ ((change : ObjectChange) × Contains changes change × (change.number ≡ number) × (changed changes objects number ≡ after_change change.change (objects number)))

by_test : (b : Bool) (change : ObjectChange) (changes : List ObjectChange) (objects : ℕ → Option Object) (number : ℕ) → eqb change.number number ≡ b → IsChangedOrNot changes objects number
    → IsChangedOrNot (change ∷ changes) objects number
by_test true change changes objects number e rest =
    inr (change, is_first change changes, eqb-true change.number number e, ap (λ t. cond t (after_change change.change (objects number)) (changed changes objects number)) e)
by_test false change changes objects number e (inl none) = inl (
  λ other held is. ⊎_elim (λ one. true≢false (sym (taken_true change.number number (ap (λ (c : ObjectChange). c.number) one ∙ is)) ∙ e)) (λ later. none.0 other later is) (first_or_later change other changes held),
  ap (λ t. cond t (after_change change.change (objects number)) (changed changes objects number)) e ∙ none.1,
)
  where
    taken_true : (a b : ℕ) → a ≡ b → eqb a b ≡ true
    taken_true a b same = eq-eqb a b same
by_test false change changes objects number e (inr (other, held, is, now)) =
    inr (other, is_later change other changes held, is, ap (λ t. cond t (after_change change.change (objects number)) (changed changes objects number)) e ∙ now)

pub changed_or_not : (changes : List ObjectChange) (objects : ℕ → Option Object) (number : ℕ) → IsChangedOrNot changes objects number
changed_or_not [] objects number = inl (λ change held is. nothing_in change held, refl)
changed_or_not (change ∷ changes) objects number = by_test (eqb change.number number) change changes objects number refl (changed_or_not changes objects number)

-- ---- objects

-- no object is behind the last of a set
pub none_behind : (stored : Contents) (birth : ℕ) (set : ObjectSet) (objects : ℕ → Option Object) (own : List Block) (blocks : ℕ → List Block) (number : ℕ) → AreObjects stored birth set objects own blocks
    → set.objects ≤ number → objects number ≡ None
none_behind stored birth set objects own blocks number are le =
    (subst (λ (node : Dnode). IsObject stored (birth_of are.dnodes.births number) node (objects number) (blocks number)) (are.dnodes.behind number le) (are.each number)).0
