-- Names that rows have, as the code finds them.
use Rattle.std.proofs.Common.{◌≡◌, ℕ, Bool, true, false, List, Option, Some, None, Result, refl, sym, subst, ◌∙◌}
use Rattle.std.specs.Prelude.{is_some, ok_or, IfErr, IfSome}
use Rattle.block_store.specs.declared.refusal.Refusal.{Refusal}
use Rattle.block_store.specs.declared.refusal.Refusal.TheVariants.{BadConfig}
use Rattle.meta_objset.specs.Names.{IsNamed}

-- ---- what was looked for is there, or it isn't

pub is_none : (found : Option ℕ) (test : Bool) → test ≡ is_some found → test ≡ false → found ≡ None
is_none None test is off = refl
is_none (Some object) test is off = let clash : true ≡ false = sym is ∙ off in absurd cc

pub is_there : (found : Option ℕ) (test : Bool) (P : ℕ → Type 0) → test ≡ is_some found → test ≡ true → IfSome found P → (object : ℕ) × P object
is_there None test P is on there = let clash : false ≡ true = sym is ∙ on in absurd cc
is_there (Some object) test P is on there = (object, there)

-- ---- a name that can be padded is padded

pub never_bad : {X : Type 0} (found : Option X) (result : Result X Refusal) (P : Refusal → Type 0) → result ≡ ok_or found BadConfig → (found ≡ None → ⊥) → IfErr result P
never_bad None result P is some = absurd (some refl)
never_bad (Some x) result P is some = subst (λ r. IfErr r P) (sym is) tt

pub named_one : (name : List ℕ) (found : Option (List ℕ)) → (found ≡ None → (padded : List ℕ) → ¬ IsNamed padded name) → (padded : List ℕ) → IsNamed padded name → found ≡ None → ⊥
named_one name found none padded is no_name = none no_name padded is
