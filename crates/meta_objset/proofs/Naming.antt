-- Names and their padding.
use Rattle.std.proofs.Common.{◌≡◌, ◌≢◌, ℕ, ◌+◌, ◌-◌, ◌<◌, false, Option, Some, None, List, ◌++◌, length, take, drop, get_or, inl, inr, sym, ap, subst, ◌∙◌, arith}
use Rattle.std.specs.Prelude.{replicate, is_some, MatchOption}
use Rattle.std.proofs.Math.ListN.{get_or-append}
use Rattle.std.proofs.lemmas.Bool.{cases_lt}
use Rattle.std.proofs.lemmas.List.{take-append-drop, take_at, drop_at, drop-replicate, length-append, length-replicate, length-take-le, length-drop, get_or-take, get_or-append-add, get_or-replicate}
use Rattle.std.proofs.lemmas.List.Elements.{All-from_get_or, All-get_or}
use Rattle.meta_objset.specs.Names.{IsNamed, IsName}

-- what stands before the first zero is a name, where zeros follow
pub named : (padded : List ℕ) (n : ℕ) → length padded ≡ 56 → 0 < n → n < 56 → ((k : ℕ) → k < n → get_or padded k 0 ≢ 0) → drop n padded ≡ replicate (length (drop n padded)) 0 → IsName padded
named padded n len some few before zeros =
    let taken : length (take n padded) ≡ n = length-take-le n padded (omega (arith, len, few)) in
    let left : length (drop n padded) ≡ 56 - length (take n padded) = omega (arith, length-drop n padded, len, taken) in (
      take n padded,
      record {
        some = omega (arith, taken, some);
        few = omega (arith, taken, few);
        no_zero = All-from_get_or (λ byte. byte ≢ 0) (take n padded) 0 (λ k lt is. before k (omega (arith, lt, taken)) (sym (get_or-take n padded k 0 (omega (arith, lt, taken))) ∙ is));
        padded_is = sym (take-append-drop n padded) ∙ ap (λ (x : List ℕ). take n padded ++ x) (zeros ∙ ap (λ m. replicate m 0) left);
      },
    )

-- a padded name has a zero behind the name, and none in it
pub zero_behind : (padded name : List ℕ) → IsNamed padded name → get_or padded (length name) 0 ≡ 0
zero_behind padded name is =
    let none : ℕ = 0 in
    let at : length name + 0 ≡ length name = omega arith in
    ap (λ (x : List ℕ). get_or x (length name) none) is.padded_is
    ∙ ap (λ n. get_or (name ++ replicate (56 - length name) none) n none) (sym at)
    ∙ get_or-append-add name (replicate (56 - length name) none) 0 none ∙ get_or-replicate (56 - length name) 0 none none (omega (arith, is.few))

pub no_zero_before : (padded name : List ℕ) (k : ℕ) → IsNamed padded name → k < length name → get_or padded k 0 ≢ 0
no_zero_before padded name k is lt zero_there =
    let none : ℕ = 0 in
    All-get_or (λ byte. byte ≢ 0) name k none lt is.no_zero
    (sym (get_or-append name (replicate (56 - length name) none) none k lt) ∙ ap (λ (x : List ℕ). get_or x k none) (sym is.padded_is) ∙ zero_there)

pub padded_len : (padded name : List ℕ) → IsNamed padded name → length padded ≡ 56
padded_len padded name is =
    let none : ℕ = 0 in
    omega (arith, ap length is.padded_is, length-append name (replicate (56 - length name) none), length-replicate (56 - length name) none, is.few)

-- the first zero stands right behind the name
pub first_zero_is : (padded name : List ℕ) (n : ℕ) → IsNamed padded name → get_or padded n 0 ≡ 0 → ((k : ℕ) → k < n → get_or padded k 0 ≢ 0) → n ≡ length name
first_zero_is padded name n is there before =
    elim (cases_lt n (length name)) [
      | inl short ↦ absurd (no_zero_before padded name n is short there)
      | inr long ↦ elim (cases_lt (length name) n) [
        | inl over ↦ absurd (before (length name) over (zero_behind padded name is))
        | inr most ↦ omega (arith, long, most)
      ]
    ]

-- and only zeros are left there
pub zeros_behind : (padded name : List ℕ) (n : ℕ) → IsNamed padded name → n ≡ length name → drop n padded ≡ replicate (length (drop n padded)) 0
zeros_behind padded name n is e =
    let none : ℕ = 0 in
    let zeros : List ℕ = replicate (56 - length name) none in
    let left : drop n padded ≡ zeros = ap (drop n) is.padded_is ∙ drop_at name zeros n (sym e) in
    left ∙ ap (λ m. replicate m none) (sym (ap length left ∙ length-replicate (56 - length name) none))

-- what stands before the first zero of a padded name is the name
pub taken_named : (padded name : List ℕ) (n : ℕ) → IsNamed padded name → n ≡ length name → IsNamed padded (take n padded)
taken_named padded name n is e =
    let zeros : List ℕ = replicate (56 - length name) 0 in
    subst (IsNamed padded) (sym (ap (take n) is.padded_is ∙ take_at name zeros n (sym e))) is

-- a name with no zero, and zeros behind it
pub padded_named : (padded name : List ℕ) (found : Option ℕ) (Seen : ℕ → Type 0) → 0 < length name → length name < 56 → is_some found ≡ false
    → MatchOption found ((k : ℕ) → k < length name → get_or name k 0 ≢ 0) Seen → padded ≡ name ++ drop (0 + length name) (replicate 56 0) → IsNamed padded name
padded_named padded name None Seen some few unseen no_zero is =
    let none : ℕ = 0 in
    let left : 56 - (0 + length name) ≡ 56 - length name = omega arith in
    record {
      some = some;
      few = few;
      no_zero = All-from_get_or (λ byte. byte ≢ 0) name none no_zero;
      padded_is = is ∙ ap (λ (zeros : List ℕ). name ++ zeros) (drop-replicate (0 + length name) 56 none ∙ ap (λ n. replicate n none) left);
    }
padded_named padded name (Some end) Seen some few unseen seen is = absurd cc
