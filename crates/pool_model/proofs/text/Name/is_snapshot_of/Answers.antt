use Rattle.std.proofs.Common.{arith, refl, ◌≡◌, ℕ, Bool, true, false, nat_eq, List, ◌∷◌, ◌++◌, ◌∙◌, ap}
use Rattle.std.proofs.lemmas.Bool.Decides.{nat_tests}
use Rattle.pool_model.specs.Names.{same, snapshot_name}
use Rattle.pool_model.proofs.Parts.{front_is, no_front, other_part, part_is}
use Rattle.pool_model.proofs.text.Name.is_snapshot_of.Goals as goal

as_names : (b : Bool) (name named volume of : List ℕ) (part : List ℕ) → name ≡ named → volume ≡ of → b ≡ same (snapshot_name volume part) name → b ≡ same (snapshot_name of part) named
as_names b name named volume of part e f g = g ∙ (λ i. same (snapshot_name (f i) part) (e i))

pub returns-in_default : goal.returns-in_default
returns-in_default c =
    as_names false c.as_slice.result.now c.args.self.now c.as_slice-2.result.now c.args.volume.now c.args.part.now c.as_slice.ensures c.as_slice-2.ensures
    (no_front c.as_slice.result.now c.as_slice-2.result.now c.args.part.now c.in_default.ensures.cases)

pub returns-then-first-eq64 : goal.returns-then-first-eq64
returns-then-first-eq64 c =
    let k = c.in-Some.ensures.cases in
    let behind : c.in-Some.behind.now ≡ 64 ∷ c.in-Some-split_first.rest.now = c.in-Some-split_first.ensures.cases.0 ∙ ap (λ n. n ∷ c.in-Some-split_first.rest.now) c.if-first-eq64.true in
    as_names c.eq.result c.as_slice.result.now c.args.self.now c.as_slice-2.result.now c.args.volume.now c.args.part.now c.as_slice.ensures c.as_slice-2.ensures
    (c.eq.ensures ∙ (ap (λ xs. same c.in-Some-split_first.rest.now xs) c.as_slice-then-first-eq64.ensures
    ∙ part_is c.as_slice.result.now c.as_slice-2.result.now c.args.part.now c.in-Some-split_first.rest.now (front_is c.as_slice.result.now c.as_slice-2.result.now c.in-Some.behind.now k.0 k.1 ∙ ap (λ xs. c.as_slice-2.result.now ++ xs) behind)))

pub returns-else-first-eq64 : goal.returns-else-first-eq64
returns-else-first-eq64 c =
    let k = c.in-Some.ensures.cases in
    as_names (nat_eq c.in-Some-split_first.first.now 64) c.as_slice.result.now c.args.self.now c.as_slice-2.result.now c.args.volume.now c.args.part.now c.as_slice.ensures c.as_slice-2.ensures
    (false_test (nat_eq c.in-Some-split_first.first.now 64) refl
    ∙ other_part c.as_slice.result.now c.as_slice-2.result.now c.args.part.now c.in-Some.behind.now c.in-Some-split_first.rest.now c.in-Some-split_first.first.now
    (front_is c.as_slice.result.now c.as_slice-2.result.now c.in-Some.behind.now k.0 k.1) c.in-Some-split_first.ensures.cases.0 c.if-first-eq64.false)
  where
    false_test : (b : Bool) → nat_eq c.in-Some-split_first.first.now 64 ≡ b → b ≡ false
    false_test true e = absurd (c.if-first-eq64.false (let test = e in grind (arith, nat_tests, test)))
    false_test false e = refl
