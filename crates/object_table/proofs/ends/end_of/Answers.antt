use Rattle.std.proofs.Common.{◌≡◌, ℕ, List, Some, None, refl, sym, subst}
use Rattle.object_table.specs.Ends.{AreEndsOfSome}
use Rattle.object_table.proofs.ends.end_of.Goals as goal

pub returns-in-Some-clause-only : goal.returns-in-Some-clause-only
returns-in-Some-clause-only c = λ count some.
    let last = subst (λ (last : List ℕ). AreEndsOfSome c.args.shape c.args.highest count c.args.first.items last) (sym c.deref-2.ensures.value) some in
    let both = subst (λ (first : List ℕ). AreEndsOfSome c.args.shape c.args.highest count first c.deref-2.result.now) (sym c.deref.ensures.value) last in
    let e : Some c.in-Some.rows ≡ Some count = c.in-Some.ensures.only count both in cc

pub returns-in-None-clause-refused : goal.returns-in-None-clause-refused
returns-in-None-clause-refused c = (
  refl,
  λ count some.
      let last = subst (λ (last : List ℕ). AreEndsOfSome c.args.shape c.args.highest count c.args.first.items last) (sym c.deref-2.ensures.value) some in
      let both = subst (λ (first : List ℕ). AreEndsOfSome c.args.shape c.args.highest count first c.deref-2.result.now) (sym c.deref.ensures.value) last in
      let e : None ≡ Some count = c.in-None.ensures.only count both in absurd cc,
)
