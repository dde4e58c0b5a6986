use Rattle.std.proofs.Common.{Option, Some, None, inl, inr, refl, sym, subst, ◌∙◌}
use Rattle.dnode_tree.proofs.Refusing.{passed_on}
use Rattle.objset.specs.declared.shape.ObjectShape.{ObjectShape}
use Rattle.objset.specs.Shapes.{HasShape, IsShapeFound}
use Rattle.objset.proofs.Shapes.{shaped, unshaped}
use Rattle.meta_objset.proofs.RecordObjects.{record_there}
use Rattle.meta_objset.proofs.datasets.expect_record.Goals as goal

pub returns-in_err-found-clause-known : goal.returns-in_err-found-clause-known
returns-in_err-found-clause-known g c =
    passed_on _ _ _ c.from_residual.ensures.1 (λ stored objects own blocks held are tell. inl (c.in_err-found.ensures.known stored objects own blocks held are tell))

pub returns-in_default-clause-known : goal.returns-in_default-clause-known
returns-in_default-clause-known g c = λ stored objects own blocks held are tell.
    let known = c.in_ok-found.ensures.value stored objects own blocks held are tell in
    let none = subst (λ (found : Option ObjectShape). HasShape (objects c.args.number) found) c.in_default.is known in
    inr (refl, λ r has. unshaped (objects c.args.number) has.there none has.is)

pub returns-then-not-is_of_record-clause-known : goal.returns-then-not-is_of_record-clause-known
returns-then-not-is_of_record-clause-known g c = λ stored objects own blocks held are tell.
    let known = c.in_ok-found.ensures.value stored objects own blocks held are tell in
    let there = shaped (objects c.args.number) c.in-Some.shape (subst (λ (found : Option ObjectShape). HasShape (objects c.args.number) found) c.in-Some.is known) in
    inr (
      refl,
      λ r has.
          let is = (record_there (objects c.args.number) there.there r there.is has).1 in
          let test = c.is_of_record.ensures.1 (sym there.object_type ∙ is.object_type, sym there.sectors ∙ is.sectors, sym there.highest ∙ is.highest) in
          absurd cc,
    )

pub returns-clause-value : goal.returns-clause-value
returns-clause-value g c = λ stored objects own blocks held are tell.
    let known = c.in_ok-found.ensures.value stored objects own blocks held are tell in
    let there = shaped (objects c.args.number) c.in-Some.shape (subst (λ (found : Option ObjectShape). HasShape (objects c.args.number) found) c.in-Some.is known) in
    let is = c.is_of_record.ensures.0 c.if-not-is_of_record.false in
    (there.there, there.is, record { object_type = there.object_type ∙ is.0; sectors = there.sectors ∙ is.1; highest = there.highest ∙ is.2; ends = there.ends })

pub returns-in_err-found-clause-refused : goal.returns-in_err-found-clause-refused
returns-in_err-found-clause-refused g c = passed_on _ _ _ c.from_residual.ensures.1 (inl c.in_err-found.ensures.refused)

pub returns-in_default-clause-refused : goal.returns-in_default-clause-refused
returns-in_default-clause-refused g c =
    inr (refl, (None, subst (λ (found : Option ObjectShape). IsShapeFound c.args.store.now.spaces c.args.set.now c.args.birth c.args.number found) c.in_default.is c.in_ok-found.ensures.found, λ none. none))

pub returns-then-not-is_of_record-clause-refused : goal.returns-then-not-is_of_record-clause-refused
returns-then-not-is_of_record-clause-refused g c =
    inr (
      refl,
      (
        Some c.in-Some.shape,
        subst (λ (found : Option ObjectShape). IsShapeFound c.args.store.now.spaces c.args.set.now c.args.birth c.args.number found) c.in-Some.is c.in_ok-found.ensures.found,
        λ is. let test = c.is_of_record.ensures.1 is in absurd cc,
      ),
    )

pub returns-clause-found : goal.returns-clause-found
returns-clause-found g c = (
  c.in-Some.shape,
  subst (λ (found : Option ObjectShape). IsShapeFound c.args.store.now.spaces c.args.set.now c.args.birth c.args.number found) c.in-Some.is c.in_ok-found.ensures.found,
  c.is_of_record.ensures.0 c.if-not-is_of_record.false,
)
