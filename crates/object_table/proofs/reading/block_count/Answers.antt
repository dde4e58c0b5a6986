use Rattle.std.proofs.Common.{◌+◌, ◌^◌, ◌<◌, Option, Some, None, inl, inr, refl, sym, ap, subst, ◌∙◌, arith}
use Rattle.std.specs.Prelude.{IfSome}
use Rattle.dnode_tree.proofs.Refusing.{passed_on}
use Rattle.objset.specs.declared.shape.ObjectShape.{ObjectShape}
use Rattle.objset.specs.Shapes.{HasShape, IsShapeFound}
use Rattle.objset.proofs.Shapes.{shaped, unshaped}
use Rattle.object_table.proofs.Tables.{table_of}
use Rattle.object_table.proofs.reading.block_count.Goals as goal

pub returns-in_err-found-clause-known : goal.returns-in_err-found-clause-known
returns-in_err-found-clause-known g c =
    passed_on _ _ _ c.from_residual.ensures.1 (λ stored objects own blocks held are tell. inl (c.in_err-found.ensures.known stored objects own blocks held are tell))

pub returns-in_default-clause-known : goal.returns-in_default-clause-known
returns-in_default-clause-known g c = λ stored objects own blocks held are tell.
    let known = c.in_ok-found.ensures.value stored objects own blocks held are tell in
    let none = subst (λ (found : Option ObjectShape). HasShape (objects c.args.number) found) c.in_default.is known in
    inr (refl, λ rows has. unshaped (objects c.args.number) has.there none has.is)

pub returns-then-not-is_of_kind-clause-known : goal.returns-then-not-is_of_kind-clause-known
returns-then-not-is_of_kind-clause-known g c = λ stored objects own blocks held are tell.
    let known = c.in_ok-found.ensures.value stored objects own blocks held are tell in
    let there = shaped (objects c.args.number) c.in-Some.shape (subst (λ (found : Option ObjectShape). HasShape (objects c.args.number) found) c.in-Some.is known) in
    inr (
      refl,
      λ rows has.
          let kind = (table_of c.args.kind (objects c.args.number) there.there rows there.is has).0 in
          let test = c.is_of_kind.ensures.1 (sym there.object_type ∙ kind.0, sym there.sectors ∙ kind.1) in
          absurd cc,
    )

pub overflow_add-result : goal.overflow_add-result
overflow_add-result g c =
    let low : c.in-Some.shape.highest < 128 ^ 5 = subst (λ (found : Option ObjectShape). IfSome found (λ shape. shape.highest < 128 ^ 5)) c.in-Some.is c.in_ok-found.ensures.fits in
    omega (arith, low)

pub returns-clause-value : goal.returns-clause-value
returns-clause-value g c = λ stored objects own blocks held are tell.
    let known = c.in_ok-found.ensures.value stored objects own blocks held are tell in
    let there = shaped (objects c.args.number) c.in-Some.shape (subst (λ (found : Option ObjectShape). HasShape (objects c.args.number) found) c.in-Some.is known) in
    let kind = c.is_of_kind.ensures.0 c.if-not-is_of_kind.false in
    (there.there, there.is, (there.object_type ∙ kind.0, there.sectors ∙ kind.1), there.ends, ap (λ n. n + 1) there.highest)

pub returns-in_err-found-clause-refused : goal.returns-in_err-found-clause-refused
returns-in_err-found-clause-refused g c = passed_on _ _ _ c.from_residual.ensures.1 (inl c.in_err-found.ensures.refused)

pub returns-in_default-clause-refused : goal.returns-in_default-clause-refused
returns-in_default-clause-refused g c =
    inr (refl, (None, subst (λ (found : Option ObjectShape). IsShapeFound c.args.store.now.spaces c.args.set.now c.args.birth c.args.number found) c.in_default.is c.in_ok-found.ensures.found, λ none. none))

pub returns-then-not-is_of_kind-clause-refused : goal.returns-then-not-is_of_kind-clause-refused
returns-then-not-is_of_kind-clause-refused g c =
    inr (
      refl,
      (
        Some c.in-Some.shape,
        subst (λ (found : Option ObjectShape). IsShapeFound c.args.store.now.spaces c.args.set.now c.args.birth c.args.number found) c.in-Some.is c.in_ok-found.ensures.found,
        λ kind. let test = c.is_of_kind.ensures.1 kind in absurd cc,
      ),
    )

pub returns-clause-found : goal.returns-clause-found
returns-clause-found g c = (
  c.in-Some.shape.highest,
  refl,
  record {
    shape = c.in-Some.shape;
    found = subst (λ (found : Option ObjectShape). IsShapeFound c.args.store.now.spaces c.args.set.now c.args.birth c.args.number found) c.in-Some.is c.in_ok-found.ensures.found;
    of_kind = c.is_of_kind.ensures.0 c.if-not-is_of_kind.false;
    highest_is = refl;
  },
)
