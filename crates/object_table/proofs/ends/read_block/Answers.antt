use Rattle.std.proofs.Common.{◌≡◌, Some, None, inl, inr, ⊎_elim, refl, sym, ap, ◌∙◌}
use Rattle.dnode_tree.proofs.Refusing.{passed_on}
use Rattle.dnode_tree.specs.Ways.{bytes_of}
use Rattle.object_table.proofs.Tables.{some_is}
use Rattle.object_table.proofs.ends.read_block.Goals as goal

pub returns-in_err-found-clause-refused : goal.returns-in_err-found-clause-refused
returns-in_err-found-clause-refused g c = passed_on _ _ _ c.from_residual.ensures.1 (inr c.in_err-found.ensures.refused)

pub returns-in_err-found-clause-known : goal.returns-in_err-found-clause-known
returns-in_err-found-clause-known g c =
    passed_on _ _ _ c.from_residual.ensures.1
    (λ stored objects own blocks held are tell there is.
    ⊎_elim (λ loss. inl loss) (λ bad. let clash : Some there ≡ None = sym is ∙ bad.1 in absurd cc)
    (c.in_err-found.ensures.known stored objects own blocks held are tell))

pub returns-in_default-clause-known : goal.returns-in_default-clause-known
returns-in_default-clause-known g c = λ stored objects own blocks held are tell there is.
    let hole = some_is (objects c.args.number) there (λ object. bytes_of c.in_ok-found.found ≡ object.array c.args.id)
    (c.in_ok-found.ensures.value stored objects own blocks held are tell) is in
    inr (refl, sym hole ∙ ap bytes_of c.in_default.is)

pub returns-clause-value : goal.returns-clause-value
returns-clause-value g c = λ stored objects own blocks held are tell there is.
    let has = some_is (objects c.args.number) there (λ object. bytes_of c.in_ok-found.found ≡ object.array c.args.id)
    (c.in_ok-found.ensures.value stored objects own blocks held are tell) is in
    sym has ∙ ap bytes_of c.in-Some.is
