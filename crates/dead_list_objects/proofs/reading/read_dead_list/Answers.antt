use Rattle.std.proofs.Common.{ℕ, List, Result, Ok, Err, IfOk, IsPermutation, inl, inr, ⊎_elim, subst, sym, ◌∙◌}
use Rattle.std.proofs.lemmas.Result.{IfOk-weaker, IfErr-weaker}
use Rattle.dnode_tree.proofs.Refusing.{passed_on}
use Rattle.dead_list_objects.proofs.Unread.{unread, unread_is_caused, judged_is_caused, lossy}
use Rattle.block_pointer.specs.declared.block.Block.{Block}
use Rattle.dead_list.specs.Rows.{SpellsList, SpellsNoList}
use Rattle.dead_list_objects.proofs.reading.read_dead_list.Goals as goal

-- what is known of the value with each thing that is given
ok_given : {T E G : Type 0} (result : Result T E) (P : G → T → Type 0) → ((given : G) → IfOk result (P given)) → IfOk result (λ x. (given : G) → P given x)
ok_given (Ok x) P known = λ given. known given
ok_given (Err e) P known = tt

pub returns-in_err-rows-clause-known : goal.returns-in_err-rows-clause-known
returns-in_err-rows-clause-known g c =
    passed_on _ _ _ c.from_residual.ensures.1
    (λ stored objects own blocks held are tell.
    ⊎_elim (λ loss. inl (lossy _ loss)) (λ bad. inr (λ some. bad.1 some.1.0 some.1.1))
    (c.in_err-rows.ensures.known stored objects own blocks held are tell))

pub returns-in_err-rows-clause-refused : goal.returns-in_err-rows-clause-refused
returns-in_err-rows-clause-refused g c =
    passed_on _ _ _ c.from_residual.ensures.1 (inl (unread _ _ _ _ _ _ _ c.in_err-rows.ensures.refused))

pub returns-clause-value : goal.returns-clause-value
returns-clause-value g c =
    IfOk-weaker c.list_of.result _ _
    (λ list spells stored objects own blocks held are tell. (
      c.in_ok-rows.rows.items,
      c.in_ok-rows.ensures.value stored objects own blocks held are tell,
      subst (λ (bytes : List ℕ). SpellsList bytes list) c.deref.ensures.value spells,
    ))
    c.list_of.ensures.found

pub returns-clause-found : goal.returns-clause-found
returns-clause-found g c =
    IfOk-weaker c.list_of.result _ _
    (λ list spells. (
      c.in_ok-rows.rows.items,
      c.in_ok-rows.ensures.found,
      subst (λ (bytes : List ℕ). SpellsList bytes list) c.deref.ensures.value spells,
    ))
    c.list_of.ensures.found

pub returns-clause-refused : goal.returns-clause-refused
returns-clause-refused g c =
    IfErr-weaker c.list_of.result _ _
    (λ refusal. ⊎_elim (λ memory. inl (inl memory))
    (λ bad. inr (
      bad.0,
      (
        c.in_ok-rows.rows.items,
        c.in_ok-rows.ensures.found,
        subst (λ (bytes : List ℕ). SpellsNoList bytes) c.deref.ensures.value bad.1,
      ),
    )))
    c.list_of.ensures.refused

pub returns-clause-known : goal.returns-clause-known
returns-clause-known g c =
    IfErr-weaker c.list_of.result _ _
    (λ refusal why stored objects own blocks held are tell.
    ⊎_elim (λ memory. inl (inl memory))
    (λ bad. inr (λ some.
    let same = c.deref.ensures.value ∙ c.in_ok-rows.ensures.one stored objects own blocks held are tell some.1.0 some.1.1 in
    subst (λ (bytes : List ℕ). SpellsNoList bytes) same bad.1 some.1.2.0 some.1.2.2))
    why)
    c.list_of.ensures.refused

pub returns-clause-one : goal.returns-clause-one
returns-clause-one g c =
    IfOk-weaker c.list_of.result _ _
    (λ list one stored objects own blocks held are tell other there.
    let same = c.deref.ensures.value ∙ c.in_ok-rows.ensures.one stored objects own blocks held are tell there.0 there.1 in
    one (other, subst (λ (bytes : List ℕ). SpellsList bytes other) (sym same) there.2))
    (ok_given {G = (other : List Block) × SpellsList c.deref.result.now other} c.list_of.result (λ given list. IsPermutation given.0 list) (λ given. c.list_of.ensures.only given.0 given.1))

pub returns-in_err-rows-clause-caused : goal.returns-in_err-rows-clause-caused
returns-in_err-rows-clause-caused g c =
    passed_on _ _ _ c.from_residual.ensures.1 (unread_is_caused _ _ _ _ c.in_err-rows.ensures.caused)

pub returns-clause-caused : goal.returns-clause-caused
returns-clause-caused g c =
    IfErr-weaker c.list_of.result _ _ (λ refusal why. judged_is_caused _ _ _ _ refusal why) c.list_of.ensures.refused
