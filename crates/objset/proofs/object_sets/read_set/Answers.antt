use Rattle.std.proofs.Common.{◌≡◌, List, ℕ, sym, ◌∙◌, subst}
use Rattle.dnode.specs.ObjectSet.{SpellsObjectSet}
use Rattle.dnode_tree.proofs.Refusing.{passed_on}
use Rattle.objset.proofs.object_sets.read_set.Goals as goal

pub returns-in_err-found-clause-known : goal.returns-in_err-found-clause-known
returns-in_err-found-clause-known g c =
    passed_on _ _ _ c.from_residual.ensures.1
    (λ stored set held is tell. c.in_err-found.ensures.known stored is.bytes held is.known is.asks tell)

pub returns-in-Ok-clause-value : goal.returns-in-Ok-clause-value
returns-in-Ok-clause-value g c = λ stored set held is tell.
    let same : c.copy_from_slice.new.self ≡ is.bytes =
    c.copy_from_slice.ensures.after ∙ c.deref.ensures.value ∙ c.in_ok-found.ensures.bytes stored is.bytes held is.known tell in
    let e = c.in-Ok.ensures.only set (subst (λ (bytes : List ℕ). SpellsObjectSet bytes set) (sym same) is.spelled) in
    cc

pub returns-clause-known : goal.returns-clause-known
returns-clause-known g c = λ stored set held is tell.
    let same : c.copy_from_slice.new.self ≡ is.bytes =
    c.copy_from_slice.ensures.after ∙ c.deref.ensures.value ∙ c.in_ok-found.ensures.bytes stored is.bytes held is.known tell in
    let e = c.in-Err.ensures.only set (subst (λ (bytes : List ℕ). SpellsObjectSet bytes set) (sym same) is.spelled) in
    absurd (cc)
