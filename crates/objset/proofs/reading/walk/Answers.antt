use Rattle.std.proofs.Common.{◌≡◌, Option, Some, None, inl, inr, refl, sym, ◌∙◌, subst}
use Rattle.std.proofs.lemmas.Result.{IfOk-weaker, IfErr-weaker}
use Rattle.block_store.proofs.Steps.{reads_on}
use Rattle.dnode_tree.proofs.FurtherReads.{told_before, told_after}
use Rattle.dnode_tree.proofs.Refusing.{passed_on}
use Rattle.objset.proofs.Kept.{no_object, used, object_there}
use Rattle.dnode.specs.declared.dnode.Dnode.{Dnode}
use Rattle.objset.specs.NodesFound.{found_dnode, IsNodeFound}
use Rattle.objset.specs.Nodes.{birth_of}
use Rattle.objset.specs.Objects.{Object, IsObject}
use Rattle.block_store.proofs.Causes.{caused_behind_reads}
use Rattle.objset.proofs.reading.walk.Goals as goal

there_is_some : (object : Option Object) (there : Object) → object ≡ Some there → object ≡ None → ⊥
there_is_some object there is none = let clash : None ≡ Some there = sym none ∙ is in cc

pub returns-in_err-found-clause-known : goal.returns-in_err-found-clause-known
returns-in_err-found-clause-known g c =
    passed_on _ _ _ c.from_residual.ensures.1 (λ stored objects own blocks held are tell. inl (c.in_err-found.ensures.known stored are.nodes own held are.dnodes tell))

pub returns-in_default-clause-known : goal.returns-in_default-clause-known
returns-in_default-clause-known g c = λ stored objects own blocks held are tell.
    let none = no_object stored (birth_of are.dnodes.births c.args.number) c.in_ok-found.found.dnode (are.nodes c.args.number) (objects c.args.number) (blocks c.args.number)
    (c.in_ok-found.ensures.value stored are.nodes own held are.dnodes tell) c.in_default.is (are.each c.args.number) in
    inr (refl, none.0)

pub returns-clause-reads : goal.returns-clause-reads
returns-clause-reads g c = reads_on _ _ _ _ c.in_ok-found.ensures.reads c.walk.ensures.reads

pub returns-clause-blocks : goal.returns-clause-blocks
returns-clause-blocks g c =
    IfOk-weaker c.walk.result _ _
    (λ found is stored objects own blocks held are tell.
    let born = c.in_ok-found.ensures.born stored are.nodes own held are.dnodes (told_before _ _ _ _ c.in_ok-found.ensures.reads c.walk.ensures.reads tell) (used c.in_ok-found.found.dnode c.in-Object.node c.in-Object.is) in
    let there = object_there stored c.in_ok-found.found.birth c.in_ok-found.found.dnode (are.nodes c.args.number) c.in-Object.node (objects c.args.number) (blocks c.args.number)
    (c.in_ok-found.ensures.value stored are.nodes own held are.dnodes (told_before _ _ _ _ c.in_ok-found.ensures.reads c.walk.ensures.reads tell)) c.in-Object.is
    (subst (λ birth. IsObject stored birth (are.nodes c.args.number) (objects c.args.number) (blocks c.args.number)) (sym born) (are.each c.args.number)) in (
      λ none. there_is_some (objects c.args.number) there.there there.is none,
      is stored there.there.array (blocks c.args.number) (c.in_ok-found.ensures.reads.keeps stored held) there.tree (told_after _ _ _ _ c.in_ok-found.ensures.reads c.walk.ensures.reads tell),
    ))
    c.walk.ensures.blocks

pub returns-clause-known : goal.returns-clause-known
returns-clause-known g c =
    IfErr-weaker c.walk.result _ _
    (λ refusal is stored objects own blocks held are tell.
    let born = c.in_ok-found.ensures.born stored are.nodes own held are.dnodes (told_before _ _ _ _ c.in_ok-found.ensures.reads c.walk.ensures.reads tell) (used c.in_ok-found.found.dnode c.in-Object.node c.in-Object.is) in
    let there = object_there stored c.in_ok-found.found.birth c.in_ok-found.found.dnode (are.nodes c.args.number) c.in-Object.node (objects c.args.number) (blocks c.args.number)
    (c.in_ok-found.ensures.value stored are.nodes own held are.dnodes (told_before _ _ _ _ c.in_ok-found.ensures.reads c.walk.ensures.reads tell)) c.in-Object.is
    (subst (λ birth. IsObject stored birth (are.nodes c.args.number) (objects c.args.number) (blocks c.args.number)) (sym born) (are.each c.args.number)) in
    inl (is stored there.there.array (blocks c.args.number) (c.in_ok-found.ensures.reads.keeps stored held) there.tree (told_after _ _ _ _ c.in_ok-found.ensures.reads c.walk.ensures.reads tell)))
    c.walk.ensures.known

pub returns-in_err-found-clause-refused : goal.returns-in_err-found-clause-refused
returns-in_err-found-clause-refused g c = passed_on _ _ _ c.from_residual.ensures.1 (inl c.in_err-found.ensures.refused)

pub returns-in_default-clause-refused : goal.returns-in_default-clause-refused
returns-in_default-clause-refused g c =
    inr (inl (refl, c.in_ok-found.found.birth, subst (λ (node : Dnode). IsNodeFound c.args.store.now.spaces c.args.set.now c.args.birth c.args.number (found_dnode node c.in_ok-found.found.birth)) c.in_default.is c.in_ok-found.ensures.found))

pub returns-clause-refused : goal.returns-clause-refused
returns-clause-refused g c =
    IfErr-weaker c.walk.result _ _
    (λ refusal is. inr (inr (record {
      node = c.in-Object.node;
      block_birth = c.in_ok-found.found.birth;
      has_node = subst (λ (node : Dnode). IsNodeFound c.args.store.now.spaces c.args.set.now c.args.birth c.args.number (found_dnode node c.in_ok-found.found.birth)) c.in-Object.is c.in_ok-found.ensures.found;
      mid = c.get.new.store;
      before = c.in_ok-found.ensures.reads;
      why = is;
    })))
    c.walk.ensures.refused

pub returns-clause-caused : goal.returns-clause-caused
returns-clause-caused g c =
    IfErr-weaker c.walk.result _ _ (λ refusal cause. caused_behind_reads _ _ _ _ refusal c.in_ok-found.ensures.reads cause) c.walk.ensures.caused
