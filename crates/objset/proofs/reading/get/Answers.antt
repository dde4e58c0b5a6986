use Rattle.std.proofs.Common.{inl, inr, refl, sym, ap, subst}
use Rattle.std.proofs.lemmas.Result.{IfOk-weaker, IfErr-weaker}
use Rattle.block_store.proofs.Steps.{reads_on}
use Rattle.dnode_tree.proofs.FurtherReads.{told_before, told_after}
use Rattle.dnode_tree.proofs.Refusing.{passed_on}
use Rattle.objset.proofs.Kept.{no_object, used, object_there, some_and}
use Rattle.dnode.specs.declared.dnode.Dnode.{Dnode}
use Rattle.dnode_tree.specs.Ways.{bytes_of, IsFound}
use Rattle.objset.specs.NodesFound.{found_dnode, IsNodeFound}
use Rattle.objset.specs.Nodes.{birth_of}
use Rattle.objset.specs.Objects.{IsObject}
use Rattle.block_store.proofs.Causes.{caused_behind_reads}
use Rattle.objset.proofs.reading.get.Goals as goal

pub returns-in_err-found-clause-known : goal.returns-in_err-found-clause-known
returns-in_err-found-clause-known g c =
    passed_on _ _ _ c.from_residual.ensures.1 (λ stored objects own blocks held are tell. inl (c.in_err-found.ensures.known stored are.nodes own held are.dnodes tell))

pub returns-in_default-clause-known : goal.returns-in_default-clause-known
returns-in_default-clause-known g c = λ stored objects own blocks held are tell.
    let none = no_object stored (birth_of are.dnodes.births c.args.number) c.in_ok-found.found.dnode (are.nodes c.args.number) (objects c.args.number) (blocks c.args.number)
    (c.in_ok-found.ensures.value stored are.nodes own held are.dnodes tell) c.in_default.is (are.each c.args.number) in
    inr (refl, none.0)

pub returns-clause-reads : goal.returns-clause-reads
returns-clause-reads g c = reads_on _ _ _ _ c.in_ok-found.ensures.reads c.get-2.ensures.reads

pub returns-clause-value : goal.returns-clause-value
returns-clause-value g c =
    IfOk-weaker c.get-2.result _ _
    (λ found is stored objects own blocks held are tell.
    let born = c.in_ok-found.ensures.born stored are.nodes own held are.dnodes (told_before _ _ _ _ c.in_ok-found.ensures.reads c.get-2.ensures.reads tell) (used c.in_ok-found.found.dnode c.in-Object.node c.in-Object.is) in
    let there = object_there stored c.in_ok-found.found.birth c.in_ok-found.found.dnode (are.nodes c.args.number) c.in-Object.node (objects c.args.number) (blocks c.args.number)
    (c.in_ok-found.ensures.value stored are.nodes own held are.dnodes (told_before _ _ _ _ c.in_ok-found.ensures.reads c.get-2.ensures.reads tell)) c.in-Object.is
    (subst (λ birth. IsObject stored birth (are.nodes c.args.number) (objects c.args.number) (blocks c.args.number)) (sym born) (are.each c.args.number)) in
    some_and (objects c.args.number) there.there _ there.is
    (is stored there.there.array (blocks c.args.number) (c.in_ok-found.ensures.reads.keeps stored held) there.tree (told_after _ _ _ _ c.in_ok-found.ensures.reads c.get-2.ensures.reads tell)))
    c.get-2.ensures.value

pub returns-clause-known : goal.returns-clause-known
returns-clause-known g c =
    IfErr-weaker c.get-2.result _ _
    (λ refusal is stored objects own blocks held are tell.
    let born = c.in_ok-found.ensures.born stored are.nodes own held are.dnodes (told_before _ _ _ _ c.in_ok-found.ensures.reads c.get-2.ensures.reads tell) (used c.in_ok-found.found.dnode c.in-Object.node c.in-Object.is) in
    let there = object_there stored c.in_ok-found.found.birth c.in_ok-found.found.dnode (are.nodes c.args.number) c.in-Object.node (objects c.args.number) (blocks c.args.number)
    (c.in_ok-found.ensures.value stored are.nodes own held are.dnodes (told_before _ _ _ _ c.in_ok-found.ensures.reads c.get-2.ensures.reads tell)) c.in-Object.is
    (subst (λ birth. IsObject stored birth (are.nodes c.args.number) (objects c.args.number) (blocks c.args.number)) (sym born) (are.each c.args.number)) in
    inl (is stored there.there.array (blocks c.args.number) (c.in_ok-found.ensures.reads.keeps stored held) there.tree (told_after _ _ _ _ c.in_ok-found.ensures.reads c.get-2.ensures.reads tell)))
    c.get-2.ensures.known

pub returns-in_err-found-clause-refused : goal.returns-in_err-found-clause-refused
returns-in_err-found-clause-refused g c = passed_on _ _ _ c.from_residual.ensures.1 (inl c.in_err-found.ensures.refused)

pub returns-in_default-clause-refused : goal.returns-in_default-clause-refused
returns-in_default-clause-refused g c =
    inr (inl (refl, c.in_ok-found.found.birth, subst (λ (node : Dnode). IsNodeFound c.args.store.now.spaces c.args.set.now c.args.birth c.args.number (found_dnode node c.in_ok-found.found.birth)) c.in_default.is c.in_ok-found.ensures.found))

pub returns-clause-found : goal.returns-clause-found
returns-clause-found g c =
    let spaces = ap (λ store. store.spaces) c.in_ok-found.ensures.reads.rest in
    IfOk-weaker c.get-2.result _ _
    (λ found is. record {
      node = c.in-Object.node;
      block_birth = c.in_ok-found.found.birth;
      has_node = subst (λ (node : Dnode). IsNodeFound c.args.store.now.spaces c.args.set.now c.args.birth c.args.number (found_dnode node c.in_ok-found.found.birth)) c.in-Object.is c.in_ok-found.ensures.found;
      is = subst (λ s. IsFound s c.in-Object.node c.in_ok-found.found.birth c.args.id (bytes_of found)) spaces is;
    })
    c.get-2.ensures.found

pub returns-clause-refused : goal.returns-clause-refused
returns-clause-refused g c =
    IfErr-weaker c.get-2.result _ _
    (λ refusal is. inr (inr (record {
      node = c.in-Object.node;
      block_birth = c.in_ok-found.found.birth;
      has_node = subst (λ (node : Dnode). IsNodeFound c.args.store.now.spaces c.args.set.now c.args.birth c.args.number (found_dnode node c.in_ok-found.found.birth)) c.in-Object.is c.in_ok-found.ensures.found;
      mid = c.get.new.store;
      before = c.in_ok-found.ensures.reads;
      why = is;
    })))
    c.get-2.ensures.refused

pub returns-clause-caused : goal.returns-clause-caused
returns-clause-caused g c =
    IfErr-weaker c.get-2.result _ _ (λ refusal cause. caused_behind_reads _ _ _ _ refusal c.in_ok-found.ensures.reads cause) c.get-2.ensures.caused
