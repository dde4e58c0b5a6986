use Rattle.std.proofs.Common.{◌≡◌, ◌<◌, ℕ, List, [], length, get_or, Option, Vec, All, inl, inr, refl, sym, ap, subst, arith}
use Rattle.std.specs.declared.alloc.Global.{Global}
use Rattle.std.specs.Prelude.{IsSomeAnd}
use Rattle.std.proofs.lemmas.Bool.Decides.{nat_tests}
use Rattle.std.proofs.lemmas.List.{nil_from_length}
use Rattle.std.proofs.lemmas.List.Elements.{Contains-get_or}
use Rattle.std.proofs.lemmas.Result.{IfOk-weaker, IfErr-weaker}
use Rattle.block_store.proofs.Steps.{reads_on}
use Rattle.dnode.specs.declared.dnode.Dnode.{Dnode}
use Rattle.objset.specs.NodesFound.{found_dnode, IsNodeFound}
use Rattle.objset.specs.Nodes.{birth_of}
use Rattle.dnode_tree.specs.Many.{FoundBlocks}
use Rattle.dnode_tree.specs.Ways.{bytes_of, IsFound}
use Rattle.dnode_tree.proofs.FurtherReads.{told_before, told_after}
use Rattle.dnode_tree.proofs.Getting.{zip_weaker}
use Rattle.dnode_tree.proofs.Refusing.{passed_on}
use Rattle.objset.specs.Found.{IsDataFound}
use Rattle.objset.specs.Many.{AreDataOf, AreDataFound}
use Rattle.objset.specs.Objects.{IsObject}
use Rattle.objset.proofs.Kept.{no_object, used, object_there, some_and}
use Rattle.block_store.proofs.Causes.{caused_behind_reads}
use Rattle.objset.proofs.many.get_many.Goals as goal

all_units : (ids : List ℕ) → All (λ id. Unit {0}) ids
all_units ids = λ k d low. tt

pub returns-then-is_empty-clause-value : goal.returns-then-is_empty-clause-value
returns-then-is_empty-clause-value g c = λ stored objects own blocks held are tell.
    let none : length c.args.ids.now ≡ 0 = grind (arith, nat_tests, c.is_empty.ensures, c.if-is_empty.true) in
    subst (λ ids. AreDataOf (objects c.args.number) ids c.new.result.items) (sym (nil_from_length c.args.ids.now none))
    (subst (λ (found : FoundBlocks). AreDataOf (objects c.args.number) [] found) (sym c.new.ensures.items) tt)

pub returns-then-is_empty-clause-found : goal.returns-then-is_empty-clause-found
returns-then-is_empty-clause-found g c =
    let none : length c.args.ids.now ≡ 0 = grind (arith, nat_tests, c.is_empty.ensures, c.if-is_empty.true) in
    subst (λ ids. AreDataFound c.args.store.now.spaces c.args.set.now c.args.birth c.args.number ids c.new.result.items) (sym (nil_from_length c.args.ids.now none))
    (subst (λ (found : FoundBlocks). AreDataFound c.args.store.now.spaces c.args.set.now c.args.birth c.args.number [] found) (sym c.new.ensures.items) tt)

pub returns-in_err-found-clause-idle : goal.returns-in_err-found-clause-idle
returns-in_err-found-clause-idle g c = λ none. absurd (grind (arith, nat_tests, c.is_empty.ensures, c.if-is_empty.false, ap length none))

pub returns-in_default-clause-idle : goal.returns-in_default-clause-idle
returns-in_default-clause-idle g c = λ none. absurd (grind (arith, nat_tests, c.is_empty.ensures, c.if-is_empty.false, ap length none))

pub returns-clause-idle : goal.returns-clause-idle
returns-clause-idle g c = λ none. absurd (grind (arith, nat_tests, c.is_empty.ensures, c.if-is_empty.false, ap length none))

pub returns-in_err-found-clause-known : goal.returns-in_err-found-clause-known
returns-in_err-found-clause-known g c =
    passed_on _ _ _ c.from_residual.ensures.1 (λ stored objects own blocks held are tell. inl (c.in_err-found.ensures.known stored are.nodes own held are.dnodes tell))

pub returns-in_default-clause-known : goal.returns-in_default-clause-known
returns-in_default-clause-known g c = λ stored objects own blocks held are tell.
    let none = no_object stored (birth_of are.dnodes.births c.args.number) c.in_ok-found.found.dnode (are.nodes c.args.number) (objects c.args.number) (blocks c.args.number)
    (c.in_ok-found.ensures.value stored are.nodes own held are.dnodes tell) c.in_default.is (are.each c.args.number) in
    inr (refl, none.0)

pub returns-clause-reads : goal.returns-clause-reads
returns-clause-reads g c = reads_on _ _ _ _ c.in_ok-found.ensures.reads c.get_many.ensures.reads

pub returns-clause-value : goal.returns-clause-value
returns-clause-value g c =
    IfOk-weaker c.get_many.result _ _
    (λ found is stored objects own blocks held are tell.
    let born = c.in_ok-found.ensures.born stored are.nodes own held are.dnodes (told_before _ _ _ _ c.in_ok-found.ensures.reads c.get_many.ensures.reads tell) (used c.in_ok-found.found.dnode c.in-Object.node c.in-Object.is) in
    let there = object_there stored c.in_ok-found.found.birth c.in_ok-found.found.dnode (are.nodes c.args.number) c.in-Object.node (objects c.args.number) (blocks c.args.number)
    (c.in_ok-found.ensures.value stored are.nodes own held are.dnodes (told_before _ _ _ _ c.in_ok-found.ensures.reads c.get_many.ensures.reads tell)) c.in-Object.is
    (subst (λ birth. IsObject stored birth (are.nodes c.args.number) (objects c.args.number) (blocks c.args.number)) (sym born) (are.each c.args.number)) in
    zip_weaker (λ id. Unit {0}) (λ id (block : Option (Vec ℕ Global)). bytes_of block ≡ there.there.array id)
    (λ id (block : Option (Vec ℕ Global)). IsSomeAnd (objects c.args.number) (λ it. bytes_of block ≡ it.array id)) c.args.ids.now found.items
    (λ id block always same. some_and (objects c.args.number) there.there _ there.is same) (all_units c.args.ids.now)
    (is stored there.there.array (blocks c.args.number) (c.in_ok-found.ensures.reads.keeps stored held) there.tree (told_after _ _ _ _ c.in_ok-found.ensures.reads c.get_many.ensures.reads tell)))
    c.get_many.ensures.value

pub returns-clause-known : goal.returns-clause-known
returns-clause-known g c =
    IfErr-weaker c.get_many.result _ _
    (λ refusal is stored objects own blocks held are tell.
    let born = c.in_ok-found.ensures.born stored are.nodes own held are.dnodes (told_before _ _ _ _ c.in_ok-found.ensures.reads c.get_many.ensures.reads tell) (used c.in_ok-found.found.dnode c.in-Object.node c.in-Object.is) in
    let there = object_there stored c.in_ok-found.found.birth c.in_ok-found.found.dnode (are.nodes c.args.number) c.in-Object.node (objects c.args.number) (blocks c.args.number)
    (c.in_ok-found.ensures.value stored are.nodes own held are.dnodes (told_before _ _ _ _ c.in_ok-found.ensures.reads c.get_many.ensures.reads tell)) c.in-Object.is
    (subst (λ birth. IsObject stored birth (are.nodes c.args.number) (objects c.args.number) (blocks c.args.number)) (sym born) (are.each c.args.number)) in
    inl (is stored there.there.array (blocks c.args.number) (c.in_ok-found.ensures.reads.keeps stored held) there.tree (told_after _ _ _ _ c.in_ok-found.ensures.reads c.get_many.ensures.reads tell)))
    c.get_many.ensures.known

pub returns-in_err-found-clause-refused : goal.returns-in_err-found-clause-refused
returns-in_err-found-clause-refused g c =
    let some : 0 < length c.args.ids.now = grind (arith, nat_tests, c.is_empty.ensures, c.if-is_empty.false) in
    passed_on _ _ _ c.from_residual.ensures.1 (inr (get_or c.args.ids.now 0 0, Contains-get_or c.args.ids.now 0 0 some, inl c.in_err-found.ensures.refused))

pub returns-in_default-clause-refused : goal.returns-in_default-clause-refused
returns-in_default-clause-refused g c =
    let some : 0 < length c.args.ids.now = grind (arith, nat_tests, c.is_empty.ensures, c.if-is_empty.false) in
    inr (
      get_or c.args.ids.now 0 0,
      Contains-get_or c.args.ids.now 0 0 some,
      inr (inl (refl, c.in_ok-found.found.birth, subst (λ (node : Dnode). IsNodeFound c.args.store.now.spaces c.args.set.now c.args.birth c.args.number (found_dnode node c.in_ok-found.found.birth)) c.in_default.is c.in_ok-found.ensures.found)),
    )

pub returns-clause-found : goal.returns-clause-found
returns-clause-found g c =
    let spaces = ap (λ store. store.spaces) c.in_ok-found.ensures.reads.rest in
    IfOk-weaker c.get_many.result _ _
    (λ found is.
    zip_weaker (λ id. Unit {0}) (λ id (block : Option (Vec ℕ Global)). IsFound c.get.new.store.spaces c.in-Object.node c.in_ok-found.found.birth id (bytes_of block))
    (λ id (block : Option (Vec ℕ Global)). IsDataFound c.args.store.now.spaces c.args.set.now c.args.birth c.args.number id (bytes_of block)) c.args.ids.now found.items
    (λ id block always there. record {
      node = c.in-Object.node;
      block_birth = c.in_ok-found.found.birth;
      has_node = subst (λ (node : Dnode). IsNodeFound c.args.store.now.spaces c.args.set.now c.args.birth c.args.number (found_dnode node c.in_ok-found.found.birth)) c.in-Object.is c.in_ok-found.ensures.found;
      is = subst (λ s. IsFound s c.in-Object.node c.in_ok-found.found.birth id (bytes_of block)) spaces there;
    }) (all_units c.args.ids.now) is)
    c.get_many.ensures.found

pub returns-clause-refused : goal.returns-clause-refused
returns-clause-refused g c =
    IfErr-weaker c.get_many.result _ _
    (λ refusal why. elim why [
      | inl memory ↦ inl memory
      | inr there ↦ inr (
        there.0,
        there.1,
        inr (inr (record {
          node = c.in-Object.node;
          block_birth = c.in_ok-found.found.birth;
          has_node = subst (λ (node : Dnode). IsNodeFound c.args.store.now.spaces c.args.set.now c.args.birth c.args.number (found_dnode node c.in_ok-found.found.birth)) c.in-Object.is c.in_ok-found.ensures.found;
          mid = c.get.new.store;
          before = c.in_ok-found.ensures.reads;
          why = there.3;
        })),
      )
    ])
    c.get_many.ensures.refused

pub returns-clause-caused : goal.returns-clause-caused
returns-clause-caused g c =
    IfErr-weaker c.get_many.result _ _ (λ refusal cause. caused_behind_reads _ _ _ _ refusal c.in_ok-found.ensures.reads cause) c.get_many.ensures.caused
