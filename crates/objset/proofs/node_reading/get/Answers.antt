use Rattle.std.proofs.Common.{◌≡◌, ◌+◌, ◌*◌, ◌/◌, ◌%◌, ◌≤◌, ℕ, List, Option, Some, None, inl, inr, refl, ap, sym, ◌∙◌, subst, IsTrue}
use Rattle.std.specs.Prelude.{IfSome}
use Rattle.dnode.specs.declared.dnode.Dnode.{Dnode}
use Rattle.dnode.specs.declared.dnode.Dnode.TheVariants.{Free}
use Rattle.dnode.specs.Dnode.{SpellsDnode}
use Rattle.dnode_tree.proofs.Refusing.{passed_on}
use Rattle.dnode_tree.specs.declared.reading.DataBlock.{DataBlock}
use Rattle.dnode_tree.specs.Ways.{IsBlockFound, bytes_in}
use Rattle.dnode_tree.proofs.WayLemmas.{bytes_found}
use Rattle.objset.specs.Nodes.{IsNodeIn, AreNodesOf, HasZeros, slot_of}
use Rattle.objset.proofs.BlockLists.{slots_of_block}
use Rattle.objset.proofs.node_reading.get.Goals as goal

pub returns-in_err-block-clause-known : goal.returns-in_err-block-clause-known
returns-in_err-block-clause-known g c =
    passed_on _ _ _ c.from_residual.ensures.1
    (λ stored nodes blocks held has tell. c.in_err-block.ensures.known stored has.array blocks held has.tree tell)

-- what the block has is what was read
read_is : (array : ℕ → Option (List ℕ)) (id : ℕ) (found : Option DataBlock) (block : DataBlock) → found ≡ Some block → bytes_in found ≡ array id → array id ≡ Some block.bytes.items
read_is array id found block is same = sym same ∙ ap bytes_in is

-- zeros stand where a set has no object
has_them : (array : ℕ → Option (List ℕ)) (nodes : ℕ → Dnode) (objects id : ℕ) (bytes : List ℕ) → AreNodesOf array nodes → nodes 0 ≡ Free → ((number : ℕ) → objects ≤ number → nodes number ≡ Free)
    → array id ≡ Some bytes → HasZeros objects id bytes
has_them array nodes objects id bytes are first behind is place low unused =
    let free : nodes (32 * id + place) ≡ Free = elim unused [ inl zero ↦ ap nodes zero ∙ first | inr past ↦ behind (32 * id + place) past ] in
    let there : IsNodeIn (Some bytes) place (nodes (32 * id + place)) = subst (λ found. IsNodeIn found place (nodes (32 * id + place))) is (slots_of_block array nodes id place low are) in
    (subst (λ node. SpellsDnode (slot_of bytes place) node) free there).1

pub returns-in_default-clause-value : goal.returns-in_default-clause-value
returns-in_default-clause-value g c = λ stored nodes blocks held has tell.
    let is : None ≡ has.array (c.args.number / 32) = sym (ap bytes_in c.in_default.is) ∙ c.in_ok-block.ensures.value stored has.array blocks held has.tree tell in
    let free : nodes c.args.number ≡ Free = subst (λ bytes. IsNodeIn bytes (c.args.number % 32) (nodes c.args.number)) (sym is) (has.each c.args.number) in
    sym free

pub returns-in_default-clause-found : goal.returns-in_default-clause-found
returns-in_default-clause-found g c =
    inr (
      c.if-number-set.false,
      record {
        block = None;
        block_found = subst (λ (found : Option DataBlock). IsBlockFound c.args.store.now.spaces c.args.set.now.dnodes c.args.birth (c.args.number / 32) found) c.in_default.is c.in_ok-block.ensures.found;
        zeros = tt;
        is_in = refl;
        born = refl;
      },
    )

pub returns-then-not-has_zeros-clause-refused : goal.returns-then-not-has_zeros-clause-refused
returns-then-not-has_zeros-clause-refused g c =
    inr (
      refl,
      record {
        bytes = c.in-Some.block.bytes.items;
        found = bytes_found c.args.store.now.spaces c.args.set.now.dnodes c.args.birth (c.args.number / 32) (Some c.in-Some.block)
            (subst (λ (found : Option DataBlock). IsBlockFound c.args.store.now.spaces c.args.set.now.dnodes c.args.birth (c.args.number / 32) found) c.in-Some.is c.in_ok-block.ensures.found);
        why = inr (λ zeros.
            let test : IsTrue c.has_zeros.result = c.has_zeros.ensures.1 (subst (λ (b : List ℕ). HasZeros c.args.set.now.objects (c.args.number / 32) b) (sym c.deref.ensures.value) zeros) in
            absurd cc);
      },
    )

pub returns-then-not-has_zeros-clause-known : goal.returns-then-not-has_zeros-clause-known
returns-then-not-has_zeros-clause-known g c = λ stored nodes blocks held has tell.
    let is = read_is has.array (c.args.number / 32) _ c.in-Some.block c.in-Some.is (c.in_ok-block.ensures.value stored has.array blocks held has.tree tell) in
    let zeros = has_them has.array nodes c.args.set.now.objects (c.args.number / 32) c.in-Some.block.bytes.items has.each has.first has.behind is in
    let test : IsTrue c.has_zeros.result = c.has_zeros.ensures.1 (subst (λ (b : List ℕ). HasZeros c.args.set.now.objects (c.args.number / 32) b) (sym c.deref.ensures.value) zeros) in
    absurd cc

pub returns-in_err-dnode-clause-refused : goal.returns-in_err-dnode-clause-refused
returns-in_err-dnode-clause-refused g c =
    passed_on _ _ _ c.from_residual-in_err-dnode.ensures.1
    (inr (
      c.in_err-dnode.ensures.refused,
      record {
        bytes = c.in-Some.block.bytes.items;
        found = bytes_found c.args.store.now.spaces c.args.set.now.dnodes c.args.birth (c.args.number / 32) (Some c.in-Some.block)
            (subst (λ (found : Option DataBlock). IsBlockFound c.args.store.now.spaces c.args.set.now.dnodes c.args.birth (c.args.number / 32) found) c.in-Some.is c.in_ok-block.ensures.found);
        why = inl (λ node. subst (λ (b : List ℕ). ¬ IsNodeIn (Some b) (c.args.number % 32) node) c.deref-2.ensures.value (c.in_err-dnode.ensures.none node));
      },
    ))

pub returns-in_err-dnode-clause-known : goal.returns-in_err-dnode-clause-known
returns-in_err-dnode-clause-known g c =
    passed_on _ _ _ c.from_residual-in_err-dnode.ensures.1
    (λ stored nodes blocks held has tell.
    let is = read_is has.array (c.args.number / 32) _ c.in-Some.block c.in-Some.is (c.in_ok-block.ensures.value stored has.array blocks held has.tree tell) in
    let there : IsNodeIn (Some c.in-Some.block.bytes.items) (c.args.number % 32) (nodes c.args.number) =
    subst (λ bytes. IsNodeIn bytes (c.args.number % 32) (nodes c.args.number)) is (has.each c.args.number) in
    absurd (c.in_err-dnode.ensures.none (nodes c.args.number) (subst (λ (bytes : List ℕ). IsNodeIn (Some bytes) (c.args.number % 32) (nodes c.args.number)) (sym c.deref-2.ensures.value) there)))

pub returns-clause-found : goal.returns-clause-found
returns-clause-found g c =
    inr (
      c.if-number-set.false,
      record {
        block = Some c.in-Some.block;
        block_found = subst (λ (found : Option DataBlock). IsBlockFound c.args.store.now.spaces c.args.set.now.dnodes c.args.birth (c.args.number / 32) found) c.in-Some.is c.in_ok-block.ensures.found;
        zeros = subst (λ (b : List ℕ). HasZeros c.args.set.now.objects (c.args.number / 32) b) c.deref.ensures.value (c.has_zeros.ensures.0 c.if-not-has_zeros.false);
        is_in = subst (λ (b : List ℕ). IsNodeIn (Some b) (c.args.number % 32) c.in_ok-dnode.dnode) c.deref-2.ensures.value c.in_ok-dnode.ensures.found;
        born = refl;
      },
    )

pub returns-clause-value : goal.returns-clause-value
returns-clause-value g c = λ stored nodes blocks held has tell.
    let is = read_is has.array (c.args.number / 32) _ c.in-Some.block c.in-Some.is (c.in_ok-block.ensures.value stored has.array blocks held has.tree tell) in
    let there : IsNodeIn (Some c.in-Some.block.bytes.items) (c.args.number % 32) (nodes c.args.number) =
    subst (λ bytes. IsNodeIn bytes (c.args.number % 32) (nodes c.args.number)) is (has.each c.args.number) in
    let same = c.in_ok-dnode.ensures.only (nodes c.args.number) (subst (λ (bytes : List ℕ). IsNodeIn (Some bytes) (c.args.number % 32) (nodes c.args.number)) (sym c.deref-2.ensures.value) there) in
    cc

pub returns-clause-born : goal.returns-clause-born
returns-clause-born g c = λ stored nodes blocks held has tell used.
    subst (λ (found : Option DataBlock). IfSome found (λ block. block.birth ≡ has.births 0 (c.args.number / 32))) c.in-Some.is (c.in_ok-block.ensures.born stored has.births held has.born tell)
