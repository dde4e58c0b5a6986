use Rattle.std.proofs.Common.{◌≡◌, ℕ, ◌+◌, List, ◌++◌, Option, Some, None, inl, inr, ⊎_elim, refl, sym, ap, subst, ◌∙◌, arith}
use Rattle.std.specs.Prelude.{Vec, IsSomeAnd}
use Rattle.std.specs.declared.alloc.Global.{Global}
use Rattle.block_store.proofs.Steps.{reads_on}
use Rattle.block_store.proofs.Causes.{caused_behind_reads}
use Rattle.dnode_tree.proofs.FurtherReads.{told_after}
use Rattle.dnode_tree.proofs.Refusing.{passed_on}
use Rattle.dnode_tree.specs.Ways.{bytes_of}
use Rattle.objset.specs.Found.{IsDataFound}
use Rattle.object_table.specs.Found.{AreBlocksFound}
use Rattle.object_table.specs.Tables.{IsFront}
use Rattle.object_table.proofs.Tables.{IsUnderway, underway_begins, underway_goes_on, some_is, spaces_stay}
use Rattle.object_table.proofs.reading.read_blocks.Goals as goal

pub loop-id-init : goal.loop-id-init
loop-id-init g c =
    subst (λ (bytes : List ℕ). IsUnderway c.args.store.now c.args.store.now c.args.missing.now c.args.set.now c.args.birth c.args.number 0 bytes) (sym c.new-bytes.ensures.items)
    (underway_begins c.args.store.now c.args.missing.now c.args.set.now c.args.birth c.args.number)

pub returns-in_err-found-clause-reads : goal.returns-in_err-found-clause-reads
returns-in_err-found-clause-reads g c = reads_on _ _ _ _ c.loop-id.invariant.reads c.in_err-found.ensures.reads

pub returns-in_err-found-clause-known : goal.returns-in_err-found-clause-known
returns-in_err-found-clause-known g c =
    let before = c.loop-id.invariant.reads in
    let step = c.in_err-found.ensures.reads in
    passed_on _ _ _ c.from_residual.ensures.1
    (λ stored objects own blocks held are tell there is.
    ⊎_elim (λ memory. inl memory) (λ bad. let clash : Some there ≡ None = sym is ∙ bad.1 in absurd cc)
    (c.in_err-found.ensures.known stored objects own blocks (before.keeps stored held) are (told_after _ _ _ _ before step tell)))

pub returns-in_default-clause-reads : goal.returns-in_default-clause-reads
returns-in_default-clause-reads g c = reads_on _ _ _ _ c.loop-id.invariant.reads c.in_ok-found.ensures.reads

pub returns-in_default-clause-known : goal.returns-in_default-clause-known
returns-in_default-clause-known g c = λ stored objects own blocks held are tell there is.
    let before = c.loop-id.invariant.reads in
    let step = c.in_ok-found.ensures.reads in
    let hole = some_is (objects c.args.number) there (λ object. bytes_of c.in_ok-found.found ≡ object.array c.loop-id.id)
    (c.in_ok-found.ensures.value stored objects own blocks (before.keeps stored held) are (told_after _ _ _ _ before step tell)) is in
    inr (refl, (c.loop-id.id, c.loop-id-test.true, sym hole ∙ ap bytes_of c.in_default.is))

pub loop-id-preserved : goal.loop-id-preserved
loop-id-preserved g c =
    subst (λ (bytes : List ℕ). IsUnderway c.args.store.now c.get.new.store c.args.missing.now c.args.set.now c.args.birth c.args.number (c.loop-id.id + 1) bytes)
    (sym (c.in_ok-extend_from_slice.ensures.items ∙ ap (λ (block : List ℕ). c.loop-id.bytes.items ++ block) c.deref.ensures.value))
    (underway_goes_on c.args.store.now c.loop-id.store c.get.new.store c.args.missing.now c.args.set.now c.args.birth c.args.number c.loop-id.id c.loop-id.bytes.items c.in-Some.block.items c.loop-id.invariant
    c.in_ok-found.ensures.reads
    (λ stored objects own blocks held are tell.
    subst (λ (found : Option (Vec ℕ Global)). IsSomeAnd (objects c.args.number) (λ object. bytes_of found ≡ object.array c.loop-id.id)) c.in-Some.is
    (c.in_ok-found.ensures.value stored objects own blocks held are tell))
    (subst (λ (found : Option (Vec ℕ Global)). IsDataFound c.loop-id.store.spaces c.args.set.now c.args.birth c.args.number c.loop-id.id (bytes_of found)) c.in-Some.is c.in_ok-found.ensures.found))

pub returns-clause-value : goal.returns-clause-value
returns-clause-value g c =
    let at : c.loop-id.id ≡ c.args.count = omega (arith, c.loop-id-test.false, c.loop-id.auto.id-end) in
    λ stored objects own blocks held are tell there is.
    subst (λ count. IsFront there.array count c.loop-id.bytes.items) at (c.loop-id.invariant.read stored objects own blocks held are tell there is)

pub returns-in_err-extend_from_slice-clause-reads : goal.returns-in_err-extend_from_slice-clause-reads
returns-in_err-extend_from_slice-clause-reads g c = reads_on _ _ _ _ c.loop-id.invariant.reads c.in_ok-found.ensures.reads

pub returns-clause-found : goal.returns-clause-found
returns-clause-found g c =
    let at : c.loop-id.id ≡ c.args.count = omega (arith, c.loop-id-test.false, c.loop-id.auto.id-end) in
    subst (λ count. AreBlocksFound c.args.store.now.spaces c.args.set.now c.args.birth c.args.number count c.loop-id.bytes.items) at c.loop-id.invariant.found

pub returns-in_err-found-clause-refused : goal.returns-in_err-found-clause-refused
returns-in_err-found-clause-refused g c =
    passed_on _ _ _ c.from_residual.ensures.1
    (inr (inr (record {
      id = c.loop-id.id;
      below = c.loop-id-test.true;
      mid = c.loop-id.store;
      before = c.loop-id.invariant.reads;
      why = c.in_err-found.ensures.refused;
    })))

pub returns-in_default-clause-refused : goal.returns-in_default-clause-refused
returns-in_default-clause-refused g c =
    let hole = subst (λ (found : Option (Vec ℕ Global)). IsDataFound c.loop-id.store.spaces c.args.set.now c.args.birth c.args.number c.loop-id.id (bytes_of found)) c.in_default.is c.in_ok-found.ensures.found in
    inr (inl (
      refl,
      record {
        id = c.loop-id.id;
        below = c.loop-id-test.true;
        hole = subst (λ spaces. IsDataFound spaces c.args.set.now c.args.birth c.args.number c.loop-id.id None) (spaces_stay _ _ _ c.loop-id.invariant.reads) hole;
      },
    ))

pub returns-in_err-found-clause-caused : goal.returns-in_err-found-clause-caused
returns-in_err-found-clause-caused g c =
    passed_on _ _ _ c.from_residual.ensures.1 (caused_behind_reads _ _ _ _ _ c.loop-id.invariant.reads c.in_err-found.ensures.caused)
