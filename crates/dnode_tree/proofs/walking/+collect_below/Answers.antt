use Rattle.std.proofs.Common.{◌≡◌, ap, [], ◌∷◌, List, inl, inr, IsTrue, append-nil, suc, ◌-◌, refl, subst, sym, ◌∙◌, arith}
use Rattle.block_store.specs.Reading.{Asks}
use Rattle.block_store.proofs.Steps.{reads_on}
use Rattle.dnode_tree.proofs.FurtherReads.{told_before, told_after}
use Rattle.dnode_tree.proofs.Parts.{data_part, indirect_part}
use Rattle.dnode_tree.proofs.Collecting.{parts_below, part_at, collecting_begins, collecting_goes_on, collected_all}
use Rattle.dnode_tree.proofs.Refusing.{passed_on}
use Rattle.dnode_tree.specs.Tree.{property_of}
use Rattle.dnode_tree.specs.Ways.{AreReadAs}
use Rattle.block_pointer.specs.declared.block.Block.{Block}
use Rattle.block_pointer.specs.declared.pointer.BlockPtr.{BlockPtr}
use Rattle.block_store.specs.declared.block.Asked.{Asked}
use Rattle.block_store.specs.declared.refusal.Refusal.TheVariants.{BadPointer}
use Rattle.block_store.specs.Spaces.{VdevSpace}
use Rattle.dnode_tree.proofs.WayLemmas.{refused_data, refused_indirect}
use Rattle.dnode_tree.proofs.Walks.{HaveWalked, walked_hole, walked_data, none_walked, one_more_walked, all_walked, refused_here, refused_for_memory, refused_in_child}
use Rattle.block_store.proofs.Causes.{caused_behind_reads}
use Rattle.dnode_tree.proofs.walking.+collect_below.Goals as goal

pub returns-in_err-children-clause-known : goal.returns-in_err-children-clause-known
returns-in_err-children-clause-known g t c =
    let e : c.args.part.level ≡ suc (c.args.part.level - 1) = omega arith in
    passed_on _ _ _ c.from_residual-in_err-children.ensures.1
    (λ stored first array blocks held part tell.
    let there = indirect_part stored (property_of c.args.node.now) c.args.part.level _ first c.args.part.birth c.args.part.pointer c.in-Block.block array blocks e c.in-Block.is part in
    c.in_err-children.ensures.known stored there.bytes there.pointers held there.known there.spelled
    (subst (λ asked. Asks asked c.in-Block.block) (sym c.asked_at-asked.ensures) there.asks) tell)

pub loop-pointer-init : goal.loop-pointer-init
loop-pointer-init g t c = (collecting_begins _ _ _ _ _ _ _, none_walked _ _ _ _ _ _)

pub loop-pointer-preserved : goal.loop-pointer-preserved
loop-pointer-preserved g t c =
    let spaces = ap (λ store. store.spaces) c.loop-pointer.invariant.0.reads.rest in
    let items : List BlockPtr = c.pointers-pointer-items.result.now in
    let (more, added, walked) = c.in_ok-collect_below.ensures.found in (
      collecting_goes_on _ _ _ _ _ _ _ _ _ _ _ _ _ _ c.loop-pointer.invariant.0 c.loop-pointer-test.true refl c.in_ok-collect_below.ensures.reads
          c.in_ok-collect_below.ensures.blocks,
      one_more_walked c.read_indirect.new.store.spaces _ (property_of c.args.node.now) (c.args.part.level - 1) c.in-Block.block.birth items c.loop-pointer.pointer-index
          c.push.new.blocks.items c.loop-pointer.found.items c.collect_below.new.found.items more _ _ spaces c.loop-pointer.invariant.1 c.loop-pointer-test.true refl added walked,
    )

pub returns-in_err-collect_below-clause-reads : goal.returns-in_err-collect_below-clause-reads
returns-in_err-collect_below-clause-reads g t c =
    reads_on _ _ _ _ c.in_ok-children.ensures.reads (reads_on _ _ _ _ c.loop-pointer.invariant.0.reads c.in_err-collect_below.ensures.reads)

pub returns-in_err-collect_below-clause-known : goal.returns-in_err-collect_below-clause-known
returns-in_err-collect_below-clause-known g t c =
    let e : c.args.part.level ≡ suc (c.args.part.level - 1) = omega arith in
    let later = reads_on _ _ _ _ c.loop-pointer.invariant.0.reads c.in_err-collect_below.ensures.reads in
    let sooner = reads_on _ _ _ _ c.in_ok-children.ensures.reads c.loop-pointer.invariant.0.reads in
    passed_on _ _ _ c.from_residual-in_err-collect_below.ensures.1
    (λ stored first array blocks held part tell.
    let there = indirect_part stored (property_of c.args.node.now) c.args.part.level (c.args.part.level - 1) first c.args.part.birth c.args.part.pointer c.in-Block.block array blocks e c.in-Block.is part in
    let before = told_before _ _ _ _ c.in_ok-children.ensures.reads later tell in
    let read = c.pointers-pointer-items.ensures.value ∙ c.in_ok-children.ensures.value stored there.bytes there.pointers held there.known there.spelled before in
    let are = parts_below stored (property_of c.args.node.now) c.args.part.level (c.args.part.level - 1) first c.args.part.birth c.args.part.pointer c.in-Block.block array blocks _ e c.in-Block.is part read in
    c.in_err-collect_below.ensures.known stored _ array _ (sooner.keeps stored held)
    (part_at stored (property_of c.args.node.now) (c.args.part.level - 1) first _ _ array _ c.loop-pointer.pointer-index _ _ are c.loop-pointer-test.true refl)
    (told_after _ _ _ _ sooner c.in_err-collect_below.ensures.reads tell))

pub returns-clause-reads : goal.returns-clause-reads
returns-clause-reads g t c = reads_on _ _ _ _ c.in_ok-children.ensures.reads c.loop-pointer.invariant.0.reads

pub returns-clause-blocks : goal.returns-clause-blocks
returns-clause-blocks g t c =
    let e : c.args.part.level ≡ suc (c.args.part.level - 1) = omega arith in
    λ stored first array blocks held part tell.
    let there = indirect_part stored (property_of c.args.node.now) c.args.part.level (c.args.part.level - 1) first c.args.part.birth c.args.part.pointer c.in-Block.block array blocks e c.in-Block.is part in
    let before = told_before _ _ _ _ c.in_ok-children.ensures.reads c.loop-pointer.invariant.0.reads tell in
    let read = c.pointers-pointer-items.ensures.value ∙ c.in_ok-children.ensures.value stored there.bytes there.pointers held there.known there.spelled before in
    let are = parts_below stored (property_of c.args.node.now) c.args.part.level (c.args.part.level - 1) first c.args.part.birth c.args.part.pointer c.in-Block.block array blocks _ e c.in-Block.is part read in
    collected_all _ _ _ _ _ _ _ _ _ _ _ _ _ c.loop-pointer.invariant.0 c.loop-pointer-test.false c.in_ok-push.ensures.ok stored first array _
    (c.in_ok-children.ensures.reads.keeps stored held) are
    (told_after _ _ _ _ c.in_ok-children.ensures.reads c.loop-pointer.invariant.0.reads tell) there.blocks_are

pub returns-in_default-clause-found : goal.returns-in_default-clause-found
returns-in_default-clause-found g t c =
    ([], sym (append-nil c.args.found.now.items), walked_hole c.args.store.now.spaces (property_of c.args.node.now) c.args.part.level c.args.part.birth c.args.part.pointer c.in_default.is)

pub returns-in_err-push-clause-refused : goal.returns-in_err-push-clause-refused
returns-in_err-push-clause-refused g t c =
    passed_on _ _ _ c.from_residual.ensures.1
    (refused_for_memory c.args.store.now c.args.store.now c.args.missing.now (property_of c.args.node.now) c.args.part.level c.args.part.birth c.args.part.pointer)

pub returns-then-not-asks-clause-refused : goal.returns-then-not-asks-clause-refused
returns-then-not-asks-clause-refused g t c =
    refused_here c.args.store.now c.args.store.now c.args.missing.now (property_of c.args.node.now) c.args.part.level c.args.part.birth c.args.part.pointer BadPointer
    (refused_data c.args.store.now c.args.store.now c.args.missing.now (property_of c.args.node.now) c.args.part.level c.args.part.birth c.args.part.pointer 0 c.in-Block.block
    c.asked_at-asked.result BadPointer c.asked_at-asked.ensures c.in-Block.is
    (inr (inl (refl, λ readable. let test : IsTrue c.asks.result = c.asks.ensures.1 readable.asks in absurd cc))))

pub returns-in_err-children-clause-refused : goal.returns-in_err-children-clause-refused
returns-in_err-children-clause-refused g t c =
    passed_on _ _ _ c.from_residual-in_err-children.ensures.1
    (refused_here c.args.store.now c.read_indirect.new.store c.args.missing.now (property_of c.args.node.now) c.args.part.level c.args.part.birth c.args.part.pointer _
    (refused_indirect c.args.store.now c.read_indirect.new.store c.args.missing.now (property_of c.args.node.now) c.args.part.level c.args.part.birth c.args.part.pointer 0
    c.in-Block.block c.asked_at-asked.result _ (omega arith) c.asked_at-asked.ensures c.in-Block.is c.in_err-children.ensures.refused))

read_there : (spaces : List VdevSpace) (asked other : Asked) (block : Block) (found items : List BlockPtr) → asked ≡ other → items ≡ found → AreReadAs spaces asked block found → AreReadAs spaces other block items
read_there spaces asked other block found items e same read = subst (λ a. AreReadAs spaces a block items) e (subst (λ x. AreReadAs spaces asked block x) (sym same) read)

pub returns-in_err-collect_below-clause-refused : goal.returns-in_err-collect_below-clause-refused
returns-in_err-collect_below-clause-refused g t c =
    let e : c.args.part.level ≡ suc (c.args.part.level - 1) = omega arith in
    let items : List BlockPtr = c.pointers-pointer-items.result.now in
    let read = read_there c.args.store.now.spaces _ _ c.in-Block.block _ items c.asked_at-asked.ensures c.pointers-pointer-items.ensures.value c.in_ok-children.ensures.read in
    passed_on _ _ _ c.from_residual-in_err-collect_below.ensures.1
    (refused_in_child c.args.store.now c.loop-pointer.store c.collect_below.new.store c.args.missing.now (property_of c.args.node.now) c.args.part.level (c.args.part.level - 1) c.args.part.birth c.args.part.pointer
    c.in-Block.block items c.loop-pointer.pointer-index _ _ e c.in-Block.is read c.loop-pointer-test.true refl
    (reads_on _ _ _ _ c.in_ok-children.ensures.reads c.loop-pointer.invariant.0.reads) _ c.in_err-collect_below.ensures.refused)

pub returns-clause-found : goal.returns-clause-found
returns-clause-found g t c =
    let e : c.args.part.level ≡ suc (c.args.part.level - 1) = omega arith in
    let items : List BlockPtr = c.pointers-pointer-items.result.now in
    let read = read_there c.args.store.now.spaces _ _ c.in-Block.block _ items c.asked_at-asked.ensures c.pointers-pointer-items.ensures.value c.in_ok-children.ensures.read in
    let spaces = ap (λ store. store.spaces) c.in_ok-children.ensures.reads.rest in
    let walked = subst (λ s. HaveWalked s (property_of c.args.node.now) (c.args.part.level - 1) c.in-Block.block.birth items c.loop-pointer.pointer-index c.push.new.blocks.items c.loop-pointer.found.items)
    spaces c.loop-pointer.invariant.1 in
    let (blocks, are, added) = all_walked c.args.store.now.spaces (property_of c.args.node.now) c.args.part.level (c.args.part.level - 1) c.args.part.birth c.args.part.pointer c.in-Block.block items
    c.loop-pointer.pointer-index c.args.found.now.items c.push.new.blocks.items c.loop-pointer.found.items e c.in-Block.is read walked c.loop-pointer-test.false c.loop-pointer.auto.pointer-index-end
    c.in_ok-push.ensures.ok in
    (blocks, added, are)

pub returns-then-not-asks-clause-known : goal.returns-then-not-asks-clause-known
returns-then-not-asks-clause-known g t c = λ stored first array blocks held part tell.
    let there = data_part stored (property_of c.args.node.now) c.args.part.level 0 first c.args.part.birth c.args.part.pointer c.in-Block.block array blocks c.if-part-eq0.true c.in-Block.is part in
    let test : IsTrue c.asks.result = c.asks.ensures.1 (subst (λ asked. Asks asked c.in-Block.block) (sym c.asked_at-asked.ensures) there.1.asks) in
    absurd cc

pub returns-then-part-eq0-clause-found : goal.returns-then-part-eq0-clause-found
returns-then-part-eq0-clause-found g t c =
    let test : IsTrue c.asks.result = c.if-not-asks.false in (
      c.in-Block.block ∷ [],
      c.in_ok-push.ensures.ok,
      walked_data c.args.store.now.spaces (property_of c.args.node.now) c.args.part.level c.args.part.birth c.args.part.pointer c.in-Block.block c.if-part-eq0.true c.in-Block.is
          (subst (λ asked. Asks asked c.in-Block.block) c.asked_at-asked.ensures (c.asks.ensures.0 test)),
    )

pub returns-in_err-collect_below-clause-caused : goal.returns-in_err-collect_below-clause-caused
returns-in_err-collect_below-clause-caused g t c =
    passed_on _ _ _ c.from_residual-in_err-collect_below.ensures.1
    (caused_behind_reads _ _ _ _ _ (reads_on _ _ _ _ c.in_ok-children.ensures.reads c.loop-pointer.invariant.0.reads) c.in_err-collect_below.ensures.caused)
