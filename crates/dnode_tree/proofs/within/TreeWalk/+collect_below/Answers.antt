use Rattle.std.proofs.Common.{◌≡◌, ◌++◌, true, false, ap, [], ◌∷◌, List, inl, inr, IsTrue, append-nil, suc, ◌-◌, refl, subst, sym, ◌∙◌, arith}
use Rattle.block_store.specs.Reading.{Asks}
use Rattle.block_store.proofs.Steps.{reads_on}
use Rattle.block_pointer.specs.declared.block.Block.{Block}
use Rattle.block_pointer.specs.declared.pointer.BlockPtr.{BlockPtr}
use Rattle.block_store.specs.declared.block.Asked.{Asked}
use Rattle.block_store.specs.Spaces.{VdevSpace}
use Rattle.dnode_tree.proofs.Collecting.{parts_below, part_at}
use Rattle.dnode_tree.proofs.Counts.{data_counted, indirect_counted}
use Rattle.dnode_tree.proofs.FurtherReads.{told_before, told_after}
use Rattle.dnode_tree.proofs.Parts.{data_part, indirect_part}
use Rattle.dnode_tree.proofs.Picking.{picking_begins, picking_goes_on, picked_all, picked_only, picked_enough, picked_root, nothing_below, nothing_in_hole}
use Rattle.dnode_tree.proofs.Refusing.{passed_on}
use Rattle.dnode_tree.proofs.WalksWhere.{HaveWalkedWhere, seen_hole, left_out, seen_block, walked_hole, walked_data, none_walked, one_more_walked, all_walked, refused_for_memory, refused_data, refused_indirect, refused_in_child}
use Rattle.dnode_tree.specs.Tree.{property_of}
use Rattle.dnode_tree.specs.Ways.{AreReadAs}
use Rattle.dnode_tree.specs.Younger.{is_picked, seen}
use Rattle.block_store.proofs.Causes.{caused_behind_reads}
use Rattle.dnode_tree.proofs.within.TreeWalk.+collect_below.Goals as goal

read_there : (spaces : List VdevSpace) (asked other : Asked) (block : Block) (found items : List BlockPtr) → asked ≡ other → items ≡ found → AreReadAs spaces asked block found → AreReadAs spaces other block items
read_there spaces asked other block found items e same read = subst (λ a. AreReadAs spaces a block items) e (subst (λ x. AreReadAs spaces asked block x) (sym same) read)

-- ---- the loop

pub loop-pointer-init : goal.loop-pointer-init
loop-pointer-init g t c = record {
  picking = picking_begins _ _ _ _ _ _ _ _;
  walked = none_walked _ _ _ _ _ _ _;
  count = refl;
  fewer = omega arith;
}

pub loop-pointer-preserved : goal.loop-pointer-preserved
loop-pointer-preserved g t c =
    let spaces = ap (λ store. store.spaces) c.loop-pointer.invariant.picking.reads.rest in
    let items : List BlockPtr = c.pointers-pointer-items.result.now in
    let (more, added, walked) = c.in_ok-collect_below.ensures.found in record {
      picking = picking_goes_on _ _ _ _ _ _ _ _ _ _ _ _ _ _ _ c.loop-pointer.invariant.picking c.loop-pointer-test.true refl c.in_ok-collect_below.ensures.reads
          c.in_ok-collect_below.ensures.blocks;
      walked = one_more_walked (is_picked c.args.self.since) c.read_indirect.new.store.spaces _ (property_of c.args.self.node.now) (c.args.part.level - 1) c.in-Block.block.birth items c.loop-pointer.pointer-index
          c.push.new.blocks.items c.loop-pointer.found.items c.collect_below.new.found.items more _ _ spaces c.loop-pointer.invariant.walked c.loop-pointer-test.true refl added walked;
      count = c.loop-pointer.invariant.count ∙ c.in_ok-collect_below.ensures.count;
      fewer = omega (arith, c.loop-pointer.invariant.fewer, c.in_ok-collect_below.ensures.fewer);
    }

-- ---- what is read

pub returns-in_err-collect_below-clause-reads : goal.returns-in_err-collect_below-clause-reads
returns-in_err-collect_below-clause-reads g t c =
    reads_on _ _ _ _ c.in_ok-children.ensures.reads (reads_on _ _ _ _ c.loop-pointer.invariant.picking.reads c.in_err-collect_below.ensures.reads)

pub returns-clause-reads : goal.returns-clause-reads
returns-clause-reads g t c = reads_on _ _ _ _ c.in_ok-children.ensures.reads c.loop-pointer.invariant.picking.reads

-- ---- at a hole

pub returns-in_default-clause-found : goal.returns-in_default-clause-found
returns-in_default-clause-found g t c =
    let is = seen_hole (is_picked c.args.self.since) c.args.part.pointer c.in_default.is in (
      [],
      sym (append-nil c.args.found.now.items),
      walked_hole (is_picked c.args.self.since) c.args.store.now.spaces (property_of c.args.self.node.now) c.args.part.level c.args.part.birth (seen (is_picked c.args.self.since) c.args.part.pointer) is,
    )

pub returns-in_default-clause-blocks : goal.returns-in_default-clause-blocks
returns-in_default-clause-blocks g t c = λ stored first array blocks held part tell.
    sym (ap (λ more. c.args.found.now.items ++ more)
    (nothing_in_hole (is_picked c.args.self.since) stored (property_of c.args.self.node.now) c.args.part.level first c.args.part.birth c.args.part.pointer array blocks c.in_default.is part)
    ∙ append-nil c.args.found.now.items)

-- ---- at a block that isn't looked for

pub returns-then-not-looks_for-clause-found : goal.returns-then-not-looks_for-clause-found
returns-then-not-looks_for-clause-found g t c =
    let fails : is_picked c.args.self.since c.in-Block.block ≡ false = sym c.looks_for.ensures ∙ c.if-not-looks_for.true in
    let is = left_out (is_picked c.args.self.since) c.args.part.pointer c.in-Block.block c.in-Block.is fails in (
      [],
      sym (append-nil c.args.found.now.items),
      walked_hole (is_picked c.args.self.since) c.args.store.now.spaces (property_of c.args.self.node.now) c.args.part.level c.args.part.birth (seen (is_picked c.args.self.since) c.args.part.pointer) is,
    )

pub returns-then-not-looks_for-clause-blocks : goal.returns-then-not-looks_for-clause-blocks
returns-then-not-looks_for-clause-blocks g t c = λ stored first array blocks held part tell.
    let fails : is_picked c.args.self.since c.in-Block.block ≡ false = sym c.looks_for.ensures ∙ c.if-not-looks_for.true in
    sym (ap (λ more. c.args.found.now.items ++ more)
    (nothing_below c.args.self.since stored (property_of c.args.self.node.now) c.args.part.level first c.args.part.birth c.args.part.pointer c.in-Block.block array blocks c.in-Block.is fails part)
    ∙ append-nil c.args.found.now.items)

-- ---- refusals

pub returns-in_err-push-clause-refused : goal.returns-in_err-push-clause-refused
returns-in_err-push-clause-refused g t c =
    passed_on _ _ _ c.from_residual.ensures.1
    (inl (refused_for_memory (is_picked c.args.self.since) c.args.store.now c.args.store.now c.args.self.missing.now (property_of c.args.self.node.now) c.args.part.level c.args.part.birth c.args.part.pointer))

pub returns-then-not-asks-clause-refused : goal.returns-then-not-asks-clause-refused
returns-then-not-asks-clause-refused g t c =
    let passes : is_picked c.args.self.since c.in-Block.block ≡ true = sym c.looks_for.ensures ∙ c.if-not-looks_for.false in
    inl
    (refused_data (is_picked c.args.self.since) c.args.store.now c.args.store.now c.args.self.missing.now (property_of c.args.self.node.now) c.args.part.level c.args.part.birth c.args.part.pointer c.in-Block.block
    c.asked_at-asked.result c.asked_at-asked.ensures (seen_block (is_picked c.args.self.since) c.args.part.pointer c.in-Block.block c.in-Block.is passes)
    (λ readable. let test : IsTrue c.asks.result = c.asks.ensures.1 readable.asks in absurd cc))

pub returns-in_err-children-clause-refused : goal.returns-in_err-children-clause-refused
returns-in_err-children-clause-refused g t c =
    let passes : is_picked c.args.self.since c.in-Block.block ≡ true = sym c.looks_for.ensures ∙ c.if-not-looks_for.false in
    passed_on _ _ _ c.from_residual-in_err-children.ensures.1
    (inl
    (refused_indirect (is_picked c.args.self.since) c.args.store.now c.read_indirect.new.store c.args.self.missing.now (property_of c.args.self.node.now) c.args.part.level c.args.part.birth c.args.part.pointer
    c.in-Block.block c.asked_at-asked.result _ (omega arith) c.asked_at-asked.ensures (seen_block (is_picked c.args.self.since) c.args.part.pointer c.in-Block.block c.in-Block.is passes)
    c.in_err-children.ensures.refused))

pub returns-in_err-collect_below-clause-refused : goal.returns-in_err-collect_below-clause-refused
returns-in_err-collect_below-clause-refused g t c =
    let passes : is_picked c.args.self.since c.in-Block.block ≡ true = sym c.looks_for.ensures ∙ c.if-not-looks_for.false in
    let e : c.args.part.level ≡ suc (c.args.part.level - 1) = omega arith in
    let items : List BlockPtr = c.pointers-pointer-items.result.now in
    let read = read_there c.args.store.now.spaces _ _ c.in-Block.block _ items c.asked_at-asked.ensures c.pointers-pointer-items.ensures.value c.in_ok-children.ensures.read in
    passed_on _ _ _ c.from_residual-in_err-collect_below.ensures.1
    (elim c.in_err-collect_below.ensures.refused [
      | inl below ↦ inl
          (refused_in_child (is_picked c.args.self.since) c.args.store.now c.loop-pointer.store c.collect_below.new.store c.args.self.missing.now (property_of c.args.self.node.now) c.args.part.level (c.args.part.level - 1) c.args.part.birth c.args.part.pointer
          c.in-Block.block items c.loop-pointer.pointer-index _ _ e (seen_block (is_picked c.args.self.since) c.args.part.pointer c.in-Block.block c.in-Block.is passes) read c.loop-pointer-test.true refl
          (reads_on _ _ _ _ c.in_ok-children.ensures.reads c.loop-pointer.invariant.picking.reads) _ below)
      | inr none ↦ inr none
    ])

-- ---- what was walked

pub returns-clause-found : goal.returns-clause-found
returns-clause-found g t c =
    let passes : is_picked c.args.self.since c.in-Block.block ≡ true = sym c.looks_for.ensures ∙ c.if-not-looks_for.false in
    let e : c.args.part.level ≡ suc (c.args.part.level - 1) = omega arith in
    let items : List BlockPtr = c.pointers-pointer-items.result.now in
    let read = read_there c.args.store.now.spaces _ _ c.in-Block.block _ items c.asked_at-asked.ensures c.pointers-pointer-items.ensures.value c.in_ok-children.ensures.read in
    let spaces = ap (λ store. store.spaces) c.in_ok-children.ensures.reads.rest in
    let walked = subst (λ s. HaveWalkedWhere (is_picked c.args.self.since) s (property_of c.args.self.node.now) (c.args.part.level - 1) c.in-Block.block.birth items c.loop-pointer.pointer-index c.push.new.blocks.items c.loop-pointer.found.items)
    spaces c.loop-pointer.invariant.walked in
    let (blocks, are, added) = all_walked (is_picked c.args.self.since) c.args.store.now.spaces (property_of c.args.self.node.now) c.args.part.level (c.args.part.level - 1) c.args.part.birth (seen (is_picked c.args.self.since) c.args.part.pointer) c.in-Block.block items
    c.loop-pointer.pointer-index c.args.found.now.items c.push.new.blocks.items c.loop-pointer.found.items e (seen_block (is_picked c.args.self.since) c.args.part.pointer c.in-Block.block c.in-Block.is passes) read walked
    c.loop-pointer-test.false c.loop-pointer.auto.pointer-index-end c.in_ok-push.ensures.ok in
    (blocks, added, are)

pub returns-then-part-eq0-clause-found : goal.returns-then-part-eq0-clause-found
returns-then-part-eq0-clause-found g t c =
    let passes : is_picked c.args.self.since c.in-Block.block ≡ true = sym c.looks_for.ensures ∙ c.if-not-looks_for.false in
    let test : IsTrue c.asks.result = c.if-not-asks.false in (
      c.in-Block.block ∷ [],
      c.in_ok-push.ensures.ok,
      walked_data (is_picked c.args.self.since) c.args.store.now.spaces (property_of c.args.self.node.now) c.args.part.level c.args.part.birth (seen (is_picked c.args.self.since) c.args.part.pointer) c.in-Block.block c.if-part-eq0.true
          (seen_block (is_picked c.args.self.since) c.args.part.pointer c.in-Block.block c.in-Block.is passes)
          (subst (λ asked. Asks asked c.in-Block.block) c.asked_at-asked.ensures (c.asks.ensures.0 test)),
    )

-- ---- how many were read

pub returns-then-part-eq0-clause-count : goal.returns-then-part-eq0-clause-count
returns-then-part-eq0-clause-count g t c =
    let test : IsTrue c.asks.result = c.if-not-asks.false in
    let asks : Asks c.asked_at-asked.result c.in-Block.block = c.asks.ensures.0 test in
    omega (
      arith,
      data_counted c.args.self.node.now c.args.part.level c.args.part.birth c.in-Block.block c.asked_at-asked.result c.args.found.now.items c.push.new.blocks.items
          c.if-part-eq0.true c.asked_at-asked.ensures asks.property c.in_ok-push.ensures.ok,
    )

pub returns-clause-count : goal.returns-clause-count
returns-clause-count g t c =
    omega (
      arith,
      c.loop-pointer.invariant.count,
      indirect_counted c.args.self.node.now c.args.part.level c.args.part.birth c.in-Block.block c.asked_at-asked.result c.args.found.now.items c.push.new.blocks.items
          (omega arith) c.asked_at-asked.ensures c.in_ok-children.ensures.asks.property c.in_ok-push.ensures.ok,
    )

-- ---- the blocks of a whole tree

pub returns-then-part-eq0-clause-blocks : goal.returns-then-part-eq0-clause-blocks
returns-then-part-eq0-clause-blocks g t c = λ stored first array blocks held part tell.
    let passes : is_picked c.args.self.since c.in-Block.block ≡ true = sym c.looks_for.ensures ∙ c.if-not-looks_for.false in
    let there = data_part stored (property_of c.args.self.node.now) c.args.part.level 0 first c.args.part.birth c.args.part.pointer c.in-Block.block array blocks c.if-part-eq0.true c.in-Block.is part in
    c.in_ok-push.ensures.ok
    ∙ sym (ap (λ more. c.args.found.now.items ++ more) (picked_only (is_picked c.args.self.since) c.in-Block.block blocks passes there.3))

pub returns-clause-blocks : goal.returns-clause-blocks
returns-clause-blocks g t c =
    let passes : is_picked c.args.self.since c.in-Block.block ≡ true = sym c.looks_for.ensures ∙ c.if-not-looks_for.false in
    let e : c.args.part.level ≡ suc (c.args.part.level - 1) = omega arith in
    λ stored first array blocks held part tell.
    let there = indirect_part stored (property_of c.args.self.node.now) c.args.part.level (c.args.part.level - 1) first c.args.part.birth c.args.part.pointer c.in-Block.block array blocks e c.in-Block.is part in
    let before = told_before _ _ _ _ c.in_ok-children.ensures.reads c.loop-pointer.invariant.picking.reads tell in
    let read = c.pointers-pointer-items.ensures.value ∙ c.in_ok-children.ensures.value stored there.bytes there.pointers held there.known there.spelled before in
    let are = parts_below stored (property_of c.args.self.node.now) c.args.part.level (c.args.part.level - 1) first c.args.part.birth c.args.part.pointer c.in-Block.block array blocks _ e c.in-Block.is part read in
    picked_all _ _ _ _ _ _ _ _ _ _ _ _ _ _ c.loop-pointer.invariant.picking c.loop-pointer-test.false c.in_ok-push.ensures.ok passes stored first array _
    (c.in_ok-children.ensures.reads.keeps stored held) are
    (told_after _ _ _ _ c.in_ok-children.ensures.reads c.loop-pointer.invariant.picking.reads tell) there.blocks_are

-- ---- a whole tree is walked

pub returns-then-not-asks-clause-known : goal.returns-then-not-asks-clause-known
returns-then-not-asks-clause-known g t c = λ stored first array blocks held part enough tell.
    let there = data_part stored (property_of c.args.self.node.now) c.args.part.level 0 first c.args.part.birth c.args.part.pointer c.in-Block.block array blocks c.if-part-eq0.true c.in-Block.is part in
    let test : IsTrue c.asks.result = c.asks.ensures.1 (subst (λ asked. Asks asked c.in-Block.block) (sym c.asked_at-asked.ensures) there.1.asks) in
    absurd cc

pub returns-then-left-eq0-clause-known : goal.returns-then-left-eq0-clause-known
returns-then-left-eq0-clause-known g t c = λ stored first array blocks held part enough tell.
    let passes : is_picked c.args.self.since c.in-Block.block ≡ true = sym c.looks_for.ensures ∙ c.if-not-looks_for.false in
    let e : c.args.part.level ≡ suc (c.args.part.level - 1) = omega arith in
    let there = indirect_part stored (property_of c.args.self.node.now) c.args.part.level (c.args.part.level - 1) first c.args.part.birth c.args.part.pointer c.in-Block.block array blocks e c.in-Block.is part in
    let some = picked_root (is_picked c.args.self.since) c.args.self.node.now c.args.part.level c.args.part.birth c.in-Block.block blocks there.parts (omega arith) there.asks passes there.blocks_are in
    absurd (omega (arith, some, enough))

pub returns-in_err-children-clause-known : goal.returns-in_err-children-clause-known
returns-in_err-children-clause-known g t c =
    let e : c.args.part.level ≡ suc (c.args.part.level - 1) = omega arith in
    passed_on _ _ _ c.from_residual-in_err-children.ensures.1
    (λ stored first array blocks held part enough tell.
    let there = indirect_part stored (property_of c.args.self.node.now) c.args.part.level _ first c.args.part.birth c.args.part.pointer c.in-Block.block array blocks e c.in-Block.is part in
    c.in_err-children.ensures.known stored there.bytes there.pointers held there.known there.spelled
    (subst (λ asked. Asks asked c.in-Block.block) (sym c.asked_at-asked.ensures) there.asks) tell)

pub returns-in_err-collect_below-clause-known : goal.returns-in_err-collect_below-clause-known
returns-in_err-collect_below-clause-known g t c =
    let passes : is_picked c.args.self.since c.in-Block.block ≡ true = sym c.looks_for.ensures ∙ c.if-not-looks_for.false in
    let e : c.args.part.level ≡ suc (c.args.part.level - 1) = omega arith in
    let later = reads_on _ _ _ _ c.loop-pointer.invariant.picking.reads c.in_err-collect_below.ensures.reads in
    let sooner = reads_on _ _ _ _ c.in_ok-children.ensures.reads c.loop-pointer.invariant.picking.reads in
    passed_on _ _ _ c.from_residual-in_err-collect_below.ensures.1
    (λ stored first array blocks held part enough tell.
    let there = indirect_part stored (property_of c.args.self.node.now) c.args.part.level (c.args.part.level - 1) first c.args.part.birth c.args.part.pointer c.in-Block.block array blocks e c.in-Block.is part in
    let before = told_before _ _ _ _ c.in_ok-children.ensures.reads later tell in
    let read = c.pointers-pointer-items.ensures.value ∙ c.in_ok-children.ensures.value stored there.bytes there.pointers held there.known there.spelled before in
    let are = parts_below stored (property_of c.args.self.node.now) c.args.part.level (c.args.part.level - 1) first c.args.part.birth c.args.part.pointer c.in-Block.block array blocks _ e c.in-Block.is part read in
    c.in_err-collect_below.ensures.known stored _ array _ (sooner.keeps stored held)
    (part_at stored (property_of c.args.self.node.now) (c.args.part.level - 1) first _ _ array _ c.loop-pointer.pointer-index _ _ are c.loop-pointer-test.true refl)
    (picked_enough (is_picked c.args.self.since) c.args.self.node.now c.args.part.level c.args.part.birth c.in-Block.block blocks there.parts c.loop-pointer.pointer-index c.push.new.blocks.items c.loop-pointer.found.items
    c.args.left.now (c.args.left.now - 1) c.loop-pointer.left (omega arith) there.asks passes there.blocks_are (omega (arith, c.loop-pointer-test.true, are.pointer_count, are.count))
    (c.loop-pointer.invariant.picking.so_far stored first array there.parts (c.in_ok-children.ensures.reads.keeps stored held) are
    (told_after _ _ _ _ c.in_ok-children.ensures.reads c.loop-pointer.invariant.picking.reads (told_before _ _ _ _ sooner c.in_err-collect_below.ensures.reads tell)))
    c.loop-pointer.invariant.count (omega arith) enough)
    (told_after _ _ _ _ sooner c.in_err-collect_below.ensures.reads tell))

pub returns-in_err-collect_below-clause-caused : goal.returns-in_err-collect_below-clause-caused
returns-in_err-collect_below-clause-caused g t c =
    passed_on _ _ _ c.from_residual-in_err-collect_below.ensures.1
    (caused_behind_reads _ _ _ _ _ (reads_on _ _ _ _ c.in_ok-children.ensures.reads c.loop-pointer.invariant.picking.reads) c.in_err-collect_below.ensures.caused)
