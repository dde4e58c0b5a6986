use Rattle.std.proofs.Common.{◌≡◌, inl, suc, ◌+◌, ◌-◌, ◌*◌, ◌/◌, ◌%◌, ◌^◌, ◌<◌, ap, sym, subst, ◌∙◌, arith, refl}
use Rattle.std.proofs.lemmas.Result.{IfOk-weaker, IfErr-weaker}
use Rattle.block_store.specs.Reading.{Asks, IsReadAs}
use Rattle.block_store.proofs.Steps.{reads_on}
use Rattle.dnode_tree.proofs.FurtherReads.{told_before, told_after}
use Rattle.std.specs.Prelude.{IfSome}
use Rattle.dnode_tree.specs.declared.reading.DataBlock.{DataBlock}
use Rattle.dnode_tree.proofs.Births.{births_below, child_births}
use Rattle.dnode_tree.proofs.Parts.{data_part, indirect_part, child_part, child_low, child_place}
use Rattle.dnode_tree.proofs.Refusing.{passed_on}
use Rattle.dnode_tree.specs.Subtree.{asked_of}
use Rattle.dnode_tree.specs.Tree.{property_of}
use Rattle.dnode_tree.specs.Ways.{reached, AreReadAs, IsBlockFoundBelow}
use Rattle.dnode_tree.proofs.WayLemmas.{hole_found, block_found, found_down, refused_data, refused_indirect, refused_down}
use Rattle.block_store.proofs.Causes.{caused_behind_reads}
use Rattle.dnode_tree.proofs.reading.+get_below.Goals as goal

pub returns-in_err-bytes-clause-known : goal.returns-in_err-bytes-clause-known
returns-in_err-bytes-clause-known g t c =
    passed_on _ _ _ c.from_residual.ensures.1
    (λ stored first array blocks held part tell.
    let there = data_part stored (property_of c.args.node.now) c.args.part.level 0 first c.args.part.birth c.args.part.pointer c.in-Block.block array blocks c.if-part-eq0.true c.in-Block.is part in
    c.in_err-bytes.ensures.known stored there.0 held there.1.known (subst (λ asked. Asks asked c.in-Block.block) (sym c.asked_at-asked.ensures) there.1.asks) tell)

pub returns-in_err-children-clause-known : goal.returns-in_err-children-clause-known
returns-in_err-children-clause-known g t c =
    let e : c.args.part.level ≡ suc (c.args.part.level - 1) = omega arith in
    passed_on _ _ _ c.from_residual-in_err-children.ensures.1
    (λ stored first array blocks held part tell.
    let there = indirect_part stored (property_of c.args.node.now) c.args.part.level _ first c.args.part.birth c.args.part.pointer c.in-Block.block array blocks e c.in-Block.is part in
    c.in_err-children.ensures.known stored there.bytes there.pointers held there.known there.spelled
    (subst (λ asked. Asks asked c.in-Block.block) (sym c.asked_at-asked.ensures) there.asks) tell)

pub returns-clause-reads : goal.returns-clause-reads
returns-clause-reads g t c = reads_on _ _ _ _ c.in_ok-children.ensures.reads c.get_below.ensures.reads

pub returns-clause-value : goal.returns-clause-value
returns-clause-value g t c =
    let e : c.args.part.level ≡ suc (c.args.part.level - 1) = omega arith in
    let low : c.args.place / c.span-span.result < 128 = child_low _ _ _ _ e c.span-span.ensures.value c.span-span.ensures.some c.requires.within in
    IfOk-weaker c.get_below.result _ _
    (λ found is stored first array blocks held part tell.
    let there = indirect_part stored (property_of c.args.node.now) c.args.part.level (c.args.part.level - 1) first c.args.part.birth c.args.part.pointer c.in-Block.block array blocks e c.in-Block.is part in
    let before = told_before _ _ _ _ c.in_ok-children.ensures.reads c.get_below.ensures.reads tell in
    let child = child_part stored (property_of c.args.node.now) c.args.part.level (c.args.part.level - 1) first c.args.part.birth c.args.part.pointer c.in-Block.block array blocks
    _ c.get.result _ e c.in-Block.is part (c.in_ok-children.ensures.value stored there.bytes there.pointers held there.known there.spelled before) c.get.ensures.value low in
    is stored (first + c.args.place / c.span-span.result * 128 ^ (c.args.part.level - 1)) array child.0 (c.in_ok-children.ensures.reads.keeps stored held) child.1
    (told_after _ _ _ _ c.in_ok-children.ensures.reads c.get_below.ensures.reads tell)
    ∙ ap array (child_place first _ _ _ c.span-span.ensures.value c.span-span.ensures.some))
    c.get_below.ensures.value

pub returns-clause-known : goal.returns-clause-known
returns-clause-known g t c =
    let e : c.args.part.level ≡ suc (c.args.part.level - 1) = omega arith in
    let low : c.args.place / c.span-span.result < 128 = child_low _ _ _ _ e c.span-span.ensures.value c.span-span.ensures.some c.requires.within in
    IfErr-weaker c.get_below.result _ _
    (λ refusal is stored first array blocks held part tell.
    let there = indirect_part stored (property_of c.args.node.now) c.args.part.level (c.args.part.level - 1) first c.args.part.birth c.args.part.pointer c.in-Block.block array blocks e c.in-Block.is part in
    let before = told_before _ _ _ _ c.in_ok-children.ensures.reads c.get_below.ensures.reads tell in
    let child = child_part stored (property_of c.args.node.now) c.args.part.level (c.args.part.level - 1) first c.args.part.birth c.args.part.pointer c.in-Block.block array blocks
    _ c.get.result _ e c.in-Block.is part (c.in_ok-children.ensures.value stored there.bytes there.pointers held there.known there.spelled before) c.get.ensures.value low in
    is stored (first + c.args.place / c.span-span.result * 128 ^ (c.args.part.level - 1)) array child.0 (c.in_ok-children.ensures.reads.keeps stored held) child.1
    (told_after _ _ _ _ c.in_ok-children.ensures.reads c.get_below.ensures.reads tell))
    c.get_below.ensures.known

pub returns-in_default-clause-found : goal.returns-in_default-clause-found
returns-in_default-clause-found g t c =
    hole_found c.args.store.now.spaces (property_of c.args.node.now) c.args.part.level c.args.part.birth c.args.part.pointer c.args.place c.in_default.is

pub returns-in_err-bytes-clause-refused : goal.returns-in_err-bytes-clause-refused
returns-in_err-bytes-clause-refused g t c =
    passed_on _ _ _ c.from_residual.ensures.1
    (refused_data c.args.store.now c.read.new.self c.args.missing.now (property_of c.args.node.now) c.args.part.level c.args.part.birth c.args.part.pointer c.args.place
    c.in-Block.block c.asked_at-asked.result _ c.asked_at-asked.ensures c.in-Block.is c.in_err-bytes.ensures.refused)

pub returns-then-part-eq0-clause-found : goal.returns-then-part-eq0-clause-found
returns-then-part-eq0-clause-found g t c =
    let read : IsReadAs c.args.store.now.spaces c.asked_at-asked.result c.in-Block.block c.in_ok-bytes.bytes.items =
    record { readable = c.in_ok-bytes.ensures.readable; size = c.in_ok-bytes.ensures.size; digest = c.in_ok-bytes.ensures.digest } in
    block_found c.args.store.now.spaces (property_of c.args.node.now) c.args.part.level c.args.part.birth c.args.part.pointer c.args.place c.in-Block.block
    (record { bytes = c.in_ok-bytes.bytes; birth = c.in-Block.block.birth })
    c.if-part-eq0.true c.in-Block.is
    (subst (λ asked. IsReadAs c.args.store.now.spaces asked c.in-Block.block c.in_ok-bytes.bytes.items) c.asked_at-asked.ensures read) refl

pub returns-in_err-children-clause-refused : goal.returns-in_err-children-clause-refused
returns-in_err-children-clause-refused g t c =
    passed_on _ _ _ c.from_residual-in_err-children.ensures.1
    (refused_indirect c.args.store.now c.read_indirect.new.store c.args.missing.now (property_of c.args.node.now) c.args.part.level c.args.part.birth c.args.part.pointer c.args.place
    c.in-Block.block c.asked_at-asked.result _ (omega arith) c.asked_at-asked.ensures c.in-Block.is c.in_err-children.ensures.refused)

pub returns-clause-found : goal.returns-clause-found
returns-clause-found g t c =
    let e : c.args.part.level ≡ suc (c.args.part.level - 1) = omega arith in
    let low : c.args.place / c.span-span.result < 128 = child_low _ _ _ _ e c.span-span.ensures.value c.span-span.ensures.some c.requires.within in
    let read : AreReadAs c.args.store.now.spaces (asked_of (property_of c.args.node.now c.args.part.level) c.args.part.birth) c.in-Block.block c.in_ok-children.children =
    subst (λ asked. AreReadAs c.args.store.now.spaces asked c.in-Block.block c.in_ok-children.children) c.asked_at-asked.ensures c.in_ok-children.ensures.read in
    let spaces = ap (λ store. store.spaces) c.in_ok-children.ensures.reads.rest in
    IfOk-weaker c.get_below.result _ _
    (λ found below.
    found_down c.args.store.now.spaces (property_of c.args.node.now) c.args.part.level (c.args.part.level - 1) c.args.part.birth c.args.part.pointer c.args.place c.span-span.result
    c.in-Block.block c.in_ok-children.children c.get.result e c.in-Block.is read c.span-span.ensures.value low c.get.ensures.value found
    (subst (λ s. IsBlockFoundBelow s (property_of c.args.node.now) (reached (c.args.part.level - 1) c.get.result c.in-Block.block.birth) (c.args.place % c.span-span.result) found) spaces below))
    c.get_below.ensures.found

pub returns-clause-refused : goal.returns-clause-refused
returns-clause-refused g t c =
    let e : c.args.part.level ≡ suc (c.args.part.level - 1) = omega arith in
    let low : c.args.place / c.span-span.result < 128 = child_low _ _ _ _ e c.span-span.ensures.value c.span-span.ensures.some c.requires.within in
    let read : AreReadAs c.args.store.now.spaces (asked_of (property_of c.args.node.now c.args.part.level) c.args.part.birth) c.in-Block.block c.in_ok-children.children =
    subst (λ asked. AreReadAs c.args.store.now.spaces asked c.in-Block.block c.in_ok-children.children) c.asked_at-asked.ensures c.in_ok-children.ensures.read in
    IfErr-weaker c.get_below.result _ _
    (λ refusal below.
    refused_down c.args.store.now c.read_indirect.new.store c.get_below.new.store c.args.missing.now (property_of c.args.node.now) c.args.part.level (c.args.part.level - 1) c.args.part.birth c.args.part.pointer c.args.place c.span-span.result
    c.in-Block.block c.in_ok-children.children c.get.result e c.in-Block.is read c.span-span.ensures.value low c.get.ensures.value c.in_ok-children.ensures.reads refusal below)
    c.get_below.ensures.refused

pub returns-clause-born : goal.returns-clause-born
returns-clause-born g t c =
    let e : c.args.part.level ≡ suc (c.args.part.level - 1) = omega arith in
    let low : c.args.place / c.span-span.result < 128 = child_low _ _ _ _ e c.span-span.ensures.value c.span-span.ensures.some c.requires.within in
    IfOk-weaker c.get_below.result _ _
    (λ found is stored first births held were tell.
    let there = births_below stored c.args.part.level (c.args.part.level - 1) first c.args.part.pointer c.in-Block.block births e c.in-Block.is were in
    let before = told_before _ _ _ _ c.in_ok-children.ensures.reads c.get_below.ensures.reads tell in
    let read = c.in_ok-children.ensures.value stored there.bytes there.pointers held there.known there.spelled before in
    let below = child_births stored (c.args.part.level - 1) first c.in-Block.block births _ c.get.result (c.args.place / c.span-span.result) there read c.get.ensures.value low in
    subst (λ id. IfSome found (λ (block : DataBlock). block.birth ≡ births 0 id)) (child_place first _ _ _ c.span-span.ensures.value c.span-span.ensures.some)
    (is stored (first + c.args.place / c.span-span.result * 128 ^ (c.args.part.level - 1)) births (c.in_ok-children.ensures.reads.keeps stored held) below
    (told_after _ _ _ _ c.in_ok-children.ensures.reads c.get_below.ensures.reads tell)))
    c.get_below.ensures.born

pub returns-clause-caused : goal.returns-clause-caused
returns-clause-caused g t c =
    IfErr-weaker c.get_below.result _ _ (λ refusal cause. caused_behind_reads _ _ _ _ refusal c.in_ok-children.ensures.reads cause) c.get_below.ensures.caused
