use Rattle.std.proofs.Common.{◌≡◌, ℕ, suc, ◌+◌, ◌-◌, ◌^◌, ◌<◌, ◌≤◌, List, [], length, get_or, inr, sym, ap, ◌∙◌, subst, arith, rules}
use Rattle.std.specs.List.Sorted.{IsStrictlyIncreasing}
use Rattle.std.proofs.lemmas.Bool.Decides.{nat_tests}
use Rattle.std.proofs.lemmas.List.{nil_from_length}
use Rattle.std.proofs.lemmas.List.Elements.{Contains-get_or}
use Rattle.std.proofs.lemmas.Result.{on_ok_weaker, IfErr-weaker}
use Rattle.block_pointer.specs.declared.block.Block.{Block}
use Rattle.block_pointer.specs.declared.pointer.BlockPtr.{BlockPtr}
use Rattle.block_store.specs.declared.block.Asked.{Asked}
use Rattle.block_store.specs.Spaces.{VdevSpace}
use Rattle.block_store.specs.Reading.{Asks}
use Rattle.block_store.proofs.Steps.{reads_on}
use Rattle.dnode_tree.specs.Many.{AreIdsBetween}
use Rattle.dnode_tree.specs.Tree.{property_of}
use Rattle.dnode_tree.specs.Ways.{AreReadAs}
use Rattle.dnode_tree.proofs.FurtherReads.{told_before, told_after}
use Rattle.dnode_tree.proofs.Getting.{only_first, data_added, nothing_added, none_added, getting_begins, run_between, run_once, child_part, getting_goes_on, getting_fails, parts_of_root, getting_ends}
use Rattle.dnode_tree.proofs.Parts.{data_part, indirect_part}
use Rattle.dnode_tree.proofs.Refusing.{passed_on, caused_by_memory}
use Rattle.dnode_tree.proofs.Spans.{span_up}
use Rattle.dnode_tree.proofs.WayLemmas.{refused_data, refused_indirect}
use Rattle.block_store.proofs.Causes.{caused_behind_reads}
use Rattle.dnode_tree.proofs.many.TreeReading.+add_below.Goals as goal

read_there : (spaces : List VdevSpace) (asked other : Asked) (block : Block) (found items : List BlockPtr) → asked ≡ other → items ≡ found → AreReadAs spaces asked block found → AreReadAs spaces other block items
read_there spaces asked other block found items e same read = subst (λ a. AreReadAs spaces a block items) e (subst (λ x. AreReadAs spaces asked block x) (sym same) read)

pub returns-in_default-clause-added : goal.returns-in_default-clause-added
returns-in_default-clause-added g t c =
    on_ok_weaker c.add_nothing.result
    (λ added. nothing_added c.args.store.now c.args.self.missing.now c.args.self.node.now c.args.part c.args.first c.args.ids.now c.args.found.now.items c.add_nothing.new.found.items c.in_default.is c.requires.between added)
    c.add_nothing.ensures.ok

pub returns-then-is_empty-clause-added : goal.returns-then-is_empty-clause-added
returns-then-is_empty-clause-added g t c =
    let none : length c.args.ids.now ≡ 0 = grind (arith, nat_tests, c.is_empty.ensures, c.if-is_empty.true) in
    none_added c.args.store.now c.args.self.missing.now c.args.self.node.now c.args.part c.args.first c.args.ids.now c.args.found.now.items (nil_from_length c.args.ids.now none)

pub returns-then-part-eq0-clause-added : goal.returns-then-part-eq0-clause-added
returns-then-part-eq0-clause-added g t c =
    let some : 0 < length c.args.ids.now = grind (arith, nat_tests, c.is_empty.ensures, c.if-is_empty.false) in
    let one : c.args.first + 128 ^ c.args.part.level ≡ c.args.first + 1 = ap (λ n. c.args.first + 128 ^ n) c.if-part-eq0.true in
    on_ok_weaker c.add_data.result
    (λ made. data_added c.args.store.now c.add_data.new.store c.args.self.missing.now c.args.self.node.now c.args.part c.args.first c.args.ids.now c.asked_at-asked.result c.in-Block.block
    c.args.found.now.items c.add_data.new.found.items c.if-part-eq0.true c.in-Block.is c.asked_at-asked.ensures
    (only_first c.args.ids.now c.args.first (c.args.first + 128 ^ c.args.part.level) one some c.requires.between c.requires.once) made)
    c.add_data.ensures.added

pub returns-then-part-eq0-clause-refused : goal.returns-then-part-eq0-clause-refused
returns-then-part-eq0-clause-refused g t c =
    let some : 0 < length c.args.ids.now = grind (arith, nat_tests, c.is_empty.ensures, c.if-is_empty.false) in
    let id : ℕ = get_or c.args.ids.now 0 0 in
    IfErr-weaker c.add_data.result _ _
    (λ refusal why. inr (
      id,
      Contains-get_or c.args.ids.now 0 0 some,
      refused_data c.args.store.now c.add_data.new.store c.args.self.missing.now (property_of c.args.self.node.now) c.args.part.level c.args.part.birth c.args.part.pointer (id - c.args.first)
          c.in-Block.block c.asked_at-asked.result refusal c.asked_at-asked.ensures c.in-Block.is why,
    ))
    c.add_data.ensures.refused

pub returns-then-part-eq0-clause-known : goal.returns-then-part-eq0-clause-known
returns-then-part-eq0-clause-known g t c =
    IfErr-weaker c.add_data.result _ _
    (λ refusal is stored array blocks held part tell.
    let there = data_part stored (property_of c.args.self.node.now) c.args.part.level 0 c.args.first c.args.part.birth c.args.part.pointer c.in-Block.block array blocks c.if-part-eq0.true c.in-Block.is part in
    is stored there.0 held there.1.known (subst (λ asked. Asks asked c.in-Block.block) (sym c.asked_at-asked.ensures) there.1.asks) tell)
    c.add_data.ensures.known

pub returns-in_err-children-clause-refused : goal.returns-in_err-children-clause-refused
returns-in_err-children-clause-refused g t c =
    let some : 0 < length c.args.ids.now = grind (arith, nat_tests, c.is_empty.ensures, c.if-is_empty.false) in
    let id : ℕ = get_or c.args.ids.now 0 0 in
    passed_on _ _ _ c.from_residual.ensures.1
    (inr (
      id,
      Contains-get_or c.args.ids.now 0 0 some,
      refused_indirect c.args.store.now c.read_indirect.new.store c.args.self.missing.now (property_of c.args.self.node.now) c.args.part.level c.args.part.birth c.args.part.pointer (id - c.args.first)
          c.in-Block.block c.asked_at-asked.result _ (omega arith) c.asked_at-asked.ensures c.in-Block.is c.in_err-children.ensures.refused,
    ))

pub returns-in_err-children-clause-known : goal.returns-in_err-children-clause-known
returns-in_err-children-clause-known g t c =
    let e : c.args.part.level ≡ suc (c.args.part.level - 1) = omega arith in
    passed_on _ _ _ c.from_residual.ensures.1
    (λ stored array blocks held part tell.
    let there = indirect_part stored (property_of c.args.self.node.now) c.args.part.level _ c.args.first c.args.part.birth c.args.part.pointer c.in-Block.block array blocks e c.in-Block.is part in
    c.in_err-children.ensures.known stored there.bytes there.pointers held there.known there.spelled
    (subst (λ asked. Asks asked c.in-Block.block) (sym c.asked_at-asked.ensures) there.asks) tell)

pub loop-place-init : goal.loop-place-init
loop-place-init g t c =
    let e : c.args.part.level ≡ suc (c.args.part.level - 1) = omega arith in
    getting_begins c.args.store.now c.read_indirect.new.store c.args.self.missing.now c.args.self.node.now c.args.part c.args.first (c.args.part.level - 1) c.in-Block.block.birth
    c.children.inside.pointers.items c.args.ids.now c.args.found.now.items c.in_ok-children.ensures.reads e c.requires.once c.requires.between

pub add_below-requires : goal.add_below-requires
add_below-requires g t c κs within =
    let e : c.args.part.level ≡ suc (c.args.part.level - 1) = omega arith in
    let low : c.args.part.level - 1 < 6 = omega arith in
    let room : c.start_of-start.result + 128 ^ (c.args.part.level - 1) ≤ 128 ^ 5 =
    omega (arith, c.start_of-start.ensures.within, c.requires.room, span_up c.args.part.level (c.args.part.level - 1) e) in
    let between : AreIdsBetween c.start_of-start.result (c.start_of-start.result + 128 ^ (c.args.part.level - 1)) c.split_at.result.0.now =
    run_between c.args.first (c.args.part.level - 1) c.loop-place.place c.count_before.result c.start_of-start.result (c.start_of-start.result + c.span.result) c.loop-place.rest.now
    c.split_at.result.0.now c.split_at.result.1.now c.start_of-start.ensures.value (ap (λ s. c.start_of-start.result + s) c.span.ensures.value) c.loop-place.invariant.once
    c.loop-place.invariant.between c.count_before.ensures.before c.count_before.ensures.behind c.split_at.ensures.front c.split_at.ensures.back in
    let once : IsStrictlyIncreasing c.split_at.result.0.now =
    run_once c.args.first (c.args.part.level - 1) c.loop-place.place c.count_before.result c.start_of-start.result (c.start_of-start.result + c.span.result) c.loop-place.rest.now
    c.split_at.result.0.now c.split_at.result.1.now c.start_of-start.ensures.value (ap (λ s. c.start_of-start.result + s) c.span.ensures.value) c.loop-place.invariant.once
    c.loop-place.invariant.between c.count_before.ensures.before c.count_before.ensures.behind c.split_at.ensures.front c.split_at.ensures.back in
    search rules

pub returns-in_err-add_below-clause-reads : goal.returns-in_err-add_below-clause-reads
returns-in_err-add_below-clause-reads g t c =
    reads_on _ _ _ _ c.loop-place.invariant.begun (reads_on _ _ _ _ c.loop-place.invariant.reads c.in_err-add_below.ensures.reads)

pub returns-in_err-add_below-clause-refused : goal.returns-in_err-add_below-clause-refused
returns-in_err-add_below-clause-refused g t c =
    let e : c.args.part.level ≡ suc (c.args.part.level - 1) = omega arith in
    let view = c.children.view_is in
    let same : c.children.inside.pointers.items ≡ c.in_ok-children.children = cc in
    let read = read_there c.args.store.now.spaces _ _ c.in-Block.block _ c.children.inside.pointers.items c.asked_at-asked.ensures same c.in_ok-children.ensures.read in
    let got = c.get.ensures.value in
    let child_is : c.get.result ≡ get_or c.children.inside.pointers.items c.loop-place.place c.get.result = cc in
    passed_on _ _ _ c.from_residual-in_err-add_below.ensures.1
    (getting_fails c.args.store.now c.read_indirect.new.store c.loop-place.store c.add_below.new.store c.args.self.missing.now c.args.self.node.now c.args.part c.args.first (c.args.part.level - 1)
    c.in-Block.block c.children.inside.pointers.items c.args.ids.now c.loop-place.rest.now c.split_at.result.0.now c.split_at.result.1.now c.loop-place.place c.count_before.result
    c.start_of-start.result (c.start_of-start.result + c.span.result) c.get.result c.args.found.now.items c.loop-place.found.items
    c.loop-place.invariant c.loop-place-test.true e c.in-Block.is read child_is c.start_of-start.ensures.value (ap (λ s. c.start_of-start.result + s) c.span.ensures.value)
    c.count_before.ensures.before c.count_before.ensures.behind c.split_at.ensures.front c.split_at.ensures.back
    c.in_err-add_below.ensures.reads _ c.in_err-add_below.ensures.refused)

pub returns-in_err-add_below-clause-known : goal.returns-in_err-add_below-clause-known
returns-in_err-add_below-clause-known g t c =
    let e : c.args.part.level ≡ suc (c.args.part.level - 1) = omega arith in
    let view = c.children.view_is in
    let same : c.children.inside.pointers.items ≡ c.in_ok-children.children = cc in
    let read = read_there c.args.store.now.spaces _ _ c.in-Block.block _ c.children.inside.pointers.items c.asked_at-asked.ensures same c.in_ok-children.ensures.read in
    let got = c.get.ensures.value in
    let child_is : c.get.result ≡ get_or c.children.inside.pointers.items c.loop-place.place c.get.result = cc in
    let sooner = reads_on _ _ _ _ c.loop-place.invariant.begun c.loop-place.invariant.reads in
    let later = reads_on _ _ _ _ c.loop-place.invariant.reads c.in_err-add_below.ensures.reads in
    passed_on _ _ _ c.from_residual-in_err-add_below.ensures.1
    (λ stored array blocks held part tell.
    let (parts, are) = parts_of_root c.args.store.now c.read_indirect.new.store c.loop-place.store c.args.self.missing.now c.args.self.node.now c.args.part c.args.first (c.args.part.level - 1)
    c.in-Block.block c.children.inside.pointers.items c.args.ids.now c.loop-place.rest.now c.loop-place.place c.args.found.now.items c.loop-place.found.items
    c.loop-place.invariant e c.in-Block.is
    (λ stored bytes others held known is_spelled true_here. same ∙ c.in_ok-children.ensures.value stored bytes others held known is_spelled true_here)
    stored array blocks held part (told_before _ _ _ _ c.loop-place.invariant.begun later tell) in
    c.in_err-add_below.ensures.known stored array (get_or parts c.loop-place.place []) (sooner.keeps stored held)
    (child_part c.args.store.now c.read_indirect.new.store c.loop-place.store c.add_below.new.store c.args.self.missing.now c.args.self.node.now c.args.part c.args.first (c.args.part.level - 1)
    c.in-Block.block c.children.inside.pointers.items c.args.ids.now c.loop-place.rest.now c.split_at.result.0.now c.split_at.result.1.now c.loop-place.place c.count_before.result
    c.start_of-start.result (c.start_of-start.result + c.span.result) c.get.result c.args.found.now.items c.loop-place.found.items
    c.loop-place.invariant c.loop-place-test.true e c.in-Block.is read child_is c.start_of-start.ensures.value (ap (λ s. c.start_of-start.result + s) c.span.ensures.value)
    c.count_before.ensures.before c.count_before.ensures.behind c.split_at.ensures.front c.split_at.ensures.back
    c.in_err-add_below.ensures.reads stored array parts are)
    (told_after _ _ _ _ sooner c.in_err-add_below.ensures.reads tell))

pub loop-place-preserved : goal.loop-place-preserved
loop-place-preserved g t c =
    let e : c.args.part.level ≡ suc (c.args.part.level - 1) = omega arith in
    let view = c.children.view_is in
    let same : c.children.inside.pointers.items ≡ c.in_ok-children.children = cc in
    let read = read_there c.args.store.now.spaces _ _ c.in-Block.block _ c.children.inside.pointers.items c.asked_at-asked.ensures same c.in_ok-children.ensures.read in
    let got = c.get.ensures.value in
    let child_is : c.get.result ≡ get_or c.children.inside.pointers.items c.loop-place.place c.get.result = cc in
    getting_goes_on c.args.store.now c.read_indirect.new.store c.loop-place.store c.add_below.new.store c.args.self.missing.now c.args.self.node.now c.args.part c.args.first (c.args.part.level - 1)
    c.in-Block.block c.children.inside.pointers.items c.args.ids.now c.loop-place.rest.now c.split_at.result.0.now c.split_at.result.1.now c.loop-place.place c.count_before.result
    c.start_of-start.result (c.start_of-start.result + c.span.result) c.get.result c.args.found.now.items c.loop-place.found.items
    c.loop-place.invariant c.loop-place-test.true e c.in-Block.is read child_is c.start_of-start.ensures.value (ap (λ s. c.start_of-start.result + s) c.span.ensures.value)
    c.count_before.ensures.before c.count_before.ensures.behind c.split_at.ensures.front c.split_at.ensures.back
    c.in_ok-add_below.ensures.reads c.add_below.new.found.items c.in_ok-add_below.ensures.added

pub returns-clause-reads : goal.returns-clause-reads
returns-clause-reads g t c = reads_on _ _ _ _ c.in_ok-children.ensures.reads c.loop-place.invariant.reads

pub returns-clause-added : goal.returns-clause-added
returns-clause-added g t c =
    let e : c.args.part.level ≡ suc (c.args.part.level - 1) = omega arith in
    let view = c.children.view_is in
    let same : c.children.inside.pointers.items ≡ c.in_ok-children.children = cc in
    let all : c.loop-place.place ≡ 128 = omega (arith, c.loop-place-test.false, c.loop-place.auto.place-end) in
    getting_ends c.args.store.now c.read_indirect.new.store c.loop-place.store c.args.self.missing.now c.args.self.node.now c.args.part c.args.first (c.args.part.level - 1)
    c.in-Block.block c.children.inside.pointers.items c.args.ids.now c.loop-place.rest.now c.loop-place.place c.args.found.now.items c.loop-place.found.items
    c.loop-place.invariant e c.in-Block.is
    (λ stored bytes others held known is_spelled true_here. same ∙ c.in_ok-children.ensures.value stored bytes others held known is_spelled true_here) all

pub returns-in_default-clause-caused : goal.returns-in_default-clause-caused
returns-in_default-clause-caused g t c =
    IfErr-weaker c.add_nothing.result _ _ (λ refusal memory. caused_by_memory _ _ _ refusal memory) c.add_nothing.ensures.refused

pub returns-in_err-add_below-clause-caused : goal.returns-in_err-add_below-clause-caused
returns-in_err-add_below-clause-caused g t c =
    passed_on _ _ _ c.from_residual-in_err-add_below.ensures.1
    (caused_behind_reads _ _ _ _ _ (reads_on _ _ _ _ c.loop-place.invariant.begun c.loop-place.invariant.reads) c.in_err-add_below.ensures.caused)
