use Rattle.std.proofs.Common.{◌≡◌, ℕ, suc, ◌+◌, ◌*◌, ◌^◌, ◌<◌, ◌≤◌, Some, None, true, if◌then◌else◌, List, ◌∷◌, [], length, get_or, inl, inr, refl, sym, ap, ◌∙◌, subst, arith, rules, add-one}
use Rattle.std.proofs.lemmas.Result.{IfOk-weaker, IfErr-weaker, on_ok_weaker}
use Rattle.block_store.specs.Steps.{OnlyReadsBlocks}
use Rattle.block_store.specs.Store.{Store}
use Rattle.dnode.specs.Indirect.{SpellsIndirect}
use Rattle.block_store.specs.Reading.{Asks}
use Rattle.dnode_tree.proofs.Births.{ages_below, reaches_first}
use Rattle.dnode_tree.specs.Births.{reaches}
use Rattle.dnode_tree.specs.PartsRewritten.{Ages}
use Rattle.dnode_tree.specs.declared.writes.BlockWrite.{BlockWrite}
use Rattle.dnode_tree.proofs.Fitting.{indirect_sectors}
use Rattle.dnode_tree.proofs.Losses.{loss_in_plan}
use Rattle.dnode_tree.proofs.NewArrays.{written_first, behind_all}
use Rattle.dnode_tree.proofs.Refusing.{passed_on, ok_both}
use Rattle.dnode_tree.proofs.Rewriting.{rewriting_begins, sum_fits, root_rewritten}
use Rattle.dnode_tree.proofs.Overfull.{first_unread, part_full, part_refused, following_begins, following_skips, following_goes_on, following_fails, sum_can_be}
use Rattle.dnode_tree.proofs.Spans.{span_fits}
use Rattle.dnode_tree.proofs.Spots.{HavePlacesAt, LackPlacesAt, parts_begin, parts_fail, parts_end, root_fails, reached_leaf, reached_below}
use Rattle.dnode_tree.specs.Spots.{spots_in, spots_below}
use Rattle.dnode_tree.proofs.Roots.{indirect_length, leaf_rewritten, part_has_root}
use Rattle.block_store.proofs.Steps.{steps_none, steps_on, steps_read}
use Rattle.dnode_tree.proofs.Steps.{told_sooner, told_later, no_room_on}
use Rattle.dnode_tree.proofs.WritingParts.{writing_skips, writing_goes_on, writing_fails, run_is_between, run_in_order, run_whole, root_filled}
use Rattle.dnode_tree.specs.Subtree.{asked_of}
use Rattle.dnode_tree.specs.Tree.{property_of}
use Rattle.dnode_tree.specs.Writes.{written, AreBetween, AreInOrder, AreWholeBlocks}
use Rattle.block_store.proofs.Causes.{caused_behind_reads, caused_behind}
use Rattle.dnode_tree.proofs.writes.Rewriting.+rewriting.Goals as goal

pub write_part-returns-then-part-eq0-clause-rewritten : goal.write_part-returns-then-part-eq0-clause-rewritten
write_part-returns-then-part-eq0-clause-rewritten g t c =
    let e : c.args.part.level ≡ 0 = c.if-part-eq0.true in
    let one : 128 ^ c.args.part.level ≡ 1 = ap (λ n. 128 ^ n) e in
    let range = c.requires.between 0 c.index-writes-0.result c.requires.some in
    let here : (get_or c.args.writes.now 0 c.index-writes-0.result).id ≡ c.args.first = omega (arith, range.0, range.1, one) in
    IfOk-weaker c.plan_block.result _ _
    (λ block made ages stored planned array blocks plans part aged tell.
    let added = made.0 stored planned plans in (
      added.0,
      added.1,
      leaf_rewritten stored planned added.0 (property_of c.args.self.node.now) c.args.part.level c.args.first c.args.part.birth c.args.self.birth c.args.part.pointer array (written c.args.writes.now array) blocks _ _
          block c.deref.result.now e part c.in_ok-note.ensures.ok added.2 made.1.0 made.1.1.0 made.1.1.1.0 made.1.1.1.1
          (written_first c.args.writes.now array c.args.first c.index-writes-0.result c.requires.some here ∙ ap (λ bytes. Some bytes) (sym c.deref.ensures.value))
          (λ told told_is.
          (aged told told_is).1 c.args.part.level c.args.first (omega arith) (omega arith) (omega arith)
          ∙ ap (λ test. if test then c.args.self.birth else told.old c.args.part.level c.args.first)
          (reaches_first c.args.writes.now c.args.part.level c.args.first c.index-writes-0.result c.requires.some (omega (arith, range.0)) (omega (arith, range.1)))),
    ))
    (ok_both c.plan_block.result _ _ c.plan_block.ensures.planned
    (ok_both c.plan_block.result _ _ c.plan_block.ensures.asks (ok_both c.plan_block.result _ _ c.plan_block.ensures.fill (ok_both c.plan_block.result _ _ c.plan_block.ensures.birth c.plan_block.ensures.copies))))

-- some write is in the part
part_reached : (writes : List BlockWrite) (level first : ℕ) → 0 < length writes → AreBetween first (first + 128 ^ level) writes → reaches writes level first ≡ true
part_reached [] level first some between = absurd (omega (arith, some))
part_reached (write ∷ writes) level first some between =
    let range = between 0 write (omega arith) in
    reaches_first (write ∷ writes) level first write some (omega (arith, range.0)) (omega (arith, range.1))

pub write_part-returns-in_err-parts-clause-known : goal.write_part-returns-in_err-parts-clause-known
write_part-returns-in_err-parts-clause-known g t c =
    passed_on _ _ _ c.from_residual-in_err-parts.ensures.1
    (λ stored planned array blocks plans part tell. loss_in_plan _ (c.in_err-parts.ensures.known stored c.args.first array blocks plans.held part tell))

pub write_part-returns-clause-steps : goal.write_part-returns-clause-steps
write_part-returns-clause-steps g t c = steps_on _ _ _ _ (steps_read _ _ _ c.in_ok-parts.ensures.reads) c.write_parts.ensures.steps

pub write_part-returns-clause-rewritten : goal.write_part-returns-clause-rewritten
write_part-returns-clause-rewritten g t c =
    let e : c.args.part.level ≡ suc c.in_ok-parts.parts.level = omega (arith, c.in_ok-parts.ensures.level) in
    let reads = steps_read _ _ _ c.in_ok-parts.ensures.reads in
    IfOk-weaker c.write_parts.result _ _
    (λ block is ages stored planned array blocks plans part aged tell.
    let below = c.in_ok-parts.ensures.parts stored c.args.first array blocks plans.held part (told_sooner _ _ _ _ reads c.write_parts.ensures.steps tell) in
    let begun = rewriting_begins stored planned (property_of c.args.self.node.now) c.in_ok-parts.parts.level c.args.first c.in_ok-parts.parts.birth c.args.self.birth c.in_ok-parts.parts.pointers
    array (written c.args.writes.now array) below.0 c.note.new.replaced.items plans.kept below.1
    (λ told told_is. c.in_ok-parts.ensures.births stored c.args.first told.old plans.held (aged told told_is).0 (told_sooner _ _ _ _ reads c.write_parts.ensures.steps tell)) in
    let reached : reaches c.args.writes.now c.args.part.level c.args.first ≡ true = part_reached c.args.writes.now c.args.part.level c.args.first c.requires.some c.requires.between in
    let aged_below = λ (told : Ages) (told_is : ages ≡ Some told).
    ages_below c.args.self.birth c.args.writes.now told.old told.new c.args.part.level c.in_ok-parts.parts.level c.args.first e (aged told told_is).1 reached in
    let done = is ages stored planned planned array (written c.args.writes.now array) below.0 [] c.note.new.replaced.items (c.in_ok-parts.ensures.reads.plans stored planned plans) begun
    (λ id above under. refl) aged_below (told_later _ _ _ _ reads c.write_parts.ensures.steps tell) in (
      done.0,
      done.1,
      part_has_root planned done.0 (property_of c.args.self.node.now) c.args.part.level c.in_ok-parts.parts.level c.args.first c.args.self.birth block c.args.part.pointer (written c.args.writes.now array) below.0
          blocks _ _ _ e below.2 c.in_ok-note.ensures.ok done.2,
    ))
    c.write_parts.ensures.rewritten

pub write_part-returns-clause-no_room : goal.write_part-returns-clause-no_room
write_part-returns-clause-no_room g t c =
    let reads = steps_read _ _ _ c.in_ok-parts.ensures.reads in
    IfErr-weaker c.write_parts.result _ _ (λ refusal is none. no_room_on _ _ _ _ c.args.self.node.now c.args.self.copies reads (is none)) c.write_parts.ensures.no_room

pub write_part-returns-clause-known : goal.write_part-returns-clause-known
write_part-returns-clause-known g t c =
    let reads = steps_read _ _ _ c.in_ok-parts.ensures.reads in
    IfErr-weaker c.write_parts.result _ _
    (λ refusal is stored planned array blocks plans part tell.
    let below = c.in_ok-parts.ensures.parts stored c.args.first array blocks plans.held part (told_sooner _ _ _ _ reads c.write_parts.ensures.steps tell) in
    let begun = rewriting_begins stored planned (property_of c.args.self.node.now) c.in_ok-parts.parts.level c.args.first c.in_ok-parts.parts.birth c.args.self.birth c.in_ok-parts.parts.pointers
    array (written c.args.writes.now array) below.0 c.note.new.replaced.items plans.kept below.1 (λ told told_is. absurd cc) in
    is None stored planned planned array (written c.args.writes.now array) below.0 [] c.note.new.replaced.items (c.in_ok-parts.ensures.reads.plans stored planned plans) begun
    (λ id above under. refl) (λ told told_is. absurd cc) (told_later _ _ _ _ reads c.write_parts.ensures.steps tell))
    c.write_parts.ensures.known

pub write_parts-loop-place-preserved-then-is_empty : goal.write_parts-loop-place-preserved-then-is_empty
write_parts-loop-place-preserved-then-is_empty g t c =
    let middle_is : c.start_of-start.result + c.span.result ≡ (c.args.first + c.loop-place.place * 128 ^ c.args.parts.level) + 128 ^ c.args.parts.level =
    omega (arith, c.start_of-start.ensures.value, c.span.ensures.value) in
    let none : length c.split_at.result.0.now ≡ 0 = search rules in (
      following_skips c.args.store.now c.loop-place.store c.args.self.missing.now _ _ _ _ _ _ _ _ _ _ c.loop-place.invariant.0 c.loop-place-test.true c.loop-place.invariant.1.count
          c.loop-place.invariant.1.steps _ _ _ c.start_of-start.ensures.value c.split_at.ensures.front _ c.split_at.ensures.back,
      writing_skips _ _ _ _ _ _ _ _ _ _ _ _ _ _ _ _ c.loop-place.invariant.1 c.loop-place-test.true c.requires.bound _ _ middle_is c.count_before.ensures.before c.count_before.ensures.behind
          _ _ c.count_before.ensures.within c.split_at.ensures.front c.split_at.ensures.back none,
    )

pub write_parts-write_part-requires : goal.write_parts-write_part-requires
write_parts-write_part-requires g t c =
    let middle_is : c.start_of-start.result + c.span.result ≡ (c.args.first + c.loop-place.place * 128 ^ c.args.parts.level) + 128 ^ c.args.parts.level =
    omega (arith, c.start_of-start.ensures.value, c.span.ensures.value) in
    let room : c.start_of-start.result + 128 ^ c.args.parts.level ≤ 128 ^ 5 = omega (arith, c.start_of-start.ensures.within, c.requires.room) in
    let some : 0 < length c.split_at.result.0.now = search rules in
    let between : AreBetween c.start_of-start.result (c.start_of-start.result + 128 ^ c.args.parts.level) c.split_at.result.0.now =
    run_is_between _ _ _ _ _ _ _ _ middle_is c.loop-place.invariant.1.between c.loop-place.invariant.1.order c.count_before.ensures.before c.count_before.ensures.behind
    c.start_of-start.ensures.value c.split_at.ensures.front in
    let order : AreInOrder c.split_at.result.0.now = run_in_order _ _ _ c.split_at.ensures.front c.loop-place.invariant.1.order in
    let whole : AreWholeBlocks c.args.self.node.now c.split_at.result.0.now = run_whole c.args.self.node.now _ _ _ c.split_at.ensures.front c.loop-place.invariant.1.whole in
    search rules

pub write_parts-returns-in_err-block-clause-steps : goal.write_parts-returns-in_err-block-clause-steps
write_parts-returns-in_err-block-clause-steps g t c = steps_on _ _ _ _ c.loop-place.invariant.1.steps c.in_err-block.ensures.steps

pub write_parts-returns-in_err-block-clause-no_room : goal.write_parts-returns-in_err-block-clause-no_room
write_parts-returns-in_err-block-clause-no_room g t c =
    passed_on _ _ _ c.from_residual.ensures.1 (λ none. no_room_on _ _ _ _ c.args.self.node.now c.args.self.copies c.loop-place.invariant.1.steps (c.in_err-block.ensures.no_room none))

pub write_parts-returns-in_err-block-clause-known : goal.write_parts-returns-in_err-block-clause-known
write_parts-returns-in_err-block-clause-known g t c =
    let middle_is : c.start_of-start.result + c.span.result ≡ (c.args.first + c.loop-place.place * 128 ^ c.args.parts.level) + 128 ^ c.args.parts.level =
    omega (arith, c.start_of-start.ensures.value, c.span.ensures.value) in
    passed_on _ _ _ c.from_residual.ensures.1
    (writing_fails _ _ _ _ _ _ _ _ _ _ _ _ _ _ _ _ c.loop-place.invariant.1 c.loop-place-test.true c.requires.bound _ _ middle_is c.count_before.ensures.before c.count_before.ensures.behind
    _ _ _ _ c.in_err-block.ensures.steps c.start_of-start.ensures.value c.get.ensures.value c.split_at.ensures.front _ c.in_err-block.ensures.known)

pub write_parts-loop-place-preserved : goal.write_parts-loop-place-preserved
write_parts-loop-place-preserved g t c =
    let middle_is : c.start_of-start.result + c.span.result ≡ (c.args.first + c.loop-place.place * 128 ^ c.args.parts.level) + 128 ^ c.args.parts.level =
    omega (arith, c.start_of-start.ensures.value, c.span.ensures.value) in (
      following_goes_on c.args.store.now c.loop-place.store c.args.self.missing.now _ _ _ _ _ _ _ _ _ _ c.loop-place.invariant.0 c.loop-place-test.true c.loop-place.invariant.1.count
          c.loop-place.invariant.1.steps _ _ _ c.start_of-start.ensures.value c.split_at.ensures.front _ c.get.ensures.value _ _ _ c.set.ensures c.split_at.ensures.back c.in_ok-block.ensures.full,
      writing_goes_on _ _ _ _ _ _ _ _ _ _ _ _ _ _ _ _ c.loop-place.invariant.1 c.loop-place-test.true c.requires.bound _ _ middle_is c.count_before.ensures.before c.count_before.ensures.behind
          _ _ _ _ c.in_ok-block.ensures.steps c.start_of-start.ensures.value c.get.ensures.value c.split_at.ensures.front
          _ _ _ _ c.set.ensures c.split_at.ensures.back c.in_ok-block.ensures.fits.filled c.in_ok-block.ensures.places c.in_ok-block.ensures.rewritten,
    )

pub write_parts-returns-in_default-clause-known : goal.write_parts-returns-in_default-clause-known
write_parts-returns-in_default-clause-known g t c =
    λ ages stored planned now array new_array before after noted plans rewritten has aged tell.
    let there = c.loop-place.invariant.1.rewriting ages stored planned now array new_array before after noted plans rewritten has aged tell in
    let fits = sum_fits _ _ _ _ _ _ _ _ _ _ _ _ _ _ _ _ there.3 c.requires.low in
    absurd (omega (arith, fits, c.in_default.ensures.none.0 refl))

pub write_parts-plan_block-requires-clause-filled : goal.write_parts-plan_block-requires-clause-filled
write_parts-plan_block-requires-clause-filled g t c =
    let all : c.loop-place.place ≡ 128 = omega (arith, c.loop-place-test.false, c.loop-place.auto.place-end, c.requires.from) in
    let some = root_filled _ _ _ _ _ _ _ _ _ _ _ _ _ _ _ _ c.loop-place.invariant.1 all in
    omega (arith, some, c.in-Some.ensures.some)

pub write_parts-plan_block-requires-clause-size : goal.write_parts-plan_block-requires-clause-size
write_parts-plan_block-requires-clause-size g t c =
    let sectors : (property_of c.args.self.node.now (c.args.parts.level + 1)).sectors ≡ 32 = rw (add-one c.args.parts.level) (indirect_sectors c.args.self.node.now c.args.parts.level) in
    let size = indirect_length _ _ c.in_ok-bytes.ensures in
    ap length c.deref.ensures.value ∙ size ∙ sym (ap (λ n. n * 512) sectors)

pub write_parts-returns-clause-rewritten : goal.write_parts-returns-clause-rewritten
write_parts-returns-clause-rewritten g t c =
    let all : c.loop-place.place ≡ 128 = omega (arith, c.loop-place-test.false, c.loop-place.auto.place-end, c.requires.from) in
    IfOk-weaker c.plan_block.result _ _
    (λ block made ages stored planned now array new_array before after noted plans rewritten has aged tell.
    let planned_step = c.plan_block.ensures.steps c.args.self.missing.now in
    let there = c.loop-place.invariant.1.rewriting ages stored planned now array new_array before after noted plans rewritten has aged (told_sooner _ _ _ _ c.loop-place.invariant.1.steps planned_step tell) in
    let added = made.0.0 stored there.0 there.2 in
    let asks : Asks (asked_of (property_of c.args.self.node.now (suc c.args.parts.level)) c.args.self.birth) block = rw add-one at made.0.1 in (
      added.0,
      added.1,
      root_rewritten _ _ _ _ _ _ _ _ _ _ _ _ _ _ _ _ there.3 added.0 block _ all added.2 (subst (λ bytes. SpellsIndirect bytes c.loop-place.pointers) (sym c.deref.ensures.value) c.in_ok-bytes.ensures)
          asks made.1.0 (made.1.1.0 ∙ c.in-Some.ensures.some) made.1.1.1 (λ told told_is. (there.5 told told_is).0),
    ))
    (ok_both c.plan_block.result _ _ (ok_both c.plan_block.result _ _ c.plan_block.ensures.planned c.plan_block.ensures.asks) (ok_both c.plan_block.result _ _ c.plan_block.ensures.birth (ok_both c.plan_block.result _ _ c.plan_block.ensures.fill c.plan_block.ensures.copies)))

pub write_parts-returns-clause-no_room : goal.write_parts-returns-clause-no_room
write_parts-returns-clause-no_room g t c =
    IfErr-weaker c.plan_block.result _ _ (λ refusal is none. no_room_on _ _ _ _ c.args.self.node.now c.args.self.copies c.loop-place.invariant.1.steps (is none c.args.self.missing.now)) c.plan_block.ensures.no_room

pub write_part-returns-in_err-note-clause-steps : goal.write_part-returns-in_err-note-clause-steps
write_part-returns-in_err-note-clause-steps g t c = steps_none _ _

pub write_part-returns-then-part-eq0-clause-steps : goal.write_part-returns-then-part-eq0-clause-steps
write_part-returns-then-part-eq0-clause-steps g t c = c.plan_block.ensures.steps c.args.self.missing.now

pub write_part-returns-in_err-parts-clause-steps : goal.write_part-returns-in_err-parts-clause-steps
write_part-returns-in_err-parts-clause-steps g t c = steps_read _ _ _ c.in_err-parts.ensures.reads

pub write_parts-loop-place-init : goal.write_parts-loop-place-init
write_parts-loop-place-init g t c = (
  following_begins _ _ _ _ _ _ _ _,
  record {
    steps = steps_none _ _;
    between = c.requires.between;
    order = c.requires.order;
    whole = c.requires.whole;
    filled = c.requires.some;
    count = c.requires.count;
    placed = parts_begin _ _ _ _ _ _ _;
    rewriting = λ ages stored planned begun array new_array before after noted plans rewritten has aged tell. (begun, after, plans, rewritten, has, aged);
  },
)

pub write_parts-returns-clause-steps : goal.write_parts-returns-clause-steps
write_parts-returns-clause-steps g t c = steps_on _ _ _ _ c.loop-place.invariant.1.steps (c.plan_block.ensures.steps c.args.self.missing.now)

-- ---- places

pub write_part-returns-then-part-eq0-clause-places : goal.write_part-returns-then-part-eq0-clause-places
write_part-returns-then-part-eq0-clause-places g t c =
    let reached : reaches c.args.writes.now c.args.part.level c.args.first ≡ true = part_reached c.args.writes.now c.args.part.level c.args.first c.requires.some c.requires.between in
    on_ok_weaker c.plan_block.result
    (λ have.
    subst (λ spots. HavePlacesAt c.args.self.node.now c.args.self.copies c.args.store.now.spaces spots c.plan_block.new.store.spaces)
    (sym (reached_leaf c.args.writes.now c.args.part.level c.args.first c.if-part-eq0.true reached)) (have c.args.first))
    c.plan_block.ensures.place

pub write_part-returns-then-part-eq0-clause-no_place : goal.write_part-returns-then-part-eq0-clause-no_place
write_part-returns-then-part-eq0-clause-no_place g t c =
    let reached : reaches c.args.writes.now c.args.part.level c.args.first ≡ true = part_reached c.args.writes.now c.args.part.level c.args.first c.requires.some c.requires.between in
    IfErr-weaker c.plan_block.result _ _
    (λ refusal is none.
    subst (λ spots. LackPlacesAt c.args.self.node.now c.args.self.copies c.args.store.now.spaces spots c.plan_block.new.store.spaces)
    (sym (reached_leaf c.args.writes.now c.args.part.level c.args.first c.if-part-eq0.true reached)) (is none c.args.first))
    c.plan_block.ensures.no_place

-- reads take no places
same_spaces : (old new : Store) (missing : List ℕ) → OnlyReadsBlocks old new missing → new.spaces ≡ old.spaces
same_spaces old new missing reads = ap (λ (s : Store). s.spaces) reads.rest

pub write_part-returns-clause-places : goal.write_part-returns-clause-places
write_part-returns-clause-places g t c =
    let e : c.args.part.level ≡ suc c.in_ok-parts.parts.level = omega (arith, c.in_ok-parts.ensures.level) in
    let reached : reaches c.args.writes.now c.args.part.level c.args.first ≡ true = part_reached c.args.writes.now c.args.part.level c.args.first c.requires.some c.requires.between in
    let spaces = same_spaces _ _ _ c.in_ok-parts.ensures.reads in
    on_ok_weaker c.write_parts.result
    (λ have.
    subst (λ spots. HavePlacesAt c.args.self.node.now c.args.self.copies c.args.store.now.spaces spots c.write_parts.new.store.spaces)
    (sym (reached_below c.args.writes.now c.args.part.level c.in_ok-parts.parts.level c.args.first e reached))
    (subst (λ before. HavePlacesAt c.args.self.node.now c.args.self.copies before (spots_below c.args.writes.now c.in_ok-parts.parts.level c.args.first 0 128) c.write_parts.new.store.spaces) spaces have))
    c.write_parts.ensures.places

pub write_part-returns-clause-no_place : goal.write_part-returns-clause-no_place
write_part-returns-clause-no_place g t c =
    let e : c.args.part.level ≡ suc c.in_ok-parts.parts.level = omega (arith, c.in_ok-parts.ensures.level) in
    let reached : reaches c.args.writes.now c.args.part.level c.args.first ≡ true = part_reached c.args.writes.now c.args.part.level c.args.first c.requires.some c.requires.between in
    let spaces = same_spaces _ _ _ c.in_ok-parts.ensures.reads in
    IfErr-weaker c.write_parts.result _ _
    (λ refusal is none.
    subst (λ spots. LackPlacesAt c.args.self.node.now c.args.self.copies c.args.store.now.spaces spots c.write_parts.new.store.spaces)
    (sym (reached_below c.args.writes.now c.args.part.level c.in_ok-parts.parts.level c.args.first e reached))
    (subst (λ before. LackPlacesAt c.args.self.node.now c.args.self.copies before (spots_below c.args.writes.now c.in_ok-parts.parts.level c.args.first 0 128) c.write_parts.new.store.spaces) spaces (is none)))
    c.write_parts.ensures.no_place

pub write_parts-returns-in_err-block-clause-no_place : goal.write_parts-returns-in_err-block-clause-no_place
write_parts-returns-in_err-block-clause-no_place g t c =
    let middle_is : c.start_of-start.result + c.span.result ≡ (c.args.first + c.loop-place.place * 128 ^ c.args.parts.level) + 128 ^ c.args.parts.level =
    omega (arith, c.start_of-start.ensures.value, c.span.ensures.value) in
    passed_on _ _ _ c.from_residual.ensures.1
    (λ none.
    parts_fail _ _ _ _ _ _ _ _ _ _ c.loop-place.invariant.1.placed c.loop-place-test.true _ _ middle_is c.count_before.ensures.before
    (behind_all _ _ _ c.loop-place.invariant.1.order c.count_before.ensures.behind) _
    (subst (λ ws. LackPlacesAt c.args.self.node.now c.args.self.copies c.loop-place.store.spaces (spots_in ws c.args.parts.level (c.args.first + c.loop-place.place * 128 ^ c.args.parts.level)) c.write_part.new.store.spaces)
    c.split_at.ensures.front
    (subst (λ n. LackPlacesAt c.args.self.node.now c.args.self.copies c.loop-place.store.spaces (spots_in c.split_at.result.0.now c.args.parts.level n) c.write_part.new.store.spaces)
    c.start_of-start.ensures.value (c.in_err-block.ensures.no_place none))))

pub write_parts-returns-clause-places : goal.write_parts-returns-clause-places
write_parts-returns-clause-places g t c =
    let all : c.loop-place.place ≡ 128 = omega (arith, c.loop-place-test.false, c.loop-place.auto.place-end, c.requires.from) in
    on_ok_weaker c.plan_block.result
    (λ have. parts_end _ _ _ _ _ _ _ _ _ _ _ c.loop-place.invariant.1.placed all (rw add-one at (have c.args.first)))
    c.plan_block.ensures.place

pub write_parts-returns-clause-no_place : goal.write_parts-returns-clause-no_place
write_parts-returns-clause-no_place g t c =
    let all : c.loop-place.place ≡ 128 = omega (arith, c.loop-place-test.false, c.loop-place.auto.place-end, c.requires.from) in
    IfErr-weaker c.plan_block.result _ _
    (λ refusal is none. root_fails _ _ _ _ _ _ _ _ _ _ _ c.loop-place.invariant.1.placed all (rw add-one at (is none c.args.first)))
    c.plan_block.ensures.no_place

-- ---- refusals

pub write_part-returns-then-part-eq0-clause-full : goal.write_part-returns-then-part-eq0-clause-full
write_part-returns-then-part-eq0-clause-full g t c =
    let one : 128 ^ c.args.part.level ≡ 1 = ap (λ n. 128 ^ n) c.if-part-eq0.true in
    IfOk-weaker c.plan_block.result _ _ (λ block fill. inl (omega (arith, one, fill))) c.plan_block.ensures.fill

pub write_part-returns-then-part-eq0-clause-refused : goal.write_part-returns-then-part-eq0-clause-refused
write_part-returns-then-part-eq0-clause-refused g t c = IfErr-weaker c.plan_block.result _ _ (λ refusal room. inl room) c.plan_block.ensures.refused

pub write_part-returns-in_err-note-clause-refused : goal.write_part-returns-in_err-note-clause-refused
write_part-returns-in_err-note-clause-refused g t c = passed_on _ _ _ c.from_residual.ensures.1 (inl (inl refl))

pub write_part-returns-in_err-parts-clause-refused : goal.write_part-returns-in_err-parts-clause-refused
write_part-returns-in_err-parts-clause-refused g t c =
    passed_on _ _ _ c.from_residual-in_err-parts.ensures.1
    (inr (inl (first_unread c.args.store.now c.parts_of.new.store c.args.self.missing.now c.args.self.node.now c.args.part c.args.first c.args.writes.now _ c.requires.some c.requires.between
    c.in_err-parts.ensures.refused)))

pub write_part-returns-clause-full : goal.write_part-returns-clause-full
write_part-returns-clause-full g t c =
    let e : c.args.part.level ≡ suc c.in_ok-parts.parts.level = omega (arith, c.in_ok-parts.ensures.level) in
    let spaces = same_spaces _ _ _ c.in_ok-parts.ensures.reads in
    IfOk-weaker c.write_parts.result _ _
    (λ block full.
    part_full c.args.self.node.now c.args.part c.in_ok-parts.parts c.args.first c.args.writes.now e c.args.store.now.spaces c.parts_of.new.store.spaces spaces block.fill c.in_ok-parts.ensures.read
    c.requires.some c.requires.between full)
    c.write_parts.ensures.full

pub write_part-returns-clause-refused : goal.write_part-returns-clause-refused
write_part-returns-clause-refused g t c =
    let e : c.args.part.level ≡ suc c.in_ok-parts.parts.level = omega (arith, c.in_ok-parts.ensures.level) in
    IfErr-weaker c.write_parts.result _ _
    (λ refusal why.
    part_refused c.args.self.node.now c.args.part c.in_ok-parts.parts c.args.first c.args.writes.now e c.args.store.now c.parts_of.new.store c.write_parts.new.store c.args.self.missing.now refusal
    c.in_ok-parts.ensures.reads c.in_ok-parts.ensures.read c.requires.some c.requires.between why)
    c.write_parts.ensures.refused

pub write_parts-returns-in_err-block-clause-refused : goal.write_parts-returns-in_err-block-clause-refused
write_parts-returns-in_err-block-clause-refused g t c =
    passed_on _ _ _ c.from_residual.ensures.1
    (following_fails c.args.store.now c.loop-place.store c.args.self.missing.now _ _ _ _ _ _ _ _ _ _ c.loop-place.invariant.0 c.loop-place-test.true c.loop-place.invariant.1.count
    c.loop-place.invariant.1.steps _ _ _ c.start_of-start.ensures.value c.split_at.ensures.front _ c.get.ensures.value _ _ c.in_err-block.ensures.refused)

pub write_parts-returns-in_default-clause-refused : goal.write_parts-returns-in_default-clause-refused
write_parts-returns-in_default-clause-refused g t c =
    elim (sum_can_be _ _ _ _ _ _ _ _ _ _ _ c.loop-place.invariant.0 c.loop-place.invariant.1.count) [
      | inl fits ↦ absurd (omega (arith, fits, c.in_default.ensures.none.0 refl, span_fits (c.args.parts.level + 1) (omega (arith, c.requires.low))))
      | inr over ↦ inr (inr (refl, over))
    ]

pub write_parts-returns-in_err-bytes-clause-refused : goal.write_parts-returns-in_err-bytes-clause-refused
write_parts-returns-in_err-bytes-clause-refused g t c = passed_on _ _ _ c.from_residual-in_err-bytes.ensures.1 (inl (inl refl))

pub write_parts-returns-clause-full : goal.write_parts-returns-clause-full
write_parts-returns-clause-full g t c =
    IfOk-weaker c.plan_block.result _ _
    (λ block fill. elim (sum_can_be _ _ _ _ _ _ _ _ _ _ _ c.loop-place.invariant.0 c.loop-place.invariant.1.count) [
      | inl fits ↦ inl (omega (arith, fits, fill, c.in-Some.ensures.some))
      | inr over ↦ inr over
    ]) c.plan_block.ensures.fill

pub write_parts-returns-clause-refused : goal.write_parts-returns-clause-refused
write_parts-returns-clause-refused g t c = IfErr-weaker c.plan_block.result _ _ (λ refusal room. inl room) c.plan_block.ensures.refused

pub write_part-returns-then-part-eq0-clause-caused : goal.write_part-returns-then-part-eq0-clause-caused
write_part-returns-then-part-eq0-clause-caused g t c =
    c.plan_block.ensures.caused c.args.self.missing.now

pub write_part-returns-clause-caused : goal.write_part-returns-clause-caused
write_part-returns-clause-caused g t c =
    IfErr-weaker c.write_parts.result _ _ (λ refusal cause. caused_behind_reads _ _ _ _ refusal c.in_ok-parts.ensures.reads cause) c.write_parts.ensures.caused

pub write_parts-returns-in_err-block-clause-caused : goal.write_parts-returns-in_err-block-clause-caused
write_parts-returns-in_err-block-clause-caused g t c =
    passed_on _ _ _ c.from_residual.ensures.1 (caused_behind _ _ _ _ _ c.loop-place.invariant.1.steps c.in_err-block.ensures.caused)

pub write_parts-returns-clause-caused : goal.write_parts-returns-clause-caused
write_parts-returns-clause-caused g t c =
    IfErr-weaker c.plan_block.result _ _ (λ refusal cause. caused_behind _ _ _ _ refusal c.loop-place.invariant.1.steps cause) (c.plan_block.ensures.caused c.args.self.missing.now)
