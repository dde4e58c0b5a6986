use Rattle.std.proofs.lemmas.List.{nil_from_length}
use Rattle.block_pointer.specs.declared.pointer.BlockPtr.TheVariants.{Hole}
use Rattle.std.proofs.Common.{◌≡◌, ◌≢◌, ◌<◌, ◌||◌, inl, inr, true, if◌then◌else◌, refl, sym, subst, length, rules, [], ◌∷◌, replicate, set, ap, ◌∙◌, arith}
use Rattle.block_store.proofs.Steps.{steps_none}
use Rattle.dnode_tree.proofs.Raising.{raising_begins, raised, hole_raised, six_levels}
use Rattle.dnode_tree.proofs.Refusing.{passed_on}
use Rattle.dnode_tree.specs.Tree.{property_of}
use Rattle.dnode_tree.specs.Spots.{spots_below, spots_of_raise, is_there, has_some}
use Rattle.dnode_tree.proofs.PutRefused.{raised_overfull, raised_refused}
use Rattle.dnode_tree.proofs.Spots.{HavePlacesAt, LackPlacesAt}
use Rattle.dnode_tree.proofs.Raised.{test_passes}
use Rattle.dnode_tree.proofs.writes.Rewriting.raise.Goals.{else-is_hole-via-then-is_hole+else-is_empty, else-is_hole-via-else-is_hole}
use Rattle.dnode_tree.proofs.writes.Rewriting.raise.Goals as goal

pub write_parts-requires-clause-room : goal.write_parts-requires-clause-room
write_parts-requires-clause-room g c = omega (arith, six_levels c.args.level c.requires.low)

pub returns-in_err-block-clause-known : goal.returns-in_err-block-clause-known
returns-in_err-block-clause-known g c =
    passed_on _ _ _ c.from_residual-in_err-block.ensures.1
    (λ ages stored planned now array new_array before noted plans part behind has aged tell.
    c.in_err-block.ensures.known ages stored planned now array new_array (before ∷ replicate 127 []) (part.blocks ∷ []) noted plans
    (raising_begins stored planned now (property_of c.args.self.node.now) c.args.level c.args.self.birth c.args.root _ array new_array before noted _
    (c.set.ensures ∙ ap (λ ps. set ps 0 c.args.root) c.in_ok-pointers.ensures) behind part)
    (λ id above under. has id (omega (arith, above)) (omega (arith, under)))
    (λ told told_is.
    let both = aged told told_is in
    (both.0, (λ low first under above before. both.1 low first under (omega (arith, above)) (omega (arith, before))))) tell)

pub returns-clause-rewritten : goal.returns-clause-rewritten
returns-clause-rewritten g c =
    λ ages stored planned now array new_array before noted plans part behind has aged tell.
    let done = c.in_ok-block.ensures.rewritten ages stored planned now array new_array (before ∷ replicate 127 []) (part.blocks ∷ []) noted plans
    (raising_begins stored planned now (property_of c.args.self.node.now) c.args.level c.args.self.birth c.args.root _ array new_array before noted _
    (c.set.ensures ∙ ap (λ ps. set ps 0 c.args.root) c.in_ok-pointers.ensures) behind part)
    (λ id above under. has id (omega (arith, above)) (omega (arith, under)))
    (λ told told_is.
    let both = aged told told_is in
    (both.0, (λ low first under above before. both.1 low first under (omega (arith, above)) (omega (arith, before))))) tell in (
      done.0,
      done.1,
      raised planned done.0 (property_of c.args.self.node.now) c.args.level c.args.self.birth c.in_ok-block.block new_array before noted _ done.2,
    )

pub returns-then-is_empty-clause-steps : goal.returns-then-is_empty-clause-steps
returns-then-is_empty-clause-steps g c = steps_none _ _

pub returns-in_err-pointers-clause-steps : goal.returns-in_err-pointers-clause-steps
returns-in_err-pointers-clause-steps g c = steps_none _ _

pub returns-then-is_empty-clause-rewritten : goal.returns-then-is_empty-clause-rewritten
returns-then-is_empty-clause-rewritten g c =
    let is : c.args.root ≡ Hole = search rules in
    let none : length c.args.writes.now ≡ 0 = search rules in
    λ ages stored planned now array new_array before noted plans part behind has aged tell. (
      now,
      plans,
      hole_raised planned now (property_of c.args.self.node.now) c.args.level c.args.self.birth c.args.root array new_array before noted _ c.args.writes.now is (nil_from_length c.args.writes.now none) behind has part,
    )

pub returns-then-is_empty-clause-places : goal.returns-then-is_empty-clause-places
returns-then-is_empty-clause-places g c =
    let is : c.args.root ≡ Hole = search rules in
    let none : length c.args.writes.now ≡ 0 = search rules in
    subst (λ spots. HavePlacesAt c.args.self.node.now c.args.self.copies c.args.store.now.spaces spots c.args.store.now.spaces)
    (sym (ap (λ p. spots_of_raise p c.args.writes.now c.args.level) is ∙ ap (λ ws. spots_of_raise Hole ws c.args.level) (nil_from_length c.args.writes.now none))) refl

pub returns-then-is_empty-clause-there : goal.returns-then-is_empty-clause-there
returns-then-is_empty-clause-there g c =
    let is : c.args.root ≡ Hole = search rules in
    let none : length c.args.writes.now ≡ 0 = search rules in
    sym (ap (λ p. is_there p || has_some c.args.writes.now) is ∙ ap has_some (nil_from_length c.args.writes.now none))

pub returns-in_err-block-clause-no_place : goal.returns-in_err-block-clause-no_place
returns-in_err-block-clause-no_place g c =
    let passes : (is_there c.args.root || has_some c.args.writes.now) ≡ true =
    test_passes c.args.root c.args.writes.now (elim c.else-is_hole.branch [
      | else-is_hole-via-then-is_hole+else-is_empty w ↦ inr (let some : 0 < length c.args.writes.now = search rules in some)
      | else-is_hole-via-else-is_hole w ↦ inl (let other : c.args.root ≢ Hole = search rules in other)
    ]) in
    passed_on _ _ _ c.from_residual-in_err-block.ensures.1
    (λ none.
    subst (λ test. LackPlacesAt c.args.self.node.now c.args.self.copies c.args.store.now.spaces (if test then spots_below c.args.writes.now c.args.level 0 1 127 else []) c.write_parts.new.store.spaces)
    (sym passes) (c.in_err-block.ensures.no_place none))

pub returns-clause-places : goal.returns-clause-places
returns-clause-places g c =
    let passes : (is_there c.args.root || has_some c.args.writes.now) ≡ true =
    test_passes c.args.root c.args.writes.now (elim c.else-is_hole.branch [
      | else-is_hole-via-then-is_hole+else-is_empty w ↦ inr (let some : 0 < length c.args.writes.now = search rules in some)
      | else-is_hole-via-else-is_hole w ↦ inl (let other : c.args.root ≢ Hole = search rules in other)
    ]) in
    subst (λ test. HavePlacesAt c.args.self.node.now c.args.self.copies c.args.store.now.spaces (if test then spots_below c.args.writes.now c.args.level 0 1 127 else []) c.write_parts.new.store.spaces)
    (sym passes) c.in_ok-block.ensures.places

pub returns-clause-there : goal.returns-clause-there
returns-clause-there g c =
    let passes : (is_there c.args.root || has_some c.args.writes.now) ≡ true =
    test_passes c.args.root c.args.writes.now (elim c.else-is_hole.branch [
      | else-is_hole-via-then-is_hole+else-is_empty w ↦ inr (let some : 0 < length c.args.writes.now = search rules in some)
      | else-is_hole-via-else-is_hole w ↦ inl (let other : c.args.root ≢ Hole = search rules in other)
    ]) in
    sym passes

-- ---- refusals

pub returns-in_err-pointers-clause-refused : goal.returns-in_err-pointers-clause-refused
returns-in_err-pointers-clause-refused g c = passed_on _ _ _ c.from_residual.ensures.1 (inl (inl refl))

pub returns-in_err-block-clause-refused : goal.returns-in_err-block-clause-refused
returns-in_err-block-clause-refused g c =
    passed_on _ _ _ c.from_residual-in_err-block.ensures.1
    (raised_refused c.args.self.node.now c.args.level c.args.self.birth c.args.root _ c.args.writes.now (c.set.ensures ∙ ap (λ ps. set ps 0 c.args.root) c.in_ok-pointers.ensures)
    c.args.store.now c.write_parts.new.store c.args.self.missing.now _ c.in_err-block.ensures.refused)

pub returns-clause-full : goal.returns-clause-full
returns-clause-full g c = elim c.in_ok-block.ensures.full [
  | inl fits ↦ inl fits
  | inr over ↦
      inr (raised_overfull c.args.self.node.now c.args.level c.args.self.birth c.args.root _ c.args.writes.now (c.set.ensures ∙ ap (λ ps. set ps 0 c.args.root) c.in_ok-pointers.ensures)
      c.args.store.now.spaces over)
]
