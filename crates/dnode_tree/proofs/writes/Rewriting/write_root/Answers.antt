use Rattle.std.proofs.Common.{◌≡◌, inl, inr, ◌-◌, ◌∙◌, ◌||◌, refl, subst, length, if◌then◌else◌, sym, ap, rules}
use Rattle.dnode.specs.Levels.{levels_of}
use Rattle.dnode_tree.proofs.Births.{births_as}
use Rattle.dnode_tree.specs.Births.{reaches}
use Rattle.std.proofs.lemmas.List.{nil_from_length}
use Rattle.block_store.proofs.Steps.{steps_none}
use Rattle.dnode_tree.proofs.Raising.{root_stays}
use Rattle.dnode_tree.proofs.Refusing.{passed_on}
use Rattle.dnode_tree.specs.Births.{height_of}
use Rattle.dnode_tree.specs.Spots.{spots_in, is_there, has_some}
use Rattle.dnode_tree.proofs.Raised.{or_false}
use Rattle.dnode_tree.proofs.PutRefused.{root_overfull}
use Rattle.dnode_tree.proofs.Spots.{HavePlacesAt, unreached}
use Rattle.dnode_tree.proofs.writes.Rewriting.write_root.Goals as goal

pub returns-then-is_empty-clause-rewritten : goal.returns-then-is_empty-clause-rewritten
returns-then-is_empty-clause-rewritten g c =
    let none : length c.args.writes.now ≡ 0 = search rules in
    let nil = nil_from_length c.args.writes.now none in
    λ ages stored planned array blocks plans part aged tell. (
      planned,
      plans,
      root_stays stored planned _ _ 0 c.args.self.birth c.args.self.node.now.pointer array blocks _ _ plans.kept nil part
          (λ told told_is.
          births_as stored planned plans.kept (levels_of c.args.self.node.now.highest - 1) 0 c.args.self.node.now.pointer told.old told.new
          (λ low from under above before.
          sym ((aged told told_is).1 low from under above before ∙ ap (λ ws. if reaches ws low from then c.args.self.birth else told.old low from) nil))
          (aged told told_is).0),
    )

pub returns-in_err-block-clause-known : goal.returns-in_err-block-clause-known
returns-in_err-block-clause-known g c = passed_on _ _ _ c.from_residual.ensures.1 (rw c.levels.ensures at c.in_err-block.ensures.known)

pub returns-clause-rewritten : goal.returns-clause-rewritten
returns-clause-rewritten g c = rw c.levels.ensures at c.in_ok-block.ensures.rewritten

pub returns-then-is_empty-clause-steps : goal.returns-then-is_empty-clause-steps
returns-then-is_empty-clause-steps g c = steps_none _ _

pub returns-then-is_empty-clause-places : goal.returns-then-is_empty-clause-places
returns-then-is_empty-clause-places g c =
    let none : length c.args.writes.now ≡ 0 = search rules in
    let nil = nil_from_length c.args.writes.now none in
    subst (λ spots. HavePlacesAt c.args.self.node.now c.args.self.copies c.args.store.now.spaces spots c.args.store.now.spaces)
    (sym (ap (λ ws. spots_in ws (height_of c.args.self.node.now) 0) nil ∙ unreached (height_of c.args.self.node.now) 0)) refl

pub returns-then-is_empty-clause-there : goal.returns-then-is_empty-clause-there
returns-then-is_empty-clause-there g c =
    let none : length c.args.writes.now ≡ 0 = search rules in
    let nil = nil_from_length c.args.writes.now none in
    sym (ap (λ ws. is_there c.args.self.node.now.pointer || has_some ws) nil ∙ or_false (is_there c.args.self.node.now.pointer))

-- ---- refusals

pub returns-then-is_empty-clause-full : goal.returns-then-is_empty-clause-full
returns-then-is_empty-clause-full g c = root_overfull c.args.store.now.spaces c.args.self.node.now _ c.args.writes.now

pub returns-in_err-block-clause-refused : goal.returns-in_err-block-clause-refused
returns-in_err-block-clause-refused g c = passed_on _ _ _ c.from_residual.ensures.1 (rw c.levels.ensures at c.in_err-block.ensures.refused)

pub returns-clause-full : goal.returns-clause-full
returns-clause-full g c = elim (rw c.levels.ensures at c.in_ok-block.ensures.full) [ inl fits ↦ inl fits | inr over ↦ inr (inr over) ]
