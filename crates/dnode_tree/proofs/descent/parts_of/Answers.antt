use Rattle.std.proofs.Common.{◌≡◌, inl, suc, get_or, ◌+◌, ◌*◌, ◌^◌, ◌-◌, ◌++◌, subst, sym, ap, ◌∙◌, arith}
use Rattle.block_store.specs.Reading.{Asks}
use Rattle.dnode_tree.proofs.Collecting.{parts_below}
use Rattle.block_pointer.specs.declared.pointer.BlockPtr.TheVariants.{Hole}
use Rattle.dnode_tree.proofs.Births.{births_at_hole, births_below}
use Rattle.dnode_tree.proofs.Holes.{hole_parts, same_at}
use Rattle.dnode_tree.specs.Births.{AreBirths}
use Rattle.dnode_tree.proofs.Parts.{hole_part, indirect_part}
use Rattle.dnode_tree.proofs.Refusing.{passed_on}
use Rattle.dnode_tree.specs.PartsRefused.{reached_part}
use Rattle.dnode_tree.specs.Tree.{property_of}
use Rattle.dnode_tree.specs.Subtree.{blocks_at, joined}
use Rattle.dnode_tree.proofs.WayLemmas.{comes_at_once, refused_indirect}
use Rattle.dnode_tree.proofs.descent.parts_of.Goals as goal

pub returns-in_default-clause-parts : goal.returns-in_default-clause-parts
returns-in_default-clause-parts g c =
    let e : c.args.part.level ≡ suc (c.args.part.level - 1) = omega arith in
    λ stored first array blocks held part tell.
    let empty = hole_part stored (property_of c.args.node.now) c.args.part.level first c.args.part.birth c.args.part.pointer array blocks c.in_default.is part in
    let below = hole_parts stored (property_of c.args.node.now) c.args.part.level (c.args.part.level - 1) first c.args.part.birth _ array e empty.0 c.in_ok-holes.ensures in
    (below.0, below.1, empty.1 ∙ sym (ap (λ pointer. blocks_at pointer ++ joined below.0) c.in_default.is ∙ below.2))

pub returns-in_err-read_indirect-clause-known : goal.returns-in_err-read_indirect-clause-known
returns-in_err-read_indirect-clause-known g c =
    let e : c.args.part.level ≡ suc (c.args.part.level - 1) = omega arith in
    passed_on _ _ _ c.from_residual-in_err-read_indirect.ensures.1
    (λ stored first array blocks held part tell.
    let there = indirect_part stored (property_of c.args.node.now) c.args.part.level _ first c.args.part.birth c.args.part.pointer c.in-Block.block array blocks e c.in-Block.is part in
    c.in_err-read_indirect.ensures.known stored there.bytes there.pointers held there.known there.spelled
    (subst (λ asked. Asks asked c.in-Block.block) (sym c.asked_at-asked.ensures) there.asks) tell)

pub returns-clause-parts : goal.returns-clause-parts
returns-clause-parts g c =
    let e : c.args.part.level ≡ suc (c.args.part.level - 1) = omega arith in
    λ stored first array blocks held part tell.
    let there = indirect_part stored (property_of c.args.node.now) c.args.part.level (c.args.part.level - 1) first c.args.part.birth c.args.part.pointer c.in-Block.block array blocks e c.in-Block.is part in
    let read = c.in_ok-read_indirect.ensures.value stored there.bytes there.pointers held there.known there.spelled tell in (
      there.parts,
      parts_below stored (property_of c.args.node.now) c.args.part.level (c.args.part.level - 1) first c.args.part.birth c.args.part.pointer c.in-Block.block array blocks _ e c.in-Block.is part read,
      there.blocks_are ∙ sym (ap (λ pointer. blocks_at pointer ++ joined there.parts) c.in-Block.is),
    )

pub returns-in_default-clause-births : goal.returns-in_default-clause-births
returns-in_default-clause-births g c = λ stored first births held were tell k low.
    subst (λ p. AreBirths stored (c.args.part.level - 1) (first + k * 128 ^ (c.args.part.level - 1)) p births)
    (sym (ap (λ ps. get_or ps k Hole) c.in_ok-holes.ensures ∙ same_at 128 k Hole))
    (births_at_hole stored (c.args.part.level - 1) (first + k * 128 ^ (c.args.part.level - 1)) births)

pub returns-clause-births : goal.returns-clause-births
returns-clause-births g c =
    let e : c.args.part.level ≡ suc (c.args.part.level - 1) = omega arith in
    λ stored first births held were tell k low.
    let there = births_below stored c.args.part.level (c.args.part.level - 1) first c.args.part.pointer c.in-Block.block births e c.in-Block.is were in
    let read = c.in_ok-read_indirect.ensures.value stored there.bytes there.pointers held there.known there.spelled tell in
    subst (λ ps. AreBirths stored (c.args.part.level - 1) (first + k * 128 ^ (c.args.part.level - 1)) (get_or ps k Hole) births) (sym read) (there.below k low)

pub returns-in_err-holes-clause-refused : goal.returns-in_err-holes-clause-refused
returns-in_err-holes-clause-refused g c =
    passed_on _ _ _ c.from_residual.ensures.1
    (λ place. record {
      there = reached_part c.args.part;
      leads = comes_at_once c.args.store.now.spaces (property_of c.args.node.now) c.args.part.level c.args.part.birth c.args.part.pointer place;
      fault = tt;
    })

pub returns-in_default-clause-read : goal.returns-in_default-clause-read
returns-in_default-clause-read g c = inl (c.in_default.is, (λ k. ap (λ ps. get_or ps k Hole) c.in_ok-holes.ensures ∙ same_at 128 k Hole))

pub returns-in_err-read_indirect-clause-refused : goal.returns-in_err-read_indirect-clause-refused
returns-in_err-read_indirect-clause-refused g c =
    passed_on _ _ _ c.from_residual-in_err-read_indirect.ensures.1
    (λ place.
    refused_indirect c.args.store.now c.read_indirect.new.store c.args.missing.now (property_of c.args.node.now) c.args.part.level c.args.part.birth c.args.part.pointer place
    c.in-Block.block c.asked_at-asked.result _ (omega arith) c.asked_at-asked.ensures c.in-Block.is c.in_err-read_indirect.ensures.refused)
