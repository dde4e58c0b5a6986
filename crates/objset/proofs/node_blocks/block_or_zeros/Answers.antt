use Rattle.std.proofs.Common.{◌≡◌, ◌+◌, ◌*◌, ℕ, Option, Some, None, Vec, Global, replicate, refl, ap, sym, ◌∙◌, subst, arith}
use Rattle.std.specs.Option.{option_map}
use Rattle.dnode.specs.declared.dnode.Dnode.TheVariants.{Free}
use Rattle.objset.specs.Nodes.{IsNodeIn}
use Rattle.objset.specs.Nodes.{slot_of}
use Rattle.objset.proofs.BlockLists.{slots_of_block}
use Rattle.objset.proofs.NodeLists.{spells_as}
use Rattle.objset.proofs.SlotBytes.{zeros_are_free}
use Rattle.dnode_tree.proofs.Refusing.{passed_on}
use Rattle.objset.proofs.Refusing.{refused_for_memory}
use Rattle.objset.proofs.node_blocks.block_or_zeros.Goals as goal

pub returns-in-Some-clause-value : goal.returns-in-Some-clause-value
returns-in-Some-clause-value g c = λ stored array nodes blocks held tree are tell place low.
    let is : Some c.in-Some.bytes.items ≡ array c.args.id =
    sym (ap (λ (found : Option (Vec ℕ Global)). option_map (λ bytes. bytes.items) found) c.in-Some.is) ∙ c.in_ok-bytes.ensures.value stored array blocks held tree tell in
    subst (λ found. IsNodeIn found place (nodes (32 * c.args.id + place))) (sym is) (slots_of_block array nodes c.args.id place low are)

pub returns-in_ok-vec-in-None-clause-value : goal.returns-in_ok-vec-in-None-clause-value
returns-in_ok-vec-in-None-clause-value g c = λ stored array nodes blocks held tree are tell place low.
    let is : None ≡ array c.args.id =
    sym (ap (λ (found : Option (Vec ℕ Global)). option_map (λ bytes. bytes.items) found) c.in-None.is) ∙ c.in_ok-bytes.ensures.value stored array blocks held tree tell in
    let free : nodes (32 * c.args.id + place) ≡ Free =
    subst (λ found. IsNodeIn found place (nodes (32 * c.args.id + place))) (sym is) (slots_of_block array nodes c.args.id place low are) in
    let zeros : c.in_ok-vec-in-None.field-0.items ≡ replicate 16384 0 = c.in_ok-vec-in-None.ensures.items_if_clones_equal (λ y h. h) in
    spells_as (slot_of c.in_ok-vec-in-None.field-0.items place) (replicate 512 0) (nodes (32 * c.args.id + place)) Free
    (ap (λ bytes. slot_of bytes place) zeros ∙ zeros_are_free 16384 512 (512 * place) (omega (arith, low))) free (tt, refl)

pub returns-in_err-vec-in-None-clause-refused : goal.returns-in_err-vec-in-None-clause-refused
returns-in_err-vec-in-None-clause-refused g c = passed_on _ _ _ c.from_residual-in_err-vec-in-None.ensures.1 (refused_for_memory _ _ _ _ _ _)
