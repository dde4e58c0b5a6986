use Rattle.std.proofs.Common.{get_or, ◌*◌, ◌+◌, List, ℕ, inl, inr, sym, ◌∙◌, subst, arith}
use Rattle.std.proofs.lemmas.Result.{on_ok_weaker, IfErr-weaker}
use Rattle.dnode_tree.proofs.Refusing.{passed_on}
use Rattle.objset.specs.Nodes.{IsNodeIn}
use Rattle.objset.specs.NodeSlots.{HasSlots}
use Rattle.objset.specs.NodesWithin.{IsNodeAt}
use Rattle.std.specs.Prelude.{Some}
use Rattle.dnode_tree.proofs.Refusing.{caused_by_memory, caused_by_pointer}
use Rattle.objset.proofs.node_walks.read_nodes.Goals as goal

pub returns-in_err-bytes-clause-known : goal.returns-in_err-bytes-clause-known
returns-in_err-bytes-clause-known g c =
    passed_on _ _ _ c.from_residual.ensures.1
    (λ stored id bytes dnodes held known slots same some tell.
    c.in_err-bytes.ensures.known stored bytes held known (record { property = same; birth = omega arith }) tell)

pub returns-clause-value : goal.returns-clause-value
returns-clause-value g c =
    on_ok_weaker c.add_nodes.result
    (λ value stored id bytes dnodes births held known slots born tell.
    value id dnodes births
    (subst (λ (bs : List ℕ). HasSlots bs id dnodes) (sym (c.deref.ensures.value ∙ c.in_ok-bytes.ensures.bytes stored bytes held known tell)) slots) born)
    c.add_nodes.ensures.value

pub returns-clause-refused : goal.returns-clause-refused
returns-clause-refused g c =
    IfErr-weaker c.add_nodes.result _ _
    (λ refusal why. elim why [
      | inl memory ↦ inl memory
      | inr bad ↦ inr (inl (
        bad.0,
        inr (inr (record {
          bytes = c.in_ok-bytes.bytes.items;
          read = record { readable = c.in_ok-bytes.ensures.readable; size = c.in_ok-bytes.ensures.size; digest = c.in_ok-bytes.ensures.digest };
          place = bad.1;
          low = bad.2;
          none = λ node. subst (λ (bs : List ℕ). ¬ IsNodeIn (Some bs) bad.1 node) c.deref.ensures.value (bad.3 node);
        })),
      ))
    ])
    c.add_nodes.ensures.refused

pub returns-clause-known : goal.returns-clause-known
returns-clause-known g c =
    IfErr-weaker c.add_nodes.result _ _
    (λ refusal why stored id bytes dnodes held known slots same some tell. elim why [
      | inl memory ↦ inl memory
      | inr bad ↦
          let read = c.deref.ensures.value ∙ c.in_ok-bytes.ensures.bytes stored bytes held known tell in
          absurd (bad.3 (dnodes (32 * id + bad.1)) (subst (λ (bs : List ℕ). HasSlots bs id dnodes) (sym read) slots bad.1 bad.2))
    ])
    c.add_nodes.ensures.refused

pub returns-clause-from : goal.returns-clause-from
returns-clause-from g c =
    on_ok_weaker c.add_nodes.result
    (λ from. (
      from.0,
      from.1,
      λ k other low.
          let at : IsNodeAt c.in_ok-bytes.bytes.items c.args.block.now.birth (get_or from.0 k other) =
          subst (λ (bs : List ℕ). IsNodeAt bs c.args.block.now.birth (get_or from.0 k other)) c.deref.ensures.value (from.2 k other low) in
          record {
            bytes = c.in_ok-bytes.bytes.items;
            read = record { readable = c.in_ok-bytes.ensures.readable; size = c.in_ok-bytes.ensures.size; digest = c.in_ok-bytes.ensures.digest };
            at = at;
          },
    ))
    c.add_nodes.ensures.from

pub returns-clause-caused : goal.returns-clause-caused
returns-clause-caused g c =
    IfErr-weaker c.add_nodes.result _ _
    (λ refusal why. elim why [ inl memory ↦ caused_by_memory _ _ _ refusal memory | inr bad ↦ caused_by_pointer _ _ _ refusal bad.0 ])
    c.add_nodes.ensures.refused
