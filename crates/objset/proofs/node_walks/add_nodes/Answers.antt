use Rattle.std.proofs.Common.{refl, ℕ, ◌++◌, Some, append_assoc, ◌≡◌, ◌*◌, ◌+◌, [], ◌∷◌, ap, sym, ◌∙◌, subst, arith, append-nil}
use Rattle.std.specs.List.{All}
use Rattle.std.proofs.lemmas.List.Elements.{All-push}
use Rattle.dnode.specs.Node.{FitsNode}
use Rattle.objset.specs.declared.node_walks.FoundNode.{FoundNode}
use Rattle.dnode.specs.declared.dnode.Dnode.{Dnode}
use Rattle.objset.specs.Nodes.{IsNodeIn}
use Rattle.objset.specs.NodeSlots.{HasSlots}
use Rattle.objset.specs.NodesWithin.{IsNodeAt}
use Rattle.objset.proofs.Objects.{node_fits, used_object, used_free, one_more, whole_block}
use Rattle.objset.proofs.node_walks.add_nodes.Goals.{in-Object+in_ok-push, in_default}
use Rattle.objset.proofs.node_walks.add_nodes.Goals as goal

pub loop-place-preserved : goal.loop-place-preserved
loop-place-preserved c =
    let is : (id : ℕ) (dnodes : ℕ → Dnode) → HasSlots c.args.bytes.now id dnodes → c.in_ok-dnode.dnode ≡ dnodes (32 * id + c.loop-place.place) = λ id dnodes has.
    let same = c.in_ok-dnode.ensures.only (dnodes (32 * id + c.loop-place.place)) (has c.loop-place.place c.loop-place-test.true) in cc in
    elim c.match-dnode.branch [
      | in-Object+in_ok-push w ↦
          let it : FoundNode = record { node = w.in-Object.node; birth = c.args.birth } in record {
            fits = λ were.
                subst (All (λ (it : FoundNode). FitsNode it.node)) (sym (ap (λ n. n.items) w.nodes-is ∙ w.in_ok-push.ensures))
                (All-push (λ (it : FoundNode). FitsNode it.node) c.loop-place.nodes.items it (c.loop-place.invariant.fits were)
                (node_fits c.args.bytes.now c.loop-place.place c.in_ok-dnode.dnode w.in-Object.node w.in-Object.is c.in_ok-dnode.ensures.found));
            added = c.loop-place.invariant.added ++ it ∷ [];
            added_are = ap (λ n. n.items) w.nodes-is ∙ w.in_ok-push.ensures ∙ ap (λ front. front ++ it ∷ []) c.loop-place.invariant.added_are
                ∙ append_assoc c.args.nodes.now.items c.loop-place.invariant.added (it ∷ []);
            at = All-push (IsNodeAt c.args.bytes.now c.args.birth) c.loop-place.invariant.added it c.loop-place.invariant.at (record {
              place = c.loop-place.place;
              low = c.loop-place-test.true;
              is_in = subst (λ (d : Dnode). IsNodeIn (Some c.args.bytes.now) c.loop-place.place d) w.in-Object.is c.in_ok-dnode.ensures.found;
              born = refl;
            });
            value = λ id dnodes births has born.
                one_more dnodes births id c.loop-place.place c.args.birth c.in_ok-dnode.dnode c.args.nodes.now.items c.loop-place.nodes.items c.match-dnode.nodes.items (it ∷ [])
                c.loop-place-test.true born (is id dnodes has) (sym (used_object c.in_ok-dnode.dnode w.in-Object.node c.args.birth w.in-Object.is)) (ap (λ n. n.items) w.nodes-is ∙ w.in_ok-push.ensures)
                (c.loop-place.invariant.value id dnodes births has born);
          }
      | in_default w ↦ record {
        fits = λ were. subst (λ (n : _). All (λ (it : FoundNode). FitsNode it.node) n.items) (sym w.nodes-is) (c.loop-place.invariant.fits were);
        added = c.loop-place.invariant.added;
        added_are = ap (λ n. n.items) w.nodes-is ∙ c.loop-place.invariant.added_are;
        at = c.loop-place.invariant.at;
        value = λ id dnodes births has born.
            one_more dnodes births id c.loop-place.place c.args.birth c.in_ok-dnode.dnode c.args.nodes.now.items c.loop-place.nodes.items c.match-dnode.nodes.items []
            c.loop-place-test.true born (is id dnodes has) (sym (used_free c.in_ok-dnode.dnode c.args.birth w.in_default.is)) (ap (λ n. n.items) w.nodes-is ∙ sym (append-nil c.loop-place.nodes.items))
            (c.loop-place.invariant.value id dnodes births has born);
      }
    ]

pub returns-clause-from : goal.returns-clause-from
returns-clause-from c = (c.loop-place.invariant.added, c.loop-place.invariant.added_are, c.loop-place.invariant.at)

pub returns-clause-value : goal.returns-clause-value
returns-clause-value c = λ id dnodes births has born.
    whole_block dnodes births id c.loop-place.place c.args.nodes.now.items c.loop-place.nodes.items (omega (arith, c.loop-place-test.false, c.loop-place.auto.place-end))
    (c.loop-place.invariant.value id dnodes births has born)
