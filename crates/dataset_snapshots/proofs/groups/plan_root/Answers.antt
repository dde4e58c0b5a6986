use Rattle.std.proofs.Common.{◌≡◌, ◌∙◌, ◌++◌, ℕ, [], List, All, ap, inl, inr, ⊎_elim, subst, arith}
use Rattle.std.specs.Prelude.{Any}
use Rattle.std.proofs.lemmas.Result.{IfOk-weaker, IfErr-weaker}
use Rattle.dataset_snapshots.proofs.GroupDemands.{err_both, objects_refused, ok_so, on_ok, root_places, root_refused}
use Rattle.block_store.proofs.Steps.{no_room_now, no_room_on, steps_on}
use Rattle.block_store.proofs.Telling.{tell_before}
use Rattle.dnode_tree.proofs.Refusing.{ok_both, passed_on}
use Rattle.objset.proofs.Kept.{objects_stand}
use Rattle.block_pointer.specs.declared.block.Block.{Block}
use Rattle.block_pointer.specs.Copies.{dvas}
use Rattle.block_store.specs.Blocks.{count_of}
use Rattle.block_store.specs.Places.{AreChosen, RanOut}
use Rattle.block_store.specs.Store.{Store}
use Rattle.dnode.specs.declared.object_set.ObjectSetKind.{ObjectSetKind}
use Rattle.dnode.specs.declared.object_set.ObjectSetKind.TheVariants.{Meta}
use Rattle.objset.specs.declared.changes.SetCopies.{SetCopies}
use Rattle.objset.specs.Changes.{HasNoRoom, changed, copies_of}
use Rattle.dataset_groups.proofs.Copied.{adds_of_root}
use Rattle.dataset_groups.proofs.Numbered.{none_behind, set_planned}
use Rattle.dataset_snapshots.proofs.groups.plan_root.Goals as goal

-- the meta object set has three copies
three : {kind : ObjectSetKind} → kind ≡ Meta → count_of (copies_of kind).other ≡ 3
three is = ap (λ kind. count_of (copies_of kind).other) is

three_copies : (old new : Store) (kind : ObjectSetKind) → kind ≡ Meta → RanOut old.spaces 2 (count_of (copies_of kind).other) new.spaces → RanOut old.spaces 2 3 new.spaces
three_copies old new kind is = subst (λ (count : ℕ). RanOut old.spaces 2 count new.spaces) (three is)

pub returns-clause-copies : goal.returns-clause-copies
returns-clause-copies g c = IfOk-weaker c.plan_set.result _ _ (λ root is. is ∙ three (c.in_ok-rewrite.ensures.kind ∙ c.requires.kind)) c.plan_set.ensures.copies

pub returns-in_err-rewrite-clause-no_room : goal.returns-in_err-rewrite-clause-no_room
returns-in_err-rewrite-clause-no_room g c =
    passed_on _ _ _ c.from_residual.ensures.1
    (λ is. inl (subst (λ (copies : SetCopies). HasNoRoom c.args.store.now c.change.new.store [] copies) (ap copies_of c.requires.kind) (c.in_err-rewrite.ensures.no_room is)))

all_or_none : {X : Type 0} (P : X → Type 0) (xs : List X) → All P xs → Any (λ x. ¬ P x) xs → ⊥
all_or_none P xs all (k, x, within, at, none) = none (subst P at (all k x within))

pub returns-in_err-rewrite-clause-known : goal.returns-in_err-rewrite-clause-known
returns-in_err-rewrite-clause-known g c =
    passed_on _ _ _ c.from_residual.ensures.1 (λ stored planned bound objects own blocks plans are early le tell may.
    ⊎_elim (λ why. why) (λ bad. absurd (all_or_none _ _ may bad.1)) (c.in_err-rewrite.ensures.known stored planned bound objects own blocks plans are early le tell))

pub returns-clause-steps : goal.returns-clause-steps
returns-clause-steps g c = steps_on _ _ _ _ c.in_ok-rewrite.ensures.steps c.plan_set.ensures.steps

pub returns-clause-value : goal.returns-clause-value
returns-clause-value g c =
    IfOk-weaker c.plan_set.result _ _
    (λ root all stored planned bound objects own blocks plans are le tell.
    let both = all.0 in
    let one = c.in_ok-rewrite.ensures.changed stored planned bound objects own blocks plans are le
    (tell_before c.args.store.now c.change.new.store c.plan_set.new.store [] c.in_ok-rewrite.ensures.steps c.plan_set.ensures.steps tell) in
    let two = both.0 stored one.1 one.2 in (
      two.0,
      two.1,
      λ block bytes known. two.2.kept block bytes (one.3.kept block bytes known),
      record {
        set = c.in_ok-rewrite.rewrite.set;
        is_set = two.3;
        kind_is = c.in_ok-rewrite.ensures.kind;
        own = one.3.own_after;
        blocks = one.3.after;
        are = objects_stand one.1 two.0 c.args.group root.birth c.in_ok-rewrite.rewrite.set (changed c.args.changes.now objects) one.3.own_after one.3.after (omega (arith, both.1))
            (λ block known_bytes held known. two.2.kept block known_bytes known) one.3.are;
      },
      c.in_ok-rewrite.rewrite.replaced.items,
      c.in_ok-extend_from_slice.ensures.items ∙ ap (λ (bs : List Block). c.args.replaced.now.items ++ bs) c.deref.ensures.value,
      set_planned (copies_of c.args.set.now.kind) planned one.1 two.0 c.args.group c.args.set.now c.in_ok-rewrite.rewrite c.args.changes.now (changed c.args.changes.now objects) own blocks root _
          (none_behind stored bound c.args.set.now objects own blocks are) c.requires.order one.3 two.2 both.1,
      adds_of_root c.args.set.now.kind planned one.1 two.0 c.args.group c.in_ok-rewrite.rewrite c.args.changes.now _ own blocks root _ c.requires.kind one.3 two.2
          (all.1 ∙ three (c.in_ok-rewrite.ensures.kind ∙ c.requires.kind)),
    ))
    (ok_both c.plan_set.result _ _ (ok_both c.plan_set.result _ _ c.plan_set.ensures.planned c.plan_set.ensures.birth) c.plan_set.ensures.copies)

pub returns-clause-no_room : goal.returns-clause-no_room
returns-clause-no_room g c =
    IfErr-weaker c.plan_set.result _ _
    (λ refusal no is. inr (no_room_on c.args.store.now c.change.new.store c.plan_set.new.store [] 2 3 c.in_ok-rewrite.ensures.steps
    (no_room_now c.change.new.store c.plan_set.new.store [] 2 3
    (three_copies c.change.new.store c.plan_set.new.store _ (c.in_ok-rewrite.ensures.kind ∙ c.requires.kind) (no is)))))
    c.plan_set.ensures.no_room

pub returns-clause-known : goal.returns-clause-known
returns-clause-known g c = IfErr-weaker c.plan_set.result _ _ (λ refusal room stored planned bound objects own blocks plans are early le tell may. inl room) c.plan_set.ensures.refused

pub returns-in_err-rewrite-clause-refused : goal.returns-in_err-rewrite-clause-refused
returns-in_err-rewrite-clause-refused g c = passed_on _ _ _ c.from_residual.ensures.1 (objects_refused _ _ _ _ _ _ _ _ (ap copies_of c.requires.kind) c.in_err-rewrite.ensures.refused)

pub returns-clause-places : goal.returns-clause-places
returns-clause-places g c =
    ok_so c.plan_set.result _ _ (λ block both. root_places c.args.store.now c.change.new.store c.plan_set.new.store c.args.set.now c.args.group _ c.args.changes.now block (ap copies_of c.requires.kind)
    c.in_ok-rewrite.ensures.places (both.0 ∙ three (c.in_ok-rewrite.ensures.kind ∙ c.requires.kind))
    (subst (λ (count : ℕ). AreChosen c.change.new.store.spaces [] 2 count (dvas block.copies) c.plan_set.new.store.spaces)
    (three (c.in_ok-rewrite.ensures.kind ∙ c.requires.kind)) both.1)) (ok_both c.plan_set.result _ _ c.plan_set.ensures.copies c.plan_set.ensures.places)

pub returns-clause-behind : goal.returns-clause-behind
returns-clause-behind g c =
    on_ok c.plan_set.result _ (
      c.in_ok-rewrite.rewrite.replaced.items,
      c.in_ok-extend_from_slice.ensures.items ∙ ap (λ (bs : List Block). c.args.replaced.now.items ++ bs) c.deref.ensures.value,
    )

pub returns-clause-refused : goal.returns-clause-refused
returns-clause-refused g c =
    IfErr-weaker c.plan_set.result _ _ (λ refusal both. root_refused c.args.store.now c.change.new.store c.plan_set.new.store c.args.set.now c.args.before c.args.group _ c.args.changes.now refusal (ap copies_of c.requires.kind)
    c.in_ok-rewrite.ensures.places both.0
    (λ is. three_copies c.change.new.store c.plan_set.new.store _ (c.in_ok-rewrite.ensures.kind ∙ c.requires.kind) (both.1 is))) (err_both c.plan_set.result _ _ c.plan_set.ensures.refused c.plan_set.ensures.no_room)
