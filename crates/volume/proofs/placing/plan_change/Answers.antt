use Rattle.std.proofs.Common.{◌≡◌, ◌∙◌, ℕ, [], ap, inl, inr, ⊎_elim, refl, subst}
use Rattle.block_store.proofs.Steps.{steps_on, no_room_now, no_room_on}
use Rattle.block_store.proofs.Telling.{tell_before}
use Rattle.block_pointer.specs.Copies.{dvas}
use Rattle.block_store.specs.Blocks.{count_of}
use Rattle.block_store.specs.Places.{AreChosen, RanOut}
use Rattle.block_store.specs.Store.{Store}
use Rattle.dnode.specs.declared.object_set.ObjectSetKind.{ObjectSetKind}
use Rattle.dnode.specs.declared.object_set.ObjectSetKind.TheVariants.{Volume}
use Rattle.objset.specs.Changes.{AreChanged, HasNoRoom, changed, copies_of}
use Rattle.objset.specs.declared.changes.SetCopies.{SetCopies}
use Rattle.volume.specs.Placing.{data_change}
use Rattle.volume.proofs.Demanding.{objects_refused, places_with_set, set_refused}
use Rattle.volume.proofs.Putting.{not_refused}
use Rattle.volume.proofs.Refusing.{passed_on}
use Rattle.block_store.proofs.Causes.{caused_behind}
use Rattle.volume.proofs.placing.plan_change.Goals as goal

-- a volume's set has two copies
count_two : {kind : ObjectSetKind} → kind ≡ Volume → count_of (copies_of kind).other ≡ 2
count_two is = ap (λ kind. count_of (copies_of kind).other) is

two_copies : (old new : Store) (kind : ObjectSetKind) → kind ≡ Volume → RanOut old.spaces 2 (count_of (copies_of kind).other) new.spaces → RanOut old.spaces 2 2 new.spaces
two_copies old new kind is = subst (λ (count : ℕ). RanOut old.spaces 2 count new.spaces) (count_two is)

pub returns-in_err-rewrite-clause-known : goal.returns-in_err-rewrite-clause-known
returns-in_err-rewrite-clause-known g c =
    passed_on _ _ _ c.from_residual.ensures.1 (λ stored planned bound objects own before plans are early le may tell.
    ⊎_elim (λ wanting. wanting) (λ bad. not_refused c.args.change objects may bad.1)
    (c.in_err-rewrite.ensures.known stored planned bound objects own before plans are early le tell))

pub returns-in_err-block-clause-steps : goal.returns-in_err-block-clause-steps
returns-in_err-block-clause-steps g c = steps_on _ _ _ _ c.in_ok-rewrite.ensures.steps c.plan_set.ensures.steps

pub returns-in_err-block-clause-no_room : goal.returns-in_err-block-clause-no_room
returns-in_err-block-clause-no_room g c =
    passed_on _ _ _ c.from_residual-in_err-block.ensures.1
    (λ is. inr (no_room_on c.args.store.now c.change.new.store c.plan_set.new.store [] 2 2 c.in_ok-rewrite.ensures.steps
    (no_room_now c.change.new.store c.plan_set.new.store [] 2 2 (two_copies c.change.new.store c.plan_set.new.store _ (c.in_ok-rewrite.ensures.kind ∙ c.requires.kind) (c.in_err-block.ensures.no_room is)))))

pub returns-in_err-block-clause-known : goal.returns-in_err-block-clause-known
returns-in_err-block-clause-known g c =
    passed_on _ _ _ c.from_residual-in_err-block.ensures.1 (λ stored planned bound objects own before plans are early le may tell. inl c.in_err-block.ensures.refused)

pub returns-clause-steps : goal.returns-clause-steps
returns-clause-steps g c = steps_on _ _ _ _ c.in_ok-rewrite.ensures.steps c.plan_set.ensures.steps

pub returns-clause-value : goal.returns-clause-value
returns-clause-value g c = λ stored planned bound objects own before plans are le tell.
    let one = c.in_ok-rewrite.ensures.changed stored planned bound objects own before plans are le
    (tell_before c.args.store.now c.change.new.store c.plan_set.new.store [] c.in_ok-rewrite.ensures.steps c.plan_set.ensures.steps tell) in
    let two = c.in_ok-block.ensures.planned stored one.1 one.2 in (
      two.0,
      two.1,
      record {
        mid = one.1;
        rewrite = c.in_ok-rewrite.rewrite;
        objects_are = subst (λ (copies : SetCopies). AreChanged copies planned one.1 c.args.birth c.in_ok-rewrite.rewrite (data_change c.args.change) (changed (data_change c.args.change) objects) own before)
            (ap copies_of c.requires.kind) one.3;
        kind = c.in_ok-rewrite.ensures.kind;
        adds = two.2;
        is_set = two.3;
        born = c.in_ok-block.ensures.birth;
        copies = c.in_ok-block.ensures.copies ∙ count_two (c.in_ok-rewrite.ensures.kind ∙ c.requires.kind);
        gone_are = refl;
      },
    )

pub returns-in_err-rewrite-clause-refused : goal.returns-in_err-rewrite-clause-refused
returns-in_err-rewrite-clause-refused g c =
    passed_on _ _ _ c.from_residual.ensures.1
    (objects_refused c.args.store.now c.change.new.store c.args.set.now c.args.before c.args.birth (copies_of c.args.set.now.kind) c.args.change _ (ap copies_of c.requires.kind) c.in_err-rewrite.ensures.refused)

pub returns-in_err-block-clause-refused : goal.returns-in_err-block-clause-refused
returns-in_err-block-clause-refused g c =
    passed_on _ _ _ c.from_residual-in_err-block.ensures.1
    (set_refused c.args.store.now c.change.new.store c.plan_set.new.store c.args.set.now c.args.before c.args.birth (copies_of c.args.set.now.kind) c.args.change _ (ap copies_of c.requires.kind)
    c.in_ok-rewrite.ensures.places c.in_err-block.ensures.refused
    (λ is. two_copies c.change.new.store c.plan_set.new.store _ (c.in_ok-rewrite.ensures.kind ∙ c.requires.kind) (c.in_err-block.ensures.no_room is)))

pub returns-clause-places : goal.returns-clause-places
returns-clause-places g c =
    places_with_set c.args.store.now c.change.new.store c.plan_set.new.store c.args.set.now c.args.birth (copies_of c.args.set.now.kind) c.args.change c.in_ok-block.block (ap copies_of c.requires.kind)
    c.in_ok-rewrite.ensures.places (c.in_ok-block.ensures.copies ∙ count_two (c.in_ok-rewrite.ensures.kind ∙ c.requires.kind))
    (subst (λ (count : ℕ). AreChosen c.change.new.store.spaces [] 2 count (dvas c.in_ok-block.block.copies) c.plan_set.new.store.spaces)
    (count_two (c.in_ok-rewrite.ensures.kind ∙ c.requires.kind)) c.in_ok-block.ensures.places)

pub returns-in_err-rewrite-clause-no_room : goal.returns-in_err-rewrite-clause-no_room
returns-in_err-rewrite-clause-no_room g c =
    passed_on _ _ _ c.from_residual.ensures.1
    (λ is. inl (subst (λ (copies : SetCopies). HasNoRoom c.args.store.now c.change.new.store [] copies) (ap copies_of c.requires.kind) (c.in_err-rewrite.ensures.no_room is)))

pub returns-in_err-rewrite-clause-caused : goal.returns-in_err-rewrite-clause-caused
returns-in_err-rewrite-clause-caused g c = passed_on _ _ _ c.from_residual.ensures.1 c.in_err-rewrite.ensures.caused

pub returns-in_err-block-clause-caused : goal.returns-in_err-block-clause-caused
returns-in_err-block-clause-caused g c = passed_on _ _ _ c.from_residual-in_err-block.ensures.1 (caused_behind _ _ _ _ _ c.in_ok-rewrite.ensures.steps c.in_err-block.ensures.caused)
