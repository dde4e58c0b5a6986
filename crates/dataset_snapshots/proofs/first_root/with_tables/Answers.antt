use Rattle.std.proofs.Common.{inr, ◌<◌, ◌*◌, ◌^◌, Bool, IsTrue, List, [], All, AllPairs, refl, sym, subst}
use Rattle.std.proofs.lemmas.List.Elements.{All-append, All-weaker}
use Rattle.objset.specs.declared.changes.ObjectChange.{ObjectChange}
use Rattle.objset.specs.Changes.{IsGoodChange}
use Rattle.vdev_label.specs.Plain.{config_view}
use Rattle.dataset_snapshots.specs.Creating.{stale_after}
use Rattle.dataset_snapshots.proofs.BelowNext.{some_behind}
use Rattle.dataset_snapshots.proofs.FirstRoots.{in_front}
use Rattle.dataset_snapshots.proofs.first_root.with_tables.Goals as goal

pub returns-then-not-are_below-clause-refused : goal.returns-then-not-are_below-clause-refused
returns-then-not-are_below-clause-refused c =
    let AreBelow : List ObjectChange → Type 0 = λ changes. All (λ change. change.number < c.args.datasets.next) changes in
    inr (
      refl,
      inr (
        c.in_ok-changes.changes.items,
        c.in_ok-changes.ensures.are,
        some_behind c.args.datasets.next c.in_ok-changes.changes.items c.are_below.result (λ all. c.are_below.ensures.1 (subst AreBelow (sym c.deref.ensures.value) all))
            (λ is. let wrong = subst (λ (b : Bool). IsTrue b) c.if-not-are_below.true is in cc),
      ),
    )

pub returns-clause-order : goal.returns-clause-order
returns-clause-order c =
    let are = c.in_ok-changes.ensures.are in
    let high = All-weaker (λ (change : ObjectChange). (4 < change.number) × (change.number < 32 * 128 ^ 5)) (λ change. 4 < change.number) (λ change both. both.0) c.in_ok-changes.changes.items are.numbers in
    subst (AllPairs (λ (change later : ObjectChange). change.number < later.number)) (sym c.in_ok-changes-2.ensures)
    (in_front (config_view c.args.config.now) (stale_after c.args.group.now.spans []) c.args.datasets.directory c.in-Ok.tables c.in-Ok.ensures.are c.in_ok-changes.changes.items high are.order)

pub returns-clause-good : goal.returns-clause-good
returns-clause-good c =
    subst (All (λ (change : ObjectChange). IsGoodChange change.change)) (sym c.in_ok-changes-2.ensures)
    (All-append (λ (change : ObjectChange). IsGoodChange change.change) c.in-Ok.tables c.in_ok-changes.changes.items c.in-Ok.ensures.good c.in_ok-changes.ensures.are.good)
