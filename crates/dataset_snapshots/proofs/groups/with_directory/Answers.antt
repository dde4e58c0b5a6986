use Rattle.std.specs.Prelude.{Any}
use Rattle.std.proofs.Common.{◌≡◌, ◌<◌, ◌≤◌, ◌*◌, ◌^◌, List, ◌∷◌, ◌++◌, Bool, true≢false, IsTrue, All, AllPairs, inr, refl, ap, subst, sym, ◌∙◌, arith}
use Rattle.std.proofs.lemmas.List.Elements.{All-weaker}
use Rattle.std.proofs.lemmas.List.Kept.{AllPairs-cons}
use Rattle.meta_objset.specs.declared.directory.DirectoryRow.{DirectoryRow}
use Rattle.objset.specs.declared.changes.Change.{Change}
use Rattle.objset.specs.declared.changes.ObjectChange.{ObjectChange}
use Rattle.dataset_snapshots.specs.Demands.{WritesRows}
use Rattle.dataset_snapshots.proofs.BelowNext.{some_behind}
use Rattle.dataset_snapshots.proofs.groups.with_directory.Goals as goal
use Rattle.dataset_snapshots.proofs.groups.with_directory.Goals.{then-renamed+in_ok-change+in_ok-put_first, else-renamed}

pub returns-then-not-are_below-clause-refused : goal.returns-then-not-are_below-clause-refused
returns-then-not-are_below-clause-refused c =
    let P : List ObjectChange → Type 0 = λ changes. All (λ change. change.number < c.max-next.result) changes in
    inr (
      refl,
      inr (
        c.in_ok-changes.changes.items,
        c.in_ok-changes.ensures.are,
        subst (λ n. Any (λ (change : ObjectChange). n ≤ change.number) c.in_ok-changes.changes.items) c.max-next.ensures
            (some_behind c.max-next.result c.in_ok-changes.changes.items c.are_below.result (λ all. c.are_below.ensures.1 (subst P (sym c.deref.ensures.value) all))
            (λ is. let wrong = subst (λ (b : Bool). IsTrue b) c.if-not-are_below.true is in cc)),
      ),
    )

first_is : (rows : List DirectoryRow) (later changes all : List ObjectChange) (first : ObjectChange) → all ≡ first ∷ later → later ≡ changes → first.number ≡ 1 → WritesRows rows first.change
    → (directory : Change) × WritesRows rows directory × (all ≡ record { number = 1; change = directory } ∷ changes)
first_is rows later changes all first is same number writes = (
  first.change,
  writes,
  is ∙ ap (λ (cs : List ObjectChange). first ∷ cs) same ∙ ap (λ n. record { number = n; change = first.change } ∷ changes) number,
)

pub returns-clause-changes : goal.returns-clause-changes
returns-clause-changes c =
    let spans = c.in_ok-put_spans.ensures.spans in
    elim c.if-renamed.branch [
      | then-renamed+in_ok-change+in_ok-put_first w ↦
          let directory = w.in_ok-change.ensures in (
            spans.0,
            spans.1,
            c.in_ok-changes.changes.items,
            c.in_ok-changes.ensures.are,
            λ same. absurd (true≢false (sym w.if-renamed.true ∙ same)),
            λ other.
                first_is c.args.datasets.directory c.put_spans.new.changes.items (spans.0 ++ c.in_ok-changes.changes.items) c.if-renamed.changes.items w.in_ok-change.change
                (ap (λ made. made.items) w.changes-is ∙ w.in_ok-put_first.ensures) spans.2 directory.number (λ object is. (directory.may object is, directory.made object is)),
          )
      | else-renamed w ↦ (
        spans.0,
        spans.1,
        c.in_ok-changes.changes.items,
        c.in_ok-changes.ensures.are,
        λ same. ap (λ made. made.items) w.changes-is ∙ spans.2,
        λ other. absurd (true≢false (sym other ∙ w.if-renamed.false)),
      )
    ]

pub returns-clause-order : goal.returns-clause-order
returns-clause-order c =
    let Comes : ObjectChange → ObjectChange → Type 0 = λ change later. change.number < later.number in
    let spans = c.in_ok-put_spans.ensures in
    elim c.if-renamed.branch [
      | then-renamed+in_ok-change+in_ok-put_first w ↦
          let number = w.in_ok-change.ensures.number in
          let behind = All-weaker (λ (later : ObjectChange). (1 < later.number) × (later.number < 32 * 128 ^ 5)) (λ later. w.in_ok-change.change.number < later.number)
          (λ later high. omega (arith, high.0, number)) c.put_spans.new.changes.items spans.numbers in
          subst (AllPairs Comes) (sym (ap (λ made. made.items) w.changes-is ∙ w.in_ok-put_first.ensures))
          (AllPairs-cons Comes w.in_ok-change.change c.put_spans.new.changes.items behind spans.order)
      | else-renamed w ↦ subst (AllPairs Comes) (sym (ap (λ made. made.items) w.changes-is)) spans.order
    ]
