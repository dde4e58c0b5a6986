use Rattle.std.proofs.Common.{◌≢◌, ℕ, ◌<◌, List, take, drop, length, get_or, All, AllPairs, sym, subst, arith}
use Rattle.std.specs.List.{insert}
use Rattle.std.proofs.lemmas.List.{take-append-drop}
use Rattle.meta_objset.proofs.Ordered.{IsOrder, inserted_ordered}
use Rattle.objset.specs.declared.changes.ObjectChange.{ObjectChange}
use Rattle.pool_maps.proofs.putting.put_in.Goals as goal

abbrev number_of : ObjectChange → ℕ
number_of change = change.number

by_number : IsOrder (λ (a b : ℕ). a < b)
by_number = record {
  apart = λ a b less same. omega (arith, less, same);
  behind = λ a b not_less other. omega (arith, not_less, other);
  through = λ a b c first rest. omega (arith, first, rest);
}

-- nothing is asked of a change
abbrev Any : ObjectChange → Type 0
Any change = Unit {0}

inserted : (changes : List ObjectChange) (change : ObjectChange) (at : ℕ) → AllPairs (λ (a b : ObjectChange). a.number < b.number) changes
    → All (λ (other : ObjectChange). other.number ≢ change.number) changes → All (λ (other : ObjectChange). other.number < change.number) (take at changes)
    → ((other : ObjectChange) → at < length changes → ¬ ((get_or changes at other).number < change.number)) → AllPairs (λ (a b : ObjectChange). a.number < b.number) (insert changes at change)
inserted changes change at order none before behind =
    (inserted_ordered number_of (λ (a b : ℕ). a < b) by_number Any changes change at (record { each = λ k d low. tt; order = order }) none before behind tt).order

pub returns-clause-order : goal.returns-clause-order
returns-clause-order c =
    subst (AllPairs (λ (a b : ObjectChange). a.number < b.number)) (sym c.in_ok-insert.ensures.items)
    (inserted c.args.changes.now.items c.args.change c.count_below-at.result c.requires
    (subst (All (λ (other : ObjectChange). other.number ≢ c.args.change.number)) c.deref.ensures.value c.if-is_among.ensures.none)
    (subst (λ (xs : List ObjectChange). All (λ (other : ObjectChange). other.number < c.args.change.number) (take c.count_below-at.result xs)) c.deref-2.ensures.value c.count_below-at.ensures.before)
    (subst (λ (xs : List ObjectChange). (other : ObjectChange) → c.count_below-at.result < length xs → ¬ ((get_or xs c.count_below-at.result other).number < c.args.change.number)) c.deref-2.ensures.value
    c.count_below-at.ensures.behind))

pub returns-clause-put : goal.returns-clause-put
returns-clause-put c = record {
  front = take c.count_below-at.result c.args.changes.now.items;
  back = drop c.count_below-at.result c.args.changes.now.items;
  was = sym (take-append-drop c.count_below-at.result c.args.changes.now.items);
  is = c.in_ok-insert.ensures.items;
  apart = subst (All (λ (other : ObjectChange). other.number ≢ c.args.change.number)) c.deref.ensures.value c.if-is_among.ensures.none;
}
