use Rattle.std.proofs.Common.{◌≡◌, ◌<◌, ◌+◌, ◌∙◌, ℕ, suc, ◌++◌, ◌∷◌, [], List, true, false, length, get_or, slice_get, slice_set, take, drop, Option, Some, None, is_some, ap, sym, subst, arith}
use Rattle.std.proofs.Math.Seq.{drop-cons}
use Rattle.std.proofs.lemmas.List.{take-append-drop, take_more, length-take-le}
use Rattle.std.proofs.lemmas.Option.{slice_get_read}
use Rattle.pool_members.proofs.Naming.{AreSo, so_absent, so_present, so_beyond, so_again}
use Rattle.pool_members.proofs.arranging.find_namers.Goals as goal
use Rattle.pool_members.proofs.arranging.find_namers.Goals.{then-place-count-via-then-place-count, then-place-count-via-else-place-count+then-is_some, in-Some+else-place-count+else-is_some, in_default}
use Rattle.pool_members.specs.Arranged.{AreEachOnce}
use Rattle.pool_members.specs.declared.arranging.Child.{Child}

-- in place of a child past the end
abbrev no_child : Child
no_child = record { disk = None; size = 0 }

parts : (children : List Child) (k : ℕ) → k < length children → children ≡ take k children ++ get_or children k no_child ∷ drop (suc k) children
parts children k below = sym (take-append-drop k children) ∙ ap (λ l. take k children ++ l) (drop-cons children k no_child below)

-- the next child names none
next_absent : (count : ℕ) (children : List Child) (k : ℕ) (namers later : List (Option ℕ)) → k < length children
    → (get_or children k no_child).disk ≡ None → later ≡ namers → AreSo count (take k children) namers → AreSo count (take (k + 1) children) later
next_absent count children k namers later below is same were =
    rw (take_more children k no_child below, same) (so_absent count (take k children) (get_or children k no_child) namers is were)

-- or one that is free
free_at : (namers : List (Option ℕ)) (place : ℕ) (m : Option ℕ) → false ≡ is_some m → slice_get namers place ≡ Some m → slice_get namers place ≡ Some None
free_at namers place None free at = at
free_at namers place (Some k) free at = cc

next_present : (count : ℕ) (children : List Child) (k : ℕ) (namers later : List (Option ℕ)) (place : ℕ) (m : Option ℕ) → k < length children
    → (get_or children k no_child).disk ≡ Some place → place < count → m ≡ get_or namers place m → false ≡ is_some m
    → later ≡ slice_set namers place (Some k) → AreSo count (take k children) namers → AreSo count (take (k + 1) children) later
next_present count children k namers later place m below is inside at free same were =
    let there : slice_get namers place ≡ Some m = slice_get_read namers count place m (sym were.named.so_many) inside at in
    rw (take_more children k no_child below, same)
    (subst (λ (n : ℕ). AreSo count (take k children ++ get_or children k no_child ∷ []) (slice_set namers place (Some n)))
    (length-take-le k children (omega arith))
    (so_present count (take k children) (get_or children k no_child) namers place is inside (free_at namers place m free there) were))

-- or one that is taken
taken : (count : ℕ) (children : List Child) (k : ℕ) (namers : List (Option ℕ)) (place : ℕ) (m : Option ℕ) → k < length children
    → (get_or children k no_child).disk ≡ Some place → slice_get namers place ≡ Some m → true ≡ is_some m → AreSo count (take k children) namers
    → ¬ AreEachOnce count children
taken count children k namers place None below is at some were = cc
taken count children k namers place (Some index) below is at some were =
    so_again count (take k children) (drop (suc k) children) children (get_or children k no_child) namers place index (parts children k below) is at were.named

pub returns-then-place-count-clause-refused : goal.returns-then-place-count-clause-refused
returns-then-place-count-clause-refused c same =
    elim c.then-place-count.branch [
      | then-place-count-via-then-place-count w ↦
          so_beyond c.args.count (take c.loop-index.index c.args.children.now) (drop (suc c.loop-index.index) c.args.children.now) c.args.children.now
          (get_or c.args.children.now c.loop-index.index no_child) c.in-Some.place
          (parts c.args.children.now c.loop-index.index c.loop-index-test.true) c.in-Some.is (λ below. absurd (omega (arith, below, w.if-place-count.true)))
      | then-place-count-via-else-place-count+then-is_some w ↦
          taken c.args.count c.args.children.now c.loop-index.index c.loop-index.namers.items c.in-Some.place w.index.result.now
          c.loop-index-test.true c.in-Some.is
          (slice_get_read c.loop-index.namers.items c.args.count c.in-Some.place w.index.result.now (sym c.loop-index.invariant.named.so_many)
          w.if-place-count.false w.index.ensures)
          (sym w.if-is_some.true ∙ w.is_some.ensures) c.loop-index.invariant
    ]

pub loop-index-preserved : goal.loop-index-preserved
loop-index-preserved c =
    elim c.match-child.branch [
      | in-Some+else-place-count+else-is_some w ↦
          next_present c.args.count c.args.children.now c.loop-index.index c.loop-index.namers.items c.match-child.namers.items w.in-Some.place
          w.index.result.now c.loop-index-test.true w.in-Some.is w.if-place-count.false w.index.ensures (sym w.if-is_some.false ∙ w.is_some.ensures)
          (ap (λ v. v.items) w.namers-is) c.loop-index.invariant
      | in_default w ↦
          next_absent c.args.count c.args.children.now c.loop-index.index c.loop-index.namers.items c.match-child.namers.items
          c.loop-index-test.true w.in_default.is (ap (λ v. v.items) w.namers-is) c.loop-index.invariant
    ]
