-- What is reached once blocks were freed and others entered.
use Rattle.std.proofs.Common.{◌≡◌, ◌⊎◌, ℕ, ◌+◌, ◌<◌, ◌≤◌, Bool, List, [], ◌∷◌, ◌++◌, Some, None, Contains, inl, inr, refl, sym, subst, ◌∙◌, arith}
use Rattle.std.specs.List.{count_by}
use Rattle.std.proofs.lemmas.Bool.{cases_lt}
use Rattle.std.proofs.lemmas.List.Elements.{Contains-append_cases, Contains-append_left, Contains-append_right}
use Rattle.block_pointer.specs.declared.block.Block.{Block}
use Rattle.block_store.specs.Blocks.{Contents}
use Rattle.dnode_tree.proofs.Exchanging.{both_once, count_by-append}
use Rattle.dnode_tree.proofs.SameBlocks.{counted, distinct_counted, found, once_counted, same_as}
use Rattle.dnode_tree.specs.Rewriting.{AreDistinct}
use Rattle.dataset_groups.specs.Heads.{AreNewlyKnown}
use Rattle.dataset_groups.specs.Leaving.{IsReachExchanged}
use Rattle.dataset_groups.proofs.ListParts.{first_or_later, is_first, is_later, nothing_in}

-- whether a block is one of these
pub held_or_not : (blocks : List Block) (b : Block) → Contains blocks b ⊎ ¬ Contains blocks b
held_or_not blocks b = elim (cases_lt 0 (count_by (same_as b) blocks)) [
  | inl some ↦ inl (found b blocks some)
  | inr none ↦ inr (λ held. omega (arith, none, counted b blocks held))
]

tail_once : (x : Block) (xs : List Block) → AreDistinct (x ∷ xs) → AreDistinct xs
tail_once x xs once = distinct_counted xs (λ b. let all = once_counted b (x ∷ xs) once in omega (arith, all, count_by-append (same_as b) (x ∷ []) xs))

not_again : (x : Block) (xs : List Block) → AreDistinct (x ∷ xs) → ¬ Contains xs x
not_again x xs once held =
    let all = once_counted x (x ∷ xs) once in
    omega (arith, all, count_by-append (same_as x) (x ∷ []) xs, counted x (x ∷ []) (is_first x []), counted x xs held)

-- a list without one of its blocks
record IsWithout (all : List Block) (b : Block) : Type 0 where
  rest : List Block
  counts : (test : Block → Bool) → count_by test all ≡ count_by test (b ∷ []) + count_by test rest

without : (all : List Block) (b : Block) → Contains all b → IsWithout all b
without [] b held = absurd (nothing_in b held)
without (x ∷ xs) b held = elim (first_or_later x b xs held) [
  | inl same ↦ record { rest = xs; counts = λ test. subst (λ y. count_by test (x ∷ xs) ≡ count_by test (y ∷ []) + count_by test xs) same (count_by-append test (x ∷ []) xs) }
  | inr later ↦
      let below = without xs b later in
      record {
        rest = x ∷ below.rest;
        counts = λ test. omega (arith, count_by-append test (x ∷ []) xs, count_by-append test (x ∷ []) below.rest, below.counts test);
      }
]

-- lists that have the same blocks, each once, pass each test as often
pub same_counts : (xs ys : List Block) → AreDistinct xs → AreDistinct ys → ((b : Block) → Contains xs b → Contains ys b) → ((b : Block) → Contains ys b → Contains xs b)
    → (test : Block → Bool) → count_by test xs ≡ count_by test ys
same_counts [] [] once also into back test = refl
same_counts [] (y ∷ ys) once also into back test = absurd (nothing_in y (back y (is_first y ys)))
same_counts (x ∷ xs) ys once also into back test =
    let there = without ys x (into x (is_first x xs)) in
    let one : (b : Block) → count_by (same_as b) ys ≡ count_by (same_as b) (x ∷ []) + count_by (same_as b) there.rest = λ b. there.counts (same_as b) in
    let rest_once : AreDistinct there.rest = distinct_counted there.rest (λ b. let few = once_counted b ys also in omega (arith, few, one b)) in
    let rest_into : (b : Block) → Contains xs b → Contains there.rest b = λ b held.
    let some : 0 < count_by (same_as b) ys = counted b ys (into b (is_later x b xs held)) in
    let few = once_counted b (x ∷ xs) once in
    found b there.rest (omega (arith, some, one b, few, counted b xs held, count_by-append (same_as b) (x ∷ []) xs)) in
    let rest_back : (b : Block) → Contains there.rest b → Contains xs b = λ b held.
    let low : 0 < count_by (same_as b) there.rest = counted b there.rest held in
    let few = once_counted b ys also in
    let some : 0 < count_by (same_as b) (x ∷ xs) = counted b (x ∷ xs) (back b (found b ys (omega (arith, low, one b)))) in
    found b xs (omega (arith, some, few, low, one b, count_by-append (same_as b) (x ∷ []) xs)) in
    omega (arith, there.counts test, count_by-append test (x ∷ []) xs, same_counts xs there.rest (tail_once x xs once) rest_once rest_into rest_back test)

-- those of a list that are not among others
record IsPart (xs others : List Block) : Type 0 where
  stayed : List Block
  from : (b : Block) → Contains stayed b → Contains xs b × ¬ Contains others b
  each : (b : Block) → Contains xs b → Contains others b ⊎ Contains stayed b
  few : (b : Block) → count_by (same_as b) stayed ≤ count_by (same_as b) xs

part : (xs others : List Block) → IsPart xs others
part [] others = record { stayed = []; from = λ b held. absurd (nothing_in b held); each = λ b held. absurd (nothing_in b held); few = λ b. omega arith }
part (x ∷ xs) others =
    let below = part xs others in
    elim (held_or_not others x) [
      | inl held ↦ record {
        stayed = below.stayed;
        from = λ b there. let it = below.from b there in (is_later x b xs it.0, it.1);
        each = λ b there. elim (first_or_later x b xs there) [
          | inl same ↦ inl (subst (Contains others) same held)
          | inr later ↦ below.each b later
        ];
        few = λ b. omega (arith, below.few b, count_by-append (same_as b) (x ∷ []) xs);
      }
      | inr none ↦ record {
        stayed = x ∷ below.stayed;
        from = λ b there. elim (first_or_later x b below.stayed there) [
          | inl same ↦ (subst (Contains (x ∷ xs)) same (is_first x xs), subst (λ y. ¬ Contains others y) same none)
          | inr later ↦ let it = below.from b later in (is_later x b xs it.0, it.1)
        ];
        each = λ b there. elim (first_or_later x b xs there) [
          | inl same ↦ inr (subst (Contains (x ∷ below.stayed)) same (is_first x below.stayed))
          | inr later ↦ elim (below.each b later) [
            | inl held ↦ inl held
            | inr stays ↦ inr (is_later x b below.stayed stays)
          ]
        ];
        few = λ b. omega (arith, below.few b, count_by-append (same_as b) (x ∷ []) xs, count_by-append (same_as b) (x ∷ []) below.stayed);
      }
    ]

module _ (birth : ℕ) (planned later : Contents) (before after gone added : List Block) (before_once : AreDistinct before) (after_once : AreDistinct after) (gone_once : AreDistinct gone)
    (added_are : AreNewlyKnown birth planned later added) (known : (b : Block) → Contains before b → (bytes : List ℕ) × (planned b ≡ Some bytes))
    (kept : (b : Block) → Contains before b → Contains after b ⊎ Contains gone b) (left : (b : Block) → Contains gone b → Contains before b × ¬ Contains after b)
    (from : (b : Block) → Contains after b → Contains before b ⊎ Contains added b) (joined : (b : Block) → Contains added b → Contains after b) where
  stays : IsPart before gone
  stays = part before gone

  not_new : (b : Block) → Contains before b → Contains added b → ⊥
  not_new b old new =
      let there = known b old in
      let clash : None ≡ Some there.0 = sym (added_are.fresh b new) ∙ there.1 in
      cc

  stayed_few : (b : Block) → count_by (same_as b) stays.stayed ≤ 1
  stayed_few b = let once = once_counted b before before_once in omega (arith, once, stays.few b)

  before_apart : AreDistinct (stays.stayed ++ gone)
  before_apart = distinct_counted (stays.stayed ++ gone) (λ b. both_once b stays.stayed gone (stayed_few b) (once_counted b gone gone_once) (λ here there. (stays.from b here).1 there))

  after_apart : AreDistinct (stays.stayed ++ added)
  after_apart =
      distinct_counted (stays.stayed ++ added) (λ b. both_once b stays.stayed added (stayed_few b) (once_counted b added added_are.once) (λ here there. not_new b (stays.from b here).0 there))

  before_in : (b : Block) → Contains before b → Contains (stays.stayed ++ gone) b
  before_in b held = elim (stays.each b held) [
    | inl away ↦ Contains-append_right stays.stayed gone b away
    | inr here ↦ Contains-append_left stays.stayed gone b here
  ]

  before_back : (b : Block) → Contains (stays.stayed ++ gone) b → Contains before b
  before_back b held = elim (Contains-append_cases stays.stayed gone b held) [
    | inl here ↦ (stays.from b here).0
    | inr away ↦ (left b away).0
  ]

  after_in : (b : Block) → Contains after b → Contains (stays.stayed ++ added) b
  after_in b held = elim (from b held) [
    | inr new ↦ Contains-append_right stays.stayed added b new
    | inl old ↦ elim (stays.each b old) [
      | inl away ↦ absurd ((left b away).1 held)
      | inr here ↦ Contains-append_left stays.stayed added b here
    ]
  ]

  after_back : (b : Block) → Contains (stays.stayed ++ added) b → Contains after b
  after_back b held = elim (Contains-append_cases stays.stayed added b held) [
    | inr new ↦ joined b new
    | inl here ↦ elim (kept b (stays.from b here).0) [
      | inl still ↦ still
      | inr away ↦ absurd ((stays.from b here).1 away)
    ]
  ]

  -- what was there before gave way to what entered
  pub exchanged : IsReachExchanged birth planned later before after gone
  exchanged = record {
    stayed = stays.stayed;
    added = added;
    before_are = λ test. omega (arith, same_counts before (stays.stayed ++ gone) before_once before_apart before_in before_back test, count_by-append test stays.stayed gone);
    after_are = λ test. omega (arith, same_counts after (stays.stayed ++ added) after_once after_apart after_in after_back test, count_by-append test stays.stayed added);
    once = added_are.once;
    fresh = added_are.fresh;
    born = added_are.born;
    known = added_are.known;
    only = added_are.only;
  }
