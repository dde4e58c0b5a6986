-- Lists of blocks by number, of which some are given for others.
use Rattle.std.proofs.Common.{◌≡◌, ◌≢◌, ℕ, zero, suc, ◌+◌, ◌<◌, ◌≤◌, List, [], ◌∷◌, ◌++◌, map, Option, Bool, AllPairs, Contains, refl, sym, ap, subst, ◌∙◌, inl, inr, arith}
use Rattle.std.specs.List.{count_by, flat_map, range_with_len}
use Rattle.std.proofs.lemmas.Bool.{cases_eq}
use Rattle.std.proofs.lemmas.List.Elements.{All-contains}
use Rattle.block_pointer.specs.declared.block.Block.{Block}
use Rattle.block_store.specs.Blocks.{Contents, Extends, Adds}
use Rattle.dnode.specs.declared.dnode.Dnode.{Dnode}
use Rattle.dnode.specs.declared.object_set.ObjectSet.{ObjectSet}
use Rattle.objset.specs.declared.node_writes.SetRewrite.{SetRewrite}
use Rattle.objset.specs.Nodes.{birth_of}
use Rattle.dnode_tree.proofs.Exchanging.{count_by-append}
use Rattle.dnode_tree.specs.declared.writes.CopyCounts.{CopyCounts}
use Rattle.meta_objset.proofs.Edits.{pairs_head, pairs_tail}
use Rattle.objset.specs.declared.changes.ObjectChange.{ObjectChange}
use Rattle.objset.specs.declared.changes.SetCopies.{SetCopies}
use Rattle.objset.specs.Changes.{AreChanged, AreExchanged, object_copies}
use Rattle.objset.specs.Objects.{Object, IsObject, AreObjects}
use Rattle.objset.specs.Within.{blocks_of_set}
use Rattle.dataset_groups.proofs.ListParts.{all_from, first_or_later, is_first, is_later, nothing_in}
use Rattle.dataset_groups.proofs.Exchanges.{block_given, both_given, given_as, nothing_given, of_tree}
use Rattle.dataset_groups.specs.Leaving.{IsReachExchanged}

-- ---- numbers, each once

abbrev pub AreApartNumbers : List ℕ → Type 0
AreApartNumbers [] = Unit {0}
AreApartNumbers (n ∷ ns) = ((m : ℕ) → Contains ns m → n ≢ m) × AreApartNumbers ns

-- how many blocks of the lists of these numbers pass the test
abbrev pub count_in : (Block → Bool) → (ℕ → List Block) → List ℕ → ℕ
count_in test lists numbers = count_by test (flat_map lists numbers)

-- the numbers without one of them
record IsWithout (all : List ℕ) (n : ℕ) : Type 0 where
  rest : List ℕ
  counts : (lists : ℕ → List Block) (test : Block → Bool) → count_in test lists all ≡ count_by test (lists n) + count_in test lists rest
  apart : AreApartNumbers rest
  not : (m : ℕ) → Contains rest m → n ≢ m
  still : (m : ℕ) → Contains all m → n ≢ m → Contains rest m
  from : (m : ℕ) → Contains rest m → Contains all m

without : (all : List ℕ) (n : ℕ) → AreApartNumbers all → Contains all n → IsWithout all n
without [] n apart held = absurd (nothing_in n held)
without (first ∷ others) n apart held = elim (first_or_later first n others held) [
  | inl same ↦ record {
    rest = others;
    counts = λ lists test. subst (λ m. count_in test lists (first ∷ others) ≡ count_by test (lists m) + count_in test lists others) same (count_by-append test (lists first) (flat_map lists others));
    apart = apart.1;
    not = λ m there is. apart.0 m there (same ∙ is);
    still = λ m there other. elim (first_or_later first m others there) [
      | inl one ↦ absurd (other (sym same ∙ one))
      | inr later ↦ later
    ];
    from = λ m there. is_later first m others there;
  }
  | inr later ↦
      let below = without others n apart.1 later in
      record {
        rest = first ∷ below.rest;
        counts = λ lists test. omega (arith, count_by-append test (lists first) (flat_map lists others), count_by-append test (lists first) (flat_map lists below.rest), below.counts lists test);
        apart = (λ m there. apart.0 m (below.from m there), below.apart);
        not = λ m there is. elim (first_or_later first m below.rest there) [
          | inl one ↦ apart.0 n later (one ∙ sym is)
          | inr behind ↦ below.not m behind is
        ];
        still = λ m there other. elim (first_or_later first m others there) [
          | inl one ↦ subst (λ k. Contains (first ∷ below.rest) k) one (is_first first below.rest)
          | inr behind ↦ is_later first m below.rest (below.still m behind other)
        ];
        from = λ m there. elim (first_or_later first m below.rest there) [
          | inl one ↦ subst (λ k. Contains (first ∷ others) k) one (is_first first others)
          | inr behind ↦ is_later first m others (below.from m behind)
        ];
      }
]

-- the numbers without some of them
record AreWithout (all some : List ℕ) : Type 0 where
  others : List ℕ
  counts : (lists : ℕ → List Block) (test : Block → Bool) → count_in test lists all ≡ count_in test lists some + count_in test lists others
  not : (m : ℕ) → Contains others m → ¬ Contains some m
  from : (m : ℕ) → Contains others m → Contains all m

without_all : (all some : List ℕ) → AreApartNumbers all → AreApartNumbers some → ((n : ℕ) → Contains some n → Contains all n) → AreWithout all some
without_all all [] apart once within = record { others = all; counts = λ lists test. omega arith; not = λ m there none. nothing_in m none; from = λ m there. there }
without_all all (n ∷ some) apart once within =
    let one = without all n apart (within n (is_first n some)) in
    let below = without_all one.rest some one.apart once.1 (λ m there. one.still m (within m (is_later n m some there)) (once.0 m there)) in
    record {
      others = below.others;
      counts = λ lists test. omega (arith, one.counts lists test, below.counts lists test, count_by-append test (lists n) (flat_map lists some));
      not = λ m there held. elim (first_or_later n m some held) [
        | inl same ↦ one.not m (below.from m there) same
        | inr later ↦ below.not m there later
      ];
      from = λ m there. one.from m (below.from m there);
    }

-- lists that are the same at each of the numbers
lists_same : (lists new : ℕ → List Block) (numbers : List ℕ) → ((n : ℕ) → Contains numbers n → new n ≡ lists n) → flat_map new numbers ≡ flat_map lists numbers
lists_same lists new [] same = refl
lists_same lists new (n ∷ numbers) same = λ i. same n (is_first n numbers) i ++ lists_same lists new numbers (λ m there. same m (is_later n m numbers there)) i

-- where the lists of some numbers are given for others, so are those of all, of which the rest stay
pub given_among : (birth : ℕ) (planned later : Contents) (lists new : ℕ → List Block) (all some : List ℕ) (gone : List Block) → AreApartNumbers all → AreApartNumbers some
    → ((n : ℕ) → Contains some n → Contains all n) → ((n : ℕ) → Contains all n → ¬ Contains some n → new n ≡ lists n)
    → IsReachExchanged birth planned later (flat_map lists some) (flat_map new some) gone → IsReachExchanged birth planned later (flat_map lists all) (flat_map new all) gone
given_among birth planned later lists new all some gone apart once within others one =
    let left = without_all all some apart once within in
    let same : flat_map new left.others ≡ flat_map lists left.others = lists_same lists new left.others (λ n there. others n (left.from n there) (left.not n there)) in
    given_as birth planned later (flat_map lists some) (flat_map new some) gone (flat_map lists all) (flat_map new all) gone (flat_map lists left.others) [] one
    (λ test. omega (arith, left.counts lists test))
    (λ test. omega (arith, left.counts new test, ap (count_by test) same))
    (λ test. omega arith)

-- ---- the objects of a set

abbrev numbers_of : List ObjectChange → List ℕ
numbers_of changes = map (λ change. change.number) changes

pub chain_given : (copies : CopyCounts) (birth : ℕ) (planned later : Contents) (changes : List ObjectChange) (before after : ℕ → List Block) (gone : List Block)
    → AreExchanged copies birth planned later changes before after gone
    → Extends planned later × IsReachExchanged birth planned later (flat_map before (numbers_of changes)) (flat_map after (numbers_of changes)) gone
chain_given copies birth planned later [] before after gone chain = (
  λ block bytes known. ap (λ (c : Contents). c block) chain.0 ∙ known,
  subst (λ (c : Contents). IsReachExchanged birth planned c [] [] gone) (sym chain.0)
      (subst (λ (bs : List Block). IsReachExchanged birth planned planned [] [] bs) (sym chain.1) (nothing_given birth planned)),
)
chain_given copies birth planned later (change ∷ changes) before after gone chain =
    let rest = chain_given copies birth chain.0 later changes before after chain.2 chain.5 in
    let first = of_tree birth planned chain.0 (before change.number) (after change.number) chain.1 chain.4 in (
      λ block bytes known. rest.0 block bytes (chain.3 block bytes known),
      subst (λ (bs : List Block). IsReachExchanged birth planned later (before change.number ++ flat_map before (numbers_of changes)) (after change.number ++ flat_map after (numbers_of changes)) bs) (sym chain.6)
          (both_given birth planned chain.0 later (before change.number) (after change.number) chain.1 (flat_map before (numbers_of changes)) (flat_map after (numbers_of changes)) chain.2
          chain.3 rest.0 first rest.1),
    )

number_held : (changes : List ObjectChange) (n : ℕ) → Contains (numbers_of changes) n → (change : ObjectChange) × Contains changes change × (change.number ≡ n)
number_held [] n held = absurd (nothing_in n held)
number_held (change ∷ changes) n held = elim (first_or_later change.number n (numbers_of changes) held) [
  | inl same ↦ (change, is_first change changes, same)
  | inr later ↦ let there = number_held changes n later in (there.0, is_later change there.0 changes there.1, there.2)
]

held_number : (changes : List ObjectChange) (change : ObjectChange) → Contains changes change → Contains (numbers_of changes) change.number
held_number [] change held = absurd (nothing_in change held)
held_number (first ∷ changes) change held = elim (first_or_later first change changes held) [
  | inl same ↦ subst (λ (c : ObjectChange). Contains (numbers_of (first ∷ changes)) c.number) same (is_first first.number (numbers_of changes))
  | inr later ↦ is_later first.number change.number (numbers_of changes) (held_number changes change later)
]

pub changes_apart : (changes : List ObjectChange) → AllPairs (λ change later. change.number < later.number) changes → AreApartNumbers (numbers_of changes)
changes_apart [] order = tt
changes_apart (change ∷ changes) order = (
  λ m held same.
      let there = number_held changes m held in
      let less : change.number < there.0.number =
      All-contains (λ (later : ObjectChange). change.number < later.number) changes there.0 (pairs_head (λ (c later : ObjectChange). c.number < later.number) change changes order) there.1 in
      omega (arith, less, same, there.2),
  changes_apart changes (pairs_tail (λ (c later : ObjectChange). c.number < later.number) change changes order),
)

in_range : (first count n : ℕ) → Contains (range_with_len first count) n → first ≤ n
in_range first zero n held = absurd (nothing_in n held)
in_range first (suc count) n held = elim (first_or_later first n (range_with_len (first + 1) count) held) [
  | inl same ↦ omega (arith, same)
  | inr later ↦ omega (arith, in_range (first + 1) count n later)
]

range_has : (first count n : ℕ) → first ≤ n → n < first + count → Contains (range_with_len first count) n
range_has first zero n from low = absurd (omega (arith, from, low))
range_has first (suc count) n from low = elim (cases_eq first n) [
  | inl same ↦ subst (λ m. Contains (first ∷ range_with_len (first + 1) count) m) same (is_first first (range_with_len (first + 1) count))
  | inr not ↦ is_later first n (range_with_len (first + 1) count) (range_has (first + 1) count n (omega (arith, from, not)) (omega (arith, low)))
]

range_apart : (first count : ℕ) → AreApartNumbers (range_with_len first count)
range_apart first zero = tt
range_apart first (suc count) = (λ m held same. omega (arith, in_range (first + 1) count m held, same), range_apart (first + 1) count)

none_in_range : (lists : ℕ → List Block) (first count : ℕ) → ((n : ℕ) → first ≤ n → lists n ≡ []) → (test : Block → Bool) → count_in test lists (range_with_len first count) ≡ 0
none_in_range lists first zero none test = refl
none_in_range lists first (suc count) none test =
    omega (
      arith,
      count_by-append test (lists first) (flat_map lists (range_with_len (first + 1) count)),
      ap (count_by test) (none first (omega arith)),
      none_in_range lists (first + 1) count (λ n le. none n (omega (arith, le))) test,
    )

-- a range has no more blocks with numbers that have none
longer_range : (lists : ℕ → List Block) (first count more : ℕ) → ((n : ℕ) → first + count ≤ n → lists n ≡ []) → (test : Block → Bool)
    → count_in test lists (range_with_len first (count + more)) ≡ count_in test lists (range_with_len first count)
longer_range lists first zero more none test =
    ap (λ n. count_in test lists (range_with_len first n)) (let same : 0 + more ≡ more = omega arith in same) ∙ none_in_range lists first more (λ n le. none n (omega (arith, le))) test
longer_range lists first (suc count) more none test =
    omega (
      arith,
      ap (λ n. count_in test lists (range_with_len first n)) (let same : suc count + more ≡ suc (count + more) = omega arith in same),
      count_by-append test (lists first) (flat_map lists (range_with_len (first + 1) (count + more))),
      count_by-append test (lists first) (flat_map lists (range_with_len (first + 1) count)),
      longer_range lists (first + 1) count more (λ n le. none n (omega (arith, le))) test,
    )

-- behind the last number there are no blocks
pub none_behind : (stored : Contents) (birth : ℕ) (set : ObjectSet) (objects : ℕ → Option Object) (own : List Block) (blocks : ℕ → List Block) → AreObjects stored birth set objects own blocks
    → (number : ℕ) → set.objects ≤ number → blocks number ≡ []
none_behind stored birth set objects own blocks are number le =
    (subst (λ (node : Dnode). IsObject stored (birth_of are.dnodes.births number) node (objects number) (blocks number)) (are.dnodes.behind number le) (are.each number)).1

-- a number above those of all changes
abbrev above : List ObjectChange → ℕ
above [] = 0
above (change ∷ changes) = change.number + 1 + above changes

below_above : (changes : List ObjectChange) (n : ℕ) → Contains (numbers_of changes) n → n < above changes
below_above [] n held = absurd (nothing_in n held)
below_above (change ∷ changes) n held = elim (first_or_later change.number n (numbers_of changes) held) [
  | inl same ↦ omega (arith, same)
  | inr later ↦ omega (arith, below_above changes n later)
]

-- what gave way where a set was changed
pub set_given : (copies : SetCopies) (planned later : Contents) (birth : ℕ) (set : ObjectSet) (done : SetRewrite) (changes : List ObjectChange) (new_objects : ℕ → Option Object)
    (own : List Block) (before : ℕ → List Block) → ((number : ℕ) → set.objects ≤ number → before number ≡ []) → AllPairs (λ change later. change.number < later.number) changes
    → (changed : AreChanged copies planned later birth done changes new_objects own before)
    → IsReachExchanged birth planned later (blocks_of_set set own before) (blocks_of_set done.set changed.own_after changed.after) done.replaced.items
set_given copies planned later birth set done changes new_objects own before behind order changed =
    let high : ℕ = above changes in
    let size : ℕ = set.objects + done.set.objects + high in
    let all : List ℕ = range_with_len 0 size in
    let some : List ℕ = numbers_of changes in
    let chain = chain_given (object_copies copies) birth planned changed.mid changes before changed.after changed.gone changed.of_objects in
    let objects_given : IsReachExchanged birth planned changed.mid (flat_map before all) (flat_map changed.after all) changed.gone =
    given_among birth planned changed.mid before changed.after all some changed.gone (range_apart 0 size) (changes_apart changes order)
    (λ n held. range_has 0 size n (omega arith) (omega (arith, below_above changes n held)))
    (λ n held not. changed.others n (all_from (λ (c : ObjectChange). c.number ≢ n) changes (λ c there is. not (subst (λ m. Contains some m) is (held_number changes c there)))))
    chain.1 in
    let own_given : IsReachExchanged birth changed.mid later own changed.own_after changed.own_gone = of_tree birth changed.mid later own changed.own_after changed.own_gone changed.of_dnodes in
    given_as birth planned later (flat_map before all ++ own) (flat_map changed.after all ++ changed.own_after) (changed.gone ++ changed.own_gone)
    (blocks_of_set set own before) (blocks_of_set done.set changed.own_after changed.after) done.replaced.items [] []
    (both_given birth planned changed.mid later (flat_map before all) (flat_map changed.after all) changed.gone own changed.own_after changed.own_gone changed.kept_first changed.kept_last objects_given own_given)
    (λ test. omega (
      arith,
      count_by-append test (flat_map before all) own,
      count_by-append test own (flat_map before (range_with_len 0 set.objects)),
      ap (λ n. count_in test before (range_with_len 0 n)) (one_size set.objects done.set.objects high),
      longer_range before 0 set.objects (done.set.objects + high) (λ n le. behind n (omega (arith, le))) test,
    ))
    (λ test. omega (
      arith,
      count_by-append test (flat_map changed.after all) changed.own_after,
      count_by-append test changed.own_after (flat_map changed.after (range_with_len 0 done.set.objects)),
      ap (λ n. count_in test changed.after (range_with_len 0 n)) (other_size set.objects done.set.objects high),
      longer_range changed.after 0 done.set.objects (set.objects + high) (λ n le. none_behind later birth done.set new_objects changed.own_after changed.after changed.are n (omega (arith, le))) test,
    ))
    (λ test. omega (arith, ap (count_by test) changed.replaced))
  where
    one_size : (a b c : ℕ) → a + b + c ≡ a + (b + c)
    one_size a b c = omega arith

    other_size : (a b c : ℕ) → a + b + c ≡ b + (a + c)
    other_size a b c = omega arith

-- and its new block
pub set_planned : (copies : SetCopies) (planned mid later : Contents) (birth : ℕ) (set : ObjectSet) (done : SetRewrite) (changes : List ObjectChange)
    (new_objects : ℕ → Option Object) (own : List Block) (before : ℕ → List Block) (new : Block) (bytes : List ℕ)
    → ((number : ℕ) → set.objects ≤ number → before number ≡ []) → AllPairs (λ change later. change.number < later.number) changes
    → (changed : AreChanged copies planned mid birth done changes new_objects own before) → Adds mid later new bytes → new.birth ≡ birth
    → IsReachExchanged birth planned later (blocks_of_set set own before) (new ∷ blocks_of_set done.set changed.own_after changed.after) done.replaced.items
set_planned copies planned mid later birth set done changes new_objects own before new bytes behind order changed adds born =
    let parts = set_given copies planned mid birth set done changes new_objects own before behind order changed in
    let first : List Block = blocks_of_set set own before in
    let last : List Block = blocks_of_set done.set changed.own_after changed.after in
    given_as birth planned later (first ++ []) (last ++ new ∷ []) (done.replaced.items ++ []) first (new ∷ last) done.replaced.items [] []
    (both_given birth planned mid later first last done.replaced.items [] (new ∷ []) [] changed.kept adds.kept parts (block_given birth mid later new bytes adds born))
    (λ test. omega (arith, count_by-append test first []))
    (λ test. omega (arith, count_by-append test last (new ∷ []), count_by-append test (new ∷ []) last))
    (λ test. omega (arith, count_by-append test done.replaced.items []))

-- for its old one
pub set_block_given : (copies : SetCopies) (planned mid later : Contents) (birth : ℕ) (set : ObjectSet) (done : SetRewrite) (changes : List ObjectChange)
    (new_objects : ℕ → Option Object) (own : List Block) (before : ℕ → List Block) (old new : Block) (bytes : List ℕ) (gone : List Block)
    → ((number : ℕ) → set.objects ≤ number → before number ≡ []) → AllPairs (λ change later. change.number < later.number) changes
    → (changed : AreChanged copies planned mid birth done changes new_objects own before) → Adds mid later new bytes → new.birth ≡ birth → gone ≡ done.replaced.items ++ old ∷ []
    → IsReachExchanged birth planned later (old ∷ blocks_of_set set own before) (new ∷ blocks_of_set done.set changed.own_after changed.after) gone
set_block_given copies planned mid later birth set done changes new_objects own before old new bytes gone behind order changed adds born gone_is =
    let first : List Block = blocks_of_set set own before in
    let last : List Block = new ∷ blocks_of_set done.set changed.own_after changed.after in
    given_as birth planned later first last done.replaced.items (old ∷ first) last gone [] (old ∷ [])
    (set_planned copies planned mid later birth set done changes new_objects own before new bytes behind order changed adds born)
    (λ test. omega (arith, count_by-append test (old ∷ []) first))
    (λ test. omega arith)
    (λ test. omega (arith, ap (count_by test) gone_is, count_by-append test done.replaced.items (old ∷ [])))

-- a set that had no blocks has only new ones
pub set_block_made : (copies : SetCopies) (planned mid later : Contents) (birth : ℕ) (set : ObjectSet) (done : SetRewrite) (changes : List ObjectChange)
    (new_objects : ℕ → Option Object) (new : Block) (bytes : List ℕ)
    → AllPairs (λ change later. change.number < later.number) changes
    → (changed : AreChanged copies planned mid birth done changes new_objects [] (λ number. [])) → Adds mid later new bytes → new.birth ≡ birth
    → IsReachExchanged birth planned later [] (new ∷ blocks_of_set done.set changed.own_after changed.after) []
set_block_made copies planned mid later birth set done changes new_objects new bytes order changed adds born =
    let parts = set_given copies planned mid birth set done changes new_objects [] (λ number. []) (λ number le. refl) order changed in
    let none : flat_map (λ n. []) (range_with_len 0 set.objects) ≡ [] = no_blocks (range_with_len 0 set.objects) in
    let alone = only_new birth planned mid (blocks_of_set set [] (λ number. [])) (blocks_of_set done.set changed.own_after changed.after) done.replaced.items none parts in
    let last : List Block = blocks_of_set done.set changed.own_after changed.after in
    given_as birth planned later ([] ++ []) (last ++ new ∷ []) ([] ++ []) [] (new ∷ last) [] [] []
    (both_given birth planned mid later [] last [] [] (new ∷ []) [] changed.kept adds.kept alone (block_given birth mid later new bytes adds born))
    (λ test. omega arith)
    (λ test. omega (arith, count_by-append test last (new ∷ []), count_by-append test (new ∷ []) last))
    (λ test. omega arith)
  where
    no_blocks : (ns : List ℕ) → flat_map {A = Block} (λ n. []) ns ≡ []
    no_blocks [] = refl
    no_blocks (n ∷ ns) = no_blocks ns

    only_new : (birth : ℕ) (planned later : Contents) (before after gone : List Block) → before ≡ [] → IsReachExchanged birth planned later before after gone → IsReachExchanged birth planned later [] after []
    only_new birth planned later before after gone none one =
        record {
          stayed = one.stayed;
          added = one.added;
          before_are = λ test. omega (arith, one.before_are test, ap (count_by test) none);
          after_are = one.after_are;
          once = one.once;
          fresh = one.fresh;
          born = one.born;
          known = one.known;
          only = one.only;
        }
