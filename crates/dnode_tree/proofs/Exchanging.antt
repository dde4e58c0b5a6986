-- Blocks that are given for others.
use Rattle.std.proofs.Common.{◌≡◌, ℕ, zero, suc, ◌+◌, ◌<◌, ◌≤◌, List, [], ◌∷◌, ◌++◌, length, Option, Some, None, Bool, cond, Contains, refl, sym, ap, subst, ◌∙◌, inl, inr, arith}
use Rattle.std.specs.List.{count_by}
use Rattle.std.proofs.lemmas.Bool.{cases_lt}
use Rattle.std.proofs.lemmas.List.Sums.{sum_by-append, sum_by-cons}
use Rattle.std.proofs.lemmas.List.Elements.{Contains-append_left, Contains-append_right, Contains-append_cases}
use Rattle.block_pointer.specs.declared.block.Block.{Block}
use Rattle.block_pointer.specs.Copies.{dvas}
use Rattle.block_store.specs.Blocks.{Contents, Extends, Adds}
use Rattle.dnode_tree.proofs.SameBlocks.{same_as, found, once_counted, distinct_counted}
use Rattle.dnode_tree.specs.declared.writes.CopyCounts.{CopyCounts}
use Rattle.dnode_tree.specs.Rewriting.{IsExchanged}
use Rattle.dnode_tree.specs.Writes.{copies_at}

pub count_by-append : (test : Block → Bool) (xs ys : List Block) → count_by test (xs ++ ys) ≡ count_by test xs + count_by test ys
count_by-append test xs ys = sum_by-append (λ x. cond (test x) 1 0) xs ys

count_by-cons : (test : Block → Bool) (x : Block) (xs : List Block) → count_by test (x ∷ xs) ≡ cond (test x) 1 0 + count_by test xs
count_by-cons test x xs = sum_by-cons (λ y. cond (test y) 1 0) x xs

-- what is not known later was not known before
none_before : (old new : Contents) → Extends old new → (block : Block) → new block ≡ None → old block ≡ None
none_before old new kept block none = by_cases (old block) refl
  where
    by_cases : (found : Option (List ℕ)) → old block ≡ found → old block ≡ None
    by_cases None is = is
    by_cases (Some bytes) is = absurd (let known : new block ≡ Some bytes = kept block bytes is in let clash : None ≡ Some bytes = sym none ∙ known in cc)

nothing_in : (block : Block) → Contains [] block → ⊥
nothing_in block held = omega (arith, held.1)

only_one : (x y : Block) → Contains (x ∷ []) y → x ≡ y
only_one x y (zero, low, is) = is
only_one x y (suc k, low, is) = absurd (omega (arith, low))

-- a block that is in one of two lists at most, and there once, is once in both
pub both_once : (block : Block) (xs ys : List Block) → count_by (same_as block) xs ≤ 1 → count_by (same_as block) ys ≤ 1 → (Contains xs block → ¬ Contains ys block) → count_by (same_as block) (xs ++ ys) ≤ 1
both_once block xs ys first second apart =
    elim (cases_lt 0 (count_by (same_as block) xs)) [
      | inl some ↦
          let none : ¬ (0 < count_by (same_as block) ys) = λ more. apart (found block xs some) (found block ys more) in
          omega (arith, count_by-append (same_as block) xs ys, first, none)
      | inr none ↦ omega (arith, count_by-append (same_as block) xs ys, none, second)
    ]

pub nothing_exchanged : {copies : CopyCounts} (birth : ℕ) (stored : Contents) (blocks : List Block) → IsExchanged copies birth stored stored blocks blocks []
nothing_exchanged birth stored blocks = record {
  stayed = blocks;
  added = [];
  before_are = λ test. omega arith;
  after_are = λ test. omega arith;
  once = λ i j d less low. absurd (omega (arith, low));
  fresh = λ block held. absurd (nothing_in block held);
  born = λ block held. absurd (nothing_in block held);
  copied = λ block held. absurd (nothing_in block held);
  known = λ block held. absurd (nothing_in block held);
  only = λ block bytes is. inr is;
}

pub both_exchanged : {copies : CopyCounts} (birth : ℕ) (planned now later : Contents) (before after gone before_too after_too gone_too : List Block) → Extends planned now → Extends now later
    → IsExchanged copies birth planned now before after gone → IsExchanged copies birth now later before_too after_too gone_too
    → IsExchanged copies birth planned later (before ++ before_too) (after ++ after_too) (gone ++ gone_too)
both_exchanged birth planned now later before after gone before_too after_too gone_too first rest one two = record {
  stayed = one.stayed ++ two.stayed;
  added = one.added ++ two.added;
  before_are = λ test.
      omega (arith, one.before_are test, two.before_are test, count_by-append test before before_too, count_by-append test gone gone_too, count_by-append test one.stayed two.stayed);
  after_are = λ test.
      omega (arith, one.after_are test, two.after_are test, count_by-append test after after_too, count_by-append test one.added two.added, count_by-append test one.stayed two.stayed);
  once = distinct_counted (one.added ++ two.added) (λ block.
      both_once block one.added two.added (once_counted block one.added one.once) (once_counted block two.added two.once)
      (λ sooner again. let known : now block ≡ Some (one.known block sooner).0 = (one.known block sooner).1 in
      let clash : None ≡ Some (one.known block sooner).0 = sym (two.fresh block again) ∙ known in absurd (cc)));
  fresh = λ block held.
      elim (Contains-append_cases one.added two.added block held) [
        | inl sooner ↦ one.fresh block sooner
        | inr later ↦ none_before planned now first block (two.fresh block later)
      ];
  born = λ block held.
      elim (Contains-append_cases one.added two.added block held) [
        | inl sooner ↦ one.born block sooner
        | inr later ↦ two.born block later
      ];
  copied = λ block held.
      elim (Contains-append_cases one.added two.added block held) [
        | inl sooner ↦ one.copied block sooner
        | inr later ↦ two.copied block later
      ];
  known = λ block held.
      elim (Contains-append_cases one.added two.added block held) [
        | inl sooner ↦ let there = one.known block sooner in (there.0, rest block there.0 there.1)
        | inr later ↦ two.known block later
      ];
  only = λ block bytes is.
      elim (two.only block bytes is) [
        | inl here ↦ inl (Contains-append_right one.added two.added block here)
        | inr sooner ↦
            elim (one.only block bytes sooner) [
              | inl there ↦ inl (Contains-append_left one.added two.added block there)
              | inr before ↦ inr before
            ]
      ];
}

-- a block was added in front
pub block_added : {copies : CopyCounts} (birth : ℕ) (planned now later : Contents) (before after gone : List Block) (block : Block) (bytes : List ℕ) → Extends planned now → IsExchanged copies birth planned now before after gone
    → Adds now later block bytes → block.birth ≡ birth → length (dvas block.copies) ≡ copies_at copies block.property.level → IsExchanged copies birth planned later before (block ∷ after) gone
block_added {copies = copies} birth planned now later before after gone block bytes first one adds born copied = record {
  stayed = one.stayed;
  added = block ∷ one.added;
  before_are = one.before_are;
  after_are = λ test. omega (arith, one.after_are test, count_by-cons test block after, count_by-cons test block one.added);
  once = distinct_counted (block ∷ one.added) (λ other.
      both_once other (block ∷ []) one.added (once_counted other (block ∷ []) (λ i j d less low. absurd (omega (arith, less, low)))) (once_counted other one.added one.once)
      (λ this again. let known = one.known other again in
      let here : now other ≡ None = ap now (sym (only_one block other this)) ∙ adds.fresh in
      let clash : None ≡ Some known.0 = sym here ∙ known.1 in absurd (cc)));
  fresh = λ other held.
      elim (Contains-append_cases (block ∷ []) one.added other held) [
        | inl this ↦ none_before planned now first other (ap now (sym (only_one block other this)) ∙ adds.fresh)
        | inr later ↦ one.fresh other later
      ];
  born = λ other held.
      elim (Contains-append_cases (block ∷ []) one.added other held) [
        | inl this ↦ ap (λ b. b.birth) (sym (only_one block other this)) ∙ born
        | inr later ↦ one.born other later
      ];
  copied = λ other held.
      elim (Contains-append_cases (block ∷ []) one.added other held) [
        | inl this ↦ subst (λ (b : Block). length (dvas b.copies) ≡ copies_at copies b.property.level) (only_one block other this) copied
        | inr later ↦ one.copied other later
      ];
  known = λ other held.
      elim (Contains-append_cases (block ∷ []) one.added other held) [
        | inl this ↦ (bytes, ap later (sym (only_one block other this)) ∙ adds.added)
        | inr sooner ↦ let there = one.known other sooner in (there.0, adds.kept other there.0 there.1)
      ];
  only = λ other read is.
      elim (adds.only other read is) [
        | inl this ↦ inl (subst (λ b. Contains (block ∷ one.added) b) (sym this.0) (0, omega arith, refl))
        | inr sooner ↦
            elim (one.only other read sooner) [
              | inl there ↦ inl (Contains-append_right (block ∷ []) one.added other there)
              | inr before ↦ inr before
            ]
      ];
}

-- blocks in front are gone too
pub front_gone : {copies : CopyCounts} (birth : ℕ) (planned later : Contents) (before after gone front : List Block) → IsExchanged copies birth planned later before after gone → IsExchanged copies birth planned later (front ++ before) after (front ++ gone)
front_gone birth planned later before after gone front one = record {
  stayed = one.stayed;
  added = one.added;
  before_are = λ test. omega (arith, one.before_are test, count_by-append test front before, count_by-append test front gone);
  after_are = one.after_are;
  once = one.once;
  fresh = one.fresh;
  born = one.born;
  copied = one.copied;
  known = one.known;
  only = one.only;
}
