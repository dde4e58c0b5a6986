-- Lists in which no block is there twice, and their parts.
use Rattle.std.proofs.Common.{◌≡◌, ℕ, zero, suc, ◌+◌, ◌<◌, ◌≤◌, List, [], ◌++◌, Option, Contains, inl, inr, sym, ap, subst, arith}
use Rattle.std.specs.List.{flat_map, range_with_len, count_by}
use Rattle.std.proofs.lemmas.Bool.{cases_eq, cases_lt}
use Rattle.block_pointer.specs.declared.block.Block.{Block}
use Rattle.block_store.specs.Blocks.{Contents}
use Rattle.dnode.specs.declared.dnode.Dnode.{Dnode}
use Rattle.dnode.specs.declared.object_set.ObjectSet.{ObjectSet}
use Rattle.objset.specs.Nodes.{birth_of}
use Rattle.dnode_tree.proofs.Exchanging.{count_by-append}
use Rattle.dnode_tree.proofs.SameBlocks.{same_as, counted, once_counted, distinct_counted}
use Rattle.dnode_tree.specs.Rewriting.{AreDistinct}
use Rattle.objset.specs.Laws.{HasEachOnce}
use Rattle.objset.specs.Objects.{Object, IsObject, AreObjects}
use Rattle.objset.specs.Within.{blocks_of_set}

-- how often the list has the block
abbrev times : Block → List Block → ℕ
times block blocks = count_by (same_as block) blocks

-- a list has each block once where it has no block more often than one that has
pub fewer_once : (part whole : List Block) → ((block : Block) → times block part ≤ times block whole) → AreDistinct whole → AreDistinct part
fewer_once part whole fewer once = distinct_counted part (λ block. omega (arith, fewer block, once_counted block whole once))

pub front_once : (xs ys : List Block) → AreDistinct (xs ++ ys) → AreDistinct xs
front_once xs ys = fewer_once xs (xs ++ ys) (λ block. omega (arith, count_by-append (same_as block) xs ys))

pub back_once : (xs ys : List Block) → AreDistinct (xs ++ ys) → AreDistinct ys
back_once xs ys = fewer_once ys (xs ++ ys) (λ block. omega (arith, count_by-append (same_as block) xs ys))

-- ---- the objects of a set

one_of : (blocks : ℕ → List Block) (block : Block) (first count number : ℕ) → first ≤ number → number < first + count
    → times block (blocks number) ≤ times block (flat_map blocks (range_with_len first count))
one_of blocks block first zero number from low = absurd (omega (arith, from, low))
one_of blocks block first (suc count) number from low =
    let sum = count_by-append (same_as block) (blocks first) (flat_map blocks (range_with_len (first + 1) count)) in
    elim (cases_eq first number) [
      | inl is ↦ let same : times block (blocks first) ≡ times block (blocks number) = ap (λ n. times block (blocks n)) is in omega (arith, sum, same)
      | inr not ↦ omega (arith, sum, one_of blocks block (first + 1) count number (omega (arith, from, not)) (omega (arith, low)))
    ]

two_of : (blocks : ℕ → List Block) (block : Block) (first count number other : ℕ) → first ≤ number → number < other → other < first + count
    → times block (blocks number) + times block (blocks other) ≤ times block (flat_map blocks (range_with_len first count))
two_of blocks block first zero number other from less low = absurd (omega (arith, from, less, low))
two_of blocks block first (suc count) number other from less low =
    let sum = count_by-append (same_as block) (blocks first) (flat_map blocks (range_with_len (first + 1) count)) in
    elim (cases_eq first number) [
      | inl is ↦
          let same : times block (blocks first) ≡ times block (blocks number) = ap (λ n. times block (blocks n)) is in
          omega (arith, sum, same, one_of blocks block (first + 1) count other (omega (arith, from, less)) (omega (arith, low)))
      | inr not ↦ omega (arith, sum, two_of blocks block (first + 1) count number other (omega (arith, from, not)) less (omega (arith, low)))
    ]

module _ (stored : Contents) (birth : ℕ) (set : ObjectSet) (objects : ℕ → Option Object) (own : List Block) (blocks : ℕ → List Block) (are : AreObjects stored birth set objects own blocks) where
  -- behind the last number there are none
  none_behind : (number : ℕ) → set.objects ≤ number → blocks number ≡ []
  none_behind number le =
      (subst (λ (node : Dnode). IsObject stored (birth_of are.dnodes.births number) node (objects number) (blocks number)) (are.dnodes.behind number le) (are.each number)).1

  pub numbered : (number : ℕ) (block : Block) → Contains (blocks number) block → number < set.objects
  numbered number block held = elim (cases_lt number set.objects) [
    | inl lt ↦ lt
    | inr ge ↦ let nothing : Contains [] block = subst (λ bs. Contains bs block) (none_behind number ge) held in absurd (omega (arith, nothing.1))
  ]

  abbrev all_of : List Block
  all_of = flat_map blocks (range_with_len 0 set.objects)

  each_once : (number : ℕ) → AreDistinct all_of → AreDistinct (blocks number)
  each_once number once = elim (cases_lt number set.objects) [
    | inl lt ↦ fewer_once (blocks number) all_of (λ block. one_of blocks block 0 set.objects number (omega arith) (omega (arith, lt))) once
    | inr ge ↦ subst (λ bs. AreDistinct bs) (sym (none_behind number ge)) (λ i j d less low. absurd (omega (arith, low)))
  ]

  not_both : (number other : ℕ) (block : Block) → AreDistinct all_of → number < other → Contains (blocks number) block → ¬ Contains (blocks other) block
  not_both number other block once less one two =
      omega (
        arith,
        two_of blocks block 0 set.objects number other (omega arith) less (omega (arith, numbered other block two)),
        once_counted block all_of once,
        counted block (blocks number) one,
        counted block (blocks other) two,
      )

  apart : (number other : ℕ) (block : Block) → AreDistinct all_of → Contains (blocks number) block → Contains (blocks other) block → number ≡ other
  apart number other block once one two = elim (cases_eq number other) [
    | inl same ↦ same
    | inr not ↦ elim (cases_lt number other) [
      | inl less ↦ absurd (not_both number other block once less one two)
      | inr more ↦ absurd (not_both other number block once (omega (arith, more, not)) two one)
    ]
  ]

  in_all : (number : ℕ) (block : Block) → Contains (blocks number) block → 0 < times block all_of
  in_all number block held =
      omega (arith, one_of blocks block 0 set.objects number (omega arith) (omega (arith, numbered number block held)), counted block (blocks number) held)

  pub set_once : AreDistinct (blocks_of_set set own blocks) → HasEachOnce own blocks
  set_once once =
      let below : AreDistinct all_of = back_once own all_of once in
      record {
        own_once = front_once own all_of once;
        each_once = λ number. each_once number below;
        own_apart = λ number block one two.
            omega (arith, once_counted block (own ++ all_of) once, count_by-append (same_as block) own all_of, counted block own one, in_all number block two);
        apart = λ number other block one two. apart number other block below one two;
      }
