-- The disks as a loop takes them up, with their numbers.
use Rattle.std.proofs.Common.{◌≡◌, ◌<◌, ◌+◌, ◌∙◌, ℕ, List, [], ◌∷◌, ◌++◌, length, get_or, take, Option, Some, None, ap, sym, arith}
use Rattle.std.specs.Iterator.{Yields}
use Rattle.std.specs.Iterator.Adapters.{enumerate_source, enumerate_count, enumerate_steps}
use Rattle.std.specs.List.{enumerate_from}
use Rattle.std.specs.Vec.Iter.{into_iter_items, into_iter_len, into_iter_steps}
use Rattle.std.specs.declared.iter.Enumerate.{Enumerate}
use Rattle.std.specs.declared.vec.IntoIter.{IntoIter}
use Rattle.std.proofs.lemmas.Iterator.{YieldsList}
use Rattle.std.proofs.lemmas.Iterator.Adapters.{YieldsList-from_vec}
use Rattle.std.proofs.lemmas.Iterator.Consumers.{YieldsList-at, YieldsList-from_enumerate, YieldsList-turn, YieldsList-end}
use Rattle.std.proofs.lemmas.List.{length-take-le, length_push, take_more}
use Rattle.std.proofs.lemmas.List.FromFn.{length-enumerate_from, get_or-enumerate_from}

-- the next disk, after those that were yielded
pub record IsTurn {D : Type 0} (disks : List D) (yielded : List (ℕ × D)) (place : ℕ) (d : D) : Type 0 where
  pub inside : place < length disks
  pub here : place ≡ length (take (length yielded) disks)
  pub grown : take (length (yielded ++ (place, d) ∷ [])) disks ≡ take (length yielded) disks ++ d ∷ []

module _ {D Z : Type 0} where
  road : (disks : List D) (all : IntoIter D Z) (counted began : Enumerate (IntoIter D Z))
      → into_iter_items all ≡ disks → into_iter_len all ≡ length disks → enumerate_source counted ≡ all → enumerate_count counted ≡ 0 → began ≡ counted
      → YieldsList {B = ℕ × D} (enumerate_steps (into_iter_steps {X = D} {Z = Z})) (λ p. (p.0, p.1)) began (enumerate_from 0 disks)
  road disks all counted began items count source none is =
      YieldsList-at is (YieldsList-from_enumerate (YieldsList-at source (YieldsList-from_vec disks items count)) none)

  pub turn : (disks : List D) (all : IntoIter D Z) (counted began now later : Enumerate (IntoIter D Z)) (yielded : List (ℕ × D)) (r : Option (ℕ × D)) (place : ℕ) (d : D)
      → into_iter_items all ≡ disks → into_iter_len all ≡ length disks → enumerate_source counted ≡ all → enumerate_count counted ≡ 0 → began ≡ counted
      → Yields (enumerate_steps (into_iter_steps {X = D} {Z = Z})) began yielded now → r ≡ Some (place, d)
      → enumerate_steps (into_iter_steps {X = D} {Z = Z}) now r later → IsTurn disks yielded place d
  turn disks all counted began now later yielded r place d items count source none is were now_is steps =
      let at = YieldsList-turn (road disks all counted began items count source none is) yielded now were r later (place, d) now_is steps in
      let below : length yielded < length disks = omega (arith, at.0, length-enumerate_from 0 disks) in
      let pair : ◌≡◌ {A = ℕ × D} (place, d) (0 + length yielded, get_or disks (length yielded) d) = at.1 ∙ get_or-enumerate_from 0 disks (length yielded) (place, d) below in
      let number : place ≡ 0 + length yielded = ap (λ (p : ℕ × D). p.0) pair in
      let disk : d ≡ get_or disks (length yielded) d = ap (λ (p : ℕ × D). p.1) pair in
      record {
        inside = omega (arith, number, below);
        here = omega (arith, number, length-take-le (length yielded) disks (omega arith));
        grown = ap (λ n. take n disks) (length_push yielded (place, d)) ∙ take_more disks (length yielded) d below
            ∙ ap (λ e. take (length yielded) disks ++ e ∷ []) (sym disk);
      }

  pub turned : (disks : List D) (all : IntoIter D Z) (counted began now later : Enumerate (IntoIter D Z)) (yielded : List (ℕ × D)) (r : Option (ℕ × D))
      → into_iter_items all ≡ disks → into_iter_len all ≡ length disks → enumerate_source counted ≡ all → enumerate_count counted ≡ 0 → began ≡ counted
      → Yields (enumerate_steps (into_iter_steps {X = D} {Z = Z})) began yielded now → r ≡ None
      → enumerate_steps (into_iter_steps {X = D} {Z = Z}) now r later → length disks ≡ length yielded
  turned disks all counted began now later yielded r items count source none is were now_is steps =
      let at = YieldsList-end (road disks all counted began items count source none is) yielded now were r later now_is steps in
      omega (arith, at.1, length-enumerate_from 0 disks)
