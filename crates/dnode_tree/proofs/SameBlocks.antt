-- Equal blocks are one, and how often a list has a block.
use Rattle.std.proofs.Common.{Bool, true, false, ◌&&◌, cond, ◌≡◌, ℕ, zero, suc, ◌+◌, ◌<◌, ◌≤◌, List, [], ◌∷◌, get_or, Contains, refl, sym, ap, ◌∙◌, subst, arith}
use Rattle.std.specs.List.{count_by}
use Rattle.std.specs.Cmp.{IsEquivalence}
use Rattle.std.specs.Cmp.Lexicographic.{same_text}
use Rattle.std.proofs.lemmas.Bool.{eqb-true}
use Rattle.std.proofs.lemmas.List.{get_or_default}
use Rattle.std.proofs.lemmas.List.Elements.{Contains-append_right}
use Rattle.std.proofs.lemmas.List.Sums.{sum_by-cons}
use Rattle.block_pointer.specs.declared.block.Block.{Block}
use Rattle.block_pointer.specs.declared.copies.Copies.{Copies}
use Rattle.block_pointer.specs.declared.copies.Copies.TheVariants.{One, Two, Three}
use Rattle.block_pointer.specs.declared.dva.Dva.{Dva}
use Rattle.block_pointer.specs.declared.property.Property.{Property}
use Rattle.block_pointer.specs.contracts.block.BlockPartialEq.TheImpl as block_eq
use Rattle.block_pointer.specs.contracts.copies.CopiesPartialEq.TheImpl as copies_eq
use Rattle.block_pointer.specs.contracts.dva.DvaPartialEq.TheImpl as dva_eq
use Rattle.block_pointer.specs.contracts.property.PropertyPartialEq.TheImpl as property_eq
use Rattle.block_pointer.specs.contracts.block.BlockEq.TheImpl.Laws.{laws-law}
use Rattle.dnode_tree.specs.Rewriting.{AreDistinct}

-- whether two blocks are equal
abbrev pub same_as : Block → Block → Bool
same_as = (block_eq.ghosts).eq

both_true : (a b : Bool) → (a && b) ≡ true → (a ≡ true) × (b ≡ true)
both_true true b is = (refl, is)
both_true false b is = absurd (cc)

dva_same : (x y : Dva) → (dva_eq.ghosts).eq x y ≡ true → x ≡ y
dva_same x y same =
    let (vdev, rest) = both_true _ _ same in
    let (offset, allocated) = both_true _ _ rest in
    let a : x.vdev ≡ y.vdev = eqb-true _ _ vdev in
    let b : x.offset ≡ y.offset = eqb-true _ _ offset in
    let c : x.allocated ≡ y.allocated = eqb-true _ _ allocated in
    λ i. record { vdev = a i; offset = b i; allocated = c i }

property_same : (x y : Property) → (property_eq.ghosts).eq x y ≡ true → x ≡ y
property_same x y same =
    let (level, rest) = both_true _ _ same in
    let (object_type, sectors) = both_true _ _ rest in
    let a : x.level ≡ y.level = eqb-true _ _ level in
    let b : x.object_type ≡ y.object_type = eqb-true _ _ object_type in
    let c : x.sectors ≡ y.sectors = eqb-true _ _ sectors in
    λ i. record { level = a i; object_type = b i; sectors = c i }

copies_same : (x y : Copies) → (copies_eq.ghosts).eq x y ≡ true → x ≡ y
copies_same (One a) (One b) same = ap One (dva_same a b same)
copies_same (One a) (Two b c) same = absurd (cc)
copies_same (One a) (Three b c d) same = absurd (cc)
copies_same (Two a c) (One b) same = absurd (cc)
copies_same (Two a b) (Two c d) same =
    let (first, second) = both_true _ _ same in
    let one : a ≡ c = dva_same a c first in
    let two : b ≡ d = dva_same b d second in
    λ i. Two (one i) (two i)
copies_same (Two a b) (Three c d e) same = absurd (cc)
copies_same (Three a b c) (One d) same = absurd (cc)
copies_same (Three a b c) (Two d e) same = absurd (cc)
copies_same (Three a b c) (Three d e f) same =
    let (first, rest) = both_true _ _ same in
    let (second, third) = both_true _ _ rest in
    let one : a ≡ d = dva_same a d first in
    let two : b ≡ e = dva_same b e second in
    let three : c ≡ f = dva_same c f third in
    λ i. Three (one i) (two i) (three i)

pub same_is : (x y : Block) → (block_eq.ghosts).eq x y ≡ true → x ≡ y
same_is x y same =
    let (copies, rest) = both_true _ _ same in
    let (property, rest') = both_true _ _ rest in
    let (birth, rest'') = both_true _ _ rest' in
    let (fill, checksum) = both_true _ _ rest'' in
    let a : x.copies ≡ y.copies = copies_same _ _ copies in
    let b : x.property ≡ y.property = property_same _ _ property in
    let c : x.birth ≡ y.birth = eqb-true _ _ birth in
    let d : x.fill ≡ y.fill = eqb-true _ _ fill in
    let e : x.checksum ≡ y.checksum = same_text _ _ (sym checksum) in
    λ i. record { copies = a i; property = b i; birth = c i; fill = d i; checksum = e i }

pub blocks_compare : IsEquivalence ((block_eq.ghosts).eq)
blocks_compare = laws-law

-- ---- counts

abbrev one_if : Bool → ℕ
one_if test = cond test 1 0

count_more : (b x : Block) (xs : List Block) → count_by (same_as b) (x ∷ xs) ≡ one_if (same_as b x) + count_by (same_as b) xs
count_more b x xs = sum_by-cons (λ y. one_if (same_as b y)) x xs

itself : (b x : Block) → x ≡ b → same_as b x ≡ true
itself b x is = subst (λ y. same_as b y ≡ true) (sym is) (blocks_compare.refl b)

pub counted : (b : Block) (xs : List Block) → Contains xs b → 0 < count_by (same_as b) xs
counted b [] held = absurd (omega (arith, held.1))
counted b (x ∷ xs) (zero, low, is) = omega (arith, count_more b x xs, ap one_if (itself b x is))
counted b (x ∷ xs) (suc k, low, is) = let rest : 0 < count_by (same_as b) xs = counted b xs (k, omega (arith, low), is) in omega (arith, count_more b x xs, rest)

pub found : (b : Block) (xs : List Block) → 0 < count_by (same_as b) xs → Contains xs b
found b [] some = absurd (omega (arith, some))
found b (x ∷ xs) some = by_cases (found b xs) (same_as b x) refl
  where
    by_cases : (0 < count_by (same_as b) xs → Contains xs b) → (t : Bool) → same_as b x ≡ t → Contains (x ∷ xs) b
    by_cases behind true is = (0, omega arith, sym (same_is b x is))
    by_cases behind false is =
        let rest : 0 < count_by (same_as b) xs = omega (arith, some, count_more b x xs, ap one_if is) in
        Contains-append_right (x ∷ []) xs b (behind rest)

pub once_counted : (b : Block) (xs : List Block) → AreDistinct xs → count_by (same_as b) xs ≤ 1
once_counted b [] distinct = omega arith
once_counted b (x ∷ xs) distinct = by_cases (once_counted b xs (λ i j d less low. distinct (suc i) (suc j) d (omega (arith, less)) (omega (arith, low)))) (same_as b x) refl
  where
    none : b ≡ x → 0 < count_by (same_as b) xs → ⊥
    none is some = let (k, low, at) = found b xs some in distinct 0 (suc k) b (omega arith) (omega (arith, low)) (sym is ∙ sym at)

    by_cases : count_by (same_as b) xs ≤ 1 → (t : Bool) → same_as b x ≡ t → count_by (same_as b) (x ∷ xs) ≤ 1
    by_cases tail true is = let rest : ¬ (0 < count_by (same_as b) xs) = none (same_is b x is) in omega (arith, count_more b x xs, ap one_if is, rest)
    by_cases tail false is = omega (arith, count_more b x xs, ap one_if is, tail)

pub distinct_counted : (xs : List Block) → ((b : Block) → count_by (same_as b) xs ≤ 1) → AreDistinct xs
distinct_counted [] few i j d less low same = absurd (omega (arith, low))
distinct_counted (x ∷ xs) few i zero d less low same = absurd (omega (arith, less))
distinct_counted (x ∷ xs) few zero (suc j) d less low same =
    let held : Contains xs x = subst (λ b. Contains xs b) (sym same) (j, omega (arith, low), at) in
    let some : 0 < count_by (same_as x) xs = counted x xs held in
    let both : count_by (same_as x) (x ∷ xs) ≤ 1 = few x in
    absurd (omega (arith, count_more x x xs, some, ap one_if (blocks_compare.refl x), both))
  where
    at : get_or xs j (get_or xs j d) ≡ get_or xs j d
    at = get_or_default xs j (get_or xs j d) d (omega (arith, low))
distinct_counted (x ∷ xs) few (suc i) (suc j) d less low same =
    distinct_counted xs (λ b. (let all : count_by (same_as b) (x ∷ xs) ≤ 1 = few b in omega (arith, count_more b x xs, all))) i j d (omega (arith, less)) (omega (arith, low)) same
