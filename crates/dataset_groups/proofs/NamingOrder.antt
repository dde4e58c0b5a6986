-- The order of names, padded and not.
use Rattle.std.proofs.Common.{◌≡◌, ◌≢◌, ℕ, zero, suc, ◌+◌, ◌-◌, true, false, List, [], ◌∷◌, ◌++◌, length, refl, sym, ap, ◌∙◌, arith}
use Rattle.std.specs.Prelude.{replicate, All}
use Rattle.std.specs.Cmp.{nat_cmp_is}
use Rattle.std.specs.Cmp.Lexicographic.{slice_cmp}
use Rattle.std.specs.declared.cmp.Ordering.{Ordering}
use Rattle.std.specs.declared.cmp.Ordering.TheVariants.{Less, Equal, Greater}
use Rattle.std.specs.Ordering.{nat_cmp, is_lt, ordering_reverse, ordering_then}
use Rattle.std.proofs.lemmas.Cmp.{nat_list_cmp_total}
use Rattle.std.proofs.lemmas.List.Elements.{All-head, All-tail}
use Rattle.meta_objset.specs.Names.{IsBefore, IsNamed}
use Rattle.pool_model.specs.Names.{is_before}

abbrev compared : List ℕ → List ℕ → Ordering
compared name other = slice_cmp nat_cmp name other

abbrev zeros : ℕ → List ℕ
zeros n = replicate n 0

abbrev HasNoZero : List ℕ → Type 0
HasNoZero name = All (λ byte. byte ≢ 0) name

same_zeros : (n : ℕ) → compared (zeros n) (zeros n) ≡ Equal
same_zeros zero = refl
same_zeros (suc n) = same_zeros n

below : (byte : ℕ) → byte ≢ 0 → nat_cmp 0 byte ≡ Less
below byte some = sym (nat_cmp_is 0 byte Less (omega arith))

above : (byte : ℕ) → byte ≢ 0 → nat_cmp byte 0 ≡ Greater
above byte some = sym (nat_cmp_is byte 0 Greater (omega arith))

-- names with no zero compare as they do with zeros behind them, where both are of one length
pub cmp_padded : (name other : List ℕ) (a b : ℕ) → length name + a ≡ length other + b → HasNoZero name → HasNoZero other
    → compared (name ++ zeros a) (other ++ zeros b) ≡ compared name other
cmp_padded [] [] a b len no_zero none =
    let same : a ≡ b = omega (arith, len) in ap (λ n. compared (zeros a) (zeros n)) (sym same) ∙ same_zeros a
cmp_padded [] (byte ∷ other) zero b len no_zero none = absurd (omega (arith, len))
cmp_padded [] (byte ∷ other) (suc a) b len no_zero none =
    ap (λ o. ordering_then o (compared (zeros a) (other ++ zeros b))) (below byte (All-head (λ byte. byte ≢ 0) byte other none))
cmp_padded (byte ∷ name) [] a zero len no_zero none = absurd (omega (arith, len))
cmp_padded (byte ∷ name) [] a (suc b) len no_zero none =
    ap (λ o. ordering_then o (compared (name ++ zeros a) (zeros b))) (above byte (All-head (λ byte. byte ≢ 0) byte name no_zero))
cmp_padded (byte ∷ name) (first ∷ other) a b len no_zero none =
    ap (λ o. ordering_then (nat_cmp byte first) o)
    (cmp_padded name other a b (omega (arith, len)) (All-tail (λ byte. byte ≢ 0) byte name no_zero) (All-tail (λ byte. byte ≢ 0) first other none))

-- names stand in rows in the order that they have without the zeros
cmp_named : (padded name other_padded other : List ℕ) → IsNamed padded name → IsNamed other_padded other → compared padded other_padded ≡ compared name other
cmp_named padded name other_padded other is also =
    ap (λ (n : List ℕ). compared n other_padded) is.padded_is ∙ ap (λ (n : List ℕ). compared (name ++ zeros (56 - length name)) n) also.padded_is
    ∙ cmp_padded name other (56 - length name) (56 - length other) (omega (arith, is.few, also.few)) is.no_zero also.no_zero

pub before_named : (padded name other_padded other : List ℕ) → IsNamed padded name → IsNamed other_padded other → IsBefore padded other_padded → is_before name other ≡ true
before_named padded name other_padded other is also before = ap is_lt (sym (cmp_named padded name other_padded other is also) ∙ before)

pub behind_named : (padded name other_padded other : List ℕ) → IsNamed padded name → IsNamed other_padded other → IsBefore other_padded padded → is_before name other ≡ false
behind_named padded name other_padded other is also behind =
    ap is_lt (sym (cmp_named padded name other_padded other is also) ∙ (nat_list_cmp_total.antisymm padded other_padded ∙ ap ordering_reverse behind))
