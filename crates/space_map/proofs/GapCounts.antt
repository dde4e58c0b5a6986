-- How many gaps there are between free runs.
use Rattle.std.proofs.Common.{◌≡◌, ℕ, ◌+◌, ◌-◌, ◌<◌, ◌≤◌, inl, inr, List, [], ◌∷◌, length, get_or, refl, ap, subst, ◌∙◌, arith}
use Rattle.std.proofs.lemmas.Bool.{cases_lt}
use Rattle.std.proofs.lemmas.List.{length-append}
use Rattle.space_map.specs.declared.entry.Run.{Run}
use Rattle.space_map.specs.Allocated.{gap, gaps_between}
use Rattle.space_map.specs.Sectors.{AreBetween}
use Rattle.space_map.proofs.RunLemmas.{not_empty-some, not_empty-none, ends_within}
use Rattle.space_map.proofs.Gaps.{earlier_from}

pub one_gap : (from to : ℕ) → from < to → length (gap from to) ≡ 1
one_gap from to some = ap length (not_empty-some (record { start = from; len = to - from }) (omega arith)) ∙ refl

pub no_gap : (from to : ℕ) → to ≤ from → length (gap from to) ≡ 0
no_gap from to none = ap length (not_empty-none (record { start = from; len = to - from }) (omega arith)) ∙ refl

few_gaps : (from to : ℕ) → length (gap from to) ≤ to - from
few_gaps from to =
    elim (cases_lt from to) [
      | inl some ↦ omega (arith, one_gap from to some)
      | inr none ↦ omega (arith, no_gap from to none)
    ]

gaps_count : (from sectors : ℕ) (r : Run) (rs : List Run) (d : Run) → AreBetween from (sectors + 1) (r ∷ rs)
    → length (gaps_between from sectors (r ∷ rs)) ≡ length (gap from r.start) + length rs + length (gap ((get_or (r ∷ rs) (length rs) d).start + (get_or (r ∷ rs) (length rs) d).len) sectors)
gaps_count from sectors r [] d apart =
    let e = length-append (gap from r.start) (gap (r.start + r.len) sectors) in
    omega (arith, e)
gaps_count from sectors r (q ∷ qs) d apart =
    let e = length-append (gap from r.start) (gaps_between (r.start + r.len) sectors (q ∷ qs)) in
    let starts : r.start + r.len + 1 ≤ q.start = apart.2.0 in
    let others = gaps_count (r.start + r.len) sectors q qs d (earlier_from (r.start + r.len + 1) (r.start + r.len) (sectors + 1) (q ∷ qs) apart.2 (omega arith)) in
    let one = one_gap (r.start + r.len) q.start (omega arith) in
    omega (arith, e, others, one)

pub gaps_few : (from sectors : ℕ) (rs : List Run) → AreBetween from (sectors + 1) rs → from ≤ sectors → length (gaps_between from sectors rs) ≤ sectors - from
gaps_few from sectors [] apart within = few_gaps from sectors
gaps_few from sectors (r ∷ rs) apart within =
    let e = length-append (gap from r.start) (gaps_between (r.start + r.len) sectors rs) in
    let a = few_gaps from r.start in
    let starts : from ≤ r.start = apart.0 in
    let end : r.start + r.len + 1 ≤ sectors + 1 = ends_within (r.start + r.len + 1) (sectors + 1) rs apart.2 in
    let b = gaps_few (r.start + r.len) sectors rs (earlier_from (r.start + r.len + 1) (r.start + r.len) (sectors + 1) rs apart.2 (omega arith)) (omega arith) in
    omega (arith, e, a, b)

pub counted : (sectors front back : ℕ) (rs : List Run) (d : Run) → 0 < length rs → AreBetween 0 (sectors + 1) rs → front ≡ length (gap 0 (get_or rs 0 d).start)
    → back ≡ length (gap ((get_or rs (length rs - 1) d).start + (get_or rs (length rs - 1) d).len) sectors) → length rs - 1 + front + back ≡ length (gaps_between 0 sectors rs)
counted sectors front back [] d some apart f b = absurd (omega arith)
counted sectors front back (r ∷ rs) d some apart f b =
    let last : length (r ∷ rs) - 1 ≡ length rs = omega arith in
    let at_end : back ≡ length (gap ((get_or (r ∷ rs) (length rs) d).start + (get_or (r ∷ rs) (length rs) d).len) sectors) = subst (λ (n : ℕ). back ≡ length (gap ((get_or (r ∷ rs) n d).start + (get_or (r ∷ rs) n d).len) sectors)) last b in
    omega (arith, gaps_count 0 sectors r rs d apart, f, at_end, last)
