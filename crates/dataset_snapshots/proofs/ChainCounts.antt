-- How many records have one before them.
use Rattle.std.proofs.Common.{◌≡◌, ◌≢◌, ℕ, suc, ◌+◌, ◌<◌, ◌≤◌, List, [], ◌∷◌, ◌++◌, length, take, get_or, Bool, true, false, Option, Some, AllPairs, Contains, inl, inr, refl, sym, ap, ◌∙◌, subst, arith}
use Rattle.std.specs.Prelude.{cond, filter, not, nat_eq, ◌==◌, ◌&&◌, All}
use Rattle.std.specs.HashMap.{get}
use Rattle.std.specs.Map.{count_at, lookup}
use Rattle.std.proofs.lemmas.Bool.{cases_eq, cond-true, cond-false, eq-eqb, ne_eqb}
use Rattle.std.proofs.lemmas.List.{length-append, length-take, take_more}
use Rattle.std.proofs.lemmas.List.Elements.{All-contains, All-head, All-tail, filter-append}
use Rattle.dataset_groups.proofs.ListParts.{first_or_later}
use Rattle.meta_objset.proofs.Edits.{pairs_head, pairs_tail}
use Rattle.dataset_snapshots.specs.declared.chaining.RowRecord.{RowRecord}
use Rattle.dataset_snapshots.specs.Chaining.{AreCountsOf, Counts, IsFollowed, behind_among, clones_among}
use Rattle.dataset_snapshots.proofs.ChainIndexes.{Apart}

-- ---- the counts of the first ones

pub none_counted : (counts : Counts) → counts.entries ≡ [] → AreCountsOf [] counts
none_counted counts empty object = ap (λ es. count_at (λ q. lookup (nat_eq q) es) object) empty

pub few_behind : (records : List RowRecord) (object : ℕ) → behind_among records object ≤ length records
few_behind [] object = omega arith
few_behind (one ∷ records) object =
    let rest = few_behind records object in
    elim (one.record.previous == object) as (λ b. length (cond b (one ∷ filter (λ (it : RowRecord). it.record.previous == object) records) (filter (λ (it : RowRecord). it.record.previous == object) records)) ≤ suc (length records)) [
      | true ↦ omega (arith, rest)
      | false ↦ omega (arith, rest)
    ]

abbrev one_if : Bool → ℕ
one_if b = cond b 1 0

-- with one more
behind_more : (records : List RowRecord) (one : RowRecord) (object : ℕ) → behind_among (records ++ one ∷ []) object ≡ behind_among records object + one_if (one.record.previous == object)
behind_more records one object =
    let test = λ (it : RowRecord). it.record.previous == object in
    let last : length (filter test (one ∷ [])) ≡ one_if (one.record.previous == object) =
    elim (one.record.previous == object) as (λ b. length (cond b (one ∷ []) []) ≡ one_if b) [
      | true ↦ refl
      | false ↦ refl
    ] in
    ap length (filter-append test records (one ∷ [])) ∙ length-append (filter test records) (filter test (one ∷ [])) ∙ ap (λ n. behind_among records object + n) last

counted_more : (records : List RowRecord) (one : RowRecord) (counts after : Counts) → ((q : ℕ) → get nat_eq after q ≡ cond (nat_eq one.record.previous q) (Some (count_at (get nat_eq counts) one.record.previous + 1)) (get nat_eq counts q))
    → AreCountsOf records counts → AreCountsOf (records ++ one ∷ []) after
counted_more records one counts after updates was object =
    let previous = one.record.previous in
    let value = λ (found : Option ℕ). count_at (λ (n : ℕ). found) object in
    elim (cases_eq previous object) [
      | inl e ↦
          let here : count_at (get nat_eq after) object ≡ count_at (get nat_eq counts) previous + 1 = ap value (updates object ∙ cond-true _ _ _ (eq-eqb previous object e)) in
          let one_more : one_if (previous == object) ≡ 1 = cond-true _ _ _ (eq-eqb previous object e) in
          here ∙ ap (λ n. count_at (get nat_eq counts) n + 1) e ∙ ap (λ n. n + 1) (was object) ∙ ap (λ n. behind_among records object + n) (sym one_more) ∙ sym (behind_more records one object)
      | inr ne ↦
          let there : count_at (get nat_eq after) object ≡ count_at (get nat_eq counts) object = ap value (updates object ∙ cond-false _ _ _ (ne_eqb previous object ne)) in
          let no_more : one_if (previous == object) ≡ 0 = cond-false _ _ _ (ne_eqb previous object ne) in
          let same : behind_among (records ++ one ∷ []) object ≡ behind_among records object = omega (arith, behind_more records one object, no_more) in
          there ∙ was object ∙ sym same
    ]

pub counts_next : (records : List RowRecord) (k : ℕ) (one other : RowRecord) (counts after : Counts) (count : ℕ) → k < length records → one ≡ get_or records k other
    → count ≡ count_at (get nat_eq counts) one.record.previous → ((q : ℕ) → get nat_eq after q ≡ cond (nat_eq one.record.previous q) (Some (count + 1)) (get nat_eq counts q)) → AreCountsOf (take k records) counts
    → AreCountsOf (take (k + 1) records) after
counts_next records k one other counts after count low is count_is updates was =
    let taken : take k records ++ one ∷ [] ≡ take (k + 1) records = ap (λ (r : RowRecord). take k records ++ r ∷ []) is ∙ sym (take_more records k other low) in
    let counted = λ (q : ℕ). updates q ∙ ap (λ n. cond (nat_eq one.record.previous q) (Some (n + 1)) (get nat_eq counts q)) count_is in
    subst (λ (rs : List RowRecord). AreCountsOf rs after) taken (counted_more (take k records) one counts after counted was)

-- what is counted is at most as much as records were seen
pub few_counted : (records : List RowRecord) (k : ℕ) (counts : Counts) (count object : ℕ) → count ≡ count_at (get nat_eq counts) object → AreCountsOf (take k records) counts → k < length records → count < length records
few_counted records k counts count object is was low =
    let few = few_behind (take k records) object in
    omega (arith, is ∙ was object, few, length-take k records, low)

-- ---- what comes next is no clone

module _ (object next : ℕ) where
  -- those that have it before them, and those of them that don't come next
  abbrev behind : RowRecord → Bool
  behind one = one.record.previous == object

  abbrev clone : RowRecord → Bool
  clone one = one.record.previous == object && not (one.object == next)

  -- one more that doesn't come next
  other_more : (one : RowRecord) (some all : List RowRecord) (more : ℕ) → one.object ≢ next → length all ≡ length some + more
      → length (cond (behind one) (one ∷ all) all) ≡ length (cond (clone one) (one ∷ some) some) + more
  other_more one some all more ne rest =
      subst (λ b. length (cond (behind one) (one ∷ all) all) ≡ length (cond (behind one && not b) (one ∷ some) some) + more) (sym (ne_eqb one.object next ne))
      (elim (behind one) as (λ b. length (cond b (one ∷ all) all) ≡ length (cond (b && not false) (one ∷ some) some) + more) [
        | true ↦ omega (arith, rest)
        | false ↦ rest
      ])

  none_next : (records : List RowRecord) → All (λ one. one.object ≢ next) records → behind_among records object ≡ clones_among records object next + 0
  none_next [] all = refl
  none_next (one ∷ records) all =
      other_more one (filter clone records) (filter behind records) 0 (All-head (λ (it : RowRecord). it.object ≢ next) one records all)
      (none_next records (All-tail (λ (it : RowRecord). it.object ≢ next) one records all))

  pub one_next : (records : List RowRecord) (it : RowRecord) → AllPairs Apart records → Contains records it → it.object ≡ next → it.record.previous ≡ object
      → behind_among records object ≡ clones_among records object next + 1
  one_next [] it apart held is names = absurd (omega (arith, held.1))
  one_next (one ∷ records) it apart held is names = elim (first_or_later one it records held) [
    | inl same ↦
        let comes : one.object ≡ next = ap (λ (r : RowRecord). r.object) same ∙ is in
        let before : one.record.previous ≡ object = ap (λ (r : RowRecord). r.record.previous) same ∙ names in
        let others : All (λ (later : RowRecord). later.object ≢ next) records = λ k d low e. pairs_head Apart one records apart k d low (comes ∙ sym e) in
        let rest = none_next records others in
        subst (λ b. length (cond b (one ∷ filter behind records) (filter behind records)) ≡ length (cond (b && not (one.object == next)) (one ∷ filter clone records) (filter clone records)) + 1)
        (sym (eq-eqb one.record.previous object before))
        (subst (λ b. suc (behind_among records object) ≡ length (cond (true && not b) (one ∷ filter clone records) (filter clone records)) + 1) (sym (eq-eqb one.object next comes)) (omega (arith, rest)))
    | inr later ↦
        let ne : one.object ≢ next = λ e. All-contains (Apart one) records it (pairs_head Apart one records apart) later (e ∙ sym is) in
        other_more one (filter clone records) (filter behind records) 1 ne (one_next records it (pairs_tail Apart one records apart) later is names)
  ]

-- a snapshot that something comes next to has one clone fewer than are counted
pub counted_by : (records : List RowRecord) (counts : Counts) (one : RowRecord) → AllPairs Apart records → AreCountsOf records counts → IsFollowed records one
    → count_at (get nat_eq counts) one.object ≡ clones_among records one.object one.record.next + 1
counted_by records counts one apart counted (next, held, names) =
    counted one.object ∙ one_next one.object one.record.next records (record { object = one.record.next; «record» = next }) apart held refl names
