-- The objects of rows with a row more.
use Rattle.std.proofs.Common.{◌≡◌, ◌≢◌, ◌⊎◌, ℕ, zero, suc, List, [], ◌∷◌, AllPairs, Contains, inl, inr, sym, subst, ◌∙◌, arith}
use Rattle.std.specs.Prelude.{insert}
use Rattle.std.proofs.lemmas.List.Elements.{All-contains}
use Rattle.meta_objset.proofs.Edits.{pairs_between, pairs_head, pairs_tail}
use Rattle.meta_objset.specs.declared.directory.DirectoryRow.{DirectoryRow}
use Rattle.dataset_groups.specs.Names.{objects_of_rows}
use Rattle.dataset_groups.proofs.ListParts.{all_from, first_or_later, is_first, is_later, nothing_in}

abbrev Differ : ℕ → ℕ → Type 0
Differ m later = m ≢ later

module _ (row : DirectoryRow) where
  pub has_new : (rows : List DirectoryRow) (place : ℕ) → Contains (objects_of_rows (insert rows place row)) row.object
  has_new rows zero = is_first row.object (objects_of_rows rows)
  has_new [] (suc place) = is_first row.object []
  has_new (first ∷ rows) (suc place) = is_later first.object row.object (objects_of_rows (insert rows place row)) (has_new rows place)

  pub has_old : (rows : List DirectoryRow) (place m : ℕ) → Contains (objects_of_rows rows) m → Contains (objects_of_rows (insert rows place row)) m
  has_old rows zero m held = is_later row.object m (objects_of_rows rows) held
  has_old [] (suc place) m held = absurd (nothing_in m held)
  has_old (first ∷ rows) (suc place) m held = elim (first_or_later first.object m (objects_of_rows rows) held) [
    | inl same ↦ subst (λ n. Contains (objects_of_rows (insert (first ∷ rows) (suc place) row)) n) same (is_first first.object (objects_of_rows (insert rows place row)))
    | inr later ↦ is_later first.object m (objects_of_rows (insert rows place row)) (has_old rows place m later)
  ]

  -- each is the new one or one of the old
  from_either : (rows : List DirectoryRow) (place m : ℕ) → Contains (objects_of_rows (insert rows place row)) m → (row.object ≡ m) ⊎ Contains (objects_of_rows rows) m
  from_either rows zero m held = first_or_later row.object m (objects_of_rows rows) held
  from_either [] (suc place) m held = first_or_later row.object m [] held
  from_either (first ∷ rows) (suc place) m held = elim (first_or_later first.object m (objects_of_rows (insert rows place row)) held) [
    | inl same ↦ inr (subst (λ n. Contains (objects_of_rows (first ∷ rows)) n) same (is_first first.object (objects_of_rows rows)))
    | inr later ↦ elim (from_either rows place m later) [
      | inl one ↦ inl one
      | inr old ↦ inr (is_later first.object m (objects_of_rows rows) old)
    ]
  ]

  pub once_with : (rows : List DirectoryRow) (place : ℕ) → AllPairs Differ (objects_of_rows rows) → ((m : ℕ) → Contains (objects_of_rows rows) m → m ≢ row.object)
      → AllPairs Differ (objects_of_rows (insert rows place row))
  once_with rows zero once apart =
      pairs_between Differ [] (objects_of_rows rows) row.object once (λ k d low. absurd (omega (arith, low))) (all_from (Differ row.object) (objects_of_rows rows) (λ m held e. apart m held (sym e)))
  once_with [] (suc place) once apart = λ i j d less low. absurd (omega (arith, less, low))
  once_with (first ∷ rows) (suc place) once apart =
      let rest : List ℕ = objects_of_rows (insert rows place row) in
      pairs_between Differ [] rest first.object
      (once_with rows place (pairs_tail Differ first.object (objects_of_rows rows) once) (λ m held. apart m (is_later first.object m (objects_of_rows rows) held)))
      (λ k d low. absurd (omega (arith, low)))
      (all_from (Differ first.object) rest (λ m held e.
      elim (from_either rows place m held) [
        | inl new ↦ apart first.object (is_first first.object (objects_of_rows rows)) (e ∙ sym new)
        | inr old ↦ All-contains (Differ first.object) (objects_of_rows rows) m (pairs_head Differ first.object (objects_of_rows rows) once) old e
      ]))

-- each object is a row's
pub of_row : (rows : List DirectoryRow) (m : ℕ) → Contains (objects_of_rows rows) m → (row : DirectoryRow) × Contains rows row × (row.object ≡ m)
of_row [] m held = absurd (nothing_in m held)
of_row (row ∷ rows) m held = elim (first_or_later row.object m (objects_of_rows rows) held) [
  | inl same ↦ (row, is_first row rows, same)
  | inr later ↦ let it = of_row rows m later in (it.0, is_later row it.0 rows it.1, it.2)
]
