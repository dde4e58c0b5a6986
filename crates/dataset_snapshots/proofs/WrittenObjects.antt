-- The objects that a group's writes name.
use Rattle.std.proofs.Common.{◌≡◌, ◌↔◌, ℕ, ◌+◌, ◌<◌, true, false, true≢false, List, [], ◌∷◌, ◌++◌, length, take, get_or, AllPairs, Contains, inl, inr, ⊎_elim, refl, sym, ap, subst, ◌∙◌}
use Rattle.std.specs.Prelude.{IsPermutation, nat_eq}
use Rattle.std.specs.List.{dedup}
use Rattle.std.proofs.lemmas.List.{take_more}
use Rattle.std.proofs.lemmas.List.Elements.{All-contains, Contains-append_left, Contains-push, Contains-push_cases}
use Rattle.std.proofs.lemmas.List.Kept.{Contains-dedup_nat, Contains-from_dedup}
use Rattle.std.proofs.lemmas.List.Quantifiers.{Any-push}
use Rattle.std.proofs.lemmas.List.Sorted.{Contains-permutation, IsPermutation-sym}
use Rattle.dataset_groups.proofs.ListParts.{any_append_left, any_push_cases}
use Rattle.meta_objset.specs.declared.directory.DirectoryRow.{DirectoryRow}
use Rattle.meta_objset.specs.Names.{IsBefore}
use Rattle.meta_objset.proofs.Edits.{apart, pairs_head, pairs_tail}
use Rattle.pool_model.specs.declared.item.Write.{Write}
use Rattle.pool_model.specs.Names.{is_snapshot_name}
use Rattle.dataset_snapshots.specs.Finding.{HasNoRow, IsRowOf}
use Rattle.dataset_snapshots.specs.Writing.{IsWrittenBut}
use Rattle.dataset_snapshots.proofs.ChangedRows.{first_or_later, nothing_in}
use Rattle.dataset_snapshots.proofs.Rows.{padded_same}

-- rows with one name are one
one_name : (rows : List DirectoryRow) (row other : DirectoryRow) → AllPairs (λ before later. IsBefore before.name later.name) rows → Contains rows row → Contains rows other
    → row.name ≡ other.name → row ≡ other
one_name [] row other order held also is = absurd (nothing_in row held)
one_name (first ∷ rows) row other order held also is =
    let Before : DirectoryRow → DirectoryRow → Type 0 = λ a b. IsBefore a.name b.name in
    let behind = pairs_head Before first rows order in
    elim (first_or_later first row rows held) [
      | inl one ↦ elim (first_or_later first other rows also) [
        | inl both ↦ sym one ∙ both
        | inr later ↦ absurd (apart first.name other.name (All-contains (Before first) rows other behind later) (ap (λ (r : DirectoryRow). r.name) one ∙ is))
      ]
      | inr later ↦ elim (first_or_later first other rows also) [
        | inl front ↦ absurd (apart first.name row.name (All-contains (Before first) rows row behind later) (ap (λ (r : DirectoryRow). r.name) front ∙ sym is))
        | inr rest ↦ one_name rows row other (pairs_tail Before first rows order) later rest is
      ]
    ]

-- a name has one object
one_object : (rows : List DirectoryRow) (name : List ℕ) (object other : ℕ) → AllPairs (λ before later. IsBefore before.name later.name) rows → IsRowOf rows name object → IsRowOf rows name other → object ≡ other
one_object rows name object other order (row, held, named, is) (next, also, named_too, is_too) =
    let same : row ≡ next = one_name rows row next order held also (padded_same row.name next.name name name named named_too refl) in
    sym is ∙ (ap (λ (r : DirectoryRow). r.object) same ∙ is_too)

-- the write is to a name, no snapshot's and none of these, that the directory has with this object
abbrev IsTo : List DirectoryRow → List (List ℕ) → ℕ → Write → Type 0
IsTo rows destroyed object write =
    (is_snapshot_name write.volume ≡ false) × ((¬ Contains destroyed write.volume) × IsRowOf rows write.volume object)

abbrev AreWritten : List DirectoryRow → List (List ℕ) → List Write → List ℕ → Type 0
AreWritten rows destroyed writes objects = (object : ℕ) → Contains objects object ↔ IsWrittenBut rows destroyed writes object

module _ (rows : List DirectoryRow) (destroyed : List (List ℕ)) (writes : List Write) (i : ℕ) (write : Write) (lt : i < length writes) (is : write ≡ get_or writes i write) where
  abbrev Before : List ℕ → Type 0
  Before objects = AreWritten rows destroyed (take i writes) objects

  abbrev After : List ℕ → Type 0
  After objects = AreWritten rows destroyed (take (i + 1) writes) objects

  abbrev Named : ℕ → Write → Type 0
  Named object = IsTo rows destroyed object

  taken_more : take (i + 1) writes ≡ take i writes ++ write ∷ []
  taken_more = take_more writes i write lt ∙ ap (λ w. take i writes ++ w ∷ []) (sym is)

  -- one more name that the directory has
  pub one_more : (objects new : List ℕ) (object : ℕ) → AllPairs (λ before later. IsBefore before.name later.name) rows → is_snapshot_name write.volume ≡ false
      → ¬ Contains destroyed write.volume → IsRowOf rows write.volume object → new ≡ objects ++ object ∷ [] → Before objects → After new
  one_more objects new object order volume other row more so_far =
      subst (λ ws. AreWritten rows destroyed ws new) (sym taken_more) (subst (AreWritten rows destroyed (take i writes ++ write ∷ [])) (sym more) (λ x. (
        λ held.
            ⊎_elim (λ old. any_append_left (Named x) (take i writes) write ((so_far x).0 old))
            (λ same. Any-push (Named x) (take i writes) write (volume, (other, subst (IsRowOf rows write.volume) same row)))
            (Contains-push_cases objects object x held),
        λ any.
            ⊎_elim (λ old. Contains-append_left objects (object ∷ []) x ((so_far x).1 old))
            (λ here. subst (Contains (objects ++ object ∷ [])) (one_object rows write.volume object x order row here.1.1) (Contains-push objects object))
            (any_push_cases (Named x) (take i writes) write any),
      )))

  -- a write that is to no volume
  none_more : (objects new : List ℕ) → ((object : ℕ) → ¬ Named object write) → new ≡ objects → Before objects → After new
  none_more objects new none same so_far = subst (λ ws. AreWritten rows destroyed ws new) (sym taken_more) (subst (AreWritten rows destroyed (take i writes ++ write ∷ [])) (sym same) (λ x. (
    λ held. any_append_left (Named x) (take i writes) write ((so_far x).0 held),
    λ any. ⊎_elim (λ old. (so_far x).1 old) (λ here. absurd (none x here)) (any_push_cases (Named x) (take i writes) write any),
  )))

  -- whose name the directory hasn't got
  pub no_more : (objects new : List ℕ) → HasNoRow rows write.volume → new ≡ objects → Before objects → After new
  no_more objects new none same so_far =
      none_more objects new
      (λ object here. let row = here.1.1 in All-contains (λ (r : DirectoryRow). ¬ (r.name ≡ row.0.name)) rows row.0 (none row.0.name row.2) row.1 refl) same so_far

  -- or whose name is a snapshot's
  pub skipped : (objects new : List ℕ) → is_snapshot_name write.volume ≡ true → new ≡ objects → Before objects → After new
  skipped objects new snapshot same so_far = none_more objects new (λ object here. true≢false (sym snapshot ∙ here.0)) same so_far

  -- or is one of these
  pub passed : (objects new : List ℕ) → Contains destroyed write.volume → new ≡ objects → Before objects → After new
  passed objects new gone same so_far = none_more objects new (λ object here. here.1.0 gone) same so_far

-- each once, in order
pub sorted_once : (objects sorted once : List ℕ) (P : ℕ → Type 0) → IsPermutation objects sorted → once ≡ dedup nat_eq sorted → ((object : ℕ) → Contains objects object ↔ P object)
    → (object : ℕ) → Contains once object ↔ P object
sorted_once objects sorted once P moved is so_far object = (
  λ held. (so_far object).0
      (Contains-permutation sorted objects object (IsPermutation-sym objects sorted moved) (Contains-from_dedup nat_eq sorted object (subst (λ (xs : List ℕ). Contains xs object) is held))),
  λ there. subst (λ (xs : List ℕ). Contains xs object) (sym is) (Contains-dedup_nat sorted object (Contains-permutation objects sorted object moved ((so_far object).1 there))),
)
