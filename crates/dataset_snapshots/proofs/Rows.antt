-- Rows of the directory, and the volumes that they lead to.
use Rattle.std.proofs.Common.{◌≡◌, ◌⊎◌, ℕ, zero, suc, ◌-◌, List, [], ◌∷◌, ◌++◌, length, take, Bool, true, false, true≢false, Option, Some, None, AllPairs, Contains, inl, inr, refl, sym, ap, subst, ◌∙◌, arith}
use Rattle.std.specs.Prelude.{cond, find, replicate}
use Rattle.std.specs.List.{AllZip}
use Rattle.std.proofs.lemmas.List.{take_at}
use Rattle.std.proofs.lemmas.List.Elements.{All-contains, All-head, All-tail, Contains-append_cases}
use Rattle.block_store.specs.Blocks.{Contents}
use Rattle.meta_objset.specs.declared.directory.DirectoryRow.{DirectoryRow}
use Rattle.meta_objset.specs.Names.{IsBefore, IsNamed}
use Rattle.meta_objset.proofs.Edits.{apart, pairs_head, pairs_tail}
use Rattle.meta_objset.proofs.Naming.{first_zero_is, no_zero_before, zero_behind}
use Rattle.objset.specs.Objects.{Object}
use Rattle.pool_model.specs.declared.volume.PlainVolume.{PlainVolume}
use Rattle.pool_model.specs.Names.{same}
use Rattle.pool_model.proofs.Places.{is_same, same_is}
use Rattle.dataset_snapshots.specs.Finding.{HasNoRow}
use Rattle.dataset_snapshots.specs.Pools.{SpellsDataset}

front : (padded name : List ℕ) → IsNamed padded name → take (length name) padded ≡ name
front padded name is =
    let none : ℕ = 0 in
    ap (take (length name)) is.padded_is ∙ take_at name (replicate (56 - length name) none) (length name) refl

-- a padded name has one name in it
pub names_same : (padded name other : List ℕ) → IsNamed padded name → IsNamed padded other → name ≡ other
names_same padded name other is also =
    let len : length name ≡ length other =
    first_zero_is padded other (length name) also (zero_behind padded name is) (λ k lt. no_zero_before padded name k is lt) in
    sym (front padded name is) ∙ ap (λ n. take n padded) len ∙ front padded other also

-- and a name is padded in one way
pub padded_same : (padded other name again : List ℕ) → IsNamed padded name → IsNamed other again → name ≡ again → padded ≡ other
padded_same padded other name again is also same_name =
    let none : ℕ = 0 in
    is.padded_is ∙ ap (λ (n : List ℕ). n ++ replicate (56 - length n) none) same_name ∙ sym also.padded_is

abbrev Before : DirectoryRow → DirectoryRow → Type 0
Before row later = IsBefore row.name later.name

is_one : {X : Type 0} (x other : X) → Contains (x ∷ []) other → x ≡ other
is_one x other (zero, low, is) = is
is_one x other (suc k, low, is) = absurd (omega (arith, low))

pub first_or_later : (row other : DirectoryRow) (rows : List DirectoryRow) → Contains (row ∷ rows) other → (row ≡ other) ⊎ Contains rows other
first_or_later row other rows held = elim (Contains-append_cases (row ∷ []) rows other held) [
  | inl one ↦ inl (is_one row other one)
  | inr later ↦ inr later
]

-- the volume of that name among these
abbrev pub at : List ℕ → List PlainVolume → Option PlainVolume
at name volumes = find (λ v. same v.name name) volumes

module _ (stored : Contents) (birth : ℕ) (objects : ℕ → Option Object) (name : List ℕ) where
  abbrev Spelled : List DirectoryRow → List PlainVolume → Type 0
  Spelled rows volumes = AllZip (SpellsDataset stored birth objects) rows volumes

  abbrev Leads : DirectoryRow → List PlainVolume → Type 0
  Leads row volumes = (volume : PlainVolume) × (at name volumes ≡ Some volume) × SpellsDataset stored birth objects row volume

  -- the row that names the first volume is the first
  by_name : (b : Bool) (first row : DirectoryRow) (rows : List DirectoryRow) (volume : PlainVolume) (volumes : List PlainVolume) → same volume.name name ≡ b → AllPairs Before (first ∷ rows)
      → SpellsDataset stored birth objects first volume → (Contains rows row → Leads row volumes) → Contains (first ∷ rows) row → IsNamed row.name name → Leads row (volume ∷ volumes)
  by_name true first row rows volume volumes e order spells later held named =
      let is : volume.name ≡ name = same_is volume.name name e in
      let padded : first.name ≡ row.name = padded_same first.name row.name volume.name name spells.name named is in
      elim (first_or_later first row rows held) [
        | inl one ↦ (volume, ap (λ t. cond t (Some volume) (at name volumes)) e, subst (λ r. SpellsDataset stored birth objects r volume) one spells)
        | inr behind ↦ absurd (apart first.name row.name (All-contains (Before first) rows row (pairs_head Before first rows order) behind) padded)
      ]
  by_name false first row rows volume volumes e order spells later held named =
      elim (first_or_later first row rows held) [
        | inl one ↦
            let also : IsNamed first.name name = subst (λ (r : DirectoryRow). IsNamed r.name name) (sym one) named in
            absurd (true≢false (sym (is_same volume.name name (names_same first.name volume.name name spells.name also)) ∙ e))
        | inr behind ↦ let leads = later behind in (leads.0, ap (λ t. cond t (Some volume) (at name volumes)) e ∙ leads.1, leads.2)
      ]

  pub row_leads : (rows : List DirectoryRow) (volumes : List PlainVolume) (row : DirectoryRow) → AllPairs Before rows → Spelled rows volumes → Contains rows row → IsNamed row.name name → Leads row volumes
  row_leads [] [] row order spells (k, low, is) named = absurd (omega (arith, low))
  row_leads (first ∷ rows) (volume ∷ volumes) row order spells held named =
      by_name (same volume.name name) first row rows volume volumes refl order spells.0
      (λ behind. row_leads rows volumes row (pairs_tail Before first rows order) spells.1 behind named) held named
  row_leads [] (volume ∷ volumes) row order spells held named = absurd spells
  row_leads (first ∷ rows) [] row order spells held named = absurd spells

  not_first : (b : Bool) (first : DirectoryRow) (rows : List DirectoryRow) (volume : PlainVolume) (volumes : List PlainVolume) → same volume.name name ≡ b
      → SpellsDataset stored birth objects first volume → HasNoRow (first ∷ rows) name → at name volumes ≡ None → at name (volume ∷ volumes) ≡ None
  not_first true first rows volume volumes e spells none later =
      let named : IsNamed first.name name = subst (IsNamed first.name) (same_is volume.name name e) spells.name in
      absurd (All-head (λ (row : DirectoryRow). ¬ (row.name ≡ first.name)) first rows (none first.name named) refl)
  not_first false first rows volume volumes e spells none later = ap (λ t. cond t (Some volume) (at name volumes)) e ∙ later

  pub no_row : (rows : List DirectoryRow) (volumes : List PlainVolume) → Spelled rows volumes → HasNoRow rows name → at name volumes ≡ None
  no_row [] [] spells none = refl
  no_row (first ∷ rows) (volume ∷ volumes) spells none =
      not_first (same volume.name name) first rows volume volumes refl spells.0 none
      (no_row rows volumes spells.1 (λ padded named. All-tail (λ (row : DirectoryRow). ¬ (row.name ≡ padded)) first rows (none padded named)))
  no_row [] (volume ∷ volumes) spells none = absurd spells
  no_row (first ∷ rows) [] spells none = absurd spells
