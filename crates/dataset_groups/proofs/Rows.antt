-- Rows of the directory, and the volumes that they lead to.
use Rattle.std.proofs.Common.{◌≡◌, ℕ, ◌-◌, List, [], ◌∷◌, ◌++◌, length, take, Bool, true, false, Option, Some, None, refl, sym, ap, ◌∙◌}
use Rattle.std.specs.Prelude.{cond, find, replicate}
use Rattle.std.specs.List.{AllZip}
use Rattle.std.proofs.lemmas.List.{take_at}
use Rattle.std.proofs.lemmas.List.Elements.{All-head, All-tail}
use Rattle.meta_objset.specs.declared.directory.DirectoryRow.{DirectoryRow}
use Rattle.meta_objset.specs.Names.{IsNamed}
use Rattle.meta_objset.specs.Directory.{LacksName}
use Rattle.meta_objset.proofs.Naming.{first_zero_is, no_zero_before, zero_behind}
use Rattle.pool_model.specs.declared.volume.PlainVolume.{PlainVolume}
use Rattle.pool_model.specs.Names.{same}
use Rattle.pool_model.proofs.Places.{same_is}

front : (padded name : List ℕ) → IsNamed padded name → take (length name) padded ≡ name
front padded name is =
    let none : ℕ = 0 in
    ap (take (length name)) is.padded_is ∙ take_at name (replicate (56 - length name) none) (length name) refl

-- a padded name has one name in it
pub names_same : (padded name other : List ℕ) → IsNamed padded name → IsNamed padded other → name ≡ other
names_same padded name other is also =
    let len : length name ≡ length other =
    first_zero_is padded other (length name) also (zero_behind padded name is) (λ k lt. no_zero_before padded name k is lt) in
    sym (front padded name is) ∙ ap (λ n. take n padded) len ∙ front padded other also

-- and a name is padded in one way
pub padded_same : (padded other name again : List ℕ) → IsNamed padded name → IsNamed other again → name ≡ again → padded ≡ other
padded_same padded other name again is also same_name =
    let none : ℕ = 0 in
    is.padded_is ∙ ap (λ (n : List ℕ). n ++ replicate (56 - length n) none) same_name ∙ sym also.padded_is

-- the volume of that name among these
abbrev pub at : List ℕ → List PlainVolume → Option PlainVolume
at name volumes = find (λ v. same v.name name) volumes

-- rows that name volumes
module _ (R : DirectoryRow → PlainVolume → Type 0) (name_of : (row : DirectoryRow) (volume : PlainVolume) → R row volume → IsNamed row.name volume.name) (padded name : List ℕ) (named : IsNamed padded name) where
  not_first : (b : Bool) (first : DirectoryRow) (rows : List DirectoryRow) (volume : PlainVolume) (volumes : List PlainVolume) → same volume.name name ≡ b
      → R first volume → LacksName (first ∷ rows) padded → at name volumes ≡ None → at name (volume ∷ volumes) ≡ None
  not_first true first rows volume volumes e is none later =
      absurd (All-head (λ (row : DirectoryRow). ¬ (row.name ≡ padded)) first rows none
      (padded_same first.name padded volume.name name (name_of first volume is) named (same_is volume.name name e)))
  not_first false first rows volume volumes e is none later = ap (λ t. cond t (Some volume) (at name volumes)) e ∙ later

  pub no_row : (rows : List DirectoryRow) (volumes : List PlainVolume) → AllZip R rows volumes → LacksName rows padded → at name volumes ≡ None
  no_row [] [] all none = refl
  no_row (first ∷ rows) (volume ∷ volumes) all none =
      not_first (same volume.name name) first rows volume volumes refl all.0 none
      (no_row rows volumes all.1 (All-tail (λ (row : DirectoryRow). ¬ (row.name ≡ padded)) first rows none))
  no_row [] (volume ∷ volumes) all none = absurd all
  no_row (first ∷ rows) [] all none = absurd all
