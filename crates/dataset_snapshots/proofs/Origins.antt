-- Where the same rows name two pools of one chain, a volume of the one has the origin of that of its name in the other.
use Rattle.std.proofs.Common.{◌≡◌, ℕ, List, [], ◌∷◌, Option, Some, None, AllPairs, Contains, inl, inr, refl, sym, ap, subst, ◌∙◌}
use Rattle.std.specs.List.{AllZip}
use Rattle.std.proofs.lemmas.List.Elements.{All-contains}
use Rattle.dataset_groups.specs.Chains.{Reading}
use Rattle.dataset_groups.proofs.ListParts.{first_or_later, is_first, is_later, nothing_in}
use Rattle.dataset_groups.specs.Names.{BranchesOff, IsCalled, NamesPool, NamesVolume}
use Rattle.dead_list.specs.Datasets.{Pool}
use Rattle.meta_objset.proofs.Edits.{apart, pairs_head, pairs_tail}
use Rattle.meta_objset.specs.declared.directory.DirectoryRow.{DirectoryRow}
use Rattle.meta_objset.specs.Names.{IsBefore, IsNamed}
use Rattle.pool_model.specs.declared.volume.PlainVolume.{PlainVolume}
use Rattle.pool_model.specs.Pools.{PlainPool}
use Rattle.dataset_snapshots.proofs.Rows.{padded_same}

abbrev Before : DirectoryRow → DirectoryRow → Type 0
Before row later = IsBefore row.name later.name

-- ---- one volume of a name

module _ (pool : Pool) (readings : ℕ → Reading) where
  -- a row names the volume
  row_of : (rows : List DirectoryRow) (volumes : List PlainVolume) (volume : PlainVolume) → AllZip (NamesVolume pool readings) rows volumes → Contains volumes volume
      → (row : DirectoryRow) × Contains rows row × IsNamed row.name volume.name
  row_of [] [] volume named held = absurd (nothing_in volume held)
  row_of [] (first ∷ volumes) volume named held = absurd named
  row_of (row ∷ rows) [] volume named held = absurd named
  row_of (row ∷ rows) (first ∷ volumes) volume named held = elim (first_or_later first volume volumes held) [
    | inl is ↦ (row, is_first row rows, subst (λ (v : PlainVolume). IsNamed row.name v.name) is named.0.name)
    | inr later ↦ let it = row_of rows volumes volume named.1 later in (it.0, is_later row it.0 rows it.1, it.2)
  ]

  -- no later one has the first one's name
  not_later : (row : DirectoryRow) (rows : List DirectoryRow) (first : PlainVolume) (volumes : List PlainVolume) (volume : PlainVolume) → AllPairs Before (row ∷ rows)
      → AllZip (NamesVolume pool readings) (row ∷ rows) (first ∷ volumes) → Contains volumes volume → first.name ≡ volume.name → ⊥
  not_later row rows first volumes volume order named later same =
      let it = row_of rows volumes volume named.1 later in
      apart row.name it.0.name (All-contains (Before row) rows it.0 (pairs_head Before row rows order) it.1) (padded_same row.name it.0.name first.name volume.name named.0.name it.2 same)

  -- so each name is that of one volume
  pub one_of_name : (rows : List DirectoryRow) (volumes : List PlainVolume) (volume other : PlainVolume) → AllPairs Before rows → AllZip (NamesVolume pool readings) rows volumes
      → Contains volumes volume → Contains volumes other → volume.name ≡ other.name → volume ≡ other
  one_of_name [] [] volume other order named held there same = absurd (nothing_in volume held)
  one_of_name [] (first ∷ volumes) volume other order named held there same = absurd named
  one_of_name (row ∷ rows) [] volume other order named held there same = absurd named
  one_of_name (row ∷ rows) (first ∷ volumes) volume other order named held there same = elim (first_or_later first volume volumes held) [
    | inl is ↦ elim (first_or_later first other volumes there) [
      | inl also ↦ sym is ∙ also
      | inr later ↦ absurd (not_later row rows first volumes other order named later (ap (λ (v : PlainVolume). v.name) is ∙ same))
    ]
    | inr behind ↦ elim (first_or_later first other volumes there) [
      | inl also ↦ absurd (not_later row rows first volumes volume order named behind (ap (λ (v : PlainVolume). v.name) also ∙ sym same))
      | inr later ↦ one_of_name rows volumes volume other (pairs_tail Before row rows order) named.1 behind later same
    ]
  ]

-- ---- two pools of one chain

-- what branches off in the one does in the other, and there is the same before each
pub record BranchAlike (pool other : Pool) : Type 0 where
  pub before : (m : ℕ) → (pool.datasets m).before ≡ (other.datasets m).before
  pub branches : (m : ℕ) → BranchesOff pool m → BranchesOff other m

module _ (pool other : Pool) (readings more : ℕ → Reading) (rows : List DirectoryRow) (plain also : PlainPool) (order : AllPairs Before rows) (names : NamesPool pool readings rows plain)
    (others : NamesPool other more rows also) where
  -- what is a clone in the one is a clone of the same snapshot in the other
  clone_too : BranchAlike pool other → (volume it : PlainVolume) (origin : List ℕ) → Contains plain.volumes volume → Contains also.volumes it → volume.name ≡ it.name → volume.origin ≡ Some origin
      → it.origin ≡ Some origin
  clone_too alike volume it origin held there same is =
      let from = names.chains.clones volume origin held is in
      let clone = others.chains.branches from.0 from.1 origin (alike.branches from.0 from.2) from.3
      (subst (λ (n : ℕ). IsCalled rows n origin) (alike.before from.0) from.5) in
      let one : clone.0 ≡ it = one_of_name other more rows also.volumes clone.0 it order others.volumes clone.1 there (clone.2 ∙ from.4 ∙ same) in
      sym (ap (λ (v : PlainVolume). v.origin) one) ∙ clone.3

-- so volumes of one name have one origin
pub origin_once : (pool other : Pool) (readings more : ℕ → Reading) (rows : List DirectoryRow) (plain also : PlainPool) → AllPairs Before rows → NamesPool pool readings rows plain
    → NamesPool other more rows also → BranchAlike pool other → BranchAlike other pool → (volume it : PlainVolume) → Contains plain.volumes volume → Contains also.volumes it → volume.name ≡ it.name
    → volume.origin ≡ it.origin
origin_once pool other readings more rows plain also order names others alike back volume it held there same = by_origins volume.origin it.origin refl refl
  where
    by_origins : (one two : Option (List ℕ)) → volume.origin ≡ one → it.origin ≡ two → volume.origin ≡ it.origin
    by_origins None None is too = is ∙ sym too
    by_origins (Some origin) two is too = is ∙ sym (clone_too pool other readings more rows plain also order names others alike volume it origin held there same is)
    by_origins None (Some origin) is too = clone_too other pool more readings rows also plain order others names back it volume origin there held (sym same) too ∙ sym too
