-- A row more, and the volume that it leads to.
use Rattle.std.proofs.Common.{◌≡◌, ℕ, zero, suc, ◌+◌, ◌≤◌, Bool, true, false, true≢false, List, [], ◌∷◌, length, take, drop, Option, Some, None, Contains, inl, inr, refl, sym, ap, subst, ◌∙◌, arith}
use Rattle.std.specs.Prelude.{All, cond, not, insert, is_some}
use Rattle.std.specs.List.{AllZip, position_or_len}
use Rattle.std.proofs.lemmas.List.Elements.{All-head}
use Rattle.meta_objset.specs.declared.directory.DirectoryRow.{DirectoryRow}
use Rattle.meta_objset.specs.Directory.{IsPlacedAmong, LacksName}
use Rattle.meta_objset.specs.Names.{IsBefore, IsNamed}
use Rattle.pool_model.specs.declared.volume.PlainVolume.{PlainVolume}
use Rattle.pool_model.specs.Names.{is_before, same}
use Rattle.pool_model.specs.Pools.{PlainPool, placed, volume_at, with_volume}
use Rattle.pool_model.proofs.Places.{is_same}
use Rattle.dataset_groups.proofs.NamingOrder.{before_named, behind_named}
use Rattle.dataset_groups.proofs.ListParts.{first_or_later}
use Rattle.dataset_groups.proofs.Rows.{at, names_same, no_row}

zip_insert : {X Y : Type 0} (R : X → Y → Type 0) (xs : List X) (ys : List Y) (x : X) (y : Y) (place : ℕ) → AllZip R xs ys → R x y
    → AllZip R (insert xs place x) (insert ys place y)
zip_insert R xs ys x y zero all one = (one, all)
zip_insert R [] [] x y (suc place) all one = (one, tt)
zip_insert R (first ∷ xs) (other ∷ ys) x y (suc place) all one = (all.0, zip_insert R xs ys x y place all.1 one)
zip_insert R [] (other ∷ ys) x y (suc place) all one = absurd all
zip_insert R (first ∷ xs) [] x y (suc place) all one = absurd all

module _ (R : DirectoryRow → PlainVolume → Type 0) (name_of : (row : DirectoryRow) (volume : PlainVolume) → R row volume → IsNamed row.name volume.name) where
  abbrev Spelled : List DirectoryRow → List PlainVolume → Type 0
  Spelled rows volumes = AllZip R rows volumes

  -- a row has its place among the rows where its volume has one among the volumes
  module _ (row : DirectoryRow) (name : List ℕ) (named : IsNamed row.name name) where
    abbrev place_in : List PlainVolume → ℕ
    place_in volumes = position_or_len (λ (v : PlainVolume). is_before name v.name) volumes

    place_is : (place : ℕ) (rows : List DirectoryRow) (volumes : List PlainVolume) → place ≤ length rows → Spelled rows volumes
        → All (λ (other : DirectoryRow). IsBefore other.name row.name) (take place rows) → All (λ (other : DirectoryRow). IsBefore row.name other.name) (drop place rows)
        → place_in volumes ≡ place
    place_is zero [] [] within spells front behind = refl
    place_is zero (first ∷ rows) (volume ∷ volumes) within spells front behind =
        ap (λ b. cond (not b) (1 + place_in volumes) 0)
        (before_named row.name name first.name volume.name named (name_of first volume spells.0) (All-head (λ (other : DirectoryRow). IsBefore row.name other.name) first rows behind))
    place_is (suc place) (first ∷ rows) (volume ∷ volumes) within spells front behind =
        let rest : place_in volumes ≡ place = place_is place rows volumes (omega (arith, within)) spells.1 (λ k d low. front (suc k) d (omega (arith, low))) behind in
        ap (λ b. cond (not b) (1 + place_in volumes) 0)
        (behind_named row.name name first.name volume.name named (name_of first volume spells.0) (All-head (λ (other : DirectoryRow). IsBefore other.name row.name) first (take place rows) front))
        ∙ omega (arith, rest)
    place_is (suc place) [] [] within spells front behind = absurd (omega (arith, within))
    place_is place [] (volume ∷ volumes) within spells front behind = absurd spells
    place_is place (first ∷ rows) [] within spells front behind = absurd spells

    -- no volume has the name where no row has it
    unnamed : (rows : List DirectoryRow) (volumes : List PlainVolume) → Spelled rows volumes → LacksName rows row.name → at name volumes ≡ None
    unnamed rows volumes spells lacks =
        no_row R name_of row.name name named rows volumes spells lacks

    one_at : (b : Bool) (first : DirectoryRow) (rows : List DirectoryRow) (volume : PlainVolume) (volumes : List PlainVolume) → same volume.name name ≡ b
        → IsNamed first.name volume.name → (Contains rows row → is_some (at name volumes) ≡ true) → Contains (first ∷ rows) row → is_some (at name (volume ∷ volumes)) ≡ true
    one_at true first rows volume volumes e called later held = ap (λ t. is_some (cond t (Some volume) (at name volumes))) e
    one_at false first rows volume volumes e called later held =
        elim (first_or_later first row rows held) [
          | inl one ↦
              let also : IsNamed first.name name = subst (λ (r : DirectoryRow). IsNamed r.name name) (sym one) named in
              absurd (true≢false (sym (is_same volume.name name (names_same first.name volume.name name called also)) ∙ e))
          | inr behind ↦ ap (λ t. is_some (cond t (Some volume) (at name volumes))) e ∙ later behind
        ]

    -- and one has it where a row has it
    called : (rows : List DirectoryRow) (volumes : List PlainVolume) → Spelled rows volumes → Contains rows row → is_some (at name volumes) ≡ true
    called [] [] spells (k, low, is) = absurd (omega (arith, low))
    called (first ∷ rows) (volume ∷ volumes) spells held =
        one_at (same volume.name name) first rows volume volumes refl (name_of first volume spells.0) (called rows volumes spells.1) held
    called [] (volume ∷ volumes) spells held = absurd spells
    called (first ∷ rows) [] spells held = absurd spells

  -- the volumes with one more
  pub volumes_with : (rows new : List DirectoryRow) (row : DirectoryRow) (pool : PlainPool) (volume : PlainVolume) → IsPlacedAmong rows row new → LacksName rows row.name
      → Spelled rows pool.volumes → R row volume → Spelled new (with_volume volume pool).volumes
  volumes_with rows new row pool volume among lacks spells more =
      let named = name_of row volume more in
      let free : volume_at volume.name pool ≡ None = unnamed row volume.name named rows pool.volumes spells lacks in
      let there = place_is row volume.name named among.at rows pool.volumes among.within spells among.front among.behind in
      subst (λ (o : Option PlainVolume). Spelled new (cond (is_some o) pool (record pool { volumes = placed volume pool.volumes })).volumes) (sym free)
      (subst (λ (all : List DirectoryRow). Spelled all (placed volume pool.volumes)) (sym among.placed)
      (subst (λ k. Spelled (insert rows among.at row) (insert pool.volumes k volume)) (sym there)
      (zip_insert R rows pool.volumes row volume among.at spells more)))

  -- a volume whose name is there is passed over
  pub volumes_same : (rows : List DirectoryRow) (row : DirectoryRow) (pool : PlainPool) (volume : PlainVolume) → Contains rows row → IsNamed row.name volume.name
      → Spelled rows pool.volumes → with_volume volume pool ≡ pool
  volumes_same rows row pool volume held named spells =
      ap (λ b. cond b pool (record pool { volumes = placed volume pool.volumes })) (called row volume.name named rows pool.volumes spells held)
