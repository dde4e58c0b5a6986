-- The row of a name in a pool's table.
use Rattle.std.proofs.Common.{◌≡◌, ◌≤◌, ◌<◌, ℕ, zero, suc, ◌+◌, List, [], ◌∷◌, map, length, drop, get_or, string_bytes, Bool, true, false, Some, cond, refl, sym, ap, ◌∙◌, subst, arith}
use Rattle.pool_command.specs.declared.listing.VolumeRow.{VolumeRow}
use Rattle.pool_model.specs.declared.volume.PlainVolume.{PlainVolume}
use Rattle.pool_model.specs.Names.{same}
use Rattle.pool_model.specs.Pools.{PlainPool, volume_at}
use Rattle.commands.specs.Rows.{AreRowsOf, HasNone, HasOfSize, Listed, listed, listed_of}

abbrev of_volumes : List PlainVolume → PlainPool
of_volumes volumes = record { volumes = volumes }

-- none of the first rows has the name
abbrev pub NoneBefore : List VolumeRow → List ℕ → ℕ → Type 0
NoneBefore rows name i = (pool : PlainPool) → AreRowsOf pool rows → volume_at name pool ≡ volume_at name (of_volumes (drop i pool.volumes))

pub none_before : (rows : List VolumeRow) (name : List ℕ) → NoneBefore rows name 0
none_before rows name = λ pool are. refl

abbrev head_or : Listed → List Listed → Listed
head_or x [] = x
head_or x (y ∷ ys) = y

abbrev tail : List Listed → List Listed
tail [] = []
tail (y ∷ ys) = ys

-- the volume of a row
record IsAt (row : VolumeRow) (i : ℕ) (volumes : List PlainVolume) : Type 0 where
  volume : PlainVolume
  rest : List PlainVolume
  here : drop i volumes ≡ volume ∷ rest
  next : drop (suc i) volumes ≡ rest
  row_is : listed row ≡ listed_of volume

is_at : (rows : List VolumeRow) (volumes : List PlainVolume) (i : ℕ) (row : VolumeRow) → map listed rows ≡ map listed_of volumes → i < length rows → row ≡ get_or rows i row → IsAt row i volumes
is_at [] volumes i row e h is = absurd (omega (arith, h))
is_at (r ∷ rows) [] i row e h is = absurd cc
is_at (r ∷ rows) (v ∷ volumes) zero row e h is = record { volume = v; rest = volumes; here = refl; next = refl; row_is = ap listed is ∙ ap (head_or (listed r)) e }
is_at (r ∷ rows) (v ∷ volumes) (suc i) row e h is =
    let more = is_at rows volumes i row (ap tail e) (omega (arith, h)) is in
    record { volume = more.volume; rest = more.rest; here = more.here; next = more.next; row_is = more.row_is }

-- what is found at its place
found_first : (name : List ℕ) (v : PlainVolume) (rest : List PlainVolume) (b : Bool) → same v.name name ≡ b → volume_at name (of_volumes (v ∷ rest)) ≡ cond b (Some v) (volume_at name (of_volumes rest))
found_first name v rest b e = ap (λ x. cond x (Some v) (volume_at name (of_volumes rest))) e

module _ (rows : List VolumeRow) (name : List ℕ) (i : ℕ) (row : VolumeRow) (before : NoneBefore rows name i) (within : i < length rows) (is : row ≡ get_or rows i row) where
  at_row : (b : Bool) → same (string_bytes row.name) name ≡ b → (pool : PlainPool) (are : AreRowsOf pool rows) → let at = is_at rows pool.volumes i row are within is in
      volume_at name pool ≡ cond b (Some at.volume) (volume_at name (of_volumes (drop (suc i) pool.volumes)))
  at_row b e = λ pool are.
      let at = is_at rows pool.volumes i row are within is in
      let named : same at.volume.name name ≡ b = ap (λ (x : Listed). same x.name name) (sym at.row_is) ∙ e in
      before pool are ∙ (ap (λ l. volume_at name (of_volumes l)) at.here ∙ (found_first name at.volume at.rest b named ∙ ap (λ l. cond b (Some at.volume) (volume_at name (of_volumes l))) (sym at.next)))

  pub row_found : same (string_bytes row.name) name ≡ true → (pool : PlainPool) → AreRowsOf pool rows → HasOfSize name row.size pool
  row_found e = λ pool are.
      let at = is_at rows pool.volumes i row are within is in
      (at.volume, at_row true e pool are, ap (λ (x : Listed). x.size) at.row_is)

  pub row_passed : same (string_bytes row.name) name ≡ false → NoneBefore rows name (i + 1)
  row_passed e = let next : suc i ≡ i + 1 = omega arith in subst (NoneBefore rows name) next (λ pool are. at_row false e pool are)

abbrev nothing : List PlainVolume
nothing = []

none_left : (rows : List VolumeRow) (volumes : List PlainVolume) (i : ℕ) → map listed rows ≡ map listed_of volumes → length rows ≤ i → drop i volumes ≡ []
none_left [] [] i e h = none i
  where
    none : (n : ℕ) → drop n nothing ≡ []
    none zero = refl
    none (suc n) = refl
none_left [] (v ∷ volumes) i e h = absurd cc
none_left (r ∷ rows) [] i e h = absurd cc
none_left (r ∷ rows) (v ∷ volumes) zero e h = absurd (omega (arith, h))
none_left (r ∷ rows) (v ∷ volumes) (suc i) e h = none_left rows volumes i (ap tail e) (omega (arith, h))

pub no_row : (rows : List VolumeRow) (name : List ℕ) (i : ℕ) → NoneBefore rows name i → length rows ≤ i → (pool : PlainPool) → AreRowsOf pool rows → HasNone name pool
no_row rows name i before h = λ pool are. before pool are ∙ ap (λ l. volume_at name (of_volumes l)) (none_left rows pool.volumes i are h)
